-- Every row holds of the definitions: antt computes them.
-- Assumes nothing.
use lib.Dec.{T}
use Rattle.rules.specs.Words.{every, fold, gather, first, table, all_below, unless, be}
use Rattle.rules.specs.Bench.{is_sample, tolerable, are_stretches}
use Rattle.rules.specs.Cycle.{valid, phase_at}
use Rattle.rules.specs.Band.{grid20, side, inside, verdict}
use Rattle.rules.specs.Tally.{over}
use Rattle.rules.specs.Parts.{cycles}
use Rattle.rules.specs.Shortened.{stops_in_e}
use Rattle.rules.specs.Closing.{weighing, closing_refusal, recharge_refusal}
use Rattle.rules.specs.Table.{are_whole, begins, is_tag, length_allowed, by_row}
use Rattle.rules.specs.Front.{front_of}
use Rattle.rules.specs.Machine.{reply_at, upto}
use Rattle.rules.specs.Values.{is_character, is_number, same_number, sample_at, are_samples}
use Rattle.rules.specs.Record.{block_content, field_content, sheet_of}
use Rattle.rules.specs.Text.{digits_by, digits, signed, line, end_line, head_lines, count_lines, recharge_line, closed_lines, refusal_text}
use Rattle.rules.specs.Listing.{cycle_line, tolerances_line, stretches_line, block_line, transfer_line, field_text, list_of, sample_text, bad_sample, refused_text, fields_text}
use Rattle.rules.specs.Trace.{fields_line, stop_text, plan_lines, offered_lines, gathered_text, phase_line, rate_text, row_line, stretch_line, cycle_lines, part_lines, amounts_line, sum_text, weight_text, figure_lines, traced}
use Rattle.rules.specs.Desks.{rows, holds}

pub rows_hold : T (every holds rows)
unfolding fold gather first table all_below unless be is_sample tolerable are_stretches valid phase_at grid20 side inside verdict over cycles stops_in_e weighing closing_refusal recharge_refusal are_whole begins is_tag length_allowed by_row front_of reply_at upto is_character is_number same_number sample_at are_samples block_content field_content sheet_of digits_by digits signed line end_line head_lines count_lines recharge_line closed_lines refusal_text cycle_line tolerances_line stretches_line block_line transfer_line field_text list_of sample_text bad_sample refused_text fields_text fields_line stop_text plan_lines offered_lines gathered_text phase_line rate_text row_line stretch_line cycle_lines part_lines amounts_line sum_text weight_text figure_lines traced rows holds
rows_hold = tt
