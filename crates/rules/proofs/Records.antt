-- Every row holds of the definitions: antt computes them.
-- Assumes nothing.
use mathlib.Core.Bool.{◌&&◌}
use lib.Dec.{T}
use Rattle.rules.specs.Words.{be, table, all_below, every, unless}
use Rattle.rules.specs.Bench.{is_sample, tolerable, are_stretches}
use Rattle.rules.specs.Cycle.{valid}
use Rattle.rules.specs.Table.{are_whole, begins, is_tag, length_allowed, by_row}
use Rattle.rules.specs.Front.{front_of}
use Rattle.rules.specs.Machine.{reply_at, upto}
use Rattle.rules.specs.Values.{is_character, is_number, same_number, sample_at, are_samples}
use Rattle.rules.specs.Record.{block_content, field_content, sheet_of}
use Rattle.rules.specs.Records.{records, holds, full_holds}

pub records_hold : T (every holds records && full_holds)
unfolding be table all_below unless is_sample tolerable are_stretches valid are_whole begins is_tag length_allowed by_row front_of reply_at upto is_character is_number same_number sample_at are_samples block_content field_content sheet_of records holds full_holds
records_hold = tt
