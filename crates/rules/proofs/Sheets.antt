-- Every row holds of the definitions: antt computes them.
-- Assumes nothing.
use lib.Dec.{T}
use Rattle.rules.specs.Words.{every, unless}
use Rattle.rules.specs.Text.{digits_by, digits, signed, line, end_line, recharge_line, head_lines, count_lines, closed_lines, refusal_text}
use Rattle.rules.specs.Sheets.{rows, holds}

pub rows_hold : T (every holds rows)
unfolding unless digits_by digits signed line end_line recharge_line head_lines count_lines closed_lines refusal_text rows holds
rows_hold = tt
