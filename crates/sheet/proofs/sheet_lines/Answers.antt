-- `sheet::sheet_lines` meets its contract: the three parts of the sheet, one after the other.
use native.Mathlib.Omega.{arith}
use Rattle.sheet.proofs.Overlaid.{wrote_then, kept_whole, too_short}
use Rattle.rules.specs.Text.{sheet_text}
use Rattle.sheet.proofs.sheet_lines.Goals as goal

pub returns-then-out-lt-MOST_SHEET : goal.returns-then-out-lt-MOST_SHEET
returns-then-out-lt-MOST_SHEET c =
    let (value, out_after) = too_short c.args.out.now (sheet_text c.args.f) c.if-out-lt-MOST_SHEET.true in
    record { value = value; out_after = out_after }

pub returns : goal.returns
returns c =
    let (value, out_after) =
    kept_whole c.args.out.now (sheet_text c.args.f)
    (wrote_then (wrote_then c.head_lines-head.ensures c.count_lines-body.ensures (omega arith)) c.closing_lines.ensures (omega arith))
    c.if-out-lt-MOST_SHEET.false in
    record { value = value; out_after = out_after }
