-- `sheet::refusal_line` meets its contract: two words with a number each.
use native.Mathlib.Omega.{arith}
use Rattle.rules.specs.Text.{refusal_text}
use Rattle.sheet.proofs.Overlaid.{wrote_then, kept_whole, too_short}
use Rattle.sheet.proofs.refusal_line.Goals as goal

pub returns-then-out-lt-MOST_SHEET : goal.returns-then-out-lt-MOST_SHEET
returns-then-out-lt-MOST_SHEET c =
    let (value, out_after) = too_short c.args.out.now (refusal_text c.args.number c.args.field) c.if-out-lt-MOST_SHEET.true in
    record { value = value; out_after = out_after }

pub returns : goal.returns
unfolding refusal_text
returns c =
    let (value, out_after) =
    kept_whole c.args.out.now (refusal_text c.args.number c.args.field)
    (wrote_then (wrote_then c.put_text-word.ensures c.put_number-next.ensures (omega arith)) c.number_line.ensures (omega arith))
    c.if-out-lt-MOST_SHEET.false in
    record { value = value; out_after = out_after }
