-- `sheet::text::put_signed` meets its contract: the sign of a negative number, and the digits of its size.
use mathlib.Core.List.{List, [], ◌∷◌, ◌++◌}
use mathlib.Core.Path.{ap, ◌∙◌}
use Prim.Native.Nat.{ℕ}
use native.Mathlib.Omega.{arith}
use lib.IntN.{nat_abs}
use Rattle.numbers.proofs.Signed.{read}
use Rattle.sheet.proofs.Digits.{signed_negative, signed_natural}
use Rattle.sheet.proofs.Signs.{sign_read}
use Rattle.sheet.proofs.Overlaid.{one_byte, wrote_then, wrote_most, wrote_is}
use Rattle.sheet.proofs.text.put_signed.Goals as goal

pub returns : goal.returns
returns c =
    let e = signed_natural c.args.z _ (c.unsigned_abs-n.ensures.value ∙ ap nat_abs (read c.ranges.z)) (sign_read c.ranges.z ∙ c.if-z-lt0.false) in
    wrote_most (wrote_is c.put_number-2.ensures (ap (λ (d : List ℕ). d ++ c.args.last ∷ []) e)) (omega arith)

pub returns-then-z-lt0 : goal.returns-then-z-lt0
returns-then-z-lt0 c =
    let e = signed_negative c.args.z _ (c.unsigned_abs-n.ensures.value ∙ ap nat_abs (read c.ranges.z)) (sign_read c.ranges.z ∙ c.if-z-lt0.true) in
    wrote_is
    (wrote_then (one_byte c.args.out.now c.args.at _ (omega arith)) c.put_number.ensures (omega arith))
    (ap (λ (d : List ℕ). d ++ c.args.last ∷ []) e)
