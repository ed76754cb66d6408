-- `played::say::signed` is safe: a number that is not negative is its own size.
use mathlib.Core.Path.{◌∙◌}
use native.Mathlib.Omega.{arith}
use mir.Syntax.{w64}
use Rattle.numbers.proofs.Signed.{read}
use Rattle.sheet.proofs.Signs.{sign_read, natural}
use Rattle.played.proofs.say.signed.Goals as goal

pub overflow_cast-n : goal.overflow_cast-n
overflow_cast-n c =
    let s = c in
    let n = natural w64 s.args.n s.ranges.n (sign_read s.ranges.n ∙ c.if-n-lt0.false) in
    rw (read s.ranges.n) (n.0, record { fits = omega (arith, n.1) })
