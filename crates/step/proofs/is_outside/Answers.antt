-- `step::is_outside` meets its contract: the verdict is inside, whose number is 0, exactly where the speed is.
use mathlib.Core.Bool.{not}
use mathlib.Core.Path.{◌≡◌, refl, ap, ◌∙◌}
use Prim.Native.Nat.{ℕ}
use denote.Enum.Bare.{sameb}
use lib.Dec.{eqb}
use Rattle.laws.proofs.Band.{side_zero}
use Rattle.window.specs.contracts.Side.{the_type}
use Rattle.window.specs.declared.Side.{Side}
use Rattle.window.specs.declared.Side.TheVariants.{Inside, Below, Above}
use Rattle.window.specs.Sides.{number_of}
use Rattle.step.proofs.is_outside.Goals as goal

same_inside : (x : Side) → sameb the_type x Inside ≡ eqb (number_of x) 0
same_inside Inside = refl
same_inside Below = refl
same_inside Above = refl

pub returns : goal.returns
returns c =
    c.ne.ensures
    ∙ ap not (same_inside c.verdict_in.result ∙ ap (λ (k : ℕ). eqb k 0) c.verdict_in.ensures ∙ side_zero _ _ _ _)
