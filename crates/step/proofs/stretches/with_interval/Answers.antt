-- `step::stretches::with_interval` meets its contract. No sum wraps, since what a stretch has is bounded, and so is an interval.
use mathlib.Core.Path.{◌≡◌, sym, ap₂, subst, ◌∙◌}
use Prim.Native.Nat.{◌+◌}
use native.Mathlib.Omega.{arith}
use lib.IntN.{ℤ, ◌+ℤ◌}
use mir.Syntax.{w64}
use mir.Val.{SFits, to_z, of_z}
use Rattle.numbers.specs.Whole.{Sized}
use Rattle.numbers.proofs.Whole.{sized_add}
use Rattle.numbers.proofs.Signed.{sfits, read}
use Rattle.rules.specs.Bench.{most_drawn}
use Rattle.laws.proofs.Bounds.{Within, within}
use Rattle.step.proofs.stretches.with_interval.Goals as goal
use Rattle.step.proofs.stretches.with_interval.Goals.{Start}

-- a number as the machine reads it
abbrev held : ℤ → ℤ
held z = to_z w64 (of_z w64 z)

module _ (s : Start) where
  first : Within s.args.x
  first = within s.args.x s.requires.1

  second : Within s.args.y
  second = within s.args.y s.requires.2

  both_is : held s.args.x.energy +ℤ held s.args.y.energy ≡ s.args.x.energy +ℤ s.args.y.energy
  both_is = ap₂ ◌+ℤ◌ (read {w = w64} (sfits w64 tt first.energy)) (read {w = w64} (sfits w64 tt second.energy))

  both_sized : Sized (most_drawn + most_drawn) (s.args.x.energy +ℤ s.args.y.energy)
  both_sized = sized_add first.energy second.energy

  both_fits : SFits w64 (held s.args.x.energy +ℤ held s.args.y.energy)
  both_fits = subst (SFits w64) (sym both_is) (sfits w64 tt both_sized)

  all_is : held s.args.z.energy +ℤ held (held s.args.x.energy +ℤ held s.args.y.energy)
      ≡ s.args.z.energy +ℤ (s.args.x.energy +ℤ s.args.y.energy)
  all_is = ap₂ ◌+ℤ◌ (read {w = w64} (sfits w64 tt s.requires.0.energy)) (read {w = w64} both_fits ∙ both_is)

  all_fits : SFits w64 (held s.args.z.energy +ℤ held (held s.args.x.energy +ℤ held s.args.y.energy))
  all_fits = subst (SFits w64) (sym all_is) (sfits w64 tt (sized_add s.requires.0.energy both_sized))

pub overflow_add-result : goal.overflow_add-result
overflow_add-result c = both_fits (goal.at.overflow_add-result c).Start

pub overflow_add-result-2 : goal.overflow_add-result-2
overflow_add-result-2 c = all_fits (goal.at.overflow_add-result-2 c).Start

pub overflow_add-result-3 : goal.overflow_add-result-3
overflow_add-result-3 c =
    let s = c in
    omega (arith, (first (goal.at.overflow_add-result-3 c).Start).speed, (second (goal.at.overflow_add-result-3 c).Start).speed)

pub overflow_add-result-4 : goal.overflow_add-result-4
overflow_add-result-4 c =
    let s = c in
    omega (arith, (first (goal.at.overflow_add-result-4 c).Start).speed, (second (goal.at.overflow_add-result-4 c).Start).speed, s.requires.0.distance)

pub returns : goal.returns
returns c =
    let s = c in
    let z = s.args.z in
    λ i. record { energy = (read {w = w64} (all_fits (goal.at.returns c).Start) ∙ all_is (goal.at.returns c).Start) i; distance = z.distance + (s.args.x.speed + s.args.y.speed) }
