-- `consumption::whole_energy` meets its contract: the finished cycles and the others are all cycles, and what is beside them is added.
use mathlib.Core.Path.{◌≡◌, sym, ap₂, subst, ◌∙◌}
use native.Mathlib.Nat.{mul-le-mul_right}
use native.Mathlib.Omega.{arith}
use Prim.Native.Nat.{◌+◌, ◌*◌}
use lib.IntN.{ℤ, pos, ◌+ℤ◌}
use mir.Syntax.{w64}
use mir.Val.{SFits, to_z}
use Rattle.numbers.specs.Whole.{Sized}
use Rattle.numbers.proofs.Sums.{sized_sum}
use Rattle.numbers.proofs.Whole.{weaken, sized_add}
use Rattle.numbers.proofs.Signed.{sfits, read}
use Rattle.rules.specs.Bench.{most_cycles}
use Rattle.rules.specs.Shown.{most_stretch_energy}
use Rattle.ledger.specs.Row.{energy_in, energy_all}
use Rattle.ledger.proofs.Bounded.{energy_sized, energy_all_sized, energy_split}
use Rattle.consumption.proofs.Weights.{machine, most_drawn}
use Rattle.consumption.proofs.whole_energy.Goals as goal
use Rattle.consumption.proofs.whole_energy.Goals.{After-energy_from, Start}

-- what is finished
finished_fits : (s : Start) → SFits w64 (pos s.args.finished)
finished_fits s =
    let l = s.args.ledger.now in
    let n = s.args.n in
    let terms = sized_sum most_drawn (energy_in l) n (λ c h. energy_sized l s.requires.ledger_value.0 c (omega (arith, s.requires.ledger_value.1))) in
    subst (SFits w64) (sym s.requires.finished_value.0) (sfits w64 tt (weaken (mul-le-mul_right most_drawn s.requires.ledger_value.1) terms))

pub overflow_cast-result : goal.overflow_cast-result
overflow_cast-result c = finished_fits (goal.at.overflow_cast-result c).Start

-- with the others, as the machine adds them
module _ (c : After-energy_from) where
  abbrev sum : ℤ
  sum = to_z w64 c.args.finished +ℤ machine c.energy_from.result

  sum_is : sum ≡ energy_all c.args.ledger.now
  sum_is =
      ap₂ ◌+ℤ◌ (read (finished_fits c.before) ∙ c.requires.finished_value.0) (read {w = w64} (record { sfits = c.energy_from.type_inv }) ∙ c.energy_from.ensures)
      ∙ energy_split c.args.ledger.now c.args.n c.requires.ledger_value.1

  sum_fits : SFits w64 sum
  sum_fits = subst (SFits w64) (sym sum_is) (sfits w64 tt (energy_all_sized c.args.ledger.now c.requires.ledger_value.0))

  abbrev driven : ℤ
  driven = machine sum +ℤ machine c.args.beside

  driven_is : driven ≡ energy_all c.args.ledger.now +ℤ c.args.beside
  driven_is = ap₂ ◌+ℤ◌ (read sum_fits ∙ sum_is) (read c.ranges.beside)

  driven_sized : Sized (most_cycles * most_drawn + 2 * most_stretch_energy) (energy_all c.args.ledger.now +ℤ c.args.beside)
  driven_sized = sized_add (energy_all_sized c.args.ledger.now c.requires.ledger_value.0) c.requires.finished_value.2

  driven_fits : SFits w64 driven
  driven_fits = subst (SFits w64) (sym driven_is) (sfits w64 tt driven_sized)

  abbrev whole : ℤ
  whole = machine c.args.before +ℤ machine driven

  whole_is : whole ≡ c.args.before +ℤ (energy_all c.args.ledger.now +ℤ c.args.beside)
  whole_is = ap₂ ◌+ℤ◌ (read c.ranges.before) (read driven_fits ∙ driven_is)

  whole_fits : SFits w64 whole
  whole_fits = subst (SFits w64) (sym whole_is) (sfits w64 tt (sized_add c.requires.finished_value.1 driven_sized))

pub overflow_add-result : goal.overflow_add-result
overflow_add-result c = sum_fits (goal.at.overflow_add-result c).After-energy_from

pub overflow_add-result-2 : goal.overflow_add-result-2
overflow_add-result-2 c = driven_fits (goal.at.overflow_add-result-2 c).After-energy_from

pub overflow_add-result-3 : goal.overflow_add-result-3
overflow_add-result-3 c = whole_fits (goal.at.overflow_add-result-3 c).After-energy_from

pub returns : goal.returns
returns c = let a = (goal.at.returns c).After-energy_from in read (whole_fits a) ∙ whole_is a
