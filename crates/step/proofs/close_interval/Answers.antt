-- `step::close_interval` meets its contract: the row of the open interval says where it is closed.
use mathlib.Core.Path.{◌≡◌, ◌∙◌}
use Prim.Native.Nat.{ℕ, ◌<◌}
use native.Mathlib.Omega.{arith}
use borrow.Author.Tests.{lt-ltb, le-ltb, ne_eqb}
use Rattle.rules.specs.Bench.{most_cycles}
use Rattle.rules.specs.Course.{row_m, row_e}
use Rattle.rules.specs.declared.Moment.{Moment}
use Rattle.state.specs.declared.Stretched.{Stretched}
use Rattle.step.specs.Step.{interval_closed, stretch_closed}
use Rattle.step.proofs.close_interval.Goals as goal

-- an interval of a cycle leaves the stretches
left_alone : (r : ℕ) (z : Stretched) (x y : Moment) → r < most_cycles → z ≡ stretch_closed r z x y
unfolding stretch_closed
left_alone r z x y h = rw (ne_eqb r row_m (λ (e : r ≡ row_m). omega arith), ne_eqb r row_e (λ (e : r ≡ row_e). omega arith))

pub close_stretch-requires : goal.close_stretch-requires
close_stretch-requires c = let p = c.requires.ledger_numbers_in_bounds in (p.4, p.5, p.2, p.3)

pub returns-then-g-ge-MOST_CYCLES : goal.returns-then-g-ge-MOST_CYCLES
unfolding interval_closed
returns-then-g-ge-MOST_CYCLES c = record { value = c.close_stretch.ensures; ledger_after = rw (le-ltb _ _ c.if-g-ge-MOST_CYCLES.true) }

pub add_in_cycle-requires : goal.add_in_cycle-requires
add_in_cycle-requires c =
    let s = c in
    record { ledger_numbers_in_bounds = (s.requires.ledger_numbers_in_bounds.0, c.if-g-ge-MOST_CYCLES.false, s.requires.ledger_numbers_in_bounds.1, s.requires.ledger_numbers_in_bounds.2, s.requires.ledger_numbers_in_bounds.3); by_index = s.requires.by_index }

pub returns : goal.returns
unfolding interval_closed
returns c =
    let in_cycle_lem = c.if-g-ge-MOST_CYCLES.false in
    record { value = left_alone _ _ _ _ in_cycle_lem; ledger_after = c.add_in_cycle.ensures ∙ rw (lt-ltb _ _ in_cycle_lem) }
