-- What the tests before all else leave for the lines of a trace.
-- Assumes nothing.
use mathlib.Core.List.{List}
use mathlib.Core.Path.{◌≡◌}
use Prim.Native.Nat.{ℕ, ◌*◌, ◌≤◌}
use native.Mathlib.Nat.{div-le_of_le-mul}
use native.Mathlib.Omega.{arith}
use lib.IntN.{ℤ, ◌+ℤ◌}
use lib.ListN.{length}
use Rattle.numbers.specs.Whole.{Sized}
use Rattle.numbers.proofs.Whole.{sized_add}
use Rattle.numbers.proofs.Tests.{not_refused}
use Rattle.rules.specs.declared.Method.{Method}
use Rattle.rules.specs.declared.Method.TheVariants.{Regular as by_cycles, Shortened as with_stretches}
use Rattle.rules.specs.Bench.{most_cycles}
use Rattle.laws.specs.Beside.{most_whole}
use Rattle.laws.proofs.Sound.{sound}
use Rattle.ledger.proofs.Bounded.{energy_all_sized}
use Rattle.state.specs.State.{most_by}
use Rattle.state.specs.Refusals.{cycles_for}
use Rattle.state.proofs.Checked.{limits, progress_most, ground_passed}
use Rattle.state.proofs.Stretches.{stretched_m, stretched_e, finished_most}
use Rattle.consumption.proofs.Weights.{in_limits}
use Rattle.reading.specs.declared.Reading.{Reading}
use Rattle.reading.specs.Answers.{read_ground}
use Rattle.figures.specs.Figured.{figures_of}
use Rattle.figures.proofs.OfRun.{figurable}
use Rattle.tracing.specs.Traced.{Traceable}

pub traceable : (r : Reading) (b : List ℕ) (l : List ℤ) (m : List ℕ) → read_ground r b l m ≡ 0 → Traceable r b l
unfolding read_ground
traceable r b l m e =
    let g = ground_passed (not_refused 0 _ _ e).1 in
    record { figurable = figurable r b l m e; sound = g.sound; same_seconds = g.same_seconds }

-- no method has more cycles
few_finished : (y : Method) (n k : ℕ) → 1 ≤ n → k ≤ most_by y n → cycles_for y n k ≤ most_cycles
few_finished by_cycles n k g h = div-le_of_le-mul n (omega arith)
few_finished (with_stretches x) n k g h = omega (arith, finished_most n x.length g k)

module _ {r : Reading} {b : List ℕ} {l : List ℤ} (h : Traceable r b l) where
  pub long_cycle : 9 ≤ length b
  long_cycle = let o = sound b h.sound in omega (arith, o.whole, o.some_phase, o.long)

  pub few_cycles : (figures_of r l).cycles ≤ most_cycles
  few_cycles =
      let g = limits r.run h.figurable.is_run_lem in
      few_finished r.run.track.method (20 * r.run.track.seconds) _ (omega (arith, g.long)) (omega (arith, (progress_most _ _ _ _ g.progress).1))

  pub whole_sized : Sized most_whole (r.amounts.before +ℤ (figures_of r l).drawn)
  whole_sized =
      let s = (limits r.run h.figurable.is_run_lem).stretched in
      sized_add (in_limits r.amounts h.figurable.amounts).before
      (sized_add (energy_all_sized l h.figurable.bounded) (sized_add (stretched_m r.run s).0 (stretched_e r.run s).0))
