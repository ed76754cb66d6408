-- `step::counting::next_phase` meets its contract: the phase stays until its end, and then is the next.
use mathlib.Core.List.{List}
use mathlib.Core.Path.{◌≡◌, sym, ap, ◌∙◌}
use Prim.Native.Nat.{ℕ, ◌+◌, ◌*◌, ◌≤◌, ◌<◌}
use native.Mathlib.Numerals.{add-one}
use native.Mathlib.Omega.{arith}
use Rattle.rules.specs.Cycle.{phases, phase_end, phase_at, positions}
use Rattle.laws.proofs.Sound.{Sound, sound, phase_exists, phase_stays, phase_next}
use Rattle.step.proofs.counting.next_phase.Goals as goal
use Rattle.step.proofs.counting.next_phase.Goals.{Start}

-- as the code counts
module _ (b : List ℕ) (o : Sound b) (k p : ℕ) (is : k ≡ phase_at b p) (h : p + 1 < positions b) where
  stays : p + 1 < 20 * phase_end b k → k ≡ phase_at b (p + 1)
  stays g =
      let e = ap (λ (i : ℕ). 20 * phase_end b i) is in
      is ∙ rw add-one (sym (phase_stays b o p (omega arith) (omega arith)))

  next : 20 * phase_end b k ≤ p + 1 → k + 1 ≡ phase_at b (p + 1)
  next g =
      let e = ap (λ (i : ℕ). 20 * phase_end b i) is in
      ap (λ (i : ℕ). i + 1) is ∙ rw (add-one, add-one) (sym (phase_next b o p (omega arith) (omega arith)))

  there : k < phases b
  there = omega (arith, phase_exists b p o (omega arith))

-- the phase is one of the cycle's, at the entry
phase_there : (c : Start) → c.args.phase < phases c.args.cycle.now
phase_there c = there c.args.cycle.now (sound _ c.requires.0) c.args.phase c.args.position c.requires.2 c.requires.1

pub overflow_add-position : goal.overflow_add-position
overflow_add-position c = let s = sound _ c.requires.0 in omega arith

pub end_of-requires : goal.end_of-requires
end_of-requires c = let s = sound _ c.requires.0 in omega (arith, phase_there (goal.at.end_of-requires c).Start)

pub returns-then-position-from : goal.returns-then-position-from
returns-then-position-from c =
    let start = c in
    stays start.args.cycle.now (sound _ start.requires.0) start.args.phase start.args.position start.requires.2 start.requires.1 (omega arith)

pub overflow_add-result : goal.overflow_add-result
overflow_add-result c = let s = sound _ c.requires.0 in omega (arith, phase_there (goal.at.overflow_add-result c).Start)

pub returns : goal.returns
returns c =
    let start = c in
    next start.args.cycle.now (sound _ start.requires.0) start.args.phase start.args.position start.requires.2 start.requires.1 (omega arith)
