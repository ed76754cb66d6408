-- The promises of `start`, `sample` and `block` say that a refusal changes nothing.
-- Assumes nothing.
use mathlib.Core.Bool.{Bool, true, false, cond}
use mathlib.Core.List.{List}
use mathlib.Core.Path.{◌≡◌, sym, ap, ◌∙◌}
use Prim.Native.Nat.{ℕ}
use native.Mathlib.Omega.{arith}
use lib.Dec.{eqb}
use lib.IntN.{ℤ}
use Rattle.std.specs.Prelude.{Result, Err}
use Rattle.rules.specs.Numbered.{number}
use Rattle.rules.specs.declared.Refusal.{Refusal}
use Rattle.rules.specs.declared.Sample.{Sample}
use Rattle.rules.specs.declared.Tolerances.{Tolerances}
use Rattle.rules.specs.declared.Method.{Method}
use Rattle.laws.specs.Answers.{Said, gives, refuses, or_refused, answer_said}
use Rattle.state.specs.declared.Run.{Run}
use Rattle.state.specs.State.{Memory, lent, Left}
use Rattle.step.specs.Step.{start_of, run_to}
use Rattle.rules.specs.Words.{settled}
use Rattle.state.specs.Refusals.{start_refusal, started, sample_refusal}
use Rattle.judge.specs.Answers.{call_left, after_sample, after_block}
use Rattle.blocks.specs.Blocks.{block_refusal}

-- ---- the promises

-- the promise of a call on the memory l and m, with the number n of its refusal and the run r and memory a that it would leave:
-- the answer x and the memory c are these
pub record Promised (n : ℕ) (r : Run) (a : Memory) (l : List ℤ) (m : List ℕ) (x : Result Run Refusal) (c : Memory) : Type 0 where
  pub answer : answer_said x ≡ or_refused n (gives r)
  pub in_memory : c ≡ settled n a (lent l m)

pub promised : {n : ℕ} {r : Run} {a : Memory} {l : List ℤ} {m : List ℕ} {x : Result Run Refusal} {c : Memory} → record { answer = answer_said x; memory = c } ≡ call_left n r a l m → Promised n r a l m x c
promised e = record { answer = ap (λ (z : Left (Said Run)). z.answer) e; in_memory = ap (λ (z : Left (Said Run)). z.memory) e }

module _ (n : ℕ) (r : Run) (a : Memory) (l : List ℤ) (m : List ℕ) where
  -- "A refusal returns its number and no figure; state, ledger, map .. stay exactly as they were."
  pub refused_changes_nothing : (k : Refusal) (x : Result Run Refusal) (c : Memory) → Promised n r a l m x c → x ≡ Err k → (n ≡ number k) × (c ≡ lent l m)
  refused_changes_nothing k x c p e = go (eqb n 0) (sym (ap answer_said e) ∙ p.answer) p.in_memory
    where
      go : (y : Bool) → refuses (number k) ≡ cond y (gives r) (refuses n) → c ≡ cond y a (lent l m) → (n ≡ number k) × (c ≡ lent l m)
      go true f g = absurd (let z : ◌≡◌ {A = ℕ} 0 1 = cc in omega arith)
      go false f g = (cc, g)

-- the three operations
abbrev pub StartPromise : List ℕ → Tolerances → Method → List ℤ → List ℕ → Result Run Refusal → Memory → Type 0
StartPromise b t y l m = Promised (start_refusal b t y l m) (started b t y) (start_of l m).memory l m

abbrev pub SamplePromise : Run → List ℕ → List ℤ → List ℕ → Sample → Result Run Refusal → Memory → Type 0
SamplePromise r b l m x =
    let a = after_sample r b l m x in
    Promised (sample_refusal r b l m x) (run_to r a.progress a.stretched) a.memory l m

abbrev pub BlockPromise : Run → List ℕ → List ℤ → List ℕ → ℕ → List ℕ → Result Run Refusal → Memory → Type 0
BlockPromise r b l m first q =
    let a = after_block r b l m q in
    Promised (block_refusal r b l m first q) (run_to r a.progress a.stretched) a.memory l m
