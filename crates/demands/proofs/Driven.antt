-- Whole runs, by calls that keep the contracts; each is a run that the judge's own definitions reach.
-- Assumes nothing.
use Rattle.rules.specs.declared.Refusal.{Refusal}
use Rattle.std.specs.Prelude.{Result, Ok, Err}
use mathlib.Core.List.{List}
use mathlib.Core.Path.{◌≡◌, sym, ap, subst⁻¹, subst₂, transport, ◌∙◌}
use Prim.Native.Nat.{ℕ}
use lib.IntN.{ℤ}
use Rattle.numbers.proofs.Tests.{settled_taken}
use Rattle.rules.specs.declared.Method.{Method}
use Rattle.rules.specs.declared.Moment.{Moment}
use Rattle.rules.specs.declared.Tolerances.{Tolerances}
use Rattle.rules.specs.Plan.{Plan}
use Rattle.laws.specs.Answers.{gives, answer_said}
use Rattle.laws.proofs.Answers.{was_given, given_is}
use Rattle.state.specs.declared.Run.{Run}
use Rattle.state.specs.State.{Memory, lent}
use Rattle.judge.proofs.Promises.{Promised, promised, StartPromise, SamplePromise, BlockPromise, refused_changes_nothing}
use Rattle.judge.proofs.Runs.{Reached}
use Rattle.demands.specs.Calls.{StartCall, SampleCall, BlockCall, start_leaves, sample_leaves, block_leaves}
use Rattle.demands.specs.Runs.{StartOn, SampleOn, BlockOn, sample_in, bytes_in, Driven, begins, takes, takes_block, refuses, refuses_block}

-- ---- what they promise

pub start_promised : (c : StartCall) → (let (b, (t, (y, (l, (m, _))))) = c.args in StartPromise b.now t y l.now m.now c.answer (start_leaves c))
start_promised c = promised c.kept

pub sample_promised : (c : SampleCall) → (let (r, (b, (l, (m, _)))) = c.args in SamplePromise r b.now l.now m.now (sample_in c) c.answer (sample_leaves c))
sample_promised c = promised c.kept

pub block_promised : (c : BlockCall)
    → (let (r, (b, (l, (m, (first, _))))) = c.args in BlockPromise r b.now l.now m.now first (bytes_in c) c.answer (block_leaves c))
block_promised c = promised c.kept

-- on what they are lent
pub start_kept : {b : List ℕ} {t : Tolerances} {y : Method} {l : List ℤ} {m : List ℕ} (c : StartCall) → StartOn b t y l m c
    → StartPromise b t y l m c.answer (start_leaves c)
start_kept c on =
    transport (λ i. StartPromise (on.cycle i) (on.tolerances i) (on.method i) (on.ledger i) (on.map i) c.answer (start_leaves c)) (start_promised c)

pub sample_kept : {r : Run} {b : List ℕ} {l : List ℤ} {m : List ℕ} (c : SampleCall) → SampleOn r b l m c
    → SamplePromise r b l m (sample_in c) c.answer (sample_leaves c)
sample_kept c on =
    transport (λ i. SamplePromise (on.run_is i) (on.cycle_is i) (on.ledger_is i) (on.map_is i) (sample_in c) c.answer (sample_leaves c)) (sample_promised c)

pub block_kept : {r : Run} {b : List ℕ} {l : List ℤ} {m : List ℕ} (c : BlockCall) → BlockOn r b l m c
    → BlockPromise r b l m c.args.1.1.1.1.0 (bytes_in c) c.answer (block_leaves c)
block_kept c on =
    transport (λ i. BlockPromise (on.run_is i) (on.cycle_is i) (on.ledger_is i) (on.map_is i) c.args.1.1.1.1.0 (bytes_in c) c.answer (block_leaves c))
    (block_promised c)

-- ---- the whole run

module _ (p : Plan) (l₀ : List ℤ) (m₀ : List ℕ) where
  -- what was promised and taken was reached; what was refused is where it was
  by_promise : {n : ℕ} {r r' : Run} {a c : Memory} {l : List ℤ} {m : List ℕ} {xs : List Moment} {x : Result Run Refusal} → Promised n r a l m x c → x ≡ Ok r'
      → (n ≡ 0 → Reached p l₀ m₀ xs r a.ledger a.map) → Reached p l₀ m₀ xs r' c.ledger c.map
  by_promise {n} {r} {r'} {l = l} {m = m} {xs = xs} k e reach =
      let (zero, given) = was_given n (gives r) r' (sym k.answer ∙ ap answer_said e) in
      let same = given_is given in
      subst₂ (λ (y : Run) (z : Memory). Reached p l₀ m₀ xs y z.ledger z.map) same (sym (k.in_memory ∙ settled_taken (lent l m) zero)) (reach zero)

  by_refusal : {n : ℕ} {r s : Run} {a c : Memory} {l : List ℤ} {m : List ℕ} {xs : List Moment} {x : Result Run Refusal} → Promised n s a l m x c → (k : Refusal) → x ≡ Err k
      → Reached p l₀ m₀ xs r l m → Reached p l₀ m₀ xs r c.ledger c.map
  by_refusal {r = r} {c = c} {xs = xs} q k e h = subst⁻¹ (λ (z : Memory). Reached p l₀ m₀ xs r z.ledger z.map) (refused_changes_nothing _ _ _ _ _ k _ c q e).1 h

  pub driven_reached : {xs : List Moment} {r : Run} {l : List ℤ} {m : List ℕ} → Driven p l₀ m₀ xs r l m → Reached p l₀ m₀ xs r l m
  driven_reached (begins c on e) = by_promise (start_kept c on) e (λ z. Reached.start z)
  driven_reached (takes h c on e) = by_promise (sample_kept c on) e (λ z. Reached.sample (driven_reached h) (sample_in c) z)
  driven_reached (takes_block h c on e) = by_promise (block_kept c on) e (λ z. Reached.block (driven_reached h) _ (bytes_in c) z)
  driven_reached (refuses h c on k e) = by_refusal (sample_kept c on) k e (driven_reached h)
  driven_reached (refuses_block h c on k e) = by_refusal (block_kept c on) k e (driven_reached h)
