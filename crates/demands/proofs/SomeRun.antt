-- Demand 2 speaks of something: by calls that keep the contracts there is a run of every list of samples within their limits, 4,000,000 at most.
-- Assumes nothing.
use Rattle.std.specs.Prelude.{Ok}
use mathlib.Core.Bool.{true}
use mathlib.Core.List.{List, [], ◌∷◌, ◌++◌, append-nil, append_assoc}
use mathlib.Core.Path.{◌≡◌, refl, sym, subst, ◌∙◌}
use Prim.Native.Nat.{ℕ, suc, ◌+◌, ◌≤◌}
use native.Mathlib.Omega.{arith}
use borrow.Author.Tests.{le-leb}
use lib.IntN.{ℤ}
use lib.ListN.{length, length-append}
use denote.Bor.{Bor}
use denote.MutBor.{MutBor}
use Rattle.rules.specs.Words.{every}
use Rattle.numbers.proofs.Tests.{both, pass}
use Rattle.rules.specs.declared.Sample.{Sample}
use Rattle.rules.specs.declared.Method.{Method}
use Rattle.rules.specs.declared.Moment.{Moment}
use Rattle.rules.specs.declared.Tolerances.{Tolerances}
use Rattle.rules.specs.Bench.{is_sample, moment_of, tolerable, most_offered}
use Rattle.rules.specs.Cycle.{valid}
use Rattle.rules.specs.Plan.{Plan}
use Rattle.rules.specs.Shown.{ledger_numbers, map_words}
use Rattle.values.specs.Limits.{is_method}
use Rattle.state.specs.declared.Run.{Run}
use Rattle.state.specs.Refusals.{start_refusal, started, sample_refusal}
use Rattle.step.specs.Step.{start_of, run_to}
use Rattle.judge.specs.Answers.{after_sample}
use Rattle.judge.proofs.Calls.{taken}
use Rattle.judge.proofs.Runs as runs
use Rattle.demands.specs.Calls.{StartCall, SampleCall}
use Rattle.demands.specs.Runs.{SomeRun, begins, takes}
use Rattle.demands.specs.Rows.{moments_of}
use Rattle.demands.proofs.Driven.{driven_reached}
use Rattle.demands.proofs.OfRun.{run_shows}

-- a reference somewhere, and one that may be written through
abbrev pub to : {A : Type 0} → A → Bor A
to x = record { ref_ptr = (0, 0); now = x }

abbrev pub mut_to : {A : Type 0} → A → MutBor A
mut_to x = record { ref_ptr = (0, 0); ghost_name = 0; now = x }

-- calls that are not refused, with the answers that the contracts ask for
abbrev start_call : (b : List ℕ) (t : Tolerances) (q : Method) (l : List ℤ) (m : List ℕ) → start_refusal b t q l m ≡ 0 → StartCall
start_call b t q l m z =
    let y = (start_of l m).memory in
    record {
      κs = ([], ([], ([], tt)));
      args = (to b, (t, (q, (mut_to l, (mut_to m, tt)))));
      answer = Ok (started b t q);
      lasts = (tt, (tt, (tt, (y.ledger, (y.map, tt)))));
      kept = taken (start_refusal b t q l m) (started b t q) y l m z refl refl;
    }

abbrev sample_call : (r : Run) (b : List ℕ) (l : List ℤ) (m : List ℕ) (x : Sample) → sample_refusal r b l m x ≡ 0 → SampleCall
sample_call r b l m x z =
    let y = after_sample r b l m x in
    record {
      κs = ([], ([], ([], tt)));
      args = (r, (to b, (mut_to l, (mut_to m, (x, tt)))));
      answer = Ok (run_to r y.progress y.stretched);
      lasts = (tt, (tt, (y.memory.ledger, (y.memory.map, (tt, tt)))));
      kept = taken (sample_refusal r b l m x) (run_to r y.progress y.stretched) y.memory l m z refl refl;
    }

module _ (p : Plan) (l₀ : List ℤ) (m₀ : List ℕ) where
  one_more_lem : {ys : List Moment} (s : SomeRun p l₀ m₀ ys) (x : Sample) → is_sample x ≡ true → suc (length ys) ≤ most_offered → SomeRun p l₀ m₀ (ys ++ moment_of x ∷ [])
  unfolding sample_refusal
  one_more_lem s x ok room =
      let offered = (run_shows s.driven).state_shows.0 in
      let z : sample_refusal s.run p.cycle s.ledger s.map x ≡ 0 =
      runs.never_refused p l₀ m₀ (driven_reached p l₀ m₀ s.driven) _ ∙ sym (pass 7 (le-leb (s.run.progress.offered + 1) most_offered (omega arith)) (pass 5 ok refl)) in
      record {
        run = _;
        ledger = _;
        map = _;
        driven = takes s.driven (sample_call s.run p.cycle s.ledger s.map x z) (record { run_is = refl; cycle_is = refl; ledger_is = refl; map_is = refl }) refl;
      }

  all_more : {ys : List Moment} (s : SomeRun p l₀ m₀ ys) (xs : List Sample) → every is_sample xs ≡ true → length ys + length xs ≤ most_offered → SomeRun p l₀ m₀ (ys ++ moments_of xs)
  all_more {ys = ys} s [] ok room = subst (SomeRun p l₀ m₀) (sym (append-nil ys)) s
  all_more {ys = ys} s (x ∷ xs) ok room =
      let (first, rest) = both (is_sample x) (every is_sample xs) ok in
      subst (SomeRun p l₀ m₀) (append_assoc ys (moment_of x ∷ []) (moments_of xs))
      (all_more {ys = ys ++ moment_of x ∷ []} (one_more_lem s x first (omega arith)) xs rest (omega (arith, length-append ys (moment_of x ∷ []))))

  pub some_run : ledger_numbers ≤ length l₀ → map_words ≤ length m₀ → valid p.cycle ≡ true → tolerable p.tolerances ≡ true → is_method p.method ≡ true
      → (xs : List Sample) → every is_sample xs ≡ true → length xs ≤ most_offered → SomeRun p l₀ m₀ (moments_of xs)
  unfolding start_refusal
  some_run long_ledger long_map good tolerated fits xs ok room =
      let z : start_refusal p.cycle p.tolerances p.method l₀ m₀ ≡ 0 =
      sym (pass 1 (le-leb ledger_numbers (length l₀) long_ledger) (pass 1 (le-leb map_words (length m₀) long_map) (pass 2 good (pass 3 tolerated (pass 19 fits refl))))) in
      all_more
      (record {
        run = _;
        ledger = _;
        map = _;
        driven = begins (start_call p.cycle p.tolerances p.method l₀ m₀ z) (record { cycle = refl; tolerances = refl; method = refl; ledger = refl; map = refl }) refl;
      }) xs ok (omega arith)
