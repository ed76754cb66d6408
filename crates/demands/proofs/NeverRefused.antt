-- Demand 2 of a whole run: "such a call is never refused 1 or 2", of every later call.
-- Assumes nothing.
use Rattle.rules.specs.declared.Figures.{Figures}
use Rattle.rules.specs.declared.Refusal.{Refusal}
use Rattle.std.specs.Prelude.{Err, Result}
use mathlib.Core.Bool.{true}
use mathlib.Core.List.{List}
use mathlib.Core.Path.{◌≡◌, refl, sym, ap, ◌∙◌}
use Prim.Native.Nat.{ℕ}
use native.Mathlib.Omega.{arith}
use lib.Dec.{eqb}
use lib.IntN.{ℤ}
use lib.ListN.{drop}
use Rattle.numbers.proofs.Tests.{pass}
use Rattle.rules.specs.declared.Moment.{Moment}
use Rattle.rules.specs.Plan.{Plan}
use Rattle.laws.specs.Answers.{number_of, figure_said, closing_said, refuses, answer_said}
use Rattle.values.specs.Limits.{are_amounts}
use Rattle.state.specs.declared.Run.{Run}
use Rattle.state.specs.State.{run_ground}
use Rattle.state.specs.Refusals.{sample_refusal}
use Rattle.blocks.specs.Blocks.{block_refusal}
use Rattle.judge.proofs.Runs as runs
use Rattle.rules.specs.Closing.{ClosingAnswer, Figure}
use Rattle.closing.specs.Answers.{whole, refusal_of}
use Rattle.reading.specs.declared.Reading.{Reading}
use Rattle.reading.specs.Answers.{is_reading, read_ground}
use Rattle.demands.specs.Calls.{SampleCall, BlockCall, ClosingCall}
use Rattle.demands.specs.Demand2.{NeverRefused}
use Rattle.demands.specs.Runs.{On, SampleOn, BlockOn, ClosingOn, Driven, closing_amounts}
use Rattle.demands.specs.Cases.{Neither1Nor2, or_else}
use Rattle.demands.proofs.HasItsNumber.{has_its_number}
use Rattle.demands.proofs.Driven.{driven_reached}
use Rattle.demands.proofs.Neither.{Neither, unless_neither, cond_neither, zero_neither, by_number, closing_neither, recharge_neither, next_neither}
use Rattle.demands.proofs.OfRun.{run_answers}

-- ---- the calls

module _ {p : Plan} {l₀ : List ℤ} {m₀ : List ℕ} {xs : List Moment} {r : Run} {l : List ℤ} {m : List ℕ} (h : Driven p l₀ m₀ xs r l m) where
  -- what comes after 1 and 2 decides
  grounded : {run : Run} {cycle : List ℕ} {ledger : List ℤ} {map : List ℕ} → On r p.cycle l m run cycle ledger map → (others : ℕ)
      → run_ground run cycle ledger map others ≡ others
  grounded on others =
      (λ i. run_ground (on.run_is i) (on.cycle_is i) (on.ledger_is i) (on.map_is i) others) ∙ runs.never_refused p l₀ m₀ (driven_reached p l₀ m₀ h) others

  sample_neither : (c : SampleCall) → SampleOn r p.cycle l m c → Neither1Nor2 refuses (answer_said c.answer)
  unfolding sample_refusal
  sample_neither c on =
      by_number number_of refuses (λ k. refl) (has_its_number.sample_number c ∙ grounded on _)
      (unless_neither _ (omega arith) (unless_neither _ (omega arith) zero_neither))

  block_neither : (c : BlockCall) → BlockOn r p.cycle l m c → Neither1Nor2 refuses (answer_said c.answer)
  unfolding block_refusal
  block_neither c on =
      by_number number_of refuses (λ k. refl) (has_its_number.block_number c ∙ grounded on _)
      (unless_neither _ (omega arith) (unless_neither _ (omega arith) (unless_neither _ (omega arith) (unless_neither _ (omega arith) zero_neither))))

  closing_call_neither : (c : ClosingCall) → ClosingOn r p.cycle l m c → are_amounts (closing_amounts c) ≡ true → Neither1Nor2 Err c.answer
  unfolding refusal_of
  closing_call_neither c on ok =
      by_number (λ (z : ClosingAnswer). number_of (closing_said z)) Err (λ k. refl)
      (has_its_number.closing_number c ∙ sym (pass 1 ok (sym (grounded on _)))) (closing_neither _ _ _ _ _)

  reading_neither : (reading : Reading) (cycle : List ℕ) (ledger : List ℤ) (map : List ℕ) → On r p.cycle l m reading.run cycle ledger map
      → is_reading reading ≡ true → (next : ℕ) → Neither next → Neither (or_else (read_ground reading cycle ledger map) next)
  unfolding read_ground
  reading_neither reading cycle ledger map on ok next g =
      let z : read_ground reading cycle ledger map ≡ 0 = sym (pass 1 ok (sym (grounded on 0))) in
      cond_neither (eqb (read_ground reading cycle ledger map) 0) next _ g (omega (arith, z))

  pub never_refused : NeverRefused p l₀ m₀ xs r l m
  never_refused = record {
    sample = sample_neither;
    block = block_neither;
    shown = λ c on. by_number number_of refuses (λ k. refl) (has_its_number.shown_number c ∙ grounded on 0) zero_neither;
    totals = λ c on. by_number number_of refuses (λ k. refl) (has_its_number.totals_number c ∙ grounded on 0) zero_neither;
    closing = closing_call_neither;
    recharge = λ c x is.
        let (r, (a, (b, (l, (m, _))))) = c.args in
        by_number (λ (z : Figure). number_of (figure_said z)) Err (λ k. refl) (has_its_number.recharge_number_lem c x is)
        (recharge_neither (whole r a b.now l.now m.now) x.range a.after a.charge);
    figures = λ c on ok. ap (λ (z : Result Figures Refusal). number_of (answer_said z)) ((run_answers h).figures_of_run c on ok);
    read = λ c on ok.
        let (reading, (i, (cycle, (ledger, (map, _))))) = c.args in
        by_number number_of refuses (λ k. refl) (has_its_number.read_number c) (reading_neither reading cycle.now ledger.now map.now on ok _ (next_neither reading cycle.now ledger.now map.now i.now));
    read_all = λ c on ok.
        let (reading, (i, (cycle, (ledger, (map, _))))) = c.args in
        by_number number_of refuses (λ k. refl) (has_its_number.read_all_number c)
        (reading_neither reading cycle.now ledger.now map.now on ok _ (next_neither c.answer.reading cycle.now c.lasts.1.1.1.0 c.lasts.1.1.1.1.0 (drop c.answer.used i.now)));
  }
