-- The closing of a whole run is that of the rules over its samples.
-- Assumes nothing.
use mathlib.Core.Bool.{true, false}
use mathlib.Core.List.{List, ◌++◌}
use mathlib.Core.Path.{◌≡◌, refl, sym, ap, ◌∙◌}
use Prim.Native.Nat.{ℕ}
use lib.IntN.{ℤ, ◌+ℤ◌}
use Rattle.numbers.proofs.Tests.{pass, settled_taken}
use Rattle.rules.specs.declared.Moment.{Moment}
use Rattle.rules.specs.declared.Amounts.{Amounts}
use Rattle.rules.specs.Plan.{Plan}
use Rattle.rules.specs.Closing.{least_finished, closing_by}
use Rattle.rules.specs.Figures.{energies, distances, cycles_in, closing_in}
use Rattle.values.specs.Limits.{are_amounts}
use Rattle.laws.specs.Answers.{closing_said}
use Rattle.laws.specs.Beside.{is_open}
use Rattle.laws.proofs.Ended.{closing_ended}
use Rattle.laws.proofs.Same.{closing_same}
use Rattle.ledger.specs.Row.{energy_in, distance_in}
use Rattle.state.specs.declared.Run.{Run}
use Rattle.state.specs.Refusals.{beside_by, cycles_by}
use Rattle.judge.proofs.Runs.{Reached, in_order, run_shows, cycle_energies, cycle_distances, few_cycles, never_refused}
use Rattle.consumption.specs.Figures.{closing_on}
use Rattle.closing.specs.Answers.{grounds, closing_answer}
use Rattle.closing.proofs.Grounds.{closing_after}

module _ (p : Plan) (l₀ : List ℤ) (m₀ : List ℕ) {xs : List Moment} {r : Run} {l : List ℤ} {m : List ℕ} (h : Reached p l₀ m₀ xs r l m) (a : Amounts) where
  -- E, n, e_c and d_c that ledger and run have are those of the samples, and the method is the plan's
  pub closing_on_run : closing_on l (beside_by r) (least_finished r.track.method) (cycles_by r) a ≡ closing_in p xs a
  closing_on_run =
      let shown = run_shows p l₀ m₀ h in
      (λ i.
      closing_by (a.before +ℤ shown.energies_add_up i) (shown.cycles_are i) (energy_in l) (distance_in l) a.after
      (least_finished ((in_order p l₀ m₀ h).run i).track.method) a.charge)
      ∙ closing_same _ (cycles_in p xs) (few_cycles p l₀ m₀ h) (energy_in l) (distance_in l) (energies p xs) (distances p xs)
      (cycle_energies p l₀ m₀ h) (cycle_distances p l₀ m₀ h) a.after (least_finished p.method) a.charge

  -- such a run is refused by the closing's own numbers only
  pub closing_of_run : are_amounts a ≡ true → closing_answer r a p.cycle l m ≡ closing_said (closing_in p xs a)
  closing_of_run ok =
      let stands : grounds r a p.cycle l m 0 ≡ 0 = sym (pass 1 ok refl) ∙ never_refused p l₀ m₀ h 0 in
      sym (closing_after r a p.cycle l m) ∙ settled_taken _ stands ∙ ap closing_said closing_on_run

-- a run that has ended, and the same run with more samples: the closing is as it was
pub closing_stays : (p : Plan) (l₀ k₀ : List ℤ) (m₀ n₀ : List ℕ) (xs ys : List Moment) {r r' : Run} {l l' : List ℤ} {m m' : List ℕ}
    → Reached p l₀ m₀ xs r l m → Reached p k₀ n₀ (xs ++ ys) r' l' m' → is_open r.progress.end ≡ false → (a : Amounts) → are_amounts a ≡ true
    → closing_answer r' a p.cycle l' m' ≡ closing_answer r a p.cycle l m
closing_stays p l₀ k₀ m₀ n₀ xs ys h h' ended a ok =
    closing_of_run p k₀ n₀ h' a ok
    ∙ ap closing_said (closing_ended p xs ys (ap is_open (sym (run_shows p l₀ m₀ h).end_is) ∙ ended) a)
    ∙ sym (closing_of_run p l₀ m₀ h a ok)
