-- What stands where the ground of a closing is not refused, and what the closing says by the number of its refusal.
-- Assumes nothing.
use mathlib.Core.Bool.{Bool, true, false}
use mathlib.Core.List.{List}
use mathlib.Core.Path.{◌≡◌, refl, sym, ap, ◌∙◌}
use Prim.Native.Nat.{ℕ}
use borrow.Author.Tests.{eqb-true, eqb-false}
use lib.Dec.{eqb}
use lib.IntN.{ℤ}
use Rattle.rules.specs.Words.{unless}
use Rattle.numbers.proofs.Tests.{not_refused, pass, settled_taken, settled_refused, settled_answer}
use Rattle.rules.specs.declared.Amounts.{Amounts}
use Rattle.rules.specs.Closing.{least_finished, closing_refusal}
use Rattle.values.specs.Limits.{are_amounts}
use Rattle.laws.specs.Answers.{Said, gives, refuses, or_refused, Figured, figured_said, closing_said}
use Rattle.laws.proofs.Answers.{closing_or}
use Rattle.ledger.specs.Row.{energy_in, distance_in}
use Rattle.state.specs.declared.Run.{Run}
use Rattle.state.specs.State.{run_ground}
use Rattle.state.specs.Refusals.{beside_by, cycles_by}
use Rattle.state.proofs.Checked.{Ground, ground_passed, ground_on, ground_off}
use Rattle.consumption.specs.Figures.{closing_on}
use Rattle.closing.specs.Answers.{grounds, whole, refusal_of, closed_figures, closing_answer}

-- the amounts are within their limits, and the ground is not refused
pub record Standing (r : Run) (a : Amounts) (b : List ℕ) (l : List ℤ) (m : List ℕ) : Type 0 where
  pub amounts : are_amounts a ≡ true
  pub run_ground : Ground r b l m

module _ (r : Run) (a : Amounts) (b : List ℕ) (l : List ℤ) (m : List ℕ) where
  pub standing : grounds r a b l m 0 ≡ 0 → Standing r a b l m
  standing e = let (x, e') = not_refused 0 _ _ e in record { amounts = x; run_ground = ground_passed e' }

  grounds_on : (others : ℕ) → grounds r a b l m 0 ≡ 0 → grounds r a b l m others ≡ others
  grounds_on others e =
      let (x, e') = not_refused 0 _ _ e in
      sym (pass 1 x (sym (ground_on r b l m others e')))

  grounds_off : (others : ℕ) → (grounds r a b l m 0 ≡ 0 → ⊥) → grounds r a b l m others ≡ grounds r a b l m 0
  unfolding unless
  grounds_off others = go (are_amounts a)
    where
      go : (t : Bool) → (unless 1 t (run_ground r b l m 0) ≡ 0 → ⊥) → unless 1 t (run_ground r b l m others) ≡ unless 1 t (run_ground r b l m 0)
      go true h = ground_off r b l m others h
      go false h = refl

  -- 1 and 2, then the closing by the rules
  pub closing_after : or_refused (grounds r a b l m 0) (closing_said (closing_on l (beside_by r) (least_finished r.track.method) (cycles_by r) a))
      ≡ closing_answer r a b l m
  unfolding refusal_of
  closing_after = go (eqb (grounds r a b l m 0) 0) refl
    where
      k : ℕ
      k = closing_refusal (whole r a b l m) (cycles_by r) (energy_in l) (distance_in l) (least_finished r.track.method)

      said : Said Figured
      said = gives (figured_said (closed_figures r a b l m))

      go : (t : Bool) → eqb (grounds r a b l m 0) 0 ≡ t
          → or_refused (grounds r a b l m 0) (closing_said (closing_on l (beside_by r) (least_finished r.track.method) (cycles_by r) a))
          ≡ or_refused (grounds r a b l m k) said
      go true e =
          let none = eqb-true (grounds r a b l m 0) 0 e in
          settled_taken _ none ∙ closing_or k (closed_figures r a b l m) ∙ ap (λ (n : ℕ). or_refused n said) (sym (grounds_on k none))
      go false e =
          let some = eqb-false (grounds r a b l m 0) 0 e in
          settled_refused _ some ∙ settled_answer refuses said (sym (grounds_off k some)) some
