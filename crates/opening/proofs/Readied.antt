-- The answers of the opening: each is known by what it says; what is tested before a field; and which field may stand next.
-- Assumes nothing.
use mathlib.Core.Bool.{Bool, true, false, cond, false≢true}
use mathlib.Core.List.{List, [], ◌∷◌}
use mathlib.Core.Path.{◌≡◌, refl, sym, ap, ◌∙◌}
use Prim.Native.Nat.{ℕ, ◌+◌, ◌≤◌}
use native.Mathlib.Omega.{arith}
use borrow.Author.Tests.{leb-true, le-leb, ne_eqb}
use lib.Dec.{leb}
use lib.ListN.{length}
use Rattle.rules.specs.Words.{all_below, every}
use Rattle.numbers.proofs.Tests.{pass, both, not_refused}
use Rattle.rules.specs.Cycle.{most_bytes}
use Rattle.rules.specs.Table.{begins, by_row, length_allowed, among, behind_tolerances, behind_stretches, behind_after, block_places, tags, run1}
use Rattle.laws.specs.Beside.{may_stand}
use Rattle.rules.specs.Values.{is_number}
use Rattle.laws.specs.Answers.{Said, gives, refuses}
use Rattle.laws.proofs.Answers.{known_by, refusal_of, of_number}
use Rattle.laws.proofs.Places.{every_among}
use Rattle.laws.proofs.Tags.{by_tag, no_length}
use Rattle.opening.specs.declared.Opening.{Opening}
use Rattle.opening.specs.declared.OpenAnswer.{OpenAnswer}
use Rattle.opening.specs.declared.OpenStep.{OpenStep}
use Rattle.opening.specs.declared.OpenStep.TheVariants.{Taken, Started, Incomplete}
use Rattle.std.specs.Prelude.{Result, Ok, Err}
use Rattle.rules.specs.declared.Refusal.{Refusal}
use Rattle.opening.specs.Answers.{Opened, opens, starts, unfinished, open_step_said, OpenSaid, open_said, is_opening, open_ground}

-- ---- answers that say the same are the same

same_step : (x y : Result OpenStep Refusal) → open_step_said x ≡ open_step_said y → x ≡ y
same_step = known_by open_step_said back known
  where
    back : Said Opened → Result OpenStep Refusal
    back (gives (opens n)) = Ok (Taken n)
    back (gives (starts n r)) = Ok (Started n r)
    back (gives unfinished) = Ok Incomplete
    back (refuses n) = Err (refusal_of n)

    known : (x : Result OpenStep Refusal) → back (open_step_said x) ≡ x
    known (Ok (Taken n)) = refl
    known (Ok (Started n r)) = refl
    known (Ok Incomplete) = refl
    known (Err e) = ap Err (of_number e)

pub same_opened : (x y : OpenAnswer Refusal) → open_said x ≡ open_said y → x ≡ y
same_opened x y e =
    let step_is = same_step x.step y.step (ap (λ (z : OpenSaid). z.says) e) in
    let opening-is = ap (λ (z : OpenSaid). z.opening) e in
    λ i. record { step = step_is i; opening = opening-is i }

-- ---- before all else

-- no number of an opening on its lent room is beyond its limits
pub record Ready (o : Opening) (lent : List ℕ) : Type 0 where
  pub few : o.fields ≤ 3
  pub size : o.cycle ≤ most_bytes
  pub number : is_number o.vehicle ≡ true
  pub room : most_bytes ≤ length lent

-- that is what the tests before a field say
pub ground_ready : (o : Opening) (room : List ℕ) → open_ground o room ≡ 0 → Ready o room
unfolding open_ground is_opening
ground_ready o room e =
    let (long, e₁) = not_refused 0 _ _ e in
    let (limits, _) = not_refused 0 _ _ e₁ in
    let h₂ = both _ _ limits in
    let h₁ = both _ _ h₂.0 in
    record { few = leb-true _ _ h₁.0; size = leb-true _ _ h₁.1; number = h₂.1; room = leb-true _ _ long }

pub ready_ground : (o : Opening) (room : List ℕ) → Ready o room → open_ground o room ≡ 0
unfolding open_ground is_opening
ready_ground o room h =
    sym (pass 1 (le-leb _ _ h.room) (pass 1 (rw (le-leb _ _ h.few, le-leb _ _ h.size, h.number)) refl))

-- ---- the rows until the start

-- "1, 2, 3, 4 once each": no other field stands where k are accepted than the one of tag k + 1
module _ (p : ℕ) (few : p ≤ 3) (v : List ℕ) where
  never : (b : Bool) → cond b false false ≡ false
  never true = refl
  never false = refl

  not_at : (k : ℕ) → (p ≡ k → ⊥) → among p (k ∷ []) ≡ false
  not_at k h = rw (ne_eqb p k h)

  -- what stands only after the start does not stand yet
  not_yet : (ps : List ℕ) → every (leb behind_tolerances) ps ≡ true → among p ps ≡ false
  not_yet ps e = go (among p ps) refl
    where
      go : (b : Bool) → among p ps ≡ b → b ≡ false
      go true q = absurd (let z = leb-true behind_tolerances p (every_among (leb behind_tolerances) p ps e q) in omega arith)
      go false q = refl

  no_mark : (p ≡ 0 → ⊥) → may_stand tags p 1 v ≡ false
  unfolding by_row
  no_mark h = ap (λ (x : Bool). cond (begins run1 v) x false) (not_at 0 h) ∙ never (begins run1 v)

  no_energy : may_stand tags p 6 v ≡ false
  unfolding by_row
  no_energy =
      (λ k. cond (begins (0 ∷ []) v) (not_yet (behind_tolerances ∷ behind_stretches ∷ []) refl k) (cond (begins (1 ∷ []) v) (not_yet block_places refl k) false))
      ∙ ap (λ (x : Bool). cond (begins (0 ∷ []) v) false x) (never (begins (1 ∷ []) v)) ∙ never (begins (0 ∷ []) v)

  pub out_of_turn : (tag n : ℕ) → length_allowed tags tag n ≡ true → (tag ≡ p + 1 → ⊥) → may_stand tags p tag v ≡ false
  unfolding by_row begins all_below
  out_of_turn tag n =
      by_tag (λ t. length_allowed tags t n ≡ true → (t ≡ p + 1 → ⊥) → may_stand tags p t v ≡ false) tag
      (λ _ h. no_mark (λ e. h (omega arith))) (λ _ h. not_at 1 (λ e. h (omega arith))) (λ _ h. not_at 2 (λ e. h (omega arith))) (λ _ h. not_at 3 (λ e. h (omega arith)))
      (λ _ _. not_yet block_places refl) (λ _ _. no_energy) (λ _ _. not_yet (behind_after ∷ block_places) refl) (λ _ _. not_yet (behind_tolerances ∷ []) refl)
      (λ w l _. absurd (false≢true (sym (no_length tag n w) ∙ l)))
