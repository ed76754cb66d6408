-- What a field after the start brings, tag by tag.
-- Assumes nothing.
use mathlib.Core.Bool.{Bool, true, false, cond, false≢true}
use mathlib.Core.List.{List, [], ◌∷◌}
use mathlib.Core.Path.{◌≡◌, refl, sym, ap, subst, ◌∙◌}
use Prim.Native.Nat.{ℕ, ◌+◌}
use native.Mathlib.Omega.{arith}
use borrow.Author.Tests.{leb-true, eq-eqb, ne_eqb}
use lib.Dec.{leb, eqb}
use lib.ListN.{get_or}
use Rattle.rules.specs.Words.{all_below}
use Rattle.numbers.proofs.Tests.{pass, stop}
use Rattle.rules.specs.Table.{Matter, stretches, block, energy_before, energy_after, recharge, begins, among, by_row, length_allowed, behind_tolerances, behind_stretches, block_places, tags, run1}
use Rattle.laws.specs.Beside.{may_stand}
use Rattle.rules.specs.Front.{Field}
use Rattle.rules.specs.Record.{Content as Comes, brought, foreign, wrong, nothing, a_number, a_cycle, the_tolerances, the_stretches, own_samples, before, after, charged, content_of}
use Rattle.laws.proofs.Contents.{content_order, first_place, block_place, recharge_place, not_first}
use Rattle.laws.proofs.Tags.{pick, by_tag, no_length}
use Rattle.fields.specs.Fields.{has_row}
use Rattle.fields.proofs.Fronts.{row_of_energy}
use Rattle.contents.specs.Content.{Bring, bring_said, content_said, later_content}
use Rattle.std.specs.Prelude.{Option, Some, None, Result, Ok, Err}
use Rattle.rules.specs.declared.Refusal.{Refusal}
use Rattle.laws.proofs.Answers.{refusal_of, of_number}
use Rattle.contents.specs.declared.Bring.TheVariants.{Stretch, Samples, Before, After, Recharge}

-- ---- 8, 9, then its content

module _ (me : List ℕ) (place passed offered tag : ℕ) (v : List ℕ) where
  abbrev content : Matter → List ℕ → Comes
  content = content_of passed me [] offered

  abbrev f : Field
  f = record { tag = tag; value = v }

  pub no_row : has_row tag v ≡ false → wrong 8 ≡ later_content me place passed offered f
  no_row e = stop _ e ∙ sym (content_order (behind_tolerances + place) content f)

  module _ (row : has_row tag v ≡ true) where
    pub no_place : may_stand tags (behind_tolerances + place) tag v ≡ false → wrong 9 ≡ later_content me place passed offered f
    no_place e = pass _ row (stop _ e) ∙ sym (content_order (behind_tolerances + place) content f)

    pub content_is : may_stand tags (behind_tolerances + place) tag v ≡ true → {c : Comes} → c ≡ by_row tags tag v (λ r. content r.holds v) (wrong 8)
        → c ≡ later_content me place passed offered f
    content_is e h = pass _ row (pass _ e h) ∙ sym (content_order (behind_tolerances + place) content f)

-- ---- the rows after the start

-- a kind that has a row is 0 or 1
kind : (v : List ℕ) → has_row 6 v ≡ true → (get_or v 0 0 ≡ 0 → ⊥) → get_or v 0 0 ≡ 1
kind v e n = let m = leb-true (get_or v 0 0) 1 (sym (row_of_energy v) ∙ e) in omega arith

module _ {A : Type 0} (g : Matter → A) (z : A) (v : List ℕ) (tag : ℕ) where
  abbrev at : ℕ → A
  at t = by_row tags t v (λ r. g r.holds) z

  pub row_of_block : tag ≡ 5 → at tag ≡ g block
  unfolding by_row begins all_below
  row_of_block e = ap at e

  pub row_of_recharge : tag ≡ 7 → at tag ≡ g recharge
  unfolding by_row begins all_below
  row_of_recharge e = ap at e

  pub row_of_stretches : tag ≡ 8 → at tag ≡ g stretches
  unfolding by_row begins all_below
  row_of_stretches e = ap at e

  pub row_of_kind : tag ≡ 6 → has_row tag v ≡ true → at tag ≡ cond (eqb (get_or v 0 0) 0) (g energy_before) (g energy_after)
  unfolding by_row begins all_below
  row_of_kind e h = ap at e ∙ go (subst (λ (t : ℕ). has_row t v ≡ true) e h)
    where
      go : has_row 6 v ≡ true → at 6 ≡ cond (eqb (get_or v 0 0) 0) (g energy_before) (g energy_after)
      go r = pick (get_or v 0 0) 0 (λ k. rw (eq-eqb _ 0 k)) (λ n. rw (ne_eqb _ 0 n, eq-eqb (get_or v 0 0) 1 (kind v r n)))

module _ (p : ℕ) (v : List ℕ) (tag : ℕ) where
  abbrev may : ℕ → Bool
  may t = may_stand tags (behind_tolerances + p) t v

  pub stands_block : tag ≡ 5 → may tag ≡ leb p 3
  unfolding by_row begins all_below
  stands_block e = ap may e ∙ block_place p

  pub stands_recharge : tag ≡ 7 → may tag ≡ leb p 4
  unfolding by_row begins all_below
  stands_recharge e = ap may e ∙ recharge_place p

  pub stands_stretches : tag ≡ 8 → may tag ≡ eqb p 0
  unfolding by_row begins all_below
  stands_stretches e = ap may e ∙ first_place p

  pub stands_energy : tag ≡ 6 → has_row tag v ≡ true
      → may tag ≡ cond (eqb (get_or v 0 0) 0) (among (behind_tolerances + p) (behind_tolerances ∷ behind_stretches ∷ [])) (among (behind_tolerances + p) block_places)
  unfolding by_row begins all_below
  stands_energy e h = ap may e ∙ go (subst (λ (t : ℕ). has_row t v ≡ true) e h)
    where
      go : has_row 6 v ≡ true → may 6
          ≡ cond (eqb (get_or v 0 0) 0) (among (behind_tolerances + p) (behind_tolerances ∷ behind_stretches ∷ [])) (among (behind_tolerances + p) block_places)
      go r = pick (get_or v 0 0) 0 (λ k. rw (eq-eqb _ 0 k)) (λ n. rw (ne_eqb _ 0 n, eq-eqb (get_or v 0 0) 1 (kind v r n)))

  never : (b : Bool) → cond b false false ≡ false
  never true = refl
  never false = refl

  stands_mark : may_stand tags (behind_tolerances + p) 1 v ≡ false
  unfolding by_row
  stands_mark = ap (λ (x : Bool). cond (begins run1 v) x false) (not_first p 0 (omega arith)) ∙ never (begins run1 v)

  -- the first four fields stand nowhere there
  pub stands_first : (n : ℕ) → length_allowed tags tag n ≡ true → (tag ≡ 5 → ⊥) → (tag ≡ 6 → ⊥) → (tag ≡ 7 → ⊥) → (tag ≡ 8 → ⊥) → may tag ≡ false
  unfolding by_row begins all_below
  stands_first n =
      by_tag (λ t. length_allowed tags t n ≡ true → (t ≡ 5 → ⊥) → (t ≡ 6 → ⊥) → (t ≡ 7 → ⊥) → (t ≡ 8 → ⊥) → may t ≡ false) tag
      (λ _ _ _ _ _. stands_mark) (λ _ _ _ _ _. not_first p 1 (omega arith)) (λ _ _ _ _ _. not_first p 2 (omega arith)) (λ _ _ _ _ _. not_first p 3 (omega arith))
      (λ _ a _ _ _. absurd (a refl)) (λ _ _ a _ _. absurd (a refl)) (λ _ _ _ a _. absurd (a refl)) (λ _ _ _ _ a. absurd (a refl))
      (λ w l _ _ _ _. absurd (false≢true (sym (no_length tag n w) ∙ l)))

-- ---- one answer: each case is known by what it says
abbrev case_of : Comes → Result (Option Bring) Refusal
case_of (brought nothing) = Err (refusal_of 9)
case_of (brought (a_number v)) = Err (refusal_of 9)
case_of (brought (a_cycle v)) = Err (refusal_of 9)
case_of (brought (the_tolerances t)) = Err (refusal_of 9)
case_of (brought (the_stretches x)) = Ok (Some (Stretch x))
case_of (brought (own_samples xs)) = Ok (Some Samples)
case_of (brought (before e)) = Ok (Some (Before e))
case_of (brought (after e)) = Ok (Some (After e))
case_of (brought (charged w)) = Ok (Some (Recharge w))
case_of foreign = Ok None
case_of (wrong n) = Err (refusal_of n)

case_said : (v : List ℕ) (c : Result (Option Bring) Refusal) → case_of (content_said v c) ≡ c
case_said v (Ok (Some b)) = brings b
  where
    brings : (b : Bring) → case_of (brought (bring_said v b)) ≡ Ok (Some b)
    brings (Stretch x) = refl
    brings Samples = refl
    brings (Before e) = refl
    brings (After e) = refl
    brings (Recharge w) = refl
case_said v (Ok None) = refl
case_said v (Err e) = ap Err (of_number e)

pub said_once : (v : List ℕ) (c d : Result (Option Bring) Refusal) → content_said v c ≡ content_said v d → c ≡ d
said_once v c d e = sym (case_said v c) ∙ ap case_of e ∙ case_said v d
