-- What a field brings: "8, 9, then its content", whatever the row; a refusal by its number; the places after the start.
-- Assumes nothing.
use mathlib.Core.Bool.{Bool, true, false, cond}
use mathlib.Core.List.{List, [], ◌∷◌}
use mathlib.Core.Path.{◌≡◌, refl}
use Prim.Native.Nat.{ℕ, ◌+◌, ◌≤◌}
use native.Mathlib.Omega.{arith}
use borrow.Author.Tests.{ne_eqb, lt-leb}
use lib.Dec.{leb, eqb}
use Rattle.rules.specs.Words.{unless, settled}
use Rattle.rules.specs.declared.Tolerances.{Tolerances}
use Rattle.rules.specs.Bench.{tolerable, most_offered}
use Rattle.rules.specs.Cycle.{valid, start_or}
use Rattle.rules.specs.Table.{Row, Matter, lookup, is_of, among, by_row, behind_tolerances, behind_stretches, behind_after, block_places, tags}
use Rattle.laws.specs.Beside.{may_stand}
use Rattle.rules.specs.Front.{Field}
use Rattle.rules.specs.Values.{count_in, are_samples, block_or}
use Rattle.rules.specs.Record.{Content, wrong, row_content, field_content}
use Rattle.laws.proofs.Tags.{pick}

-- ---- "Order for a field: 8, 9, then its content"

module _ (place : ℕ) (content : Matter → List ℕ → Content) (f : Field) where
  abbrev test : Row Matter → Bool
  test = is_of f.tag f.value

  in_order : (rows : List (Row Matter)) → lookup test (row_content place content f.value) (wrong 8) rows
      ≡ unless (wrong 8) (lookup test (λ _. true) false rows)
      (unless (wrong 9) (lookup test (λ r. among place r.stands) false rows) (lookup test (λ r. content r.holds f.value) (wrong 8) rows))
  unfolding unless
  in_order [] = refl
  in_order (r ∷ rows) = go (test r) (in_order rows)
    where
      go : (b : Bool) → lookup test (row_content place content f.value) (wrong 8) rows
          ≡ unless (wrong 8) (lookup test (λ _. true) false rows)
          (unless (wrong 9) (lookup test (λ q. among place q.stands) false rows) (lookup test (λ q. content q.holds f.value) (wrong 8) rows))
          → cond b (row_content place content f.value r) (lookup test (row_content place content f.value) (wrong 8) rows)
          ≡ unless (wrong 8) (cond b true (lookup test (λ _. true) false rows))
          (unless (wrong 9) (cond b (among place r.stands) (lookup test (λ q. among place q.stands) false rows))
          (cond b (content r.holds f.value) (lookup test (λ q. content q.holds f.value) (wrong 8) rows)))
      go true e = refl
      go false e = e

  pub content_order : field_content place content f
      ≡ unless (wrong 8) (by_row tags f.tag f.value (λ _. true) false)
      (unless (wrong 9) (may_stand tags place f.tag f.value) (by_row tags f.tag f.value (λ r. content r.holds f.value) (wrong 8)))
  unfolding field_content by_row
  content_order = in_order tags

-- ---- a refusal by its number, 0 where there is none

module _ {A : Type 0} (refused : ℕ → A) (answer : A) where
  pub start_or_lem : (b : List ℕ) (t : Tolerances) → start_or refused b t answer ≡ (let n = start_or (λ k. k) b t 0 in settled n answer (refused n))
  unfolding unless
  start_or_lem b t = go (valid b) (tolerable t)
    where
      go : (x y : Bool) → unless (refused 2) x (unless (refused 3) y answer) ≡ (let n = unless 2 x (unless 3 y 0) in settled n answer (refused n))
      go true true = refl
      go true false = refl
      go false y = refl

  pub block_or_lem : (offered first : ℕ) (q : List ℕ) → block_or refused offered first q answer ≡ (let n = block_or (λ k. k) offered first q 0 in settled n answer (refused n))
  unfolding unless
  block_or_lem offered first q = go (eqb first offered) (leb (offered + count_in q) most_offered) (are_samples q (count_in q))
    where
      go : (x y z : Bool) → unless (refused 6) x (unless (refused 7) y (unless (refused 5) z answer))
          ≡ (let n = unless 6 x (unless 7 y (unless 5 z 0)) in settled n answer (refused n))
      go true true true = refl
      go true true false = refl
      go true false z = refl
      go false y z = refl

-- ---- the places after the start, counted from it

module _ (p : ℕ) where
  pub first_place : among (behind_tolerances + p) (behind_tolerances ∷ []) ≡ eqb p 0
  first_place = pick p 0 (λ e. rw e) (λ n. rw (ne_eqb p 0 n, ne_eqb (4 + p) 4 (λ e. n (omega arith))))

  pub before_place : among (behind_tolerances + p) (behind_tolerances ∷ behind_stretches ∷ []) ≡ leb p 1
  before_place =
      pick p 0 (λ e. rw e) (λ n₀. pick p 1 (λ e. rw e) (λ n₁.
      rw (lt-leb p 1 (omega arith), ne_eqb (4 + p) 4 (λ e. n₀ (omega arith)), ne_eqb (4 + p) 5 (λ e. n₁ (omega arith)))))

  pub block_place : among (behind_tolerances + p) block_places ≡ leb p 3
  block_place =
      pick p 0 (λ e. rw e) (λ n₀. pick p 1 (λ e. rw e) (λ n₁. pick p 2 (λ e. rw e) (λ n₂. pick p 3 (λ e. rw e) (λ n₃.
      rw (
        lt-leb p 3 (omega arith),
        ne_eqb (4 + p) 4 (λ e. n₀ (omega arith)),
        ne_eqb (4 + p) 5 (λ e. n₁ (omega arith)),
        ne_eqb (4 + p) 6 (λ e. n₂ (omega arith)),
        ne_eqb (4 + p) 7 (λ e. n₃ (omega arith)),
      )))))

  pub recharge_place : among (behind_tolerances + p) (behind_after ∷ block_places) ≡ leb p 4
  recharge_place =
      pick p 0 (λ e. rw e) (λ n₀. pick p 1 (λ e. rw e) (λ n₁. pick p 2 (λ e. rw e) (λ n₂. pick p 3 (λ e. rw e) (λ n₃. pick p 4 (λ e. rw e) (λ n₄.
      rw (
        lt-leb p 4 (omega arith),
        ne_eqb (4 + p) 8 (λ e. n₄ (omega arith)),
        ne_eqb (4 + p) 4 (λ e. n₀ (omega arith)),
        ne_eqb (4 + p) 5 (λ e. n₁ (omega arith)),
        ne_eqb (4 + p) 6 (λ e. n₂ (omega arith)),
        ne_eqb (4 + p) 7 (λ e. n₃ (omega arith)),
      ))))))

  -- none of the first four fields may stand there
  pub not_first : (k : ℕ) → k ≤ 3 → among (behind_tolerances + p) (k ∷ []) ≡ false
  not_first k h = rw (ne_eqb (4 + p) k (λ e. omega arith))
