-- The table, tag by tag: the lengths that each tag allows, the tags that there are, the rows by mark and kind.
-- Assumes nothing.
use mathlib.Core.Bool.{Bool, true, false, cond, ◌&&◌, false≢true}
use mathlib.Core.Path.{◌≡◌, refl, sym, subst, ◌∙◌}
use Prim.Native.Nat.{ℕ, suc, ◌-◌, ◌≤◌}
use native.Mathlib.Omega.{arith}
use borrow.Author.Tests.{leb-true, eqb-true, eqb-false, ne_eqb}
use lib.Dec.{leb, eqb}
use Rattle.numbers.proofs.Tests.{both}
use Rattle.rules.specs.Cycle.{least_bytes, most_bytes}
use Rattle.rules.specs.Table.{is_tag, length_allowed, tags}
use Rattle.laws.specs.Beside.{is_block}
use Rattle.laws.proofs.Samples.{block_of}

-- ---- a number is k, or it is not

pub pick : {A : Type 0} (n k : ℕ) → (n ≡ k → A) → ((n ≡ k → ⊥) → A) → A
pick {A} n k this other = go (eqb n k) refl
  where
    go : (b : Bool) → eqb n k ≡ b → A
    go true e = this (eqb-true n k e)
    go false e = other (eqb-false n k e)

-- a test that is asked by `cond`, once and twice
once : (b : Bool) → cond b true false ≡ b
once true = refl
once false = refl

twice : (b : Bool) → cond b true (cond b true false) ≡ b
twice true = refl
twice false = refl

-- ---- the lengths of each tag

module _ (n : ℕ) where
  pub of_mark : length_allowed tags 1 n ≡ eqb n 4
  unfolding length_allowed
  of_mark = once (eqb n 4)

  pub of_number : length_allowed tags 2 n ≡ eqb n 17
  unfolding length_allowed
  of_number = once (eqb n 17)

  pub of_cycle : length_allowed tags 3 n ≡ (leb least_bytes n && leb n most_bytes)
  unfolding length_allowed
  of_cycle = once (leb least_bytes n && leb n most_bytes)

  pub of_tolerances : length_allowed tags 4 n ≡ eqb n 6
  unfolding length_allowed
  of_tolerances = once (eqb n 6)

  pub of_block : length_allowed tags 5 n ≡ (leb 21 n && is_block (n - 21))
  unfolding length_allowed
  of_block = once (leb 21 n && is_block (n - 21))

  pub of_energy : length_allowed tags 6 n ≡ eqb n 9
  unfolding length_allowed
  of_energy = twice (eqb n 9)

  pub of_recharge : length_allowed tags 7 n ≡ eqb n 4
  unfolding length_allowed
  of_recharge = once (eqb n 4)

  pub of_stretches : length_allowed tags 8 n ≡ eqb n 6
  unfolding length_allowed
  of_stretches = once (eqb n 6)

-- the number is no tag
abbrev pub NoTag : ℕ → Type 0
NoTag tag = (tag ≡ 1 → ⊥) × (tag ≡ 2 → ⊥) × (tag ≡ 3 → ⊥) × (tag ≡ 4 → ⊥) × (tag ≡ 5 → ⊥) × (tag ≡ 6 → ⊥) × (tag ≡ 7 → ⊥) × (tag ≡ 8 → ⊥)

pub no_length : (tag n : ℕ) → NoTag tag → length_allowed tags tag n ≡ false
unfolding length_allowed
no_length tag n (a, b, c, d, e, f, g, h) =
    simp (ne_eqb tag 1 a, ne_eqb tag 2 b, ne_eqb tag 3 c, ne_eqb tag 4 d, ne_eqb tag 5 e, ne_eqb tag 6 f, ne_eqb tag 7 g, ne_eqb tag 8 h)

pub no_tag : (tag : ℕ) → NoTag tag → is_tag tags tag ≡ false
unfolding is_tag
no_tag tag (a, b, c, d, e, f, g, h) =
    simp (ne_eqb tag 1 a, ne_eqb tag 2 b, ne_eqb tag 3 c, ne_eqb tag 4 d, ne_eqb tag 5 e, ne_eqb tag 6 f, ne_eqb tag 7 g, ne_eqb tag 8 h)

-- ---- by the tag

pub by_tag : (P : ℕ → Type 0) (tag : ℕ) → P 1 → P 2 → P 3 → P 4 → P 5 → P 6 → P 7 → P 8 → (NoTag tag → P tag) → P tag
by_tag P tag a b c d e f g h none =
    pick tag 1 (λ q. rw q a) (λ n₁. pick tag 2 (λ q. rw q b) (λ n₂. pick tag 3 (λ q. rw q c) (λ n₃. pick tag 4 (λ q. rw q d) (λ n₄.
    pick tag 5 (λ q. rw q e) (λ n₅. pick tag 6 (λ q. rw q f) (λ n₆. pick tag 7 (λ q. rw q g) (λ n₇.
    pick tag 8 (λ q. rw q h) (λ n₈. none (n₁, n₂, n₃, n₄, n₅, n₆, n₇, n₈)))))))))

pub known_tag : (tag : ℕ) → 1 ≤ tag → tag ≤ 8 → is_tag tags tag ≡ true
unfolding is_tag
known_tag tag =
    by_tag (λ t. 1 ≤ t → t ≤ 8 → is_tag tags t ≡ true) tag (λ _ _. refl) (λ _ _. refl) (λ _ _. refl) (λ _ _. refl) (λ _ _. refl) (λ _ _. refl) (λ _ _. refl)
    (λ _ _. refl) (λ w l h. absurd (none w l h))
  where
    less : (k : ℕ) → tag ≤ suc k → (tag ≡ suc k → ⊥) → tag ≤ k
    less k h n = omega arith

    none : NoTag tag → 1 ≤ tag → tag ≤ 8 → ⊥
    none (a, b, c, d, e, f, g, i) l h = let t = less 0 (less 1 (less 2 (less 3 (less 4 (less 5 (less 6 (less 7 h i) g) f) e) d) c) b) a in omega arith

-- what a length says that its tag allows
pub record Sizes (tag n : ℕ) : Type 0 where
  pub tags_are : (1 ≤ tag) × (tag ≤ 8)
  pub least : 4 ≤ n
  pub most : n ≤ most_bytes
  pub mark : tag ≡ 1 → n ≡ 4
  pub number : tag ≡ 2 → n ≡ 17
  pub cycle : tag ≡ 3 → (least_bytes ≤ n) × (n ≤ most_bytes)
  pub tolerances : tag ≡ 4 → n ≡ 6
  pub block : tag ≡ 5 → (21 ≤ n) × (is_block (n - 21) ≡ true)
  pub energy : tag ≡ 6 → n ≡ 9
  pub recharge : tag ≡ 7 → n ≡ 4
  pub stretches : tag ≡ 8 → n ≡ 6

pub sizes : (tag n : ℕ) → length_allowed tags tag n ≡ true → Sizes tag n
sizes tag n h = record {
  tags_are = (bounds.0, bounds.1);
  least = bounds.2;
  most = bounds.3;
  mark = mark;
  number = number;
  cycle = cycle;
  tolerances = tolerances;
  block = block;
  energy = energy;
  recharge = recharge;
  stretches = stretches;
}
  where
    row : (k : ℕ) → tag ≡ k → length_allowed tags k n ≡ true
    row k e = subst (λ (t : ℕ). length_allowed tags t n ≡ true) e h

    mark : tag ≡ 1 → n ≡ 4
    mark e = eqb-true n 4 (sym (of_mark n) ∙ row 1 e)

    number : tag ≡ 2 → n ≡ 17
    number e = eqb-true n 17 (sym (of_number n) ∙ row 2 e)

    cycle : tag ≡ 3 → (least_bytes ≤ n) × (n ≤ most_bytes)
    cycle e = let (a, b) = both (leb least_bytes n) (leb n most_bytes) (sym (of_cycle n) ∙ row 3 e) in (leb-true least_bytes n a, leb-true n most_bytes b)

    tolerances : tag ≡ 4 → n ≡ 6
    tolerances e = eqb-true n 6 (sym (of_tolerances n) ∙ row 4 e)

    block : tag ≡ 5 → (21 ≤ n) × (is_block (n - 21) ≡ true)
    block e = let (a, b) = both (leb 21 n) (is_block (n - 21)) (sym (of_block n) ∙ row 5 e) in (leb-true 21 n a, b)

    energy : tag ≡ 6 → n ≡ 9
    energy e = eqb-true n 9 (sym (of_energy n) ∙ row 6 e)

    recharge : tag ≡ 7 → n ≡ 4
    recharge e = eqb-true n 4 (sym (of_recharge n) ∙ row 7 e)

    stretches : tag ≡ 8 → n ≡ 6
    stretches e = eqb-true n 6 (sym (of_stretches n) ∙ row 8 e)

    bounds : (1 ≤ tag) × (tag ≤ 8) × (4 ≤ n) × (n ≤ most_bytes)
    bounds =
        pick tag 1 (λ e. let s = mark e in (omega arith, omega arith, omega arith, omega arith)) (λ a.
        pick tag 2 (λ e. let s = number e in (omega arith, omega arith, omega arith, omega arith)) (λ b.
        pick tag 3 (λ e. let s = cycle e in (omega arith, omega arith, omega arith, omega arith)) (λ c.
        pick tag 4 (λ e. let s = tolerances e in (omega arith, omega arith, omega arith, omega arith)) (λ d.
        pick tag 5 (λ e. let s = block e in let r = block_of _ s.1 in (omega arith, omega arith, omega arith, omega arith)) (λ f.
        pick tag 6 (λ e. let s = energy e in (omega arith, omega arith, omega arith, omega arith)) (λ g.
        pick tag 7 (λ e. let s = recharge e in (omega arith, omega arith, omega arith, omega arith)) (λ i.
        pick tag 8 (λ e. let s = stretches e in (omega arith, omega arith, omega arith, omega arith)) (λ j.
        absurd (false≢true (sym (no_length tag n (a, b, c, d, f, g, i, j)) ∙ h))))))))))
