-- Sums over the numbers below n: one term grows, no term counts, bounds of a sum from bounds of its terms, a sum that a loop forms, and how many of n tests pass.
-- Assumes nothing.
use mathlib.Core.Bool.{Bool, true, false, ◌&&◌, and-true, and-false}
use mathlib.Core.List.{List}
use mathlib.Core.Logic.{⊎_elim}
use mathlib.Core.Path.{◌≡◌, refl, sym, ap, ap₂, ◌∙◌}
use Prim.Native.Nat.{ℕ, zero, suc, ◌+◌, ◌*◌, ◌^◌, ◌≤◌, ◌<◌, zero-le}
use native.Mathlib.Nat.{le_refl, le_step, le_of_suc-le-suc, not-suc-le-zero, eq-or-lt_of_le, suc-mul, add-le-add, mul-le-mul_right}
use native.Mathlib.Numerals.{add-one}
use native.Mathlib.Omega.{arith}
use borrow.Author.Tests.{ne_eqb}
use lib.Dec.{T, ltb, eqb, eqb-suc-suc}
use lib.IntN.{ℤ, pos, ◌+ℤ◌}
use lib.ListN.{length, get_or, take}
use mir.Syntax.{Width}
use mir.Val.{SFits, hbits, to_z, of_z}
use Rattle.std.specs.List.{sum_by}
use Rattle.std.proofs.lemmas.List.Sums.{sum_by_more}
use Rattle.rules.specs.Words.{fold, sum, sumℤ, bit, all_below}
use Rattle.numbers.specs.Whole.{Sized}
use Rattle.numbers.proofs.Range.{fold_same, fold_more, fold_none, sum_ℕ}
use Rattle.numbers.proofs.Tests.{bit_most}
use Rattle.numbers.proofs.Whole.{of_nat, weaken, sized_add}
use Rattle.numbers.proofs.Signed.{sfits, read}

pub sum_none : (f : ℕ → ℕ) (n : ℕ) → ((k : ℕ) → k < n → f k ≡ 0) → sum f n ≡ 0
sum_none = fold_none ◌+◌ 0 sum_ℕ

-- the term at q is x more than before, and the others are as before
pub sum_grown : (f g : ℕ → ℕ) (q x n : ℕ) → q < n → f q ≡ g q + x → ((k : ℕ) → (k ≡ q → ⊥) → f k ≡ g k) → sum f n ≡ sum g n + x
unfolding fold
sum_grown f g q x zero l e h = absurd (not-suc-le-zero l)
sum_grown f g q x (suc n) l e h =
    ⊎_elim
    (λ (i : q ≡ n).
    let r : sum f n ≡ sum g n = fold_same ◌+◌ 0 f g n (λ k m. h k (λ (j : k ≡ q). omega arith)) in
    let t : f n ≡ g n + x = rw (← i) e in
    omega arith)
    (λ (m : q < n).
    let r : sum f n ≡ sum g n + x = sum_grown f g q x n m e h in
    let t : f n ≡ g n = h n (λ (j : n ≡ q). omega arith) in
    omega arith)
    (eq-or-lt_of_le (le_of_suc-le-suc l))

-- a sum of natural numbers, as a signed number
pub sum_pos : (f : ℕ → ℕ) (n : ℕ) → sumℤ (λ k. pos (f k)) n ≡ pos (sum f n)
unfolding fold
sum_pos f zero = refl
sum_pos f (suc n) = ap (λ (z : ℤ). z +ℤ pos (f n)) (sum_pos f n)

-- n terms, each at most b
pub sum_most : (b : ℕ) (f : ℕ → ℕ) (n : ℕ) → ((k : ℕ) → k < n → f k ≤ b) → sum f n ≤ n * b
unfolding fold
sum_most b f zero h = zero-le
sum_most b f (suc n) h = rw (suc-mul n b) (add-le-add (sum_most b f n (λ k l. h k (le_step l))) (h n (le_refl (suc n))))

-- n terms, each within b either way
pub sized_sum : (b : ℕ) (f : ℕ → ℤ) (n : ℕ) → ((k : ℕ) → k < n → Sized b (f k)) → Sized (n * b) (sumℤ f n)
unfolding fold
sized_sum b f zero h = of_nat (omega arith)
sized_sum b f (suc n) h = weaken (omega (arith, suc-mul n b)) (sized_add (sized_sum b f n (λ k l. h k (le_step l))) (h n (le_refl (suc n))))

-- as an iterator sums the first n numbers of a list
pub sum_taken : (f : ℕ → ℕ) (l : List ℕ) (n : ℕ) → n ≤ length l → sum_by f (take n l) ≡ sum (λ k. f (get_or l k 0)) n
unfolding fold
sum_taken f l zero h = refl
sum_taken f l (suc n) h = rw add-one at (sum_by_more f l n 0 h) ∙ ap (λ (x : ℕ). x + f (get_or l n 0)) (sum_taken f l n (omega arith))

-- ---- a loop that forms the sum of n terms f 0, f 1, .. in the bits s of a signed number of width w

-- the term x is added: that fits, and the sum is of one term more
pub record Added (w : Width) (f : ℕ → ℤ) (s k : ℕ) (x : ℤ) : Type 0 where
  pub fits : SFits w (to_z w s +ℤ x)
  pub is : to_z w (of_z w (to_z w s +ℤ x)) ≡ sumℤ f (k + 1)

-- of at most m terms, within b either way
pub added : {w : Width} {m b n : ℕ} {f : ℕ → ℤ} {s k : ℕ} {x : ℤ} → n ≤ m → T (ltb (m * b) (2 ^ hbits w)) → ((k : ℕ) → k < n → Sized b (f k))
    → to_z w s ≡ sumℤ f k → k < n → x ≡ f k → Added w f s k x
added {w} {m} {b} {n} {f} {s} {k} {x} few small h p l term = record { fits = fits; is = read fits ∙ more }
  where
    more : to_z w s +ℤ x ≡ sumℤ f (k + 1)
    more = ap₂ ◌+ℤ◌ p term ∙ sym (fold_more ◌+ℤ◌ (pos 0) f k)

    sized : Sized (m * b) (sumℤ f (k + 1))
    sized = weaken (mul-le-mul_right b (let g : k + 1 ≤ m = omega arith in g)) (sized_sum b f (k + 1) (λ j m. h j (omega arith)))

    fits : SFits w (to_z w s +ℤ x)
    fits = rw more (sfits w small sized)

-- ---- a loop that counts how many of n tests pass

-- s of the tests below k do
pub record Counting (n : ℕ) (test : ℕ → Bool) (s k : ℕ) : Type 0 where
  pub most : k ≤ n
  pub is : s ≡ sum (λ j. bit (test j)) k

pub counting_none : {n : ℕ} {test : ℕ → Bool} → Counting n test 0 0
unfolding fold
counting_none = record { most = zero-le; is = refl }

pub counting_more : {n : ℕ} {test : ℕ → Bool} {s k x : ℕ} → Counting n test s k → k < n → x ≡ bit (test k) → Counting n test (s + x) (k + 1)
counting_more {test = test} {k = k} p h e = record { most = omega arith; is = ap₂ ◌+◌ p.is e ∙ sym (fold_more ◌+◌ 0 (λ j. bit (test j)) k) }

pub counting_few : {n : ℕ} {test : ℕ → Bool} {s k : ℕ} → Counting n test s k → s ≤ k
counting_few {test = test} {k = k} p = let m = sum_most 1 (λ j. bit (test j)) k (λ j _. bit_most (test j)) in omega (arith, p.is)

-- all pass where n do
all_pass : (n : ℕ) (test : ℕ → Bool) → eqb (sum (λ j. bit (test j)) n) n ≡ all_below n test
unfolding fold all_below
all_pass zero test = refl
all_pass (suc n) test = go (test n) (all_pass n test)
  where
    few : ℕ
    few = sum (λ j. bit (test j)) n

    go : (b : Bool) → eqb few n ≡ all_below n test → eqb (few + bit b) (suc n) ≡ (all_below n test && b)
    go true e = rw (add-one, eqb-suc-suc) (e ∙ sym (and-true (all_below n test)))
    go false e =
        let m = sum_most 1 (λ j. bit (test j)) n (λ j _. bit_most (test j)) in
        ne_eqb (few + 0) (suc n) (λ e. omega arith) ∙ sym (and-false (all_below n test))

pub counting_all : {n : ℕ} {test : ℕ → Bool} {s k : ℕ} → Counting n test s k → n ≤ k → eqb s n ≡ all_below n test
counting_all {n} {test} {s} {k} p h = let e : k ≡ n = omega arith in ap (λ (x : ℕ). eqb x n) (p.is ∙ ap (sum (λ j. bit (test j))) e) ∙ all_pass n test
