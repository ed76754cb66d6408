-- W against the same weighting of the unrounded rates: never above it, and less than 2 below it.
-- Assumes nothing.
use mathlib.Core.Logic.{⊎_elim}
use mathlib.Core.Path.{◌≡◌, refl, sym, ap}
use Prim.Native.Nat.{ℕ, zero, suc, ◌+◌, ◌*◌, ◌/◌, ◌≤◌, ◌<◌}
use native.Mathlib.Nat.{div-mul-le_self, eq-or-lt_of_le, le_of_lt, le_of_mul-le-mul_right, le_of_suc-le-suc, le_refl, le_step, lt-div-mul-add, mul-le-mul_left, mul-lt-mul_of_pos_left, mul-pos, not-suc-le-zero}
use native.Mathlib.Omega.{arith}
use borrow.Author.Tests.{eq-eqb, ne_eqb}
use Rattle.rules.specs.Words.{fold}
use Rattle.numbers.proofs.Range.{fold_same}
use Rattle.rules.specs.Closing.{rate, weighing, weight, weighted}
use Rattle.rules.specs.Exact.{denominator, unrounded, exact_weighing}
use Rattle.laws.specs.Beside.{rates}
use Rattle.laws.proofs.Weighing.{weighings, weight_pos}

-- ---- the unrounded rates over their denominator

-- it is not 0 where no distance is
pub denominator_pos : (d : ℕ → ℕ) (n : ℕ) → ((c : ℕ) → c < n → 0 < d c) → 0 < denominator n d
unfolding fold
denominator_pos d zero h = omega arith
denominator_pos d (suc n) h = mul-pos (denominator_pos d n (λ c l. h c (le_step l))) (h n (le_refl (suc n)))

-- a cycle that is not among the first n changes nothing in their product
others : (e d : ℕ → ℕ) (n c : ℕ) → n ≤ c → unrounded n e d c ≡ denominator n d
others e d n c l = fold_same ◌*◌ 1 _ d n (λ k h. rw (ne_eqb k c (λ q. absurd (omega (arith, q)))) refl)

-- over it they are 100 e_c / d_c
pub unrounded_is : (e d : ℕ → ℕ) (n c : ℕ) → c < n → unrounded n e d c * d c ≡ denominator n d * (100 * e c)
unfolding fold
unrounded_is e d zero c l = absurd (not-suc-le-zero l)
unrounded_is e d (suc n) c l =
    ⊎_elim
    (λ q. rw (eq-eqb n c (sym q), others e d n c (omega (arith, q)), q) (omega arith))
    (λ h. rw (ne_eqb n c (λ q. absurd (omega (arith, q)))) (omega (arith, ap (λ (x : ℕ). x * d n) (unrounded_is e d n c h))))
    (eq-or-lt_of_le (le_of_suc-le-suc l))

-- ---- one rate, and their weighing

-- one rate, where u / k is 100 e / d
module _ (k e d u : ℕ) (moved : 0 < d) (exact : u * d ≡ k * (100 * e)) where
  -- it is not above the unrounded one
  not_above : k * rate e d ≤ u
  not_above = le_of_mul-le-mul_right (omega (arith, mul-le-mul_left k (div-mul-le_self (100 * e) d))) moved

  -- nor more than 1 below it
  one_below : u ≤ k * rate e d + k
  one_below = le_of_mul-le-mul_right (omega (arith, mul-le-mul_left k (le_of_lt (lt-div-mul-add {a = 100 * e} moved)))) moved

-- from the weighings p of the rates and u of the unrounded ones to the quotient of p by the weight m
module _ (k m p u : ℕ) where
  -- the quotient is no more, where the weighing is no more
  under : k * p ≤ u → p / m * (k * m) ≤ u
  under h = omega (arith, mul-le-mul_left k (div-mul-le_self p m))

  -- the quotient is less than 2 less, where the weighing is at most 1 for each weight less
  within_two : 0 < k → 0 < m → u ≤ k * p + k * m → u < (p / m + 2) * (k * m)
  within_two k-pos m-pos h = omega (arith, mul-lt-mul_of_pos_left (lt-div-mul-add {a = p} m-pos) k-pos)

module _ (E n : ℕ) (e d : ℕ → ℕ) (fits : e 0 + e 1 ≤ E) (some : 1 ≤ E) (three : 3 ≤ n) (moved : (c : ℕ) → c < n → 0 < d c) where
  abbrev k : ℕ
  k = denominator n d

  -- cycle c's rate against its unrounded one
  at : (c : ℕ) → c < n → (k * rates e d c ≤ unrounded n e d c) × (unrounded n e d c ≤ k * rates e d c + k)
  at c h = (not_above k _ _ _ (moved c h) (unrounded_is e d n c h), one_below k _ _ _ (moved c h) (unrounded_is e d n c h))

  -- W is never above the same weighting of the unrounded rates
  pub never_above : weighted E n e (rates e d) * (k * weight E n) ≤ exact_weighing E n e d
  never_above =
      under k (weight E n) (weighing E n e (rates e d)) (exact_weighing E n e d)
      (omega (arith, weighings E n e fits k 0 1 0 (rates e d) (unrounded n e d) (omega arith) (λ c h. omega (arith, at c h))))

  -- W is less than 2 below it
  pub two_below : exact_weighing E n e d < (weighted E n e (rates e d) + 2) * (k * weight E n)
  two_below =
      within_two k (weight E n) (weighing E n e (rates e d)) (exact_weighing E n e d) (denominator_pos d n moved) (weight_pos E n some three)
      (omega (arith, weighings E n e fits 1 0 k k (unrounded n e d) (rates e d) (omega arith) (λ c h. omega (arith, at c h))))
