-- Document 02, L11: the range against R*, the one from unrounded consumptions, as a fraction of whole numbers.
-- Assumes nothing.
use mathlib.Core.Logic.{inl, inr, ⊎_elim}
use mathlib.Core.Path.{◌≡◌, sym, ap}
use Prim.Native.Nat.{ℕ, ◌+◌, ◌-◌, ◌*◌, ◌/◌, ◌≤◌, ◌<◌}
use native.Mathlib.Nat.{div-mul-le_self, eq-or-lt_of_le, le-div_iff_mul-le, le_of_mul-le-mul_right, lt-div-mul-add, lt_of_mul-lt-mul_right, mul-le-mul_left, mul-le-mul_right, mul-lt-mul_of_pos_left, mul-lt-mul_of_pos_right, mul-pos}
use native.Mathlib.Omega.{arith}
use Rattle.rules.specs.Closing.{weight, weighted, range}
use Rattle.rules.specs.Exact.{denominator, exact_weighing}
use Rattle.numbers.proofs.Order.{side}
use Rattle.numbers.proofs.Extremes.{least_at, greatest_at}
use Rattle.laws.specs.Beside.{rates}
use Rattle.laws.specs.Near.{NearExact}
use Rattle.laws.proofs.Weighing.{weight_pos, least_rate, greatest_rate, weighted_at_least_one}
use Rattle.laws.proofs.Closeness.{denominator_pos, unrounded_is, never_above, two_below}

-- W* is u / k, so R* is 5E k / (72 u); W is not 0, never above W*, and less than 2 below it
module _ (E k u W : ℕ) (some : 1 ≤ E) (k-pos : 0 < k) (W-pos : 1 ≤ W) (lo : W * k ≤ u) (hi : u < (W + 2) * k) where
  abbrev R : ℕ
  R = range E W

  abbrev top : ℕ
  top = 5 * E * k

  abbrev bottom : ℕ
  bottom = 72 * u

  bottom_pos : 0 < bottom
  bottom_pos = let p = mul-pos W-pos k-pos in omega (arith, lo)

  not_below : top / bottom ≤ R
  not_below =
      let x = top / bottom in
      let p : x * bottom ≤ top = div-mul-le_self top bottom in
      let q : x * 72 * (W * k) ≤ x * 72 * u = mul-le-mul_left (x * 72) lo in
      let some-W : 0 < 72 * W = omega arith in
      (le-div_iff_mul-le some-W).1 (le_of_mul-le-mul_right (omega (arith, p, q)) k-pos)

  -- R × W is never above 5E/72, and W* < W+2
  above_by : R * W * bottom < top * (W + 2)
  above_by =
      let p : R * (72 * W) * u ≤ 5 * E * u = mul-le-mul_right u (div-mul-le_self (5 * E) (72 * W)) in
      let q : 5 * E * u < 5 * E * ((W + 2) * k) = mul-lt-mul_of_pos_left hi (omega arith) in
      omega (arith, p, q)

  -- with one metre more than its whole ones R* is passed
  passed : top < (top / bottom + 1) * bottom
  passed = omega (arith, lt-div-mul-add {a = top} bottom_pos)

  -- were R higher, R* (W+2) would be at most (R - j) (W+2), and that is no more than R W
  by_metres : (j : ℕ) → 2 * R ≤ j * (W + 2) → R ≤ top / bottom + j
  by_metres j h = ⊎_elim (λ l. l) (λ more. absurd (higher more)) (side R (top / bottom + j))
    where
      higher : top / bottom + j < R → ⊥
      higher more =
          let r = top / bottom + 1 in
          let i = R - (r + j) in
          let whole : R ≡ r + j + i = omega (arith, more) in
          let p : top * (W + 2) < r * bottom * (W + 2) = mul-lt-mul_of_pos_right passed (omega arith) in
          let q : R * W < r * (W + 2) = lt_of_mul-lt-mul_right bottom (omega (arith, above_by, p)) in
          omega (arith, ap (λ (x : ℕ). x * W) whole, whole, q, h)

-- ---- of n finished cycles of energies e and distances d, and of the whole energy E

module _ (E n : ℕ) (e d : ℕ → ℕ) (fits : e 0 + e 1 ≤ E) (some : 1 ≤ E) (three : 3 ≤ n) (moved : (c : ℕ) → c < n → 0 < d c)
    (rated : (c : ℕ) → c < n → 1 ≤ rates e d c) where
  abbrev W : ℕ
  W = weighted E n e (rates e d)

  pub near_exact : NearExact E n e d W (range E W)
  near_exact =
      let k = denominator n d * weight E n in
      let u = exact_weighing E n e d in
      let k-pos : 0 < k = mul-pos (denominator_pos d n moved) (weight_pos E n some three) in
      let W-pos = weighted_at_least_one E n e (rates e d) fits some three rated in
      let low = least_rate E n e (rates e d) fits some three _ (λ c l. least_at (rates e d) 0 (n - 1) c (omega arith) (omega arith)) in
      let high = greatest_rate E n e (rates e d) fits some three _ (λ c l. greatest_at (rates e d) 0 (n - 1) c (omega arith) (omega arith)) in
      let lo = never_above E n e d fits some three moved in
      let hi = two_below E n e d fits some three moved in
      let not = not_below E k u W some k-pos W-pos lo hi in
      let above = above_by E k u W some k-pos W-pos lo hi in
      let by = by_metres E k u W some k-pos W-pos lo hi in
      record {
        unrounded_is = (denominator_pos d n moved, unrounded_is e d n);
        range_is_a_number = bottom_pos E k u W some k-pos W-pos lo hi;
        weighted_between = (omega (arith, low), omega (arith, high));
        weighted_close = (lo, hi);
        range_not_below = omega (arith, not);
        range_above_by = omega (arith, above);
        metres_above = by;
        one_metre = λ h. ⊎_elim (λ q. inl (sym q)) (λ more. inr (omega (arith, more, by 1 (omega (arith, h))))) (eq-or-lt_of_le not);
      }
