-- What the weighing keeps: an order between two rates of every cycle holds of their weighings. So W lies between the least and the greatest rate.
-- Assumes nothing.
use mathlib.Core.Path.{◌≡◌, sym, ap, ◌∙◌}
use Prim.Native.Nat.{ℕ, zero, suc, ◌+◌, ◌-◌, ◌*◌, ◌≤◌, ◌<◌}
use native.Mathlib.Nat.{add-le-add, div-le_of_le-mul, le-div_iff_mul-le, mul-le-mul_left, mul-le-mul_right, mul-pos}
use native.Mathlib.Omega.{arith}
use borrow.Author.Tests.{le-ltb}
use Rattle.rules.specs.Words.{fold, sum}
use Rattle.numbers.proofs.Range.{fold_same, fold_split, sum_le, sum_ℕ}
use Rattle.rules.specs.Closing.{weighing, weight, weighted}
use Rattle.rules.specs.Trace.{weight_of}

module _ (k a : ℕ) where
  -- the sum of the rates k q + a: k times the sum of q, and a for each
  sum_linear : (q : ℕ → ℕ) (n : ℕ) → sum (λ c. k * q c + a) n ≡ k * sum q n + a * n
  unfolding fold
  sum_linear q zero = omega arith
  sum_linear q (suc n) = omega (arith, sum_linear q n)

  -- the terms of their weighing, where q₁ and q₂ are the first two rates and s the sum of the m others
  terms : (m e₁ e₂ r q₁ q₂ s : ℕ)
      → m * ((k * q₁ + a) * e₁ + (k * q₂ + a) * e₂) + r * (k * s + a * m) ≡ k * (m * (q₁ * e₁ + q₂ * e₂) + r * s) + a * ((e₁ + e₂ + r) * m)
  terms m e₁ e₂ r q₁ q₂ s = omega arith

-- the weights of the first two rates, beside the others' sum t
two_first : (m e₁ e₂ r q₁ q₂ s t : ℕ) → t ≡ r * s + 0 * m → m * (q₁ * e₁ + q₂ * e₂) + r * s ≡ 0 + m * e₁ * q₁ + m * e₂ * q₂ + t
two_first m e₁ e₂ r q₁ q₂ s t h = omega (arith, h)

module _ (E n : ℕ) (e : ℕ → ℕ) (fits : e 0 + e 1 ≤ E) where
  -- the weighing of the rates k q + a: k times the weighing of q, and a times the weight
  weighing_linear : (k a : ℕ) (q : ℕ → ℕ) → weighing E n e (λ c. k * q c + a) ≡ k * weighing E n e q + a * weight E n
  unfolding weighing
  weighing_linear k a q =
      let r = E - e 0 - e 1 in
      let whole : e 0 + e 1 + r ≡ E = omega arith in
      rw (sum_linear k a (λ c. q (2 + c)) (n - 2), terms k a (n - 2) (e 0) (e 1) r (q 0) (q 1) (sum (λ c. q (2 + c)) (n - 2)), whole)

  -- higher rates weigh no less
  weighing_le : (x y : ℕ → ℕ) → 2 ≤ n → ((c : ℕ) → c < n → x c ≤ y c) → weighing E n e x ≤ weighing E n e y
  unfolding weighing
  weighing_le x y two h =
      add-le-add
      (mul-le-mul_left (n - 2) (add-le-add (mul-le-mul_right (e 0) (h 0 (omega arith))) (mul-le-mul_right (e 1) (h 1 (omega arith)))))
      (mul-le-mul_left (E - e 0 - e 1) (sum_le _ _ (n - 2) (λ c l. h (2 + c) (omega arith))))

  -- an order between the rates k x + a and l y + b of every cycle holds of their weighings
  pub weighings : (k a l b : ℕ) (x y : ℕ → ℕ) → 2 ≤ n → ((c : ℕ) → c < n → k * x c + a ≤ l * y c + b)
      → k * weighing E n e x + a * weight E n ≤ l * weighing E n e y + b * weight E n
  weighings k a l b x y two h =
      rw (← weighing_linear k a x, ← weighing_linear l b y) (weighing_le (λ c. k * x c + a) (λ c. l * y c + b) two h)

  -- the weighing is each rate by its cycle's weight
  pub weighing_by_weights : 2 ≤ n → (q : ℕ → ℕ) → weighing E n e q ≡ sum (λ c. weight_of E n e c * q c) n
  unfolding weighing fold
  weighing_by_weights two q =
      let r = E - e 0 - e 1 in
      let m = n - 2 in
      let f : ℕ → ℕ = λ c. weight_of E n e c * q c in
      let others : sum (λ c. f (2 + c)) m ≡ r * sum (λ c. q (2 + c)) m + 0 * m =
      fold_same ◌+◌ 0 _ (λ c. r * q (2 + c) + 0) m (λ c _. rw (le-ltb (2 + c) 2 (omega arith)) (omega arith)) ∙ sum_linear r 0 (λ c. q (2 + c)) m in
      let all : 2 + m ≡ n = omega arith in
      two_first m (e 0) (e 1) r (q 0) (q 1) (sum (λ c. q (2 + c)) m) _ others ∙ sym (fold_split ◌+◌ 0 sum_ℕ f 2 m) ∙ ap (sum f) all

  -- and the weights add up to E (n-2), as 000's weights add up to 1
  pub weights_add_up : 2 ≤ n → sum (weight_of E n e) n ≡ weight E n
  weights_add_up two =
      fold_same ◌+◌ 0 (weight_of E n e) (λ c. weight_of E n e c * (0 * 0 + 1)) n (λ c _. omega arith)
      ∙ sym (weighing_by_weights two (λ _. 0 * 0 + 1))
      ∙ weighing_linear 0 1 (λ _. 0)
      ∙ omega arith

-- the weight is not 0
pub weight_pos : (E n : ℕ) → 1 ≤ E → 3 ≤ n → 0 < weight E n
weight_pos E n some three = mul-pos some (omega arith)

module _ (E n : ℕ) (e q : ℕ → ℕ) (fits : e 0 + e 1 ≤ E) (some : 1 ≤ E) (three : 3 ≤ n) where
  -- W is at least what every rate is at least
  pub least_rate : (a : ℕ) → ((c : ℕ) → c < n → a ≤ q c) → a ≤ weighted E n e q
  least_rate a h =
      (le-div_iff_mul-le (weight_pos E n some three)).1
      (omega (arith, weighings E n e fits 0 a 1 0 q q (omega arith) (λ c l. omega (arith, h c l))))

  -- W is at most what every rate is at most
  pub greatest_rate : (b : ℕ) → ((c : ℕ) → c < n → q c ≤ b) → weighted E n e q ≤ b
  greatest_rate b h =
      div-le_of_le-mul (weight E n) (omega (arith, weighings E n e fits 1 0 0 b q q (omega arith) (λ c l. omega (arith, h c l))))

  -- W is not 0 where no rate is
  pub weighted_at_least_one : ((c : ℕ) → c < n → 1 ≤ q c) → 1 ≤ weighted E n e q
  weighted_at_least_one = least_rate 1
