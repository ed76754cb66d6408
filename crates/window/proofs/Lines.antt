-- The grid between two whole seconds is a line: its values there rise or fall.
-- Assumes nothing.
use mathlib.Core.List.{List}
use mathlib.Core.Logic.{⊎_elim}
use mathlib.Core.Path.{◌≡◌, ◌∙◌}
use Prim.Native.Nat.{ℕ, ◌+◌, ◌-◌, ◌*◌, ◌/◌, ◌%◌, ◌≤◌, ◌<◌}
use native.Mathlib.Nat.{mul-le-mul, mul-le-mul_left, le-pred_of_lt, zero-mul, add-zero}
use native.Mathlib.Omega.{arith}
use borrow.Author.Tests.{leb-true}
use Rattle.numbers.proofs.Order.{side}
use Rattle.numbers.proofs.Tests.{all_at}
use Rattle.rules.specs.Cycle.{seconds, point, positions, is_speed}
use Rattle.rules.specs.Band.{grid20}
use Rattle.laws.proofs.Sound.{Sound}
use Rattle.rules.specs.Bench.{most_speed}

-- a weighted sum as its second weight grows by d
line_rises : (l r d x y : ℕ) → x ≤ y → (l + d) * x + r * y ≤ l * x + (r + d) * y
line_rises l r d x y h = omega (arith, mul-le-mul_left d h)

line_falls : (l r d x y : ℕ) → y ≤ x → l * x + (r + d) * y ≤ (l + d) * x + r * y
line_falls l r d x y h = omega (arith, mul-le-mul_left d h)

-- the grid's value by quotient and remainder
grid_by : (b : List ℕ) (g k l r : ℕ) → g / 20 ≡ k → 20 - g % 20 ≡ l → g % 20 ≡ r → grid20 b g ≡ l * point b k + r * point b (k + 1)
unfolding grid20
grid_by b g k l r p q s = rw (p, q, s)

-- at a whole second
pub grid_whole : (b : List ℕ) (k : ℕ) → grid20 b (20 * k) ≡ 20 * point b k
grid_whole b k = grid_by b (20 * k) k 20 0 (omega arith) (omega arith) (omega arith) ∙ rw (zero-mul, add-zero)

-- within second k, both its ends included
pub grid_within : (b : List ℕ) (k g l r : ℕ) → g ≡ 20 * k + r → l + r ≡ 20 → grid20 b g ≡ l * point b k + r * point b (k + 1)
grid_within b k g l r e h =
    ⊎_elim
    (λ (s : 20 ≤ r).
    let r₁ : r ≡ 20 = omega arith in
    let l₁ : l ≡ 0 = omega arith in
    let g₁ : g ≡ 20 * (k + 1) = omega arith in
    rw (g₁, r₁, l₁, grid_whole, zero-mul) (omega arith))
    (λ (s : r < 20). grid_by b g k l r (omega arith) (omega arith) (omega arith))
    (side 20 r)

-- places x and y of second k: the values rise with its points, or fall
module _ (b : List ℕ) (k x y : ℕ) (a : 20 * k ≤ x) (h : x ≤ y) (e : y ≤ 20 * k + 20) where
  at_x : grid20 b x ≡ (20 * k + 20 - y + (y - x)) * point b k + (x - 20 * k) * point b (k + 1)
  at_x = grid_within b k x _ _ (omega arith) (omega arith)

  at_y : grid20 b y ≡ (20 * k + 20 - y) * point b k + (x - 20 * k + (y - x)) * point b (k + 1)
  at_y = grid_within b k y _ _ (omega arith) (omega arith)

  pub rises_within : point b k ≤ point b (k + 1) → grid20 b x ≤ grid20 b y
  rises_within p = rw (at_x, at_y) (line_rises _ _ (y - x) _ _ p)

  pub falls_within : point b (k + 1) ≤ point b k → grid20 b y ≤ grid20 b x
  falls_within p = rw (at_x, at_y) (line_falls _ _ (y - x) _ _ p)

-- a point of a cycle is a speed
pub point_most : (b : List ℕ) → Sound b → (k : ℕ) → k ≤ seconds b → point b k ≤ most_speed
point_most b o k h = leb-true _ _ (all_at (seconds b + 1) (is_speed b) o.all_speeds k (omega arith))

-- one place further: the next point's share grows by one, the last one's falls by one
pub grid_next : (b : List ℕ) (g : ℕ) → point b (g / 20) ≤ most_speed → grid20 b (g + 1) ≡ grid20 b g + (point b (g / 20 + 1) + most_speed - point b (g / 20)) - most_speed
grid_next b g h =
    let k = g / 20 in
    let p = grid_within b k g (20 - g % 20 - 1 + 1) (g % 20) (omega arith) (omega arith) in
    let q = grid_within b k (g + 1) (20 - g % 20 - 1) (g % 20 + 1) (omega arith) (omega arith) in
    omega (arith, p, q)

-- the most that a grid place has
pub grid_most : (b : List ℕ) → Sound b → (g : ℕ) → g ≤ positions b → grid20 b g ≤ 30000
grid_most b o g h =
    ⊎_elim
    (λ (s : positions b ≤ g).
    let e : g ≡ 20 * seconds b = omega arith in
    rw (e, grid_whole) (omega (arith, point_most b o (seconds b) (omega arith))))
    (λ (s : g < positions b).
    let k = g / 20 in
    let p = grid_within b k g (20 - g % 20) (g % 20) (omega arith) (omega arith) in
    let x = mul-le-mul_left (20 - g % 20) (point_most b o k (omega arith)) in
    let y = mul-le-mul_left (g % 20) (point_most b o (k + 1) (omega arith)) in
    omega (arith, p, x, y))
    (side (positions b) g)

-- the size of a weighted point, by its type
pub product_small : (r x : ℕ) → r ≤ 20 → x < 65536 → r * x ≤ 1310700
product_small r x p q = mul-le-mul p (le-pred_of_lt q)
