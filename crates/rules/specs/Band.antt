-- 'The tolerance band' of a cycle's bytes b: at position p, for the speed v.
-- Assumes nothing.
use Rattle.std.specs.Prelude.{Bool, not, cond, ◌&&◌, List, ℕ, ◌+◌, ◌-◌, ◌*◌, ◌/◌, ◌%◌, min, leb}
use Rattle.rules.specs.Words.{least, greatest}
use Rattle.rules.specs.Bench.{Tolerances}
use Rattle.rules.specs.Cycle.{point, positions}

-- "Twenty times the target at grid place 20k+r, 0 <= r < 20, is (20-r) × point k + r × point k+1; at place 20T it is 20 × point T."
-- At 20T the weight r of the point that is not there is 0 (law `grid20_end`).
unfoldable pub grid20 : List ℕ → ℕ → ℕ
grid20 b g = (20 - g % 20) * point b (g / 20) + g % 20 * point b (g / 20 + 1)

-- "the window is the grid from max(0, p-w) to min(20T, p+w)". A difference below 0 is 0
abbrev pub window_from : ℕ → ℕ → ℕ
window_from w p = p - w

abbrev pub window_to : List ℕ → ℕ → ℕ → ℕ
window_to b w p = min (positions b) (p + w)

-- "lo and hi .. the least and greatest value there"
abbrev pub lo : List ℕ → ℕ → ℕ → ℕ
lo b w p = least (grid20 b) (window_from w p) (window_to b w p)

abbrev pub hi : List ℕ → ℕ → ℕ → ℕ
hi b w p = greatest (grid20 b) (window_from w p) (window_to b w p)

-- "inside when lo <= 20v + 20s and 20v <= hi + 20s", s the speed tolerance; below: where the first fails
abbrev pub inside_of : ℕ → ℕ → ℕ → ℕ → Bool
inside_of lo hi s v = leb lo (20 * v + 20 * s) && leb (20 * v) (hi + 20 * s)

abbrev pub below_of : ℕ → ℕ → ℕ → Bool
below_of lo s v = not (leb lo (20 * v + 20 * s))

-- the bench controller's "0 inside, 1 below, 2 above"
unfoldable pub side : ℕ → ℕ → ℕ → ℕ → ℕ
side lo hi s v = cond (inside_of lo hi s v) 0 (cond (below_of lo s v) 1 2)

module _ (b : List ℕ) (t : Tolerances) (p v : ℕ) where
  unfoldable pub inside : Bool
  inside = inside_of (lo b t.time p) (hi b t.time p) t.speed v

  unfoldable pub verdict : ℕ
  verdict = side (lo b t.time p) (hi b t.time p) t.speed v
