-- Laws of the band: the last grid place, what inside, below and above say of each other, and the three verdicts.
-- Assumes nothing.
use mathlib.Core.Bool.{Bool, true, false, not, cond, ◌&&◌}
use mathlib.Core.List.{List}
use mathlib.Core.Path.{◌≡◌, refl}
use Prim.Native.Nat.{ℕ, ◌+◌, ◌*◌, ◌/◌, ◌%◌, ◌≤◌}
use native.Mathlib.Nat.{zero-mul, add-zero, le_refl, le_trans, add-le-add}
use native.Mathlib.Omega.{arith}
use borrow.Author.Tests.{leb-true}
use lib.Dec.{T, eqb, leb, lit≤, nleb→lt}
use Rattle.numbers.proofs.Extremes.{least_at, greatest_at, least_wider, greatest_wider}
use Rattle.numbers.proofs.Tests.{both, and_mono, leb_mono}
use Rattle.rules.specs.declared.Tolerances.{Tolerances}
use Rattle.rules.specs.Bench.{most_speed_tolerance, most_time_tolerance, most_allowance, tolerable}
use Rattle.rules.specs.Cycle.{seconds, point, positions}
use Rattle.rules.specs.Band.{grid20, window_from, window_to, lo, hi, inside_of, below_of, side, inside, verdict}
use Rattle.laws.specs.Beside.{below, above}
use Rattle.laws.specs.Claims.{Widened}

-- "at place 20T it is 20 × point T"
pub grid20_end : (b : List ℕ) → grid20 b (positions b) ≡ 20 * point b (seconds b)
unfolding grid20
grid20_end b =
    let r : 20 * seconds b % 20 ≡ 0 = omega arith in
    let q : 20 * seconds b / 20 ≡ seconds b = omega arith in
    rw (r, q, zero-mul, add-zero)

-- the window holds its own position, so that lo is at most hi
pub lo_hi : (b : List ℕ) (w p : ℕ) → p ≤ positions b → lo b w p ≤ hi b w p
lo_hi b w p h =
    le_trans (least_at (grid20 b) (window_from w p) (window_to b w p) p (omega arith) (omega arith))
    (greatest_at (grid20 b) (window_from w p) (window_to b w p) p (omega arith) (omega arith))

module _ (b : List ℕ) (t : Tolerances) (p v : ℕ) where
  -- outside is below or above
  pub inside_is : inside b t p v ≡ (not (below b t p v) && not (above b t p v))
  unfolding inside below above
  inside_is = go (leb _ (20 * v + 20 * t.speed)) (leb (20 * v) _)
    where
      go : (x y : Bool) → (x && y) ≡ (not (not x) && not (not y))
      go true true = refl
      go true false = refl
      go false y = refl

  -- and never both
  pub not_both : p ≤ positions b → T (below b t p v) → T (above b t p v) → ⊥
  unfolding below above
  not_both h s r =
      let l = nleb→lt (lo b t.time p) (20 * v + 20 * t.speed) s in
      let g = nleb→lt (20 * v) (hi b t.time p + 20 * t.speed) r in
      omega (arith, lo_hi b t.time p h)

  -- the three verdicts, and no other
  pub verdict_inside : T (inside b t p v) → verdict b t p v ≡ 0
  unfolding inside verdict side
  verdict_inside = go (inside_of (lo b t.time p) (hi b t.time p) t.speed v) (below_of (lo b t.time p) t.speed v)
    where
      go : (x y : Bool) → T x → ◌≡◌ {A = ℕ} (cond x 0 (cond y 1 2)) 0
      go true y s = refl
      go false y s = absurd s

  pub verdict_below : T (below b t p v) → verdict b t p v ≡ 1
  unfolding below verdict side
  verdict_below = go (leb _ (20 * v + 20 * t.speed)) (leb (20 * v) _)
    where
      go : (x y : Bool) → T (not x) → ◌≡◌ {A = ℕ} (cond (x && y) 0 (cond (not x) 1 2)) 1
      go true y s = absurd s
      go false y s = refl

  pub verdict_above : p ≤ positions b → T (above b t p v) → verdict b t p v ≡ 2
  unfolding above verdict side below
  verdict_above h r = go (leb (lo b t.time p) (20 * v + 20 * t.speed)) (leb (20 * v) _) r (λ s. not_both h s r)
    where
      go : (x y : Bool) → T (not y) → (T (not x) → ⊥) → ◌≡◌ {A = ℕ} (cond (x && y) 0 (cond (not x) 1 2)) 2
      go true true s n = absurd s
      go true false s n = refl
      go false y s n = absurd (n tt)

-- "0 inside, 1 below, 2 above": no verdict is more
pub verdict_most : (b : List ℕ) (t : Tolerances) (p v : ℕ) → verdict b t p v ≤ 2
unfolding verdict side
verdict_most b t p v = go (leb _ (20 * v + 20 * t.speed)) (leb (20 * v) _)
  where
    go : (x y : Bool) → cond (x && y) 0 (cond (not x) 1 2) ≤ 2
    go true true = lit≤ tt
    go true false = lit≤ tt
    go false y = lit≤ tt

-- the verdict is 0 exactly where the sample is inside
pub side_zero : (lo hi s v : ℕ) → eqb (side lo hi s v) 0 ≡ inside_of lo hi s v
unfolding side
side_zero lo hi s v = go (leb lo (20 * v + 20 * s)) (leb (20 * v) (hi + 20 * s))
  where
    go : (x y : Bool) → eqb (cond (x && y) 0 (cond (not x) 1 2)) 0 ≡ (x && y)
    go true true = refl
    go true false = refl
    go false y = refl

pub verdict_zero : (b : List ℕ) (t : Tolerances) (p v : ℕ) → eqb (verdict b t p v) 0 ≡ inside b t p v
unfolding verdict inside
verdict_zero b t p v = side_zero (lo b t.time p) (hi b t.time p) t.speed v

-- ---- the tolerances

-- what the test says of them
pub record Tolerated (t : Tolerances) : Type 0 where
  pub speed : t.speed ≤ most_speed_tolerance
  pub time : t.time ≤ most_time_tolerance
  pub allowance : t.allowance ≤ most_allowance

pub tolerated : (t : Tolerances) → tolerable t ≡ true → Tolerated t
unfolding tolerable
tolerated t e =
    let e₂ = both (leb t.speed most_speed_tolerance && leb t.time most_time_tolerance) _ e in
    let e₁ = both (leb t.speed most_speed_tolerance) _ e₂.0 in
    record { speed = leb-true _ _ e₁.0; time = leb-true _ _ e₁.1; allowance = leb-true _ _ e₂.1 }

pub lo_falls : (b : List ℕ) (w w' p : ℕ) → w ≤ w' → p ≤ positions b → lo b w' p ≤ lo b w p
lo_falls b w w' p h l =
    least_wider (grid20 b) (window_from w p) (window_to b w p) (window_from w' p) (window_to b w' p) (omega arith) (omega arith) (omega arith)

pub hi_rises : (b : List ℕ) (w w' p : ℕ) → w ≤ w' → p ≤ positions b → hi b w p ≤ hi b w' p
hi_rises b w w' p h l =
    greatest_wider (grid20 b) (window_from w p) (window_to b w p) (window_from w' p) (window_to b w' p) (omega arith) (omega arith) (omega arith)

-- what is inside stays inside
pub inside_wider : (b : List ℕ) (t t' : Tolerances) (p v : ℕ) → Widened t t' → p ≤ positions b → T (inside b t p v) → T (inside b t' p v)
unfolding inside
inside_wider b t t' p v h l =
    and_mono (leb (lo b t.time p) _) (leb (20 * v) _) (leb (lo b t'.time p) _) (leb (20 * v) _)
    (leb_mono (lo_falls b t.time t'.time p h.time l) (omega (arith, h.speed)))
    (leb_mono (le_refl (20 * v)) (add-le-add (hi_rises b t.time t'.time p h.time l) (omega (arith, h.speed))))
