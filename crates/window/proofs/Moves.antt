-- How the window moves: while neither end begins to move or comes to a whole second, each end goes on along its line and all else stays.
-- Assumes nothing.
use mathlib.Core.Bool.{Bool, true, false, cond, false≢true}
use mathlib.Core.List.{List}
use mathlib.Core.Logic.{⊎_elim}
use mathlib.Core.Path.{◌≡◌, refl, sym, ap, ◌∙◌}
use Prim.Native.Nat.{ℕ, ◌+◌, ◌-◌, ◌*◌, ◌/◌, ◌%◌, ◌≤◌, ◌<◌, min}
use native.Mathlib.Omega.{arith}
use borrow.Author.Tests.{le-leb, lt-leb, lt-ltb, le-ltb}
use lib.Dec.{leb}
use Rattle.numbers.proofs.Order.{side}
use Rattle.rules.specs.Cycle.{seconds, positions}
use Rattle.rules.specs.Band.{grid20, window_from, window_to}
use Rattle.laws.proofs.Sound.{Sound}
use Rattle.window.specs.Moving.{Edge, Window, rise_of, edge_of, left_moves, right_moves, left_steps, until_of, inner_least, inner_greatest, Small, onward, shifted, window_of}
use Rattle.window.proofs.Lines.{grid_within, grid_next, grid_most, point_most}

-- the left end is soon at a whole second or on its way
pub left_most : (w p : ℕ) → left_steps w p ≤ 20 + w
left_most w p = go (leb w p)
  where
    go : (t : Bool) → cond t (20 - (p - w) % 20) (w - p) ≤ 20 + w
    go true = omega arith
    go false = omega arith

-- ---- the size of an end

small_moving : (b : List ℕ) → Sound b → (g : ℕ) → g < positions b → Small (grid20 b g) (rise_of b true g)
small_moving b o g h =
    let k = g / 20 in
    let p = grid_within b k g (20 - g % 20 - 1 + 1) (g % 20) (omega arith) (omega arith) in
    let x = point_most b o k (omega arith) in
    let y = point_most b o (k + 1) (omega arith) in
    record { falls = omega (arith, p); most = grid_most b o g (omega arith); steep = omega arith }

small_still : (b : List ℕ) → Sound b → (g : ℕ) → g ≤ positions b → Small (grid20 b g) (rise_of b false g)
small_still b o g h = record { falls = omega arith; most = grid_most b o g h; steep = omega arith }

-- ---- an end

-- a window's end as it is and one position later: what stays, and how it goes on
record Goes (b : List ℕ) (m m' : Bool) (g g' : ℕ) : Type 0 where
  small : Small (grid20 b g) (rise_of b m g)
  value : grid20 b g' ≡ onward (grid20 b g) (rise_of b m g)
  rise : rise_of b m' g' ≡ rise_of b m g
  second : g' / 20 ≡ g / 20

-- an end that moves within its second, and one that stands
goes_moving : (b : List ℕ) → Sound b → (g g' : ℕ) → g < positions b → g' ≡ g + 1 → g % 20 < 19 → Goes b true true g g'
goes_moving b o g g' h e l =
    let q : g' / 20 ≡ g / 20 = omega arith in
    record { small = small_moving b o g h; value = rw e (grid_next b g (point_most b o (g / 20) (omega arith))); rise = rw q; second = q }

goes_still : (b : List ℕ) → Sound b → (g g' : ℕ) → g ≤ positions b → g' ≡ g → Goes b false false g g'
goes_still b o g g' h e = record { small = small_still b o g h; value = rw e (omega arith); rise = refl; second = ap (λ (x : ℕ). x / 20) e }

module _ (b : List ℕ) (o : Sound b) (w p : ℕ) (h : p + 1 < positions b) where
  -- the left end
  left_goes : 2 ≤ left_steps w p → Goes b (left_moves w p) (left_moves w (p + 1)) (window_from w p) (window_from w (p + 1)) × (left_steps w (p + 1) ≡ left_steps w p - 1)
  left_goes s =
      ⊎_elim
      (λ (l : w ≤ p).
      let u = le-leb w p l in
      let v = le-leb w (p + 1) (omega arith) in
      let k : 2 ≤ 20 - (p - w) % 20 = rw u at s in
      rw (u, v) (goes_moving b o (window_from w p) (window_from w (p + 1)) (omega arith) (omega arith) (omega arith), omega arith))
      (λ (l : p < w).
      let u = lt-leb w p l in
      let k : 2 ≤ w - p = rw u at s in
      let v = lt-leb w (p + 1) (omega arith) in
      rw (u, v) (goes_still b o (window_from w p) (window_from w (p + 1)) (omega arith) (omega arith), omega arith))
      (side w p)

  -- the right end
  right_goes : (right_moves (positions b) w p ≡ true → 2 ≤ 20 - (p + w) % 20)
      → Goes b (right_moves (positions b) w p) (right_moves (positions b) w (p + 1)) (window_to b w p) (window_to b w (p + 1))
  right_goes s =
      ⊎_elim
      (λ (l : positions b ≤ p + w).
      rw (le-ltb (p + w) (positions b) l, le-ltb (p + 1 + w) (positions b) (omega arith))
      (goes_still b o (window_to b w p) (window_to b w (p + 1)) (omega arith) (omega arith)))
      (λ (l : p + w < positions b).
      let k = s (lt-ltb (p + w) (positions b) l) in
      let m : p + 1 + w < positions b = omega arith in
      rw (lt-ltb (p + w) (positions b) l, lt-ltb (p + 1 + w) (positions b) m)
      (goes_moving b o (window_to b w p) (window_to b w (p + 1)) (omega arith) (omega arith) (right_within l k)))
      (side (positions b) (p + w))
    where
      right_within : p + w < positions b → 2 ≤ 20 - (p + w) % 20 → window_to b w p % 20 < 19
      right_within l k = let e : window_to b w p ≡ p + w = omega arith in rw e (omega arith)

  -- ---- the window

  record Steady : Type 0 where
    left : 2 ≤ left_steps w p
    right : right_moves (positions b) w p ≡ true → 2 ≤ 20 - (p + w) % 20
    after : left_steps w (p + 1) ≡ left_steps w p - 1 → until_of (positions b) w (p + 1) ≡ until_of (positions b) w p

  steady : p + 1 < until_of (positions b) w p → Steady
  steady s =
      ⊎_elim
      (λ (l : positions b ≤ p + w).
      let u = le-ltb (p + w) (positions b) l in
      let k : p + 1 < p + left_steps w p = rw u at s in
      let v = le-ltb (p + 1 + w) (positions b) (omega arith) in
      record { left = omega arith; right = λ t. absurd (false≢true (sym u ∙ t)); after = λ e. rw (u, v) (omega arith) })
      (λ (l : p + w < positions b).
      let u = lt-ltb (p + w) (positions b) l in
      let k : p + 1 < p + min (left_steps w p) (20 - (p + w) % 20) = rw u at s in
      let v = lt-ltb (p + 1 + w) (positions b) (omega arith) in
      record { left = omega arith; right = λ t. omega arith; after = λ e. rw (u, v) (omega arith) })
      (side (positions b) (p + w))

  pub shifts : p + 1 < (window_of b w p).until → window_of b w (p + 1) ≡ shifted (window_of b w p)
  unfolding window_of
  shifts s =
      let t = steady s in
      let l = left_goes t.left in
      let r = right_goes t.right in
      rw (l.0.value, l.0.rise, r.value, r.rise, l.0.second, r.second, t.after l.1)

  -- both ends are small
  pub left_small : p + 1 < (window_of b w p).until → Small (window_of b w p).left.value (window_of b w p).left.rise
  unfolding window_of
  left_small s = (left_goes (steady s).left).0.small

  pub right_small : p + 1 < (window_of b w p).until → Small (window_of b w p).right.value (window_of b w p).right.rise
  unfolding window_of
  right_small s = (right_goes (steady s).right).small

-- the window, put together from its parts
pub window_made : (b : List ℕ) (w p t a e : ℕ) (l r : Edge) (i j s : ℕ) → t ≡ seconds b → a ≡ p - w → e ≡ min (20 * t) (p + w)
    → l ≡ edge_of b (left_moves w p) (window_from w p) → r ≡ edge_of b (right_moves (positions b) w p) (window_to b w p)
    → i ≡ inner_least b a e → j ≡ inner_greatest b a e → s ≡ until_of (20 * t) w p
    → ◌≡◌ {A = Window} (record { left = l; right = r; inner = record { low = i; high = j }; until = s }) (window_of b w p)
unfolding window_of
window_made b w p t a e l r i j s ht ha he hl hr hi hj hs = rw (hl, hr, hi, hj, hs, he, ha, ht)
