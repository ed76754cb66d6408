-- Fewer grid places: over a window of the grid the least and the greatest value are among those at its two ends and at the whole seconds between.
-- Assumes nothing.
use mathlib.Core.Bool.{true}
use mathlib.Core.List.{List}
use mathlib.Core.Logic.{◌⊎◌, inl, inr, ⊎_elim}
use mathlib.Core.Path.{◌≡◌, sym, subst}
use Prim.Native.Nat.{ℕ, suc, ◌+◌, ◌-◌, ◌*◌, ◌/◌, ◌≤◌, ◌<◌, min, max, zero-le}
use native.Mathlib.Nat.{le_refl, le_trans}
use native.Mathlib.Omega.{arith}
use Rattle.rules.specs.Words.{fold, least, greatest}
use Rattle.numbers.proofs.Order.{side}
use Rattle.numbers.proofs.Extremes.{Meet, meet_min, meet_max, bound, greatest_bound, bound_at}
use Rattle.rules.specs.Cycle.{point, positions, valid}
use Rattle.rules.specs.Band.{grid20, window_from, window_to, lo, hi}
use Rattle.laws.proofs.Sound.{Sound, sound}
use Rattle.window.specs.Moving.{most_grid, inner_least, inner_greatest, window_of, least_in, greatest_in}
use Rattle.window.proofs.Lines.{grid_whole, rises_within, falls_within, grid_most}

-- of three places within a second the middle one's value is bounded by one of the other two
Turns : (ℕ → ℕ → Type 0) → List ℕ → Type 0
Turns R b = (k x y z : ℕ) → 20 * k ≤ x → x ≤ y → y ≤ z → z ≤ 20 * k + 20 → R (grid20 b x) (grid20 b y) ⊎ R (grid20 b z) (grid20 b y)

turns_least : (b : List ℕ) → Turns ◌≤◌ b
unfolding Turns
turns_least b k x y z p q r s =
    ⊎_elim (λ h. inl (rises_within b k x y p q (omega arith) h)) (λ h. inr (falls_within b k y z (omega arith) r s (omega arith)))
    (side (point b k) (point b (k + 1)))

turns_greatest : (b : List ℕ) → Turns (λ x y. y ≤ x) b
unfolding Turns
turns_greatest b k x y z p q r s =
    ⊎_elim (λ h. inr (rises_within b k y z (omega arith) r s h)) (λ h. inl (falls_within b k x y p q (omega arith) (omega arith)))
    (side (point b k) (point b (k + 1)))

module _ (R : ℕ → ℕ → Type 0) (trans : (x y z : ℕ) → R x y → R y z → R x z) (b : List ℕ) (turns : Turns R b) where
  -- a place of g's second on the one side of g and one on the other, both bounded by c
  record Before (c g : ℕ) : Type 0 where
    x : ℕ
    low : 20 * (g / 20) ≤ x
    high : x ≤ g
    bounded : R c (grid20 b x)

  record After (c g : ℕ) : Type 0 where
    z : ℕ
    low : g ≤ z
    high : z ≤ 20 * (g / 20) + 20
    bounded : R c (grid20 b z)

  between : (c g : ℕ) → Before c g → After c g → R c (grid20 b g)
  unfolding Turns
  between c g l r =
      ⊎_elim (trans _ _ _ l.bounded) (trans _ _ _ r.bounded)
      (turns (g / 20) l.x g r.z l.low l.high r.low r.high)

  -- what bounds the two ends and the whole seconds strictly between them bounds every place
  few : (a e c : ℕ) → R c (grid20 b a) → R c (grid20 b e) → ((k : ℕ) → a < 20 * k → 20 * k < e → R c (20 * point b k))
      → (g : ℕ) → a ≤ g → g ≤ e → R c (grid20 b g)
  few a e c ha he hk g p q = between c g before after
    where
      second : (k : ℕ) → a < 20 * k → 20 * k ≤ e → R c (grid20 b (20 * k))
      second k l m =
          ⊎_elim (λ (s : e ≤ 20 * k). let i : e ≡ 20 * k = omega arith in rw i at he) (λ s. rw grid_whole (hk k l s)) (side e (20 * k))

      before : Before c g
      before =
          ⊎_elim (λ s. record { x = a; low = s; high = p; bounded = ha })
          (λ s. record { x = 20 * (g / 20); low = le_refl _; high = omega arith; bounded = second (g / 20) s (omega arith) })
          (side (20 * (g / 20)) a)

      after : After c g
      after =
          ⊎_elim (λ s. record { z = e; low = q; high = s; bounded = he })
          (λ (s : 20 * (g / 20) + 20 < e).
          let i : 20 * (g / 20 + 1) ≡ 20 * (g / 20) + 20 = omega arith in
          record { z = 20 * (g / 20) + 20; low = omega arith; high = le_refl _; bounded = rw i at (second (g / 20 + 1) (omega arith) (omega arith)) })
          (side e (20 * (g / 20) + 20))

-- ---- the same as an equation

module _ (op : ℕ → ℕ → ℕ) (R : ℕ → ℕ → Type 0) (laws : Meet op R) (b : List ℕ) (turns : Turns R b) (top : ℕ) where
  -- the bound of the whole seconds after place a, up to place e, and of all that is looked at
  inner : ℕ → ℕ → ℕ
  inner a e = fold op top (λ i. 20 * point b (a / 20 + 1 + i)) (e / 20 - a / 20)

  held : ℕ → ℕ → ℕ
  held a e = op (op (grid20 b a) (grid20 b e)) (inner a e)

  inner_at : (a e k : ℕ) → a < 20 * k → 20 * k < e → R (inner a e) (20 * point b k)
  unfolding inner
  inner_at a e k l m =
      let i : a / 20 + 1 + (k - (a / 20 + 1)) ≡ k = omega arith in
      subst (λ (j : ℕ). R (inner a e) (20 * point b j)) i (bound op R laws top (λ i. 20 * point b (a / 20 + 1 + i)) (e / 20 - a / 20) _ (omega arith))

  held_at : (a e g : ℕ) → a ≤ g → g ≤ e → R (held a e) (grid20 b g)
  unfolding held
  held_at a e =
      let ends = laws.left (op (grid20 b a) (grid20 b e)) (inner a e) in
      few R laws.trans b turns a e (held a e) (laws.trans _ _ _ ends (laws.left _ _)) (laws.trans _ _ _ ends (laws.right _ _))
      (λ k l m. laws.trans _ _ _ (laws.right (op (grid20 b a) (grid20 b e)) (inner a e)) (inner_at a e k l m))

  held_is : (a e : ℕ) → a ≤ e → R (grid20 b a) top → fold op (grid20 b a) (λ k. grid20 b (a + suc k)) (e - a) ≡ held a e
  unfolding held inner
  held_is a e h t =
      let all = fold op (grid20 b a) (λ k. grid20 b (a + suc k)) (e - a) in
      let at = bound_at op R laws (grid20 b) a e in
      laws.both all (held a e)
      (laws.meet _ _ _ (laws.meet _ _ _ (at a (le_refl a) h) (at e h (le_refl e)))
      (greatest_bound op R laws top _ (e / 20 - a / 20) all (laws.trans _ _ _ (at a (le_refl a) h) t)
      (λ i l. subst (λ (x : ℕ). R all x) (grid_whole b (a / 20 + 1 + i)) (at (20 * (a / 20 + 1 + i)) (omega arith) (omega arith)))))
      (greatest_bound op R laws (grid20 b a) _ (e - a) (held a e) (held_at a e a (le_refl a) h)
      (λ k l. held_at a e (a + suc k) (omega arith) (omega arith)))

-- ---- of the least and the greatest

-- "the two window ends and the whole seconds between them": what is at most each of those values is at most the least over the window, and so for the greatest
module _ (b : List ℕ) (a e c : ℕ) (h : a ≤ e) where
  pub least_few : c ≤ grid20 b a → c ≤ grid20 b e → ((k : ℕ) → a < 20 * k → 20 * k < e → c ≤ 20 * point b k) → c ≤ least (grid20 b) a e
  least_few p q r =
      let all = few ◌≤◌ (λ x y z. le_trans) b (turns_least b) a e c p q r in
      greatest_bound min ◌≤◌ meet_min (grid20 b a) _ (e - a) c p (λ k l. all (a + suc k) (omega arith) (omega arith))

  pub greatest_few : grid20 b a ≤ c → grid20 b e ≤ c → ((k : ℕ) → a < 20 * k → 20 * k < e → 20 * point b k ≤ c) → greatest (grid20 b) a e ≤ c
  greatest_few p q r =
      let all = few (λ x y. y ≤ x) (λ x y z i j. le_trans j i) b (turns_greatest b) a e c p q r in
      greatest_bound max (λ x y. y ≤ x) meet_max (grid20 b a) _ (e - a) c p (λ k l. all (a + suc k) (omega arith) (omega arith))

-- over a window of a valid cycle's grid
module _ (b : List ℕ) (o : Sound b) (a e : ℕ) (h : a ≤ e) (l : e ≤ positions b) where
  pub least_is : least (grid20 b) a e ≡ min (min (grid20 b a) (grid20 b e)) (inner_least b a e)
  unfolding held inner
  least_is = held_is min ◌≤◌ meet_min b (turns_least b) most_grid a e h (grid_most b o a (omega arith))

  pub greatest_is : greatest (grid20 b) a e ≡ max (max (grid20 b a) (grid20 b e)) (inner_greatest b a e)
  unfolding held inner
  greatest_is = held_is max (λ x y. y ≤ x) meet_max b (turns_greatest b) 0 a e h zero-le

-- what the window of a position holds is lo and hi
module _ (b : List ℕ) (v : valid b ≡ true) (w p : ℕ) (h : p < positions b) where
  pub least_in_lem : least_in (window_of b w p) ≡ lo b w p
  unfolding window_of
  least_in_lem = sym (least_is b (sound b v) (window_from w p) (window_to b w p) (omega arith) (omega arith))

  pub greatest_in_lem : greatest_in (window_of b w p) ≡ hi b w p
  unfolding window_of
  greatest_in_lem = sym (greatest_is b (sound b v) (window_from w p) (window_to b w p) (omega arith) (omega arith))
