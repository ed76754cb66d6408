-- The least and the greatest of a function's values over a range.
-- Assumes nothing.
use mathlib.Core.Logic.{⊎_elim}
use mathlib.Core.Path.{◌≡◌, subst}
use Prim.Native.Nat.{ℕ, zero, suc, ◌+◌, ◌-◌, ◌≤◌, ◌<◌, min, max}
use native.Mathlib.Nat.{le_refl, le_step, le_trans, le_antisymm, not-suc-le-zero, le_of_suc-le-suc, eq-or-lt_of_le, min-le_left, min-le_right, le-max_left, le-max_right, le-min, max-le}
use native.Mathlib.Omega.{arith}
use Rattle.rules.specs.Words.{fold, least, greatest}

-- the laws of a lattice's meet: of `min` by ≤, and of `max` by ≥
pub record Meet (op : ℕ → ℕ → ℕ) (R : ℕ → ℕ → Type 0) : Type 0 where
  pub same : (a : ℕ) → R a a
  pub trans : (a b c : ℕ) → R a b → R b c → R a c
  pub both : (a b : ℕ) → R a b → R b a → a ≡ b
  pub left : (a b : ℕ) → R (op a b) a
  pub right : (a b : ℕ) → R (op a b) b
  pub meet : (a b c : ℕ) → R c a → R c b → R c (op a b)

pub meet_min : Meet min ◌≤◌
meet_min = record { same = le_refl; trans = λ a b c. le_trans; both = λ a b. le_antisymm; left = min-le_left; right = min-le_right; meet = λ a b c. le-min }

pub meet_max : Meet max (λ a b. b ≤ a)
meet_max = record {
  same = le_refl;
  trans = λ a b c g k. le_trans k g;
  both = λ a b g k. le_antisymm k g;
  left = le-max_left;
  right = le-max_right;
  meet = λ a b c. max-le;
}

-- a fold by a meet is its terms' greatest bound
module _ (op : ℕ → ℕ → ℕ) (R : ℕ → ℕ → Type 0) (laws : Meet op R) where
  bound_first : (z : ℕ) (f : ℕ → ℕ) (n : ℕ) → R (fold op z f n) z
  unfolding fold
  bound_first z f zero = laws.same z
  bound_first z f (suc n) = laws.trans _ _ _ (laws.left (fold op z f n) (f n)) (bound_first z f n)

  pub bound : (z : ℕ) (f : ℕ → ℕ) (n k : ℕ) → k < n → R (fold op z f n) (f k)
  unfolding fold
  bound z f zero k l = absurd (not-suc-le-zero l)
  bound z f (suc n) k l =
      ⊎_elim (λ e. rw e (laws.right (fold op z f n) (f n))) (λ h. laws.trans _ _ _ (laws.left (fold op z f n) (f n)) (bound z f n k h))
      (eq-or-lt_of_le (le_of_suc-le-suc l))

  pub greatest_bound : (z : ℕ) (f : ℕ → ℕ) (n c : ℕ) → R c z → ((k : ℕ) → k < n → R c (f k)) → R c (fold op z f n)
  unfolding fold
  greatest_bound z f zero c hz h = hz
  greatest_bound z f (suc n) c hz h = laws.meet _ _ _ (greatest_bound z f n c hz (λ k l. h k (le_step l))) (h n (le_refl (suc n)))

  -- the bound over f a, .., f e: of each term, and of a part of them
  abbrev pub over : (ℕ → ℕ) → ℕ → ℕ → ℕ
  over f a e = fold op (f a) (λ k. f (a + suc k)) (e - a)

  pub bound_at : (f : ℕ → ℕ) (a e g : ℕ) → a ≤ g → g ≤ e → R (over f a e) (f g)
  bound_at f a e g h l =
      ⊎_elim
      (λ q. subst (λ (x : ℕ). R (over f a e) (f x)) q (bound_first (f a) (λ k. f (a + suc k)) (e - a)))
      (λ q.
      let r : a + suc (g - suc a) ≡ g = omega arith in
      subst (λ (x : ℕ). R (over f a e) (f x)) r (bound (f a) (λ k. f (a + suc k)) (e - a) (g - suc a) (omega arith)))
      (eq-or-lt_of_le h)

  bound_wider : (f : ℕ → ℕ) (a e a' e' : ℕ) → a' ≤ a → a ≤ e → e ≤ e' → R (over f a' e') (over f a e)
  bound_wider f a e a' e' ha hae he =
      greatest_bound (f a) (λ k. f (a + suc k)) (e - a) _
      (bound_at f a' e' a ha (omega arith))
      (λ k l. bound_at f a' e' (a + suc k) (omega arith) (omega arith))

pub least_at : (f : ℕ → ℕ) (a e g : ℕ) → a ≤ g → g ≤ e → least f a e ≤ f g
least_at = bound_at min ◌≤◌ meet_min

pub greatest_at : (f : ℕ → ℕ) (a e g : ℕ) → a ≤ g → g ≤ e → f g ≤ greatest f a e
greatest_at = bound_at max (λ a b. b ≤ a) meet_max

pub least_wider : (f : ℕ → ℕ) (a e a' e' : ℕ) → a' ≤ a → a ≤ e → e ≤ e' → least f a' e' ≤ least f a e
least_wider = bound_wider min ◌≤◌ meet_min

pub greatest_wider : (f : ℕ → ℕ) (a e a' e' : ℕ) → a' ≤ a → a ≤ e → e ≤ e' → greatest f a e ≤ greatest f a' e'
greatest_wider = bound_wider max (λ a b. b ≤ a) meet_max
