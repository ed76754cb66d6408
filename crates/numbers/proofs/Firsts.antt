-- The first number below n that passes a test: it is at most n, what is before it fails, and it passes where it is below n.
-- Assumes nothing.
use mathlib.Core.Bool.{Bool, true, false, cond, not}
use mathlib.Core.Logic.{⊎_elim}
use mathlib.Core.Path.{◌≡◌, refl, sym, ap, subst, ◌∙◌}
use Prim.Native.Nat.{ℕ, zero, suc, ◌≤◌, ◌<◌, zero-le, suc-le-suc}
use native.Mathlib.Nat.{le_refl, le_step, le_antisymm, not-suc-le-zero, le_of_suc-le-suc, eq-or-lt_of_le}
use native.Mathlib.Omega.{arith}
use lib.Dec.{T, T_not}
use Rattle.rules.specs.Words.{first}
use Rattle.numbers.proofs.Order.{side}

pub first_le : (p : ℕ → Bool) (n : ℕ) → first p n ≤ n
unfolding first
first_le p zero = zero-le
first_le p (suc n) = go (p 0) (first_le (λ j. p (suc j)) n)
  where
    go : {r : ℕ} (b : Bool) → r ≤ n → cond b 0 (suc r) ≤ suc n
    go true h = zero-le
    go false h = suc-le-suc h

pub first_before : (p : ℕ → Bool) (n k : ℕ) → k < first p n → T (not (p k))
unfolding first
first_before p zero k h = absurd (not-suc-le-zero h)
first_before p (suc n) zero h = go (p 0) h
  where
    go : (b : Bool) → 0 < cond b 0 (suc (first (λ j. p (suc j)) n)) → T (not b)
    go true l = omega arith
    go false l = tt
first_before p (suc n) (suc k) h = first_before (λ j. p (suc j)) n k (go (p 0) h)
  where
    go : {r : ℕ} (b : Bool) → suc k < cond b 0 (suc r) → k < r
    go true l = omega arith
    go false l = omega arith

pub first_at : (p : ℕ → Bool) (n : ℕ) → first p n < n → T (p (first p n))
unfolding first
first_at p zero h = absurd (not-suc-le-zero h)
first_at p (suc n) h = go (p 0) (λ t. t) (first_at (λ j. p (suc j)) n) h
  where
    go : {r : ℕ} (b : Bool) → (T b → T (p 0)) → (r < n → T (p (suc r))) → cond b 0 (suc r) < suc n → T (p (cond b 0 (suc r)))
    go true f g l = f tt
    go false f g l = g (le_of_suc-le-suc l)

-- whatever passes is not before the first
pub first_least : (p : ℕ → Bool) (n k : ℕ) → T (p k) → first p n ≤ k
first_least p n k t = ⊎_elim (λ h. h) (λ h. absurd (T_not (p k) (first_before p n k h) t)) (side (first p n) k)

-- fewer numbers pass, in a longer range: the first comes no earlier
pub first_later : (p q : ℕ → Bool) (m n : ℕ) → m ≤ n → ((k : ℕ) → k < m → T (q k) → T (p k)) → first p m ≤ first q n
first_later p q m n l h =
    ⊎_elim (λ g. omega (arith, first_le p m)) (λ g. first_least p m (first q n) (h (first q n) g (first_at q n (omega arith))))
    (side m (first q n))

-- one more number is looked at where there is none
pub first_next : (p : ℕ → Bool) (n : ℕ) → first p n ≡ n → first p (suc n) ≡ cond (p n) n (suc n)
first_next p n e = go (p n) refl
  where
    later : n ≤ first p (suc n)
    later = subst (λ (k : ℕ). k ≤ first p (suc n)) e (first_later p p n (suc n) (le_step (le_refl n)) (λ k g t. t))

    go : (b : Bool) → p n ≡ b → first p (suc n) ≡ cond b n (suc n)
    go true q = le_antisymm (first_least p (suc n) n (subst T (sym q) tt)) later
    go false q =
        ⊎_elim (λ h. absurd (subst T (ap p (le_antisymm h later) ∙ q) (first_at p (suc n) (suc-le-suc h))))
        (λ h. le_antisymm (first_le p (suc n)) h)
        (side (first p (suc n)) n)

-- the first number is k, where k passes and none before it does
pub first_is : (p : ℕ → Bool) (n k : ℕ) → k < n → ((j : ℕ) → j < k → p j ≡ false) → p k ≡ true → first p n ≡ k
first_is p n k l h t =
    ⊎_elim (λ e. e) (λ g. absurd (subst T (h (first p n) g) (first_at p n (omega arith))))
    (eq-or-lt_of_le (first_least p n k (subst T (sym t) tt)))
