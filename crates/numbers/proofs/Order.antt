-- Laws of order, of quotient and remainder.
-- Assumes nothing.
use mathlib.Core.Bool.{Bool, true, false, not}
use mathlib.Core.Logic.{◌⊎◌, inl, inr, ⊎_elim}
use mathlib.Core.Path.{◌≡◌, refl, sym, ap, ◌∙◌}
use Prim.Native.Nat.{ℕ, suc, ◌+◌, ◌*◌, ◌/◌, ◌%◌, ◌≤◌, ◌<◌}
use native.Mathlib.Nat.{div-lt_iff_lt-mul, le-div_iff_mul-le}
use native.Mathlib.Omega.{arith}
use lib.Arith.{digits_div, digits_mod}
use lib.Dec.{T, leb, ltb, eqb, leb→le, nleb→lt}
use borrow.Author.Tests.{eqb-true, eqb-false, eq-eqb, ne_eqb, lt-ltb, le-ltb}

-- one of two orders holds
pub side : (a b : ℕ) → (a ≤ b) ⊎ (b < a)
side a b = go (leb a b) (leb→le a b) (nleb→lt a b)
  where
    go : (t : Bool) → (T t → a ≤ b) → (T (not t) → b < a) → (a ≤ b) ⊎ (b < a)
    go true f g = inl (f tt)
    go false f g = inr (g tt)

pub eqb_shift : (d a b : ℕ) → eqb (d + a) (d + b) ≡ eqb a b
eqb_shift d a b = go (eqb a b) refl
  where
    go : (e : Bool) → eqb a b ≡ e → eqb (d + a) (d + b) ≡ e
    go true p = eq-eqb _ _ (ap (λ (k : ℕ). d + k) (eqb-true a b p))
    go false p = ne_eqb _ _ (λ (e : d + a ≡ d + b). eqb-false a b p (omega arith))

-- a number by its quotient and remainder
pub digits : (n m q r : ℕ) → r < m → n ≡ q * m + r → (r ≡ n % m) × (q ≡ n / m)
digits n m q r h e = (sym (ap (λ (k : ℕ). k % m) e ∙ digits_mod q h), sym (ap (λ (k : ℕ). k / m) e ∙ digits_div q h))

-- a quotient below c
pub ltb_div : (c n m : ℕ) → 0 < m → ltb (n / m) c ≡ ltb n (c * m)
ltb_div c n m h =
    ⊎_elim (λ g. lt-ltb (n / m) c ((div-lt_iff_lt-mul h).1 g) ∙ sym (lt-ltb n (c * m) g))
    (λ (g : c * m < suc n). le-ltb (n / m) c ((le-div_iff_mul-le h).1 (omega arith)) ∙ sym (le-ltb n (c * m) (omega arith)))
    (side (suc n) (c * m))
