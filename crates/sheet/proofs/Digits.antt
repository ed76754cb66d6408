-- Decimal digits: the last one is the remainder by 10, the others are those of the quotient, and a u64 has at most 20.
-- Assumes nothing.
use mathlib.Core.Bool.{true, false, false≢true}
use mathlib.Core.List.{List, [], ◌∷◌, ◌++◌}
use mathlib.Core.Logic.{⊎_elim}
use mathlib.Core.Path.{◌≡◌, sym, ap, ◌∙◌}
use Prim.Native.Nat.{ℕ, zero, suc, ◌+◌, ◌*◌, ◌/◌, ◌%◌, ◌^◌, ◌≤◌, ◌<◌, zero-le}
use native.Mathlib.Nat.{not-suc-le-zero, div-add-mod', div-lt_iff_lt-mul, pow-suc}
use native.Mathlib.Omega.{arith}
use borrow.Author.Tests.{lt-ltb, le-ltb}
use lib.Dec.{lit<}
use lib.IntN.{ℤ, pos, negsuc, nat_abs}
use lib.ListN.{length, length-append}
use lib.Signed.{lt_z}
use Rattle.numbers.proofs.Order.{side}
use Rattle.rules.specs.Text.{digits_by, digits, signed}

by_small : (k n : ℕ) → n < 10 → digits_by (suc k) n ≡ (48 + n) ∷ []
unfolding digits_by
by_small k n h = rw (lt-ltb n 10 h)

by_more : (k n : ℕ) → 10 ≤ n → digits_by (suc k) n ≡ digits_by k (n / 10) ++ ((48 + n % 10) ∷ [])
unfolding digits_by
by_more k n h = rw (le-ltb n 10 h)

pub tenth : (n : ℕ) → 10 ≤ n → n / 10 < n
tenth n h = omega (arith, div-add-mod' n 10)

-- n + 1 digits are enough, and more give the same
enough : (k m n : ℕ) → n < k → n < m → digits_by k n ≡ digits_by m n
enough zero m n h g = absurd (not-suc-le-zero h)
enough (suc k) zero n h g = absurd (not-suc-le-zero g)
enough (suc k) (suc m) n h g =
    ⊎_elim
    (λ (l : 10 ≤ n). by_more k n l
    ∙ ap (λ (d : List ℕ). d ++ ((48 + n % 10) ∷ [])) (enough k m (n / 10) (omega (arith, tenth n l)) (omega (arith, tenth n l)))
    ∙ sym (by_more m n l))
    (λ (l : n < 10). by_small k n l ∙ sym (by_small m n l))
    (side 10 n)

pub digits_small : (n : ℕ) → n < 10 → digits n ≡ (48 + n) ∷ []
unfolding digits
digits_small n h = by_small n n h

pub digits_more : (n : ℕ) → 10 ≤ n → digits n ≡ digits (n / 10) ++ ((48 + n % 10) ∷ [])
unfolding digits
digits_more n h =
    by_more n n h
    ∙ ap (λ (d : List ℕ). d ++ ((48 + n % 10) ∷ [])) (enough n (suc (n / 10)) (n / 10) (tenth n h) (omega arith))

-- a number below 10 ^ k has at most k digits
pub digits_most : (k n : ℕ) → n < 10 ^ suc k → length (digits n) ≤ suc k
digits_most zero n h = omega (arith, ap length (digits_small n h))
digits_most (suc k) n h =
    let less : n < 10 ^ suc k * 10 = rw pow-suc at h in
    ⊎_elim
    (λ (l : 10 ≤ n).
    let e = ap length (digits_more n l) ∙ length-append (digits (n / 10)) ((48 + n % 10) ∷ []) in
    omega (arith, e, digits_most k (n / 10) ((div-lt_iff_lt-mul (lit< tt)).1 less)))
    (λ (l : n < 10). omega (arith, ap length (digits_small n l)))
    (side 10 n)

-- ---- the sign

pub signed_negative : (z : ℤ) (n : ℕ) → n ≡ nat_abs z → lt_z z (pos 0) ≡ true → 45 ∷ digits n ≡ signed z
unfolding signed
signed_negative (pos k) n p e = absurd (false≢true (sym (le-ltb k 0 zero-le) ∙ e))
signed_negative (negsuc k) n p e = ap (λ (m : ℕ). 45 ∷ digits m) p

pub signed_natural : (z : ℤ) (n : ℕ) → n ≡ nat_abs z → lt_z z (pos 0) ≡ false → digits n ≡ signed z
unfolding signed
signed_natural (pos k) n p e = ap digits p
signed_natural (negsuc k) n p e = absurd (false≢true (sym e))
