-- Numbers as the closing meets them: a cast of a signed number that is not below 0, amounts within their limits, energy and rate of one cycle.
-- Assumes nothing.
use mathlib.Core.Bool.{true, ◌&&◌, false≢true}
use mathlib.Core.List.{List}
use mathlib.Core.Path.{◌≡◌, refl, sym, ap, subst, ◌∙◌}
use Prim.Native.Nat.{ℕ, zero, suc, ◌*◌, ◌/◌, ◌^◌, ◌≤◌, ◌<◌}
use native.Mathlib.Nat.{lt_of_le_of_lt, mul-le-mul, div-le_self, div-zero}
use native.Mathlib.Omega.{arith}
use borrow.Author.Tests.{leb-true, lt-ltb}
use lib.Dec.{T, leb, ltb, ltb→lt}
use lib.IntN.{ℤ, pos, negsuc, nat_abs}
use lib.Signed.{le_z, lt_z, non_neg}
use mir.Syntax.{w64}
use mir.Val.{Fits, SFits, to_z, of_z}
use Rattle.std.specs.Prelude.{Result, Ok, Err}
use Rattle.std.specs.Int.{FitsUnsignedBits}
use Rattle.std.specs.Result.{OkIff, result_unwrap_or}
use Rattle.rules.specs.Words.{up}
use Rattle.numbers.specs.Whole.{Sized}
use Rattle.numbers.proofs.Signed.{sized_fits}
use Rattle.numbers.proofs.Tests.{both}
use Rattle.numbers.proofs.Whole.{abs_is, sized_between}
use Rattle.values.specs.Limits.{are_amounts}
use Rattle.rules.specs.declared.Amounts.{Amounts}
use Rattle.laws.specs.Beside.{most_transfer, is_transfer}
use Rattle.rules.specs.Closing.{is_charge, most_rate, is_rate, rate_of}
use Rattle.rules.specs.Bench.{most_phases, most_cycles}
use Rattle.rules.specs.Shown.{most_energy}
use Rattle.ledger.specs.Row.{bounded, energy_in, distance_in}
use Rattle.ledger.proofs.Bounded.{energy_sized}

-- ---- numbers

-- a product of bounded numbers fits 64 bits
pub product_fits : (a b : ℕ) {x y : ℕ} → x ≤ a → y ≤ b → T (ltb (a * b) (2 ^ 64)) → Fits w64 (x * y)
product_fits a b h k t = record { fits = lt_of_le_of_lt (mul-le-mul h k) (ltb→lt (a * b) (2 ^ 64) t) }

-- z is one of 1..n
pub record Positive (n : ℕ) (z : ℤ) : Type 0 where
  pub is : pos (up z) ≡ z
  pub least : 1 ≤ up z
  pub most : up z ≤ n

pub positive : (n : ℕ) (z : ℤ) → Sized n z → le_z (pos 1) z ≡ true → Positive n z
positive n (pos m) s e = record { is = refl; least = leb-true 1 m e; most = s.size }
positive n (negsuc m) s e = absurd (false≢true e)

-- a positive z, read as y, is cast to an unsigned number: the cast is defined, and is `up z`
pub record Cast (y z : ℤ) : Type 0 where
  pub fits : T (non_neg y) × Fits w64 (nat_abs y)
  pub is : nat_abs y ≡ up z

pub cast : {n : ℕ} {y z : ℤ} → T (ltb n (2 ^ 64)) → y ≡ z → Positive n z → Cast y z
cast {n} {y} {z} t e p = record { fits = (subst (λ (x : ℤ). T (non_neg x)) (sym was) tt, small); is = is }
  where
    was : y ≡ pos (up z)
    was = e ∙ sym p.is

    is : nat_abs y ≡ up z
    is = ap nat_abs was

    small : Fits w64 (nat_abs y)
    small = record { fits = rw is (lt_of_le_of_lt p.most (ltb→lt n (2 ^ 64) t)) }

-- a number that is read as y, as a natural one, 0 where it is below 0
pub natural : {E : Type 0} {y z : ℤ} (r : Result ℕ E) → SFits w64 z → y ≡ z → OkIff r (FitsUnsignedBits 64 y) (nat_abs y) → result_unwrap_or r 0 ≡ up z
natural {E} {y} {z} r fits e h = go z (sized_fits fits).size r (subst (λ (x : ℤ). OkIff r (FitsUnsignedBits 64 x) (nat_abs x)) e h)
  where
    go : (z : ℤ) → nat_abs z ≤ 2 ^ 63 → (r : Result ℕ E) → OkIff r (FitsUnsignedBits 64 z) (nat_abs z) → result_unwrap_or r 0 ≡ up z
    go (pos m) s (Ok x) h = h.1
    go (pos m) s (Err x) h = absurd (h (omega arith))
    go (negsuc m) s (Ok x) h = absurd h.0
    go (negsuc m) s (Err x) h = refl

-- the machine's reading of a number that fits
abbrev pub machine : ℤ → ℤ
machine r = to_z w64 (of_z w64 r)

-- amounts within their limits
pub record InLimits (a : Amounts) : Type 0 where
  pub before : Sized most_transfer a.before
  pub after : Sized most_transfer a.after
  pub charge : is_charge a.charge ≡ true

pub in_limits : (a : Amounts) → are_amounts a ≡ true → InLimits a
unfolding are_amounts
in_limits a e =
    let (transfers, charge) = both (is_transfer a.before && is_transfer a.after) _ e in
    let (before, after) = both (is_transfer a.before) _ transfers in
    record { before = sized_between most_transfer a.before before; after = sized_between most_transfer a.after after; charge = charge }

-- ---- one cycle

abbrev pub most_drawn : ℕ
most_drawn = most_phases * most_energy

-- an energy that is drawn, by its natural part
pub drawn_up : (z : ℤ) → leb 1 (up z) ≡ le_z (pos 1) z
drawn_up (pos m) = refl
drawn_up (negsuc m) = refl

-- a rate within its limits
pub rate_within : (q : ℕ) → is_rate q ≡ true → (1 ≤ q) × (q ≤ most_rate)
rate_within q e = let (a, b) = both (leb 1 q) (leb q most_rate) e in (leb-true 1 q a, leb-true q most_rate b)

-- a cycle that has a rate has moved
pub moved_at : (e d : ℤ) → is_rate (100 * up e / up d) ≡ true → lt_z (pos 0) d ≡ true
moved_at e (pos m) h = lt-ltb 0 m (moved m (rate_within _ h).0)
  where
    moved : (m : ℕ) → 1 ≤ 100 * up e / m → 0 < m
    moved zero l = absurd (omega (arith, div-zero (100 * up e)))
    moved (suc m) l = omega arith
moved_at e (negsuc m) h = absurd (omega (arith, div-zero (100 * up e), (rate_within (100 * up e / 0) h).0))

module _ (l : List ℤ) (b : bounded l ≡ true) (c : ℕ) (h : c < most_cycles) where
  -- neither e_c nor q_c is large
  pub energy_most : up (energy_in l c) ≤ most_drawn
  energy_most = omega (arith, abs_is (energy_in l c), (energy_sized l b c h).size)

  pub rate_most : rate_of (energy_in l) (distance_in l) c ≤ 100 * most_drawn
  rate_most = omega (arith, div-le_self (100 * up (energy_in l c)) (up (distance_in l c)), energy_most)
