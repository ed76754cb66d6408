-- The size of a negative number z, as the machine forms it, for every width: -(z + 1), and then one more. No step wraps.
-- Assumes nothing.
use mathlib.Core.Bool.{true, false, false≢true}
use mathlib.Core.Path.{◌≡◌, sym, ap, ◌∙◌}
use Prim.Native.Nat.{ℕ, ◌+◌, ◌^◌, ◌<◌, zero-le}
use native.Mathlib.Nat.{le_refl}
use native.Mathlib.Numerals.{add-one}
use native.Mathlib.Omega.{arith}
use borrow.Author.Tests.{le-ltb}
use lib.Dec.{T, lt→ltb}
use lib.IntN.{ℤ, pos, negsuc, neg_ℤ, nat_abs, ◌+ℤ◌, ◌-ℤ◌}
use lib.Signed.{lt_z, non_neg}
use mir.Syntax.{Width}
use mir.Val.{SFits, hbits, to_z, of_z}
use Rattle.numbers.proofs.Whole.{of_nat, sized_neg, eq_of, sum_is, up_neg, down_neg}
use Rattle.numbers.proofs.Signed.{sfits, read}

-- z + 1, and its opposite
abbrev pub raised : Width → ℤ → ℤ
raised w z = to_z w (of_z w z) +ℤ pos 1

abbrev pub turned : Width → ℤ → ℤ
turned w z = pos 0 -ℤ to_z w (of_z w (raised w z))

pub record Turned (w : Width) (z : ℤ) : Type 0 where
  pub raised_fits : SFits w (raised w z)
  pub turned_fits : SFits w (turned w z)
  pub rest : ℕ
  pub small : rest < 2 ^ hbits w
  pub is_rest : to_z w (of_z w (turned w z)) ≡ pos rest
  pub size : rest + 1 ≡ nat_abs z

of_negative : (w : Width) (k : ℕ) → SFits w (negsuc k) → Turned w (negsuc k)
of_negative w k h =
    let one : raised w (negsuc k) ≡ neg_ℤ (pos k) =
    ap (λ (z : ℤ). z +ℤ pos 1) (read h)
    ∙ eq_of (negsuc k +ℤ pos 1) (neg_ℤ (pos k)) (omega (arith, sum_is (negsuc k) (pos 1), up_neg (pos k), down_neg (pos k))) in
    let one-fits : SFits w (neg_ℤ (pos k)) = sfits w (lt→ltb k (2 ^ hbits w) h.sfits) (sized_neg (of_nat {m = k} (le_refl k))) in
    let two : turned w (negsuc k) ≡ pos k =
    ap (λ (z : ℤ). pos 0 -ℤ to_z w (of_z w z)) one
    ∙ ap (λ (z : ℤ). pos 0 -ℤ z) (read one-fits)
    ∙ eq_of (pos 0 -ℤ neg_ℤ (pos k)) (pos k)
    (omega (arith, sum_is (pos 0) (neg_ℤ (neg_ℤ (pos k))), up_neg (pos k), down_neg (pos k), up_neg (neg_ℤ (pos k)), down_neg (neg_ℤ (pos k)))) in
    let two_fits : SFits w (pos k) = record { sfits = h.sfits } in
    record {
      raised_fits = rw one one-fits;
      turned_fits = rw two two_fits;
      rest = k;
      small = h.sfits;
      is_rest = ap (λ (z : ℤ). to_z w (of_z w z)) two ∙ read two_fits;
      size = add-one k;
    }

-- the test on the machine's number is one of z
pub sign_read : {w : Width} {z : ℤ} → SFits w z → lt_z z (pos 0) ≡ lt_z (to_z w (of_z w z)) (pos 0)
sign_read h = ap (λ (y : ℤ). lt_z y (pos 0)) (sym (read h))

pub negative : (w : Width) (z : ℤ) → SFits w z → lt_z z (pos 0) ≡ true → Turned w z
negative w (pos n) h e = absurd (false≢true (sym (le-ltb n 0 zero-le) ∙ e))
negative w (negsuc k) h e = of_negative w k h

-- a number that is not negative is its own size
pub natural : (w : Width) (z : ℤ) → SFits w z → lt_z z (pos 0) ≡ false → T (non_neg z) × (nat_abs z < 2 ^ hbits w)
natural w (pos n) h e = (tt, h.sfits)
natural w (negsuc k) h e = absurd (false≢true (sym e))
