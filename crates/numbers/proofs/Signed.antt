-- Signed machine numbers, whatever the width: what fits, what the machine reads back, sums, and bits read as a number of either sign.
-- Assumes nothing.
use mathlib.Core.Path.{◌≡◌, refl, sym, ap, ap₂, subst, ◌∙◌}
use Prim.Native.Nat.{ℕ, suc, ◌+◌, ◌-◌, ◌^◌, ◌≤◌, ◌<◌}
use native.Mathlib.Decide.{ℕ_discrete}
use native.Mathlib.Nat.{le_refl, lt_of_lt_of_le}
use native.Mathlib.Omega.{arith}
use borrow.Author.Tests.{eq-eqb, ne_eqb}
use lib.Dec.{T, leb, ltb, eqb, leb→le, ltb→lt, lt→ltb}
use lib.IntN.{ℤ, pos, negsuc, neg_ℤ, ◌+ℤ◌, ◌-ℤ◌, +ℤ_idl}
use lib.Pow.{pow_mono}
use mir.Syntax.{Width}
use mir.Val.{SFits, bits, hbits, to_z, of_z}
use mir.ValLaws.{to_z-of_z, to_z_pos, to_z-neg, pow-bits}
use Rattle.rules.specs.Words.{eq_z}
use Rattle.numbers.specs.Whole.{Sized}
use Rattle.numbers.proofs.Whole.{of_nat, weaken, sized_add, sized_neg, eq_of, sum_is, up_neg, down_neg}

-- a number fits where its size is below half the width's numbers
pub sfits : (w : Width) {n : ℕ} {z : ℤ} → T (ltb n (2 ^ hbits w)) → Sized n z → SFits w z
sfits w {n} {z = pos k} t s = record { sfits = omega (arith, s.size, ltb→lt n (2 ^ hbits w) t) }
sfits w {n} {z = negsuc k} t s = record { sfits = omega (arith, s.size, ltb→lt n (2 ^ hbits w) t) }

pub sized_fits : {w : Width} {z : ℤ} → SFits w z → Sized (2 ^ hbits w) z
sized_fits {w} {z = pos n} h = record { size = omega (arith, h.sfits) }
sized_fits {w} {z = negsuc n} h = record { size = h.sfits }

-- what fits a width fits a wider one
pub widen : {w : Width} {z : ℤ} (w' : Width) → T (leb (hbits w) (hbits w')) → SFits w z → SFits w' z
widen {w} w' t h = record { sfits = lt_of_lt_of_le h.sfits (pow_mono (leb→le (hbits w) (hbits w') t)) }

-- what the machine reads back of a number, and of one that was cast to a wider type
pub read : {w : Width} {z : ℤ} → SFits w z → to_z w (of_z w z) ≡ z
read {w} {z} h = to_z-of_z w z h

pub read_wide : {w : Width} {z : ℤ} (w' : Width) → T (leb (hbits w) (hbits w')) → SFits w z → to_z w' (of_z w' (to_z w (of_z w z))) ≡ z
read_wide w' t h = ap (λ (y : ℤ). to_z w' (of_z w' y)) (read h) ∙ read (widen w' t h)

-- a test of equality compares the bits
pub read_eq : {w : Width} {a b : ℤ} → SFits w a → SFits w b → eqb (of_z w a) (of_z w b) ≡ eq_z a b
read_eq {w} {a = pos a} {b = pos b} h k = refl
read_eq {w} {a = pos a} {b = negsuc b} h k = ne_eqb a (2 ^ bits w - suc b) (λ e. omega (arith, h.sfits, k.sfits, pow-bits w))
read_eq {w} {a = negsuc a} {b = pos b} h k = ne_eqb (2 ^ bits w - suc a) b (λ e. omega (arith, h.sfits, k.sfits, pow-bits w))
read_eq {w} {a = negsuc a} {b = negsuc b} h k = go (ℕ_discrete a b)
  where
    go : Dec (a ≡ b) → eqb (2 ^ bits w - suc a) (2 ^ bits w - suc b) ≡ eqb a b
    go (yes e) = eq-eqb (2 ^ bits w - suc a) (2 ^ bits w - suc b) (ap (λ (n : ℕ). 2 ^ bits w - suc n) e) ∙ sym (eq-eqb a b e)
    go (no n) = ne_eqb (2 ^ bits w - suc a) (2 ^ bits w - suc b) (λ e. n (omega (arith, h.sfits, k.sfits, pow-bits w))) ∙ sym (ne_eqb a b n)

-- ---- a sum, as the machine forms it

module _ (w : Width) {m n : ℕ} {x y : ℤ} (t : T (ltb (m + n) (2 ^ hbits w))) (s : Sized m x) (u : Sized n y) where
  sum_parts : to_z w (of_z w x) +ℤ to_z w (of_z w y) ≡ x +ℤ y
  sum_parts =
      let v : Sized (m + n) x = weaken (omega arith) s in
      let z : Sized (m + n) y = weaken (omega arith) u in
      ap₂ ◌+ℤ◌ (read (sfits w t v)) (read (sfits w t z))

  pub sum_fits : SFits w (to_z w (of_z w x) +ℤ to_z w (of_z w y))
  sum_fits = subst (λ (z : ℤ). SFits w z) (sym sum_parts) (sfits w t (sized_add s u))

  pub sum_read : to_z w (of_z w (to_z w (of_z w x) +ℤ to_z w (of_z w y))) ≡ x +ℤ y
  sum_read = read sum_fits ∙ sum_parts

-- ---- bits read as a number of either sign

-- from 2 ^ (bits - 1) on, the bits x are -k - 1, where k is what x lacks to all ones: neither step of forming that wraps
pub record Formed (w : Width) (x k : ℕ) : Type 0 where
  pub negation_fits : SFits w (pos 0 -ℤ to_z w k)
  pub difference_fits : SFits w (to_z w (of_z w (pos 0 -ℤ to_z w k)) -ℤ pos 1)
  pub signed_is : to_z w (of_z w (to_z w (of_z w (pos 0 -ℤ to_z w k)) -ℤ pos 1)) ≡ to_z w x

module _ (w : Width) (x k : ℕ) (lacks : suc (x + k) ≡ 2 ^ bits w) (high : 2 ^ hbits w ≤ x) where
  small : k < 2 ^ hbits w
  small = omega (arith, pow-bits w)

  -- the negation and the difference, as the machine forms them
  negation : pos 0 -ℤ to_z w k ≡ neg_ℤ (pos k)
  negation = +ℤ_idl _ ∙ ap neg_ℤ (to_z_pos w k small)

  negated_fits : SFits w (neg_ℤ (pos k))
  negated_fits = sfits w (lt→ltb k (2 ^ hbits w) small) (sized_neg (of_nat {m = k} (le_refl k)))

  difference : to_z w (of_z w (pos 0 -ℤ to_z w k)) -ℤ pos 1 ≡ negsuc k
  difference =
      ap (λ (z : ℤ). to_z w (of_z w z) -ℤ pos 1) negation
      ∙ ap (λ (z : ℤ). z -ℤ pos 1) (read negated_fits)
      ∙ eq_of (neg_ℤ (pos k) -ℤ pos 1) (negsuc k) (omega (arith, sum_is (neg_ℤ (pos k)) (negsuc 0), up_neg (pos k), down_neg (pos k)))

  value_fits : SFits w (negsuc k)
  value_fits = record { sfits = small }

  -- what the bits say
  value : negsuc k ≡ to_z w x
  value =
      let e : 2 ^ bits w - suc k ≡ x = omega arith in
      sym (to_z-neg w k small) ∙ ap (to_z w) e

  pub formed : Formed w x k
  formed = record {
    negation_fits = rw negation negated_fits;
    difference_fits = rw difference value_fits;
    signed_is = ap (λ (z : ℤ). to_z w (of_z w z)) difference ∙ read value_fits ∙ value;
  }
