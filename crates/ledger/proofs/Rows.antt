-- The ledger's nine numbers of a cycle: what an interval and a sample add to them, in the ledger and in the stretch that is lent.
-- Assumes nothing.
use mathlib.Core.Path.{◌≡◌, refl, sym, ap, ap₂, ◌∙◌, subst}
use mathlib.Core.Bool.{Bool, true, false, ◌&&◌}
use mathlib.Core.List.{List}
use Prim.Native.Nat.{ℕ, ◌+◌, ◌-◌, ◌*◌, ◌≤◌, ◌<◌}
use native.Mathlib.Decide.{dec_lt}
use native.Mathlib.Nat.{zero-add}
use native.Mathlib.Omega.{arith}
use borrow.Rule.Slice.PartMut.{put_mid, mid_of, put_same}
use lib.IntN.{ℤ, pos, ◌+ℤ◌}
use lib.ListN.{length, set, drop, length-take, length-drop, length-set, get_or-eq_default}
use lib.Seq.{get_or-set_same, get_or-set_other, get_or-take, get_or-drop, drop-set-lt}
use lib.Signed.{lt_z}
use Rattle.numbers.specs.Lists.{plus}
use Rattle.numbers.specs.Whole.{Sized, Small}
use Rattle.numbers.proofs.Lists.{put_set, put_get_d}
use Rattle.numbers.proofs.Whole.{of_nat}
use Rattle.rules.specs.declared.Moment.{Moment}
use Rattle.rules.specs.Bench.{most_cycles, most_phases}
use Rattle.rules.specs.Shown.{ledger_numbers}
use Rattle.ledger.specs.Row.{at, interval_added, outside_added, is_over}

-- ---- one number

pub at_plus_same : (l : List ℤ) (i : ℕ) (z : ℤ) → i < length l → at (plus l i z) i ≡ at l i +ℤ z
at_plus_same l i z h = get_or-set_same l i (at l i +ℤ z) (pos 0) h

pub at_plus_other : (l : List ℤ) (i j : ℕ) (z : ℤ) → (j ≡ i → ⊥) → at (plus l i z) j ≡ at l j
at_plus_other l i j z n = get_or-set_other l i j (at l i +ℤ z) (pos 0) n

pub length_plus : (l : List ℤ) (i : ℕ) (z : ℤ) → length (plus l i z) ≡ length l
length_plus l i z = length-set l i (at l i +ℤ z)

-- ---- a sample, and an interval

pub length_outside : (a : ℕ) (l : List ℤ) (out : Bool) → length (outside_added a l out) ≡ length l
length_outside a l true = length_plus l (a + 8) (pos 1)
length_outside a l false = refl

pub length_interval : (a : ℕ) (l : List ℤ) (k : ℕ) (x y : Moment) → length (interval_added a l k x y) ≡ length l
unfolding interval_added
length_interval a l k x y = length_plus (plus l (a + k) _) (a + (4 + k)) _ ∙ length_plus l (a + k) _

-- ---- beyond the ledger's 576 numbers nothing changes

plus_beyond : (l : List ℤ) (i : ℕ) (z : ℤ) → i < ledger_numbers → drop ledger_numbers (plus l i z) ≡ drop ledger_numbers l
plus_beyond l i z h = drop-set-lt ledger_numbers l i _ h

module _ (c : ℕ) (l : List ℤ) (h : c < most_cycles) where
  pub outside_beyond : (out : Bool) → drop ledger_numbers (outside_added (9 * c) l out) ≡ drop ledger_numbers l
  outside_beyond true = plus_beyond l (9 * c + 8) (pos 1) (omega arith)
  outside_beyond false = refl

  pub interval_beyond : (k : ℕ) (x y : Moment) → k < most_phases → drop ledger_numbers (interval_added (9 * c) l k x y) ≡ drop ledger_numbers l
  unfolding interval_added
  interval_beyond k x y g = plus_beyond (plus l (9 * c + k) _) (9 * c + (4 + k)) _ (omega arith) ∙ plus_beyond l (9 * c + k) _ (omega arith)

-- ---- the stretch of nine that is lent, and put back

-- n stands for 9: of a range s..e the checker states e - s
module _ (a n : ℕ) (xs : List ℤ) (nine : n ≡ 9) (h : a + 9 ≤ length xs) where
  abbrev part : List ℤ
  part = mid_of a n xs

  part_length : length (mid_of a n xs) ≡ 9
  part_length = omega (arith, length-take n (drop a xs), length-drop a xs)

  put_plus : (ys : List ℤ) (j : ℕ) (z : ℤ) → j < length ys → put_mid a n xs (plus ys j z) ≡ plus (put_mid a n xs ys) (a + j) z
  put_plus ys j z g =
      put_set a n xs (omega arith) ys j (at ys j +ℤ z) g
      ∙ ap (λ (v : ℤ). set (put_mid a n xs ys) (a + j) (v +ℤ z)) (sym (put_get_d a n xs (omega arith) ys j (pos 0) g))

  put_outside : (out : Bool) → put_mid a n xs (outside_added 0 (mid_of a n xs) out) ≡ outside_added a xs out
  put_outside true = put_plus part 8 (pos 1) (omega (arith, part_length)) ∙ ap (λ (l : List ℤ). plus l (a + 8) (pos 1)) (put_same a n xs)
  put_outside false = put_same a n xs

  over_part : (out : Bool) (al : ℕ) → is_over 0 (mid_of a n xs) out al ≡ is_over a xs out al
  over_part out al =
      ap (λ (z : ℤ). out && lt_z (pos al) z)
      (sym (put_get_d a n xs (omega arith) (outside_added 0 part out) 8 (pos 0) (omega (arith, part_length, length_outside 0 part out)))
      ∙ ap (λ (l : List ℤ). at l (a + 8)) (put_outside out))

  put_interval : (k : ℕ) (x y : Moment) → k < 4 → put_mid a n xs (interval_added 0 (mid_of a n xs) k x y) ≡ interval_added a xs k x y
  unfolding interval_added
  put_interval k x y g =
      put_plus p₁ (0 + (4 + k)) d (omega (arith, part_length, length_plus part (0 + k) e))
      ∙ ap₂ (λ (l : List ℤ) (j : ℕ). plus l (a + j) d) one (zero-add (4 + k))
    where
      e : ℤ
      e = x.energy +ℤ y.energy

      d : ℤ
      d = pos (x.speed + y.speed)

      p₁ : List ℤ
      p₁ = plus part (0 + k) e

      one : put_mid a n xs p₁ ≡ plus xs (a + k) e
      one = put_plus part (0 + k) e (omega (arith, part_length)) ∙ ap₂ (λ (l : List ℤ) (j : ℕ). plus l (a + j) e) (put_same a n xs) (zero-add k)

-- a part of a list whose first m numbers are within n
part_small : (n m a k : ℕ) (l : List ℤ) → ((j : ℕ) → j < m → Sized n (at l j)) → a + k ≤ m → Small n (mid_of a k l)
part_small n m a k l s h j = go (dec_lt j k)
  where
    go : Dec (j < k) → Sized n (at (mid_of a k l) j)
    go (yes g) = subst (Sized n) (sym (get_or-take k (drop a l) j (pos 0) g ∙ get_or-drop a l j (pos 0))) (s (a + j) (omega arith))
    go (no g) = subst (Sized n) (sym (get_or-eq_default (mid_of a k l) (pos 0) (omega (arith, length-take k (drop a l))))) (of_nat (omega arith))

-- the nine numbers of cycle c, as the code lends them on
module _ (c : ℕ) (l : List ℤ) (row : c < most_cycles) (long : ledger_numbers ≤ length l) where
  abbrev nine : ℕ
  nine = 9 * c + 9 - 9 * c

  there : 9 * c + 9 ≤ length l
  there = omega arith

  pub nine_length : length (mid_of (9 * c) (9 * c + 9 - 9 * c) l) ≡ 9
  nine_length = part_length (9 * c) nine l (omega arith) there

  pub nine_small : {n : ℕ} → ((i : ℕ) → i < ledger_numbers → Sized n (at l i)) → Small n (mid_of (9 * c) (9 * c + 9 - 9 * c) l)
  nine_small {n} s j = part_small n ledger_numbers (9 * c) nine l s (omega arith) j

  pub nine_over : (out : Bool) (al : ℕ) → is_over 0 (mid_of (9 * c) (9 * c + 9 - 9 * c) l) out al ≡ is_over (9 * c) l out al
  nine_over = over_part (9 * c) nine l (omega arith) there

  -- what is done to them is done to the ledger
  pub nine_outside : {ys : List ℤ} (out : Bool) → ys ≡ outside_added 0 (mid_of (9 * c) (9 * c + 9 - 9 * c) l) out
      → put_mid (9 * c) (9 * c + 9 - 9 * c) l ys ≡ outside_added (9 * c) l out
  nine_outside out e = ap (put_mid (9 * c) nine l) e ∙ put_outside (9 * c) nine l (omega arith) there out

  pub nine_interval : {ys : List ℤ} (k : ℕ) (x y : Moment) → k < most_phases → ys ≡ interval_added 0 (mid_of (9 * c) (9 * c + 9 - 9 * c) l) k x y
      → put_mid (9 * c) (9 * c + 9 - 9 * c) l ys ≡ interval_added (9 * c) l k x y
  nine_interval k x y h e = ap (put_mid (9 * c) nine l) e ∙ put_interval (9 * c) nine l (omega arith) there k x y h
