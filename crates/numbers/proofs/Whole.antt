-- ℤ for `omega`, which reads only ℕ. An integer z is `up z` less `down z`, two naturals. Sums, negation, order, equality and size of
-- integers are stated here once, each as a linear fact on those naturals, so that a fact on integers is `omega` on theirs. Assumes nothing.
use mathlib.Core.Path.{◌≡◌, refl, sym, ap, ◌∙◌, subst}
use mathlib.Core.Bool.{Bool, true, false, cond, not, false≢true}
use mathlib.Core.List.{List}
use Prim.Native.Nat.{ℕ, zero, suc, ◌+◌, ◌*◌, ◌-◌, ◌≤◌}
use native.Mathlib.Nat.{le_trans, mul-le-mul}
use native.Mathlib.Omega.{arith}
use borrow.Author.Tests.{eqb-true, ltb-true, ltb-false, leb-true, leb-false, le-leb, lt-leb}
use lib.Dec.{leb, ltb}
use lib.IntN.{ℤ, pos, negsuc, neg_ℤ, nat_abs, sub_ℕ, ◌+ℤ◌, ◌*ℤ◌}
use lib.ListN.{get_or}
use lib.Signed.{le_z, lt_z}
use Rattle.rules.specs.Words.{up, between, eq_z, fold, gather, sum_of, sum_ofℤ}
use Rattle.numbers.specs.Whole.{down, Sized, Small}
use Rattle.numbers.specs.Lists.{plus}
use Rattle.numbers.proofs.Tests.{both}
use Rattle.numbers.proofs.Lists.{set_either}

-- ---- sum, negation, equality

sub_parts : (a b : ℕ) → up (sub_ℕ a b) + b ≡ a + down (sub_ℕ a b)
sub_parts a b = go (ltb a b) refl
  where
    go : (t : Bool) → ltb a b ≡ t → up (cond t (negsuc (b - suc a)) (pos (a - b))) + b ≡ a + down (cond t (negsuc (b - suc a)) (pos (a - b)))
    go true e = omega (arith, ltb-true a b e)
    go false e = omega (arith, ltb-false a b e)

pub sum_is : (a b : ℤ) → up (a +ℤ b) + (down a + down b) ≡ (up a + up b) + down (a +ℤ b)
sum_is (pos a) (pos b) = omega arith
sum_is (pos a) (negsuc b) = omega (arith, sub_parts a (suc b))
sum_is (negsuc a) (pos b) = omega (arith, sub_parts b (suc a))
sum_is (negsuc a) (negsuc b) = omega arith

pub eq_z_true : (a b : ℤ) → eq_z a b ≡ true → a ≡ b
eq_z_true (pos a) (pos b) e = ap pos (eqb-true a b e)
eq_z_true (pos a) (negsuc b) e = absurd (false≢true e)
eq_z_true (negsuc a) (pos b) e = absurd (false≢true e)
eq_z_true (negsuc a) (negsuc b) e = ap negsuc (eqb-true a b e)

pub up_neg : (a : ℤ) → up (neg_ℤ a) ≡ down a
up_neg (pos zero) = refl
up_neg (pos (suc n)) = refl
up_neg (negsuc n) = refl

pub down_neg : (a : ℤ) → down (neg_ℤ a) ≡ up a
down_neg (pos zero) = refl
down_neg (pos (suc n)) = refl
down_neg (negsuc n) = refl

pub eq_of : (a b : ℤ) → up a + down b ≡ up b + down a → a ≡ b
eq_of (pos a) (pos b) e = let h : a ≡ b = omega arith in ap pos h
eq_of (pos a) (negsuc b) e = absurd (omega arith)
eq_of (negsuc a) (pos b) e = absurd (omega arith)
eq_of (negsuc a) (negsuc b) e = let h : a ≡ b = omega arith in ap negsuc h

-- ---- order

le_is : (a b : ℤ) → le_z a b ≡ leb (up a + down b) (up b + down a)
le_is (pos a) (pos b) = go (leb a b) refl
  where
    go : (t : Bool) → leb a b ≡ t → t ≡ leb (a + 0) (b + 0)
    go true e = sym (le-leb (a + 0) (b + 0) (omega (arith, leb-true a b e)))
    go false e = sym (lt-leb (a + 0) (b + 0) (omega (arith, leb-false a b e)))
le_is (pos a) (negsuc b) = sym (lt-leb (a + suc b) 0 (omega arith))
le_is (negsuc a) (pos b) = sym (le-leb 0 (b + suc a) (omega arith))
le_is (negsuc a) (negsuc b) = go (leb b a) refl
  where
    go : (t : Bool) → leb b a ≡ t → t ≡ leb (0 + suc b) (0 + suc a)
    go true e = sym (le-leb (0 + suc b) (0 + suc a) (omega (arith, leb-true b a e)))
    go false e = sym (lt-leb (0 + suc b) (0 + suc a) (omega (arith, leb-false b a e)))

pub le_up : (a b : ℤ) → le_z a b ≡ true → up a + down b ≤ up b + down a
le_up a b e = leb-true (up a + down b) (up b + down a) (sym (le_is a b) ∙ e)

pub up_le : (a b : ℤ) → up a + down b ≤ up b + down a → le_z a b ≡ true
up_le a b h = le_is a b ∙ le-leb (up a + down b) (up b + down a) h

-- the two tests of order
pub leb_not : (a b : ℕ) → leb b a ≡ not (ltb a b)
leb_not a b = go (ltb a b) refl
  where
    go : (t : Bool) → ltb a b ≡ t → leb b a ≡ not t
    go true e = lt-leb b a (ltb-true a b e)
    go false e = le-leb b a (ltb-false a b e)

pub le_not : (a b : ℤ) → le_z b a ≡ not (lt_z a b)
le_not (pos a) (pos b) = leb_not a b
le_not (pos a) (negsuc b) = refl
le_not (negsuc a) (pos b) = refl
le_not (negsuc a) (negsuc b) = leb_not b a

-- ---- size

pub abs_is : (a : ℤ) → nat_abs a ≡ up a + down a
abs_is (pos n) = omega arith
abs_is (negsuc n) = omega arith

-- one of the two parts is zero, so that a bound on either side bounds the size
abs_le : (a : ℤ) (n : ℕ) → up a ≤ n + down a → down a ≤ n + up a → nat_abs a ≤ n
abs_le (pos a) n h k = omega arith
abs_le (negsuc a) n h k = omega arith

abs_add : (a b : ℤ) → nat_abs (a +ℤ b) ≤ nat_abs a + nat_abs b
abs_add a b =
    abs_le (a +ℤ b) (nat_abs a + nat_abs b)
    (omega (arith, sum_is a b, abs_is a, abs_is b))
    (omega (arith, sum_is a b, abs_is a, abs_is b))

abs_neg : (a : ℤ) → nat_abs (neg_ℤ a) ≡ nat_abs a
abs_neg (pos zero) = refl
abs_neg (pos (suc n)) = refl
abs_neg (negsuc n) = refl

abs_mul : (a b : ℤ) → nat_abs (a *ℤ b) ≡ nat_abs a * nat_abs b
abs_mul (pos m) (pos n) = refl
abs_mul (pos m) (negsuc n) = abs_neg (pos (m * suc n))
abs_mul (negsuc m) (pos n) = abs_neg (pos (suc m * n))
abs_mul (negsuc m) (negsuc n) = refl

-- ---- size as a record, from which antt finds the number and its bound

pub of_nat : {m n : ℕ} → m ≤ n → Sized n (pos m)
of_nat h = record { size = h }

pub weaken : {m n : ℕ} {a : ℤ} → m ≤ n → Sized m a → Sized n a
weaken h s = record { size = le_trans s.size h }

pub sized_add : {m n : ℕ} {a b : ℤ} → Sized m a → Sized n b → Sized (m + n) (a +ℤ b)
sized_add {a = a} {b = b} s t = record { size = omega (arith, abs_add a b) }

pub sized_neg : {n : ℕ} {a : ℤ} → Sized n a → Sized n (neg_ℤ a)
sized_neg {a = a} s = record { size = omega (arith, abs_neg a) }

pub sized_mul : {m n : ℕ} {a b : ℤ} → Sized m a → Sized n b → Sized (m * n) (a *ℤ b)
sized_mul {m} {n} {a} {b} s t = record { size = subst (λ (k : ℕ). k ≤ m * n) (sym (abs_mul a b)) (mul-le-mul s.size t.size) }

pub sized_between : (n : ℕ) (z : ℤ) → between (neg_ℤ (pos n)) (pos n) z ≡ true → Sized n z
sized_between n z e = record {
  size =
      abs_le z n
      (omega (arith, le_up z (pos n) (both (le_z (neg_ℤ (pos n)) z) (le_z z (pos n)) e).1))
      (omega (arith, up_neg (pos n), down_neg (pos n), le_up (neg_ℤ (pos n)) z (both (le_z (neg_ℤ (pos n)) z) (le_z z (pos n)) e).0));
}

pub sized_upto : (n : ℕ) (z : ℤ) → between (pos 0) (pos n) z ≡ true → Sized n z
sized_upto n z e = record {
  size =
      abs_le z n
      (omega (arith, le_up z (pos n) (both (le_z (pos 0) z) (le_z z (pos n)) e).1))
      (omega (arith, le_up (pos 0) z (both (le_z (pos 0) z) (le_z z (pos n)) e).0));
}

-- and the other way round
pub between_sized : (n : ℕ) (z : ℤ) → Sized n z → between (neg_ℤ (pos n)) (pos n) z ≡ true
between_sized n z s =
    rw (
      up_le (neg_ℤ (pos n)) z (omega (arith, up_neg (pos n), down_neg (pos n), abs_is z)),
      up_le z (pos n) (omega (arith, abs_is z)),
    )

pub between_upto : (n m : ℕ) → m ≤ n → between (pos 0) (pos n) (pos m) ≡ true
between_upto n m h = rw (up_le (pos 0) (pos m) (omega arith), up_le (pos m) (pos n) (omega arith))

-- the size of a sum is at most the sum of the sizes
pub sized_gather : (test : ℕ → Bool) (f : ℕ → ℤ) (m : ℕ) → Sized (sum_of test (λ j. nat_abs (f j)) m) (sum_ofℤ test f m)
unfolding fold gather
sized_gather test f zero = of_nat (omega arith)
sized_gather test f (suc m) = sized_add (sized_gather test f m) (go (test m))
  where
    go : (b : Bool) → Sized (cond b (nat_abs (f m)) 0) (cond b (f m) (pos 0))
    go true = record { size = omega arith }
    go false = of_nat (omega arith)

-- z is added to number k of a list: number j is larger than before by no more than z's size, and so is every number
pub sized_plus : {m n : ℕ} {z : ℤ} (l : List ℤ) (k j : ℕ) → Sized m (get_or l k (pos 0)) → Sized m (get_or l j (pos 0)) → Sized n z
    → Sized (m + n) (get_or (plus l k z) j (pos 0))
sized_plus {m} {n} {z} l k j s t h = set_either (Sized (m + n)) l k j (get_or l k (pos 0) +ℤ z) (pos 0) (sized_add s h) (weaken (omega arith) t)

pub small_plus : {m n : ℕ} {z : ℤ} (l : List ℤ) (k : ℕ) → Small m l → Sized n z → Small (m + n) (plus l k z)
small_plus l k s h j = sized_plus l k j (s k) (s j) h
