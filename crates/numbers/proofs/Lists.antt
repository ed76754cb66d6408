-- Lists of any kind: what a store leaves, a list that is cleared from the front, and a part that was lent from the middle. Assumes nothing.
use mathlib.Core.Path.{◌≡◌, sym, ap, ◌∙◌}
use mathlib.Core.List.{List, [], ◌∷◌, ◌++◌}
use Prim.Native.Nat.{ℕ, zero, suc, ◌+◌, ◌-◌, ◌≤◌, ◌<◌}
use native.Mathlib.Nat.{zero-add, suc-add}
use native.Mathlib.Omega.{arith}
use lib.ListN.{length, get_or, set, take, drop, replicate, length-replicate, length-append, length-drop, get_or-replicate, get_or-append}
use lib.Seq.{set-append_left, get_or-append-add, length-take-le, take_all, drop_at}
use borrow.Rule.Slice.PartMut.{put_mid, post_of}
use Rattle.numbers.specs.Lists.{cleared}

module _ {A : Type 0} where
  -- what holds of the value stored and of the old element holds of the element after the store
  pub set_either : (P : A → Type 0) (l : List A) (i j : ℕ) (v d : A) → P v → P (get_or l j d) → P (get_or (set l i v) j d)
  set_either P [] i j v d p q = q
  set_either P (x ∷ l) zero zero v d p q = p
  set_either P (x ∷ l) zero (suc j) v d p q = q
  set_either P (x ∷ l) (suc i) zero v d p q = q
  set_either P (x ∷ l) (suc i) (suc j) v d p q = set_either P l i j v d p q

  set_append_add : (xs ys : List A) (i : ℕ) (v : A) → set (xs ++ ys) (length xs + i) v ≡ xs ++ set ys i v
  set_append_add [] ys i v = rw zero-add
  set_append_add (x ∷ xs) ys i v = rw suc-add (ap {B = List A} (λ l. x ∷ l) (set_append_add xs ys i v))

  -- ---- `ys` stands in the place of the k elements of xs from place a on
  module _ (a k : ℕ) (xs : List A) (h : a ≤ length xs) where
    -- a store in the part is a store in the whole
    pub put_set : (ys : List A) (j : ℕ) (v : A) → j < length ys → put_mid a k xs (set ys j v) ≡ set (put_mid a k xs ys) (a + j) v
    put_set ys j v g =
        ap (λ (l : List A). take a xs ++ l) (sym (set-append_left ys (post_of a k xs) j v g))
        ∙ sym (set_append_add (take a xs) (ys ++ post_of a k xs) j v)
        ∙ ap (λ (n : ℕ). set (put_mid a k xs ys) (n + j) v) (length-take-le a xs h)

    -- an element of the part is one of the whole
    pub put_get_d : (ys : List A) (j : ℕ) (d : A) → j < length ys → get_or (put_mid a k xs ys) (a + j) d ≡ get_or ys j d
    put_get_d ys j d g =
        ap (λ (n : ℕ). get_or (put_mid a k xs ys) (n + j) d) (sym (length-take-le a xs h))
        ∙ get_or-append-add (take a xs) (ys ++ post_of a k xs) j d
        ∙ get_or-append ys (post_of a k xs) d j g

  -- ---- cleared from the front
  pub length_cleared : (z : A) (n : ℕ) (l : List A) → n ≤ length l → length (cleared z n l) ≡ length l
  unfolding cleared
  length_cleared z n l h = simp (length-append, length-replicate, length-drop) (omega arith)

  pub get_d_cleared : (z : A) (n : ℕ) (l : List A) (i : ℕ) (d : A) → i < n → get_or (cleared z n l) i d ≡ z
  unfolding cleared
  get_d_cleared z n l i d h = get_or-append (replicate n z) (drop n l) d i (omega (arith, length-replicate n z)) ∙ get_or-replicate n i z d h

  pub drop_cleared : (z : A) (n : ℕ) (l : List A) → drop n (cleared z n l) ≡ drop n l
  unfolding cleared
  drop_cleared z n l = drop_at (replicate n z) (drop n l) n (length-replicate n z)

  -- as the first n elements are lent, filled and put back
  pub filled : (z : A) (n : ℕ) (l m : List A) → n ≤ length l → m ≡ replicate (length (take n l)) z → m ++ drop n l ≡ cleared z n l
  unfolding cleared
  filled z n l m h e = ap (λ (t : List A). t ++ drop n l) (e ∙ ap (λ (k : ℕ). replicate k z) (length-take-le n l h))

  -- ---- the part from place n on, as a loan writes it
  pub part_rest : (n : ℕ) (l : List A) → take (length l - n) (drop n l) ≡ drop n l
  part_rest n l = take_all (length l - n) (drop n l) (omega (arith, length-drop n l))
