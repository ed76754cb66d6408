-- What stands at the front of the bytes, also where more bytes follow; by any table.
-- Assumes nothing.
use mathlib.Core.Bool.{Bool, true, false, false≢true}
use mathlib.Core.List.{List, [], ◌++◌}
use mathlib.Core.Path.{◌≡◌, refl, sym, ap, ◌∙◌}
use Prim.Native.Nat.{ℕ, ◌+◌, ◌≤◌}
use native.Mathlib.Omega.{arith}
use lib.Dec.{leb, ltb}
use borrow.Author.Tests.{ltb-true, leb-true, lt-ltb, le-leb}
use lib.ListN.{length, get_or, take, drop, length-append, length-drop, get_or-append}
use lib.Seq.{length-take-le, take-append-le, drop-append-le}
use Rattle.rules.specs.Words.{be}
use Rattle.rules.specs.Words.{unless}
use Rattle.numbers.proofs.Bytes.{be_left}
use Rattle.numbers.proofs.Tests.{pass, stop, passed}
use Rattle.rules.specs.Table.{Row, is_tag, length_allowed}
use Rattle.rules.specs.Front.{Field, Front, incomplete, impossible, field, bytes_of, field_in, front_of}

-- ---- a whole field

module _ {M : Type 0} (rows : List (Row M)) (i : List ℕ) where
  -- what holds where a whole field stands at the front
  pub record Whole (f : Field) : Type 0 where
    pub is : f ≡ field_in i
    pub size : bytes_of f ≡ 3 + be 2 i 1
    pub known : is_tag rows (get_or i 0 0) ≡ true
    pub allowed : length_allowed rows (get_or i 0 0) (be 2 i 1) ≡ true
    pub long : 3 + be 2 i 1 ≤ length i
    pub length_is : length f.value ≡ be 2 i 1

  value_length : 3 + be 2 i 1 ≤ length i → length (take (be 2 i 1) (drop 3 i)) ≡ be 2 i 1
  value_length h = length-take-le (be 2 i 1) (drop 3 i) (rw (length-drop 3 i) (omega arith))

  pub front_whole : (f : Field) → front_of rows i ≡ field f → Whole f
  unfolding front_of
  front_whole f e =
      let e₁ = passed incomplete (field f) _ _ (λ q. false≢true cc) e in
      let e₂ = passed impossible (field f) _ _ (λ q. false≢true cc) e₁.1 in
      let e₃ = passed incomplete (field f) _ _ (λ q. false≢true cc) e₂.1 in
      let e₄ = passed impossible (field f) _ _ (λ q. false≢true cc) e₃.1 in
      let e₅ = passed incomplete (field f) _ _ (λ q. false≢true cc) e₄.1 in
      let is : f ≡ field_in i = cc e₅.1 in
      let long = leb-true (3 + be 2 i 1) (length i) e₅.0 in
      record {
        is = is;
        size = ap bytes_of is ∙ ap (λ (n : ℕ). 3 + n) (value_length long);
        known = e₂.0;
        allowed = e₄.0;
        long = long;
        length_is = ap (λ (g : Field). length g.value) is ∙ value_length long;
      }

  -- its length is one that its tag allows
  pub front_allowed : (f : Field) → front_of rows i ≡ field f → length_allowed rows f.tag (length f.value) ≡ true
  front_allowed f e = let w = front_whole f e in (λ k. length_allowed rows (w.is k).tag (w.length_is k)) ∙ w.allowed

  pub whole_front : is_tag rows (get_or i 0 0) ≡ true → length_allowed rows (get_or i 0 0) (be 2 i 1) ≡ true → 3 + be 2 i 1 ≤ length i → front_of rows i ≡ field (field_in i)
  unfolding front_of
  whole_front known allowed long =
      sym
      (pass incomplete (lt-ltb 0 (length i) (omega arith))
      (pass impossible known
      (pass incomplete (le-leb 3 (length i) (omega arith))
      (pass impossible allowed
      (pass incomplete (le-leb (3 + be 2 i 1) (length i) long) refl)))))

-- ---- no bytes, and more bytes

pub front_none : {M : Type 0} (rows : List (Row M)) → front_of rows [] ≡ incomplete
unfolding front_of
front_none rows = sym (stop _ refl)

-- a test that may pass with more bytes, and one that does not look at them
waits : (b b' : Bool) (rest rest' : Front) → (b ≡ true → b' ≡ true) → (b ≡ true → (rest ≡ incomplete → ⊥) → rest' ≡ rest)
    → (unless incomplete b rest ≡ incomplete → ⊥) → unless incomplete b' rest' ≡ unless incomplete b rest
unfolding unless
waits true b' rest rest' f g h = rw (f refl) (g refl h)
waits false b' rest rest' f g h = absurd (h refl)

tests : (x : Front) (b b' : Bool) (rest rest' : Front) → b' ≡ b → (b ≡ true → (rest ≡ incomplete → ⊥) → rest' ≡ rest)
    → (unless x b rest ≡ incomplete → ⊥) → unless x b' rest' ≡ unless x b rest
unfolding unless
tests x true b' rest rest' e g h = rw e (g refl h)
tests x false b' rest rest' e g h = rw e

-- "An unknown tag is refused from its first byte, a length not allowed for its tag from the third.": what is not incomplete stays, whatever follows it
module _ {M : Type 0} (rows : List (Row M)) (p q : List ℕ) where
  longer : {n : ℕ} → n ≤ length p → n ≤ length (p ++ q)
  longer h = rw (length-append p q) (omega arith)

  pub front_longer : (front_of rows p ≡ incomplete → ⊥) → front_of rows (p ++ q) ≡ front_of rows p
  unfolding front_of
  front_longer =
      waits (ltb 0 (length p)) _ _ _ (λ b. lt-ltb 0 (length (p ++ q)) (longer (ltb-true 0 (length p) b))) (λ b.
      let t : get_or (p ++ q) 0 0 ≡ get_or p 0 0 = get_or-append p q 0 0 (ltb-true 0 (length p) b) in
      tests impossible (is_tag rows (get_or p 0 0)) _ _ _ (ap (is_tag rows) t) (λ _.
      waits (leb 3 (length p)) _ _ _ (λ b. le-leb 3 (length (p ++ q)) (longer (leb-true 3 (length p) b))) (λ b.
      let s : be 2 (p ++ q) 1 ≡ be 2 p 1 = be_left 2 p q 1 (leb-true 3 (length p) b) in
      tests impossible (length_allowed rows (get_or p 0 0) (be 2 p 1)) _ _ _ (λ k. length_allowed rows (t k) (s k)) (λ _.
      waits (leb (3 + be 2 p 1) (length p)) _ _ _ (λ b. le-leb (3 + be 2 (p ++ q) 1) (length (p ++ q)) (rw s (longer (leb-true (3 + be 2 p 1) (length p) b)))) (λ b _.
      let l = leb-true (3 + be 2 p 1) (length p) b in
      let v : take (be 2 p 1) (drop 3 (p ++ q)) ≡ take (be 2 p 1) (drop 3 p) =
      ap (take (be 2 p 1)) (drop-append-le 3 p q (omega arith)) ∙ take-append-le (be 2 p 1) (drop 3 p) q (rw (length-drop 3 p) (omega arith)) in
      (λ k. field (record { tag = t k; value = take (s k) (drop 3 (p ++ q)) }))
      ∙ ap (λ (w : List ℕ). field (record { tag = get_or p 0 0; value = w })) v)))))

  -- a whole field of the first bytes is the same without the others
  pub front_shorter : (f : Field) → front_of rows (p ++ q) ≡ field f → bytes_of f ≤ length p → front_of rows p ≡ field f
  front_shorter f e h =
      let w = front_whole rows (p ++ q) f e in
      let l = w.size in
      let t : get_or (p ++ q) 0 0 ≡ get_or p 0 0 = get_or-append p q 0 0 (omega arith) in
      let s : be 2 (p ++ q) 1 ≡ be 2 p 1 = be_left 2 p q 1 (omega arith) in
      let long : 3 + be 2 p 1 ≤ length p = omega arith in
      let v : take (be 2 p 1) (drop 3 (p ++ q)) ≡ take (be 2 p 1) (drop 3 p) =
      ap (take (be 2 p 1)) (drop-append-le 3 p q (omega arith)) ∙ take-append-le (be 2 p 1) (drop 3 p) q (rw (length-drop 3 p) (omega arith)) in
      whole_front rows p (ap (is_tag rows) (sym t) ∙ w.known) ((λ k. length_allowed rows (sym t k) (sym s k)) ∙ w.allowed) long
      ∙ ap (λ (x : List ℕ). field (record { tag = get_or p 0 0; value = x })) (sym v)
      ∙ (λ k. field (record { tag = sym t k; value = take (sym s k) (drop 3 (p ++ q)) }))
      ∙ ap field (sym w.is)
