-- Laws of what `front_of` answers: the whole field at the front, and its value as a call is lent it.
-- Assumes nothing.
use mathlib.Core.Bool.{Bool, true, false, cond, false≢true}
use mathlib.Core.List.{List}
use mathlib.Core.Path.{◌≡◌, refl, sym, ap, subst, ◌∙◌}
use Prim.Native.Nat.{ℕ, ◌+◌, ◌-◌, ◌≤◌}
use native.Mathlib.Omega.{arith}
use borrow.Author.Tests.{eqb-true, eqb-false, le-leb, lt-leb}
use lib.Dec.{leb, eqb}
use lib.ListN.{length, get_or, take, drop}
use Rattle.rules.specs.Words.{all_below}
use Rattle.rules.specs.Table.{begins, by_row, length_allowed, tags, run1}
use Rattle.rules.specs.Front.{Field, Front as Stands, incomplete, impossible, field, front_of}
use Rattle.laws.proofs.Answers.{known_by, refusal_of, of_number}
use Rattle.laws.proofs.Fronts.{front_whole, front_allowed}
use Rattle.laws.specs.Answers.{Said, gives, refuses}
use Rattle.std.specs.Prelude.{Option, Some, None, Result, Ok, Err}
use Rattle.rules.specs.Numbered.{number}
use Rattle.rules.specs.declared.Refusal.{Refusal}
use Rattle.fields.specs.declared.Front.{Front}
use Rattle.fields.specs.Fields.{AtFront, whole, unfinished, front_said, stands_said, has_row}

-- ---- the value

-- the value of n bytes, behind tag and length
abbrev pub value_in : List ℕ → ℕ → List ℕ
value_in i n = take n (drop 3 i)

-- as a call is lent it
pub lent_value : (i : List ℕ) (n : ℕ) → take (3 + n - 3) (drop 3 i) ≡ value_in i n
lent_value i n = let e : 3 + n - 3 ≡ n = omega arith in ap (λ (k : ℕ). take k (drop 3 i)) e

-- ---- a whole field

-- the field of n bytes that a call is lent
abbrev pub field_of : List ℕ → ℕ → ℕ → Field
field_of i tag n = record { tag = tag; value = take (3 + n - 3) (drop 3 i) }

pub record Whole (i : List ℕ) (tag n : ℕ) : Type 0 where
  pub is : front_of tags i ≡ field (field_of i tag n)
  pub allowed : length_allowed tags tag (length (field_of i tag n).value) ≡ true
  pub size : length (field_of i tag n).value ≡ n
  pub long : 3 + n ≤ length i

-- r is the answer to the input
abbrev Answers : Result (Option Front) Refusal → List ℕ → Type 0
Answers r i = front_said r ≡ stands_said (front_of tags i)

stands_whole : (i : List ℕ) (tag n : ℕ) → stands_said (front_of tags i) ≡ gives (whole tag n) → Whole i tag n
stands_whole i tag n h = go (front_of tags i) refl h
  where
    go : (x : Stands) → front_of tags i ≡ x → stands_said x ≡ gives (whole tag n) → Whole i tag n
    go incomplete e h = absurd (false≢true cc)
    go impossible e h = absurd (false≢true cc)
    go (field f) e h =
        let t : f.tag ≡ tag = cc h in
        let s : length f.value ≡ n = cc h in
        let w = front_whole tags i f e in
        let v : f.value ≡ take (3 + n - 3) (drop 3 i) =
        ap (λ (g : Field). g.value) w.is ∙ ap (λ (k : ℕ). take k (drop 3 i)) (sym w.length_is ∙ s) ∙ sym (lent_value i n) in
        let d : f ≡ field_of i tag n = λ k. record { tag = t k; value = v k } in
        record {
          is = e ∙ ap field d;
          allowed = subst (λ (g : Field). length_allowed tags g.tag (length g.value) ≡ true) d (front_allowed tags i f e);
          size = ap length (sym v) ∙ s;
          long = omega (arith, w.length_is, w.long);
        }

pub said_whole : (i : List ℕ) (f : Front) {r : Result (Option Front) Refusal} → Answers r i → r ≡ Ok (Some f) → Whole i f.tag f.size
said_whole i f p q = stands_whole i f.tag f.size (sym p ∙ ap front_said q)

-- by what else is said
pub said_incomplete : (i : List ℕ) {r : Result (Option Front) Refusal} → Answers r i → r ≡ Ok None → front_of tags i ≡ incomplete
said_incomplete i p q = go (front_of tags i) (sym p ∙ ap front_said q)
  where
    go : (x : Stands) → stands_said x ≡ gives unfinished → x ≡ incomplete
    go incomplete h = refl
    go impossible h = absurd (false≢true cc)
    go (field f) h = absurd (false≢true cc)

pub said_impossible : (i : List ℕ) (e : Refusal) {r : Result (Option Front) Refusal} → Answers r i → r ≡ Err e → (front_of tags i ≡ impossible) × (number e ≡ 8)
said_impossible i e p q = go (front_of tags i) (sym p ∙ ap front_said q)
  where
    go : (x : Stands) → stands_said x ≡ refuses (number e) → (x ≡ impossible) × (number e ≡ 8)
    go incomplete h = absurd (false≢true cc)
    go impossible h = (refl, cc h)
    go (field f) h = absurd (false≢true cc)

-- answers that say the same are the same
pub same_front : (x y : Result (Option Front) Refusal) → front_said x ≡ front_said y → x ≡ y
same_front = known_by front_said back known
  where
    back : Said AtFront → Result (Option Front) Refusal
    back (gives (whole tag n)) = Ok (Some (record { tag = tag; size = n }))
    back (gives unfinished) = Ok None
    back (refuses n) = Err (refusal_of n)

    known : (x : Result (Option Front) Refusal) → back (front_said x) ≡ x
    known (Ok (Some f)) = refl
    known (Ok None) = refl
    known (Err e) = ap Err (of_number e)

-- ---- the row of a field, by its tag

once : (b : Bool) → cond b true false ≡ b
once true = refl
once false = refl

pub row_of_mark : (v : List ℕ) → has_row 1 v ≡ begins run1 v
unfolding by_row
row_of_mark v = once (begins run1 v)

pub row_of_energy : (v : List ℕ) → has_row 6 v ≡ leb (get_or v 0 0) 1
unfolding by_row begins all_below
row_of_energy v = go (eqb (get_or v 0 0) 0) (eqb (get_or v 0 0) 1) refl refl
  where
    go : (a b : Bool) → eqb (get_or v 0 0) 0 ≡ a → eqb (get_or v 0 0) 1 ≡ b → cond a true (cond b true false) ≡ leb (get_or v 0 0) 1
    go true b e f = let z = eqb-true (get_or v 0 0) 0 e in sym (le-leb (get_or v 0 0) 1 (omega arith))
    go false true e f = let z = eqb-true (get_or v 0 0) 1 f in sym (le-leb (get_or v 0 0) 1 (omega arith))
    go false false e f =
        let y = eqb-false (get_or v 0 0) 0 e in
        let z = eqb-false (get_or v 0 0) 1 f in
        sym (lt-leb (get_or v 0 0) 1 (omega arith))

-- every other tag has one row
module _ (v : List ℕ) where
  pub rows_of_others : (has_row 2 v ≡ true) × (has_row 3 v ≡ true) × (has_row 4 v ≡ true) × (has_row 5 v ≡ true) × (has_row 7 v ≡ true) × (has_row 8 v ≡ true)
  unfolding by_row begins all_below
  rows_of_others = (refl, refl, refl, refl, refl, refl)
