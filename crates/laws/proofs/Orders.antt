-- 8 and 9 follow from the table, and so does the place: "1, 2, 3, 4 once each; 6 before at most once; any number of 5; 6 after at most once; 7 at most once."
-- Assumes nothing.
use mathlib.Core.Bool.{Bool, true, false, cond, ◌&&◌, false≢true}
use mathlib.Core.List.{List, [], ◌∷◌}
use mathlib.Core.Path.{◌≡◌, refl, sym, ap, subst, ◌∙◌}
use Prim.Native.Nat.{ℕ, ◌≤◌, ◌<◌}
use native.Mathlib.Nat.{le_refl, le_trans}
use native.Mathlib.Omega.{arith}
use lib.Dec.{leb, ltb, eqb}
use lib.ListN.{length}
use borrow.Author.Tests.{leb-true, ltb-true, eqb-true}
use Rattle.rules.specs.Words.{every}
use Rattle.numbers.proofs.Tests.{both}
use Rattle.rules.specs.Table.{Row, Matter, lookup, is_of, among, by_row, place_after, tags}
use Rattle.laws.specs.Beside.{may_stand}
use Rattle.rules.specs.Front.{Field, Front, incomplete, impossible, field, bytes_of, front_of}
use Rattle.laws.proofs.Moves.{move_as}
use Rattle.rules.specs.Machine.{Answer, taken, passed, refused, on, move_by, reply_at, move_at, run}
use Rattle.rules.specs.Record.{Told, Content, brought, foreign, wrong, field_content, answer_by, content_at, bring_at, more_passed, take_field}
use Rattle.laws.proofs.Carried.{Accepted, by_row_lem}
use Rattle.laws.proofs.Places.{every_among}
use Rattle.laws.proofs.Prefixes.{kept}

-- ---- one answer, by the row

module _ (s : Told) (f : Field) where
  -- the content of a field that is taken, and of one that is passed over
  content_taken_lem : (m : ℕ) (c : Content) (s' : Told) → answer_by (bring_at s m) (more_passed s) c ≡ taken s' → Accepted c × (s'.place ≡ m)
  content_taken_lem m (brought b) s' e = let z : bring_at s m b ≡ s' = cc e in (λ n q. false≢true cc, ap (λ (t : Told). t.place) (sym z))
  content_taken_lem m foreign s' e = absurd (false≢true cc)
  content_taken_lem m (wrong n) s' e = absurd (false≢true cc)

  content_passed : (m : ℕ) (c : Content) (s' : Told) → answer_by (bring_at s m) (more_passed s) c ≡ passed s' → Accepted c × (s.place ≡ s'.place)
  content_passed m (brought b) s' e = absurd (false≢true cc)
  content_passed m foreign s' e = let z : more_passed s ≡ s' = cc e in (λ n q. false≢true cc, ap (λ (t : Told). t.place) z)
  content_passed m (wrong n) s' e = absurd (false≢true cc)

  abbrev content : Content
  content = field_content s.place (content_at s) f

  abbrev moves : ℕ
  moves = place_after tags s.place f.tag f.value

  -- a field that is taken or passed over may stand there
  pub taken_stands : (s' : Told) → take_field s f ≡ taken s' → may_stand tags s.place f.tag f.value ≡ true
  taken_stands s' e = (by_row_lem s.place (content_at s) f content (content_taken_lem moves content s' e).0 refl).may

  pub passed_stands : (s' : Told) → take_field s f ≡ passed s' → may_stand tags s.place f.tag f.value ≡ true
  passed_stands s' e = (by_row_lem s.place (content_at s) f content (content_passed moves content s' e).0 refl).may

  -- the place after a field that is taken is the table's; one that is passed over does not move it
  pub taken_place : (s' : Told) → take_field s f ≡ taken s' → s'.place ≡ place_after tags s.place f.tag f.value
  taken_place s' e = (content_taken_lem moves content s' e).1

  pub passed_place : (s' : Told) → take_field s f ≡ passed s' → s.place ≡ s'.place
  passed_place s' e = (content_passed moves content s' e).1

-- ---- by the whole table: a field moves the place on, and all but a block strictly

abbrev goes_on : Row Matter → Bool
goes_on r = every (λ p. leb p r.moves && cond (eqb r.tag 5) true (ltb p r.moves)) r.stands

table_goes_on : every goes_on tags ≡ true
table_goes_on = refl

-- the test of a place p, of a tag, and of the place m that it moves to
abbrev onward : ℕ → ℕ → ℕ → Bool
onward tag p m = leb p m && cond (eqb tag 5) true (ltb p m)

rows_go_on : (place tag : ℕ) (v : List ℕ) (rows : List (Row Matter)) → every goes_on rows ≡ true → lookup (is_of tag v) (λ r. among place r.stands) false rows ≡ true
    → onward tag place (lookup (is_of tag v) (λ r. r.moves) place rows) ≡ true
rows_go_on place tag v [] e m = absurd (false≢true m)
rows_go_on place tag v (r ∷ rows) e m = go (is_of tag v r) refl (both (goes_on r) (every goes_on rows) e) (rows_go_on place tag v rows) m
  where
    go : (b : Bool) → is_of tag v r ≡ b → (goes_on r ≡ true) × (every goes_on rows ≡ true)
        → (every goes_on rows ≡ true → lookup (is_of tag v) (λ r. among place r.stands) false rows ≡ true → onward tag place (lookup (is_of tag v) (λ r. r.moves) place rows) ≡ true)
        → cond b (among place r.stands) (lookup (is_of tag v) (λ r. among place r.stands) false rows) ≡ true
        → onward tag place (cond b r.moves (lookup (is_of tag v) (λ r. r.moves) place rows)) ≡ true
    go true q t next m =
        let same : tag ≡ r.tag = eqb-true tag r.tag (both (eqb tag r.tag) _ q).0 in
        ap (λ (c : ℕ). onward c place r.moves) same ∙ every_among (λ p. onward r.tag p r.moves) place r.stands t.0 m
    go false q t next m = next t.1 m

-- a field that is taken never moves the place back, and moves it on where it is no block
pub place_rises : (s : Told) (f : Field) (s' : Told) → take_field s f ≡ taken s' → (s.place ≤ s'.place) × (eqb f.tag 5 ≡ false → s.place < s'.place)
unfolding by_row
place_rises s f s' e =
    let t = both (leb s.place s'.place) (cond (eqb f.tag 5) true (ltb s.place s'.place))
    (ap (onward f.tag s.place) (taken_place s f s' e) ∙ rows_go_on s.place f.tag f.value tags table_goes_on (taken_stands s f s' e)) in
    (leb-true s.place s'.place t.0, λ n. ltb-true s.place s'.place (ap (λ (b : Bool). cond b true (ltb s.place s'.place)) (sym n) ∙ t.1))

-- "once each": no two fields but blocks that lead to the same place are both taken, however many stand between them
pub once : (s s₁ s₂ s₃ : Told) (f g : Field) → take_field s f ≡ taken s₁ → s₁.place ≤ s₂.place → take_field s₂ g ≡ taken s₃ → eqb g.tag 5 ≡ false → s₃.place ≡ s₁.place → ⊥
once s s₁ s₂ s₃ f g e l h n q = let r = (place_rises s₂ g s₃ h).1 n in omega arith

-- ---- over all fields

move_place : (s : Told) (i : List ℕ) (s' : Told) (m : ℕ) → move_at tags take_field s i ≡ on s' m → s.place ≤ s'.place
unfolding reply_at
move_place s i s' m = go (front_of tags i)
  where
    by_answer : (f : Field) (a : Answer Told) → take_field s f ≡ a → move_by a (bytes_of f) ≡ on s' m → s.place ≤ s'.place
    by_answer f (taken t) q e = let z : t ≡ s' = cc e in (place_rises s f s' (q ∙ ap taken z)).0
    by_answer f (passed t) q e = let z : t ≡ s' = cc e in subst (λ (p : ℕ). s.place ≤ p) (passed_place s f s' (q ∙ ap passed z)) (le_refl s.place)
    by_answer f (refused n) q e = absurd (false≢true cc)

    go : (x : Front) → move_as tags take_field s x ≡ on s' m → s.place ≤ s'.place
    go impossible e = absurd (false≢true cc)
    go incomplete e = absurd (false≢true cc)
    go (field f) e = by_answer f (take_field s f) refl e

pub run_place : (s : Told) (i : List ℕ) → s.place ≤ (run tags take_field s i).state.place
run_place s i = kept tags take_field (λ t. s.place ≤ t.place) (λ t j t' m e l. le_trans l (move_place t j t' m e)) (length i) s i (le_refl s.place)
