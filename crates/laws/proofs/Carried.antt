-- Any state that answers as lists do, and keeps to them with what a field brings: it is led through all bytes as lists are.
-- This is the law by which a contract over the code's state (with ledger and map, or a room for the cycle) says what the record's bytes say.
-- Assumes nothing.
use mathlib.Core.Bool.{Bool, true, false, cond, false≢true}
use mathlib.Core.List.{List, [], ◌∷◌}
use mathlib.Core.Path.{◌≡◌, refl, sym, ap, subst, ◌∙◌}
use Prim.Native.Nat.{ℕ}
use lib.ListN.{length}
use Rattle.rules.specs.Words.{unless}
use Rattle.rules.specs.Table.{Row, Matter, lookup, is_of, among, length_allowed, by_row, place_after, tags}
use Rattle.laws.specs.Beside.{may_stand}
use Rattle.rules.specs.Front.{Field}
use Rattle.rules.specs.Machine.{Answer, run}
use Rattle.rules.specs.Record.{Told, Bring, Content, brought, foreign, wrong, row_content, field_content, answer_by, field_answer, content_at, bring_at, more_passed, take_field}
use Rattle.laws.proofs.Related.{Alike, both_taken, both_passed, both_refused, AlikeRan, runs_alike}

-- ---- the row of a field

-- the row is one of the rows
pub data In {M : Type 0} : Row M → List (Row M) → Type 0 where
  here : {r : Row M} {rows : List (Row M)} → In r (r ∷ rows)
  there : {r q : Row M} {rows : List (Row M)} → In r rows → In r (q ∷ rows)

-- the row by which a field comes to the content c at this place
pub record ByRow (rows : List (Row Matter)) (place : ℕ) (content : Matter → List ℕ → Content) (f : Field) (c : Content) : Type 0 where
  pub row : Row Matter
  pub one : In row rows
  pub is : is_of f.tag f.value row ≡ true
  pub stands : among place row.stands ≡ true
  pub brings : content row.holds f.value ≡ c
  pub may : may_stand rows place f.tag f.value ≡ true
  pub moves : place_after rows place f.tag f.value ≡ row.moves

-- it is no refusal
abbrev pub Accepted : Content → Type 0
Accepted c = (n : ℕ) → c ≡ wrong n → ⊥

module _ (place : ℕ) (content : Matter → List ℕ → Content) (f : Field) (c : Content) (accepted : Accepted c) where
  abbrev test : Row Matter → Bool
  test = is_of f.tag f.value

  at_row : (r : Row Matter) → row_content place content f.value r ≡ c → (among place r.stands ≡ true) × (content r.holds f.value ≡ c)
  unfolding unless
  at_row r e = go (among place r.stands) refl e
    where
      go : (b : Bool) → among place r.stands ≡ b → unless (wrong 9) b (content r.holds f.value) ≡ c → (among place r.stands ≡ true) × (content r.holds f.value ≡ c)
      go true q h = (q, h)
      go false q h = absurd (accepted 9 (sym h))

  rows_by : (rows : List (Row Matter)) → lookup test (row_content place content f.value) (wrong 8) rows ≡ c → ByRow rows place content f c
  unfolding by_row
  rows_by [] e = absurd (accepted 8 (sym e))
  rows_by (r ∷ rows) e = go (test r) refl e (rows_by rows)
    where
      go : (b : Bool) → test r ≡ b → cond b (row_content place content f.value r) (lookup test (row_content place content f.value) (wrong 8) rows) ≡ c
          → (lookup test (row_content place content f.value) (wrong 8) rows ≡ c → ByRow rows place content f c) → ByRow (r ∷ rows) place content f c
      go true q h next =
          let (s, b) = at_row r h in
          record {
            row = r;
            one = here;
            is = q;
            stands = s;
            brings = b;
            may = ap (λ (t : Bool). cond t (among place r.stands) (lookup test (λ z. among place z.stands) false rows)) q ∙ s;
            moves = ap (λ (t : Bool). cond t r.moves (lookup test (λ z. z.moves) place rows)) q;
          }
      go false q h next =
          let w = next h in
          record {
            row = w.row;
            one = there w.one;
            is = w.is;
            stands = w.stands;
            brings = w.brings;
            may = ap (λ (t : Bool). cond t (among place r.stands) (lookup test (λ z. among place z.stands) false rows)) q ∙ w.may;
            moves = ap (λ (t : Bool). cond t r.moves (lookup test (λ z. z.moves) place rows)) q ∙ w.moves;
          }

  pub by_row_lem : field_content place content f ≡ c → ByRow tags place content f c
  unfolding field_content by_row
  by_row_lem e = rows_by tags e

-- whatever a field comes to: 8, 9, or the content of a row that may stand there
pub by_field : (P : Content → Type 0) (place : ℕ) (content : Matter → List ℕ → Content) (f : Field) → P (wrong 8) → P (wrong 9)
    → ((r : Row Matter) → In r tags → among place r.stands ≡ true → P (content r.holds f.value)) → P (field_content place content f)
unfolding field_content by_row unless
by_field P place content f e n h = go tags h
  where
    at_row : (r : Row Matter) (b : Bool) → (b ≡ true → P (content r.holds f.value)) → P (unless (wrong 9) b (content r.holds f.value))
    at_row r true g = g refl
    at_row r false g = n

    one : (t : Bool) {x y : Content} → P x → P y → P (cond t x y)
    one true a b = a
    one false a b = b

    go : (rows : List (Row Matter)) → ((r : Row Matter) → In r rows → among place r.stands ≡ true → P (content r.holds f.value))
        → P (lookup (is_of f.tag f.value) (row_content place content f.value) (wrong 8) rows)
    go [] g = e
    go (r ∷ rows) g = one (is_of f.tag f.value r) (at_row r (among place r.stands) (g r here)) (go rows (λ q i. g q (there i)))

-- two contents that agree where the field may stand
pub same_rows : (place : ℕ) (content content' : Matter → List ℕ → Content) (f : Field)
    → ((r : Row Matter) → In r tags → is_of f.tag f.value r ≡ true → among place r.stands ≡ true → content r.holds f.value ≡ content' r.holds f.value)
    → field_content place content f ≡ field_content place content' f
unfolding field_content by_row unless
same_rows place content content' f h = go tags h
  where
    at_row : (r : Row Matter) → (among place r.stands ≡ true → content r.holds f.value ≡ content' r.holds f.value)
        → row_content place content f.value r ≡ row_content place content' f.value r
    at_row r g = by (among place r.stands) g
      where
        by : (b : Bool) → (b ≡ true → content r.holds f.value ≡ content' r.holds f.value) → unless (wrong 9) b (content r.holds f.value) ≡ unless (wrong 9) b (content' r.holds f.value)
        by true e = e refl
        by false e = refl

    one : (t : Bool) {x x' y y' : Content} → (t ≡ true → x ≡ x') → y ≡ y' → cond t x y ≡ cond t x' y'
    one true a b = a refl
    one false a b = b

    go : (rows : List (Row Matter))
        → ((r : Row Matter) → In r rows → is_of f.tag f.value r ≡ true → among place r.stands ≡ true → content r.holds f.value ≡ content' r.holds f.value)
        → lookup (is_of f.tag f.value) (row_content place content f.value) (wrong 8) rows ≡ lookup (is_of f.tag f.value) (row_content place content' f.value) (wrong 8) rows
    go [] g = refl
    go (r ∷ rows) g = one (is_of f.tag f.value r) (λ t. at_row r (g r here t)) (go rows (λ q i. g q (there i)))

-- ---- states of the kind R

-- its place, what a value brings to it, what it is with that at the place that the field moves to, and with one block more passed over
module _ {R : Type 0} (place : R → ℕ) (content : R → Matter → List ℕ → Content) (bring : R → ℕ → Bring → R) (pass : R → R) where
  abbrev pub take_on : R → Field → Answer R
  take_on r f = field_answer (place r) (content r) (bring r) (pass r) f

  -- it holds what lists hold: P is kept by what a field of the table brings, and where a block is passed over
  pub record Carries (P : Told → R → Type 0) : Type 0 where
    pub same_place : (s : Told) (r : R) → P s r → s.place ≡ place r
    pub same_content : (s : Told) (r : R) → P s r → (f : Field) → length_allowed tags f.tag (length f.value) ≡ true
        → field_content s.place (content_at s) f ≡ field_content s.place (content r) f
    pub kept_brought : (s : Told) (r : R) → P s r → (f : Field) → length_allowed tags f.tag (length f.value) ≡ true → (b : Bring)
        → (w : ByRow tags s.place (content_at s) f (brought b)) → P (bring_at s w.row.moves b) (bring r w.row.moves b)
    pub kept_passed : (s : Told) (r : R) → P s r → P (more_passed s) (pass r)

  module _ (P : Told → R → Type 0) (carries : Carries P) where
    answers_alike : (s : Told) (r : R) → P s r → (m : ℕ) (c : Content) → ((b : Bring) → c ≡ brought b → P (bring_at s m b) (bring r m b))
        → Alike P (answer_by (bring_at s m) (more_passed s) c) (answer_by (bring r m) (pass r) c)
    answers_alike s r p m (brought b) h = both_taken (h b refl)
    answers_alike s r p m foreign h = both_passed (carries.kept_passed s r p)
    answers_alike s r p m (wrong n) h = both_refused n

    pub step_alike : (s : Told) (r : R) → P s r → (f : Field) → length_allowed tags f.tag (length f.value) ≡ true → Alike P (take_field s f) (take_on r f)
    step_alike s r p f l =
        let m = place_after tags s.place f.tag f.value in
        subst (λ (a : ℕ). Alike P (take_field s f) (answer_by (bring r (place_after tags a f.tag f.value)) (pass r) (field_content a (content r) f))) (carries.same_place s r p)
        (subst (λ (c : Content). Alike P (take_field s f) (answer_by (bring r m) (pass r) c)) (carries.same_content s r p f l)
        (answers_alike s r p m (field_content s.place (content_at s) f) (λ b e.
        let w = by_row_lem s.place (content_at s) f (brought b) (λ n q. false≢true cc) e in
        subst (λ (k : ℕ). P (bring_at s k b) (bring r k b)) (sym w.moves) (carries.kept_brought s r p f l b w))))

    -- the same fields are accepted with both, to the same end
    pub carried : (s : Told) (r : R) (i : List ℕ) → P s r → AlikeRan P (run tags take_field s i) (run tags take_on r i)
    carried s r i p = runs_alike P tags take_field take_on step_alike s r i p
