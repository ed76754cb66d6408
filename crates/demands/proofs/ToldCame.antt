-- What it says of what is told that a field led to it.
-- Assumes nothing.
use mathlib.Core.Bool.{true, false≢true}
use mathlib.Core.List.{List}
use mathlib.Core.Path.{◌≡◌, refl, sym, ap, subst, ◌∙◌}
use Prim.Native.Nat.{ℕ}
use lib.ListN.{length}
use Rattle.rules.specs.Table.{length_allowed, place_after, tags}
use Rattle.rules.specs.Front.{Field, Front, incomplete, impossible, field, bytes_of, front_of}
use Rattle.rules.specs.Machine.{Answer, taken, passed, refused, on, move_by, reply_at, move_at}
use Rattle.rules.specs.Record.{Told, Bring, Content, brought, foreign, wrong, field_content, answer_by, content_at, bring_at, more_passed, take_field}
use Rattle.laws.proofs.Carried.{ByRow, by_row_lem}
use Rattle.laws.proofs.Fronts.{front_allowed}
use Rattle.laws.proofs.Moves.{move_as}
use Rattle.laws.proofs.Says.{moves_to, Says, says}

-- what it says of the field f at s that it brings this
abbrev pub SaysAt : Told → Field → Bring → Type 0
SaysAt s f = Says s.passed s.holding.vehicle s.holding.cycle (length s.holding.samples) f.tag f.value s.place

-- the field f was taken by s, and led to s'
pub record Came (s : Told) (f : Field) (s' : Told) : Type 0 where
  pub brings : Bring
  pub says : SaysAt s f brings
  pub is : bring_at s (moves_to brings) brings ≡ s'

module _ (s : Told) (f : Field) where
  abbrev moves : ℕ
  moves = place_after tags s.place f.tag f.value

  -- by its row
  pub row_says : (b : Bring) (w : ByRow tags s.place (content_at s) f (brought b)) → SaysAt s f b × (w.row.moves ≡ moves_to b)
  row_says b w =
      says s.passed s.holding.vehicle s.holding.cycle (length s.holding.samples) f.tag f.value s.place
      w.row w.one w.is w.stands b w.brings

  -- where this is its content: what it says, and the place to which it moves
  content_says : (b : Bring) → field_content s.place (content_at s) f ≡ brought b → SaysAt s f b × (moves ≡ moves_to b)
  content_says b e =
      let w = by_row_lem s.place (content_at s) f (brought b) (λ n q. false≢true cc) e in
      let (t, m) = row_says b w in
      (t, w.moves ∙ m)

  -- it is taken, passed over or refused by it
  pub answers : (c : Content) → field_content s.place (content_at s) f ≡ c → take_field s f ≡ answer_by (bring_at s moves) (more_passed s) c
  answers c e = ap (answer_by (bring_at s moves) (more_passed s)) e

  pub takes : (b : Bring) → field_content s.place (content_at s) f ≡ brought b → SaysAt s f b × (take_field s f ≡ taken (bring_at s (moves_to b) b))
  takes b e = let (t, m) = content_says b e in (t, answers (brought b) e ∙ ap (λ (k : ℕ). taken (bring_at s k b)) m)

  pub came : (s' : Told) → take_field s f ≡ taken s' → Came s f s'
  came s' = go (field_content s.place (content_at s) f) refl
    where
      go : (c : Content) → field_content s.place (content_at s) f ≡ c → answer_by (bring_at s moves) (more_passed s) c ≡ taken s' → Came s f s'
      go (brought b) e h =
          let (t, m) = content_says b e in
          let d : bring_at s moves b ≡ s' = cc h in
          record { brings = b; says = t; is = ap (λ (k : ℕ). bring_at s k b) (sym m) ∙ d }
      go foreign e h = absurd (false≢true cc)
      go (wrong n) e h = absurd (false≢true cc)

  -- one that was passed over
  pub gone : (s' : Told) → take_field s f ≡ passed s' → more_passed s ≡ s'
  gone s' = go (field_content s.place (content_at s) f)
    where
      go : (c : Content) → answer_by (bring_at s moves) (more_passed s) c ≡ passed s' → more_passed s ≡ s'
      go (brought b) h = absurd (false≢true cc)
      go foreign h = cc h
      go (wrong n) h = absurd (false≢true cc)

-- ---- the field at the front of the bytes

pub data Moved (s : Told) (i : List ℕ) (s' : Told) : Type 0 where
  took : (f : Field) → front_of tags i ≡ field f → length_allowed tags f.tag (length f.value) ≡ true → Came s f s' → Moved s i s'
  went : more_passed s ≡ s' → Moved s i s'

pub moved : (s : Told) (i : List ℕ) (s' : Told) (m : ℕ) → move_at tags take_field s i ≡ on s' m → Moved s i s'
unfolding reply_at
moved s i s' m = go (front_of tags i) refl
  where
    by_answer : (f : Field) → front_of tags i ≡ field f → (a : Answer Told) → take_field s f ≡ a → move_by a (bytes_of f) ≡ on s' m → Moved s i s'
    by_answer f e (taken t) q h = let d : t ≡ s' = cc h in took f e (front_allowed tags i f e) (came s f s' (q ∙ ap taken d))
    by_answer f e (passed t) q h = let d : t ≡ s' = cc h in went (gone s f s' (q ∙ ap passed d))
    by_answer f e (refused n) q h = absurd (false≢true cc)

    go : (x : Front) → front_of tags i ≡ x → move_as tags take_field s x ≡ on s' m → Moved s i s'
    go incomplete e h = absurd (false≢true cc)
    go impossible e h = absurd (false≢true cc)
    go (field f) e h = by_answer f e (take_field s f) refl h

-- so what holds with a field taken, and with one passed over, holds behind every field
pub moved_holds : (P : Told → Type 0) (s : Told)
    → ((f : Field) (b : Bring) → length_allowed tags f.tag (length f.value) ≡ true → SaysAt s f b → P (bring_at s (moves_to b) b))
    → P (more_passed s) → (i : List ℕ) (s' : Told) (m : ℕ) → move_at tags take_field s i ≡ on s' m → P s'
moved_holds P s brings over i s' m e = go (moved s i s' m e)
  where
    go : Moved s i s' → P s'
    go (took f _ a c) = subst P c.is (brings f c.brings a c.says)
    go (went d) = subst P d over
