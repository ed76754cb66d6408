-- "A field 5 that bears another valid number is passed over: .. the place in the order does not move, only the passed-over count rises."
-- Assumes nothing.
use mathlib.Core.Bool.{Bool, true, false, cond}
use mathlib.Core.List.{List, [], ◌∷◌}
use mathlib.Core.Path.{◌≡◌, refl, sym, ap, subst, ◌∙◌}
use Prim.Native.Nat.{ℕ, zero, suc, ◌+◌, ◌≤◌}
use native.Mathlib.Nat.{le_refl, le_trans}
use native.Mathlib.Omega.{arith}
use lib.Dec.{leb}
use lib.ListN.{length, drop}
use borrow.Author.Tests.{le-leb, leb-false, lt-leb}
use Rattle.rules.specs.Words.{unless}
use Rattle.rules.specs.Bench.{most_passed}
use Rattle.rules.specs.Table.{Row, Matter, mark, number, cycle, tolerances, stretches, block, energy_before, energy_after, recharge, lookup, is_of, among, by_row, place_after, tags}
use Rattle.rules.specs.Front.{Field, Front, incomplete, impossible, field, bytes_of, front_of}
use Rattle.rules.specs.Machine.{Answer, passed, Ran, Move, on, off, move_by, onwards, go_on, reply_at, move_at, upto, run}
use Rattle.rules.specs.Values.{is_number, same_number}
use Rattle.rules.specs.Record.{Told, Content, brought, foreign, wrong, block_content, row_content, field_content, answer_by, content_at, bring_at, more_passed, take_field}
use Rattle.laws.proofs.Moves.{move_as}
use Rattle.laws.proofs.Prefixes.{kept}

-- ---- one block more passed over

abbrev pub more_move : Move Told → Move Told
more_move (on s m) = on (more_passed s) m
more_move (off e) = off e

abbrev pub more_ran : Ran Told → Ran Told
more_ran x = record { state = more_passed x.state; fields = x.fields; used = x.used; end = x.end }

-- there is room for one block more, after the field
abbrev Room : Move Told → Type 0
Room (on s m) = s.passed + 1 ≤ most_passed
Room (off e) = Unit {0}

-- ---- two lookups of one row

cond_both : {A B : Type 0} (R : A → B → Type 0) (b : Bool) {x x' : A} {y y' : B} → R x y → R x' y' → R (cond b x x') (cond b y y')
cond_both R true h g = h
cond_both R false h g = g

pub lookup_both : {M A B : Type 0} (R : A → B → Type 0) (test : Row M → Bool) (f : Row M → A) (g : Row M → B) (z : A) (w : B) → ((r : Row M) → R (f r) (g r)) → R z w
    → (rows : List (Row M)) → R (lookup test f z rows) (lookup test g w rows)
lookup_both R test f g z w h e [] = e
lookup_both R test f g z w h e (r ∷ rows) = cond_both R (test r) (h r) (lookup_both R test f g z w h e rows)

pub unless_both : {A B : Type 0} (R : A → B → Type 0) (b : Bool) {x x' : A} {y y' : B} → R x y → R x' y' → R (unless x b x') (unless y b y')
unfolding unless
unless_both R true h g = g
unless_both R false h g = h

-- ---- only a foreign block asks for the count

module _ (s : Told) (n : ℕ) where
  -- x is the answer where one block more is passed over, y where not
  abbrev Shifts : Answer Told → Answer Told → Type 0
  Shifts x y = Room (move_by y n) → move_by x n ≡ more_move (move_by y n)

  abbrev shifted_by : ℕ → Content → Answer Told
  shifted_by moves c = answer_by (bring_at (more_passed s) moves) (more_passed (more_passed s)) c

  abbrev answered_by : ℕ → Content → Answer Told
  answered_by moves c = answer_by (bring_at s moves) (more_passed s) c

  content_same : (moves : ℕ) (c : Content) → Shifts (shifted_by moves c) (answered_by moves c)
  content_same moves (brought g) r = refl
  content_same moves foreign r = refl
  content_same moves (wrong k) r = refl

  block_shifted : (moves : ℕ) (v : List ℕ) → Shifts (shifted_by moves (content_at (more_passed s) block v)) (answered_by moves (content_at s block v))
  unfolding block_content unless
  block_shifted moves v = go (is_number v) (same_number s.holding.vehicle v) _ (leb (s.passed + 1) most_passed) refl
    where
      go : (a b : Bool) (own : Content) (c : Bool) → leb (s.passed + 1) most_passed ≡ c
          → Shifts (shifted_by moves (unless (wrong 4) a (cond b own (unless (wrong 7) (leb (s.passed + 1 + 1) most_passed) foreign))))
          (answered_by moves (unless (wrong 4) a (cond b own (unless (wrong 7) c foreign))))
      go false b own c e r = refl
      go true true own c e r = content_same moves own r
      go true false own true e r = rw (le-leb (s.passed + 1 + 1) most_passed r)
      go true false own false e r = let l = leb-false (s.passed + 1) most_passed e in rw (lt-leb (s.passed + 1 + 1) most_passed (omega arith))

  content_shifted : (moves : ℕ) (x : Matter) (v : List ℕ)
      → Shifts (shifted_by moves (content_at (more_passed s) x v)) (answered_by moves (content_at s x v))
  content_shifted moves mark v r = refl
  content_shifted moves number v r = content_same moves (content_at s number v) r
  content_shifted moves cycle v r = content_same moves (content_at s cycle v) r
  content_shifted moves tolerances v r = content_same moves (content_at s tolerances v) r
  content_shifted moves stretches v r = content_same moves (content_at s stretches v) r
  content_shifted moves block v r = block_shifted moves v r
  content_shifted moves energy_before v r = content_same moves (content_at s energy_before v) r
  content_shifted moves energy_after v r = content_same moves (content_at s energy_after v) r
  content_shifted moves recharge v r = content_same moves (content_at s recharge v) r

  take_shifted : (f : Field) → Shifts (take_field (more_passed s) f) (take_field s f)
  unfolding field_content by_row
  take_shifted f =
      lookup_both (λ (x y : Content). (moves : ℕ) → Shifts (shifted_by moves x) (answered_by moves y)) (is_of f.tag f.value)
      (row_content s.place (content_at (more_passed s)) f.value) (row_content s.place (content_at s) f.value) (wrong 8) (wrong 8)
      (λ r. unless_both (λ (x y : Content). (moves : ℕ) → Shifts (shifted_by moves x) (answered_by moves y)) (among s.place r.stands) {x = wrong 9} {y = wrong 9} (λ _ _. refl)
      (λ moves. content_shifted moves r.holds f.value)) (λ _ _. refl) tags (place_after tags s.place f.tag f.value)

-- ---- the count does not fall

abbrev Rising : Told → Move Told → Type 0
Rising s (on s' m) = s.passed ≤ s'.passed
Rising s (off e) = Unit {0}

answer_rises : (s : Told) (n moves : ℕ) (c : Content) → Rising s (move_by (answer_by (bring_at s moves) (more_passed s) c) n)
answer_rises s n moves (brought h) = le_refl s.passed
answer_rises s n moves foreign = omega arith
answer_rises s n moves (wrong k) = tt

module _ (s : Told) (i : List ℕ) where
  move_shifted : Room (move_at tags take_field s i) → move_at tags take_field (more_passed s) i ≡ more_move (move_at tags take_field s i)
  unfolding reply_at
  move_shifted = go (front_of tags i)
    where
      go : (x : Front) → Room (move_as tags take_field s x) → move_as tags take_field (more_passed s) x ≡ more_move (move_as tags take_field s x)
      go impossible r = refl
      go incomplete r = refl
      go (field f) r = take_shifted s (bytes_of f) f r

  move_rises : (s' : Told) (m : ℕ) → move_at tags take_field s i ≡ on s' m → s.passed ≤ s'.passed
  unfolding reply_at
  move_rises s' m e = subst (Rising s) e (go (front_of tags i))
    where
      go : (x : Front) → Rising s (move_as tags take_field s x)
      go impossible = tt
      go incomplete = tt
      go (field f) = answer_rises s (bytes_of f) (place_after tags s.place f.tag f.value) (field_content s.place (content_at s) f)

passed_rises : (n : ℕ) (s : Told) (i : List ℕ) → s.passed ≤ (upto tags take_field n s i).state.passed
passed_rises n s i = kept tags take_field (λ t. s.passed ≤ t.passed) (λ t j t' m e l. le_trans l (move_rises t j t' m e)) n s i (le_refl s.passed)

-- ---- all fields, with one block more passed over before them

upto_shifted : (n : ℕ) (s : Told) (i : List ℕ) → (upto tags take_field n s i).state.passed + 1 ≤ most_passed → upto tags take_field n (more_passed s) i ≡ more_ran (upto tags take_field n s i)
unfolding upto
upto_shifted zero s i h = refl
upto_shifted (suc n) s i h = go (move_at tags take_field s i) refl (λ s' m. upto_shifted n s' (drop m i)) h
  where
    from : (y : Move Told) → move_at tags take_field s i ≡ y → Room y
        → go_on (more_passed s) (move_at tags take_field (more_passed s) i) (λ s' m. upto tags take_field n s' (drop m i)) ≡ go_on (more_passed s) (more_move y) (λ s' m. upto tags take_field n s' (drop m i))
    from y e r = ap (λ (x : Move Told). go_on (more_passed s) x (λ s' m. upto tags take_field n s' (drop m i))) (move_shifted s i (subst Room (sym e) r) ∙ ap more_move e)

    go : (y : Move Told) → move_at tags take_field s i ≡ y
        → ((s' : Told) (m : ℕ) → (upto tags take_field n s' (drop m i)).state.passed + 1 ≤ most_passed → upto tags take_field n (more_passed s') (drop m i) ≡ more_ran (upto tags take_field n s' (drop m i)))
        → (go_on s y (λ s' m. upto tags take_field n s' (drop m i))).state.passed + 1 ≤ most_passed
        → go_on (more_passed s) (move_at tags take_field (more_passed s) i) (λ s' m. upto tags take_field n s' (drop m i)) ≡ more_ran (go_on s y (λ s' m. upto tags take_field n s' (drop m i)))
    go (off x) e next r = from (off x) e tt
    go (on s' m) e next r = from (on s' m) e (let l = passed_rises n s' (drop m i) in omega arith) ∙ ap (onwards m) (next s' m r)

pub run_shifted : (s : Told) (i : List ℕ) → (run tags take_field s i).state.passed + 1 ≤ most_passed → run tags take_field (more_passed s) i ≡ more_ran (run tags take_field s i)
run_shifted s i = upto_shifted (length i) s i

pub run_rises : (s : Told) (i : List ℕ) → s.passed ≤ (run tags take_field s i).state.passed
run_rises s i = passed_rises (length i) s i
