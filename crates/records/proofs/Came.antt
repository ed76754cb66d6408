-- What it says of a state that a field led to it.
-- Assumes nothing.
use mathlib.Core.Bool.{true, cond, false≢true}
use mathlib.Core.List.{List}
use mathlib.Core.Path.{◌≡◌, refl, sym, ap, ◌∙◌}
use Prim.Native.Nat.{ℕ, ◌+◌, ◌≤◌}
use lib.ListN.{length}
use Rattle.numbers.proofs.Tests.{passed as passes}
use Rattle.rules.specs.Bench.{most_passed}
use Rattle.rules.specs.Table.{Row, Matter, among, length_allowed, place_after, block_places, tags}
use Rattle.rules.specs.Front.{Field, Front, incomplete, impossible, field, bytes_of, front_of}
use Rattle.rules.specs.Machine.{Answer, taken, passed, refused, on, move_by, reply_at, move_at}
use Rattle.rules.specs.Record.{Bring, nothing, a_number, a_cycle, the_tolerances, the_stretches, own_samples, before, after, charged, Content, brought, foreign, wrong, content_of, field_content, answer_by}
use Rattle.laws.proofs.Carried.{In, here, there, by_row_lem}
use Rattle.laws.proofs.Fronts.{front_allowed}
use Rattle.laws.proofs.Moves.{move_as, uses}
use Rattle.laws.proofs.Says.{moves_to, Says, says, says_foreign}
use Rattle.records.specs.Stage.{Stage, is_long, starts, content_on, bring_on, pass_on, take_on}

-- ---- a field that was taken

-- a start asks for memory that is long enough
abbrev pub Enough : Stage → Bring → Type 0
Enough x nothing = Unit {0}
Enough x (a_number v) = Unit {0}
Enough x (a_cycle v) = Unit {0}
Enough x (the_tolerances t) = is_long x.run.memory ≡ true
Enough x (the_stretches y) = Unit {0}
Enough x (own_samples xs) = Unit {0}
Enough x (before e) = Unit {0}
Enough x (after e) = Unit {0}
Enough x (charged w) = Unit {0}

-- the field f, of an allowed length, was taken by x, and led to y
pub record Came (x : Stage) (f : Field) (y : Stage) : Type 0 where
  pub brings : Bring
  pub says : Says x.passed x.vehicle x.cycle x.run.progress.offered f.tag f.value x.place brings
  pub enough : Enough x brings
  pub is : bring_on x (moves_to brings) brings ≡ y

module _ (x : Stage) (f : Field) where
  abbrev contents : Matter → List ℕ → Content
  contents = content_of x.passed x.vehicle x.cycle x.run.progress.offered

  -- the memory was long enough, where it is asked
  tested : (m : Matter) (c : Content) → ((n : ℕ) → c ≡ wrong n → ⊥) → content_on x m f.value ≡ c
      → (cond (starts m) (is_long x.run.memory) true ≡ true) × (contents m f.value ≡ c)
  tested m c a e = passes (wrong 1) c _ _ (λ q. a 1 (sym q)) e

  enough_for : (q : Row Matter) → In q tags → (b : Bring) → cond (starts q.holds) (is_long x.run.memory) true ≡ true
      → Says x.passed x.vehicle x.cycle x.run.progress.offered f.tag f.value x.place b → q.moves ≡ moves_to b → Enough x b
  enough_for q i nothing e s m = tt
  enough_for q i (a_number v) e s m = tt
  enough_for q i (a_cycle v) e s m = tt
  enough_for q here (the_tolerances t) e s m = absurd (false≢true cc)
  enough_for q (there here) (the_tolerances t) e s m = absurd (false≢true cc)
  enough_for q (there (there here)) (the_tolerances t) e s m = absurd (false≢true cc)
  enough_for q (there (there (there here))) (the_tolerances t) e s m = e
  enough_for q (there (there (there (there here)))) (the_tolerances t) e s m = absurd (false≢true cc)
  enough_for q (there (there (there (there (there here))))) (the_tolerances t) e s m = absurd (false≢true cc)
  enough_for q (there (there (there (there (there (there here)))))) (the_tolerances t) e s m = absurd (false≢true cc)
  enough_for q (there (there (there (there (there (there (there here))))))) (the_tolerances t) e s m = absurd (false≢true cc)
  enough_for q (there (there (there (there (there (there (there (there here)))))))) (the_tolerances t) e s m = absurd (false≢true cc)
  enough_for q (there (there (there (there (there (there (there (there (there z))))))))) (the_tolerances t) e s m = elim z [ ]
  enough_for q i (the_stretches y) e s m = tt
  enough_for q i (own_samples xs) e s m = tt
  enough_for q i (before z) e s m = tt
  enough_for q i (after z) e s m = tt
  enough_for q i (charged w) e s m = tt

  abbrev moves : ℕ
  moves = place_after tags x.place f.tag f.value

  pub came : (y : Stage) → take_on x f ≡ taken y → Came x f y
  came y = go (field_content x.place (content_on x) f) refl
    where
      go : (c : Content) → field_content x.place (content_on x) f ≡ c → answer_by (bring_on x moves) (pass_on x) c ≡ taken y → Came x f y
      go (brought b) e h =
          let w = by_row_lem x.place (content_on x) f (brought b) (λ n q. false≢true cc) e in
          let (long, comes) = tested w.row.holds (brought b) (λ n q. false≢true cc) w.brings in
          let (s, m) = says x.passed x.vehicle x.cycle x.run.progress.offered f.tag f.value x.place w.row w.one w.is w.stands b comes in
          let d : bring_on x moves b ≡ y = cc h in
          record { brings = b; says = s; enough = enough_for w.row w.one b long s m; is = ap (λ (k : ℕ). bring_on x k b) (sym (w.moves ∙ m)) ∙ d }
      go foreign e h = absurd (false≢true cc)
      go (wrong n) e h = absurd (false≢true cc)

  -- one that was passed over
  pub gone : (y : Stage) → take_on x f ≡ passed y → (pass_on x ≡ y) × (x.passed + 1 ≤ most_passed) × (among x.place block_places ≡ true)
  gone y = go (field_content x.place (content_on x) f) refl
    where
      go : (c : Content) → field_content x.place (content_on x) f ≡ c → answer_by (bring_on x moves) (pass_on x) c ≡ passed y → (pass_on x ≡ y) × (x.passed + 1 ≤ most_passed) × (among x.place block_places ≡ true)
      go (brought b) e h = absurd (false≢true cc)
      go foreign e h =
          let w = by_row_lem x.place (content_on x) f foreign (λ n q. false≢true cc) e in
          let (long, comes) = tested w.row.holds foreign (λ n q. false≢true cc) w.brings in
          let z = says_foreign x.passed x.vehicle x.cycle x.run.progress.offered f.tag f.value x.place w.row w.one w.stands comes in
          (cc h, z.0, z.1)
      go (wrong n) e h = absurd (false≢true cc)

-- ---- the field at the front of the bytes

pub data Moved (x : Stage) (i : List ℕ) (y : Stage) (m : ℕ) : Type 0 where
  took : (f : Field) → front_of tags i ≡ field f → m ≡ bytes_of f → length_allowed tags f.tag (length f.value) ≡ true → Came x f y → Moved x i y m
  went : (f : Field) → front_of tags i ≡ field f → m ≡ bytes_of f → pass_on x ≡ y → x.passed + 1 ≤ most_passed → among x.place block_places ≡ true → Moved x i y m

pub moved : (x : Stage) (i : List ℕ) (y : Stage) (m : ℕ) → move_at tags take_on x i ≡ on y m → Moved x i y m
unfolding reply_at
moved x i y m = go (front_of tags i) refl
  where
    by_answer : (f : Field) → front_of tags i ≡ field f → (a : Answer Stage) → take_on x f ≡ a → move_by a (bytes_of f) ≡ on y m → Moved x i y m
    by_answer f e (taken z) q h = let d : z ≡ y = cc h in took f e (sym (uses (taken z) (bytes_of f) m y h)) (front_allowed tags i f e) (came x f y (q ∙ ap taken d))
    by_answer f e (passed z) q h =
        let d : z ≡ y = cc h in
        let g = gone x f y (q ∙ ap passed d) in
        went f e (sym (uses (passed z) (bytes_of f) m y h)) g.0 g.1 g.2
    by_answer f e (refused n) q h = absurd (false≢true cc)

    go : (w : Front) → front_of tags i ≡ w → move_as tags take_on x w ≡ on y m → Moved x i y m
    go incomplete e h = absurd (false≢true cc)
    go impossible e h = absurd (false≢true cc)
    go (field f) e h = by_answer f e (take_on x f) refl h
