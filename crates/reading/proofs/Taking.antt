-- Fields taken by a reading on its lent memory: what the code forms is what the machine says.
-- Assumes nothing.
use mathlib.Core.Bool.{true, false≢true}
use mathlib.Core.List.{List, [], ◌∷◌}
use mathlib.Core.Path.{◌≡◌, refl, sym, ap, subst, ◌∙◌}
use Prim.Native.Nat.{ℕ, ◌+◌, ◌-◌, ◌≤◌}
use native.Mathlib.Omega.{arith}
use lib.IntN.{ℤ}
use lib.ListN.{length}
use mir.Syntax.{w64}
use mir.Val.{SFits, to_z, of_z}
use Rattle.rules.specs.Words.{unless}
use Rattle.numbers.proofs.Signed.{read}
use Rattle.rules.specs.declared.Amounts.{Amounts}
use Rattle.rules.specs.Closing.{Charge}
use Rattle.rules.specs.declared.Tolerances.{Tolerances}
use Rattle.rules.specs.declared.Stretches.{Stretches}
use Rattle.rules.specs.declared.Method.TheVariants.{Shortened}
use Rattle.rules.specs.Plan.{Plan, plan}
use Rattle.rules.specs.Table.{Row, Matter, among, length_allowed, place_after, behind_tolerances, tags}
use Rattle.rules.specs.Front.{Field, Front, front_of, bytes_of}
use Rattle.rules.specs.Machine.{taken, to_field, reply_as, reply_at}
use Rattle.rules.specs.Values.{samples_of, moment_at, count_in, moments_in}
use Rattle.rules.specs.Record.{Content as Comes-in, the_stretches, own_samples, brought, foreign, content_of, field_content, answer_by}
use Rattle.laws.specs.Answers.{Said, gives}
use Rattle.laws.proofs.Carried.{In, here, there, ByRow, by_row_lem, same_rows}
use Rattle.laws.proofs.Contents.{not_first}
use Rattle.laws.proofs.Places.{place_is}
use Rattle.laws.proofs.Sound.{sound}
use Rattle.laws.proofs.Says.{moves_to, Says, says, says_foreign}
use Rattle.laws.proofs.Tags.{sizes}
use Rattle.state.specs.State.{Left, left}
use Rattle.step.specs.declared.Taken.{Taken}
use Rattle.step.specs.Where.{Kept, with_memory, taking, taken_at, left_at}
use Rattle.step.proofs.Fresh.{fresh_standing}
use Rattle.blocks.specs.Blocks.{block_taken}
use Rattle.records.specs.Stage.{Stage, content_on, bring_on, pass_on, take_on}
use Rattle.records.proofs.Later.{taken_list}
use Rattle.std.specs.Prelude.{Option, Some, None, Result, Ok, Err}
use Rattle.rules.specs.declared.Refusal.{Refusal}
use Rattle.contents.specs.declared.Bring.{Bring}
use Rattle.contents.specs.declared.Bring.TheVariants.{Stretch, Samples, Before, After, Recharge}
use Rattle.contents.specs.Content.{bring_said, content_said, later_content}
use Rattle.reading.specs.declared.Along.{Along}
use Rattle.reading.specs.Answers.{FieldRead, reads, passes, ReadSaid}
use Rattle.reading.specs.Along.{along_of, stage_along, stage_here, along_left, stepped_left, with_passed, with_amounts, with_stretches, place_of, bring_taken, content_taken, whole_taken, front_taken, Takes, Ready}

-- a place counted from the start
pub from_start : (p : ℕ) → p ≡ behind_tolerances + p - behind_tolerances
from_start p = omega arith

-- a reading is what has been read by it, where its run stands
pub along_is : (me b : List ℕ) (t : Tolerances) (k : Along) (l : List ℤ) (m : List ℕ) → Kept (plan b t k.method) (left k.taken l m)
    → k ≡ along_of (stage_along me b t k l m)
along_is me b t k l m h = λ i. record {
  place = from_start k.place i;
  passed = k.passed;
  amounts = k.amounts;
  method = k.method;
  taken = taking (h.stands i) k.taken.stretched;
}

-- two energies as the machine holds them
pub as_held : (k : Along) {place : ℕ} {before after : ℤ} {charge : Charge} {r : Along} → SFits w64 before → SFits w64 after
    → r ≡ with_amounts k place (record { before = to_z w64 (of_z w64 before); after = to_z w64 (of_z w64 after); charge = charge })
    → r ≡ with_amounts k place (record { before = before; after = after; charge = charge })
as_held k {place} {charge = charge} p q e = e ∙ (λ i. with_amounts k place (record { before = read p i; after = read q i; charge = charge }))

module _ (b : List ℕ) (t : Tolerances) (k : Along) (l : List ℤ) (m : List ℕ) where
  abbrev p : Plan
  p = plan b t k.method

  -- ---- what a value brings

  module _ (v : List ℕ) where
    -- by what it is known to be
    pub by_bring : {c d : Bring} {y : Left Along} → c ≡ d → y ≡ bring_taken b t k l m v d → y ≡ bring_taken b t k l m v c
    by_bring e h = h ∙ ap (bring_taken b t k l m v) (sym e)

    -- an own block is taken by the judge
    abbrev after_block : Left Taken → Left Along
    after_block y = record { answer = record { place = 3; passed = k.passed; amounts = k.amounts; method = k.method; taken = y.answer }; memory = y.memory }

    pub samples_taken_lem : {q : List ℕ} → q ≡ samples_of v → {y : Left Taken} → y ≡ block_taken b t k.method k.taken l m q → after_block y ≡ bring_taken b t k l m v Samples
    samples_taken_lem e h =
        ap after_block
        (h ∙ ap (block_taken b t k.method k.taken l m) e ∙ ap (left_at p) (taken_list p (with_memory k.taken l m) (moment_at (samples_of v)) (count_in (samples_of v))))

    -- stretches make the run a shortened one, where it stands already
    pub stretches_taken : (x : Stretches) → Kept p (left k.taken l m) → k.taken.going.progress.counted ≡ 0 → {r : Along} → r ≡ with_stretches k x
        → left r l m ≡ bring_taken b t k l m v (Stretch x)
    stretches_taken x h none e =
        let stands = h.stands ∙ fresh_standing b (sound b h.sound) t.time k.method (Shortened x) k.taken.going.progress none in
        (λ i. left (e i) l m)
        ∙ (λ i. left (record { place = 1; passed = k.passed; amounts = k.amounts; method = Shortened x; taken = taking (stands i) k.taken.stretched }) l m)

    -- an amount leaves the run as it is
    pub amount_taken : Kept p (left k.taken l m) → {r : Along} (place : ℕ) (a : Amounts) → r ≡ with_amounts k place a
        → left r l m ≡ record { answer = record { place = place; passed = k.passed; amounts = a; method = k.method; taken = taken_at p (with_memory k.taken l m) }; memory = (with_memory k.taken l m).memory }
    amount_taken h place a e =
        (λ i. left (e i) l m)
        ∙ (λ i. left (record { place = place; passed = k.passed; amounts = a; method = k.method; taken = taking (h.stands i) k.taken.stretched }) l m)

  -- ---- the content of a field, of n bytes

  module _ (v : List ℕ) (n : ℕ) where
    pub by_content : {c d : Result (Option Bring) Refusal} {y : Left (ReadSaid Along)} → c ≡ d → y ≡ content_taken b t k l m v d n → y ≡ content_taken b t k l m v c n
    by_content e h = h ∙ ap (λ (x : Result (Option Bring) Refusal). content_taken b t k l m v x n) (sym e)

    abbrev after_bring : Left Along → Left (ReadSaid Along)
    after_bring y = record { answer = record { says = gives (reads n); state = y.answer }; memory = y.memory }

    pub brought_taken : (g : Bring) {y : Left Along} → y ≡ bring_taken b t k l m v g → after_bring y ≡ content_taken b t k l m v (Ok (Some g)) n
    brought_taken g e = ap after_bring e

    pub passed_taken : Kept p (left k.taken l m) → {r : Along} → r ≡ with_passed k → left {A = ReadSaid Along} (record { says = gives (passes n); state = r }) l m ≡ content_taken b t k l m v (Ok None) n
    passed_taken h e =
        (λ i. left {A = ReadSaid Along} (record { says = gives (passes n); state = e i }) l m)
        ∙ (λ i. left {A = ReadSaid Along} (record { says = gives (passes n); state = record { place = from_start k.place i; passed = k.passed + 1; amounts = k.amounts; method = k.method; taken = taking (h.stands i) k.taken.stretched } }) l m)

  -- where nothing is taken
  pub unmoved : (me : List ℕ) → Kept p (left k.taken l m) → (s : Said FieldRead)
      → left {A = ReadSaid Along} (record { says = s; state = k }) l m ≡ record { answer = record { says = s; state = along_of (stage_along me b t k l m) }; memory = (stage_along me b t k l m).run.memory }
  unmoved me h s = λ i. record { answer = record { says = s; state = along_is me b t k l m h i }; memory = (with_memory k.taken l m).memory }

  module _ (me : List ℕ) where
    abbrev x : Stage
    x = stage_along me b t k l m

    -- after the start neither the cycle is asked nor the memory
    later_is : (f : Field) → field_content x.place (content_on x) f ≡ later_content me k.place k.passed k.taken.going.progress.offered f
    unfolding unless
    later_is f = same_rows x.place (content_on x) (content_of k.passed me [] k.taken.going.progress.offered) f (λ q i _ a. go q i a)
      where
        none : (n : ℕ) → n ≤ 3 → among (behind_tolerances + k.place) (n ∷ []) ≡ true → {A : Type 0} → A
        none n h e = absurd (false≢true (sym (not_first k.place n h) ∙ e))

        go : (q : Row Matter) → In q tags → among x.place q.stands ≡ true → content_on x q.holds f.value ≡ content_of k.passed me [] k.taken.going.progress.offered q.holds f.value
        go q here a = none 0 (omega arith) a
        go q (there here) a = none 1 (omega arith) a
        go q (there (there here)) a = none 2 (omega arith) a
        go q (there (there (there here))) a = none 3 (omega arith) a
        go q (there (there (there (there here)))) a = refl
        go q (there (there (there (there (there here))))) a = refl
        go q (there (there (there (there (there (there here)))))) a = refl
        go q (there (there (there (there (there (there (there here))))))) a = refl
        go q (there (there (there (there (there (there (there (there here)))))))) a = refl
        go q (there (there (there (there (there (there (there (there (there w))))))))) a = elim w [ ]

    -- ---- a whole field f of an allowed length, whose content is c

    module _ (f : Field) (c : Result (Option Bring) Refusal) (a : length_allowed tags f.tag (length f.value) ≡ true)
        (e : content_said f.value c ≡ later_content me k.place k.passed k.taken.going.progress.offered f) where
      abbrev row : (d : Comes-in) → Type 0
      row = ByRow tags (behind_tolerances + k.place) (content_of k.passed me [] k.taken.going.progress.offered) f

      -- what it says that something is brought
      says_it : (g : Bring) → c ≡ Ok (Some g)
          → Says k.passed me [] k.taken.going.progress.offered f.tag f.value (behind_tolerances + k.place) (bring_said f.value g)
          × (place_after tags (behind_tolerances + k.place) f.tag f.value ≡ moves_to (bring_said f.value g))
      says_it g d =
          let w : row (brought (bring_said f.value g)) = by_row_lem _ _ f _ (λ n q. false≢true cc) (sym e ∙ ap (content_said f.value) d) in
          let z = says k.passed me [] k.taken.going.progress.offered f.tag f.value (behind_tolerances + k.place) w.row w.one w.is w.stands (bring_said f.value g) w.brings in
          (z.0, w.moves ∙ z.1)

      moves_to_lem : (g : Bring) → moves_to (bring_said f.value g) ≡ behind_tolerances + place_of g
      moves_to_lem (Stretch z) = refl
      moves_to_lem Samples = refl
      moves_to_lem (Before z) = refl
      moves_to_lem (After z) = refl
      moves_to_lem (Recharge z) = refl

      pub takes : Ready me p (left k l m) → Takes p (left k l m) f.value c
      takes h = record {
        kept = h.kept;
        brings = λ g d. record {
          kept = h.kept;
          fresh = λ y s.
              let first = place_is (behind_tolerances + k.place) behind_tolerances (short g d y s).1 in
              omega (arith, h.kept.counted, h.fresh (omega arith));
          fits = λ y s. (short g d y s).3;
          long = λ s. ((sizes f.tag (length f.value) a).block (own g d s).0).0;
          room = λ s. (own g d s).3.room;
          samples = λ s. (own g d s).3.samples;
        };
        count = λ d.
            let w : row foreign = by_row_lem _ _ f _ (λ n q. false≢true cc) (sym e ∙ ap (content_said f.value) d) in
            (says_foreign k.passed me [] k.taken.going.progress.offered f.tag f.value (behind_tolerances + k.place) w.row w.one w.stands w.brings).0;
      }
        where
          says_as : (g : Bring) → c ≡ Ok (Some g) → (z : Bring) → g ≡ z
              → Says k.passed me [] k.taken.going.progress.offered f.tag f.value (behind_tolerances + k.place) (bring_said f.value z)
          says_as g d z s = subst (λ (y : Bring). Says k.passed me [] k.taken.going.progress.offered f.tag f.value (behind_tolerances + k.place) (bring_said f.value y)) s (says_it g d).0

          own : (g : Bring) → c ≡ Ok (Some g) → g ≡ Samples
              → Says k.passed me [] k.taken.going.progress.offered f.tag f.value (behind_tolerances + k.place) (own_samples (moments_in (samples_of f.value)))
          own g d s = says_as g d Samples s

          short : (g : Bring) → c ≡ Ok (Some g) → (y : Stretches) → g ≡ Stretch y
              → Says k.passed me [] k.taken.going.progress.offered f.tag f.value (behind_tolerances + k.place) (the_stretches y)
          short g d y s = says_as g d (Stretch y) s

      -- the vehicle has no part in it
      same_brought : (q : ℕ) (g : Bring) → along_left (bring_on (stage_here b t k l m) q (bring_said f.value g)) ≡ along_left (bring_on x q (bring_said f.value g))
      same_brought q (Stretch z) = refl
      same_brought q Samples = refl
      same_brought q (Before z) = refl
      same_brought q (After z) = refl
      same_brought q (Recharge z) = refl

      same_answer : (d : Result (Option Bring) Refusal) → c ≡ d
          → content_taken b t k l m f.value d (bytes_of f)
          ≡ stepped_left x (to_field (answer_by (bring_on x (place_after tags x.place f.tag f.value)) (pass_on x) (content_said f.value d)) (bytes_of f))
      same_answer (Ok (Some g)) d =
          (λ i. let y = same_brought (behind_tolerances + place_of g) g i in record { answer = record { says = gives (reads (bytes_of f)); state = y.answer }; memory = y.memory })
          ∙ ap (λ (q : ℕ). stepped_left x (to_field (taken (bring_on x q (bring_said f.value g))) (bytes_of f))) (sym ((says_it g d).1 ∙ moves_to_lem g))
      same_answer (Ok None) d = refl
      same_answer (Err e) d = refl

      pub content_whole : content_taken b t k l m f.value c (bytes_of f) ≡ whole_taken b t k l m me f
      content_whole =
          same_answer c refl
          ∙ ap (λ (y : Comes-in). stepped_left x (to_field (answer_by (bring_on x (place_after tags x.place f.tag f.value)) (pass_on x) y) (bytes_of f))) (e ∙ sym (later_is f))

    -- ---- the field at the front of the input, by what stands there
    module _ (i : List ℕ) {y : Left (ReadSaid Along)} where
      pub front_taken_lem : {w : Front} → front_of tags i ≡ w → y ≡ stepped_left x (reply_as tags take_on x w) → y ≡ front_taken b t k l m me i
      unfolding reply_at
      front_taken_lem e h = h ∙ ap (λ (w : Front). stepped_left x (reply_as tags take_on x w)) (sym e)
