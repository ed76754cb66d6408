-- Numbers of refusals: each is one of document 01's list, along a chain, of what a field brings, and of the machine's answers.
-- Assumes nothing.
use mathlib.Core.Bool.{Bool, true, false, cond, false≢true}
use mathlib.Core.List.{List}
use mathlib.Core.Path.{◌≡◌, refl, ap, subst, ◌∙◌}
use Prim.Native.Nat.{ℕ, ◌+◌, ◌≤◌, zero-le}
use native.Mathlib.Omega.{arith}
use borrow.Author.Tests.{eqb-false}
use lib.Dec.{leb, eqb}
use lib.IntN.{ℤ}
use lib.ListN.{drop}
use Rattle.rules.specs.Words.{unless}
use Rattle.rules.specs.Bench.{most_passed}
use Rattle.rules.specs.Closing.{closing_refusal}
use Rattle.rules.specs.Table.{Matter, mark, number, cycle, tolerances, stretches, block, energy_before, energy_after, recharge, tags}
use Rattle.rules.specs.Front.{Field, Front, incomplete, impossible, field, front_of}
use Rattle.rules.specs.Machine.{Reply, to_field, not_yet, no_field, taken, passed, refused, stopped, off, Answer, move_of, reply_as, reply_at, run}
use Rattle.rules.specs.Values.{same_number, first_in, samples_of, moments_in, block_or}
use Rattle.rules.specs.Record.{Bring, own_samples, Content, brought, foreign, wrong, block_content, content_of, field_content, answer_by, field_answer}
use Rattle.laws.specs.Answers.{Said, gives, refuses, or_refused}
use Rattle.laws.proofs.Answers.{given_refused}
use Rattle.laws.proofs.Carried.{by_field}
use Rattle.laws.proofs.Prefixes.{run_stops}
use Rattle.state.specs.State.{run_ground}
use Rattle.state.specs.declared.Run.{Run}
use Rattle.records.specs.Stage.{Stage, content_on, bring_on, pass_on, reply_on, run_on}
use Rattle.opening.specs.declared.Opening.{Opening}
use Rattle.opening.specs.Answers.{open_ground}
use Rattle.reading.specs.declared.Reading.{Reading}
use Rattle.reading.specs.Answers.{read_ground}
use Rattle.desk.specs.Feeding.{Laid, desk_ground}
use Rattle.demands.specs.Cases.{Known, in_01, in_02, Listed}
use Rattle.demands.proofs.Numbers.{along, either}

-- ---- numbers: 0 where nothing is refused

pub few_unless : {n : ℕ} (t : Bool) {rest : ℕ} → Known n → Known rest → Known (unless n t rest)
few_unless = along Known (λ (k : ℕ). k)

few_cond : (t : Bool) (m n : ℕ) → Known m → Known n → Known (cond t m n)
few_cond = either Known (λ (k : ℕ). k)

pub few_ground : (r : Run) (b : List ℕ) (l : List ℤ) (m : List ℕ) (others : ℕ) → Known others → Known (run_ground r b l m others)
unfolding run_ground
few_ground r b l m others h = few_unless _ (in_01 (omega arith)) (few_unless _ (in_01 (omega arith)) h)

pub few_closing : (E : ℤ) (n : ℕ) (e d : ℕ → ℤ) (asked : ℕ) → Known (closing_refusal E n e d asked)
unfolding closing_refusal
few_closing E n e d asked =
    few_unless _ (in_01 (omega arith))
    (few_unless _ (in_01 (omega arith))
    (few_unless _ (in_01 (omega arith)) (few_unless _ (in_01 (omega arith)) (few_unless _ (in_01 (omega arith)) (few_unless _ (in_01 (omega arith)) (in_01 zero-le))))))

pub few_reading : (r : Reading) (b : List ℕ) (l : List ℤ) (m : List ℕ) → Known (read_ground r b l m)
unfolding read_ground
few_reading r b l m = few_unless _ (in_01 (omega arith)) (few_ground r.run b l m 0 (in_01 zero-le))

pub few_opening : (o : Opening) (room : List ℕ) → Known (open_ground o room)
unfolding open_ground
few_opening o room = few_unless _ (in_01 (omega arith)) (few_unless _ (in_01 (omega arith)) (in_01 zero-le))

pub few_desk : (x : Laid) → Known (desk_ground x)
unfolding desk_ground
few_desk x =
    few_unless _ (in_01 (omega arith))
    (few_cond x.desk.started _ _ (few_unless _ (in_01 (omega arith)) (few_reading x.desk.reading _ x.memory.ledger x.memory.map)) (few_opening x.desk.opening x.room))

pub listed : (k : ℕ) → Known k → (k ≡ 0 → ⊥) → Listed k
listed k h some = record { from_1 = go k some; known = h }
  where
    go : (k : ℕ) → (k ≡ 0 → ⊥) → 1 ≤ k
    go k n = omega arith

-- what is said by the number of a refusal
said_listed : {A : Type 0} (k : ℕ) (x : Said A) (n : ℕ) → Known k → (x ≡ refuses n → Listed n) → or_refused k x ≡ refuses n → Listed n
said_listed k x n few ok = go (eqb k 0) refl
  where
    go : (t : Bool) → eqb k 0 ≡ t → cond t x (refuses k) ≡ refuses n → Listed n
    go true z e = ok e
    go false z e = let d : k ≡ n = cc in subst Listed d (listed k few (eqb-false k 0 z))

pub given_listed : {A : Type 0} (k : ℕ) (x : A) (n : ℕ) → Known k → or_refused k (gives x) ≡ refuses n → Listed n
given_listed k x n few = said_listed k (gives x) n few (λ z. absurd (given_refused z))

-- ---- what a field brings

-- the number of a refusal; 1, which is one of the list, where nothing is refused
abbrev as_number : Content → ℕ
as_number (brought b) = 1
as_number foreign = 1
as_number (wrong n) = n

abbrev pub Proper : Content → Type 0
Proper c = Listed (as_number c)

pub at : (n : ℕ) → 1 ≤ n → Known n → Listed n
at n h g = record { from_1 = h; known = g }

one : Listed 1
one = at 1 (omega arith) (in_01 (omega arith))

-- "for field 5: 4, pass over, 6, 7, 5 (a block passed over can only meet 7)"
block_proper : (over : ℕ) (me : List ℕ) (offered : ℕ) (v : List ℕ) → Proper (block_content over me offered v)
unfolding block_content
block_proper over me offered v =
    along Listed as_number _ (at 4 (omega arith) (in_01 (omega arith)))
    (either Listed as_number (same_number me v) (block_or wrong offered (first_in v) (samples_of v) (brought (own_samples (moments_in (samples_of v))))) (unless (wrong 7) (leb (over + 1) most_passed) foreign)
    (along Listed as_number _ (at 6 (omega arith) (in_01 (omega arith)))
    (along Listed as_number _ (at 7 (omega arith) (in_01 (omega arith))) (along Listed as_number _ (at 5 (omega arith) (in_01 (omega arith))) one)))
    (along Listed as_number _ (at 7 (omega arith) (in_01 (omega arith))) one))

pub content_proper : (over : ℕ) (me course : List ℕ) (offered : ℕ) (m : Matter) (v : List ℕ) → Proper (content_of over me course offered m v)
content_proper over me course offered mark v = one
content_proper over me course offered number v = along Listed as_number _ (at 4 (omega arith) (in_01 (omega arith))) one
content_proper over me course offered cycle v = along Listed as_number _ (at 2 (omega arith) (in_01 (omega arith))) one
content_proper over me course offered tolerances v =
    along Listed as_number _ (at 2 (omega arith) (in_01 (omega arith))) (along Listed as_number _ (at 3 (omega arith) (in_01 (omega arith))) one)
content_proper over me course offered stretches v = along Listed as_number _ (at 19 (omega arith) (in_02 refl)) one
content_proper over me course offered block v = block_proper over me offered v
content_proper over me course offered energy_before v = along Listed as_number _ (at 14 (omega arith) (in_01 (omega arith))) one
content_proper over me course offered energy_after v = along Listed as_number _ (at 14 (omega arith) (in_01 (omega arith))) one
content_proper over me course offered recharge v = along Listed as_number _ (at 14 (omega arith) (in_01 (omega arith))) one

-- ---- the machine's answers, for a state of any kind whose contents are proper

module _ {S : Type 0} (place : S → ℕ) (content : S → Matter → List ℕ → Content) (bring : S → ℕ → Bring → S) (pass : S → S)
    (proper : (s : S) (m : Matter) (v : List ℕ) → Proper (content s m v)) where
  abbrev act : S → Field → Answer S
  act s f = field_answer (place s) (content s) (bring s) (pass s) f

  field_proper : (s : S) (f : Field) → Proper (field_content (place s) (content s) f)
  field_proper s f = by_field Proper (place s) (content s) f (at 8 (omega arith) (in_01 (omega arith))) (at 9 (omega arith) (in_01 (omega arith))) (λ r _ _. proper s r.holds f.value)

  abbrev ProperReply : Reply S → Type 0
  ProperReply y = (n k : ℕ) → y ≡ to_field (refused n) k → Listed n

  reply_proper : (s : S) (i : List ℕ) → ProperReply (reply_at tags act s i)
  unfolding reply_at
  reply_proper s i = go (front_of tags i)
    where
      by : (s' : ℕ → Bring → S) (m size : ℕ) (c : Content) → Proper c → ProperReply (to_field (answer_by (s' m) (pass s) c) size)
      by s' m size (brought b) p n k e = absurd (false≢true cc)
      by s' m size foreign p n k e = absurd (false≢true cc)
      by s' m size (wrong x) p n k e = let d : x ≡ n = cc e in subst Listed d p

      go : (w : Front) → ProperReply (reply_as tags act s w)
      go incomplete n k e = absurd (false≢true cc)
      go impossible n k e = absurd (false≢true cc)
      go (field f) n k e = by (bring s) _ _ (field_content (place s) (content s) f) (field_proper s f) n k e

  pub end_proper : (s : S) (i : List ℕ) (n : ℕ) → (run tags act s i).end ≡ stopped n → Listed n
  end_proper s i n e =
      let x = run tags act s i in
      go (reply_at tags act x.state (drop x.used i)) refl (run_stops tags act s i ∙ ap off e)
    where
      go : (y : Reply S) → reply_at tags act (run tags act s i).state (drop (run tags act s i).used i) ≡ y → move_of y ≡ off (stopped n) → Listed n
      go (to_field (taken z) k) q d = absurd (false≢true cc)
      go (to_field (passed z) k) q d = absurd (false≢true cc)
      go (to_field (refused x) k) q d = let f : x ≡ n = cc d in reply_proper (run tags act s i).state (drop (run tags act s i).used i) n k (q ∙ ap (λ (z : ℕ). to_field (refused z) k) f)
      go not_yet q d = absurd (false≢true cc)
      go no_field q d = absurd (false≢true cc)

-- ---- as the code keeps it

on_proper : (x : Stage) (m : Matter) (v : List ℕ) → Proper (content_on x m v)
on_proper x m v = along Listed as_number _ one (content_proper x.passed x.vehicle x.cycle x.run.progress.offered m v)

pub reply_listed : (x : Stage) (i : List ℕ) (n k : ℕ) → reply_on x i ≡ to_field (refused n) k → Listed n
reply_listed x i = reply_proper (λ s. s.place) content_on bring_on pass_on on_proper x i

pub run_listed : (x : Stage) (i : List ℕ) (n : ℕ) → (run_on x i).end ≡ stopped n → Listed n
run_listed x i = end_proper (λ s. s.place) content_on bring_on pass_on on_proper x i
