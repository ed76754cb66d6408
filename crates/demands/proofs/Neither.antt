-- Numbers of refusals that are neither 1 nor 2: along a chain, and of answers by their number.
-- Assumes nothing.
use mathlib.Core.Bool.{Bool, true, cond}
use mathlib.Core.List.{List, [], ◌∷◌}
use mathlib.Core.Path.{◌≡◌, refl, sym, ap, subst, ◌∙◌}
use Prim.Native.Nat.{ℕ, ◌+◌, ◌≤◌}
use native.Mathlib.Omega.{arith}
use lib.Dec.{leb}
use lib.IntN.{ℤ}
use Rattle.rules.specs.Words.{unless}
use Rattle.rules.specs.Closing.{Charge, closing_refusal, recharge_refusal}
use Rattle.std.specs.Prelude.{None as absent, Some as wh}
use Rattle.rules.specs.Bench.{most_passed}
use Rattle.rules.specs.Table.{Row, Matter, among, place_after, behind_tolerances, tags}
use Rattle.rules.specs.Front.{Field, Front, incomplete, impossible, field, bytes_of, front_of}
use Rattle.rules.specs.Machine.{to_field, reply_as, reply_at}
use Rattle.rules.specs.Values.{same_number, first_in, samples_of, moments_in, block_or}
use Rattle.rules.specs.Record.{own_samples, Content, brought, foreign, wrong, block_content, field_content, answer_by}
use Rattle.laws.proofs.Carried.{In, here, there, by_field}
use Rattle.laws.proofs.Places.{place_is}
use Rattle.records.specs.Stage.{Stage, content_on, bring_on, pass_on, take_on, reply_on}
use Rattle.reading.specs.Answers.{stage_at}
use Rattle.reading.specs.declared.Reading.{Reading}
use Rattle.demands.specs.Cases.{Neither1Nor2, recharge_number, wrong_number, reply_number, next_number}
use Rattle.demands.proofs.Numbers.{along, either}

abbrev pub Neither : ℕ → Type 0
Neither = Neither1Nor2 (λ (k : ℕ). k)

pub unless_neither : {n : ℕ} (t : Bool) {rest : ℕ} → Neither n → Neither rest → Neither (unless n t rest)
unless_neither = along Neither (λ (k : ℕ). k)

pub cond_neither : (t : Bool) (m n : ℕ) → Neither m → Neither n → Neither (cond t m n)
cond_neither = either Neither (λ (k : ℕ). k)

pub zero_neither : Neither 0
zero_neither = omega arith

-- an answer by its number
pub by_number : {A : Type 0} (number : A → ℕ) (refused : ℕ → A) → ((k : ℕ) → number (refused k) ≡ k) → {x : A} {n : ℕ} → number x ≡ n → Neither n → Neither1Nor2 refused x
by_number number refused h e g = (λ f. g.0 (sym e ∙ ap number f ∙ h 1), λ f. g.1 (sym e ∙ ap number f ∙ h 2))

-- "Closing: 10, 11, 12, 13."
pub closing_neither : (E : ℤ) (n : ℕ) (e d : ℕ → ℤ) (asked : ℕ) → Neither (closing_refusal E n e d asked)
unfolding closing_refusal
closing_neither E n e d asked =
    unless_neither _ (omega arith)
    (unless_neither _ (omega arith)
    (unless_neither _ (omega arith)
    (unless_neither _ (omega arith)
    (unless_neither _ (omega arith) (unless_neither _ (omega arith) zero_neither)))))

-- "then absent, 14, 12"
pub recharge_neither : (E : ℤ) (R : ℕ) (F : ℤ) (y : Charge) → Neither (recharge_number E R F y)
unfolding recharge_refusal
recharge_neither E R F absent = zero_neither
recharge_neither E R F (wh A) = unless_neither _ (omega arith) (unless_neither _ (omega arith) zero_neither)

-- ---- of what a field after the start brings

abbrev At : Content → Type 0
At c = Neither (wrong_number c)

-- "for field 5: 4, pass over, 6, 7, 5 (a block passed over can only meet 7)"
block_neither : (over : ℕ) (me : List ℕ) (offered : ℕ) (v : List ℕ) → At (block_content over me offered v)
unfolding block_content
block_neither over me offered v =
    along Neither wrong_number _ (omega arith)
    (either Neither wrong_number (same_number me v) (block_or wrong offered (first_in v) (samples_of v) (brought (own_samples (moments_in (samples_of v))))) (unless (wrong 7) (leb (over + 1) most_passed) foreign)
    (along Neither wrong_number _ (omega arith) (along Neither wrong_number _ (omega arith) (along Neither wrong_number _ (omega arith) zero_neither)))
    (along Neither wrong_number _ (omega arith) zero_neither))

-- "8, 9, then its content": no field that asks for the cycle or the memory may stand there
module _ (x : Stage) (late : behind_tolerances ≤ x.place) where
  never : (k : ℕ) → k ≤ 3 → among x.place (k ∷ []) ≡ true → {A : Type 0} → A
  never k h e = absurd (let p = place_is x.place k e in omega arith)

  -- a test that is passed
  passed_neither : (c : Content) → At c → At (unless (wrong 1) true c)
  unfolding unless
  passed_neither c h = h

  content_neither : (v : List ℕ) (r : Row Matter) → In r tags → among x.place r.stands ≡ true → At (content_on x r.holds v)
  content_neither v r here a = never 0 (omega arith) a
  content_neither v r (there here) a = never 1 (omega arith) a
  content_neither v r (there (there here)) a = never 2 (omega arith) a
  content_neither v r (there (there (there here))) a = never 3 (omega arith) a
  content_neither v r (there (there (there (there here)))) a = passed_neither _ (block_neither x.passed x.vehicle x.run.progress.offered v)
  content_neither v r (there (there (there (there (there here))))) a = passed_neither _ (along Neither wrong_number _ (omega arith) zero_neither)
  content_neither v r (there (there (there (there (there (there here)))))) a = passed_neither _ (along Neither wrong_number _ (omega arith) zero_neither)
  content_neither v r (there (there (there (there (there (there (there here))))))) a = passed_neither _ (along Neither wrong_number _ (omega arith) zero_neither)
  content_neither v r (there (there (there (there (there (there (there (there here)))))))) a = passed_neither _ (along Neither wrong_number _ (omega arith) zero_neither)
  content_neither v r (there (there (there (there (there (there (there (there (there z))))))))) a = elim z [ ]

  field_neither : (f : Field) → At (field_content x.place (content_on x) f)
  field_neither f = by_field At x.place (content_on x) f (omega arith) (omega arith) (content_neither f.value)

  -- the answer to the bytes has the number of the content
  answer_number : (m n : ℕ) (c : Content) → reply_number (to_field (answer_by (bring_on x m) (pass_on x) c) n) ≡ wrong_number c
  answer_number m n (brought b) = refl
  answer_number m n foreign = refl
  answer_number m n (wrong k) = refl

  reply_neither : (i : List ℕ) → Neither (reply_number (reply_on x i))
  unfolding reply_at
  reply_neither i = go (front_of tags i)
    where
      go : (w : Front) → Neither (reply_number (reply_as tags take_on x w))
      go incomplete = zero_neither
      go impossible = omega arith
      go (field f) =
          subst Neither (sym (answer_number (place_after tags x.place f.tag f.value) (bytes_of f) (field_content x.place (content_on x) f))) (field_neither f)

-- 8, or that of a whole field
pub next_neither : (r : Reading) (b : List ℕ) (l : List ℤ) (m i : List ℕ) → Neither (next_number r b l m i)
next_neither r b l m i = reply_neither (stage_at r b l m) (omega arith) i
