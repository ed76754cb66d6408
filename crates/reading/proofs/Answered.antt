-- The answers of a reading: those that say the same are the same.
-- Assumes nothing.
use mathlib.Core.Path.{◌≡◌, refl, ap}
use Rattle.laws.specs.Answers.{Said, gives, refuses}
use Rattle.laws.proofs.Answers.{known_by, refusal_of, of_number}
use Rattle.reading.specs.declared.Along.{Along}
use Rattle.reading.specs.declared.Passage.{Passage}
use Rattle.std.specs.Prelude.{Result, Ok, Err}
use Rattle.rules.specs.declared.Refusal.{Refusal}
use Rattle.reading.specs.declared.Step.{Step}
use Rattle.reading.specs.declared.Step.TheVariants as step
use Rattle.reading.specs.declared.Stepped.{Stepped}
use Rattle.reading.specs.Answers.{FieldRead, reads, passes, unfinished, step_said, ReadSaid, AllSaid}
use Rattle.reading.specs.Along.{stepped_said, passage_said}

pub same_step : (x y : Result Step Refusal) → step_said x ≡ step_said y → x ≡ y
same_step = known_by step_said back known
  where
    back : Said FieldRead → Result Step Refusal
    back (gives (reads n)) = Ok (step.Taken n)
    back (gives (passes n)) = Ok (step.Passed n)
    back (gives unfinished) = Ok step.Incomplete
    back (refuses n) = Err (refusal_of n)

    known : (x : Result Step Refusal) → back (step_said x) ≡ x
    known (Ok (step.Taken n)) = refl
    known (Ok (step.Passed n)) = refl
    known (Ok step.Incomplete) = refl
    known (Err e) = ap Err (of_number e)

pub same_stepped : (x y : Stepped) → stepped_said x ≡ stepped_said y → x ≡ y
same_stepped x y e =
    let step_is = same_step x.step y.step (ap (λ (z : ReadSaid Along). z.says) e) in
    let along-same = ap (λ (z : ReadSaid Along). z.state) e in
    λ i. record { step = step_is i; along = along-same i }

pub same_passage : (x y : Passage) → passage_said x ≡ passage_said y → x ≡ y
same_passage x y e =
    let last_is = same_step x.last y.last (ap (λ (z : AllSaid Along). z.last) e) in
    λ i. record { along = (e i).state; fields = (e i).fields; used = (e i).used; last = last_is i }
