-- Wrong programs for functions that hold no loop and no test worth an edit: any program that answers so breaks the contract.
-- Assumes nothing.
use Rattle.std.specs.Prelude.{Ok, Err}
use mathlib.Core.Bool.{false, false≢true}
use mathlib.Core.List.{List}
use mathlib.Core.Path.{◌≡◌, sym, ap, ◌∙◌}
use Prim.Native.Nat.{ℕ, suc}
use native.Mathlib.Omega.{arith}
use lib.ListN.{get_or, replicate}
use Rattle.laws.specs.Answers.{refuses, answer_said}
use Rattle.laws.proofs.Answers.{given_refused}
use denote.Param.Laws.{Laws}
use denote.RattleType.{RattleType}
use Rattle.opening.specs.declared.Opening.{Opening}
use Rattle.opening.specs.declared.OpenAnswer.{OpenAnswer}
use Rattle.opening.specs.declared.OpenStep.TheVariants as step
use Rattle.opening.specs.Answers.{open_step_said_by, OpenSaid, open_said_by}
use Rattle.opening.specs.Begin.{refused_at as refused_opening}
use Rattle.opening.specs.contracts as opening_contracts
use Rattle.opening.proofs.refused_at
use Rattle.opening.proofs.characters_of
use Rattle.reading.specs.declared.Reading.{Reading}
use Rattle.reader.proofs.Endings.{only_whole}
use Rattle.reader.specs.contracts as reader_contracts
use Rattle.reader.proofs.blank
use Rattle.reader.proofs.reading_of
use Rattle.reader.proofs.ended
use Rattle.demands.specs.Calls.{Call}

-- an answer to a field that is refused with the number n, whoever gives it and whatever says why: a refusal that is another's, or no refusal at all
module _ {R : Type 0} (said : R → ℕ) (o : Opening) (n : ℕ) (a : OpenAnswer R) (kept : open_said_by said a ≡ refused_opening o n) where
  pub refused_opening_another_number_breaks : (e : R) → (said e ≡ n → ⊥) → a.step ≡ Err e → ⊥
  refused_opening_another_number_breaks e h is =
      let z : refuses (said e) ≡ refuses n = sym (ap (open_step_said_by said) is) ∙ ap (λ (x : OpenSaid). x.says) kept in h cc

  pub refused_opening_as_incomplete_breaks : a.step ≡ Ok step.Incomplete → ⊥
  refused_opening_as_incomplete_breaks e = given_refused (sym (ap (open_step_said_by said) e) ∙ ap (λ (x : OpenSaid). x.says) kept)

-- the same of `refused_at`, by any number that says the refusal
module _ (R : RattleType) (L : Laws R) (c : Call (opening_contracts.refused_at.ended R) (refused_at.Reads.Learnt R L)) where
  pub refused_another_number_breaks : (said : R.Denot → ℕ) (e : R.Denot) → (said e ≡ said c.args.1.0 → ⊥) → c.answer.step ≡ Err e → ⊥
  refused_another_number_breaks said = refused_opening_another_number_breaks said c.args.0 (said c.args.1.0) c.answer (c.kept.1 said)

  pub refused_as_incomplete_breaks : c.answer.step ≡ Ok step.Incomplete → ⊥
  refused_as_incomplete_breaks = let said : R.Denot → ℕ = λ _. 0 in refused_opening_as_incomplete_breaks said c.args.0 0 c.answer (c.kept.1 said)

-- an opening whose vehicle is seventeen bytes of 0, or that has a cycle already
module _ (c : Call reader_contracts.blank.ended blank.Reads.Learnt) where
  pub blank_of_zeros_breaks : c.answer.vehicle ≡ replicate 17 0 → ⊥
  blank_of_zeros_breaks e =
      let z : ◌≡◌ {A = ℕ} 0 48 = ap (λ (v : List ℕ). get_or v 0 0) (sym e ∙ ap (λ (o : Opening). o.vehicle) c.kept) in
      omega arith

  pub blank_with_a_cycle_breaks : (n : ℕ) → c.answer.cycle ≡ suc n → ⊥
  blank_with_a_cycle_breaks n e = let z : suc n ≡ 0 = sym e ∙ ap (λ (o : Opening). o.cycle) c.kept in omega arith

-- a reading that starts at another place in the order, or with blocks passed over
module _ (c : Call reader_contracts.reading_of.ended reading_of.Reads.Learnt) where
  pub reading_from_place_1_breaks : (n : ℕ) → c.answer.place ≡ suc n → ⊥
  reading_from_place_1_breaks n e = let z : suc n ≡ 0 = sym e ∙ ap (λ (r : Reading). r.place) c.kept in omega arith

  pub reading_with_one_passed_breaks : (n : ℕ) → c.answer.passed ≡ suc n → ⊥
  reading_with_one_passed_breaks n e = let z : suc n ≡ 0 = sym e ∙ ap (λ (r : Reading). r.passed) c.kept in omega arith

-- an end that is let by before the start, or inside a field
module _ (c : Call reader_contracts.ended.ended ended.Reads.Learnt) where
  pub ended_before_the_start_breaks : c.args.0 ≡ false → c.answer ≡ Ok tt → ⊥
  ended_before_the_start_breaks s e = false≢true (sym s ∙ (only_whole c.args.0 c.args.1.0 (sym c.kept ∙ ap answer_said e)).0)

  pub ended_with_bytes_left_breaks : (n : ℕ) → c.args.1.0 ≡ suc n → c.answer ≡ Ok tt → ⊥
  ended_with_bytes_left_breaks n s e = let z = (only_whole c.args.0 c.args.1.0 (sym c.kept ∙ ap answer_said e)).1 in omega arith

-- seventeen characters that are not those of the value
module _ (c : Call opening_contracts.characters_of.ended characters_of.Reads.Learnt) where
  pub characters_of_another_breaks : (v : List ℕ) → (v ≡ c.args.0.now → ⊥) → c.answer ≡ v → ⊥
  characters_of_another_breaks v h e = h (sym e ∙ c.kept)
