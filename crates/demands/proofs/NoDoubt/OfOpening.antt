-- No doubt about `opening`: each contract has one answer, and those of the operations ask nothing.
-- Assumes nothing.
use denote.Param.Laws.{Laws}
use denote.RattleType.{RattleType}
use mathlib.Core.List.{[], Mem, not-mem-nil}
use mathlib.Core.Path.{◌≡◌, refl, sym, ap, subst, ◌∙◌}
use Prim.Native.Nat.{ℕ}
use Rattle.opening.specs.contracts
use Rattle.opening.proofs.open_refusal
use Rattle.opening.proofs.refused_at
use Rattle.opening.proofs.open_whole
use Rattle.opening.specs.declared.Opening.{Opening}
use Rattle.opening.specs.declared.OpenAnswer.{OpenAnswer}
use Rattle.opening.specs.Answers.{OpenLeft, open_said}
use Rattle.opening.specs.Begin.{refused_at as refused_opening}
use Rattle.rules.specs.declared.Refusal.{Refusal}
use Rattle.laws.proofs.Answers.{same_refused}
use Rattle.opening.proofs.Readied.{same_opened}
use Rattle.opening.proofs.characters_of
use Rattle.demands.specs.Calls.{AsksNothing, OneAnswer}
use Rattle.demands.proofs.NoDoubt.{same}

pub open_refusal_one_answer : OneAnswer contracts.open_refusal.ended open_refusal.Reads.Learnt
open_refusal_one_answer κs a r r' w w' p q = (same_refused r r' (same p q), refl)

pub open_refusal_asks_nothing : AsksNothing contracts.open_refusal.ended open_refusal.Reads.Asked
open_refusal_asks_nothing κs a = tt

pub refused_at_one_answer : (R : RattleType) (L : Laws R) → OneAnswer (contracts.refused_at.ended R) (refused_at.Reads.Learnt R L)
refused_at_one_answer R L κs a r r' w w' p q = (p.0 ∙ sym q.0, refl)

-- of a reason that borrows nothing: a type that borrows asks that what it borrows is there, as at every call
pub refused_at_asks_nothing : (R : RattleType) (L : Laws R) → R.lives ≡ [] → AsksNothing (contracts.refused_at.ended R) (refused_at.Reads.Asked R L)
refused_at_asks_nothing R L e κs a = λ k m. absurd (not-mem-nil (subst (Mem k) e m))

-- a refused field leaves the opening as it was, with one answer, whoever gives it
pub same_refused_opening : (o : Opening) (n : ℕ) (x y : OpenAnswer Refusal) → open_said x ≡ refused_opening o n → open_said y ≡ refused_opening o n → x ≡ y
same_refused_opening o n x y p q = same_opened x y (p ∙ sym q)

pub open_whole_one_answer : OneAnswer contracts.open_whole.ended open_whole.Reads.Learnt
open_whole_one_answer κs a r r' w w' p q = (same_opened r r' (ap (λ (y : OpenLeft). y.answer) (same p q)), λ i. (tt, ((same p q i).room, ((same p q i).memory.ledger, ((same p q i).memory.map, (tt, (tt, tt)))))))

pub characters_of_one_answer : OneAnswer contracts.characters_of.ended characters_of.Reads.Learnt
characters_of_one_answer κs a r r' w w' p q = (same p q, refl)
