-- "Each refusal has a number": over the contracts, that of document 01's order for the call.
-- Assumes nothing.
use mathlib.Core.Path.{◌≡◌, refl, sym, ap, ◌∙◌}
use Prim.Native.Nat.{ℕ}
use lib.Dec.{eqb}
use lib.IntN.{ℤ}
use lib.ListN.{drop}
use Rattle.rules.specs.Words.{unless}
use Rattle.rules.specs.Closing.{Charge, Is, recharge_figure, recharge_refusal, recharge_by}
use Rattle.std.specs.Prelude.{None as absent, Some as wh, Ok as Closed}
use Rattle.rules.specs.declared.Closing.{Closing}
use Rattle.laws.specs.Answers.{Said, number_of, figure_said, figured_said, closing_said, answer_said}
use Rattle.laws.proofs.Answers.{number_said, was_given, given_is, figure_or, same_figured}
use Rattle.state.specs.declared.Run.{Run}
use Rattle.state.specs.State.{Left}
use Rattle.closing.specs.Answers.{whole, refusal_of, closed_figures}
use Rattle.opening.specs.Answers.{OpenLeft}
use Rattle.reading.specs.declared.Reading.{Reading}
use Rattle.reading.specs.Answers.{ReadSaid, AllSaid, read_ground}
use Rattle.reader.specs.Answers.{ending_of}
use Rattle.demands.specs.Calls.{ClosingCall, EndedCall}
use Rattle.demands.specs.Cases.{wrong_number, or_else, recharge_number, next_number}
use Rattle.demands.specs.Demand1.{HasItsNumber}
use Rattle.demands.proofs.Numbers.{unless_number}
use Rattle.demands.proofs.ReaderNumbers.{open_of_number, read_of_number, read_all_of_number}

-- "then absent, 14, 12"
recharge_has : (E : ℤ) (R : ℕ) (F : ℤ) (charge : Charge) → number_of (figure_said (recharge_by E R F charge)) ≡ recharge_number E R F charge
recharge_has E R F absent = refl
recharge_has E R F (wh A) = ap number_of (figure_or (recharge_refusal E R F A) (Is (recharge_figure E R F A))) ∙ number_said (recharge_refusal E R F A) _ refl

-- the figures that a call of `close` answers
pub closed_by_lem : (c : ClosingCall) (x : Closing) → c.answer ≡ Closed x → (let (r, (a, (b, (l, (m, _))))) = c.args in
    closed_figures r a b.now l.now m.now ≡ x)
closed_by_lem c x is =
    let (r, (a, (b, (l, (m, _))))) = c.args in
    same_figured _ x (given_is (was_given (refusal_of r a b.now l.now m.now) _ (figured_said x) (sym c.kept ∙ ap closing_said is)).1)

-- 15
ends : (c : EndedCall) → (let (started, (left, _)) = c.args in
    number_of (answer_said c.answer) ≡ unless 15 started (unless 15 (eqb left 0) 0))
unfolding ending_of
ends c = ap number_of c.kept ∙ simp (unless_number (number_of {A = Unit {0}}))

pub has_its_number : HasItsNumber
has_its_number = record {
  start_number_lem = λ c. ap (λ (y : Left (Said Run)). number_of y.answer) c.kept ∙ number_said _ _ refl;
  sample_number = λ c. ap (λ (y : Left (Said Run)). number_of y.answer) c.kept ∙ number_said _ _ refl;
  block_number = λ c. ap (λ (y : Left (Said Run)). number_of y.answer) c.kept ∙ number_said _ _ refl;
  shown_number = λ c. ap number_of c.kept ∙ number_said _ _ refl;
  totals_number = λ c. ap number_of c.kept ∙ number_said _ _ refl;
  closing_number = λ c. ap number_of c.kept ∙ number_said _ _ refl;
  recharge_number_lem = λ c x is.
      let (r, (a, (b, (l, (m, _))))) = c.args in
      let E = whole r a b.now l.now m.now in
      let same = closed_by_lem c x is in
      ap (λ (y : Closing). number_of (figure_said y.recharge)) (sym same)
      ∙ recharge_has E (closed_figures r a b.now l.now m.now).range a.after a.charge
      ∙ ap (λ (y : Closing). recharge_number E y.range a.after a.charge) same;
  figures_of_number = λ c. ap number_of c.kept ∙ number_said _ _ refl;
  front_of_number = λ c. ap number_of c.kept;
  content_of_number = λ c. ap wrong_number c.kept;
  open_number = λ c.
      let (o, (i, (room, (l, (m, _))))) = c.args in
      ap (λ (x : OpenLeft). number_of x.answer.says) c.kept ∙ open_of_number o room.now l.now m.now i.now;
  read_number = λ c.
      let (r, (i, (b, (l, (m, _))))) = c.args in
      ap (λ (y : Left (ReadSaid Reading)). number_of y.answer.says) c.kept ∙ read_of_number r b.now l.now m.now i.now;
  read_all_number = λ c.
      let (r, (i, (b, (l, (m, _))))) = c.args in
      ap (λ (y : Left (AllSaid Reading)). number_of y.answer.last) c.kept ∙ read_all_of_number r b.now l.now m.now i.now
      ∙ ap (λ (y : Left (AllSaid Reading)). or_else (read_ground r b.now l.now m.now) (next_number y.answer.state b.now y.memory.ledger y.memory.map (drop y.answer.used i.now))) (sym c.kept);
  ended_number = ends;
}
