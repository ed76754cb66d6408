-- Demand 2 of the report, by calls that keep the contracts: whatever way a record's bytes arrive, what is printed is what the rules give for them.
-- Assumes nothing.
use Rattle.std.specs.Prelude.{Err}
use mathlib.Core.List.{List, ◌++◌}
use mathlib.Core.Path.{◌≡◌, refl, sym, ap, ap₂, subst, ◌∙◌}
use Prim.Native.Nat.{ℕ, suc}
use lib.ListN.{length, drop}
use Rattle.rules.specs.declared.Refusal.{Refusal}
use Rattle.rules.specs.Numbered.{number}
use Rattle.rules.specs.Record.{refused_at, sheet_of}
use Rattle.laws.specs.Answers.{Said, refuses, number_of, answer_said}
use Rattle.desk.specs.Feeding.{Lent, Laid, Consumed, laid_of, stops, feed_of, desk_ground}
use Rattle.desk.proofs.Arriving.{Arrived, arrived_none, arrived_more}
use Rattle.rules.specs.Text.{refusal_text, printed}
use Rattle.desk.proofs.Grounds.{feed_refuses}
use Rattle.prints.specs.Printed.{next_field, refuse_text, close_text}
use Rattle.prints.proofs.Texts.{text_is, desk_refused}
use Rattle.prints.proofs.Printing as printing
use Rattle.demands.specs.Calls.{FeedCall, CloseCall}
use Rattle.demands.specs.Demand2.{Prints, BeforeAll}
use Rattle.demands.specs.Range.{PrintsNear}
use Rattle.demands.specs.Runs.{FeedOn, laid_by, FedIn, empty, more, CloseOn, closed_to}
use Rattle.demands.proofs.PrintsNear.{prints_near}

-- as the contract has them
fed_by : {x : Laid} {i : List ℕ} (c : FeedCall) → FeedOn x i c → record { laid = laid_by c; used = c.answer.used; outcome = answer_said c.answer.outcome } ≡ feed_of x i
fed_by c on = c.kept ∙ (λ j. feed_of (laid_of (on.desk j) (on.room j) (on.ledger j) (on.map j)) (on.input j))

module _ (lent : Lent) where
  pub fed_arrived : {w rest : List ℕ} {x : Laid} → FedIn lent w x rest → Arrived lent.room₀ lent.l₀ lent.m₀ lent.long_room w x rest
  fed_arrived empty = arrived_none lent.room₀ lent.l₀ lent.m₀ lent.long_room
  fed_arrived (more {w} {rest} {x} h new c on e) =
      let f = fed_by c on in
      subst (λ (y : Consumed). Arrived lent.room₀ lent.l₀ lent.m₀ lent.long_room (w ++ new) y.laid (drop y.used (rest ++ new))) (sym f)
      (arrived_more lent.room₀ lent.l₀ lent.m₀ lent.long_room (fed_arrived h) new (sym (ap (λ (y : Consumed). y.outcome) f) ∙ ap answer_said e))

-- ---- what is printed

pub before_all : (x : Laid) → (desk_ground x ≡ 0 → ⊥) → BeforeAll x
before_all x some = record {
  feed_before_all = λ i c on. fed_by c on ∙ feed_refuses x i some;
  close_before_all = λ rest c on.
      text_is _ _ c.kept.0 c.kept.1 on.long
      ∙ (λ j. close_text (laid_of (on.desk j) (on.room j) (on.ledger j) (on.map j)) (on.left j))
      ∙ sym (desk_refused x (length rest) (desk_ground x) refl some);
}

pub prints : (lent : Lent) {w rest : List ℕ} {x : Laid} → FedIn lent w x rest → Prints w rest x
prints lent {w} {rest} {x} h = record {
  report_prints = reported;
  report_near = λ c on. subst (PrintsNear w) (sym (reported c on)) (prints_near w);
  feed_number = λ new f fed k stops q.
      printing.refused_number lent (fed_arrived lent h) new (number k) (outcome_is new f fed k stops) q
      ∙ ap₂ (λ (y : Consumed) (o : Said (Unit {0})). refused_at (number_of o) (suc y.laid.desk.fields)) (sym (fed_by f fed)) (sym (ap answer_said stops));
  refusal_prints = λ new f fed k stops c on q.
      text_is _ _ c.kept.0 c.kept.1 on.long
      ∙ (λ j. refusal_text (on.number j) (next_field (on.desk j).fields))
      ∙ ap (λ (y : Consumed). refuse_text y.laid (number k)) (fed_by f fed)
      ∙ printing.refusal_prints lent (fed_arrived lent h) new (number k) (outcome_is new f fed k stops) q;
}
  where
    reported : (c : CloseCall) → CloseOn x rest c → closed_to c ≡ printed (sheet_of w)
    reported c on =
        text_is _ _ c.kept.0 c.kept.1 on.long
        ∙ (λ j. close_text (laid_of (on.desk j) (on.room j) (on.ledger j) (on.map j)) (on.left j))
        ∙ printing.report_prints lent (fed_arrived lent h)

    outcome_is : (new : List ℕ) (f : FeedCall) → FeedOn x (rest ++ new) f → (k : Refusal) → f.answer.outcome ≡ Err k → (feed_of x (rest ++ new)).outcome ≡ refuses (number k)
    outcome_is new f fed k stops = sym (ap (λ (y : Consumed). y.outcome) (fed_by f fed)) ∙ ap answer_said stops
