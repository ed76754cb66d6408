-- A record that is lent whole: what is printed of the desk that it brought is what the rules say of its bytes.
-- Assumes nothing.
use mathlib.Core.List.{List, [], append-nil}
use mathlib.Core.Path.{◌≡◌, sym, ap, subst⁻¹, ◌∙◌}
use Prim.Native.Nat.{ℕ, ◌-◌, ◌≤◌}
use lib.ListN.{length, length-drop}
use Rattle.rules.specs.Record.{sheet_of}
use Rattle.rules.specs.Text.{printed}
use Rattle.laws.specs.Answers.{refuses}
use Rattle.desk.specs.Feeding.{wanted, Lent, Laid, Consumed, laid_of, empty_desk, feed_of}
use Rattle.desk.proofs.Arriving.{Arrived, arrived_none, arrived_more}
use Rattle.desk.proofs.LeftOver.{feed_used}
use Rattle.prints.specs.Printed.{refuse_text, close_text}
use Rattle.prints.proofs.Printing.{report_prints, refusal_prints}

-- on memory that is long enough the bytes i were fed, and y is what became of them
module _ (lent : Lent) (i : List ℕ) {y : Consumed} (fed : y ≡ feed_of (laid_of empty_desk lent.room₀ lent.l₀ lent.m₀) i) where
  abbrev first : Laid
  first = laid_of empty_desk lent.room₀ lent.l₀ lent.m₀

  none : Arrived lent.room₀ lent.l₀ lent.m₀ lent.long_room [] first []
  none = arrived_none lent.room₀ lent.l₀ lent.m₀ lent.long_room

  pub used_whole : y.used ≤ length i
  used_whole = subst⁻¹ (λ (z : Consumed). z.used ≤ length i) fed (feed_used first i)

  -- a field is refused
  pub refused_whole : (k : ℕ) → y.outcome ≡ refuses k → refuse_text y.laid k ≡ printed (sheet_of i)
  refused_whole k e =
      ap (λ (z : Consumed). refuse_text z.laid k) fed
      ∙ refusal_prints lent none i k (ap (λ (z : Consumed). z.outcome) (sym fed) ∙ e) []
      ∙ ap (λ (q : List ℕ). printed (sheet_of q)) (append-nil i)

  -- none is, and the input ends
  pub closed_whole : y.outcome ≡ wanted → close_text y.laid (length i - y.used) ≡ printed (sheet_of i)
  closed_whole e =
      ap (λ (z : Consumed). close_text z.laid (length i - z.used)) fed
      ∙ ap (close_text (feed_of first i).laid) (sym (length-drop (feed_of first i).used i))
      ∙ report_prints lent (arrived_more lent.room₀ lent.l₀ lent.m₀ lent.long_room none i (ap (λ (z : Consumed). z.outcome) (sym fed) ∙ e))
