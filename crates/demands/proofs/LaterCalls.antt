-- The later calls of a started run that only look at its memory: what the contract of each says of what it is lent.
-- Assumes nothing.
use mathlib.Core.List.{List}
use mathlib.Core.Path.{◌≡◌, ◌∙◌}
use Prim.Native.Nat.{ℕ}
use lib.IntN.{ℤ}
use Rattle.state.specs.declared.Run.{Run}
use Rattle.state.specs.State.{run_ground}
use Rattle.laws.specs.Answers.{gives, or_refused, closing_said, answer_said}
use Rattle.judge.specs.Answers.{counts_of, sums_of}
use Rattle.closing.specs.Answers.{closing_answer}
use Rattle.figures.specs.Figured.{found_of}
use Rattle.demands.specs.Calls.{ShownCall, TotalsCall, ClosingCall, FiguresCall}
use Rattle.demands.specs.Runs.{ShownOn, TotalsOn, ClosingOn, FiguresOn, closing_amounts, figures_reading}

module _ {r : Run} {b : List ℕ} {l : List ℤ} {m : List ℕ} where
  pub shown_kept : (c : ShownCall) → ShownOn r b l m c → answer_said c.answer ≡ or_refused (run_ground r b l m 0) (gives (counts_of r b l m))
  shown_kept c on =
      c.kept ∙ (λ i. or_refused (run_ground (on.run_is i) (on.cycle_is i) (on.ledger_is i) (on.map_is i) 0) (gives (counts_of (on.run_is i) (on.cycle_is i) (on.ledger_is i) (on.map_is i))))

  pub totals_kept : (c : TotalsCall) → TotalsOn r b l m c → answer_said c.answer ≡ or_refused (run_ground r b l m 0) (gives (sums_of r l))
  totals_kept c on =
      c.kept ∙ (λ i. or_refused (run_ground (on.run_is i) (on.cycle_is i) (on.ledger_is i) (on.map_is i) 0) (gives (sums_of (on.run_is i) (on.ledger_is i))))

  pub closing_kept : (c : ClosingCall) → ClosingOn r b l m c → closing_said c.answer ≡ closing_answer r (closing_amounts c) b l m
  closing_kept c on = c.kept ∙ (λ i. closing_answer (on.run_is i) (closing_amounts c) (on.cycle_is i) (on.ledger_is i) (on.map_is i))

  pub figures_kept : (c : FiguresCall) → FiguresOn r b l m c → answer_said c.answer ≡ found_of (figures_reading c r) b l m
  figures_kept c on = c.kept ∙ (λ i. found_of (figures_reading c (on.run_is i)) (on.cycle_is i) (on.ledger_is i) (on.map_is i))
