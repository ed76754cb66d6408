-- Of demand 2: "Blocks of another vehicle change nothing but the passed-over count (and the field number of a later refusal)."
-- Assumes nothing.
use Rattle.std.specs.Prelude.{List, ◌++◌, ◌≡◌, ℕ, suc, ◌+◌, Ok}
use Rattle.rules.specs.Record.{Told, more_passed, told, refused_at, sheet_of}
use Rattle.rules.specs.Figures.{figures_told}
use Rattle.rules.specs.Text.{refusal_text, printed}
use Rattle.laws.specs.Claims.{one_more}
use Rattle.reading.specs.declared.Step.TheVariants as step
use Rattle.demands.specs.Calls.{left, ReadCall}
use Rattle.demands.specs.Compared.{OneMorePassed, with_passed, one_passed}

-- between the fields p and the bytes q stands a whole field 5, f, of another valid number, where a block may stand and the count has room for it
pub record ForeignChangesNothing (p f q : List ℕ) : Type 0 where
  -- the record tells what it tells without f, with one block more passed over, or has the same refusal one field later
  pub foreign_blocks_change_nothing : sheet_of (p ++ (f ++ q)) ≡ one_more (sheet_of (p ++ q))
  -- every figure is the same but `passed`
  pub foreign_figures : (y : Told) → sheet_of (p ++ q) ≡ told y
      → (sheet_of (p ++ (f ++ q)) ≡ told (more_passed y)) × (figures_told (more_passed y) ≡ with_passed (figures_told y) (y.passed + 1))
  -- and every line
  pub foreign_prints : (y : Told) → sheet_of (p ++ q) ≡ told y → OneMorePassed (printed (sheet_of (p ++ q))) (printed (sheet_of (p ++ (f ++ q))))
  -- of a record that is refused, only the field's number changes
  pub foreign_refusal_prints : (k j : ℕ) → sheet_of (p ++ q) ≡ refused_at k j → printed (sheet_of (p ++ (f ++ q))) ≡ refusal_text k (suc j)

-- of a single call of `read`: "only the passed-over count rises"
abbrev pub ReadPassesOver : Type 0
ReadPassesOver = (c : ReadCall) (n : ℕ) → c.answer.step ≡ Ok (step.Passed n) → (c.answer.reading ≡ one_passed c.args.0) × (left c ≡ c.args)
