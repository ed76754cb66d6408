-- `paperwhelk::sheets::paperwhelk_sheet` meets its contract: the sheet stands whole in the lines, and is handed over.
use mathlib.Core.List.{List}
use mathlib.Core.Path.{◌≡◌, refl, ap, ◌∙◌}
use Prim.Native.Nat.{ℕ, ◌≤◌}
use native.Mathlib.Omega.{arith}
use borrow.Author.Rules.{rules}
use lib.ListN.{length, take}
use mir.Syntax.{w32}
use Rattle.numbers.proofs.Signed.{read}
use Rattle.rules.specs.Record.{sheet_of}
use Rattle.rules.specs.Text.{printed}
use Rattle.sheet.specs.Overlaid.{most_sheet}
use Rattle.paperwhelk.specs.Exported.{sheet_answer, sheet_left}
use Rattle.paperwhelk.proofs.Fitting.{in_lines}
use Rattle.paperwhelk.proofs.sheets.paperwhelk_sheet.Goals as goal
use Rattle.paperwhelk.proofs.sheets.paperwhelk_sheet.Goals.{After-print_whole-n}

-- what the lines hold, which have kept their length
whole : (c : After-print_whole-n) → (let text = printed (sheet_of c.args.«record».now) in
    (take c.print_whole-n.result c.print_whole-n.new.lines ≡ text) × (c.print_whole-n.result ≤ most_sheet) × (length text ≤ most_sheet))
whole c = in_lines _ _ c.print_whole-n.ensures refl c.print_whole-n.auto.lines

pub hand_over-requires : goal.hand_over-requires
hand_over-requires c =
    let p = whole (goal.at.hand_over-requires c).After-print_whole-n in
    (omega (arith, p.1, c.print_whole-n.auto.lines), p.1)

pub returns : goal.returns
returns c =
    let p = whole (goal.at.returns c).After-print_whole-n in
    let out = c.args.out.now in
    record {
      value = read {w = w32} (search rules) ∙ c.hand_over.ensures.value ∙ ap (λ (t : List ℕ). sheet_answer t out) p.0;
      out_after = c.hand_over.ensures.out_after ∙ ap (λ (t : List ℕ). sheet_left t out) p.0;
      record_len_bound = p.2;
    }
