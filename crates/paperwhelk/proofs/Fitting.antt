-- A sheet in lines, and handed over where it fits.
-- Assumes nothing.
use mathlib.Core.List.{List, ◌++◌}
use mathlib.Core.Path.{◌≡◌, refl, sym, ap, ap₂, ◌∙◌}
use Prim.Native.Nat.{ℕ, ◌+◌, ◌≤◌, ◌<◌}
use native.Mathlib.Nat.{zero-add}
use native.Mathlib.Omega.{arith}
use borrow.Author.Tests.{le-leb}
use lib.IntN.{ℤ, pos}
use lib.ListN.{length, take, drop, length-take}
use lib.Seq.{take-length, take_at}
use Rattle.numbers.proofs.Tests.{pass, stop, tests}
use Rattle.rules.specs.Question.{minus}
use Rattle.sheet.specs.Overlaid.{overlaid, most_sheet}
use Rattle.prints.specs.Printed.{Prints}
use Rattle.prints.proofs.Texts.{text_is}
use Rattle.paperwhelk.specs.Exported.{sheet_answer, sheet_left}

-- what is printed to 512 bytes stands there whole: it is no longer than they are
pub in_lines : (text out : List ℕ) {n : ℕ} {after : List ℕ} → Prints text out n after → length out ≡ most_sheet → length after ≡ most_sheet
    → (take n after ≡ text) × (n ≤ most_sheet) × (length text ≤ most_sheet)
in_lines text out {n} {after} p h g =
    let enough : most_sheet ≤ length out = omega arith in
    let is = text_is text out p.0 p.1 enough in
    let size : n ≡ length text = p.0 ∙ sym (pass 0 (le-leb most_sheet (length out) enough) refl) in
    let within : n ≤ most_sheet = omega (arith, ap length is, length-take n after) in
    (is, within, omega arith)

module _ (sheet out : List ℕ) where
  pub does_not_fit : length out < length sheet → (minus 16 ≡ sheet_answer sheet out) × (out ≡ sheet_left sheet out)
  does_not_fit h = (stop (pos (length sheet)) (omega tests), stop (overlaid out 0 sheet) (omega tests))

  -- all of it is copied
  pub fits : {n : ℕ} {after : List ℕ} → length sheet ≤ length out → n ≡ length sheet → after ≡ take (length sheet) sheet ++ drop (length sheet) out
      → (pos n ≡ sheet_answer sheet out) × (after ≡ sheet_left sheet out)
  unfolding overlaid
  fits h p q =
      (pass (minus 16) (omega tests) (ap pos p), pass out (omega tests) (q ∙ ap₂ (λ (x : List ℕ) (k : ℕ). x ++ drop k out) (take-length sheet) (sym (zero-add (length sheet)))))

  -- where it fits, the answer and what is left say so
  pub at_front : {a : ℤ} {after : List ℕ} → a ≡ sheet_answer sheet out → after ≡ sheet_left sheet out → length sheet ≤ length out
      → (a ≡ pos (length sheet)) × (take (length sheet) after ≡ sheet)
  unfolding overlaid
  at_front p q h =
      let t = le-leb (length sheet) (length out) h in
      (p ∙ sym (pass (minus 16) t refl), ap (take (length sheet)) (q ∙ sym (pass out t refl)) ∙ take_at sheet (drop (0 + length sheet) out) (length sheet) refl)
