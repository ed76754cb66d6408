-- A text that is printed at the front of the lent lines, and the text of a desk where the input ends.
-- Assumes nothing.
use mathlib.Core.List.{List}
use mathlib.Core.Path.{◌≡◌, refl, sym, ap, ap₂, subst, ◌∙◌}
use Prim.Native.Nat.{ℕ, ◌+◌, ◌≤◌}
use borrow.Author.Tests.{le-leb}
use lib.Dec.{leb}
use lib.ListN.{length, take, drop}
use lib.Seq.{take_at}
use Rattle.rules.specs.Words.{unless}
use Rattle.numbers.proofs.Tests.{pass, settled_taken, settled_refused}
use Rattle.std.specs.Prelude.{Result, Err}
use Rattle.rules.specs.Numbered.{number}
use Rattle.rules.specs.declared.Refusal.{Refusal}
use Rattle.laws.specs.Answers.{answer_said, Said}
use Rattle.reader.specs.Answers.{ending_of}
use Rattle.sheet.specs.Overlaid.{overlaid, most_sheet}
use Rattle.desk.specs.Feeding.{Laid, desk_ground}
use Rattle.prints.specs.Printed.{Prints, refuse_text, text_by, close_text}

-- by what the text is known to be
pub as_text : (out : List ℕ) {text text' after : List ℕ} {r : ℕ} → text ≡ text' → Prints text out r after → Prints text' out r after
as_text out {after = after} {r = r} e h = subst (λ (x : List ℕ). Prints x out r after) e h

-- the bytes printed are the text, where the lines are at least as long as is asked for: 512 bytes of a sheet
pub text_at : (n : ℕ) (text out : List ℕ) {r : ℕ} {after : List ℕ} → r ≡ unless 0 (leb n (length out)) (length text) → after ≡ unless out (leb n (length out)) (overlaid out 0 text)
    → n ≤ length out → take r after ≡ text
unfolding overlaid
text_at n text out p q h =
    let t = le-leb n (length out) h in
    ap₂ take (p ∙ sym (pass 0 t refl)) (q ∙ sym (pass out t refl)) ∙ take_at text (drop (0 + length text) out) (length text) refl

pub text_is : (text out : List ℕ) {r : ℕ} {after : List ℕ} → r ≡ unless 0 (leb most_sheet (length out)) (length text)
    → after ≡ unless out (leb most_sheet (length out)) (overlaid out 0 text) → most_sheet ≤ length out → take r after ≡ text
text_is = text_at most_sheet

module _ (x : Laid) (left : ℕ) where
  -- 1 and 2 before all else
  pub desk_refused : (n : ℕ) → n ≡ desk_ground x → (n ≡ 0 → ⊥) → refuse_text x n ≡ close_text x left
  unfolding close_text
  desk_refused n e h = ap (refuse_text x) e ∙ sym (settled_refused _ (λ z. h (e ∙ z)))

  -- by whether the input may end, and by the answer s to that
  module _ (g : desk_ground x ≡ 0) where
    pub by_end : text_by (ending_of x.desk.started left) x ≡ close_text x left
    unfolding close_text
    by_end = sym (settled_taken _ g)

    pub by_ending : {s y : Result (Unit {0}) Refusal} → answer_said s ≡ ending_of x.desk.started left → s ≡ y → text_by (answer_said y) x ≡ close_text x left
    by_ending e p = ap (λ (z : Said (Unit {0})). text_by z x) (ap answer_said (sym p) ∙ e) ∙ by_end

    -- refused, with the number n
    pub by_refusal : {s : Result (Unit {0}) Refusal} (k : Refusal) {n : ℕ} → n ≡ number k → answer_said s ≡ ending_of x.desk.started left → s ≡ Err k
        → refuse_text x n ≡ close_text x left
    by_refusal k q e p = ap (refuse_text x) q ∙ by_ending e p
