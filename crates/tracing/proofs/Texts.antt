-- A trace that is printed at the front of the lent lines, and the text of a desk where the input ends.
-- Assumes nothing.
use mathlib.Core.Bool.{Bool}
use mathlib.Core.List.{List}
use mathlib.Core.Path.{◌≡◌, sym, ap, subst, ◌∙◌}
use Prim.Native.Nat.{ℕ, ◌≤◌, ◌<◌}
use native.Mathlib.Nat.{zero-add}
use native.Mathlib.Omega.{arith}
use borrow.Author.Tests.{le-leb}
use lib.ListN.{length}
use Rattle.rules.specs.Words.{unless}
use Rattle.numbers.proofs.Tests.{pass, stop, tests, settled_taken, settled_refused}
use Rattle.std.specs.Prelude.{Result, Err}
use Rattle.rules.specs.Numbered.{number}
use Rattle.rules.specs.declared.Refusal.{Refusal}
use Rattle.laws.specs.Answers.{answer_said, Said}
use Rattle.reader.specs.Answers.{ending_of}
use Rattle.sheet.specs.Overlaid.{overlaid, most_sheet, Wrote}
use Rattle.desk.specs.Feeding.{Laid, desk_ground}
use Rattle.prints.specs.Printed.{Prints, refuse_text}
use Rattle.tracing.specs.Traced.{most_trace, Traces, trace_ending, trace_close_text}

-- by what the text is known to be
pub as_trace : (out : List ℕ) {text text' after : List ℕ} {r : ℕ} → text ≡ text' → Traces text out r after → Traces text' out r after
as_trace out {after = after} {r = r} e h = subst (λ (x : List ℕ). Traces x out r after) e h

-- all of the text where out is long enough, else nothing
module _ (out text : List ℕ) where
  pub too_short : length out < most_trace → Traces text out 0 out
  too_short h = (stop (length text) (omega tests), stop (overlaid out 0 text) (omega tests))

  module _ (h : most_trace ≤ length out) where
    pub kept_whole : {m r : ℕ} {after : List ℕ} → Wrote m out 0 text after r → Traces text out r after
    kept_whole w = (pass 0 (omega tests) (w.place ∙ zero-add (length text)), pass out (omega tests) w.bytes)

    -- what is printed of a refused field is there too
    pub kept_refusal : {r : ℕ} {after : List ℕ} → Prints text out r after → Traces text out r after
    kept_refusal p =
        let long = le-leb most_sheet (length out) (omega arith) ∙ sym (le-leb most_trace (length out) h) in
        (p.0 ∙ ap (λ (b : Bool). unless 0 b (length text)) long, p.1 ∙ ap (λ (b : Bool). unless out b (overlaid out 0 text)) long)

module _ (x : Laid) (blocks left : ℕ) where
  -- 1 and 2 before all else
  pub desk_refused : (n : ℕ) → n ≡ desk_ground x → (n ≡ 0 → ⊥) → refuse_text x n ≡ trace_close_text x blocks left
  unfolding trace_close_text
  desk_refused n e h = ap (refuse_text x) e ∙ sym (settled_refused _ (λ z. h (e ∙ z)))

  -- by whether the input may end, and by the answer s to that
  module _ (g : desk_ground x ≡ 0) where
    pub by_end : trace_ending (ending_of x.desk.started left) x blocks ≡ trace_close_text x blocks left
    unfolding trace_close_text
    by_end = sym (settled_taken _ g)

    pub by_ending : {s y : Result (Unit {0}) Refusal} → answer_said s ≡ ending_of x.desk.started left → s ≡ y → trace_ending (answer_said y) x blocks ≡ trace_close_text x blocks left
    by_ending e p = ap (λ (z : Said (Unit {0})). trace_ending z x blocks) (ap answer_said (sym p) ∙ e) ∙ by_end

    -- refused, with the number n
    pub by_refusal : {s : Result (Unit {0}) Refusal} (k : Refusal) {n : ℕ} → n ≡ number k → answer_said s ≡ ending_of x.desk.started left → s ≡ Err k
        → refuse_text x n ≡ trace_close_text x blocks left
    by_refusal k q e p = ap (refuse_text x) q ∙ by_ending e p
