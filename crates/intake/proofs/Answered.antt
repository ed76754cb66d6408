-- What is answered of a record: of its last turn, and where nothing was read.
-- Assumes nothing.
use mathlib.Core.Bool.{Bool, true, false, cond}
use mathlib.Core.List.{List, [], ◌∷◌}
use mathlib.Core.Logic.{⊎_elim}
use mathlib.Core.Path.{◌≡◌, refl, sym, ap, subst⁻¹, ◌∙◌}
use Prim.Native.Nat.{ℕ}
use native.Mathlib.Omega.{arith}
use types.Run.{OneOf}
use denote.Enum.Declared.{tag_of}
use lib.Dec.{leb}
use lib.IntN.{ℤ}
use lib.ListN.{length}
use Rattle.std.specs.Prelude.{Ok, Err}
use Rattle.rules.specs.Words.{unless}
use Rattle.edges.specs.declared.Fault.TheVariants.{Input}
use Rattle.sheet.specs.Overlaid.{overlaid, most_sheet}
use Rattle.desk.specs.declared.Desk.{Desk}
use Rattle.desk.specs.Feeding.{wanted, Laid, laid_of, empty_desk}
use Rattle.prints.specs.Printed.{PrintsIn, Prints, refuse_text}
use Rattle.prints.proofs.Texts.{as_text}
use Rattle.intake.specs.declared.Intake.{Intake}
use Rattle.intake.specs.declared.Turn.{Turn}
use Rattle.intake.specs.declared.Turned.{Turned}
use Rattle.intake.specs.declared.Turned.TheVariants.{On, Ended, Failed, Refused}
use Rattle.intake.specs.Turns.{is_failed, turned_said, round_of, Stood, text_of, answered, lines_after, intake_of, lines_of, Recorded, Unread}
use Rattle.intake.specs.contracts.Turned.{the_type as turned}

module _ (x₀ : Laid) (most : ℕ) (out : List ℕ) (t : Turn) (b room : List ℕ) (l : List ℤ) (m : List ℕ) (s : Stood x₀ most (round_of t b room l m)) where
  abbrev x : Laid
  x = laid_of t.desk room l m

  -- what is printed with the bytes held is what is printed with the rest
  same_text : text_of (turned_said t.turned) x t.held ≡ text_of (turned_said t.turned) x (length s.rest)
  same_text = ap (text_of (turned_said t.turned) x) (sym s.held.1)

  -- what is answered of it
  pub recorded : {r : Intake} {after : List ℕ} → r ≡ intake_of t x out → after ≡ lines_of t x out → Recorded x₀ most out r room l m after
  recorded {after = after} p q =
      subst⁻¹ (λ (r : Intake). Recorded x₀ most out r room l m after) p
      (record {
        desk = t.desk;
        bytes = s.bytes;
        rest = s.rest;
        outcome = turned_said t.turned;
        came = s.came;
        all = s.all;
        failed = is_failed t.turned;
        printed = ap (λ (text : List ℕ). cond (is_failed t.turned) (Err Input) (Ok (unless 0 (leb most_sheet (length out)) (length text)))) same_text;
        lines = q ∙ ap (λ (text : List ℕ). cond (is_failed t.turned) out (unless out (leb most_sheet (length out)) (overlaid out 0 text))) same_text;
      })

-- what is answered of a turn, where reading failed and where it did not
module _ (n : ℕ) (t : Turn) (text out : List ℕ) where
  abbrev Answers : Intake → List ℕ → Type 0
  Answers r after = (r ≡ answered n t text out) × (after ≡ lines_after n t text out)

  by_failed : {b : Bool} → is_failed t.turned ≡ b → Answers
      (record { printed = cond b (Err Input) (Ok (unless 0 (leb n (length out)) (length text))); left = t.left })
      (cond b out (unless out (leb n (length out)) (overlaid out 0 text)))
  by_failed e = (
    (λ i. record { printed = cond (sym e i) (Err Input) (Ok (unless 0 (leb n (length out)) (length text))); left = t.left }),
    λ i. cond (sym e i) out (unless out (leb n (length out)) (overlaid out 0 text)),
  )

  pub not_printed : is_failed t.turned ≡ true → Answers (record { printed = Err Input; left = t.left }) out
  not_printed e = by_failed e

  pub printed_of : is_failed t.turned ≡ false → {r : ℕ} {after : List ℕ} → PrintsIn n text out r after → Answers (record { printed = Ok r; left = t.left }) after
  printed_of e p = let y = by_failed e in ((λ i. record { printed = Ok (p.0 i); left = t.left }) ∙ y.0, p.1 ∙ y.1)

-- no field was refused
pub not_refused : (z : Turned) → OneOf (0 ∷ 1 ∷ 2 ∷ []) (tag_of turned z) → turned_said z ≡ wanted
not_refused On h = refl
not_refused Ended h = refl
not_refused Failed h = refl
not_refused (Refused k) h = absurd (⊎_elim (λ e. omega arith) (⊎_elim (λ e. omega arith) (λ e. omega arith)) h)

-- nothing was read
pub not_read : (most : ℕ) (out : List ℕ) (desk : Desk) (room : List ℕ) (l : List ℤ) (m : List ℕ) → desk ≡ empty_desk → {n : ℕ} {after : List ℕ}
    → Prints (refuse_text (laid_of desk room l m) 1) out n after
    → Unread (laid_of empty_desk room l m) most out (record { printed = Ok n; left = most }) room l m after
not_read most out desk room l m e p =
    let q = as_text out (ap (λ (d : Desk). refuse_text (laid_of d room l m) 1) e) p in
    record { memory = refl; left = refl; printed = ap (λ (k : ℕ). Ok k) q.0; lines = q.1 }
