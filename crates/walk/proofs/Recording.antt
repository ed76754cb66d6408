-- What is answered of a record that is listed: from its last turn, and where the system took no more.
-- Assumes nothing.
use mathlib.Core.Bool.{Bool, true, false, cond, false≢true}
use mathlib.Core.List.{List, ◌++◌}
use mathlib.Core.Path.{◌≡◌, refl, sym, ap, subst⁻¹, ◌∙◌}
use Prim.Native.Nat.{ℕ, ◌+◌, ◌≤◌, min}
use native.Mathlib.Omega.{arith}
use lib.IntN.{ℤ}
use lib.ListN.{length, take, drop, length-append}
use lib.Seq.{length-take-le, take_at}
use Rattle.sheet.specs.Overlaid.{overlaid}
use Rattle.listing.specs.Lines.{most_count}
use Rattle.desk.specs.Feeding.{Laid}
use Rattle.std.specs.Prelude.{Ok, Err}
use Rattle.edges.specs.declared.Fault.TheVariants.{Input, Output}
use Rattle.intake.specs.declared.Turned.TheVariants.{On}
use Rattle.intake.specs.Turns.{is_failed, round_of}
use Rattle.walk.specs.declared.Walk.{Walk}
use Rattle.walk.specs.declared.whole.Listed.{Listed}
use Rattle.walk.specs.Walks.{Shows, last_of, finished_by, finished_lines, Recorded}

-- a text laid at a place, with what stands before it
taken_laid : (out text : List ℕ) (at : ℕ) → at ≤ length out → take (at + length text) (overlaid out at text) ≡ take at out ++ text
unfolding overlaid
taken_laid out text at h =
    take_at (take at out ++ text) (drop (at + length text) out) (at + length text) (length-append (take at out) text ∙ ap (λ (k : ℕ). k + length text) (length-take-le at out h))

-- what is to go out, by whether reading failed
module _ (lines last : List ℕ) (n : ℕ) (h : n ≤ length lines) where
  size_by : n + length last ≡ length (take n lines ++ last)
  size_by = omega (arith, length-append (take n lines) last, length-take-le n lines h)

  lines_by : (b : Bool) (k : ℕ) → cond b (Err Input) (Ok (n + length last)) ≡ Ok k → take k (cond b lines (overlaid lines n last)) ≡ take n lines ++ last
  lines_by true k e = absurd (false≢true cc)
  lines_by false k e = let same : k ≡ n + length last = cc in ap (λ (j : ℕ). take j (overlaid lines n last)) same ∙ taken_laid lines last n h

module _ {x₀ : Laid} {most : ℕ} (w : Walk) {buffer room : List ℕ} {l : List ℤ} {m : List ℕ} (lines out : List ℕ)
    (s : Shows x₀ most (out ++ take w.printed lines) (round_of w.turn buffer room l m) w.spot) where
  abbrev last : List ℕ
  last = last_of w.turn w.spot buffer

  -- the last turn
  pub finished_records : {sent : ℕ} → sent ≡ min (length out) most_count → w.printed ≤ length lines → {r : Listed} {after : List ℕ} → r ≡ finished_by w sent last
      → after ≡ finished_lines w last lines → Recorded x₀ most r buffer room l m after
  finished_records e h {after = after} p q =
      subst⁻¹ (λ (r : Listed). Recorded x₀ most r buffer room l m after) p
      (record {
        turn = w.turn;
        spot = w.spot;
        out = out;
        rest = take w.printed lines;
        shows = s;
        sent = e;
        left = refl;
        lost = false;
        printed = ap (λ (k : ℕ). cond (is_failed w.turn.turned) (Err Input) (Ok k)) (size_by lines last w.printed h);
        lines = λ n d. ap (take n) q ∙ lines_by lines last w.printed h (is_failed w.turn.turned) n d;
      })

  -- the system took no more of the lines of a turn that goes on
  pub lost_records : {sent : ℕ} → sent ≡ min (length out) most_count → w.turn.turned ≡ On
      → Recorded x₀ most (record { sent = sent; printed = Err Output; left = w.turn.left }) buffer room l m lines
  lost_records e on = record {
    turn = w.turn;
    spot = w.spot;
    out = out;
    rest = take w.printed lines;
    shows = s;
    sent = e;
    left = refl;
    lost = true;
    printed = ap (λ (b : Bool). cond b (Err Input) (Err Output)) (sym (ap is_failed on));
    lines = λ n d. absurd (false≢true cc);
  }
