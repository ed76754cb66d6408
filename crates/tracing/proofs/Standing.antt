-- Where the stopping sample stands, as it is written, and as the rules have it.
-- Assumes nothing.
use mathlib.Core.Bool.{Bool, true, false, cond}
use mathlib.Core.List.{List, ◌++◌}
use mathlib.Core.Path.{◌≡◌, refl, sym, ap, ◌∙◌}
use Prim.Native.Nat.{ℕ, suc, ◌-◌, ◌*◌}
use native.Mathlib.Omega.{arith}
use lib.Dec.{eqb}
use Rattle.rules.specs.Words.{spell}
use Rattle.rules.specs.declared.End.{End}
use Rattle.rules.specs.declared.End.TheVariants.{None as none, Stop as stop, Limit as limit}
use Rattle.rules.specs.Cycle.{seconds, positions, valid}
use Rattle.rules.specs.Course.{row_e}
use Rattle.rules.specs.Plan.{layout_of}
use Rattle.rules.specs.Text.{digits, spaced, line}
use Rattle.rules.specs.Trace.{stop_text, stop_line}
use Rattle.laws.proofs.Sound.{sound}
use Rattle.state.specs.declared.Run.{Run}
use Rattle.state.specs.State.{most_by, is_run}
use Rattle.state.proofs.Checked.{limits, progress_most}
use Rattle.judge.proofs.Beside.{planned_most}
use Rattle.sources.specs.Sources.{stop_at, stop_by, stop_on, stood_at}
use Rattle.sources.proofs.Places.{stop_stands}
use Rattle.tracing.specs.Traced.{stop_shown, stop_for}

-- in E, and in a cycle
abbrev in_e : List ℕ
in_e = spaced (spell "stop") ++ line (spell "stretch") (spell "E")

abbrev in_cycle : ℕ → ℕ → List ℕ
in_cycle c p = spaced (spell "stop") ++ spaced (spell "cycle") ++ spaced (digits c) ++ line (spell "position") (digits p)

shown : (e : Bool) (c p : ℕ) → stop_shown (stop_at e c p) ≡ cond e in_e (in_cycle (suc c) p)
shown true c p = refl
shown false c p = refl

-- ---- as the rules have it

module _ (r : Run) (b : List ℕ) (is_run_lem : is_run r ≡ true) (v : valid b ≡ true) (same : seconds b ≡ r.track.seconds) where
  stood : stop_on r ≡ stood_at (layout_of b r.track.method) r.progress.counted
  stood =
      let y = r.track.method in
      let places : 20 * r.track.seconds ≡ positions b = ap (λ (k : ℕ). 20 * k) (sym same) in
      let most = (progress_most _ _ _ _ (limits r is_run_lem).progress).1 in
      ap (λ (n : ℕ). stop_by y n r.progress.counted) places
      ∙ stop_stands b (sound b v) y r.progress.counted (omega (arith, most, ap (most_by y) places, planned_most b y))

  pub stop_is : (e : End) → stop_for e (stop_on r) ≡ stop_line e (layout_of b r.track.method) r.progress.counted
  unfolding stop_text
  stop_is none = refl
  stop_is stop =
      let l = layout_of b r.track.method in
      let n = r.progress.counted in
      ap stop_shown stood ∙ shown (eqb (l.row n) row_e) (l.row n) (n - l.begin (l.row n))
  stop_is limit = refl
