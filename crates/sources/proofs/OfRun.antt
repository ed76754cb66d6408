-- Every number of a whole run's trace is that of the rules over its samples.
-- Assumes nothing.
use mathlib.Core.Bool.{true}
use mathlib.Core.List.{List}
use mathlib.Core.Path.{◌≡◌, refl, sym, ap, ◌∙◌}
use Prim.Native.Nat.{ℕ, ◌+◌, ◌*◌, ◌≤◌, ◌<◌}
use native.Mathlib.Omega.{arith}
use borrow.Author.Tests.{ne_eqb}
use lib.Dec.{leb, ltb}
use lib.IntN.{ℤ, pos}
use lib.ListN.{length}
use Rattle.rules.specs.declared.Moment.{Moment}
use Rattle.rules.specs.Bench.{most_cycles, most_phases, most_offered}
use Rattle.rules.specs.Cycle.{positions}
use Rattle.rules.specs.Course.{Layout, row_m, row_e, outside, stops_at, counted, judged}
use Rattle.rules.specs.Parts.{row_part, phase_part}
use Rattle.rules.specs.Regular.{moment_in}
use Rattle.rules.specs.Plan.{Plan, layout_of, course_of}
use Rattle.rules.specs.Figures.{closed_in}
use Rattle.rules.specs.Trace.{gathered_in, trace_by, trace_text}
use Rattle.laws.proofs.Gathered.{closed_most}
use Rattle.laws.proofs.NineNumbers.{energy_figure, distance_figure, outside_figure}
use Rattle.laws.proofs.Plans.{e_never_finished}
use Rattle.laws.proofs.Sound.{Sound}
use Rattle.laws.proofs.Tally.{counted_le}
use Rattle.values.specs.Limits.{is_method}
use Rattle.state.specs.declared.Run.{Run}
use Rattle.state.specs.declared.Track.{Track}
use Rattle.state.specs.Refusals.{track_of}
use Rattle.state.proofs.Checked.{start_passed}
use Rattle.judge.proofs.Runs.{Reached, Shown, run_shows, in_order, good, cycle_energies, cycle_distances, few_cycles}
use Rattle.reading.specs.declared.Reading.{Reading}
use Rattle.figures.proofs.OfRun.{figures_of_run}
use Rattle.sources.specs.Sources.{first_of, phase_begun, phase_finished, begun_m, finished_m, begun_e, phase_on, row_on, outside_on, stretch_m, stretch_e, stop_by, stop_on, stood_at, part_on, trace_on}
use Rattle.laws.proofs.Begun.{row_begun, row_finished, phase_begun_lem, phase_finished_lem}
use Rattle.sources.proofs.Places.{first_known, m_begun, m_finished, e_begun, stop_stands}
use Rattle.laws.proofs.Traces.{same_text}

module _ (p : Plan) (l₀ : List ℤ) (m₀ : List ℕ) (r : Run) {xs : List Moment} {l : List ℤ} {m : List ℕ} (h : Reached p l₀ m₀ xs r l m) where
  abbrev b : List ℕ
  b = p.cycle

  abbrev y : Layout
  y = layout_of p.cycle p.method

  abbrev s : ℕ → Moment
  s = moment_in xs

  -- how many intervals are closed
  abbrev n : ℕ
  n = closed_in p xs

  shown : Shown p l₀ m₀ xs r l m
  shown = run_shows p l₀ m₀ h

  o : Sound p.cycle
  o = good p l₀ m₀ h

  track_is : r.track ≡ track_of p.cycle p.tolerances p.method
  track_is = ap (λ (z : Run). z.track) (in_order p l₀ m₀ h).run

  method : is_method p.method ≡ true
  method = (start_passed b p.tolerances p.method l₀ m₀ (in_order p l₀ m₀ h).begun).method

  few : n ≤ most_offered
  few = omega (arith, shown.closed_is, (in_order p l₀ m₀ h).few)

  can : n ≤ y.most
  can = closed_most (course_of p) s (length xs)

  -- the first sample of cycle c
  first_is : (c : ℕ) → first_of r.track.method (20 * r.track.seconds) c ≡ first_of p.method (positions b) c
  first_is c = ap (λ (t : Track). first_of t.method (20 * t.seconds) c) track_is

  -- ---- phases and cycles

  pub phase_of_run : (c k : ℕ) → c < most_cycles → k < most_phases → phase_on r p.cycle l c k ≡ gathered_in p xs (phase_part (layout_of p.cycle p.method) c k)
  phase_of_run c k g f =
      let first = first_known b p.method c g in
      let energy = shown.ledger_shows (9 * c + k) (omega arith) ∙ energy_figure (course_of p) s (length xs) c k f in
      let distance = shown.ledger_shows (9 * c + (4 + k)) (omega arith) ∙ distance_figure (course_of p) s (length xs) c k f in
      let begun = (λ i. phase_begun b k (first_is c i) (shown.closed_is i)) ∙ sym (phase_begun_lem b o p.method c _ n few k first) in
      let finished = (λ i. phase_finished b k (first_is c i) (shown.closed_is i)) ∙ sym (phase_finished_lem b o p.method c _ n few k first) in
      λ i. record { energy = energy i; distance = distance i; begun = begun i; finished = finished i }

  pub row_of_run : (c : ℕ) → c < most_cycles → row_on r l c ≡ gathered_in p xs (row_part (layout_of p.cycle p.method) c)
  row_of_run c g =
      let first = first_known b p.method c g in
      let energy = cycle_energies p l₀ m₀ h c g in
      let distance = cycle_distances p l₀ m₀ h c g in
      let begun = (λ i. ltb (first_is c i) (shown.closed_is i)) ∙ sym (row_begun b o p.method c _ n few first) in
      let finished = (λ i. leb (first_is c i + 20 * (track_is i).seconds) (shown.closed_is i)) ∙ sym (row_finished b o p.method c _ n few first) in
      λ i. record { energy = energy i; distance = distance i; begun = begun i; finished = finished i }

  part_of_run : (c : ℕ) → c < most_cycles → part_on r l c ≡ gathered_in p xs (row_part (layout_of p.cycle p.method) c)
  part_of_run c g = rw (ne_eqb c row_m (λ (e : c ≡ row_m). omega arith), ne_eqb c row_e (λ (e : c ≡ row_e). omega arith)) (row_of_run c g)

  pub outside_of_run : (c : ℕ) → c < most_cycles → outside_on l c ≡ pos (outside (course_of p) (moment_in xs) c (judged (course_of p) (moment_in xs) (length xs)))
  outside_of_run c g = shown.ledger_shows (9 * c + 8) (omega arith) ∙ outside_figure (course_of p) s (length xs) c

  -- ---- stretches

  pub m_of_run : stretch_m r ≡ gathered_in p xs (row_part (layout_of p.cycle p.method) row_m)
  m_of_run =
      let z = shown.stretched_is in
      let begun = (λ i. begun_m (track_is i).method (20 * (track_is i).seconds) (shown.closed_is i)) ∙ sym (m_begun b o n p.method method can) in
      let finished = (λ i. finished_m (track_is i).method (20 * (track_is i).seconds) (shown.closed_is i)) ∙ sym (m_finished b o n p.method can) in
      λ i. record { energy = (z i).in_m.energy; distance = pos (z i).in_m.distance; begun = begun i; finished = finished i }

  pub e_of_run : stretch_e r ≡ gathered_in p xs (row_part (layout_of p.cycle p.method) row_e)
  e_of_run =
      let z = shown.stretched_is in
      let begun = (λ i. begun_e (track_is i).method (20 * (track_is i).seconds) (shown.closed_is i)) ∙ sym (e_begun b o n p.method can) in
      let finished = sym (e_never_finished p o s (length xs)) in
      λ i. record { energy = (z i).in_e.energy; distance = pos (z i).in_e.distance; begun = begun i; finished = finished i }

  -- ---- the stopping sample

  pub stop_of_run : stop_on r ≡ stood_at (layout_of p.cycle p.method) (counted (course_of p) (moment_in xs) (length xs))
  stop_of_run =
      (λ i. stop_by (track_is i).method (20 * (track_is i).seconds) (shown.counted_is i))
      ∙ stop_stands b o p.method _ (omega (arith, (counted_le (stops_at (course_of p) s) y.most (length xs)).1))

-- every number of the trace of such a reading is that of the rules over its run's samples
pub trace_of_run : (p : Plan) (l₀ : List ℤ) (m₀ : List ℕ) (r : Reading) {xs : List Moment} {l : List ℤ} {m : List ℕ}
    → Reached p l₀ m₀ xs r.run l m → (fields blocks : ℕ)
    → trace_text (trace_on r p.cycle l fields blocks) ≡ trace_text (trace_by r.vehicle r.passed r.amounts p xs fields blocks)
trace_of_run p l₀ m₀ r h fields blocks =
    same_text _ _ (record {
      plan = λ i. record { cycle = p.cycle; tolerances = (track_is p l₀ m₀ r.run h i).tolerances; method = (track_is p l₀ m₀ r.run h i).method };
      figures = figures_of_run p l₀ m₀ r h;
      amounts = refl;
      fields = refl;
      blocks = refl;
      offered = (shown p l₀ m₀ r.run h).offered;
      phases = phase_of_run p l₀ m₀ r.run h;
      rows = part_of_run p l₀ m₀ r.run h;
      in_M = m_of_run p l₀ m₀ r.run h;
      in_E = e_of_run p l₀ m₀ r.run h;
      outsides = outside_of_run p l₀ m₀ r.run h;
    }) (few_cycles p l₀ m₀ h)
