-- Demand 2 of a whole run: what its state, its ledger and its map show, and what its later calls answer.
-- Assumes nothing.
use Rattle.std.specs.Prelude.{Ok}
use mathlib.Core.Bool.{Bool, true}
use mathlib.Core.List.{List}
use mathlib.Core.Path.{◌≡◌, refl, sym, ap, ◌∙◌}
use Prim.Native.Nat.{ℕ, ◌*◌, ◌+◌, ◌<◌}
use native.Mathlib.Omega.{arith}
use borrow.Author.Tests.{eq-eqb}
use lib.IntN.{ℤ, pos}
use lib.ListN.{length}
use Rattle.rules.specs.Words.{eq_z}
use Rattle.numbers.proofs.Tests.{pass, settled_taken}
use Rattle.rules.specs.declared.Moment.{Moment}
use Rattle.rules.specs.Course.{Course, outside, judged, closed}
use Rattle.rules.specs.Parts.{phase_part, part_energy, part_distance}
use Rattle.rules.specs.Regular.{moment_in}
use Rattle.rules.specs.Plan.{Plan, course_of}
use Rattle.rules.specs.Shown.{shown_row}
use Rattle.laws.proofs.Plans.{planned_no_such_phase}
use Rattle.laws.proofs.Total.{energy_none, distance_none}
use Rattle.laws.proofs.RunNear.{run_near}
use Rattle.ledger.specs.Row.{at, outside_in}
use Rattle.laws.specs.Answers.{gives}
use Rattle.laws.proofs.Answers.{same_closing, same_answer}
use Rattle.state.specs.declared.Run.{Run}
use Rattle.state.specs.State.{run_ground}
use Rattle.state.specs.Refusals.{last_cycle}
use Rattle.judge.proofs.Runs as runs
use Rattle.judge.proofs.Runs.{Reached, Shown}
use Rattle.closing.proofs.Joined as closing
use Rattle.reading.specs.declared.Reading.{Reading}
use Rattle.reading.specs.Answers.{is_reading, read_ground}
use Rattle.figures.proofs.OfRun as figures
use Rattle.demands.specs.Calls.{ShownCall}
use Rattle.demands.specs.Demand2.{RunShows, RunAnswers, ClosedHolds}
use Rattle.demands.specs.Runs.{Driven, ShownOn, closing_amounts, figures_reading}
use Rattle.demands.proofs.Driven.{driven_reached}
use Rattle.demands.proofs.LaterCalls.{shown_kept, totals_kept, closing_kept, figures_kept}
use Rattle.laws.proofs.NineNumbers.{energy_figure, distance_figure}
use Rattle.rules.specs.Bench.{most_cycles, most_phases}
use Rattle.demands.proofs.LastJudged.{last_cycle_is, last_cycle_most, outsides_are}

module _ {p : Plan} {l₀ : List ℤ} {m₀ : List ℕ} {xs : List Moment} {r : Run} {l : List ℤ} {m : List ℕ} (h : Driven p l₀ m₀ xs r l m) where
  abbrev s : ℕ → Moment
  s = moment_in xs

  abbrev n : ℕ
  n = length xs

  abbrev y : Course
  y = course_of p

  reached : Reached p l₀ m₀ xs r l m
  reached = driven_reached p l₀ m₀ h

  shows : Shown p l₀ m₀ xs r l m
  shows = runs.run_shows p l₀ m₀ reached

  -- ---- state, ledger and map

  energies_in : (c k : ℕ) → c < most_cycles → k < most_phases → at l (9 * c + k) ≡ part_energy y.share s (phase_part y.layout c k) (closed y s n)
  energies_in c k g f = shows.ledger_shows (9 * c + k) (omega arith) ∙ energy_figure y s n c k f

  distances_in : (c k : ℕ) → c < most_cycles → k < most_phases → at l (9 * c + (4 + k)) ≡ pos (part_distance y.share s (phase_part y.layout c k) (closed y s n))
  distances_in c k g f = shows.ledger_shows (9 * c + (4 + k)) (omega arith) ∙ distance_figure y s n c k f

  pub run_shows : RunShows p l₀ m₀ xs r l m
  run_shows = record {
    state_shows = (shows.offered, shows.counted_is, shows.end_is, shows.held_is);
    stretches_show = shows.stretched_is;
    ledger_shows = shows.ledger_shows;
    phase_energies = energies_in;
    phase_distances = distances_in;
    outside_counts = outsides_are p l₀ m₀ reached;
    no_phase_holds_0 = λ c k g none f.
        let nowhere = planned_no_such_phase p.cycle (runs.good p l₀ m₀ reached) p.method c k none in
        let part = phase_part y.layout c k in
        (energies_in c k g f ∙ energy_none y.share s part _ nowhere, distances_in c k g f ∙ ap pos (distance_none y.share s part _ nowhere));
    map_shows = shows.map_shows;
    ones_are_outside = shows.ones_are_outside;
    energies_add_up = shows.energies_add_up;
    beyond_untouched = (shows.ledger_beyond, shows.map_beyond);
  }

  -- ---- the calls that look at it

  shown_is : (c : ShownCall) → ShownOn r p.cycle l m c → (let o = outside y s (shown_row y.layout (judged y s n)) (judged y s n) in
      c.answer ≡ Ok (record { ones = o; outside = pos o; agree = true }))
  shown_is c on =
      let o = outside y s (shown_row y.layout (judged y s n)) (judged y s n) in
      let last = last_cycle_is p l₀ m₀ reached in
      let in_ledger : outside_in l (last_cycle r p.cycle) ≡ pos o =
      outsides_are p l₀ m₀ reached (last_cycle r p.cycle) (last_cycle_most p l₀ m₀ reached) ∙ ap (λ (c : ℕ). pos (outside y s c (judged y s n))) last in
      same_answer _ _
      (shown_kept c on ∙ settled_taken _ (runs.never_refused p l₀ m₀ reached 0)
      ∙ (λ i. gives (record { ones = shows.ones_are_outside i; outside = in_ledger i; agree = eq_z (pos (shows.ones_are_outside i)) (in_ledger i) }))
      ∙ ap (λ (y : Bool). gives (record { ones = o; outside = pos o; agree = y })) (eq-eqb o o refl))

  -- no number of the reading is beyond its limits, and none of such a run
  reading_not_refused : (x : Reading) → is_reading x ≡ true → x.run ≡ r → read_ground x p.cycle l m ≡ 0
  unfolding read_ground
  reading_not_refused x ok is = sym (pass 1 ok (sym (ap (λ (y : Run). run_ground y p.cycle l m 0) is ∙ runs.never_refused p l₀ m₀ reached 0)))

  pub run_answers : RunAnswers p l₀ m₀ xs r l m
  run_answers = record {
    shown_agrees = shown_is;
    totals_of_run = λ c on.
        same_answer _ _
        (totals_kept c on ∙ settled_taken _ (runs.never_refused p l₀ m₀ reached 0)
        ∙ (λ i. gives (record {
          end = shows.end_is i;
          counted = shows.counted_is i;
          cycles = shows.cycles_are i;
          outside = figures.outsides_add_up p l₀ m₀ reached i;
          drawn = shows.energies_add_up i;
        })));
    closing_of_run = λ c on ok. same_closing _ _ (closing_kept c on ∙ closing.closing_of_run p l₀ m₀ reached (closing_amounts c) ok);
    figures_of_run = λ c on ok.
        let none = reading_not_refused (figures_reading c r) (ap (λ (z : Run). is_reading (figures_reading c z)) (sym on.run_is) ∙ ok) refl in
        same_answer _ _ (figures_kept c on ∙ settled_taken _ none ∙ ap gives (figures.figures_of_run p l₀ m₀ (figures_reading c r) reached));
  }

  -- ---- a call of `close` that answers the figures

  pub closed_holds : ClosedHolds p l₀ m₀ xs r l m
  closed_holds = record {
    recharge_aside = λ c on ok none. run_answers.closing_of_run c on ok ∙ settled_taken _ none;
    closed_near = λ c on ok x is. run_near p xs (closing_amounts c) x (sym (run_answers.closing_of_run c on ok) ∙ is);
  }
