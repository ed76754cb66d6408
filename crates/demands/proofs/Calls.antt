-- Demand 3 over whole runs of calls that keep the contracts, in their state and ledger.
-- Assumes nothing.
use mathlib.Core.Bool.{Bool, true, false, cond}
use mathlib.Core.List.{List, ◌++◌}
use mathlib.Core.Path.{◌≡◌, refl, sym, ap, ap₂, subst, ◌∙◌}
use Prim.Native.Nat.{ℕ, ◌<◌}
use native.Mathlib.Omega.{arith}
use borrow.Author.Tests.{le-leb, ltb-true, eqb-true}
use lib.Dec.{T, ltb, eqb}
use lib.IntN.{ℤ, pos}
use lib.ListN.{length}
use lib.Signed.{le_z}
use Rattle.numbers.proofs.Tests.{true_T, T_true}
use Rattle.rules.specs.declared.Amounts.{Amounts}
use Rattle.rules.specs.declared.Method.{Method}
use Rattle.rules.specs.declared.Method.TheVariants.{Regular as by_cycles, Shortened as with_stretches}
use Rattle.rules.specs.declared.Moment.{Moment}
use Rattle.rules.specs.declared.Tolerances.{Tolerances}
use Rattle.rules.specs.Bench.{most_cycles, most_phases}
use Rattle.rules.specs.Cycle.{phases, valid}
use Rattle.rules.specs.Course.{Bound, never, reached, row_m, closed}
use Rattle.rules.specs.Parts.{Part, row_part, phase_part, finished}
use Rattle.rules.specs.Regular.{interval, moment_in}
use Rattle.rules.specs.Shortened.{end_of, behind_phase}
use Rattle.rules.specs.Plan.{Plan, plan, layout_of, course_of}
use Rattle.laws.proofs.Sound.{Sound, sound}
use Rattle.laws.specs.Claims.{Widened, PartKept}
use Rattle.laws.proofs.Answers.{same_closing}
use Rattle.laws.proofs.Longer.{more_samples, same_samples}
use Rattle.state.specs.declared.Run.{Run}
use Rattle.state.specs.declared.Stretched.{Stretched}
use Rattle.state.specs.State.{closed_by}
use Rattle.state.proofs.Checked.{start_passed}
use Rattle.judge.proofs.Runs as runs
use Rattle.closing.specs.Answers.{closing_answer}
use Rattle.closing.proofs.Joined as closing
use Rattle.demands.specs.Demand3.{WiderRun, LongerRun, PhaseStays, CycleStays, StretchStays, WiderCalls, LongerCalls}
use Rattle.demands.specs.Runs.{Driven, closing_amounts}
use Rattle.demands.proofs.Driven.{driven_reached}
use Rattle.demands.proofs.LastJudged.{outsides_are}
use Rattle.demands.proofs.LaterCalls.{closing_kept}
use Rattle.demands.proofs.OfRun.{run_shows}
use Rattle.demands.proofs.ShutOut.{stops_by_the_rules, stops_only_by_the_rules}
use Rattle.demands.proofs.WiderRuns.{wider_run, longer_run}

-- ---- only phases that there are are finished

module _ (b : List ℕ) (o : Sound b) (m : ℕ) where
  -- of the cycle's phases the layouts say where each ends
  cycle_phase : (k : ℕ) (e : Bound) → T (reached (cond (ltb k (phases b)) e never) m) → k < most_phases
  cycle_phase k e = go (ltb k (phases b)) refl
    where
      go : (x : Bool) → ltb k (phases b) ≡ x → T (reached (cond x e never) m) → k < most_phases
      go true q f = let g = ltb-true k (phases b) q in omega (arith, o.few_phases)
      go false q f = absurd f

  phase_real : (y : Method) (c k : ℕ) → T (finished (phase_part (layout_of b y) c k) m) → k < most_phases
  phase_real by_cycles c k = cycle_phase k _
  phase_real (with_stretches x) c k = go (ltb c 4) (eqb k 0) refl
    where
      go : (a d : Bool) → eqb k 0 ≡ d → T (reached (cond a (behind_phase b x.length c k) (cond d (end_of b x.length c) never)) m) → k < most_phases
      go true d e f = cycle_phase k _ f
      go false true e f = let z = eqb-true k 0 e in omega arith
      go false false e f = absurd f

-- ---- two runs

-- a whole run: its shares closed are the rules'
module _ {p : Plan} {l₀ : List ℤ} {m₀ : List ℕ} {xs : List Moment} {r : Run} {l : List ℤ} {m : List ℕ} (h : Driven p l₀ m₀ xs r l m) where
  pub good : valid p.cycle ≡ true
  good = (start_passed p.cycle p.tolerances p.method l₀ m₀ (runs.in_order p l₀ m₀ (driven_reached p l₀ m₀ h)).begun).sound

  closes : closed_by r.progress ≡ closed (course_of p) (moment_in xs) (length xs)
  closes = (runs.run_shows p l₀ m₀ (driven_reached p l₀ m₀ h)).closed_is

  by_the_rules : (part : Part) → T (finished part (closed_by r.progress)) → T (finished part (closed (course_of p) (moment_in xs) (length xs)))
  by_the_rules part f = subst (λ (z : ℕ). T (finished part z)) closes f

  in_state : (part : Part) → T (finished part (closed (course_of p) (moment_in xs) (length xs))) → T (finished part (closed_by r.progress))
  in_state part f = subst (λ (z : ℕ). T (finished part z)) (sym closes) f

module _ {b : List ℕ} {y : Method} {t t' : Tolerances} {l₀ k₀ : List ℤ} {m₀ n₀ : List ℕ} {xs xs' : List Moment} {r r' : Run} {l l' : List ℤ} {m m' : List ℕ}
    (h : Driven (plan b t y) l₀ m₀ xs r l m) (h' : Driven (plan b t' y) k₀ n₀ xs' r' l' m') where
  -- what the first run finished, by the rules
  abbrev Keeps : Part → Type 0
  Keeps part =
      PartKept interval part (moment_in xs) (moment_in xs') (closed (course_of (plan b t y)) (moment_in xs) (length xs))
      (closed (course_of (plan b t' y)) (moment_in xs') (length xs'))

  phase_stays : (c k : ℕ) → c < most_cycles → T (finished (phase_part (layout_of b y) c k) (closed_by r.progress)) → Keeps (phase_part (layout_of b y) c k)
      → PhaseStays b y r r' l l' c k
  phase_stays c k c<64 f p =
      let k<4 = phase_real b (sound b (good h)) (closed_by r.progress) y c k f in
      record {
        finished_too = in_state h' (phase_part (layout_of b y) c k) p.finished_too;
        energy = (run_shows h').phase_energies c k c<64 k<4 ∙ p.same_energy ∙ sym ((run_shows h).phase_energies c k c<64 k<4);
        distance = (run_shows h').phase_distances c k c<64 k<4 ∙ ap pos p.same_distance ∙ sym ((run_shows h).phase_distances c k c<64 k<4);
      }

  cycle_stays : (c : ℕ) → c < most_cycles → Keeps (row_part (layout_of b y) c) → CycleStays b y r r' l l' c
  cycle_stays c c<64 p = record {
    finished_too = in_state h' (row_part (layout_of b y) c) p.finished_too;
    energy =
        runs.cycle_energies _ k₀ n₀ (driven_reached _ k₀ n₀ h') c c<64 ∙ p.same_energy
        ∙ sym (runs.cycle_energies _ l₀ m₀ (driven_reached _ l₀ m₀ h) c c<64);
    distance =
        runs.cycle_distances _ k₀ n₀ (driven_reached _ k₀ n₀ h') c c<64 ∙ ap pos p.same_distance
        ∙ sym (runs.cycle_distances _ l₀ m₀ (driven_reached _ l₀ m₀ h) c c<64);
  }

  -- stretch M is in the state as the rules have it (document 02, L5)
  stretch_stays : Keeps (row_part (layout_of b y) row_m) → StretchStays b y r r' l l'
  stretch_stays p = record {
    finished_too = in_state h' (row_part (layout_of b y) row_m) p.finished_too;
    stretch =
        ap (λ (z : Stretched). z.in_m) (run_shows h').stretches_show
        ∙ (λ i. record { energy = p.same_energy i; distance = p.same_distance i })
        ∙ ap (λ (z : Stretched). z.in_m) (sym (run_shows h).stretches_show);
  }

-- ---- wider tolerances

module _ {b : List ℕ} {y : Method} {t t' : Tolerances} {l₀ k₀ : List ℤ} {m₀ n₀ : List ℕ} {xs : List Moment} {r r' : Run} {l l' : List ℤ} {m m' : List ℕ}
    (h : Driven (plan b t y) l₀ m₀ xs r l m) (h' : Driven (plan b t' y) k₀ n₀ xs r' l' m') (wide : Widened t t') where
  by_definition : WiderRun b y t t' (moment_in xs) (length xs)
  by_definition = wider_run b y t t' (moment_in xs) (length xs) (good h) wide

  pub wider_calls : WiderCalls b y r r' l l'
  wider_calls = record {
    wider_run_never_stops_earlier =
        let (no_less, stopped_too) = by_definition.wider_never_stops_earlier in
        let shown = (run_shows h).state_shows.1 in
        let shown' = (run_shows h').state_shows.1 in
        (omega arith, λ e. stops_by_the_rules h (T_true _ (stopped_too (true_T (stops_only_by_the_rules h' e)))));
    wider_run_closes_no_less = omega (arith, by_definition.wider_closes_no_less, closes h, closes h');
    wider_run_finishes_phases = λ c k c<64 f.
        phase_stays h h' c k c<64 f (by_definition.wider_finishes_phases c k (by_the_rules h (phase_part (layout_of b y) c k) f));
    wider_run_finishes_cycles = λ c c<64 f.
        let (kept, fewer) = by_definition.wider_finishes_cycles c (by_the_rules h (row_part (layout_of b y) c) f) in (
          cycle_stays h h' c c<64 kept,
          ap₂ le_z (outsides_are _ k₀ n₀ (driven_reached _ k₀ n₀ h') c c<64) (outsides_are _ l₀ m₀ (driven_reached _ l₀ m₀ h) c c<64) ∙ le-leb _ _ fewer,
        );
    wider_run_finishes_M = λ f. stretch_stays h h' (by_definition.wider_finishes_cycles row_m (by_the_rules h (row_part (layout_of b y) row_m) f)).0;
  }

-- ---- samples added at the end

module _ {b : List ℕ} {y : Method} {t : Tolerances} {l₀ k₀ : List ℤ} {m₀ n₀ : List ℕ} {xs : List Moment} (ys : List Moment)
    {r r' : Run} {l l' : List ℤ} {m m' : List ℕ}
    (h : Driven (plan b t y) l₀ m₀ xs r l m) (h' : Driven (plan b t y) k₀ n₀ (xs ++ ys) r' l' m') where
  as_defined : LongerRun b y t (moment_in xs) (moment_in (xs ++ ys)) (length xs) (length (xs ++ ys))
  as_defined = longer_run b y t (moment_in xs) (moment_in (xs ++ ys)) (length xs) (length (xs ++ ys)) (more_samples xs ys) (same_samples xs ys)

  pub longer_calls : LongerCalls b y r r' l l' m m'
  longer_calls = record {
    longer_run_moves_no_stop = λ e.
        let (stopped_too, same) = as_defined.longer_moves_no_stop (true_T (stops_only_by_the_rules h e)) in
        (stops_by_the_rules h' (T_true _ stopped_too), (run_shows h').state_shows.1 ∙ same ∙ sym (run_shows h).state_shows.1);
    longer_run_closes_no_less = omega (arith, as_defined.longer_closes_no_less, closes h, closes h');
    finished_phases_stay = λ c k c<64 f.
        phase_stays h h' c k c<64 f (as_defined.finished_phase_stays c k (by_the_rules h (phase_part (layout_of b y) c k) f));
    finished_cycles_stay = λ c c<64 f.
        let (kept, same) = as_defined.finished_stays (good h) c (by_the_rules h (row_part (layout_of b y) c) f) in (
          cycle_stays h h' c c<64 kept,
          outsides_are _ k₀ n₀ (driven_reached _ k₀ n₀ h') c c<64 ∙ ap pos same ∙ sym (outsides_are _ l₀ m₀ (driven_reached _ l₀ m₀ h) c c<64),
        );
    finished_M_stays = λ f. stretch_stays h h' (as_defined.finished_stays (good h) row_m (by_the_rules h (row_part (layout_of b y) row_m) f)).0;
    closing_stays = λ ended c c' on on' ok same.
        same_closing _ _
        (closing_kept c' on' ∙ ap (λ (a : Amounts). closing_answer r' a b l' m') same
        ∙ closing.closing_stays _ l₀ k₀ m₀ n₀ xs ys (driven_reached _ l₀ m₀ h) (driven_reached _ k₀ n₀ h') ended (closing_amounts c) ok
        ∙ sym (closing_kept c on));
  }
