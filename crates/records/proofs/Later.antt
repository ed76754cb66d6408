-- After the start: what every field keeps.
-- Assumes nothing.
use mathlib.Core.Bool.{true}
use mathlib.Core.List.{List}
use mathlib.Core.Path.{◌≡◌, refl, sym, subst, ◌∙◌}
use Prim.Native.Nat.{ℕ, ◌≤◌}
use native.Mathlib.Omega.{arith}
use lib.ListN.{length}
use Rattle.rules.specs.Words.{table}
use Rattle.numbers.proofs.Tables.{fold_list, fold_table}
use Rattle.rules.specs.declared.Amounts.{Amounts}
use Rattle.rules.specs.declared.Method.{Method}
use Rattle.rules.specs.declared.Moment.{Moment}
use Rattle.rules.specs.declared.Tolerances.{Tolerances}
use Rattle.rules.specs.Bench.{most_offered}
use Rattle.rules.specs.Regular.{moment_in}
use Rattle.rules.specs.Plan.{Plan, plan}
use Rattle.rules.specs.Table.{behind_tolerances, behind_before, behind_after, behind_recharge, tags}
use Rattle.rules.specs.Front.{Field}
use Rattle.rules.specs.Machine.{on, move_at, run}
use Rattle.rules.specs.Values.{samples_of, moment_at, count_in}
use Rattle.rules.specs.Record.{Bring, nothing, a_number, a_cycle, the_tolerances, the_stretches, own_samples, before, after, charged}
use Rattle.values.specs.Limits.{is_method}
use Rattle.laws.proofs.Places.{place_is, before_places}
use Rattle.laws.proofs.Prefixes.{kept}
use Rattle.laws.proofs.Samples.{moments_at}
use Rattle.laws.proofs.Says.{moves_to, Says}
use Rattle.step.specs.Step.{State, sample_taken, samples_taken}
use Rattle.step.specs.Where.{Kept, left_at}
use Rattle.step.proofs.Keeping.{kept_all, all_offered}
use Rattle.records.specs.Stage.{Stage, plan_on, with_amounts, bring_on, pass_on, take_on, run_on}
use Rattle.records.proofs.Came.{Came, Moved, took, went, moved}

-- the samples of a list, taken one after another
pub taken_list : (p : Plan) (s : State) (f : ℕ → Moment) (n : ℕ) → samples_taken p s f n ≡ samples_taken p s (moment_in (table f n)) (length (table f n))
taken_list p s f n = fold_table (sample_taken p) s f n ∙ fold_list (sample_taken p) s (table f n) _

-- a started run of the vehicle me, on the cycle b with the tolerances t, that may take samples; before an own block none is offered
pub record Later (me b : List ℕ) (t : Tolerances) (x : Stage) : Type 0 where
  pub late : behind_tolerances ≤ x.place
  pub vehicle : x.vehicle ≡ me
  pub cycle : x.cycle ≡ b
  pub tolerances : x.tolerances ≡ t
  pub kept : Kept (plan b t x.method) (left_at (plan b t x.method) x.run)
  pub few : x.run.progress.offered ≤ most_offered
  pub fresh : x.place ≤ behind_before → x.run.progress.offered ≡ 0

-- what holds of a run holds by another method, where nothing is counted
kept_by : {b : List ℕ} {t : Tolerances} {y y' : Method} {a : State} → is_method y' ≡ true → Kept (plan b t y) (left_at (plan b t y) a) → Kept (plan b t y') (left_at (plan b t y') a)
kept_by m k = record {
  sound = k.sound;
  time = k.time;
  method = m;
  stands = refl;
  counted = k.counted;
  interval = k.interval;
  watched = k.watched;
  in_m = k.in_m;
  in_e = k.in_e;
  long_ledger = k.long_ledger;
  long_map = k.long_map;
  small = k.small;
}

module _ (me b : List ℕ) (t : Tolerances) where
  -- an amount is brought
  amounts_brought : (x : Stage) (n : ℕ) (a : Amounts) → behind_tolerances ≤ n → (n ≤ behind_before → x.place ≤ behind_before) → Later me b t x → Later me b t (with_amounts x n a)
  amounts_brought x n a l g h = record {
    late = l;
    vehicle = h.vehicle;
    cycle = h.cycle;
    tolerances = h.tolerances;
    kept = h.kept;
    few = h.few;
    fresh = λ e. h.fresh (g e);
  }

  -- with what a field brings
  later_brought : (x : Stage) (f : Field) (g : Bring) → Says x.passed x.vehicle x.cycle x.run.progress.offered f.tag f.value x.place g
      → Later me b t x → Later me b t (bring_on x (moves_to g) g)
  later_brought x f nothing s h = absurd (let e = place_is x.place 0 s.1 in omega (arith, h.late))
  later_brought x f (a_number v) s h = absurd (let e = place_is x.place 1 s.1 in omega (arith, h.late))
  later_brought x f (a_cycle v) s h = absurd (let e = place_is x.place 2 s.1 in omega (arith, h.late))
  later_brought x f (the_tolerances u) s h = absurd (let e = place_is x.place 3 s.1 in omega (arith, h.late))
  later_brought x f (the_stretches y) s h = let e = place_is x.place behind_tolerances s.1 in record {
    late = omega arith;
    vehicle = h.vehicle;
    cycle = h.cycle;
    tolerances = h.tolerances;
    kept = kept_by s.3 h.kept;
    few = h.few;
    fresh = λ _. h.fresh (omega arith);
  }
  later_brought x f (own_samples xs) s h =
      let q = samples_of f.value in
      let o = s.3 in
      let p = plan b t x.method in
      let plan-is : plan_on x ≡ p = λ i. plan (h.cycle i) (h.tolerances i) x.method in
      let run_is : samples_taken p x.run (moment_at q) (count_in q) ≡ samples_taken (plan_on x) x.run (moment_in xs) (length xs) =
      taken_list p x.run (moment_at q) (count_in q) ∙ (λ i. samples_taken (sym plan-is i) x.run (moment_in (sym s.2 i)) (length (sym s.2 i))) in
      record {
        late = omega arith;
        vehicle = h.vehicle;
        cycle = h.cycle;
        tolerances = h.tolerances;
        kept = subst (λ (a : State). Kept p (left_at p a)) run_is (kept_all p x.run (moment_at q) (count_in q) h.kept (moments_at q (count_in q) o.samples));
        few = subst (λ (a : State). a.progress.offered ≤ most_offered) run_is (omega (arith, all_offered p x.run (moment_at q) (count_in q), o.room));
        fresh = λ e. absurd (omega arith);
      }
  later_brought x f (before e) s h = let l = (before_places x.place s.1).1 in amounts_brought x behind_before _ (omega arith) (λ _. omega arith) h
  later_brought x f (after e) s h = amounts_brought x behind_after _ (omega arith) (λ l. absurd (omega arith)) h
  later_brought x f (charged w) s h = amounts_brought x behind_recharge _ (omega arith) (λ l. absurd (omega arith)) h

  pub later_passed : (x : Stage) → Later me b t x → Later me b t (pass_on x)
  later_passed x h = record { late = h.late; vehicle = h.vehicle; cycle = h.cycle; tolerances = h.tolerances; kept = h.kept; few = h.few; fresh = h.fresh }

  pub later_came : (x : Stage) (f : Field) (y : Stage) → Came x f y → Later me b t x → Later me b t y
  later_came x f y c h = subst (Later me b t) c.is (later_brought x f c.brings c.says h)

  -- every accepted field keeps it, and all do
  pub later_move : (x : Stage) (i : List ℕ) (y : Stage) (m : ℕ) → move_at tags take_on x i ≡ on y m → Later me b t x → Later me b t y
  later_move x i y m e h = go (moved x i y m e)
    where
      go : Moved x i y m → Later me b t y
      go (took f _ _ _ c) = later_came x f y c h
      go (went f _ _ d _ _) = subst (Later me b t) d (later_passed x h)

  pub later_run : (x : Stage) (i : List ℕ) → Later me b t x → Later me b t (run_on x i).state
  later_run x i h = kept tags take_on (Later me b t) later_move (length i) x i h
