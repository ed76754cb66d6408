-- Demand 3 over records as the report meets them: wider tolerances, and samples added at the end.
-- Assumes nothing.
use mathlib.Core.Bool.{true, false}
use mathlib.Core.List.{List, ◌++◌}
use mathlib.Core.Path.{◌≡◌, refl, sym, ap, subst, ◌∙◌}
use Prim.Native.Nat.{ℕ}
use native.Mathlib.Omega.{arith}
use lib.ListN.{length}
use Rattle.rules.specs.declared.Moment.{Moment}
use Rattle.rules.specs.declared.Tolerances.{Tolerances}
use Rattle.rules.specs.Bench.{tolerable}
use Rattle.laws.specs.Beside.{is_open}
use Rattle.rules.specs.Regular.{moment_in}
use Rattle.rules.specs.Plan.{plan, course_of}
use Rattle.laws.proofs.Sound.{Sound, sound}
use Rattle.laws.specs.Claims.{Widened}
use Rattle.laws.proofs.Gathered.{row_ends}
use Rattle.laws.proofs.Plans.{planned_orderly, planned_lawful, planned_phase_ends}
use Rattle.laws.proofs.Longer.{more_samples, same_samples, counted_longer, cycles_longer, part_longer, outside_longer, over}
use Rattle.rules.specs.Values.{tolerances_in}
use Rattle.rules.specs.Record.{Told, holding, told, sheet_of}
use Rattle.rules.specs.Figures.{plan_told, outside_total, figures_by, figures_told}
use Rattle.rules.specs.Text.{head_lines, sheet_text, printed}
use Rattle.laws.proofs.Ended.{figures_ended}
use Rattle.figures.proofs.WiderFigures.{no_earlier, unstopped_same}
use Rattle.demands.specs.Compared.{with_four, FirstThree, with_tolerances, retold, Grown}
use Rattle.demands.specs.Demand3.{FieldFourAlone, WiderRecord, Unmoved, EndedStays, BlocksBetween, longer_told, BlocksAddedStay}
use Rattle.demands.proofs.FieldFour.{told_four, tolerable_four, retold_four}
use Rattle.demands.proofs.ToldLaws.{told_valid, told_grows}
use Rattle.demands.proofs.BlocksAdded.{blocks_added}
use Rattle.demands.proofs.Lines.{below_outside, sheet_lines}

-- ---- wider tolerances

pub field_four_alone : (p q v v' : List ℕ) → FirstThree p → length v ≡ 6 → length v' ≡ 6 → FieldFourAlone p q v v'
field_four_alone p q v v' h six six' = retold_four p q h v v' six six'

-- the first record tells x, and the second has tolerances that are no narrower
module _ (p q v v' : List ℕ) (h : FirstThree p) (six : length v ≡ 6) (six' : length v' ≡ 6) (ok' : tolerable (tolerances_in v') ≡ true)
    (wide : Widened (tolerances_in v) (tolerances_in v')) (x : Told) (e : sheet_of (with_four p q v) ≡ told x) where
  abbrev x' : Told
  x' = with_tolerances x (tolerances_in v')

  told_wider : sheet_of (with_four p q v') ≡ told x'
  told_wider = field_four_alone p q v v' h six six' (tolerable_four p q h v six x e) ok' ∙ ap (retold (tolerances_in v')) e

  wider_than_told : Widened x.holding.tolerances (tolerances_in v')
  wider_than_told = subst (λ (t : Tolerances). Widened t (tolerances_in v')) (sym (told_four p q h v six x e)) wide

  sound_cycle : Sound x.holding.cycle
  sound_cycle = sound x.holding.cycle (told_valid (with_four p q v) x e).0

  pub wider_record : WiderRecord p q v v' x
  wider_record = record {
    wider_told = told_wider;
    wider_sheet = no_earlier _ _ _ _ _ _ _ _ sound_cycle wider_than_told;
    wider_prints = λ went.
        let (same, fewer) =
        unstopped_same x.holding.vehicle x.passed x.holding.amounts x.holding.cycle x.holding.method x.holding.tolerances (tolerances_in v')
        x.holding.samples sound_cycle wider_than_told went in
        record {
          above = head_lines (figures_told x);
          below = below_outside (figures_told x);
          number = outside_total (plan_told x) x.holding.samples;
          number' = outside_total (plan_told x') x.holding.samples;
          lines = ap printed e ∙ sheet_lines (figures_told x) _;
          lines' = ap printed told_wider ∙ ap sheet_text same ∙ sheet_lines (figures_told x) _;
          no_higher = fewer;
        };
  }

-- ---- samples added at the end

module _ (x x' : Told) (g : Grown x x') where
  -- x' as x tells it
  abbrev x'' : Told
  x'' = record {
    place = x'.place;
    passed = x'.passed;
    holding =
        holding x'.holding.vehicle x.holding.cycle x.holding.tolerances x.holding.method (x.holding.samples ++ g.samples.added)
        x'.holding.amounts;
  }

  as_told : x'' ≡ x'
  as_told = λ j. record {
    place = x'.place;
    passed = x'.passed;
    holding = holding x'.holding.vehicle (sym g.cycle j) (sym g.tolerances j) (sym g.method j) (sym g.samples.joins j) x'.holding.amounts;
  }

  pub longer_told_lem : (i : List ℕ) → sheet_of i ≡ told x → Unmoved x x'
  longer_told_lem i e =
      let orderly = planned_orderly x.holding.cycle (sound x.holding.cycle (told_valid i x e).0) x.holding.method in
      let xs = x.holding.samples in
      let ys = g.samples.added in
      let s = moment_in xs in
      let s' = moment_in (xs ++ ys) in
      let more = more_samples xs ys in
      let same = same_samples xs ys in
      let y = course_of (plan_told x) in
      let f = planned_lawful (plan_told x) in
      let n = length xs in
      let n' = length (xs ++ ys) in
      subst (λ (z : Told). Unmoved x z) as_told (record {
        stop_stays = λ h. let v = over y f s s' n n' more same (ap is_open h) in (v.ending_same ∙ h, v.counted_same);
        counted_no_less = counted_longer y f s s' n n' more same;
        cycles_no_less = cycles_longer y f s s' n n' more same;
        phases_stay = λ c k. part_longer y f s s' n n' more same (planned_phase_ends x.holding.cycle x.holding.method c k);
        cycles_stay = λ c. part_longer y f s s' n n' more same (row_ends orderly c);
        outside_stays = outside_longer y f s s' n n' more same orderly;
      })

  -- where the run of x has ended
  pub ended_stays : is_open (figures_told x).end ≡ false → x'.holding.vehicle ≡ x.holding.vehicle → x'.passed ≡ x.passed → x'.holding.amounts ≡ x.holding.amounts → EndedStays x x'
  ended_stays ended vehicle passed amounts =
      let same : figures_told x' ≡ figures_told x =
      (λ j. figures_by (vehicle j) (passed j) (amounts j) (plan (g.cycle j) (g.tolerances j) (g.method j)) (g.samples.joins j))
      ∙ figures_ended (plan_told x) x.holding.samples g.samples.added ended x.holding.vehicle x.passed x.holding.amounts in
      record { ended_told = same; ended_prints = λ i i' e e'. ap printed e' ∙ ap sheet_text same ∙ sym (ap printed e) }

-- ---- at the end of a record's blocks

pub blocks_added_between : (a more z : List ℕ) (s y x : Told) → BlocksBetween a more z s y x → BlocksAddedStay a more z y x
blocks_added_between a more z s y x h =
    let told-longer = blocks_added a more z s y x h.first h.behind h.added h.blocks h.own h.rest h.none in
    let grown = ((told_grows a more s y h.first h.added).3 (omega (arith, h.behind))).samples in
    let g : Grown x (longer_told a more z y x) =
    record {
      cycle = refl;
      tolerances = refl;
      method = refl;
      samples = record { added = grown.added; joins = grown.joins ∙ ap (λ (xs : List Moment). xs ++ grown.added) (sym h.none) };
    } in
    record {
      blocks_added = told-longer;
      blocks_added_stay = longer_told_lem x (longer_told a more z y x) g (a ++ z) h.rest;
      blocks_added_print = λ ended. (ended_stays x (longer_told a more z y x) g ended refl refl refl).ended_prints (a ++ z) (a ++ (more ++ z)) h.rest told-longer;
    }
