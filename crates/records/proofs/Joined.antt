-- The code's state is led through all bytes as lists are: it holds what they tell, and its run is that of their samples.
-- Assumes nothing.
use mathlib.Core.Bool.{true}
use mathlib.Core.List.{List, [], ◌∷◌, ◌++◌}
use mathlib.Core.Path.{◌≡◌, refl, sym, ap, subst, subst⁻¹, ◌∙◌}
use Prim.Native.Nat.{ℕ, ◌+◌, ◌≤◌}
use native.Mathlib.Omega.{arith}
use lib.IntN.{ℤ}
use lib.ListN.{length, length-drop}
use borrow.Author.Tests.{le-leb}
use Rattle.rules.specs.Words.{unless}
use Rattle.numbers.proofs.Tests.{pass}
use Rattle.rules.specs.declared.Amounts.{Amounts}
use Rattle.rules.specs.declared.Moment.{Moment}
use Rattle.rules.specs.declared.Method.{Method}
use Rattle.rules.specs.declared.Method.TheVariants.{Shortened as with_stretches}
use Rattle.rules.specs.declared.Tolerances.{Tolerances}
use Rattle.rules.specs.Bench.{tolerable}
use Rattle.rules.specs.Cycle.{valid}
use Rattle.rules.specs.Plan.{plan}
use Rattle.rules.specs.Table.{Row, Matter, number, cycle, tolerances, stretches, block, energy_before, energy_after, recharge, among, length_allowed, tags}
use Rattle.rules.specs.Table.{behind_tolerances, behind_before, behind_after, behind_recharge}
use Rattle.rules.specs.Front.{Field}
use Rattle.rules.specs.Machine.{run}
use Rattle.values.specs.Limits.{is_method}
use Rattle.laws.specs.Beside.{is_block}
use Rattle.rules.specs.Values.{samples_of, moment_at, count_in, moments_in}
use Rattle.rules.specs.Record.{Told, Bring, nothing, a_number, a_cycle, the_tolerances, the_stretches, own_samples, before, after, charged, wrong, content_of, field_content, content_at, holding, with_before, with_after, with_charge, bring_at, take_field}
use Rattle.laws.proofs.Carried.{In, here, there, same_rows, Carries, carried}
use Rattle.laws.proofs.Places.{place_is, before_places, block_places_lem, recharge_places}
use Rattle.laws.proofs.Related.{AlikeRan}
use Rattle.laws.proofs.Says.{moves_to, Says, says}
use Rattle.laws.proofs.Tags.{sizes}
use Rattle.state.specs.State.{run_ground}
use Rattle.state.specs.Refusals.{start_refusal, started}
use Rattle.state.proofs.Checked.{start_passed, tolerable_by}
use Rattle.step.specs.Step.{State, start_of, run_to}
use Rattle.blocks.proofs.Accepted.{accepted_by}
use Rattle.judge.proofs.Runs.{Reached, in_order, never_refused}
use Rattle.records.specs.Stage.{Stage, plan_on, with_amounts, is_long, content_on, bring_on, pass_on, run_on, stage_as, taken_on}
use Rattle.records.proofs.Later.{taken_list}
use Rattle.records.proofs.Held.{Long, long_is, run_at, Holds as Holding, offered_is}

module _ (l₀ : List ℤ) (m₀ : List ℕ) (long : Long l₀ m₀) where
  abbrev Holds : Told → Stage → Type 0
  Holds = Holding l₀ m₀ long

  -- ---- a field brings the same to both

  same_content : (s : Told) (x : Stage) → Holds s x → (f : Field) → field_content s.place (content_at s) f ≡ field_content s.place (content_on x) f
  unfolding unless
  same_content s x h f = same_rows s.place (content_at s) (content_on x) f (λ q i _ a. go q i a)
    where
      same : (m : Matter) → content_at s m f.value ≡ content_of x.passed x.vehicle x.cycle x.run.progress.offered m f.value
      same m = λ k. content_of (h.passed k) (h.vehicle k) (h.cycle k) (offered_is l₀ m₀ long s x h k) m f.value

      long_enough : among s.place (3 ∷ []) ≡ true → true ≡ is_long x.run.memory
      long_enough a =
          let e = place_is s.place 3 a in
          sym (ap (λ (y : State). is_long y.memory) (h.waits (omega (arith, h.place))).0 ∙ long_is long)

      go : (q : Row Matter) → In q tags → among s.place q.stands ≡ true → content_at s q.holds f.value ≡ content_on x q.holds f.value
      go q here a = refl
      go q (there here) a = same number
      go q (there (there here)) a = same cycle
      go q (there (there (there here))) a = same tolerances ∙ (λ k. unless (wrong 1) (long_enough a k) (content_of x.passed x.vehicle x.cycle x.run.progress.offered tolerances f.value))
      go q (there (there (there (there here)))) a = same block
      go q (there (there (there (there (there here))))) a = same energy_before
      go q (there (there (there (there (there (there here)))))) a = same energy_after
      go q (there (there (there (there (there (there (there here))))))) a = same recharge
      go q (there (there (there (there (there (there (there (there here)))))))) a = same stretches
      go q (there (there (there (there (there (there (there (there (there z))))))))) a = elim z [ ]

  -- ---- and both hold it

  module _ (s : Told) (x : Stage) (h : Holds s x) (f : Field) (a : length_allowed tags f.tag (length f.value) ≡ true) where
    abbrev Here : Bring → Type 0
    Here = Says s.passed s.holding.vehicle s.holding.cycle (length s.holding.samples) f.tag f.value s.place

    granted : (t : Tolerances) (y : Method) → valid x.cycle ≡ true → tolerable t ≡ true → is_method y ≡ true → start_refusal x.cycle t y l₀ m₀ ≡ 0
    unfolding start_refusal
    granted t y v g m = sym (pass 1 (le-leb _ _ long.ledger) (pass 1 (le-leb _ _ long.map) (pass 2 v (pass 3 g (pass 19 m refl)))))

    -- the run of such tolerances and method has started, on the state a
    started_anew : (a : State) (xs : List Moment) (t : Tolerances) (y : Method) → start_refusal x.cycle t y l₀ m₀ ≡ 0 → xs ≡ [] → a ≡ start_of l₀ m₀
        → Reached (plan x.cycle t y) l₀ m₀ xs (run_to (started x.cycle t y) a.progress a.stretched) a.memory.ledger a.memory.map
    started_anew a xs t y e none start =
        subst⁻¹ (λ (a : State). Reached (plan x.cycle t y) l₀ m₀ xs (run_to (started x.cycle t y) a.progress a.stretched) a.memory.ledger a.memory.map) start
        (subst⁻¹ (λ (xs : List Moment). Reached (plan x.cycle t y) l₀ m₀ xs (started x.cycle t y) (start_of l₀ m₀).memory.ledger (start_of l₀ m₀).memory.map) none
        (Reached.start e))

    -- a field that may stand at the place k only and moves on to n, before the start: vehicle and cycle are as they are told
    early : (v v' b b' : List ℕ) (k n : ℕ) → k ≤ 3 → n ≤ 3 → among s.place (k ∷ []) ≡ true → v ≡ v' → b ≡ b'
        → Holds (record { place = n; passed = s.passed; holding = holding v b s.holding.tolerances s.holding.method s.holding.samples s.holding.amounts })
        (stage_as x n v' b' x.tolerances x.method x.amounts x.run)
    early v v' b b' k n low next stands same-vehicle same_cycle =
        let p = place_is s.place k stands in
        let l : x.place ≤ 3 = omega (arith, h.place) in
        record {
          place = refl;
          passed = h.passed;
          vehicle = same-vehicle;
          cycle = same_cycle;
          tolerances = h.tolerances;
          method = h.method;
          amounts = h.amounts;
          empty = λ _. h.empty (omega arith);
          waits = λ _. h.waits l;
          begun = λ e _. absurd (omega arith);
          reached = λ e. absurd (omega arith);
        }

    -- an amount, at the place n
    abbrev with_told : Amounts → ℕ → Told
    with_told b n = record { place = n; passed = s.passed; holding = holding s.holding.vehicle s.holding.cycle s.holding.tolerances s.holding.method s.holding.samples b }

    with_amounts_lem : (b c : Amounts) (n : ℕ) → behind_tolerances ≤ n → behind_tolerances ≤ x.place → (n ≤ behind_before → x.place ≤ behind_before) → b ≡ c
        → Holds (with_told b n) (with_amounts x n c)
    with_amounts_lem b c n low late early e = record {
      place = refl;
      passed = h.passed;
      vehicle = h.vehicle;
      cycle = h.cycle;
      tolerances = h.tolerances;
      method = h.method;
      amounts = e;
      empty = λ l. h.empty (early l);
      waits = λ l. absurd (omega arith);
      begun = λ _ l. h.begun late (early l);
      reached = λ _. h.reached late;
    }

    held : (b : Bring) → Here b → Holds (bring_at s (moves_to b) b) (bring_on x (moves_to b) b)
    held nothing z = early s.holding.vehicle x.vehicle s.holding.cycle x.cycle 0 1 (omega arith) (omega arith) z.1 h.vehicle h.cycle
    held (a_number v) z = early v v s.holding.cycle x.cycle 1 2 (omega arith) (omega arith) z.1 refl h.cycle
    held (a_cycle v) z = early s.holding.vehicle x.vehicle v v 2 3 (omega arith) (omega arith) z.1 h.vehicle refl
    held (the_tolerances t) z =
        let p = place_is s.place 3 z.1 in
        let l : x.place ≤ 3 = omega (arith, h.place) in
        let good : valid x.cycle ≡ true = ap valid (sym h.cycle) ∙ z.3 in
        let waits = (h.waits l).0 in
        let start : start_of x.run.memory.ledger x.run.memory.map ≡ start_of l₀ m₀ = ap (λ (y : State). start_of y.memory.ledger y.memory.map) waits in
        record {
          place = refl;
          passed = h.passed;
          vehicle = h.vehicle;
          cycle = h.cycle;
          tolerances = refl;
          method = h.method;
          amounts = h.amounts;
          empty = λ _. h.empty (omega arith);
          waits = λ e. absurd (omega arith);
          begun = λ _ _. start;
          reached = λ _.
              started_anew (start_of x.run.memory.ledger x.run.memory.map) s.holding.samples t x.method (granted t x.method good z.4 (ap is_method (h.waits l).1)) (h.empty (omega arith)) start;
        }
    held (the_stretches y) z =
        let p = place_is s.place behind_tolerances z.1 in
        let late : behind_tolerances ≤ x.place = omega (arith, h.place) in
        let low : x.place ≤ behind_before = omega (arith, h.place) in
        let ok = start_passed x.cycle x.tolerances x.method l₀ m₀ (in_order (plan_on x) l₀ m₀ (h.reached late)).begun in
        record {
          place = refl;
          passed = h.passed;
          vehicle = h.vehicle;
          cycle = h.cycle;
          tolerances = h.tolerances;
          method = refl;
          amounts = h.amounts;
          empty = λ _. h.empty low;
          waits = λ e. absurd (omega arith);
          begun = λ _ _. h.begun late low;
          reached = λ _.
              started_anew x.run s.holding.samples x.tolerances (with_stretches y) (granted x.tolerances (with_stretches y) ok.sound (tolerable_by x.tolerances ok.tolerated) z.3) (h.empty low) (h.begun late low);
        }
    held (own_samples xs) z =
        let q = samples_of f.value in
        let late : behind_tolerances ≤ x.place = omega (arith, h.place, (block_places_lem s.place z.1).0) in
        let g = h.reached late in
        let o = offered_is l₀ m₀ long s x h in
        let p = plan_on x in
        let k = (sizes f.tag (length f.value) a).block z.0 in
        let size : is_block (length q) ≡ true = ap is_block (length-drop 21 f.value) ∙ k.1 in
        let r : Reached p l₀ m₀ (s.holding.samples ++ moments_in q) _ _ _ =
        Reached.block g x.run.progress.offered q
        (accepted_by (run_at x) x.cycle x.run.memory.ledger x.run.memory.map x.run.progress.offered q
        (record { run_ground = never_refused p l₀ m₀ g 0; block = size; first = refl; room = omega (arith, o, z.3.room); samples = z.3.samples })) in
        record {
          place = refl;
          passed = h.passed;
          vehicle = h.vehicle;
          cycle = h.cycle;
          tolerances = h.tolerances;
          method = h.method;
          amounts = h.amounts;
          empty = λ e. absurd (omega arith);
          waits = λ e. absurd (omega arith);
          begun = λ _ e. absurd (omega arith);
          reached = λ _.
              subst (λ (ys : List Moment). let y = taken_on x ys in
              Reached p l₀ m₀ (s.holding.samples ++ ys) (run_to (started x.cycle x.tolerances x.method) y.progress y.stretched) y.memory.ledger y.memory.map) (sym z.2)
              (subst (λ (y : State). Reached p l₀ m₀ (s.holding.samples ++ moments_in q) (run_to (started x.cycle x.tolerances x.method) y.progress y.stretched) y.memory.ledger y.memory.map)
              (taken_list p x.run (moment_at q) (count_in q)) r);
        }
    held (before e) z =
        let (low, high) = before_places s.place z.1 in
        with_amounts_lem (with_before s.holding.amounts e) (with_before x.amounts e) behind_before (omega arith) (omega (arith, h.place)) (λ _. omega (arith, h.place)) (ap (λ (y : Amounts). with_before y e) h.amounts)
    held (after e) z =
        let late = (block_places_lem s.place z.1).0 in
        with_amounts_lem (with_after s.holding.amounts e) (with_after x.amounts e) behind_after (omega arith) (omega (arith, h.place)) (λ l. absurd (omega arith)) (ap (λ (y : Amounts). with_after y e) h.amounts)
    held (charged w) z =
        let late = (recharge_places s.place z.1).0 in
        with_amounts_lem (with_charge s.holding.amounts w) (with_charge x.amounts w) behind_recharge (omega arith) (omega (arith, h.place)) (λ l. absurd (omega arith)) (ap (λ (y : Amounts). with_charge y w) h.amounts)

  pub carries : Carries (λ x. x.place) content_on bring_on pass_on Holds
  carries = record {
    same_place = λ s x h. h.place;
    same_content = λ s x h f a. same_content s x h f;
    kept_brought = λ s x h f a b w.
        let z = says s.passed s.holding.vehicle s.holding.cycle (length s.holding.samples) f.tag f.value s.place w.row w.one w.is w.stands b w.brings in
        subst (λ (n : ℕ). Holds (bring_at s n b) (bring_on x n b)) (sym z.1) (held s x h f a b z.0);
    kept_passed = λ s x h. record {
      place = h.place;
      passed = ap (λ (n : ℕ). n + 1) h.passed;
      vehicle = h.vehicle;
      cycle = h.cycle;
      tolerances = h.tolerances;
      method = h.method;
      amounts = h.amounts;
      empty = h.empty;
      waits = h.waits;
      begun = h.begun;
      reached = h.reached;
    };
  }

  -- all bytes lead it where they lead the lists
  pub joined : (s : Told) (x : Stage) (i : List ℕ) → Holds s x → AlikeRan Holds (run tags take_field s i) (run_on x i)
  joined s x i h = carried (λ y. y.place) content_on bring_on pass_on Holds carries s x i h
