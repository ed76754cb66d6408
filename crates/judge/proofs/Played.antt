-- The join: the accepted samples, taken one after another from a start, leave exactly the figures of the rules in progress, stretches, ledger and map.
-- Assumes nothing.
use mathlib.Core.Bool.{Bool, true, false, cond, ◌||◌}
use mathlib.Core.List.{List}
use mathlib.Core.Logic.{⊎_elim}
use mathlib.Core.Path.{◌≡◌, refl, sym, ap, subst, subst⁻¹, ◌∙◌}
use Prim.Native.Nat.{ℕ, zero, suc, ◌+◌, ◌-◌, ◌*◌, ◌≤◌, ◌<◌, min}
use native.Mathlib.Nat.{le_refl, le_step}
use native.Mathlib.Omega.{arith}
use native.Mathlib.Numerals.{add-one}
use lib.Dec.{ltb}
use lib.IntN.{ℤ}
use lib.ListN.{length}
use borrow.Author.Tests.{lt-ltb, le-ltb, ne_eqb}
use Rattle.numbers.proofs.Order.{side}
use Rattle.rules.specs.Words.{fold}
use Rattle.rules.specs.declared.Moment.{Moment}
use Rattle.rules.specs.declared.End.{End}
use Rattle.rules.specs.declared.End.TheVariants.{None as none, Stop as stop, Limit as limit}
use Rattle.laws.specs.Beside.{is_open, stand_of}
use Rattle.rules.specs.Bench.{no_moment, most_positions, most_cycles}
use Rattle.rules.specs.Course.{Layout, Rule, Course, out, stops_at, counted, judged, closed, ending}
use Rattle.rules.specs.Shortened.{most_below}
use Rattle.rules.specs.Tally as tally
use Rattle.rules.specs.Plan.{Plan, layout_of, rule_of, course_of}
use Rattle.rules.specs.Shown.{ledger_numbers, map_words}
use Rattle.laws.proofs.Facts.{Lawful, Orderly}
use Rattle.laws.proofs.Longer.{over, judged_over}
use Rattle.laws.proofs.Next.{Going, going, judged_all, Next, limits, stops, goes, next, closed_before, closed_next, count_within}
use Rattle.laws.proofs.Plans.{planned_orderly, planned_lawful, begin_first}
use Rattle.laws.proofs.Sound.{Sound}
use Rattle.laws.proofs.Tally.{counted_le}
use Rattle.ledger.specs.Row.{interval_added, is_over}
use Rattle.state.specs.declared.Progress.{Progress}
use Rattle.state.specs.State.{Memory}
use Rattle.step.specs.Step.{State, last_of, held_of, stretched_of, ended_by, counted_one, only_offered, open_row, open_phase, interval_closed, stretch_closed, with_watch}
use Rattle.step.specs.Step.{watch_now, over_now, memory_now, judge, closed_with, limited, judge_or_limit, open_taken_by, sample_taken, samples_taken, start_of}
use Rattle.step.proofs.Standing.{place_small}
use Rattle.judge.proofs.LedgerShows.{LedgerShows, ledger_closes, ledger_beside, ledger_judged, ledger_unjudged, test_over}
use Rattle.judge.proofs.MapShows.{MapShows, map_next, map_stays}
use Rattle.judge.proofs.Blank.{ledger_start, map_start}
use Rattle.judge.proofs.StretchesShow.{watch_next_lem, halts_watched, none_stretched, stretches_close}
use Rattle.judge.proofs.Beside.{none_outside, some_room}

-- the progress of a run of which n samples are offered
abbrev pub progress_of : Course → (ℕ → Moment) → ℕ → Progress
progress_of c s n = record { offered = n; counted = counted c s n; end = ending c s n; held = held_of c s n }

-- a state that shows n samples, on memory that was l₀ and m₀
pub record Shows (p : Plan) (s : ℕ → Moment) (l₀ : List ℤ) (m₀ : List ℕ) (n : ℕ) (a : State) : Type 0 where
  pub progress : a.progress ≡ progress_of (course_of p) s n
  pub stretched : a.stretched ≡ stretched_of p s (closed (course_of p) s n) (counted (course_of p) s n)
  pub in_ledger : LedgerShows (course_of p) s l₀ (closed (course_of p) s n) (judged (course_of p) s n) a.memory.ledger
  pub in_map : MapShows (course_of p) s m₀ (judged (course_of p) s n) a.memory.map

module _ (p : Plan) (s : ℕ → Moment) (l₀ : List ℤ) (m₀ : List ℕ) (sound : Sound p.cycle) where
  abbrev c : Course
  c = course_of p

  abbrev y : Layout
  y = layout_of p.cycle p.method

  abbrev d : Rule
  d = rule_of p.cycle p.tolerances p.method

  lawful : Lawful c
  lawful = planned_lawful p

  orderly : Orderly c.layout
  orderly = planned_orderly p.cycle sound p.method

  -- what shows k closed shares, m counted and j judged samples shows those after n samples, where these are as many
  with_counts_lem : {n k m j : ℕ} {a : State} → closed c s n ≡ k → counted c s n ≡ m → judged c s n ≡ j → a.progress ≡ progress_of c s n
      → a.stretched ≡ stretched_of p s k m → LedgerShows c s l₀ k j a.memory.ledger → MapShows c s m₀ j a.memory.map → Shows p s l₀ m₀ n a
  with_counts_lem {n} {k} {m} {j} {a} e f d g z l w = record {
    progress = g;
    stretched = z ∙ (λ i. stretched_of p s (sym e i) (sym f i));
    in_ledger =
        subst⁻¹ (λ (i : ℕ). LedgerShows c s l₀ i (judged c s n) a.memory.ledger) e
        (subst⁻¹ (λ (i : ℕ). LedgerShows c s l₀ k i a.memory.ledger) d l);
    in_map = subst⁻¹ (λ (i : ℕ). MapShows c s m₀ i a.memory.map) d w;
  }

  -- interval j is closed, in the ledger where it is a cycle's
  closes : (j k : ℕ) (l : List ℤ) → LedgerShows c s l₀ j k l → LedgerShows c s l₀ (suc j) k (interval_closed (y.row j) (y.phase j) l (s j) (s (suc j)))
  unfolding interval_closed
  closes j k l h =
      ⊎_elim (λ (g : y.row j < most_cycles). rw (lt-ltb (y.row j) most_cycles g) (ledger_closes y d s l₀ j k l g (orderly.few_phases j) h))
      (λ (g : most_cycles < suc (y.row j)). rw (le-ltb (y.row j) most_cycles (omega arith)) (ledger_beside y d s l₀ j k l (omega arith) h)) (side (suc (y.row j)) most_cycles)

  -- sample n closes the open interval, where there is one
  closed_shows : (n : ℕ) (l : List ℤ) → LedgerShows c s l₀ (n - 1) n l → LedgerShows c s l₀ n n (interval_closed (open_row y n) (open_phase y n) l (last_of s n) (s n))
  unfolding interval_closed
  closed_shows zero l h = h
  closed_shows (suc j) l h =
      let back : suc j - 1 ≡ j = omega arith in
      let before = subst (λ (i : ℕ). LedgerShows c s l₀ i (suc j) l) back h in
      rw (ne_eqb (suc j) 0 (λ e. omega arith))
      (subst⁻¹ (λ (i : ℕ). LedgerShows c s l₀ (suc j) (suc j) (cond (ltb (y.row i) most_cycles) (interval_added (9 * y.row i) l (y.phase i) (s j) (s (suc j))) l)) back
      (closes j (suc j) l before))

  -- after the end
  ended : (n : ℕ) (a : State) → Shows p s l₀ m₀ n a → is_open (ending c s n) ≡ false → Shows p s l₀ m₀ (suc n) (only_offered a)
  ended n a h o =
      let more = le_step (le_refl n) in
      let v = over c lawful s s n (suc n) more (λ j l. refl) o in
      let g = h.progress in
      let shut : is_open (ending c s (suc n)) ≡ false = ap is_open v.ending_same ∙ o in
      let none_held : held_of c s n ≡ held_of c s (suc n) =
      ap (λ (x : Bool). cond x (last_of s n) no_moment) o ∙ sym (ap (λ (x : Bool). cond x (s n) no_moment) shut) in
      with_counts_lem v.closed_same v.counted_same (judged_over c lawful s s n (suc n) more (λ j l. refl) v)
      (λ i. record {
        offered = (ap (λ (x : Progress). x.offered + 1) g ∙ add-one n) i;
        counted = (ap (λ (x : Progress). x.counted) g ∙ sym v.counted_same) i;
        end = (ap (λ (x : Progress). x.end) g ∙ sym v.ending_same) i;
        held = (ap (λ (x : Progress). x.held) g ∙ none_held) i;
      })
      h.stretched h.in_ledger h.in_map

  -- sample n of an open run: the state before it, and what it has counted
  module _ (n : ℕ) (a : State) (h : Shows p s l₀ m₀ n a) (o : is_open (ending c s n) ≡ true) where
    g : Going c lawful.near.soon s n
    g = going c lawful.near.soon s n o

    abbrev p₀ : Progress
    p₀ = record { offered = n; counted = n; end = ending c s n; held = last_of s n }

    abbrev a₀ : State
    a₀ = record { progress = p₀; stretched = stretched_of p s (n - 1) n; memory = a.memory }

    as_shown : a ≡ a₀
    as_shown =
        let e = h.progress
        ∙ (λ i. record { offered = n; counted = g.all i; end = ending c s n; held = cond (o i) (last_of s n) no_moment }) in
        let f = h.stretched ∙ (λ i. stretched_of p s (closed_before c lawful.near.soon refl s g i) (g.all i)) in
        λ i. record { progress = e i; stretched = f i; memory = a.memory }

    hl : LedgerShows c s l₀ (n - 1) n a.memory.ledger
    hl =
        subst (λ (i : ℕ). LedgerShows c s l₀ i n a.memory.ledger) (closed_before c lawful.near.soon refl s g)
        (subst (λ (i : ℕ). LedgerShows c s l₀ (closed c s n) i a.memory.ledger) (judged_all c lawful.near.soon s g) h.in_ledger)

    hm : MapShows c s m₀ n a.memory.map
    hm = subst (λ (i : ℕ). MapShows c s m₀ i a.memory.map) (judged_all c lawful.near.soon s g) h.in_map

    -- once the open interval is closed
    abbrev z : State
    z = closed_with p a₀ (s n)

    hz : LedgerShows c s l₀ n n z.memory.ledger
    hz = closed_shows n a.memory.ledger hl

    zz : z.stretched ≡ stretched_of p s n n
    zz = stretches_close p s n n

    -- the progress after it, as the rules have it
    after_is : (m : ℕ) (e : End) → counted c s (suc n) ≡ m → ending c s (suc n) ≡ e
        → record { offered = n + 1; counted = m; end = e; held = cond (is_open e) (s n) no_moment } ≡ progress_of c s (suc n)
    after_is m e hm he = λ i. record { offered = add-one n i; counted = sym hm i; end = sym he i; held = cond (is_open (sym he i)) (s n) no_moment }

    limited_one : counted c s (suc n) ≡ n → judged c s (suc n) ≡ n → ending c s (suc n) ≡ limit → Shows p s l₀ m₀ (suc n) (limited z)
    limited_one m j d = with_counts_lem (closed_next c lawful.near.soon refl s g) m j (after_is n limit m d) zz hz hm

    module _ (short : n < y.most) where
      -- the watch with it
      watch_is : watch_now p z (s n) ≡ (stretched_of p s n (suc n)).watch
      unfolding stretch_closed
      watch_is = watch_next_lem p.cycle p.tolerances.speed p.method s n

      -- the code's test is the rules': by the watch, and by the outside count
      counts_over : is_over (9 * y.row n) z.memory.ledger (out c s n) d.allowance ≡ tally.over y.row (out c s) d.allowance n
      counts_over =
          ⊎_elim (λ (r : y.row n < most_cycles). test_over y d s l₀ n n z.memory.ledger r hz (count_within c orderly s n g.all))
          (λ (r : most_cycles < suc (y.row n)). none_outside p sound s n z.memory.ledger (omega arith) short) (side (suc (y.row n)) most_cycles)

      tested : over_now p z (s n) ≡ stops_at c s n
      tested =
          let w = ap (ltb most_below) watch_is ∙ halts_watched p.cycle p.tolerances p.method s n in
          λ i. w i || counts_over i

      -- the memory after it
      abbrev Memories : Memory → Type 0
      Memories q = LedgerShows c s l₀ n (suc n) q.ledger × MapShows c s m₀ (suc n) q.map

      memory_after : Memories (memory_now p z (s n))
      memory_after =
          ⊎_elim
          (λ (r : y.row n < most_cycles).
          let e = begin_first p.cycle p.method n r in
          let small : n - y.begin (y.row n) < most_positions = omega (arith, e, place_small p.cycle sound (stand_of p.cycle p.method n), sound.short) in
          rw (lt-ltb (y.row n) most_cycles r) (ledger_judged y d s l₀ n n z.memory.ledger r hz, map_next c orderly s n r small m₀ a.memory.map hm))
          (λ (r : most_cycles < suc (y.row n)).
          let r' : most_cycles ≤ y.row n = omega arith in
          rw (le-ltb (y.row n) most_cycles r') (ledger_unjudged y d s l₀ n n z.memory.ledger r' hz, map_stays c s n r' m₀ a.memory.map hm))
          (side (suc (y.row n)) most_cycles)

      -- the state after it, where x says whether it stops the run
      judged_as : (x : Bool) → stops_at c s n ≡ x → judge p z (s n) ≡ record {
        progress = cond x (ended_by p₀ stop) (counted_one p₀ (s n));
        stretched = cond x z.stretched (with_watch z.stretched (watch_now p z (s n)));
        memory = memory_now p z (s n);
      }
      unfolding judge
      judged_as x e = ap (λ (v : Bool). record {
        progress = cond v (ended_by p₀ stop) (counted_one p₀ (s n));
        stretched = cond v z.stretched (with_watch z.stretched (watch_now p z (s n)));
        memory = memory_now p z (s n);
      }) (tested ∙ e)

      stops_one : stops_at c s n ≡ true → counted c s (suc n) ≡ n → judged c s (suc n) ≡ suc n → ending c s (suc n) ≡ stop → Shows p s l₀ m₀ (suc n) (judge p z (s n))
      stops_one e m j q =
          subst⁻¹ (Shows p s l₀ m₀ (suc n)) (judged_as true e)
          (with_counts_lem (closed_next c lawful.near.soon refl s g) m j (after_is n stop m q) zz memory_after.0 memory_after.1)

      goes_one : stops_at c s n ≡ false → counted c s (suc n) ≡ suc n → judged c s (suc n) ≡ suc n → ending c s (suc n) ≡ none → Shows p s l₀ m₀ (suc n) (judge p z (s n))
      goes_one e m j q =
          subst⁻¹ (Shows p s l₀ m₀ (suc n)) (judged_as false e)
          (with_counts_lem (closed_next c lawful.near.soon refl s g) m j (after_is (n + 1) none (m ∙ sym (add-one n)) q)
          ((λ i. with_watch (zz i) (watch_now p z (s n))) ∙ ap (with_watch (stretched_of p s n n)) watch_is) memory_after.0 memory_after.1)

    taken_one : Shows p s l₀ m₀ (suc n) (open_taken_by p a (s n))
    unfolding judge_or_limit
    taken_one = subst⁻¹ (λ (x : State). Shows p s l₀ m₀ (suc n) (open_taken_by p x (s n))) as_shown (go (next c lawful.near.soon s g))
      where
        go : Next c lawful.near.soon s n → Shows p s l₀ m₀ (suc n) (cond (ltb n y.most) (judge p z (s n)) (limited z))
        go (limits e m j d) = rw (le-ltb n y.most (omega arith)) (limited_one m j d)
        go (stops l e m j d) = rw (lt-ltb n y.most l) (stops_one l e m j d)
        go (goes l e m j d) =
            let goes_on : ending c s (suc n) ≡ none = d ∙ rw (closed_next c lawful.near.soon refl s g, lt-ltb n y.most l) in
            rw (lt-ltb n y.most l) (goes_one l e m j goes_on)

  shows_step : (n : ℕ) (a : State) → Shows p s l₀ m₀ n a → Shows p s l₀ m₀ (suc n) (sample_taken p a (s n))
  unfolding sample_taken
  shows_step n a h = rw (ap (λ (x : Progress). is_open x.end) h.progress) (go (is_open (ending c s n)) refl)
    where
      go : (x : Bool) → is_open (ending c s n) ≡ x → Shows p s l₀ m₀ (suc n) (cond x (open_taken_by p a (s n)) (only_offered a))
      go true o = taken_one n a h o
      go false o = ended n a h o

  -- on memory that is long enough
  module _ (long_ledger : ledger_numbers ≤ length l₀) (long_map : map_words ≤ length m₀) where
    -- before the first sample
    none_counted : counted c s 0 ≡ 0
    none_counted = omega (arith, (counted_le (stops_at c s) y.most 0).0)

    none_held : (x : Bool) → no_moment ≡ cond x no_moment no_moment
    none_held true = refl
    none_held false = refl

    pub shows : (n : ℕ) → Shows p s l₀ m₀ n (samples_taken p (start_of l₀ m₀) s n)
    unfolding fold
    shows zero =
        let some : 0 < y.most = some_room p sound in
        let m = none_counted in
        let open-yet : ending c s 0 ≡ none = rw (le-ltb (counted c s 0) (min 0 y.most) (omega arith), lt-ltb (closed c s 0) y.most (omega arith)) in
        let none-judged : judged c s 0 ≡ 0 = rw (le-ltb (counted c s 0) (min 0 y.most) (omega arith)) (omega arith) in
        let none-closed : closed c s 0 ≡ 0 = omega (arith, m) in
        with_counts_lem none-closed m none-judged (λ i. record { offered = 0; counted = sym m i; end = sym open-yet i; held = none_held (is_open (ending c s 0)) i })
        (none_stretched p s) (ledger_start c s l₀ long_ledger) (map_start c s m₀ long_map)
    shows (suc n) = shows_step n _ (shows n)
