-- A sample that stands in no cycle: in M or E, or behind the last cycle of a regular run.
-- Assumes nothing.
use mathlib.Core.Bool.{Bool, true, false, cond}
use mathlib.Core.List.{List, []}
use mathlib.Core.Path.{◌≡◌, sym, ap, ◌∙◌}
use Prim.Native.Nat.{ℕ, ◌+◌, ◌*◌, ◌≤◌, ◌<◌}
use native.Mathlib.Omega.{arith}
use borrow.Author.Tests.{lt-ltb, le-ltb}
use lib.Dec.{ltb}
use Rattle.numbers.proofs.Order.{digits}
use Rattle.rules.specs.declared.Moment.{Moment}
use Rattle.rules.specs.declared.Tolerances.{Tolerances}
use Rattle.rules.specs.declared.Stretches.{Stretches}
use Rattle.rules.specs.declared.Method.{Method}
use Rattle.rules.specs.declared.Method.TheVariants.{Regular as by_cycles, Shortened as with_stretches}
use Rattle.rules.specs.declared.End.{End}
use Rattle.rules.specs.declared.End.TheVariants.{Stop as stop, Limit as limit}
use Rattle.rules.specs.Bench.{most_cycles, most_offered}
use Rattle.rules.specs.Cycle.{positions}
use Rattle.rules.specs.Course.{row_m, row_e}
use Rattle.rules.specs.Regular.{cycle_of, position_of}
use Rattle.rules.specs.Shortened.{ride, beside, row_of, joint, stand, most_below}
use Rattle.rules.specs.Plan.{plan}
use Rattle.laws.proofs.Shortened.{Stands, rides, in_M, in_E, stands, stand_M, stand_late, stand_E}
use Rattle.laws.proofs.Sound.{Sound, sound, real}
use Rattle.state.specs.declared.Stretched.{Stretched}
use Rattle.state.specs.State.{lent}
use Rattle.step.specs.Step.{ended_by, counted_one, with_watch, watch_in, judge_or_limit}
use Rattle.step.specs.Where.{Going, Taken, standing, progressed, Counts, taking, taken_at, one_beside}
use Rattle.step.proofs.Standing.{row_is}
use Rattle.step.proofs.Steps.{none_counts, judged_beside}

-- ---- sample n of a shortened run, with M of m samples

module _ (b : List ℕ) (m n : ℕ) where
  -- the last of M: the next is the first of cycle 3
  pub resumes : 0 < positions b → row_of b (stand b m n) ≡ row_m → joint b m 2 ≤ n + 1 → stand b m (n + 1) ≡ ride (2 * positions b)
  resumes r e h = go (stands b m n)
    where
      go : Stands b m n → stand b m (n + 1) ≡ ride (2 * positions b)
      go (rides i q r c j) = absurd (let f : cycle_of b i ≡ row_m = rw q at e in omega arith)
      go (in_M q l f) = stand_late b m (n + 1) h (omega arith) ∙ ap ride (omega arith)
      go (in_E q l) = absurd (let f : row_e ≡ row_m = rw q at e in omega arith)

  -- a sample of row c, which is that of M or E
  module _ (c : ℕ) (e : c ≡ row_of b (stand b m n)) (h : most_cycles ≤ c) where
    rides_not : (i : ℕ) → stand b m n ≡ ride i → cycle_of b i < 4 → ⊥
    rides_not i q d = let f : c ≡ cycle_of b i = rw q at e in omega arith

    aside : stand b m n ≡ beside c
    aside = go (stands b m n)
      where
        go : Stands b m n → stand b m n ≡ beside c
        go (rides i q r d j) = absurd (rides_not i q d)
        go (in_M q l f) = q ∙ ap beside (sym (e ∙ ap (row_of b) q))
        go (in_E q l) = q ∙ ap beside (sym (e ∙ ap (row_of b) q))

    -- but for the last of M, the next is in the same stretch
    pub stays : (c ≡ row_m → n + 1 < joint b m 2) → stand b m (n + 1) ≡ stand b m n
    stays near = go (stands b m n)
      where
        go : Stands b m n → stand b m (n + 1) ≡ stand b m n
        go (rides i q r d j) = absurd (rides_not i q d)
        go (in_M q l f) = stand_M b m (n + 1) (omega arith) (near (e ∙ ap (row_of b) q)) ∙ sym q
        go (in_E q l) = stand_E b m (n + 1) (omega arith) ∙ sym q

-- place 2N of the cycles is the first of cycle 3
pub third : (b : List ℕ) → Sound b → (0 ≡ position_of b (2 * positions b)) × (2 ≡ cycle_of b (2 * positions b))
third b o = digits (2 * positions b) (positions b) 2 0 (real o) (omega arith)

-- ---- such a sample is taken

-- a run that ends stands where it stood
ended_is : (b : List ℕ) (w : ℕ) (y : Method) (g : Going) → g ≡ standing b w y g.progress → (e : End)
    → progressed g (ended_by g.progress e) ≡ standing b w y (ended_by g.progress e)
ended_is b w y g stands e = ap (λ (z : Going). progressed z (ended_by g.progress e)) stands

module _ (b : List ℕ) (t : Tolerances) (g : Going) (z : Stretched) (x : Moment) where
  -- in M or E, with the watch w
  module _ (y : Stretches) (k : Counts b t.time (with_stretches y) g) (h : most_cycles ≤ g.row) (w : ℕ)
      (e : w ≡ watch_in (with_stretches y) t.speed g.row x.speed z.watch) where
    abbrev after : ℕ → Bool → Taken
    after w v = taken_at (plan b t (with_stretches y)) (record {
      progress = cond v (ended_by g.progress stop) (counted_one g.progress x);
      stretched = cond v z (with_watch z w);
      memory = lent [] [];
    })

    taken : (v : Bool) → ltb most_below w ≡ v → after w v ≡ one_beside b t (with_stretches y) (taking g z) x
    unfolding judge_or_limit
    taken v q =
        let there = aside b y.length g.progress.counted g.row (row_is b (sound b k.sound) t.time (with_stretches y) g k.stands) h in
        (λ i. after (e i) ((sym q ∙ ap (ltb most_below) e) i))
        ∙ rw (lt-ltb g.progress.counted most_offered (omega (arith, k.few, k.counted)))
        (sym (ap (taken_at (plan b t (with_stretches y))) (judged_beside b t y (taking g z) x g.row there h [] [])))

    -- it stops the run, or it counts
    pub stopped_is : most_below < w → taking (progressed g (ended_by g.progress stop)) z ≡ one_beside b t (with_stretches y) (taking g z) x
    stopped_is l = ap (λ (u : Going). taking u z) (ended_is b t.time (with_stretches y) g k.stands stop) ∙ taken true (lt-ltb most_below w l)

    pub counted_is : w ≤ most_below
        → taking (standing b t.time (with_stretches y) (counted_one g.progress x)) (with_watch z w) ≡ one_beside b t (with_stretches y) (taking g z) x
    counted_is l = taken false (le-ltb most_below w l)

  -- by the regular method the run ends
  pub limited_is : Counts b t.time by_cycles g → most_cycles ≤ g.row
      → taking (progressed g (ended_by g.progress limit)) z ≡ one_beside b t by_cycles (taking g z) x
  unfolding judge_or_limit
  limited_is k h =
      let o = sound b k.sound in
      rw (none_counts b o g.progress.counted (rw (← row_is b o t.time by_cycles g k.stands) h))
      (ap (λ (u : Going). taking u z) (ended_is b t.time by_cycles g k.stands limit))
