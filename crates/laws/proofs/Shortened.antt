-- The shortened method is a course that has the facts, and wider tolerances make a wider rule.
-- Assumes nothing.
use mathlib.Core.Bool.{true, not, ◌&&◌}
use mathlib.Core.List.{List}
use mathlib.Core.Logic.{⊎_elim}
use mathlib.Core.Path.{◌≡◌, sym, ap, ◌∙◌}
use Prim.Native.Nat.{ℕ, suc, ◌+◌, ◌-◌, ◌*◌, ◌≤◌, ◌<◌}
use native.Mathlib.Nat.{le_refl, mul-le-mul_right, div-lt_iff_lt-mul, le-div_iff_mul-le, div-add-mod', mod-lt}
use native.Mathlib.Omega.{arith}
use borrow.Author.Tests.{lt-ltb, le-ltb}
use lib.Dec.{T, leb, ltb, leb→le, eqb→eq, lit<}
use Rattle.rules.specs.Words.{all_below}
use Rattle.numbers.proofs.Order.{side}
use Rattle.numbers.proofs.Tests.{and_mono, leb_mono, all_same, all_at, all_by_lem, true_T, T_true}
use Rattle.rules.specs.declared.Tolerances.{Tolerances}
use Rattle.rules.specs.declared.Stretches.{Stretches}
use Rattle.rules.specs.Bench.{most_cycles, most_positions}
use Rattle.rules.specs.Cycle.{phase_end, positions}
use Rattle.rules.specs.Course.{after, reached, Layout, row_m, row_e}
use Rattle.rules.specs.Parts.{row_part, phase_part}
use Rattle.rules.specs.Regular.{cycle_of}
use Rattle.rules.specs.Shortened.{ride, beside, row_of, joint, stand, shift, begin_of, end_of, shortened_layout}
use Rattle.rules.specs.Shortened.{has_reached, is_below, most_below, stops_in_e, shortened_rule}
use Rattle.laws.specs.Beside.{most_rows}
use Rattle.laws.specs.Claims.{Widened}
use Rattle.laws.proofs.Sound.{Sound}
use Rattle.laws.proofs.Facts.{Orderly, LooksBack, Wider}
use Rattle.laws.proofs.Gathered.{Ends, phase_ends_by}
use Rattle.laws.proofs.Bounds.{row_places, places, places_row}
use Rattle.laws.proofs.Riding.{ride_phase, ride_joined, stand_phase, stand_wider}

-- any bytes as the cycle, and any length of M
module _ (b : List ℕ) (m : ℕ) where
  -- ---- where sample j stands

  -- before M, in M, behind it, in E: by the joints alone
  pub data Joints (j : ℕ) : Type 0 where
    before_two : j < 2 * positions b → Joints j
    at_M : 2 * positions b ≤ j → j < joint b m 2 → Joints j
    behind_M : joint b m 2 ≤ j → j < joint b m 4 → Joints j
    at_E : joint b m 4 ≤ j → Joints j

  pub joints : (j : ℕ) → Joints j
  joints j =
      ⊎_elim before_two
      (λ (h : 2 * positions b < suc j).
      ⊎_elim (at_M (omega arith))
      (λ (g : joint b m 2 < suc j). ⊎_elim (behind_M (omega arith)) (λ (f : joint b m 4 < suc j). at_E (omega arith)) (side (suc j) (joint b m 4)))
      (side (suc j) (joint b m 2)))
      (side (suc j) (2 * positions b))

  -- at place i of the cycles, in one of the first four, or in a stretch
  pub data Stands (j : ℕ) : Type 0 where
    rides : (i : ℕ) → stand b m j ≡ ride i → 0 < positions b → cycle_of b i < 4 → j ≡ shift b m (cycle_of b i) + i → Stands j
    in_M : stand b m j ≡ beside row_m → 2 * positions b ≤ j → j < joint b m 2 → Stands j
    in_E : stand b m j ≡ beside row_e → joint b m 4 ≤ j → Stands j

  -- M stands before cycles 3 and 4
  pub shift_early : (c : ℕ) → c < 2 → shift b m c ≡ 0
  shift_early c h = rw (lt-ltb c 2 h)

  pub shift_late : (c : ℕ) → 2 ≤ c → shift b m c ≡ m
  shift_late c h = rw (le-ltb c 2 h)

  module _ (j : ℕ) where
    pub stand_early : j < 2 * positions b → stand b m j ≡ ride j
    stand_early h = rw (lt-ltb j (2 * positions b) h)

    pub stand_M : 2 * positions b ≤ j → j < joint b m 2 → stand b m j ≡ beside row_m
    stand_M h g = rw (le-ltb j (2 * positions b) h, lt-ltb j (joint b m 2) g)

    pub stand_late : joint b m 2 ≤ j → j < joint b m 4 → stand b m j ≡ ride (j - m)
    stand_late h g = rw (le-ltb j (2 * positions b) (omega arith), le-ltb j (joint b m 2) h, lt-ltb j (joint b m 4) g)

    pub stand_E : joint b m 4 ≤ j → stand b m j ≡ beside row_e
    stand_E h = rw (le-ltb j (2 * positions b) (omega arith), le-ltb j (joint b m 2) (omega arith), le-ltb j (joint b m 4) h)

  pub stands : (j : ℕ) → Stands j
  stands j = go (joints j)
    where
      go : Joints j → Stands j
      go (before_two h) =
          let r : 0 < positions b = omega arith in
          let c : cycle_of b j < 2 = (div-lt_iff_lt-mul r).1 h in
          rides j (stand_early j h) r (omega arith) (omega (arith, shift_early (cycle_of b j) c))
      go (at_M h g) = in_M (stand_M j h g) h g
      go (behind_M h g) =
          let r : 0 < positions b = omega arith in
          let c : cycle_of b (j - m) < 4 = (div-lt_iff_lt-mul r).1 (omega arith) in
          let a : 2 ≤ cycle_of b (j - m) = (le-div_iff_mul-le r).1 (omega arith) in
          rides (j - m) (stand_late j h g) r c (omega (arith, shift_late (cycle_of b (j - m)) a))
      go (at_E h) = in_E (stand_E j h) h

  abbrev l : Layout
  l = shortened_layout b m

  -- ---- the facts

  begun : (j : ℕ) → Stands j → l.begin (l.row j) ≤ j
  begun j (rides i e r c q) = rw (e, lt-ltb (cycle_of b i) 4 c) (omega (arith, div-add-mod' i (positions b)))
  begun j (in_M e g h) = rw e g
  begun j (in_E e g) = rw e g

  row_open : (j : ℕ) → Stands j → T (reached (l.row_end (l.row j)) j) → ⊥
  row_open j (rides i e r c q) =
      rw (e, lt-ltb (cycle_of b i) 4 c)
      (λ (t : T (leb (shift b m (cycle_of b i) + suc (cycle_of b i) * positions b) j)).
      omega (arith, leb→le (shift b m (cycle_of b i) + suc (cycle_of b i) * positions b) j t, div-add-mod' i (positions b), mod-lt i r))
  row_open j (in_M e g h) = rw e (λ (t : T (leb (joint b m 2) j)). omega (arith, leb→le))
  row_open j (in_E e g) = rw e (λ t. t)

  phase_open : (j : ℕ) → Stands j → T (reached (l.phase_end (l.row j) (l.phase j)) j) → ⊥
  phase_open j (rides i e r c q) =
      rw (e, lt-ltb (cycle_of b i) 4 c)
      (ride_phase b i j (λ k. shift b m (cycle_of b i) + (cycle_of b i * positions b + 20 * phase_end b k)) (λ k g. omega (arith, div-add-mod' i (positions b))))
  phase_open j (in_M e g h) = rw e (λ (t : T (leb (joint b m 2) j)). omega (arith, leb→le))
  phase_open j (in_E e g) = rw e (λ t. t)

  few_rows : (j : ℕ) → Stands j → l.row j < most_rows
  few_rows j (rides i e r c q) = rw e (omega arith)
  few_rows j (in_M e g h) = rw e (lit< tt)
  few_rows j (in_E e g) = rw e (lit< tt)

  -- the sample before one that is not its row's first
  joined : (j : ℕ) → Stands (suc j) → l.begin (l.row (suc j)) ≤ j → l.row j ≡ l.row (suc j)
  joined j (rides i e r c q) h = ⊎_elim early late (side (suc (cycle_of b i)) 2)
    where
      begin : shift b m (cycle_of b i) + cycle_of b i * positions b ≤ j
      begin = rw (e, lt-ltb (cycle_of b i) 4 c) at h

      -- sample j stands at the place k before i
      same : (k : ℕ) → i ≡ suc k → cycle_of b i * positions b ≤ k → stand b m j ≡ ride k → l.row j ≡ l.row (suc j)
      same k w g d = ap (row_of b) d ∙ ride_joined b r k (rw w at g) ∙ ap (cycle_of b) (sym w) ∙ ap (row_of b) (sym e)

      early : cycle_of b i < 2 → l.row j ≡ l.row (suc j)
      early a =
          let z = shift_early (cycle_of b i) a in
          let f = (div-lt_iff_lt-mul r).0 a in
          same j (omega arith) (omega (arith, begin)) (stand_early j (omega arith))

      late : 2 < suc (cycle_of b i) → l.row j ≡ l.row (suc j)
      late a =
          let g : 2 ≤ cycle_of b i = omega arith in
          let z = shift_late (cycle_of b i) g in
          let f = (div-lt_iff_lt-mul r).0 c in
          let n : joint b m 2 ≤ j = omega (arith, begin, mul-le-mul_right (positions b) g) in
          same (j - m) (omega arith) (omega (arith, begin)) (stand_late j n (omega arith))
  joined j (in_M e g k) h = let n : 2 * positions b ≤ j = rw e at h in ap (row_of b) (stand_M j n (omega arith) ∙ sym e)
  joined j (in_E e g) h = let n : joint b m 4 ≤ j = rw e at h in ap (row_of b) (stand_E j n ∙ sym e)

  -- behind the fourth there is no cycle
  pub no_such_cycle : (c j : ℕ) → 4 ≤ c → c < most_cycles → (shortened_layout b m).row j ≡ c → ⊥
  no_such_cycle c j g h e = go (stands j)
    where
      go : Stands j → ⊥
      go (rides i q r p z) = let f : cycle_of b i ≡ c = rw q at e in omega arith
      go (in_M q r p) = let f : row_m ≡ c = rw q at e in omega arith
      go (in_E q r) = let f : row_e ≡ c = rw q at e in omega arith

  pub shortened_phase_ends : (c k : ℕ) → Ends (phase_part (shortened_layout b m) c k)
  shortened_phase_ends = phase_ends_by (shortened_layout b m) (λ j. phase_open j (stands j))

-- a cycle that breaks no rule
module _ (b : List ℕ) (m : ℕ) (o : Sound b) where
  pub shortened_orderly : Orderly (shortened_layout b m)
  shortened_orderly = record {
    begun = λ j. begun b m j (stands b m j);
    row_open = λ j. row_open b m j (stands b m j);
    phase_open = λ j. phase_open b m j (stands b m j);
    few_rows = λ j h. few_rows b m j (stands b m j);
    few_phases = λ j. omega (arith, stand_phase b o (stand b m j), o.few_phases);
    joined = λ j. joined b m j (stands b m (suc j));
  }

  -- a cycle has no more samples than the longest
  pub shortened_places : (c k : ℕ) → c < most_cycles → row_places (shortened_layout b m) c k ≤ most_positions
  shortened_places c k h =
      ⊎_elim ridden
      (λ (g : 4 < suc c). places (row_part (shortened_layout b m) c).of 0 most_positions k (λ j q t. absurd (no_such_cycle b m c j (omega arith) h (eqb→eq _ _ t))))
      (side (suc c) 4)
    where
      ridden : c < 4 → row_places (shortened_layout b m) c k ≤ most_positions
      ridden g =
          let e : end_of b m c ≡ after (shift b m c + suc c * positions b) = rw (lt-ltb c 4 g) in
          let f : begin_of b m c ≡ shift b m c + c * positions b = rw (lt-ltb c 4 g) in
          omega (arith, places_row shortened_orderly c (shift b m c + suc c * positions b) k e, o.short)

-- ---- the stop in E

module _ (e u s : ℕ) where
  -- it looks at no later sample
  halts_by : (v v' : ℕ → ℕ) (j : ℕ) → ((i : ℕ) → i ≤ j → v' i ≡ v i) → stops_in_e e u s v' j ≡ stops_in_e e u s v j
  unfolding stops_in_e
  halts_by v v' j h =
      let r = all_same (suc j - e) _ _ (λ i l. ap (λ (x : ℕ). ltb x u) (h (e + i) (omega arith))) in
      let d = all_same most_below _ _ (λ i l. ap (is_below u s) (h (j - i) (omega arith))) in
      λ i. not (r i) && d i

  -- by a wider tolerance no sample comes to be below
  halts_wider : (s' : ℕ) → s ≤ s' → (v : ℕ → ℕ) (j : ℕ) → T (stops_in_e e u s' v j) → T (stops_in_e e u s v j)
  unfolding stops_in_e
  halts_wider s' h v j =
      and_mono (has_reached e u v j) (all_below most_below (λ i. is_below u s' (v (j - i))))
      (has_reached e u v j) (all_below most_below (λ i. is_below u s (v (j - i)))) (λ t. t)
      (λ t. true_T (all_by_lem most_below _ (λ i l. below (v (j - i)) (all_at most_below (λ i. is_below u s' (v (j - i))) (T_true _ t) i l))))
    where
      below : (x : ℕ) → is_below u s' x ≡ true → is_below u s x ≡ true
      below x e = T_true _ (leb_mono (let g : suc (x + s) ≤ suc (x + s') = omega arith in g) (le_refl u) (true_T e))

module _ (b : List ℕ) (x : Stretches) where
  pub shortened_back : (t : Tolerances) → LooksBack (shortened_rule b t x)
  shortened_back t = record { halts_by = halts_by (joint b x.length 4) x.speed t.speed }

  -- all three tolerances for the cycles, the speed tolerance alone for E
  pub shortened_wider : Sound b → (t t' : Tolerances) → Widened t t' → Wider (shortened_rule b t x) (shortened_rule b t' x)
  shortened_wider o t t' w = record {
    outside = λ j. stand_wider b o t t' w (stand b x.length j);
    allowance = w.allowance;
    halts = halts_wider (joint b x.length 4) x.speed t.speed t'.speed w.speed;
  }
