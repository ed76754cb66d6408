-- A shortened run by the joints: how many cycles are finished, which cycle the map shows, what M and E have before they begin, and E's watch.
-- Assumes nothing.
use mathlib.Core.Bool.{Bool, true, false, not, cond}
use mathlib.Core.List.{List}
use mathlib.Core.Logic.{⊎_elim}
use mathlib.Core.Path.{◌≡◌, refl, sym, ap, ◌∙◌}
use Prim.Native.Nat.{ℕ, suc, ◌+◌, ◌-◌, ◌*◌, ◌/◌, ◌≤◌, ◌<◌, min}
use native.Mathlib.Nat.{le_refl, mul-le-mul_right, div-lt_iff_lt-mul, le-div_iff_mul-le, div-add-mod', mod-lt}
use native.Mathlib.Omega.{arith}
use borrow.Author.Tests.{lt-ltb, le-ltb, le-leb, lt-leb, eq-eqb, ne_eqb}
use lib.Dec.{leb, ltb, eqb, eqb→eq, lit<}
use Rattle.rules.specs.Words.{gather, bit}
use Rattle.numbers.proofs.Order.{side, digits}
use Rattle.numbers.proofs.Firsts.{first_is}
use Rattle.numbers.proofs.Range.{fold_none, sum_ℕ}
use Rattle.rules.specs.declared.Moment.{Moment}
use Rattle.rules.specs.declared.Tolerances.{Tolerances}
use Rattle.rules.specs.declared.Stretches.{Stretches}
use Rattle.rules.specs.Bench.{most_cycles}
use Rattle.rules.specs.Cycle.{positions}
use Rattle.rules.specs.Course.{reached, Share, course, row_m, row_e, out, outside}
use Rattle.rules.specs.Parts.{row_part, cycles}
use Rattle.rules.specs.Regular.{interval, cycle_of}
use Rattle.rules.specs.Shortened.{Stand, ride, beside, row_of, joint, stand, shift, end_of, shortened_layout, is_below, shortened_rule}
use Rattle.rules.specs.Shown.{shown_row}
use Rattle.laws.specs.Beside.{watch_next, watch}
use Rattle.laws.proofs.Sound.{Sound, real}
use Rattle.laws.proofs.Maps.{shown_cycle, shown_stays}
use Rattle.laws.proofs.Total.{HasNothing, nothing_before}
use Rattle.laws.proofs.Watch.{watch_before}
use Rattle.laws.proofs.Shortened.{Joints, before_two, at_M, behind_M, at_E, joints, Stands, rides, in_M, in_E, stands}
use Rattle.laws.proofs.Shortened.{shift_early, shift_late, stand_early, stand_M, stand_late, stand_E}

-- nothing stands in a stretch before it begins
module _ (b : List ℕ) (m : ℕ) (h : Share) (s : ℕ → Moment) (k : ℕ) where
  nothing_yet : (c : ℕ) → ((j : ℕ) → j < k → (shortened_layout b m).row j ≡ c → Stands b m j → ⊥)
      → HasNothing h s (row_part (shortened_layout b m) c) k
  nothing_yet c g = nothing_before h s (row_part (shortened_layout b m) c) k (λ j l t. g j l (eqb→eq ((shortened_layout b m).row j) c t) (stands b m j))

  pub before_M : k ≤ 2 * positions b → HasNothing h s (row_part (shortened_layout b m) row_m) k
  before_M g = nothing_yet row_m none
    where
      none : (j : ℕ) → j < k → (shortened_layout b m).row j ≡ row_m → Stands b m j → ⊥
      none j l e (rides i q r c p) = let f : cycle_of b i ≡ row_m = rw q at e in omega arith
      none j l e (in_M q r p) = omega arith
      none j l e (in_E q r) = omega arith

  pub before_E : k ≤ joint b m 4 → HasNothing h s (row_part (shortened_layout b m) row_e) k
  before_E g = nothing_yet row_e none
    where
      none : (j : ℕ) → j < k → (shortened_layout b m).row j ≡ row_e → Stands b m j → ⊥
      none j l e (rides i q r c p) = let f : cycle_of b i ≡ row_e = rw q at e in omega arith
      none j l e (in_M q r p) = let f : row_m ≡ row_e = rw q at e in omega arith
      none j l e (in_E q r) = omega arith

-- the watch of E, sample by sample: only those that stand in E have a part in it
module _ (b : List ℕ) (m : ℕ) where
  in_E_from : (j : ℕ) → eqb ((shortened_layout b m).row j) row_e ≡ leb (joint b m 4) j
  in_E_from j = go (joints b m j)
    where
      not_E : (x : Stand) → stand b m j ≡ x → row_of b x < row_e → j < joint b m 4 → eqb ((shortened_layout b m).row j) row_e ≡ leb (joint b m 4) j
      not_E x e h l =
          let r : (shortened_layout b m).row j ≡ row_of b x = ap (row_of b) e in
          ne_eqb ((shortened_layout b m).row j) row_e (λ (q : (shortened_layout b m).row j ≡ row_e). omega arith) ∙ sym (lt-leb (joint b m 4) j l)

      go : Joints b m j → eqb ((shortened_layout b m).row j) row_e ≡ leb (joint b m 4) j
      go (before_two h) =
          let some : 0 < positions b = omega arith in
          let r : cycle_of b j < 2 = (div-lt_iff_lt-mul some).1 h in
          not_E (ride j) (stand_early b m j h) (omega arith) (omega arith)
      go (at_M h g) = not_E (beside row_m) (stand_M b m j h g) (lit< tt) (omega arith)
      go (behind_M h g) =
          let some : 0 < positions b = omega arith in
          let r : cycle_of b (j - m) < 4 = (div-lt_iff_lt-mul some).1 (omega arith) in
          not_E (ride (j - m)) (stand_late b m j h g) (omega arith) g
      go (at_E h) = eq-eqb ((shortened_layout b m).row j) row_e (ap (row_of b) (stand_E b m j h)) ∙ sym (le-leb (joint b m 4) j h)

  pub watch_by_row : (u s : ℕ) (v : ℕ → ℕ) (n : ℕ) → watch (joint b m 4) u s v (suc n)
      ≡ cond (eqb ((shortened_layout b m).row n) row_e) (watch_next (leb u (v n)) (is_below u s (v n)) (watch (joint b m 4) u s v n)) (watch (joint b m 4) u s v n)
  unfolding watch
  watch_by_row u s v n =
      rw (in_E_from n)
      (⊎_elim (λ (h : joint b m 4 ≤ n). rw (le-leb (joint b m 4) n h))
      (λ (h : n < joint b m 4). rw (lt-leb (joint b m 4) n h, watch_before (joint b m 4) u s v n (omega arith)))
      (side (joint b m 4) n))

-- no sample of a stretch is outside
module _ (b : List ℕ) (t : Tolerances) (x : Stretches) (s : ℕ → Moment) where
  pub no_outside_beside : (c k : ℕ) → most_cycles ≤ c → outside (course (shortened_layout b x.length) (shortened_rule b t x) interval) s c k ≡ 0
  unfolding gather
  no_outside_beside c k h = fold_none ◌+◌ 0 sum_ℕ _ k (λ j l. none j (stands b x.length j))
    where
      neither : (a : Bool) → ◌≡◌ {A = ℕ} (cond a 0 0) 0
      neither true = refl
      neither false = refl

      none : (j : ℕ) → Stands b x.length j
          → cond (eqb ((shortened_layout b x.length).row j) c) (bit (out (course (shortened_layout b x.length) (shortened_rule b t x) interval) s j)) 0 ≡ 0
      none j (rides i q r g p) = rw (q, ne_eqb (cycle_of b i) c (λ (f : cycle_of b i ≡ c). omega arith))
      none j (in_M q r g) = rw q (neither (eqb row_m c))
      none j (in_E q r) = rw q (neither (eqb row_e c))

-- ---- a cycle that breaks no rule

module _ (b : List ℕ) (m : ℕ) (o : Sound b) where
  abbrev N : ℕ
  N = positions b

  -- so many cycles are finished where k shares are closed: each of the first q is, and the next is not
  finished_are : (k q : ℕ) → q ≤ 4 → ((c : ℕ) → c < q → shift b m c + suc c * N ≤ k) → (q < 4 → k < shift b m q + suc q * N)
      → cycles (shortened_layout b m) k ≡ q
  unfolding cycles
  finished_are k q h before next = first_is _ most_cycles q (omega arith) finished (⊎_elim next_open beyond (side (suc q) 4))
    where
      finished : (c : ℕ) → c < q → not (reached (end_of b m c) k) ≡ false
      finished c l = rw (lt-ltb c 4 (omega arith), le-leb (shift b m c + suc c * N) k (before c l))

      next_open : q < 4 → not (reached (end_of b m q) k) ≡ true
      next_open l = rw (lt-ltb q 4 l, lt-leb (shift b m q + suc q * N) k (next l))

      beyond : 4 < suc q → not (reached (end_of b m q) k) ≡ true
      beyond l = let e : q ≡ 4 = omega arith in rw e

  -- by the joints: two cycles before M, and up to four behind it
  pub shortened_cycles : (k : ℕ) → cycles (shortened_layout b m) k
      ≡ cond (ltb k (2 * positions b)) (k / positions b) (cond (ltb k (joint b m 2)) 2 (min 4 ((k - m) / positions b)))
  shortened_cycles k = go (joints b m k)
    where
      x : ℕ
      x = (k - m) / N

      early : (c : ℕ) → c < 2 → 2 * N ≤ k → shift b m c + suc c * N ≤ k
      early c l h = omega (arith, shift_early b m c l, mul-le-mul_right N l)

      before : joint b m 2 ≤ k → (c : ℕ) → c < x → shift b m c + suc c * N ≤ k
      before h c l =
          ⊎_elim (λ g. early c g (omega arith))
          (λ g. omega (arith, shift_late b m c (omega arith), mul-le-mul_right N l, div-add-mod' (k - m) N))
          (side (suc c) 2)

      late : joint b m 2 ≤ k → cycles (shortened_layout b m) k ≡ min 4 x
      late h =
          let two : 2 ≤ x = (le-div_iff_mul-le (real o)).1 (omega arith) in
          let next : k < m + suc x * N = omega (arith, div-add-mod' (k - m) N, mod-lt (k - m) (real o)) in
          ⊎_elim
          (λ (g : suc x ≤ 4). finished_are k x (omega arith) (before h) (λ _. omega (arith, shift_late b m x two)) ∙ omega arith)
          (λ (g : 4 < suc x). finished_are k 4 (le_refl 4) (λ c l. before h c (omega arith)) (λ l. omega arith) ∙ omega arith)
          (side (suc x) 4)

      go : Joints b m k → cycles (shortened_layout b m) k ≡ cond (ltb k (2 * N)) (k / N) (cond (ltb k (joint b m 2)) 2 (min 4 x))
      go (before_two h) =
          let two : k / N < 2 = (div-lt_iff_lt-mul (real o)).1 h in
          rw (lt-ltb k (2 * N) h)
          (finished_are k (k / N) (omega arith) (λ c l. omega (arith, shift_early b m c (omega arith), mul-le-mul_right N l, div-add-mod' k N))
          (λ l. omega (arith, shift_early b m (k / N) two, div-add-mod' k N, mod-lt k (real o))))
      go (at_M h g) =
          rw (le-ltb k (2 * N) h, lt-ltb k (joint b m 2) g)
          (finished_are k 2 (omega arith) (λ c l. early c l h) (λ l. omega (arith, shift_late b m 2 (le_refl 2))))
      go (behind_M h g) = rw (le-ltb k (2 * N) (omega arith), le-ltb k (joint b m 2) h) (late h)
      go (at_E h) = rw (le-ltb k (2 * N) (omega arith), le-ltb k (joint b m 2) (omega arith)) (late (omega arith))

  -- ---- the cycle last judged: that of the sample, cycle 2 through M, cycle 4 through E

  -- where sample j stands in cycle c
  shown_row_lem : (j c : ℕ) (x : Stand) → stand b m j ≡ x → row_of b x ≡ c → c < most_cycles → shown_row (shortened_layout b m) (suc j) ≡ c
  shown_row_lem j c x e q h = let r : (shortened_layout b m).row j ≡ c = ap (row_of b) e ∙ q in shown_cycle (shortened_layout b m) j (omega arith) ∙ r

  shown_two : shown_row (shortened_layout b m) (2 * N) ≡ 1
  shown_two =
      let e : suc (2 * N - 1) ≡ 2 * N = omega (arith, real o) in
      ap (shown_row (shortened_layout b m)) (sym e)
      ∙ shown_row_lem (2 * N - 1) 1 (ride (2 * N - 1)) (stand_early b m (2 * N - 1) (omega (arith, real o)))
      (sym (digits (2 * N - 1) N 1 (N - 1) (omega (arith, real o)) (omega (arith, real o))).1) (lit< tt)

  shown_four : shown_row (shortened_layout b m) (joint b m 4) ≡ 3
  shown_four =
      let j = joint b m 4 - 1 in
      let e : suc j ≡ joint b m 4 = omega (arith, real o) in
      ap (shown_row (shortened_layout b m)) (sym e)
      ∙ shown_row_lem j 3 (ride (j - m)) (stand_late b m j (omega (arith, real o)) (omega arith))
      (sym (digits (j - m) N 3 (N - 1) (omega (arith, real o)) (omega (arith, real o))).1) (lit< tt)

  pub shown_shortened : (j : ℕ) → shown_row (shortened_layout b m) (suc j)
      ≡ cond (ltb j (2 * positions b)) (j / positions b) (cond (ltb j (joint b m 2)) 1 (cond (ltb j (joint b m 4)) ((j - m) / positions b) 3))
  shown_shortened j = go (joints b m j)
    where
      go : Joints b m j → shown_row (shortened_layout b m) (suc j)
          ≡ cond (ltb j (2 * N)) (j / N) (cond (ltb j (joint b m 2)) 1 (cond (ltb j (joint b m 4)) ((j - m) / N) 3))
      go (before_two h) =
          let two : j / N < 2 = (div-lt_iff_lt-mul (real o)).1 h in
          rw (lt-ltb j (2 * N) h) (shown_row_lem j (j / N) (ride j) (stand_early b m j h) refl (omega arith))
      go (at_M h g) =
          rw (le-ltb j (2 * N) h, lt-ltb j (joint b m 2) g)
          (shown_stays (shortened_layout b m) (2 * N) (suc j) (omega arith) (λ i l k. omega (arith, ap (row_of b) (stand_M b m i l (omega arith)))) ∙ shown_two)
      go (behind_M h g) =
          let four : (j - m) / N < 4 = (div-lt_iff_lt-mul (real o)).1 (omega arith) in
          rw (le-ltb j (2 * N) (omega arith), le-ltb j (joint b m 2) h, lt-ltb j (joint b m 4) g)
          (shown_row_lem j ((j - m) / N) (ride (j - m)) (stand_late b m j h g) refl (omega arith))
      go (at_E h) =
          rw (le-ltb j (2 * N) (omega arith), le-ltb j (joint b m 2) (omega arith), le-ltb j (joint b m 4) h)
          (shown_stays (shortened_layout b m) (joint b m 4) (suc j) (omega arith) (λ i l k. omega (arith, ap (row_of b) (stand_E b m i l))) ∙ shown_four)
