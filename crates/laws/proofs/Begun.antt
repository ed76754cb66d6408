-- When a phase, a cycle or a stretch has begun, and when it is finished, by the number of its first sample.
-- Assumes nothing.
use mathlib.Core.Bool.{Bool, true, false, not, cond, ◌&&◌, and-false}
use mathlib.Core.List.{List}
use mathlib.Core.Logic.{⊎_elim}
use mathlib.Core.Path.{◌≡◌, refl, sym, ap, ◌∙◌}
use Prim.Native.Nat.{ℕ, zero, suc, ◌+◌, ◌-◌, ◌*◌, ◌/◌, ◌%◌, ◌≤◌, ◌<◌, zero-le}
use native.Mathlib.Nat.{le_of_suc-le-suc, eq-or-lt_of_le, mul-le-mul_right, not-suc-le-zero}
use native.Mathlib.Omega.{arith}
use borrow.Author.Tests.{lt-ltb, le-ltb, lt-leb, eq-eqb, ne_eqb}
use lib.Dec.{T, leb, ltb, eqb, eqb→eq}
use Rattle.rules.specs.Words.{all_below}
use Rattle.numbers.proofs.Order.{side, digits}
use Rattle.numbers.proofs.Firsts.{first_is}
use Rattle.numbers.proofs.Tests.{refuted, true_T, both_T, all_by_lem, all_fails}
use Rattle.rules.specs.declared.Method.{Method}
use Rattle.rules.specs.declared.Method.TheVariants.{Regular as by_cycles, Shortened as with_stretches}
use Rattle.rules.specs.declared.Stretches.{Stretches}
use Rattle.rules.specs.Bench.{most_cycles, most_offered}
use Rattle.rules.specs.Cycle.{phases, phase_start, phase_end, positions, phase_at}
use Rattle.rules.specs.Course.{Bound, never, after, reached, Layout, row_m, row_e}
use Rattle.rules.specs.Parts.{Part, row_part, phase_part, finished}
use Rattle.rules.specs.Regular.{most}
use Rattle.rules.specs.Shortened.{ride, row_of, phase_of, joint}
use Rattle.rules.specs.Plan.{layout_of}
use Rattle.laws.specs.Beside.{stand_of}
use Rattle.laws.proofs.Sound.{Sound, real, rising, ends_within, phase_least}
use Rattle.laws.proofs.Plans.{planned_orderly, planned_row, planned_phase, planned_no_such_phase, no_stretch_lem}
use Rattle.laws.proofs.Shortened.{stand_early, stand_M, stand_late, stand_E, no_such_cycle}

-- ---- a part has begun where one of its samples is among the first m

abbrev pub has_begun : Part → ℕ → Bool
has_begun part m = not (all_below m (λ j. not (part.of j)))

pub begun_nowhere : (part : Part) (m : ℕ) → ((j : ℕ) → j < m → T (part.of j) → ⊥) → has_begun part m ≡ false
begun_nowhere part m none = ap not (all_by_lem m (λ j. not (part.of j)) (λ j l. ap not (refuted (part.of j) (λ e. none j l (true_T e)))))

-- its first sample is a
pub begun_from : (part : Part) (a m : ℕ) → ((j : ℕ) → j < a → T (part.of j) → ⊥) → part.of a ≡ true → has_begun part m ≡ ltb a m
begun_from part a m before at =
    ⊎_elim (λ (l : a < m). ap not (all_fails m a (λ j. not (part.of j)) l (ap not at)) ∙ sym (lt-ltb a m l))
    (λ (l : m < suc a). begun_nowhere part m (λ j g. before j (omega arith)) ∙ sym (le-ltb a m (omega arith)))
    (side (suc a) m)

-- the end of a part that may not exist
pub reached_where : (t : Bool) (e m : ℕ) → reached (cond t (after e) never) m ≡ (t && leb e m)
reached_where true e m = refl
reached_where false e m = refl

-- ---- the first position of a phase

module _ (b : List ℕ) (o : Sound b) where
  -- an earlier phase ends where a later one starts, or before
  ends_before : (k j : ℕ) → k < phases b → j < k → phase_end b j ≤ phase_start b k
  ends_before zero j h l = absurd (not-suc-le-zero l)
  ends_before (suc k) j h l =
      ⊎_elim (λ (e : j ≡ k). let f = ap (phase_end b) e in omega arith)
      (λ g. omega (arith, ends_before k j (omega arith) g, rising o k (omega arith)))
      (eq-or-lt_of_le (le_of_suc-le-suc l))

  pub phase_at_start : (k : ℕ) → k < phases b → phase_at b (20 * phase_start b k) ≡ k
  unfolding phase_at
  phase_at_start k h =
      first_is (λ i. ltb (20 * phase_start b k) (20 * phase_end b i)) (phases b) k h
      (λ j l. le-ltb (20 * phase_start b k) (20 * phase_end b j) (omega (arith, ends_before k j h l)))
      (lt-ltb (20 * phase_start b k) (20 * phase_end b k) (omega (arith, rising o k h)))

  -- a position before it lies in an earlier phase
  pub phase_not_yet : (k p : ℕ) → p < 20 * phase_start b k → phase_at b p ≡ k → ⊥
  phase_not_yet zero p l e = omega arith
  phase_not_yet (suc k) p l e = omega (arith, phase_least b p k l)

-- ---- a row of the ledger: where it begins, and where it and its phases end

-- row c is a cycle, whose first sample is a
pub record Rides (b : List ℕ) (y : Method) (c a : ℕ) : Type 0 where
  pub standing : (d : ℕ) → d < positions b → stand_of b y (a + d) ≡ ride (c * positions b + d)
  pub begins : (layout_of b y).begin c ≡ a
  pub row_end_lem : (layout_of b y).row_end c ≡ after (a + positions b)
  pub phase_end_lem : (k : ℕ) → (layout_of b y).phase_end c k ≡ cond (ltb k (phases b)) (after (a + 20 * phase_end b k)) never

-- no sample stands in row c
pub record Absent (b : List ℕ) (y : Method) (c : ℕ) : Type 0 where
  pub nowhere : (j : ℕ) → (layout_of b y).row j ≡ c → ⊥
  pub row_never : (layout_of b y).row_end c ≡ never
  pub phase_never : (k : ℕ) → (layout_of b y).phase_end c k ≡ never

-- either, and where there is no such cycle a is a sample that is never offered
pub data Begins (b : List ℕ) (y : Method) (c a : ℕ) : Type 0 where
  there : Rides b y c a → Begins b y c a
  nowhere : Absent b y c → most_offered < a → Begins b y c a

module _ (b : List ℕ) where
  pub regular_rides : (c : ℕ) → Rides b by_cycles c (c * positions b)
  regular_rides c =
      let e : suc c * positions b ≡ c * positions b + positions b = omega arith in
      record { standing = λ d l. refl; begins = refl; row_end_lem = ap after e; phase_end_lem = λ k. refl }

  module _ (x : Stretches) where
    pub early_rides : (c : ℕ) → c < 2 → Rides b (with_stretches x) c (c * positions b)
    early_rides c h =
        let four = lt-ltb c 4 (omega arith) in
        let two = lt-ltb c 2 h in
        let few = mul-le-mul_right (positions b) h in
        let e : 0 + suc c * positions b ≡ c * positions b + positions b = omega arith in
        record {
          standing = λ d l. stand_early b x.length (c * positions b + d) (omega (arith, few));
          begins = rw (four, two) (omega arith);
          row_end_lem = rw (four, two) (ap after e);
          phase_end_lem = λ k.
              let f : 0 + (c * positions b + 20 * phase_end b k) ≡ c * positions b + 20 * phase_end b k = omega arith in
              rw (four, two) (ap (λ (n : ℕ). cond (ltb k (phases b)) (after n) never) f);
        }

    pub late_rides : (c : ℕ) → 2 ≤ c → c < 4 → Rides b (with_stretches x) c (x.length + c * positions b)
    late_rides c g h =
        let m = x.length in
        let four = lt-ltb c 4 h in
        let two = le-ltb c 2 g in
        let few = mul-le-mul_right (positions b) h in
        let some = mul-le-mul_right (positions b) g in
        let e : m + suc c * positions b ≡ m + c * positions b + positions b = omega arith in
        record {
          standing = λ d l.
              let i : m + c * positions b + d - m ≡ c * positions b + d = omega arith in
              stand_late b m (m + c * positions b + d) (omega (arith, some)) (omega (arith, few)) ∙ ap ride i;
          begins = rw (four, two);
          row_end_lem = rw (four, two) (ap after e);
          phase_end_lem = λ k.
              let f : m + (c * positions b + 20 * phase_end b k) ≡ m + c * positions b + 20 * phase_end b k = omega arith in
              rw (four, two) (ap (λ (n : ℕ). cond (ltb k (phases b)) (after n) never) f);
        }

    pub absent_behind : (c : ℕ) → 4 ≤ c → c < most_cycles → Absent b (with_stretches x) c
    absent_behind c g h =
        let four = le-ltb c 4 g in
        let other = ne_eqb c row_m (λ (e : c ≡ row_m). omega arith) in
        record {
          nowhere = λ j e. no_such_cycle b x.length c j g h e;
          row_never = rw (four, other);
          phase_never = λ k. rw (four, other) (neither (eqb k 0));
        }
      where
        neither : (t : Bool) → cond t never never ≡ never
        neither true = refl
        neither false = refl

module _ (b : List ℕ) (o : Sound b) (y : Method) (c a : ℕ) where
  abbrev l : Layout
  l = layout_of b y

  -- position d of the cycle
  module _ (r : Rides b y c a) (d : ℕ) (h : d < positions b) where
    parts : (d ≡ (c * positions b + d) % positions b) × (c ≡ (c * positions b + d) / positions b)
    parts = digits (c * positions b + d) (positions b) c d h refl

    row_at : l.row (a + d) ≡ c
    row_at = planned_row b y (a + d) ∙ ap (row_of b) (r.standing d h) ∙ sym parts.1

    phase_at_lem : l.phase (a + d) ≡ phase_at b d
    phase_at_lem = planned_phase b y (a + d) ∙ ap (phase_of b) (r.standing d h) ∙ ap (phase_at b) (sym parts.0)

  -- a sample of the cycle is not before its first
  not_before_lem : Rides b y c a → (j : ℕ) → l.row j ≡ c → a ≤ j
  not_before_lem r j e = omega (arith, (planned_orderly b o y).begun j, ap l.begin e, r.begins)

  module _ (m : ℕ) where
    ridden_begun : Rides b y c a → has_begun (row_part l c) m ≡ ltb a m
    ridden_begun r =
        let e : a + 0 ≡ a = omega arith in
        begun_from (row_part l c) a m (λ j g t. omega (arith, not_before_lem r j (eqb→eq (l.row j) c t)))
        (eq-eqb (l.row a) c (ap l.row (sym e) ∙ row_at r 0 (real o)))

    ridden_phase : Rides b y c a → (k : ℕ) → k < phases b → has_begun (phase_part l c k) m ≡ ltb (a + 20 * phase_start b k) m
    ridden_phase r k h =
        let within : 20 * phase_start b k < positions b = omega (arith, rising o k h, ends_within o k h) in
        begun_from (phase_part l c k) (a + 20 * phase_start b k) m
        (λ j g t.
        let (tc, tk) = both_T (eqb (l.row j) c) (eqb (l.phase j) k) t in
        let low = not_before_lem r j (eqb→eq (l.row j) c tc) in
        let e : a + (j - a) ≡ j = omega arith in
        phase_not_yet b o k (j - a) (omega arith) (sym (phase_at_lem r (j - a) (omega arith)) ∙ ap l.phase e ∙ eqb→eq (l.phase j) k tk))
        (rw (eq-eqb _ _ (row_at r (20 * phase_start b k) within), eq-eqb _ _ (phase_at_lem r (20 * phase_start b k) within ∙ phase_at_start b o k h)))

    module _ (few : m ≤ most_offered) where
      pub row_begun : Begins b y c a → has_begun (row_part l c) m ≡ ltb a m
      row_begun (there r) = ridden_begun r
      row_begun (nowhere n h) = begun_nowhere (row_part l c) m (λ j g t. n.nowhere j (eqb→eq (l.row j) c t)) ∙ sym (le-ltb a m (omega arith))

      pub row_finished : Begins b y c a → finished (row_part l c) m ≡ leb (a + positions b) m
      row_finished (there r) = ap (λ (e : Bound). reached e m) r.row_end_lem
      row_finished (nowhere n h) = ap (λ (e : Bound). reached e m) n.row_never ∙ sym (lt-leb (a + positions b) m (omega arith))

      pub phase_begun_lem : (k : ℕ) → Begins b y c a → has_begun (phase_part l c k) m ≡ (ltb k (phases b) && ltb (a + 20 * phase_start b k) m)
      phase_begun_lem k (there r) =
          ⊎_elim (λ (h : k < phases b). rw (lt-ltb k (phases b) h) (ridden_phase r k h))
          (λ (h : phases b < suc k).
          rw (le-ltb k (phases b) (omega arith)) (begun_nowhere (phase_part l c k) m (λ j g. planned_no_such_phase b o y c k (omega arith) j zero-le)))
          (side (suc k) (phases b))
      phase_begun_lem k (nowhere n h) =
          begun_nowhere (phase_part l c k) m (λ j g t. n.nowhere j (eqb→eq (l.row j) c (both_T (eqb (l.row j) c) _ t).0))
          ∙ sym (rw (le-ltb (a + 20 * phase_start b k) m (omega arith)) (and-false (ltb k (phases b))))

      pub phase_finished_lem : (k : ℕ) → Begins b y c a → finished (phase_part l c k) m ≡ (ltb k (phases b) && leb (a + 20 * phase_end b k) m)
      phase_finished_lem k (there r) = ap (λ (e : Bound). reached e m) (r.phase_end_lem k) ∙ reached_where (ltb k (phases b)) (a + 20 * phase_end b k) m
      phase_finished_lem k (nowhere n h) =
          ap (λ (e : Bound). reached e m) (n.phase_never k)
          ∙ sym (rw (lt-leb (a + 20 * phase_end b k) m (omega arith)) (and-false (ltb k (phases b))))

-- ---- the stretches

module _ (b : List ℕ) (o : Sound b) (k : ℕ) where
  -- by the regular method there is neither
  pub regular_not_begun : (c : ℕ) → most_cycles ≤ c → k ≤ most b → has_begun (row_part (layout_of b by_cycles) c) k ≡ false
  regular_not_begun c g h = begun_nowhere (row_part (layout_of b by_cycles) c) k (λ j l. no_stretch_lem b o c g j (omega arith))

  pub regular_not_finished : (c : ℕ) → most_cycles ≤ c → k ≤ most b → finished (row_part (layout_of b by_cycles) c) k ≡ false
  regular_not_finished c g h = lt-leb (suc c * positions b) k (omega (arith, real o, mul-le-mul_right (positions b) g))

  module _ (x : Stretches) where
    abbrev s : Layout
    s = layout_of b (with_stretches x)

    in_order : (j : ℕ) → s.begin (s.row j) ≤ j
    in_order = (planned_orderly b o (with_stretches x)).begun

    pub begun_M : 1 ≤ x.length → has_begun (row_part s row_m) k ≡ ltb (2 * positions b) k
    begun_M h =
        begun_from (row_part s row_m) (2 * positions b) k
        (λ j g t. omega (arith, in_order j, ap s.begin (eqb→eq (s.row j) row_m t)))
        (eq-eqb (s.row (2 * positions b)) row_m (ap (row_of b) (stand_M b x.length (2 * positions b) (omega arith) (omega arith))))

    pub begun_E : has_begun (row_part s row_e) k ≡ ltb (joint b x.length 4) k
    begun_E =
        begun_from (row_part s row_e) (joint b x.length 4) k
        (λ j g t. omega (arith, in_order j, ap s.begin (eqb→eq (s.row j) row_e t)))
        (eq-eqb (s.row (joint b x.length 4)) row_e (ap (row_of b) (stand_E b x.length (joint b x.length 4) (omega arith))))
