-- Where cycles and stretches begin and end by the state's numbers, and where a sample stands, as the rules have it.
-- Assumes nothing.
use mathlib.Core.Bool.{true, false}
use mathlib.Core.List.{List}
use mathlib.Core.Logic.{⊎_elim}
use mathlib.Core.Path.{◌≡◌, refl, ap}
use Prim.Native.Nat.{ℕ, suc, ◌+◌, ◌-◌, ◌*◌, ◌/◌, ◌%◌, ◌≤◌, ◌<◌}
use native.Mathlib.Nat.{div-lt_iff_lt-mul, div-le_of_le-mul, le-div_iff_mul-le, div-add-mod'}
use native.Mathlib.Omega.{arith}
use borrow.Author.Tests.{lt-ltb, le-ltb, ne_eqb}
use Rattle.numbers.proofs.Order.{side}
use Rattle.rules.specs.declared.Method.{Method}
use Rattle.rules.specs.declared.Method.TheVariants.{Regular as by_cycles, Shortened as with_stretches}
use Rattle.rules.specs.Bench.{most_cycles}
use Rattle.rules.specs.Cycle.{positions}
use Rattle.rules.specs.Course.{row_m, row_e}
use Rattle.rules.specs.Parts.{row_part, finished}
use Rattle.rules.specs.Shortened.{joint}
use Rattle.rules.specs.Plan.{layout_of}
use Rattle.laws.proofs.Shortened.{Joints, before_two, at_M, behind_M, at_E, joints}
use Rattle.laws.proofs.Sound.{Sound, real}
use Rattle.values.specs.Limits.{is_method}
use Rattle.state.proofs.Stretches.{method_length}
use Rattle.sources.specs.Sources.{first_of, begun_m, finished_m, begun_e, stop_at, stop_by, stood_at}
use Rattle.laws.proofs.Begun.{Begins, there, nowhere, has_begun, regular_rides, early_rides, late_rides, absent_behind, regular_not_begun, regular_not_finished, begun_M, begun_E}

-- where cycle c begins
pub first_known : (b : List ℕ) (y : Method) (c : ℕ) → c < most_cycles → Begins b y c (first_of y (positions b) c)
first_known b by_cycles c h = there (regular_rides b c)
first_known b (with_stretches x) c h =
    ⊎_elim (λ (g : c < 2). rw (lt-ltb c 2 g) (there (early_rides b x c g)))
    (λ (g : 2 < suc c).
    ⊎_elim (λ (f : c < 4). rw (le-ltb c 2 (omega arith), lt-ltb c 4 f) (there (late_rides b x c (omega arith) f)))
    (λ (f : 4 < suc c). rw (le-ltb c 2 (omega arith), le-ltb c 4 (omega arith)) (nowhere (absent_behind b x c (omega arith) h) (omega arith)))
    (side (suc c) 4))
    (side (suc c) 2)

module _ (b : List ℕ) (o : Sound b) where
  -- whether M and E have begun, and whether M is finished
  module _ (k : ℕ) where
    pub m_begun : (y : Method) → is_method y ≡ true → k ≤ (layout_of b y).most → has_begun (row_part (layout_of b y) row_m) k ≡ begun_m y (positions b) k
    m_begun by_cycles e h = regular_not_begun b o k row_m (omega arith) h
    m_begun (with_stretches x) e h = begun_M b o k x (method_length x e).0

    pub m_finished : (y : Method) → k ≤ (layout_of b y).most → finished (row_part (layout_of b y) row_m) k ≡ finished_m y (positions b) k
    m_finished by_cycles h = regular_not_finished b o k row_m (omega arith) h
    m_finished (with_stretches x) h = refl

    pub e_begun : (y : Method) → k ≤ (layout_of b y).most → has_begun (row_part (layout_of b y) row_e) k ≡ begun_e y (positions b) k
    e_begun by_cycles h = regular_not_begun b o k row_e (omega arith) h
    e_begun (with_stretches x) h = begun_E b o k x

  -- where sample n stands
  pub stop_stands : (y : Method) (n : ℕ) → n ≤ (layout_of b y).most → stop_by y (positions b) n ≡ stood_at (layout_of b y) n
  stop_stands by_cycles n h =
      let row : n / positions b ≤ most_cycles = div-le_of_le-mul (positions b) (omega arith) in
      let place : n % positions b ≡ n - n / positions b * positions b = omega (arith, div-add-mod' n (positions b)) in
      rw (ne_eqb (n / positions b) row_e (λ (e : n / positions b ≡ row_e). omega arith)) (ap (stop_at false (n / positions b)) place)
  stop_stands (with_stretches x) n h = go (joints b x.length n)
    where
      N : ℕ
      N = positions b

      go : Joints b x.length n → stop_by (with_stretches x) (positions b) n ≡ stood_at (layout_of b (with_stretches x)) n
      go (before_two g) =
          let row : n / N < 2 = (div-lt_iff_lt-mul (real o)).1 g in
          let place : n % N ≡ n - (0 + n / N * N) = omega (arith, div-add-mod' n N) in
          rw (
            lt-ltb n (2 * N) g,
            lt-ltb (n / N) 4 (omega arith),
            lt-ltb (n / N) 2 row,
            ne_eqb (n / N) row_e (λ (e : n / N ≡ row_e). omega arith),
          )
          (ap (stop_at false (n / N)) place)
      go (at_M g f) = rw (le-ltb n (2 * N) g, lt-ltb n (joint b x.length 2) f)
      go (behind_M g f) =
          let i = n - x.length in
          let row : i / N < 4 = (div-lt_iff_lt-mul (real o)).1 (omega arith) in
          let two : 2 ≤ i / N = (le-div_iff_mul-le (real o)).1 (omega arith) in
          let place : i % N ≡ n - (x.length + i / N * N) = omega (arith, div-add-mod' i N) in
          rw (
            le-ltb n (2 * N) (omega arith),
            le-ltb n (joint b x.length 2) g,
            lt-ltb n (joint b x.length 4) f,
            lt-ltb (i / N) 4 row,
            le-ltb (i / N) 2 two,
            ne_eqb (i / N) row_e (λ (e : i / N ≡ row_e). omega arith),
          )
          (ap (stop_at false (i / N)) place)
      go (at_E g) = rw (le-ltb n (2 * N) (omega arith), le-ltb n (joint b x.length 2) (omega arith), le-ltb n (joint b x.length 4) g)
