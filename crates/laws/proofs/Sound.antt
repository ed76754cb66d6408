-- What the test `valid` says of a cycle's bytes, as facts that `omega` reads.
-- Assumes nothing.
use mathlib.Core.Bool.{true, false}
use mathlib.Core.List.{List}
use mathlib.Core.Logic.{◌⊎◌, ⊎_elim}
use mathlib.Core.Path.{◌≡◌, refl, ap, subst}
use Prim.Native.Nat.{ℕ, zero, suc, ◌+◌, ◌-◌, ◌*◌, ◌≤◌, ◌<◌}
use native.Mathlib.Nat.{not-suc-le-zero, le_of_suc-le-suc, eq-or-lt_of_le}
use native.Mathlib.Omega.{arith}
use borrow.Author.Tests.{leb-true, ltb-true, eqb-true, le-leb, eq-eqb, lt-ltb, le-ltb}
use lib.Dec.{ltb, ltb→lt, nltb→le}
use lib.ListN.{length}
use Rattle.rules.specs.Words.{all_below}
use Rattle.numbers.proofs.Tests.{both, refuted, all_at, true_T}
use Rattle.numbers.proofs.Order.{side}
use Rattle.numbers.proofs.Firsts.{first_at, first_before, first_least, first_is}
use Rattle.rules.specs.Cycle.{phases, phase_start, phase_end, seconds, rises, is_speed, valid, positions, phase_at}
use Rattle.rules.specs.Bench.{most_seconds}

pub record Sound (b : List ℕ) : Type 0 where
  pub some_phase : 1 ≤ phases b
  pub few_phases : phases b ≤ 4
  pub long : 2 ≤ seconds b
  pub short : seconds b ≤ most_seconds
  pub whole : length b ≡ 1 + 2 * phases b + 2 * (seconds b + 1)
  pub all_rise : all_below (phases b) (rises b) ≡ true
  pub all_speeds : all_below (seconds b + 1) (is_speed b) ≡ true

pub sound : (b : List ℕ) → valid b ≡ true → Sound b
unfolding valid
sound b e =
    let e₆ = both _ _ e in
    let e₅ = both _ _ e₆.0 in
    let e₄ = both _ _ e₅.0 in
    let e₃ = both _ _ e₄.0 in
    let e₂ = both _ _ e₃.0 in
    let e₁ = both _ _ e₂.0 in
    record {
      some_phase = leb-true _ _ e₁.0;
      few_phases = leb-true _ _ e₁.1;
      long = leb-true _ _ e₂.1;
      short = leb-true _ _ e₃.1;
      whole = eqb-true _ _ e₄.1;
      all_rise = e₅.1;
      all_speeds = e₆.1;
    }

-- where all else holds, the test of the points decides
pub valid_by_points : (b : List ℕ) → 1 ≤ phases b → phases b ≤ 4 → 2 ≤ seconds b → seconds b ≤ most_seconds
    → length b ≡ 1 + 2 * phases b + 2 * (seconds b + 1) → all_below (phases b) (rises b) ≡ true → valid b ≡ all_below (seconds b + 1) (is_speed b)
unfolding valid
valid_by_points b p₁ p₂ t₁ t₂ n e = simp (le-leb _ _ p₁, le-leb _ _ p₂, le-leb _ _ t₁, le-leb _ _ t₂, eq-eqb _ _ n, e)

pub not_valid : (b : List ℕ) → (Sound b → ⊥) → valid b ≡ false
not_valid b h = refuted (valid b) (λ e. h (sound b e))

-- phase k ends after it starts
pub rising : {b : List ℕ} → Sound b → (k : ℕ) → k < phases b → phase_start b k < phase_end b k
rising {b} o k h = ltb-true _ _ (all_at (phases b) (rises b) o.all_rise k h)

-- no phase ends after the cycle
pub ends_within : {b : List ℕ} → Sound b → (k : ℕ) → k < phases b → phase_end b k ≤ seconds b
ends_within {b} o k h = go (phases b - suc k) k (omega arith)
  where
    go : (d k : ℕ) → suc k + d ≡ phases b → phase_end b k ≤ seconds b
    go zero k e =
        let last : k ≡ phases b - 1 = omega arith in
        let f = ap (phase_end b) last in
        omega arith
    go (suc d) k e = omega (arith, rising o (suc k) (omega arith), go d (suc k) (omega arith))

-- a cycle has a position
pub real : {b : List ℕ} → Sound b → 0 < positions b
real o = omega (arith, o.long)

-- ---- the phase of a position

module _ (b : List ℕ) (p : ℕ) where
  -- position p of phase k is before the phase's end
  pub phase_before : (k : ℕ) → k < phases b → phase_at b p ≡ k → p < 20 * phase_end b k
  unfolding phase_at
  phase_before k h e =
      subst (λ (i : ℕ). p < 20 * phase_end b i) e
      (ltb→lt p _ (first_at (λ i. ltb p (20 * phase_end b i)) (phases b) (omega arith)))

  -- a position before the end of phase k lies in it or in an earlier one
  pub phase_least : (k : ℕ) → p < 20 * phase_end b k → phase_at b p ≤ k
  unfolding phase_at
  phase_least k l = first_least (λ i. ltb p (20 * phase_end b i)) (phases b) k (true_T (lt-ltb p _ l))

  pub phase_exists : Sound b → p < positions b → phase_at b p < phases b
  phase_exists o l = omega (arith, o.some_phase, phase_least (phases b - 1) l)

  -- so that it has a place in the ledger
  pub four : Sound b → p < positions b → phase_at b p < 4
  four o l = omega (arith, phase_exists o l, o.few_phases)

-- the phase of the first position, and that of the next
module _ (b : List ℕ) (o : Sound b) where
  pub phase_first : phase_at b 0 ≡ 0
  unfolding phase_at
  phase_first =
      first_is (λ k. ltb 0 (20 * phase_end b k)) (phases b) 0 o.some_phase (λ j l. absurd (not-suc-le-zero l))
      (lt-ltb 0 (20 * phase_end b 0) (omega (arith, rising o 0 o.some_phase)))

  module _ (p : ℕ) (h : suc p < positions b) where
    passed : (j : ℕ) → j < phase_at b p → ltb (suc p) (20 * phase_end b j) ≡ false
    unfolding phase_at
    passed j l =
        let g = nltb→le p (20 * phase_end b j) (first_before (λ k. ltb p (20 * phase_end b k)) (phases b) j l) in
        le-ltb (suc p) (20 * phase_end b j) (omega arith)

    pub phase_stays : suc p < 20 * phase_end b (phase_at b p) → phase_at b (suc p) ≡ phase_at b p
    unfolding phase_at
    phase_stays g =
        first_is (λ k. ltb (suc p) (20 * phase_end b k)) (phases b) (phase_at b p) (phase_exists b p o (omega arith)) passed (lt-ltb _ _ g)

    pub phase_next : 20 * phase_end b (phase_at b p) ≤ suc p → phase_at b (suc p) ≡ suc (phase_at b p)
    unfolding phase_at
    phase_next g =
        let k = phase_at b p in
        let exists = phase_exists b p o (omega arith) in
        let before = phase_before b p k exists refl in
        let more : suc k < phases b = last (side (phases b) (suc k)) in
        first_is (λ i. ltb (suc p) (20 * phase_end b i)) (phases b) (suc k) more
        (λ j l. ⊎_elim (λ (e : j ≡ k). rw e (le-ltb (suc p) _ g)) (λ i. passed j i) (eq-or-lt_of_le (le_of_suc-le-suc l)))
        (lt-ltb (suc p) (20 * phase_end b (suc k)) (omega (arith, rising o (suc k) more)))
      where
        last : (phases b ≤ suc (phase_at b p)) ⊎ (suc (phase_at b p) < phases b) → suc (phase_at b p) < phases b
        last = ⊎_elim (λ (e : phases b ≤ suc (phase_at b p)).
            let k : phases b - 1 ≡ phase_at b p = omega (arith, phase_exists b p o (omega arith)) in
            absurd (let f = ap (phase_end b) k in omega arith)) (λ l. l)
