-- What it says that the closing refuses nothing: W is then within the limits of a rate, and W and the range are near what is unrounded.
-- Assumes nothing.
use mathlib.Core.Bool.{true, false≢true}
use mathlib.Core.Path.{◌≡◌, refl, sym, subst}
use Prim.Native.Nat.{ℕ, ◌+◌, ◌≤◌, ◌<◌}
use native.Mathlib.Omega.{arith}
use lib.Dec.{leb}
use lib.IntN.{ℤ, pos, negsuc, ◌+ℤ◌}
use lib.Signed.{le_z, lt_z}
use borrow.Author.Tests.{leb-true, ltb-true}
use Rattle.rules.specs.Words.{all_below, up}
use Rattle.numbers.proofs.Tests.{both, all_at, not_refused}
use Rattle.rules.specs.declared.Method.{Method}
use Rattle.rules.specs.declared.Method.TheVariants.{Regular as by_cycles, Shortened as with_stretches}
use Rattle.rules.specs.Closing.{is_rate, rate_of, least_finished, weighted_figure, range_figure, closing_refusal, most_rate}
use Rattle.laws.specs.Near.{NearExact}
use Rattle.laws.proofs.Weighing.{least_rate, greatest_rate}
use Rattle.laws.proofs.NearExact.{near_exact}

-- an integer that is at least k, and one above 0, as natural numbers
at_least : (k : ℕ) (z : ℤ) → le_z (pos k) z ≡ true → (pos (up z) ≡ z) × (k ≤ up z)
at_least k (pos m) e = (refl, leb-true k m e)
at_least k (negsuc m) e = absurd (false≢true e)

above_zero : (z : ℤ) → lt_z (pos 0) z ≡ true → 0 < up z
above_zero (pos m) e = ltb-true 0 m e
above_zero (negsuc m) e = absurd (false≢true e)

-- either method asks for three finished cycles at least
pub three_at_least : (y : Method) → 3 ≤ least_finished y
three_at_least by_cycles = omega arith
three_at_least (with_stretches x) = omega arith

module _ (E : ℤ) (n : ℕ) (e d : ℕ → ℤ) where
  pub record Closes : Type 0 where
    pub three : 3 ≤ n
    pub drawn : (c : ℕ) → c < n → 1 ≤ up (e c)
    pub natural : (c : ℕ) → c < n → e c ≡ pos (up (e c))
    pub whole : E ≡ pos (up E)
    pub fits : up (e 0) + up (e 1) ≤ up E
    pub moved : (c : ℕ) → c < n → 0 < up (d c)
    pub rated : (c : ℕ) → c < n → (1 ≤ rate_of e d c) × (rate_of e d c ≤ most_rate)
    pub somewhere : 1 ≤ range_figure E n e d

  -- of a method that asks for so many finished cycles
  pub closes : (asked : ℕ) → 3 ≤ asked → closing_refusal E n e d asked ≡ 0 → Closes
  unfolding closing_refusal
  closes asked l h =
      let (t₁, h₁) = not_refused 9 (leb asked n) _ h in
      let (t₂, h₂) = not_refused 10 (all_below n (λ c. le_z (pos 1) (e c))) _ h₁ in
      let (t₃, h₃) = not_refused 10 (le_z (e 0 +ℤ e 1) E) _ h₂ in
      let (t₄, h₄) = not_refused 11 (all_below n (λ c. lt_z (pos 0) (d c))) _ h₃ in
      let (t₅, h₅) = not_refused 11 (all_below n (λ c. is_rate (rate_of e d c))) _ h₄ in
      let (t₆, h₆) = not_refused 12 (leb 1 (range_figure E n e d)) _ h₅ in
      let three : 3 ≤ n = omega (arith, leb-true asked n t₁) in
      let one : (c : ℕ) → c < n → (pos (up (e c)) ≡ e c) × (1 ≤ up (e c)) = λ c l. at_least 1 (e c) (all_at n _ t₂ c l) in
      let sum : pos (up (e 0) + up (e 1)) ≡ e 0 +ℤ e 1 = λ i. (one 0 (omega arith)).0 i +ℤ (one 1 (omega arith)).0 i in
      let all = at_least _ E (subst (λ (z : ℤ). le_z z E ≡ true) (sym sum) t₃) in
      record {
        three = three;
        drawn = λ c l. (one c l).1;
        natural = λ c l. sym (one c l).0;
        whole = sym all.0;
        fits = all.1;
        moved = λ c l. above_zero (d c) (all_at n _ t₄ c l);
        rated = λ c l.
            let (lo, hi) = both (leb 1 (rate_of e d c)) _ (all_at n _ t₅ c l) in
            (leb-true 1 (rate_of e d c) lo, leb-true (rate_of e d c) most_rate hi);
        somewhere = leb-true 1 _ t₆;
      }

  module _ (k : Closes) where
    pub some_energy : 1 ≤ up E
    some_energy = omega (arith, k.fits, k.drawn 0 (omega (arith, k.three)))

    abbrev W : ℕ
    W = weighted_figure E n e d

    -- W is at least 1 and at most 10,000,000, as every rate is
    pub weighted_within : (1 ≤ W) × (W ≤ most_rate)
    weighted_within = (
      least_rate (up E) n (λ c. up (e c)) (rate_of e d) k.fits some_energy k.three 1 (λ c l. (k.rated c l).0),
      greatest_rate (up E) n (λ c. up (e c)) (rate_of e d) k.fits some_energy k.three most_rate (λ c l. (k.rated c l).1),
    )

    -- and the range is near the one from unrounded consumptions (document 02, L11)
    pub closes_near : NearExact (up E) n (λ c. up (e c)) (λ c. up (d c)) W (range_figure E n e d)
    closes_near = near_exact (up E) n (λ c. up (e c)) (λ c. up (d c)) k.fits some_energy k.three k.moved (λ c l. (k.rated c l).0)
