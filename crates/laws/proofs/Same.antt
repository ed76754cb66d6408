-- Closing looks at the finished cycles only: energies and distances that agree there close alike.
-- Assumes nothing.
use mathlib.Core.Path.{◌≡◌, ap, ap₂}
use Prim.Native.Nat.{ℕ, ◌+◌, ◌-◌, ◌*◌, ◌/◌, ◌≤◌, ◌<◌}
use native.Mathlib.Omega.{arith}
use lib.Dec.{leb}
use lib.IntN.{ℤ, pos, ◌+ℤ◌}
use lib.Signed.{le_z, lt_z}
use Rattle.rules.specs.Words.{sum, unless, settled, up}
use Rattle.numbers.proofs.Range.{fold_same}
use Rattle.numbers.proofs.Tests.{all_same}
use Rattle.rules.specs.Closing.{Charge, weighing, weight, is_rate, rate_of, range, weighted_figure, range_figure, closing_refusal, together, recharge_by, closing_by}
use Rattle.std.specs.Prelude.{Ok as Closed, Err as Refused}
use Rattle.rules.specs.Bench.{most_cycles}

module _ (E : ℤ) (n : ℕ) (few : n ≤ most_cycles) (e d e' d' : ℕ → ℤ) (he : (c : ℕ) → c < most_cycles → e c ≡ e' c) (hd : (c : ℕ) → c < most_cycles → d c ≡ d' c) where
  rate_same : (c : ℕ) → c < most_cycles → rate_of e d c ≡ rate_of e' d' c
  rate_same c h = ap₂ (λ (x y : ℤ). 100 * up x / up y) (he c h) (hd c h)

  weighted_same : weighted_figure E n e d ≡ weighted_figure E n e' d'
  unfolding weighing
  weighted_same =
      let s : sum (λ c. rate_of e d (2 + c)) (n - 2) ≡ sum (λ c. rate_of e' d' (2 + c)) (n - 2) =
      fold_same ◌+◌ 0 _ _ (n - 2) (λ c h. rate_same (2 + c) (omega arith)) in
      λ i.
      ((n - 2) * (rate_same 0 (omega arith) i * up (he 0 (omega arith) i) + rate_same 1 (omega arith) i * up (he 1 (omega arith) i))
      + (up E - up (he 0 (omega arith) i) - up (he 1 (omega arith) i)) * s i)
      / weight (up E) n

  range_same : range_figure E n e d ≡ range_figure E n e' d'
  range_same = ap (range (up E)) weighted_same

  refusal_same : (asked : ℕ) → closing_refusal E n e d asked ≡ closing_refusal E n e' d' asked
  unfolding closing_refusal
  refusal_same asked =
      let a = all_same n _ _ (λ c h. ap (le_z (pos 1)) (he c (omega arith))) in
      let m = all_same n _ _ (λ c h. ap (lt_z (pos 0)) (hd c (omega arith))) in
      let q = all_same n _ _ (λ c h. ap is_rate (rate_same c (omega arith))) in
      λ i.
      unless 10 (leb asked n)
      (unless 11 (a i)
      (unless 11 (le_z (he 0 (omega arith) i +ℤ he 1 (omega arith) i) E)
      (unless 12 (m i)
      (unless 12 (q i)
      (unless 13 (leb 1 (range_same i)) 0)))))

  -- the whole closing, with F and the recharge
  pub closing_same : (F : ℤ) (asked : ℕ) (charge : Charge) → closing_by E n e d F asked charge ≡ closing_by E n e' d' F asked charge
  closing_same F asked charge = λ i.
      let figures = together (weighted_same i) (range_same i) (recharge_by E (range_same i) F charge) in
      settled (refusal_same asked i) (Closed figures) (Refused (refusal_same asked i))
