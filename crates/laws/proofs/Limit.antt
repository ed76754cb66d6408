-- Document 02, L2: "the limit reached, only once the sample after its last position is taken". Where no sample is outside, the samples of 64 cycles
-- finish 63, and one sample more brings the limit. (Rows that are too long to compute.)
-- Assumes nothing.
use mathlib.Core.Bool.{false, cond}
use mathlib.Core.List.{List, [], ◌∷◌}
use mathlib.Core.Logic.{⊎_elim}
use mathlib.Core.Path.{◌≡◌, refl, sym, ap, ◌∙◌}
use Prim.Native.Nat.{ℕ, suc, ◌+◌, ◌-◌, ◌*◌, ◌/◌, ◌%◌, ◌≤◌, ◌<◌, min}
use native.Mathlib.Nat.{le_refl, le_antisymm, mod-lt}
use native.Mathlib.Omega.{arith}
use borrow.Author.Tests.{lt-ltb, le-ltb}
use lib.Dec.{T, ltb, ltb→lt, lit<}
use lib.IntN.{pos}
use Rattle.rules.specs.Words.{be, first, fold, bit, all_below}
use Rattle.numbers.proofs.Order.{side, digits}
use Rattle.numbers.proofs.Firsts.{first_le, first_at}
use Rattle.numbers.proofs.Range.{gather_most}
use Rattle.numbers.proofs.Tests.{all_at}
use Rattle.rules.specs.declared.Moment.{Moment}
use Rattle.rules.specs.declared.Tolerances.{Tolerances}
use Rattle.rules.specs.declared.End.{End}
use Rattle.rules.specs.declared.End.TheVariants.{None as none, Limit as limit}
use Rattle.rules.specs.Cycle.{valid, positions}
use Rattle.rules.specs.Band.{grid20, inside}
use Rattle.rules.specs.Tally.{over}
use Rattle.rules.specs.Course.{Course, ending_where, out, outside, stops_at, counted, closed, ending}
use Rattle.rules.specs.Parts.{row_part, cycles}
use Rattle.rules.specs.Regular.{most, regular_layout, regular}
use Rattle.laws.proofs.Sound.{Sound, sound, real}
use Rattle.laws.proofs.Regular.{regular_cycles}

-- how a run stands after n samples: its end, the samples counted, the intervals closed, the cycles finished
pub record StandsAfter (c : Course) (s : ℕ → Moment) (n : ℕ) (e : End) (m k q : ℕ) : Type 0 where
  pub end : ending c s n ≡ e
  pub samples : counted c s n ≡ m
  pub intervals : closed c s n ≡ k
  pub finished : cycles c.layout (closed c s n) ≡ q

module _ (b : List ℕ) (t : Tolerances) (o : Sound b) (s : ℕ → Moment) (in-band : (j : ℕ) → out (regular b t) s j ≡ false) where
  abbrev c : Course
  c = regular b t

  abbrev N : ℕ
  N = positions b

  none_outside : (k m : ℕ) → outside c s k m ≡ 0
  none_outside k m =
      let test = (row_part (regular_layout b) k).of in
      omega (arith, gather_most test test (λ j. bit (out c s j)) 0 (λ j h. h) m (λ j l. rw (in-band j) (le_refl 0)))

  no_end : (j : ℕ) → T (stops_at c s j) → ⊥
  unfolding over
  no_end j h = let l = ltb→lt t.allowance (outside c s (j / N) (suc j)) h in omega (arith, none_outside (j / N) (suc j))

  all_counted : (n : ℕ) → counted c s n ≡ min n (most b)
  all_counted n =
      let m = min n (most b) in
      le_antisymm (first_le (stops_at c s) m) (⊎_elim (λ h. h) (λ h. absurd (no_end _ (first_at (stops_at c s) m h))) (side m (first (stops_at c s) m)))

  ending_is : (n : ℕ) → ending c s n ≡ cond (ltb (min (n - 1) (min n (most b))) (most b)) none limit
  ending_is n = ap (ending_where c n) (all_counted n) ∙ rw (le-ltb (min n (most b)) (min n (most b)) (le_refl _))

  -- so many cycles are finished where m intervals are closed, of which the last cycle has r
  finished_are : (n m q r : ℕ) → closed c s n ≡ m → m ≤ most b → r < N → m ≡ q * N + r → cycles (regular_layout b) (closed c s n) ≡ q
  finished_are n m q r e l h g = ap (cycles (regular_layout b)) e ∙ regular_cycles b o m l ∙ sym (digits m N q r h g).1

  pub not_yet : StandsAfter c s (most b) none (most b) (most b - 1) 63
  not_yet =
      let e : closed c s (most b) ≡ most b - 1 = omega (arith, all_counted (most b)) in
      record {
        end = ending_is (most b) ∙ rw (lt-ltb (min (most b - 1) (min (most b) (most b))) (most b) (omega (arith, real o)));
        samples = omega (arith, all_counted (most b));
        intervals = e;
        finished = finished_are (most b) (most b - 1) 63 (N - 1) e (omega arith) (omega (arith, real o)) (omega (arith, real o));
      }

  pub at_limit : StandsAfter c s (most b + 1) limit (most b) (most b) 64
  at_limit =
      let e : closed c s (most b + 1) ≡ most b = omega (arith, all_counted (most b + 1)) in
      record {
        end = ending_is (most b + 1) ∙ rw (le-ltb (min (most b + 1 - 1) (min (most b + 1) (most b))) (most b) (omega arith));
        samples = omega (arith, all_counted (most b + 1));
        intervals = e;
        finished = finished_are (most b + 1) (most b) 64 0 e (le_refl _) (real o) (omega arith);
      }

-- T = 2, one phase, points all 100, speed tolerance 30: 2560 samples of speed 100, and 2561
abbrev flat : List ℕ
flat = 1 ∷ 0 ∷ 2 ∷ 0 ∷ 100 ∷ 0 ∷ 100 ∷ 0 ∷ 100 ∷ []

abbrev allowing : ℕ → Tolerances
allowing a = record { speed = 30; time = 0; allowance = a }

abbrev steady : ℕ → Moment
steady j = record { speed = 100; energy = pos 720_000 }

flat_sound : Sound flat
unfolding valid all_below be
flat_sound = sound flat refl

steady_in : (j : ℕ) → out (regular flat (allowing 3)) steady j ≡ false
unfolding all_below be fold grid20 inside
steady_in j = rw (all_at 40 (λ p. inside flat (allowing 3) p 100) refl (j % 40) (mod-lt j (lit< tt)))

pub row_2560 : StandsAfter (regular flat (allowing 3)) steady 2560 none 2560 2559 63
unfolding be
row_2560 = not_yet flat (allowing 3) flat_sound steady steady_in

pub row_2561 : StandsAfter (regular flat (allowing 3)) steady 2561 limit 2560 2560 64
unfolding be
row_2561 = at_limit flat (allowing 3) flat_sound steady steady_in
