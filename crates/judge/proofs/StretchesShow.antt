-- What the state shows of the stretches: what the rules say of M and E, and the watch over the samples counted.
-- Assumes nothing.
use mathlib.Core.Bool.{Bool, true, false, cond}
use mathlib.Core.List.{List}
use mathlib.Core.Path.{◌≡◌, refl, sym, ap, ◌∙◌}
use Prim.Native.Nat.{ℕ, zero, suc, ◌+◌, ◌-◌}
use native.Mathlib.Nat.{add-zero}
use native.Mathlib.Omega.{arith}
use borrow.Author.Tests.{ne_eqb}
use lib.Dec.{ltb, eqb}
use lib.IntN.{pos, ◌+ℤ◌, +ℤ_idr}
use Rattle.rules.specs.Words.{fold, gather}
use Rattle.rules.specs.declared.Moment.{Moment}
use Rattle.rules.specs.declared.Tolerances.{Tolerances}
use Rattle.rules.specs.declared.Method.{Method}
use Rattle.rules.specs.declared.Method.TheVariants.{Regular as by_cycles, Shortened as with_stretches}
use Rattle.rules.specs.Course.{row_m, row_e, Course}
use Rattle.rules.specs.Shortened.{joint, most_below}
use Rattle.rules.specs.Plan.{Plan, layout_of, rule_of, course_of}
use Rattle.laws.specs.Beside.{watch, most_rows}
use Rattle.laws.proofs.ShortenedRun.{watch_by_row}
use Rattle.laws.proofs.Watch.{stop_watched}
use Rattle.state.specs.declared.Stretch.{Stretch}
use Rattle.state.specs.Refusals.{not_stretched}
use Rattle.step.specs.Step.{open_row, stretch_with, stretch_closed, watch_in, last_of, stretch_of, watch_of, stretched_of}

-- an interval more, or none
one_more_lem : (t : Bool) (z : Stretch) (x y : Moment) → cond t (stretch_with z x y) z
    ≡ record { energy = z.energy +ℤ cond t (x.energy +ℤ y.energy) (pos 0); distance = z.distance + cond t (x.speed + y.speed) 0 }
one_more_lem true z x y = refl
one_more_lem false z x y = λ i. record { energy = sym (+ℤ_idr z.energy) i; distance = sym (add-zero z.distance) i }

-- ---- the watch

-- with one sample more, by the row in which it stands
pub watch_next_lem : (b : List ℕ) (t : ℕ) (y : Method) (s : ℕ → Moment) (n : ℕ)
    → watch_in y t ((layout_of b y).row n) (s n).speed (watch_of b t y s n) ≡ watch_of b t y s (suc n)
unfolding watch_in
watch_next_lem b t by_cycles s n = go (eqb ((layout_of b by_cycles).row n) row_e)
  where
    go : (v : Bool) → ◌≡◌ {A = ℕ} (cond v 0 0) 0
    go true = refl
    go false = refl
watch_next_lem b t (with_stretches x) s n = sym (watch_by_row b x.length x.speed t (λ i. (s i).speed) n)

-- what stops the run though it is not outside
pub halts_watched : (b : List ℕ) (t : Tolerances) (y : Method) (s : ℕ → Moment) (n : ℕ)
    → ltb most_below (watch_of b t.speed y s (suc n)) ≡ (rule_of b t y).halts (λ i. (s i).speed) n
halts_watched b t by_cycles s n = refl
halts_watched b t (with_stretches x) s n = sym (stop_watched (joint b x.length 4) x.speed t.speed (λ i. (s i).speed) n)

none_watched : (b : List ℕ) (t : ℕ) (y : Method) (s : ℕ → Moment) → watch_of b t y s 0 ≡ 0
unfolding watch
none_watched b t by_cycles s = refl
none_watched b t (with_stretches x) s = refl

-- ---- what M and E have

module _ (p : Plan) (s : ℕ → Moment) where
  abbrev c : Course
  c = course_of p

  -- before the first sample
  pub none_stretched : not_stretched ≡ stretched_of p s 0 0
  unfolding fold gather
  none_stretched = λ i. record { in_m = not_stretched.in_m; in_e = not_stretched.in_e; watch = sym (none_watched p.cycle p.tolerances.speed p.method s) i }

  -- interval j is closed
  closes : (j k : ℕ) → stretch_closed (c.layout.row j) (stretched_of p s j k) (s j) (s (suc j)) ≡ stretched_of p s (suc j) k
  unfolding stretch_closed fold gather
  closes j k = λ i. record {
    in_m = one_more_lem (eqb (c.layout.row j) row_m) (stretch_of c s row_m j) (s j) (s (suc j)) i;
    in_e = one_more_lem (eqb (c.layout.row j) row_e) (stretch_of c s row_e j) (s j) (s (suc j)) i;
    watch = watch_of p.cycle p.tolerances.speed p.method s k;
  }

  -- sample n closes the open interval, where there is one
  pub stretches_close : (n k : ℕ) → stretch_closed (open_row c.layout n) (stretched_of p s (n - 1) k) (last_of s n) (s n) ≡ stretched_of p s n k
  unfolding stretch_closed
  stretches_close zero k = refl
  stretches_close (suc j) k =
      let back : suc j - 1 ≡ j = omega arith in
      ap (λ (i : ℕ). stretch_closed (cond (eqb (suc j) 0) most_rows (c.layout.row i)) (stretched_of p s i k) (s j) (s (suc j))) back
      ∙ ap (λ (v : Bool). stretch_closed (cond v most_rows (c.layout.row j)) (stretched_of p s j k) (s j) (s (suc j))) (ne_eqb (suc j) 0 (λ e. omega arith))
      ∙ closes j k
