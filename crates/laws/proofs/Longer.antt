-- Samples added at the end move no stop and change no finished part; after the end they change nothing.
-- Assumes nothing.
use mathlib.Core.Bool.{Bool, true, false, cond, ◌||◌, false≢true}
use mathlib.Core.List.{List, ◌++◌}
use mathlib.Core.Path.{◌≡◌, refl, sym, ap, ◌∙◌}
use Prim.Native.Nat.{ℕ, ◌+◌, ◌≤◌, ◌<◌, min}
use native.Mathlib.Nat.{le_trans, add-zero}
use native.Mathlib.Omega.{arith}
use borrow.Author.Tests.{ltb-true, ltb-false, le-ltb}
use lib.Dec.{T, ltb}
use lib.IntN.{pos, ◌+ℤ◌}
use lib.ListN.{length, length-append, get_or-append}
use Rattle.numbers.proofs.Range.{fold_same, gather_rest, gather_same}
use Rattle.numbers.proofs.Tests.{true_T, T_true}
use Rattle.rules.specs.declared.Moment.{Moment}
use Rattle.rules.specs.declared.End.TheVariants.{None as none, Stop as stop, Limit as limit}
use Rattle.laws.specs.Beside.{is_open, stopped}
use Rattle.laws.proofs.Tally as tally
use Rattle.rules.specs.Course.{Course, out, outside, stops_at, counted, judged, closed, ending}
use Rattle.rules.specs.Parts.{Part, row_part, finished, cycles, part_energy, part_distance, energy}
use Rattle.rules.specs.Regular.{moment_in}
use Rattle.laws.proofs.Facts.{Orderly, Lawful}
use Rattle.laws.proofs.Gathered.{Ends, row_ends, past_finished, cycles_more, Alike, kept, closed_offered, closed_judged}
use Rattle.laws.specs.Claims.{PartKept}

-- the samples of a list, and more behind them
module _ (xs ys : List Moment) where
  pub more_samples : length xs ≤ length (xs ++ ys)
  more_samples = omega (arith, length-append xs ys)

  pub same_samples : (j : ℕ) → j < length xs → moment_in (xs ++ ys) j ≡ moment_in xs j
  same_samples = get_or-append xs ys _

-- n samples of s, and n' of s' that begin with them
module _ (c : Course) (f : Lawful c) (s s' : ℕ → Moment) (n n' : ℕ) (more : n ≤ n') (same : (j : ℕ) → j < n → s' j ≡ s j) where
  out_longer : (j : ℕ) → j < n → out c s' j ≡ out c s j
  out_longer j l = ap (λ (x : Moment). c.rule.outside j x.speed) (same j l)

  ends_longer : (j : ℕ) → j < n → stops_at c s' j ≡ stops_at c s j
  ends_longer j l =
      let h = f.back.halts_by (λ i. (s i).speed) (λ i. (s' i).speed) j (λ i g. ap (λ (x : Moment). x.speed) (same i (omega arith))) in
      let o = tally.over_longer c.layout.row (out c s) (out c s') n out_longer c.rule.allowance j l in
      λ i. h i || o i

  pub counted_longer : counted c s n ≤ counted c s' n'
  counted_longer = tally.counted_longer (stops_at c s) (stops_at c s') c.layout.most n n' more ends_longer

  -- a stop stays, at its sample
  pub stop_longer : T (stopped c s n) → T (stopped c s' n') × (counted c s' n' ≡ counted c s n)
  stop_longer = tally.stop_longer (stops_at c s) (stops_at c s') c.layout.most n n' more ends_longer

  pub closed_longer : closed c s n ≤ closed c s' n'
  closed_longer = omega (arith, counted_longer)

  pub cycles_longer : cycles c.layout (closed c s n) ≤ cycles c.layout (closed c s' n')
  cycles_longer = cycles_more c.layout _ _ closed_longer

  -- the shares closed are the same
  alike : Alike c.share s s' (closed c s n)
  alike = record {
    energies = λ j l. f.near.energy_by s s' j (λ i g. same i (omega (arith, closed_offered c s n j l)));
    distances = λ j l. f.near.distance_by s s' j (λ i g. same i (omega (arith, closed_offered c s n j l)));
  }

  -- a finished part stays as it was
  pub part_longer : {p : Part} → Ends p → T (finished p (closed c s n)) → PartKept c.share p s s' (closed c s n) (closed c s' n')
  part_longer e = kept _ e alike closed_longer

  pub outside_longer : Orderly c.layout → (k : ℕ) → T (finished (row_part c.layout k) (closed c s n))
      → outside c s' k (judged c s' n') ≡ outside c s k (judged c s n)
  outside_longer o k d =
      let past = past_finished (row_ends o k) (closed c s n) d in
      gather_rest ◌+◌ 0 add-zero _ _ _ past (judged c s' n') (le_trans closed_longer (closed_judged c s' n'))
      ∙ tally.outside_longer c.layout.row (out c s) (out c s') n out_longer k (closed c s n) (omega arith)
      ∙ sym (gather_rest ◌+◌ 0 add-zero _ _ _ past (judged c s n) (closed_judged c s n))

  -- ---- after the end

  -- what is counted and closed stays, and the end itself
  pub record Over : Type 0 where
    pub counted_same : counted c s' n' ≡ counted c s n
    pub stopped_same : stopped c s' n' ≡ stopped c s n
    pub closed_same : closed c s' n' ≡ closed c s n
    pub ending_same : ending c s' n' ≡ ending c s n

  pub over : is_open (ending c s n) ≡ false → Over
  over = go (stopped c s n) (ltb (closed c s n) c.layout.most) refl refl
    where
      go : (x y : Bool) → stopped c s n ≡ x → ltb (closed c s n) c.layout.most ≡ y → is_open (cond x stop (cond y none limit)) ≡ false → Over
      go true y e q o =
          let (t, a) = stop_longer (true_T e) in
          let e' = T_true _ t in
          let h = ltb-true (counted c s n) (min n c.layout.most) e in
          record {
            counted_same = a;
            stopped_same = e' ∙ sym e;
            closed_same = omega (arith, f.near.soon);
            ending_same = rw (e', e);
          }
      go false true e q o = absurd (false≢true (sym o))
      go false false e q o =
          let l = ltb-false (closed c s n) c.layout.most q in
          let g = ltb-false (counted c s n) (min n c.layout.most) e in
          let m = (tally.counted_le (stops_at c s) c.layout.most n).1 in
          let m' = (tally.counted_le (stops_at c s') c.layout.most n').1 in
          let a : counted c s' n' ≡ counted c s n = omega (arith, counted_longer) in
          let e' = le-ltb (counted c s' n') (min n' c.layout.most) (omega arith) in
          record {
            counted_same = a;
            stopped_same = e' ∙ sym e;
            closed_same = omega arith;
            ending_same = rw (e', e, q, le-ltb (closed c s' n') c.layout.most (omega arith));
          }

  -- so does what every part has, finished or not, the energy of all, and every row's outside count
  module _ (v : Over) where
    pub energy_over : (p : Part) → part_energy c.share s' p (closed c s' n') ≡ part_energy c.share s p (closed c s n)
    energy_over p = ap (part_energy c.share s' p) v.closed_same ∙ gather_same ◌+ℤ◌ (pos 0) p.of _ _ _ alike.energies

    pub distance_over : (p : Part) → part_distance c.share s' p (closed c s' n') ≡ part_distance c.share s p (closed c s n)
    distance_over p = ap (part_distance c.share s' p) v.closed_same ∙ gather_same ◌+◌ 0 p.of _ _ _ alike.distances

    pub whole_over : energy c.share s' (closed c s' n') ≡ energy c.share s (closed c s n)
    whole_over = ap (energy c.share s') v.closed_same ∙ fold_same ◌+ℤ◌ (pos 0) _ _ _ alike.energies

    pub judged_over : judged c s' n' ≡ judged c s n
    judged_over = tally.judged_alike (stops_at c s) (stops_at c s') c.layout.most n n' v.counted_same v.stopped_same

    pub outside_over : (k : ℕ) → outside c s' k (judged c s' n') ≡ outside c s k (judged c s n)
    outside_over k =
        ap (outside c s' k) judged_over
        ∙ tally.outside_longer c.layout.row (out c s) (out c s') n out_longer k (judged c s n) (tally.judged_le (stops_at c s) c.layout.most n).0
