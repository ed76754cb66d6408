-- By a wider rule the run stops no earlier, and what was finished stays finished with the same figures.
-- Assumes nothing.
use mathlib.Core.Bool.{Bool, true, false, cond, ◌||◌, false≢true}
use mathlib.Core.Path.{◌≡◌, refl, sym, subst, ◌∙◌}
use Prim.Native.Nat.{ℕ, ◌+◌, ◌≤◌}
use native.Mathlib.Nat.{le_trans, add-zero}
use native.Mathlib.Omega.{arith}
use lib.Dec.{T, ltb}
use Rattle.rules.specs.Words.{bit}
use Rattle.numbers.proofs.Range.{gather_rest}
use Rattle.numbers.proofs.Tests.{refuted, true_T, T_true}
use Rattle.rules.specs.Tally.{over}
use Rattle.laws.proofs.Tally as tally
use Rattle.rules.specs.declared.Moment.{Moment}
use Rattle.rules.specs.declared.End.TheVariants.{None as none, Stop as stop, Limit as limit}
use Rattle.rules.specs.Course.{Layout, Rule, Share, Course, course, out, outside, stops_at, counted, judged, closed, ending}
use Rattle.laws.specs.Beside.{stopped}
use Rattle.rules.specs.Parts.{Part, row_part, finished, cycles}
use Rattle.laws.proofs.Facts.{Orderly, Wider}
use Rattle.laws.proofs.Gathered.{Ends, row_ends, past_finished, cycles_more, kept, alike_refl, closed_judged}
use Rattle.laws.specs.Claims.{PartKept}

or_mono : (a b x y : Bool) → (T a → T x) → (T b → T y) → T (a || b) → T (x || y)
or_mono a b true y f g t = tt
or_mono true b false y f g t = absurd (f tt)
or_mono false b false y f g t = g t

module _ (l : Layout) (r r' : Rule) (h : Share) (w : Wider r r') (s : ℕ → Moment) where
  abbrev c : Course
  c = course l r h

  abbrev c' : Course
  c' = course l r' h

  out_wider : (j : ℕ) → T (out c' s j) → T (out c s j)
  out_wider j = w.outside j (s j).speed

  outside_wider : (k m : ℕ) → outside c' s k m ≤ outside c s k m
  outside_wider = tally.outside_fewer l.row (out c s) (out c' s) out_wider

  ends_wider : (j : ℕ) → T (stops_at c' s j) → T (stops_at c s j)
  ends_wider j =
      let v : ℕ → ℕ = λ i. (s i).speed in
      or_mono (r'.halts v j) (over l.row (out c' s) r'.allowance j) (r.halts v j) (over l.row (out c s) r.allowance j)
      (w.halts v j)
      (tally.over_fewer l.row (out c s) (out c' s) out_wider r.allowance r'.allowance w.allowance j)

  module _ (n : ℕ) where
    -- the stop comes no earlier, and no stop comes where none was
    pub counted_wider : counted c s n ≤ counted c' s n
    counted_wider = tally.counted_fewer (stops_at c s) (stops_at c' s) ends_wider l.most n

    pub closed_wider : closed c s n ≤ closed c' s n
    closed_wider = omega (arith, counted_wider)

    pub stopped_wider : T (stopped c' s n) → T (stopped c s n)
    stopped_wider = tally.stopped_fewer (stops_at c s) (stops_at c' s) ends_wider l.most n

    pub stop_wider : ending c' s n ≡ stop → ending c s n ≡ stop
    stop_wider e = rw (T_true (stopped c s n) (stopped_wider (true_T (ended (stopped c' s n) (ltb (closed c' s n) l.most) e))))
      where
        ended : (x y : Bool) → cond x stop (cond y none limit) ≡ stop → x ≡ true
        ended true y q = refl
        ended false true q = absurd (false≢true cc)
        ended false false q = absurd (false≢true cc)

    pub cycles_wider : cycles l (closed c s n) ≤ cycles l (closed c' s n)
    cycles_wider = cycles_more l _ _ closed_wider

    -- a finished part is finished, with the same energy and distance
    pub part_wider : {p : Part} → Ends p → T (finished p (closed c s n)) → PartKept h p s s (closed c s n) (closed c' s n)
    part_wider e = kept _ e (alike_refl h s _) closed_wider

    -- a finished row has no more samples outside
    pub outside_finished : Orderly l → (k : ℕ) → T (finished (row_part l k) (closed c s n)) → outside c' s k (judged c' s n) ≤ outside c s k (judged c s n)
    outside_finished o k d =
        let past = past_finished (row_ends o k) (closed c s n) d in
        rw (
          gather_rest ◌+◌ 0 add-zero _ (λ j. bit (out c' s j)) _ past (judged c' s n) (le_trans closed_wider (closed_judged c' s n)),
          gather_rest ◌+◌ 0 add-zero _ (λ j. bit (out c s j)) _ past (judged c s n) (closed_judged c s n),
        )
        (outside_wider k (closed c s n))

    -- where there was no stop: none comes, as many count and are closed, the end is the same, and no row has more outside
    pub record Unstopped : Type 0 where
      pub no_stop : stopped c' s n ≡ false
      pub counted_same : counted c' s n ≡ counted c s n
      pub closed_same : closed c' s n ≡ closed c s n
      pub ending_same : ending c' s n ≡ ending c s n
      pub no_more_outside : (k : ℕ) → outside c' s k (judged c' s n) ≤ outside c s k (judged c s n)

    pub unstopped_wider : stopped c s n ≡ false → Unstopped
    unstopped_wider e =
        let counted_same = tally.counted_all (stops_at c s) (stops_at c' s) ends_wider l.most n e in
        let no_stop = refuted (stopped c' s n) (λ g. subst T e (stopped_wider (true_T g))) in
        let judged-same = tally.judged_alike (stops_at c s) (stops_at c' s) l.most n n counted_same (no_stop ∙ sym e) in
        let closed_same : closed c' s n ≡ closed c s n = omega arith in
        record {
          no_stop = no_stop;
          counted_same = counted_same;
          closed_same = closed_same;
          ending_same = λ i. cond ((no_stop ∙ sym e) i) stop (cond (ltb (closed_same i) l.most) none limit);
          no_more_outside = λ k. rw judged-same (outside_wider k (judged c s n));
        }
