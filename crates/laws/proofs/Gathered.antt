-- What a finished part has gathered: no later share changes it.
-- Assumes nothing.
use mathlib.Core.Path.{◌≡◌, refl, ◌∙◌}
use Prim.Native.Nat.{ℕ, ◌+◌, ◌≤◌, ◌<◌}
use native.Mathlib.Nat.{le_refl, add-zero}
use native.Mathlib.Omega.{arith}
use lib.Dec.{T, eqb, eqb→eq}
use lib.IntN.{pos, ◌+ℤ◌, +ℤ_idr}
use Rattle.numbers.proofs.Range.{gather_rest, gather_same}
use Rattle.numbers.proofs.Firsts.{first_later}
use Rattle.numbers.proofs.Tests.{both_T, not_mono, leb_mono}
use Rattle.laws.proofs.Tally.{counted_le}
use Rattle.rules.specs.declared.Moment.{Moment}
use Rattle.rules.specs.Bench.{most_cycles}
use Rattle.rules.specs.Course.{Bound, never, after, reached, Layout, Share, Course, stops_at, closed, judged}
use Rattle.rules.specs.Parts.{Part, row_part, phase_part, finished, cycles}
use Rattle.laws.proofs.Facts.{Orderly}
use Rattle.laws.specs.Claims.{PartKept}

-- ---- the end of a part

pub reached_more : (e : Bound) (m m' : ℕ) → m ≤ m' → T (reached e m) → T (reached e m')
reached_more never m m' l t = t
reached_more (after e) m m' l t = leb_mono (le_refl e) l t

-- no sample from its end on is of the part
pub record Ends (p : Part) : Type 0 where
  pub past : (j : ℕ) → T (p.of j) → T (reached p.behind j) → ⊥

pub phase_ends_by : (l : Layout) → ((j : ℕ) → T (reached (l.phase_end (l.row j) (l.phase j)) j) → ⊥) → (c k : ℕ) → Ends (phase_part l c k)
phase_ends_by l before c k = record {
  past = λ j t r.
      let (tc, tk) = both_T (eqb (l.row j) c) (eqb (l.phase j) k) t in
      before j (rw (eqb→eq (l.row j) c tc, eqb→eq (l.phase j) k tk) r);
}

module _ {l : Layout} (o : Orderly l) where
  pub row_ends : (c : ℕ) → Ends (row_part l c)
  row_ends c = record { past = λ j t r. o.row_open j (rw (eqb→eq (l.row j) c t) r) }

  pub phase_ends : (c k : ℕ) → Ends (phase_part l c k)
  phase_ends = phase_ends_by l o.phase_open

-- no sample from m on is of a part that is finished there
pub past_finished : {p : Part} → Ends p → (m : ℕ) → T (finished p m) → (j : ℕ) → m ≤ j → T (p.of j) → ⊥
past_finished {p} e m f j l t = e.past j t (reached_more p.behind m j l f)

-- no fewer cycles are finished where more shares are closed
pub cycles_more : (l : Layout) (m m' : ℕ) → m ≤ m' → cycles l m ≤ cycles l m'
unfolding cycles
cycles_more l m m' h =
    first_later _ _ most_cycles most_cycles (le_refl most_cycles) (λ c g. not_mono (finished (row_part l c) m) (finished (row_part l c) m') (reached_more (l.row_end c) m m' h))

-- ---- a part that is finished where m shares of s are closed is finished, with the same figures, where m' of s' are

-- equal shares
pub record Alike (h : Share) (s s' : ℕ → Moment) (m : ℕ) : Type 0 where
  pub energies : (j : ℕ) → j < m → h.energy s' j ≡ h.energy s j
  pub distances : (j : ℕ) → j < m → h.distance s' j ≡ h.distance s j

pub alike_refl : (h : Share) (s : ℕ → Moment) (m : ℕ) → Alike h s s m
alike_refl h s m = record { energies = λ j l. refl; distances = λ j l. refl }

pub kept : {h : Share} {p : Part} {s s' : ℕ → Moment} {m : ℕ} (m' : ℕ) → Ends p → Alike h s s' m → m ≤ m' → T (finished p m) → PartKept h p s s' m m'
kept {h} {p} {s} {s'} {m} m' e a l f =
    let past = past_finished e m f in
    record {
      finished_too = reached_more p.behind m m' l f;
      same_energy = gather_rest ◌+ℤ◌ (pos 0) +ℤ_idr p.of _ m past m' l ∙ gather_same ◌+ℤ◌ (pos 0) p.of _ _ m a.energies;
      same_distance = gather_rest ◌+◌ 0 add-zero p.of _ m past m' l ∙ gather_same ◌+◌ 0 p.of _ _ m a.distances;
    }

-- ---- how many are closed: no more than are counted, and each with the samples that close it

module _ (c : Course) (s : ℕ → Moment) (n : ℕ) where
  pub closed_most : closed c s n ≤ c.layout.most
  closed_most = omega (arith, (counted_le (stops_at c s) c.layout.most n).1)

  pub closed_offered : (j : ℕ) → j < closed c s n → j + c.share.ahead < n
  closed_offered j l = omega arith

  pub closed_judged : closed c s n ≤ judged c s n
  closed_judged = omega arith
