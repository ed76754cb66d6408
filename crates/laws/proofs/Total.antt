-- The parts add up: the phases of a row to the row, the ledger's rows with M and E to the energy of all shares closed. What does not exist has nothing.
-- Assumes nothing.
use mathlib.Core.Bool.{Bool, true, false, cond}
use mathlib.Core.Path.{◌≡◌, sym, ap, ◌∙◌}
use Prim.Native.Nat.{ℕ, ◌+◌, ◌≤◌, ◌<◌, zero-le}
use native.Mathlib.Omega.{arith}
use lib.Dec.{T, eqb}
use lib.IntN.{ℤ, pos, ◌+ℤ◌}
use Rattle.rules.specs.Words.{gather, sum, sumℤ}
use Rattle.numbers.proofs.Range.{fold_more, fold_none, split, sum_ℕ, sum_ℤ}
use Rattle.numbers.proofs.Tests.{refuted, true_T}
use Rattle.rules.specs.declared.Moment.{Moment}
use Rattle.rules.specs.Bench.{most_phases, most_cycles}
use Rattle.rules.specs.Course.{Layout, Share, row_m, row_e}
use Rattle.rules.specs.Parts.{Part, row_part, phase_part, part_energy, part_distance, energy}
use Rattle.laws.specs.Beside.{most_rows}
use Rattle.laws.proofs.Facts.{Orderly}

module _ {l : Layout} (o : Orderly l) (h : Share) (s : ℕ → Moment) (m : ℕ) where
  -- a row's figures are those of its four phases
  pub energy_phases : (c : ℕ) → sumℤ (λ k. part_energy h s (phase_part l c k) m) most_phases ≡ part_energy h s (row_part l c) m
  energy_phases c = split ◌+ℤ◌ (pos 0) sum_ℤ (λ j. eqb (l.row j) c) l.phase most_phases (h.energy s) m (λ j g t. o.few_phases j)

  pub distance_phases : (c : ℕ) → sum (λ k. part_distance h s (phase_part l c k) m) most_phases ≡ part_distance h s (row_part l c) m
  distance_phases c = split ◌+◌ 0 sum_ℕ (λ j. eqb (l.row j) c) l.phase most_phases (h.distance s) m (λ j g t. o.few_phases j)

  energy_rows : m ≤ l.most → sumℤ (λ c. part_energy h s (row_part l c) m) most_rows ≡ energy h s m
  unfolding gather
  energy_rows g = split ◌+ℤ◌ (pos 0) sum_ℤ (λ j. true) l.row most_rows (h.energy s) m (λ j k t. o.few_rows j (omega arith))

  -- the energies of the ledger's rows, of M and of E are the energy of all
  pub energies_add_up : m ≤ l.most
      → sumℤ (λ c. part_energy h s (row_part l c) m) most_cycles +ℤ part_energy h s (row_part l row_m) m +ℤ part_energy h s (row_part l row_e) m ≡ energy h s m
  energies_add_up g =
      let e : ℕ → ℤ = λ c. part_energy h s (row_part l c) m in
      ap (λ (z : ℤ). z +ℤ e row_e) (sym (fold_more ◌+ℤ◌ (pos 0) e row_m)) ∙ sym (fold_more ◌+ℤ◌ (pos 0) e row_e) ∙ energy_rows g

-- a part has nothing of the first m shares
pub record HasNothing (h : Share) (s : ℕ → Moment) (p : Part) (m : ℕ) : Type 0 where
  pub no_energy : part_energy h s p m ≡ pos 0
  pub no_distance : part_distance h s p m ≡ 0

module _ (h : Share) (s : ℕ → Moment) (p : Part) (m : ℕ) where
  -- where none of their samples is of it
  pub nothing_before : ((j : ℕ) → j < m → T (p.of j) → ⊥) → HasNothing h s p m
  unfolding gather
  nothing_before none =
      let fails : (j : ℕ) → j < m → p.of j ≡ false = λ j l. refuted (p.of j) (λ e. none j l (true_T e)) in
      record {
        no_energy = fold_none ◌+ℤ◌ (pos 0) sum_ℤ _ m (λ j l. ap (λ (x : Bool). cond x (h.energy s j) (pos 0)) (fails j l));
        no_distance = fold_none ◌+◌ 0 sum_ℕ _ m (λ j l. ap (λ (x : Bool). cond x (h.distance s j) 0) (fails j l));
      }

  -- and so where no sample at all is
  module _ (nowhere : (j : ℕ) → 0 ≤ j → T (p.of j) → ⊥) where
    pub energy_none : part_energy h s p m ≡ pos 0
    energy_none = (nothing_before (λ j l. nowhere j zero-le)).no_energy

    pub distance_none : part_distance h s p m ≡ 0
    distance_none = (nothing_before (λ j l. nowhere j zero-le)).no_distance
