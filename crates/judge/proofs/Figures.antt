-- The ledger's 576 numbers by their index, and their sums, where the ledger shows a run.
-- Assumes nothing.
use mathlib.Core.List.{List}
use mathlib.Core.Logic.{⊎_elim}
use mathlib.Core.Path.{◌≡◌, sym, ap, subst, ◌∙◌}
use Prim.Native.Nat.{ℕ, suc, ◌+◌, ◌-◌, ◌*◌, ◌/◌, ◌%◌, ◌<◌}
use native.Mathlib.Omega.{arith}
use lib.IntN.{ℤ, pos, ◌+ℤ◌, +ℤ_assoc}
use Rattle.numbers.proofs.Order.{side}
use Rattle.numbers.proofs.Range.{fold_same}
use Rattle.numbers.proofs.Sums.{sum_pos}
use Rattle.rules.specs.declared.Moment.{Moment}
use Rattle.rules.specs.Bench.{most_cycles, most_phases}
use Rattle.rules.specs.Course.{row_m, row_e, Course, judged, closed}
use Rattle.rules.specs.Parts.{row_part, phase_part, part_energy, part_distance, energy}
use Rattle.rules.specs.Shown.{ledger_numbers, figure}
use Rattle.laws.proofs.Facts.{Orderly}
use Rattle.laws.proofs.Gathered.{closed_most}
use Rattle.laws.proofs.NineNumbers.{energy_figure, distance_figure, outside_figure}
use Rattle.laws.proofs.Total.{energy_phases, distance_phases, energies_add_up}
use Rattle.ledger.specs.Row.{at, energy_in, distance_in, energy_all}
use Rattle.judge.proofs.LedgerShows.{LedgerShows}

module _ (y : Course) (s : ℕ → Moment) (l₀ : List ℤ) (n : ℕ) (l : List ℤ) (h : LedgerShows y s l₀ (closed y s n) (judged y s n) l) where
  -- number a of row c
  of_nine_lem : (c a : ℕ) → c < most_cycles → a < 9 → at l (9 * c + a) ≡ figure y s n (9 * c + a)
  of_nine_lem c a g f =
      ⊎_elim (λ e. h.energies c a g e ∙ sym (energy_figure y s n c a e))
      (λ (e : 4 < suc a). ⊎_elim
      (λ (k : a < 8).
      let q : a ≡ 4 + (a - 4) = omega arith in
      rw q (h.distances c (a - 4) g (omega arith) ∙ sym (distance_figure y s n c (a - 4) (omega arith))))
      (λ (k : 8 < suc a).
      let q : a ≡ 8 = omega arith in
      rw q (h.outsides c g ∙ sym (outside_figure y s n c)))
      (side (suc a) 8))
      (side (suc a) 4)

  pub number_is : (i : ℕ) → i < ledger_numbers → at l i ≡ figure y s n i
  number_is i g =
      let q : 9 * (i / 9) + i % 9 ≡ i = omega arith in
      subst (λ (j : ℕ). at l j ≡ figure y s n j) q (of_nine_lem (i / 9) (i % 9) (omega arith) (omega arith))

  module _ (o : Orderly y.layout) where
    -- a cycle's energy and distance
    pub cycle_energy_is : (c : ℕ) → c < most_cycles → energy_in l c ≡ part_energy y.share s (row_part y.layout c) (closed y s n)
    cycle_energy_is c g = fold_same ◌+ℤ◌ (pos 0) _ _ most_phases (λ k f. h.energies c k g f) ∙ energy_phases o y.share s (closed y s n) c

    pub cycle_distance_is : (c : ℕ) → c < most_cycles → distance_in l c ≡ pos (part_distance y.share s (row_part y.layout c) (closed y s n))
    cycle_distance_is c g =
        fold_same ◌+ℤ◌ (pos 0) _ _ most_phases
        (λ k f.
        let q : 9 * c + 4 + k ≡ 9 * c + (4 + k) = omega arith in
        ap (at l) q ∙ h.distances c k g f)
        ∙ sum_pos (λ k. part_distance y.share s (phase_part y.layout c k) (closed y s n)) most_phases
        ∙ ap pos (distance_phases o y.share s (closed y s n) c)

    -- the ledger's energies, M's and E's add up to the energy of the shares closed
    pub energies_are : energy_all l +ℤ (part_energy y.share s (row_part y.layout row_m) (closed y s n) +ℤ part_energy y.share s (row_part y.layout row_e) (closed y s n))
        ≡ energy y.share s (closed y s n)
    energies_are =
        let m = part_energy y.share s (row_part y.layout row_m) (closed y s n) in
        let e = part_energy y.share s (row_part y.layout row_e) (closed y s n) in
        sym (+ℤ_assoc (energy_all l) m e)
        ∙ ap (λ (z : ℤ). z +ℤ m +ℤ e) (fold_same ◌+ℤ◌ (pos 0) _ _ most_cycles (λ c g. cycle_energy_is c g))
        ∙ energies_add_up o y.share s (closed y s n) (closed_most y s n)
