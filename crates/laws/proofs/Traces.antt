-- A trace prints of its functions what stands at the places of a run: two traces that are the same there print the same.
-- Assumes nothing.
use mathlib.Core.Bool.{cond}
use mathlib.Core.List.{List, [], ◌++◌}
use mathlib.Core.Path.{◌≡◌, refl, ap, ◌∙◌}
use Prim.Native.Nat.{ℕ, suc, ◌-◌, ◌*◌, ◌≤◌, ◌<◌}
use native.Mathlib.Omega.{arith}
use lib.Dec.{ltb, lit<}
use Rattle.numbers.proofs.Range.{fold_same}
use Rattle.rules.specs.Words.{up, spell}
use Rattle.rules.specs.declared.Closing.{Closing}
use Rattle.rules.specs.Closing.{ClosingAnswer, weight}
use Rattle.std.specs.Prelude.{Ok as Closed, Err as Refused}
use Rattle.rules.specs.declared.Gathered.{Gathered}
use Rattle.rules.specs.Bench.{most_cycles, most_phases}
use Rattle.rules.specs.Course.{row_m, row_e}
use Rattle.rules.specs.Text.{digits, spaced, ended, line, recharge_line}
use Rattle.rules.specs.Trace.{Trace, offered_lines, phase_line, row_line, stretch_line, cycle_lines, part_lines, whole_in, sum_lines, weight_line, charge_line, figure_lines, closing_part, plan_lines, trace_text, weight_text, sum_text}

pub record SamePlaces (x y : Trace) : Type 0 where
  pub plan : x.plan ≡ y.plan
  pub figures : x.figures ≡ y.figures
  pub amounts : x.amounts ≡ y.amounts
  pub fields : x.fields ≡ y.fields
  pub blocks : x.blocks ≡ y.blocks
  pub offered : x.offered ≡ y.offered
  pub phases : (c k : ℕ) → c < most_cycles → k < most_phases → x.phase c k ≡ y.phase c k
  pub rows : (c : ℕ) → c < most_cycles → x.row c ≡ y.row c
  pub in_M : x.row row_m ≡ y.row row_m
  pub in_E : x.row row_e ≡ y.row row_e
  pub outsides : (c : ℕ) → c < most_cycles → x.outside_in c ≡ y.outside_in c

-- the weights of the energies e, of which that of cycle c reads three
weight_same : (E n : ℕ) (d e : ℕ → ℕ) → ((c : ℕ) → c < most_cycles → d c ≡ e c) → (c : ℕ) → c < most_cycles → weight_line E n d c ≡ weight_line E n e c
unfolding weight_text
weight_same E n d e h c l =
    let p = h c l in
    let q = h 0 (lit< tt) in
    let r = h 1 (lit< tt) in
    λ i. spaced (spell "weight") ++ spaced (digits (suc c)) ++ spaced (digits (cond (ltb c 2) ((n - 2) * p i) (E - q i - r i))) ++ ended (digits (weight E n))

module _ (x y : Trace) (h : SamePlaces x y) where
  -- with y's numbers, and x's functions
  abbrev between : Trace
  between = record {
    plan = y.plan;
    figures = y.figures;
    amounts = y.amounts;
    fields = y.fields;
    blocks = y.blocks;
    offered = y.offered;
    phase = x.phase;
    row = x.row;
    outside_in = x.outside_in;
  }

  numbers : x ≡ between
  numbers i = record {
    plan = h.plan i;
    figures = h.figures i;
    amounts = h.amounts i;
    fields = h.fields i;
    blocks = h.blocks i;
    offered = h.offered i;
    phase = x.phase;
    row = x.row;
    outside_in = x.outside_in;
  }

  offered_same : offered_lines between ≡ offered_lines y
  unfolding offered_lines
  offered_same = refl

  sums_same : sum_lines between ≡ sum_lines y
  unfolding sum_text
  sums_same = refl

  cycle_same : (c : ℕ) → c < most_cycles → cycle_lines between c ≡ cycle_lines y c
  unfolding cycle_lines
  cycle_same c l =
      let phases = fold_same ◌++◌ [] (λ k. phase_line c k (x.phase c k)) (λ k. phase_line c k (y.phase c k)) most_phases (λ k g. ap (phase_line c k) (h.phases c k l g)) in
      λ i. phases i ++ row_line c (h.rows c l i) (h.outsides c l i)

  parts_same : part_lines between ≡ part_lines y
  unfolding part_lines
  parts_same =
      let cycles = fold_same ◌++◌ [] (cycle_lines between) (cycle_lines y) most_cycles cycle_same in
      λ i. cycles i ++ stretch_line (spell "M") (h.in_M i) ++ stretch_line (spell "E") (h.in_E i)

  module _ (few : y.figures.cycles ≤ most_cycles) where
    figures_same : (w : Closing) → figure_lines between w ≡ figure_lines y w
    unfolding figure_lines
    figures_same w =
        let energies : (c : ℕ) → c < most_cycles → up (x.row c).energy ≡ up (y.row c).energy = λ c l. ap (λ (g : Gathered). up g.energy) (h.rows c l) in
        let E = up (whole_in y) in
        let n = y.figures.cycles in
        let weights = fold_same ◌++◌ [] (weight_line E n (λ c. up (x.row c).energy)) (weight_line E n (λ c. up (y.row c).energy)) n
        (λ c l. weight_same E n _ _ energies c (omega arith)) in
        ap (λ (u : List ℕ). u ++ line (spell "weighted") (digits w.weighted) ++ line (spell "range") (digits w.range) ++ charge_line y.amounts.charge ++ recharge_line w.recharge) weights

    closing_same : (w : ClosingAnswer) → closing_part between w ≡ closing_part y w
    closing_same (Closed w) = figures_same w
    closing_same (Refused n) = refl

    pub same_text : trace_text x ≡ trace_text y
    same_text =
        let plans : List ℕ = plan_lines y.figures.vehicle y.plan in
        ap trace_text numbers
        ∙ (λ i. plans ++ offered_same i ++ parts_same i ++ sums_same i ++ closing_same y.figures.closing i)
