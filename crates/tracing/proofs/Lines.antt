-- The lines as they are written are those of the rules.
-- Assumes nothing.
use mathlib.Core.Bool.{cond}
use mathlib.Core.List.{List, [], ◌++◌, append_assoc}
use mathlib.Core.Path.{◌≡◌, refl, sym, ap, ◌∙◌}
use Prim.Native.Nat.{ℕ, ◌-◌, ◌*◌, ◌≤◌, ◌<◌}
use native.Mathlib.Omega.{arith}
use borrow.Author.Tests.{ne_eqb}
use lib.Dec.{ltb}
use lib.IntN.{ℤ, ◌+ℤ◌}
use Rattle.numbers.proofs.Range.{fold_same}
use Rattle.rules.specs.Words.{up, spell}
use Rattle.rules.specs.Closing.{ClosingAnswer, weight}
use Rattle.std.specs.Prelude.{Ok as Closed, Err as Refused}
use Rattle.rules.specs.declared.Figures.{Figures}
use Rattle.rules.specs.declared.Gathered.{Gathered}
use Rattle.rules.specs.Bench.{most_cycles}
use Rattle.rules.specs.Course.{row_m, row_e}
use Rattle.rules.specs.Text.{digits, line, end_line, recharge_line}
use Rattle.rules.specs.Listing.{in_turn}
use Rattle.rules.specs.Trace.{Trace, plan_lines, fields_line, offered_lines, cycle_lines, part_lines, whole_in, sum_text, sum_lines, weight_text, weight_line, charge_line, figure_lines, closing_part, trace_text}
use Rattle.ledger.specs.Row.{energy_in}
use Rattle.state.specs.declared.Run.{Run}
use Rattle.reading.specs.declared.Reading.{Reading}
use Rattle.figures.specs.Figured.{figures_of}
use Rattle.sources.specs.Sources.{row_on, part_on, trace_on}
use Rattle.tracing.specs.Traced.{offered_on, cycle_at, parts_on, weight_at, figures_on, closing_for, Traceable}
use Rattle.tracing.proofs.Standing.{stop_is}

-- a row before those of M and E is the ledger's
pub row_part_lem : (r : Run) (l : List ℤ) (c : ℕ) → c < most_cycles → row_on r l c ≡ part_on r l c
row_part_lem r l c g = rw (ne_eqb c row_m (λ (e : c ≡ row_m). omega arith), ne_eqb c row_e (λ (e : c ≡ row_e). omega arith)) refl

-- the weights of n cycles are by the energies of their rows
weights_are : (r : Run) (l : List ℤ) (E n : ℕ) → n ≤ most_cycles → in_turn (weight_at l E n) n ≡ in_turn (weight_line E n (λ c. up (part_on r l c).energy)) n
weights_are r l E n few =
    fold_same ◌++◌ [] (weight_at l E n) (weight_line E n (λ c. up (part_on r l c).energy)) n
    (λ c g.
    let p = ap (λ (x : Gathered). up x.energy) (row_part_lem r l c (omega arith)) in
    λ i. weight_text c (cond (ltb c 2) ((n - 2) * p i) (E - up (energy_in l 0) - up (energy_in l 1))) (weight E n))

module _ (r : Reading) (b : List ℕ) (l : List ℤ) (fields blocks : ℕ) where
  abbrev x : Trace
  x = trace_on r b l fields blocks

  offered_are : Traceable r b l → offered_on r.run fields blocks r.passed ≡ offered_lines x
  unfolding offered_on offered_lines
  offered_are h =
      let p = r.run.progress in
      ap (λ (t : List ℕ). fields_line fields blocks r.passed ++ line (spell "offered") (digits p.offered) ++ end_line p.end p.counted ++ t)
      (stop_is r.run b h.figurable.is_run_lem h.sound h.same_seconds p.end)

  parts_are : parts_on r.run b l ≡ part_lines x
  unfolding parts_on part_lines cycle_at cycle_lines
  parts_are = refl

  closing_are : (figures_of r l).cycles ≤ most_cycles → (y : ClosingAnswer) → closing_for l (up (whole_in x)) (figures_of r l).cycles r.amounts.charge y ≡ closing_part x y
  unfolding figures_on figure_lines
  closing_are few (Closed y) =
      ap (λ (t : List ℕ). t ++ line (spell "weighted") (digits y.weighted) ++ line (spell "range") (digits y.range) ++ charge_line r.amounts.charge ++ recharge_line y.recharge)
      (weights_are r.run l (up (whole_in x)) (figures_of r l).cycles few)
  closing_are few (Refused k) = refl

  -- the lines behind the cycles, of the figures f
  abbrev pub behind : Figures → List ℕ
  behind f =
      let E = r.amounts.before +ℤ f.drawn in
      sum_text f.cycles f.outside f.drawn r.amounts E ++ closing_for l (up E) f.cycles r.amounts.charge f.closing

  pub all_lines : Traceable r b l → (figures_of r l).cycles ≤ most_cycles → {f : Figures} → f ≡ figures_of r l
      → plan_lines r.vehicle x.plan ++ offered_on r.run fields blocks r.passed ++ parts_on r.run b l ++ behind f ≡ trace_text x
  all_lines h few e =
      let plans : List ℕ = plan_lines r.vehicle x.plan in
      (λ i. plans ++ offered_are h i ++ parts_are i ++ behind (e i))
      ∙ ap (λ (t : List ℕ). plans ++ offered_lines x ++ part_lines x ++ (sum_lines x ++ t)) (closing_are few (figures_of r l).closing)
      ∙ sym (append_assoc (plans ++ offered_lines x ++ part_lines x) (sum_lines x) (closing_part x (figures_of r l).closing))
