-- `consumption::close` meets its contract: the code tests in the order of the chain of refusals.
use mathlib.Core.Bool.{Bool, true, false, not}
use mathlib.Core.List.{List}
use mathlib.Core.Path.{◌≡◌, refl, sym, ap, ap₂, subst, ◌∙◌}
use Prim.Native.Nat.{ℕ, suc, ◌+◌, ◌*◌, ◌≤◌, ◌<◌}
use native.Mathlib.Omega.{arith}
use borrow.Author.Tests.{le-leb, not-true, not-false}
use lib.IntN.{ℤ, pos, ◌+ℤ◌}
use lib.Signed.{le_z, lt_z}
use mir.Syntax.{w64}
use mir.Val.{SFits, to_z}
use Rattle.rules.specs.Words.{all_below, unless, up}
use Rattle.numbers.specs.Whole.{Sized}
use Rattle.numbers.proofs.Tests.{pass, stop, tests, settled_answer}
use Rattle.numbers.proofs.Whole.{of_nat, sized_add, le_not, abs_is}
use Rattle.numbers.proofs.Signed.{sfits, read}
use Rattle.rules.specs.Closing.{is_rate, rate_of, closing_refusal, closing_figures}
use Rattle.laws.specs.Answers.{gives, refuses, figured_said, closing_said}
use Rattle.laws.proofs.Answers.{closing_or}
use Rattle.laws.specs.Beside.{most_whole}
use Rattle.ledger.specs.Row.{energy_in, distance_in, energy_all}
use Rattle.ledger.proofs.Bounded.{energy_all_sized}
use Rattle.consumption.specs.declared.Gathered.{Gathered}
use Rattle.consumption.specs.Figures.{closing_on, gathered_in, Weighable, finished_by}
use Rattle.consumption.proofs.Weights.{machine, most_drawn, InLimits, in_limits, Positive}
use Rattle.consumption.proofs.Gathers.{Tested, energy_at, finished_energy, some, weighable, finished_is}
use Rattle.consumption.proofs.close.Goals as goal
use Rattle.consumption.proofs.close.Goals.{After-whole_energy-total, Start}

-- the chain of refusals
abbrev refusal : Start → ℕ
refusal s =
    let l = s.args.ledger.now in
    closing_refusal (s.args.a.before +ℤ (energy_all l +ℤ s.args.beside)) s.args.n (energy_in l) (distance_in l) s.args.asked

-- a refusal of the chain is the answer
refused_so : (s : Start) {k : ℕ} → suc k ≡ refusal s
    → refuses (suc k) ≡ closing_said (closing_on s.args.ledger.now s.args.beside s.args.asked s.args.n s.args.a)
refused_so s {k} h =
    let l = s.args.ledger.now in
    let figures = closing_figures (s.args.a.before +ℤ (energy_all l +ℤ s.args.beside)) s.args.n (energy_in l) (distance_in l) s.args.a.after s.args.a.charge in
    settled_answer refuses (gives (figured_said figures)) h (λ (z : suc k ≡ 0). omega arith) ∙ sym (closing_or (refusal s) figures)

-- each finished cycle has drawn energy, where what is gathered says so
drawn_of : (l : List ℤ) (n : ℕ) {g : Gathered} {t : Bool} → g ≡ gathered_in l n → g.drawn ≡ t → all_below n (λ k. le_z (pos 1) (energy_in l k)) ≡ t
drawn_of l n e d = sym (ap (λ (x : Gathered). x.drawn) e) ∙ d

-- each q is within its limits, likewise
rated_of : (l : List ℤ) (n : ℕ) {g : Gathered} {t : Bool} → g ≡ gathered_in l n → g.rated ≡ t
    → all_below n (λ k. is_rate (rate_of (energy_in l) (distance_in l) k)) ≡ t
rated_of l n e d = sym (ap (λ (x : Gathered). x.rated) e) ∙ d

pub returns-then-n-asked : goal.returns-then-n-asked
unfolding closing_refusal
returns-then-n-asked c = refused_so (goal.at.returns-then-n-asked c).Start (stop _ (omega tests))

pub returns-then-not-g : goal.returns-then-not-g
unfolding closing_refusal
returns-then-not-g c =
    refused_so (goal.at.returns-then-not-g c).Start (pass 10 (omega tests) (stop _ (drawn_of _ _ c.gather_cycles-g.ensures (not-true _ c.if-not-g.true))))

-- before E is formed
pub whole_energy-total-requires-clause-finished_value : goal.whole_energy-total-requires-clause-finished_value
whole_energy-total-requires-clause-finished_value c =
    let l = c.args.ledger.now in
    let limits = in_limits c.args.a c.requires.ledger_value.2 in
    let known = c.requires.ledger_value in
    let finished =
    ap (λ (x : Gathered). pos x.energy) c.gather_cycles-g.ensures
    ∙ finished_energy l c.args.n known.0 known.1 (drawn_of _ _ c.gather_cycles-g.ensures (not-false _ c.if-not-g.false)) in
    (finished, rw (read (sfits w64 tt limits.before)) limits.before, rw (read c.ranges.beside) c.requires.sized.0)

-- E, and the sum of the first two energies
module _ (c : After-whole_energy-total) where
  abbrev l : List ℤ
  l = c.args.ledger.now

  abbrev E : ℤ
  E = c.args.a.before +ℤ (energy_all l +ℤ c.args.beside)

  limits : InLimits c.args.a
  limits = in_limits c.args.a c.requires.ledger_value.2

  -- as many cycles are finished as the method asks for, and so three at least
  three : 3 ≤ c.args.n
  three = omega (arith, c.if-n-asked.false, c.requires.sized.1)

  drawn : all_below c.args.n (λ k. le_z (pos 1) (energy_in l k)) ≡ true
  drawn = drawn_of _ _ c.gather_cycles-g.ensures (not-false _ c.if-not-g.false)

  whole_sized : Sized most_whole E
  whole_sized = sized_add limits.before (sized_add (energy_all_sized l c.requires.ledger_value.0) c.requires.sized.0)

  total_is : c.whole_energy-total.result ≡ E
  total_is =
      c.whole_energy-total.ensures
      ∙ (λ i. read (sfits w64 tt limits.before) i +ℤ (energy_all l +ℤ read c.ranges.beside i))

  total_read : machine c.whole_energy-total.result ≡ E
  total_read = read {w = w64} (record { sfits = c.whole_energy-total.type_inv }) ∙ total_is

  abbrev two : ℕ
  two = c.gather_cycles-g.result.first.energy + c.gather_cycles-g.result.second.energy

  first_at : (k : ℕ) → k < 3 → Positive most_drawn (energy_in l k)
  first_at k h = energy_at l c.args.n c.requires.ledger_value.0 c.requires.ledger_value.1 drawn k (omega (arith, three))

  two_is : two ≡ up (energy_in l 0) + up (energy_in l 1)
  two_is = ap (λ (x : Gathered). x.first.energy + x.second.energy) c.gather_cycles-g.ensures

  two_most : two ≤ 2 * most_drawn
  two_most = omega (arith, two_is, (first_at 0 (omega arith)).most, (first_at 1 (omega arith)).most)

  two_fits : SFits w64 (pos two)
  two_fits = sfits w64 tt (of_nat two_most)

  signed : pos two ≡ energy_in l 0 +ℤ energy_in l 1
  signed = ap pos two_is ∙ ap₂ ◌+ℤ◌ (first_at 0 (omega arith)).is (first_at 1 (omega arith)).is

  -- the code's test
  tested : le_z (energy_in l 0 +ℤ energy_in l 1) E ≡ not (lt_z (machine c.whole_energy-total.result) (to_z w64 two))
  tested = le_not E (energy_in l 0 +ℤ energy_in l 1) ∙ ap not (ap₂ lt_z (sym total_read) (sym (read two_fits ∙ signed)))

pub overflow_add-g : goal.overflow_add-g
overflow_add-g c = record { fits = omega (arith, two_most (goal.at.overflow_add-g c).After-whole_energy-total) }

pub overflow_cast-g : goal.overflow_cast-g
overflow_cast-g c = two_fits (goal.at.overflow_cast-g c).After-whole_energy-total

pub returns-then-total-g : goal.returns-then-total-g
unfolding closing_refusal
returns-then-total-g c =
    let a = goal.at.returns-then-total-g c in
    let on = a.After-whole_energy-total in
    refused_so a.Start (pass 10 (omega tests) (pass 11 (drawn on) (stop _ (tested on ∙ ap not c.if-total-g.true))))

-- a cycle without a rate is refused 12, whether it has moved or not
unrated : (moved : Bool) (rest : ℕ) {rated : Bool} → rated ≡ false → 12 ≡ unless 12 moved (unless 12 rated rest)
unfolding unless
unrated true rest e = stop _ e
unrated false rest e = refl

pub returns-then-not-g-2 : goal.returns-then-not-g-2
unfolding closing_refusal
returns-then-not-g-2 c =
    let a = goal.at.returns-then-not-g-2 c in
    let on = a.After-whole_energy-total in
    refused_so a.Start
    (pass 10 (le-leb _ _ c.if-n-asked.false)
    (pass 11 (drawn on)
    (pass 11 (tested on ∙ ap not c.if-total-g.false) (unrated _ _ (rated_of _ _ c.gather_cycles-g.ensures (not-true _ c.if-not-g-2.true))))))

-- nothing up to 12 is refused
nothing_refused : (on : After-whole_energy-total) → lt_z (machine on.whole_energy-total.result) (to_z w64 (two on)) ≡ false → on.gather_cycles-g.result.rated ≡ true
    → Tested (l on) on.args.n (E on)
nothing_refused on total rated = record {
  bounded = on.requires.ledger_value.0;
  most = on.requires.ledger_value.1;
  three = three on;
  drawn = drawn on;
  fits = tested on ∙ ap not total;
  rated = rated_of _ _ on.gather_cycles-g.ensures rated;
}

-- what `finish` asks of what is gathered and of E
abbrev Asks : ℕ → Gathered → ℤ → Type 0
Asks n g z = Weighable g n (up z) × (le_z (pos 1) z ≡ true) × Sized most_whole z

pub finish-requires-clause-weighable : goal.finish-requires-clause-weighable
finish-requires-clause-weighable c =
    let on = (goal.at.finish-requires-clause-weighable c).After-whole_energy-total in
    let n = c.args.n in
    let t = nothing_refused on c.if-total-g.false (not-false _ c.if-not-g-2.false) in
    let sized = whole_sized on in
    let small : up (E on) ≤ most_whole = omega (arith, abs_is (E on), sized.size) in
    let by-rules = subst (λ (g : Gathered). Asks n g (E on)) (sym c.gather_cycles-g.ensures) (weighable t small, some t, sized) in
    subst (Asks n c.gather_cycles-g.result) (sym (total_read on)) by-rules

pub finish-requires-clause-sized : goal.finish-requires-clause-sized
finish-requires-clause-sized c =
    let limits = in_limits c.args.a c.requires.ledger_value.2 in
    (rw (read (sfits w64 tt limits.after)) limits.after, limits.charge)

pub returns : goal.returns
returns c =
    let on = (goal.at.returns c).After-whole_energy-total in
    let a = c.args in
    c.finish.ensures
    ∙ (λ i. finished_by (c.gather_cycles-g.ensures i) a.n (total_read on i) (read (sfits w64 tt (limits on).after) i) a.a.charge)
    ∙ finished_is (nothing_refused on c.if-total-g.false (not-false _ c.if-not-g-2.false)) a.a.after a.asked c.if-n-asked.false a.a.charge
