-- `consumption::recharged` meets its contract: 14 by the sum's sign, 12 by the quotient's size, or the figure.
use mathlib.Core.Bool.{Bool, true, false, not}
use mathlib.Core.Path.{◌≡◌, refl, ap, ap₂, sym, ◌∙◌}
use Prim.Native.Nat.{ℕ, suc, ◌+◌, ◌*◌, ◌/◌}
use native.Mathlib.Omega.{arith}
use lib.IntN.{ℤ, pos, ◌+ℤ◌}
use lib.Signed.{le_z, lt_z}
use mir.Syntax.{w64}
use mir.Val.{to_z, of_z}
use Rattle.rules.specs.Words.{up}
use Rattle.numbers.specs.Whole.{Sized}
use Rattle.numbers.proofs.Tests.{pass, stop, tests, settled_taken, settled_answer}
use Rattle.numbers.proofs.Whole.{le_up, le_not, abs_is, sized_add}
use Rattle.numbers.proofs.Signed.{read, sum_read}
use Rattle.std.specs.Result.{result_ok}
use Rattle.std.proofs.lemmas.Result.{err_from_is_err_and}
use Rattle.wide.specs.declared.Parts.{Parts}
use Rattle.wide.specs.Ratio.{Ratio, ratio}
use Rattle.wide.proofs.Answers.{is_quotient, over_quotient}
use Rattle.std.specs.Prelude.{ok_or, Some as wh, Result, Ok}
use Rattle.rules.specs.Closing.{Is, recharge, recharge_figure, recharge_refusal, recharge_by}
use Rattle.laws.specs.Answers.{Said, gives, refuses, Measure, is, figure_said}
use Rattle.laws.proofs.Answers.{figure_or}
use Rattle.laws.specs.Beside.{most_transfer, most_whole}
use Rattle.laws.proofs.Recharge.{twice}
use Rattle.consumption.proofs.Weights.{positive, cast}
use Rattle.consumption.proofs.recharged.Goals as goal
use Rattle.consumption.proofs.recharged.Goals.{After-divided, Else-both-lt1, Start}

module _ (s : Start) where
  abbrev E : ℤ
  E = s.args.total

  abbrev EF : ℤ
  EF = s.args.total +ℤ s.args.after

  sum_sized : Sized (most_whole + most_transfer) EF
  sum_sized = sized_add s.requires.le_range.3 s.requires.sized.0

  abbrev machine : ℤ
  machine = to_z w64 (of_z w64 (to_z w64 (of_z w64 s.args.total) +ℤ to_z w64 (of_z w64 s.args.after)))

  machine_is : machine ≡ EF
  machine_is = sum_read w64 tt s.requires.le_range.3 s.requires.sized.0

  -- the machine's test of the sum
  tested : (t : Bool) → lt_z machine (pos 1) ≡ t → le_z (pos 1) EF ≡ not t
  tested t e = le_not EF (pos 1) ∙ ap not (ap (λ (z : ℤ). lt_z z (pos 1)) (sym machine_is) ∙ e)

-- the sum is positive
some : (c : Else-both-lt1) → le_z (pos 1) (EF c.before) ≡ true
some c = tested c.before false c.if-both-lt1.false

-- 14 or 12 as the answer, or the figure
abbrev refusal : Start → ℕ
refusal s = recharge_refusal (E s) s.args.range s.args.after s.args.wh

abbrev figure-by : Start → ℕ
figure-by s = recharge_figure (E s) s.args.range s.args.after s.args.wh

abbrev by-rules : Start → Said Measure
by-rules s = figure_said (recharge_by (E s) s.args.range s.args.after (wh s.args.wh))

refused_so : (s : Start) {k : ℕ} → suc k ≡ refusal s → refuses (suc k) ≡ by-rules s
refused_so s {k} h = settled_answer refuses (gives (is (figure-by s))) h (λ (z : suc k ≡ 0). omega arith) ∙ sym (figure_or (refusal s) (Is (figure-by s)))

pub returns-then-both-lt1 : goal.returns-then-both-lt1
unfolding recharge_refusal
returns-then-both-lt1 c =
    let s = (goal.at.returns-then-both-lt1 c).Start in
    refused_so s (stop _ (tested s true c.if-both-lt1.true))

-- what `divided` says, of the numbers that are cast
quotient : (c : After-divided) → (let a = c.args in
    c.divided.result ≡ ratio (up a.total * a.wh * 1000000 / a.range) (up (EF c.before.before)))
quotient c =
    let s = c.before.before in
    c.divided.ensures
    ∙ ap₂ (λ (x y : ℕ). ratio (x * s.args.wh * 1000000 / s.args.range) y)
    (cast tt (read s.ranges.total) (positive _ _ s.requires.le_range.3 s.requires.le_range.2)).is
    (cast tt (machine_is s) (positive _ _ (sum_sized s) (some c.before))).is

-- no quotient: the answer is 12
pub returns-in_err-r : goal.returns-in_err-r
unfolding recharge_refusal
returns-in_err-r c =
    let a = goal.at.returns-in_err-r c in
    let s = a.Start in
    let more = some a.Else-both-lt1 in
    let over = c.ok_or.ensures.ok_part ∙ ap result_ok c.in_err-r.was in
    let number = sym c.in_err-r.was ∙ c.ok_or.ensures.value ∙ ap (λ (x : Ratio). ok_or {E = ℕ} x 12) over in
    let twelve : c.in_err-r.field-0.0 ≡ 12 = cc in
    let large =
    over_quotient _ (up (EF s)) (omega (arith, le_up (pos 1) (EF s) more)) (omega (arith, abs_is (EF s), (sum_sized s).size))
    (sym over ∙ quotient a.After-divided) in
    let p = err_from_is_err_and c.from_residual.result c.from_residual.ensures.1 in
    rw (p.1, p.2, twelve) (refused_so s (pass 14 more (stop _ (omega (tests, twice (up s.args.total) (up (EF s)) s.args.wh s.args.range)))))

-- the figure, as the definition has it
figure : (c : After-divided) {a : Result Parts ℕ} {r : Parts} → c.divided.result ≡ result_ok a → a ≡ Ok r → (let s = c.before.before in
    r.q ≡ recharge (up s.args.total) (up (EF s)) s.args.wh s.args.range)
figure c found same = is_quotient _ _ _ _ (sym (found ∙ ap result_ok same) ∙ quotient c) ∙ twice _ _ _ _

pub returns-then-r-gt-MOST_RATE : goal.returns-then-r-gt-MOST_RATE
unfolding recharge_refusal
returns-then-r-gt-MOST_RATE c =
    let a = goal.at.returns-then-r-gt-MOST_RATE c in
    let q = figure a.After-divided c.ok_or.ensures.ok_part c.in_ok-r.was in
    refused_so a.Start (pass 14 (some a.Else-both-lt1) (stop _ (omega (tests, q))))

pub returns : goal.returns
unfolding recharge_refusal
returns c =
    let a = goal.at.returns c in
    let q = figure a.After-divided c.ok_or.ensures.ok_part c.in_ok-r.was in
    let none : refusal a.Start ≡ 0 = sym (pass 14 (some a.Else-both-lt1) (pass 12 (omega (tests, q)) refl)) in
    ap (λ (n : ℕ). gives (is n)) q ∙ sym (settled_taken _ none) ∙ sym (figure_or (refusal a.Start) (Is (figure-by a.Start)))
