-- `step::judge_one` meets its contract, put together from what each callee ensures.
use mathlib.Core.Bool.{Bool, true, false, not, cond}
use mathlib.Core.List.{List}
use mathlib.Core.Path.{◌≡◌, sym, ap, ◌∙◌}
use Prim.Native.Nat.{ℕ, ◌*◌}
use native.Mathlib.Omega.{arith}
use lib.IntN.{ℤ}
use Rattle.rules.specs.declared.Method.{Method}
use Rattle.rules.specs.declared.End.TheVariants.{Stop as stop}
use Rattle.rules.specs.Band.{inside_of}
use Rattle.window.specs.Moving.{least_in, greatest_in}
use Rattle.map.specs.Map.{opened, marked_if}
use Rattle.ledger.specs.Row.{is_over, outside_added}
use Rattle.state.specs.State.{Left, left}
use Rattle.state.specs.Refusals.{not_stretched}
use Rattle.step.specs.Step.{State, ended_by, counted_one}
use Rattle.step.specs.Where.{Going, standing, progressed, Counts, one_judged}
use Rattle.laws.proofs.Sound.{Sound, sound}
use Rattle.laws.proofs.Bounds.{within}
use Rattle.step.proofs.Standing.{position_most}
use Rattle.step.proofs.Judging.{out_in, judged_as}
use Rattle.step.proofs.judge_one.Goals as goal
use Rattle.step.proofs.judge_one.Goals.{Start}

-- the cycle, the lent memory at the entry, and what holds of them
abbrev b : Start → List ℕ
b s = s.args.cycle.now

abbrev l : Start → List ℤ
l s = s.args.ledger.now

abbrev m : Start → List ℕ
m s = s.args.map.now

counts : (s : Start) → Counts (b s) s.args.t.time s.args.y s.args.g
counts s = s.requires.counts.0

good : (s : Start) → Sound (b s)
good s = sound (b s) (counts s).sound

-- what is left of a state
abbrev left_by : List ℕ → ℕ → Method → State → Left Going
left_by b w y z = record { answer = standing b w y z.progress; memory = z.memory }

-- what is left, where the run stands at r; o says whether the sample is outside, and v whether it stops the run
by : (s : Start) (o v : Bool) → o ≡ not (inside_of (least_in s.args.g.window) (greatest_in s.args.g.window) s.args.t.speed s.args.x.speed)
    → is_over (9 * s.args.g.row) (l s) o s.args.t.allowance ≡ v
    → (r : Going) → r ≡ standing (b s) s.args.t.time s.args.y (cond v (ended_by s.args.g.progress stop) (counted_one s.args.g.progress s.args.x))
    → {ledger : List ℤ} {map : List ℕ}
    → ledger ≡ outside_added (9 * s.args.g.row) (l s) o
    → map ≡ marked_if (opened (m s) s.args.g.position) s.args.g.position o
    → left r ledger map ≡ one_judged (b s) s.args.t s.args.y s.args.g (l s) (m s) s.args.x
by s o v outside q r e ledger map =
    let known = outside ∙ out_in (b s) s.args.t s.args.y s.args.g not_stretched (l s) (m s) s.args.x (counts s) s.requires.counts.1 (omega arith) in
    (λ i. left (e i) (ledger i) (map i))
    ∙ ap (left_by (b s) s.args.t.time s.args.y)
    (sym (judged_as (b s) s.args.t s.args.y s.args.g not_stretched (l s) (m s) s.args.x (counts s) s.requires.counts.1 (omega arith) o known v q))

pub overflow_cast-x : goal.overflow_cast-x
overflow_cast-x c = let s = c in omega (arith, (within s.args.x s.requires.counts.2).speed)

pub mark_sample-requires : goal.mark_sample-requires
mark_sample-requires c =
    let s = c in
    (position_most (b (goal.at.mark_sample-requires c).Start) (good (goal.at.mark_sample-requires c).Start) s.args.t.time s.args.y s.args.g (counts (goal.at.mark_sample-requires c).Start).stands, s.requires.counts.4)

pub count_in_cycle-over-requires : goal.count_in_cycle-over-requires
count_in_cycle-over-requires c =
    let s = c in
    record { ledger_numbers_in_bounds = (s.requires.counts.3, s.requires.counts.1); by_index = s.requires.by_index }

pub returns-then-over : goal.returns-then-over
returns-then-over c =
    let s = (goal.at.returns-then-over c).Start in
    by s _ true c.is_outside-outside.ensures (sym c.count_in_cycle-over.ensures.value ∙ c.if-over.true) _
    (c.ended_by.ensures ∙ ap (λ (z : Going). progressed z (ended_by s.args.g.progress stop)) (counts s).stands)
    c.count_in_cycle-over.ensures.ledger_after c.mark_sample.ensures

pub counted_by-requires : goal.counted_by-requires
counted_by-requires c = let s = c in (counts (goal.at.counted_by-requires c).Start, s.requires.counts.1)

pub returns : goal.returns
returns c =
    by (goal.at.returns c).Start _ false c.is_outside-outside.ensures (sym c.count_in_cycle-over.ensures.value ∙ c.if-over.false) _
    c.counted_by.ensures c.count_in_cycle-over.ensures.ledger_after c.mark_sample.ensures
