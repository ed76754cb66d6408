-- `step::take_one` meets its contract: by the run's end the sample is judged or passed by.
use mathlib.Core.Bool.{false}
use mathlib.Core.Path.{◌≡◌, sym, ap, ◌∙◌}
use Rattle.laws.specs.Beside.{is_open}
use Rattle.rules.specs.Plan.{Plan, plan}
use Rattle.state.specs.State.{left}
use Rattle.step.specs.Step.{State, offered_one}
use Rattle.step.specs.Where.{Going, progressed, with_memory, taking, left_at, one_taken}
use Rattle.step.proofs.Steps.{taken_open, taken_ended, offered_is}
use Rattle.step.proofs.take_one.Goals as goal
use Rattle.step.proofs.take_one.Goals.{Start}

-- the plan, and the state at the entry
abbrev by-plan : Start → Plan
by-plan s = plan s.args.cycle.now s.args.t s.args.y

abbrev before : Start → State
before s = with_memory (taking s.args.g s.args.z) s.args.ledger.now s.args.map.now

-- where it stands after a sample that is only offered, and its memory
by : (s : Start) (r : Going) → is_open s.args.g.progress.end ≡ false → r ≡ progressed s.args.g (offered_one s.args.g.progress s.args.g.progress.end)
    → left (taking r s.args.z) s.args.ledger.now s.args.map.now
    ≡ one_taken s.args.cycle.now s.args.t s.args.y (taking s.args.g s.args.z) s.args.ledger.now s.args.map.now s.args.x
by s r e q =
    ap (λ (g : Going). left (taking g s.args.z) s.args.ledger.now s.args.map.now)
    (q ∙ offered_is s.args.cycle.now s.args.t.time s.args.y s.args.g s.requires.kept.stands)
    ∙ ap (left_at (by-plan s)) (sym (taken_ended (by-plan s) (before s) s.args.x e))

pub take_open-requires : goal.take_open-requires
take_open-requires c =
    let s = c in
    record { kept = s.requires.kept; offered_lt_most_offered = (s.requires.offered_lt_most_offered.0, s.requires.offered_lt_most_offered.1, ap is_open c.in-None.is) }

pub returns-in-None : goal.returns-in-None
returns-in-None c =
    let j = c in
    let s = j in
    j.take_open.ensures
    ∙ ap (left_at (by-plan (goal.at.returns-in-None c).Start))
    (sym (taken_open (by-plan (goal.at.returns-in-None c).Start) (before (goal.at.returns-in-None c).Start) s.args.x (ap is_open j.in-None.is)))

pub returns-in-Stop : goal.returns-in-Stop
returns-in-Stop c =
    let s = c in
    by (goal.at.returns-in-Stop c).Start c.offered_by.result (ap is_open c.in-Stop.is) c.offered_by.ensures

pub returns-in-Limit : goal.returns-in-Limit
returns-in-Limit c =
    let s = c in
    by (goal.at.returns-in-Limit c).Start c.offered_by-in-Limit.result (ap is_open c.in-Limit.is) c.offered_by-in-Limit.ensures
