-- `paperwhelk::verdict::paperwhelk_verdict` meets its contract: each answer passes the tests before it.
use mathlib.Core.Bool.{true}
use mathlib.Core.Path.{◌≡◌, sym, ap, ◌∙◌}
use native.Mathlib.Omega.{arith}
use lib.IntN.{pos}
use mir.Syntax.{w32}
use Rattle.numbers.proofs.Signed.{read}
use Rattle.numbers.proofs.Tests.{pass, stop, tests}
use Rattle.rules.specs.declared.Tolerances.{Tolerances}
use Rattle.rules.specs.Bench.{tolerable}
use Rattle.rules.specs.Cycle.{valid}
use Rattle.laws.proofs.Band.{tolerated}
use Rattle.laws.proofs.Sound.{sound}
use Rattle.rules.specs.Question.{question}
use Rattle.paperwhelk.proofs.verdict.paperwhelk_verdict.Goals as goal
use Rattle.paperwhelk.proofs.verdict.paperwhelk_verdict.Goals.{Else-not-is_cycle, Else-not-is_tolerable, Start}

-- what is asked about, and what the tests that passed say of it
abbrev given : Start → Tolerances
given s = record { speed = s.args.speed_tol; time = s.args.time_tol; allowance = s.args.allowance }

is-valid : (c : Else-not-is_cycle) → valid c.args.cycle.now ≡ true
is-valid c = sym c.is_cycle.ensures ∙ c.if-not-is_cycle.false

is-tolerated : (c : Else-not-is_tolerable) → tolerable (given c.before.before.before.before.before.before) ≡ true
is-tolerated c = sym c.is_tolerable.ensures ∙ c.if-not-is_tolerable.false

pub returns-then-not-is_cycle : goal.returns-then-not-is_cycle
unfolding question
returns-then-not-is_cycle c = stop _ (sym c.is_cycle.ensures ∙ c.if-not-is_cycle.true)

pub returns-then-not-is_tolerable : goal.returns-then-not-is_tolerable
unfolding question
returns-then-not-is_tolerable c =
    pass _ (is-valid (goal.at.returns-then-not-is_tolerable c).Else-not-is_cycle)
    (stop _ (sym c.is_tolerable.ensures ∙ c.if-not-is_tolerable.true))

pub seconds_of-requires : goal.seconds_of-requires
seconds_of-requires c = let s = sound _ (is-valid (goal.at.seconds_of-requires c).Else-not-is_cycle) in omega arith

pub overflow_mul-seconds_of : goal.overflow_mul-seconds_of
overflow_mul-seconds_of c = let s = sound _ (is-valid (goal.at.overflow_mul-seconds_of c).Else-not-is_cycle) in omega arith

pub returns-then-seconds_of-position : goal.returns-then-seconds_of-position
unfolding question
returns-then-seconds_of-position c =
    pass _ (is-valid (goal.at.returns-then-seconds_of-position c).Else-not-is_cycle)
    (pass _ (is-tolerated (goal.at.returns-then-seconds_of-position c).Else-not-is_tolerable)
    (stop _ (omega tests)))

pub returns-then-speed-gt-MOST_SPEED : goal.returns-then-speed-gt-MOST_SPEED
unfolding question
returns-then-speed-gt-MOST_SPEED c =
    pass _ (is-valid (goal.at.returns-then-speed-gt-MOST_SPEED c).Else-not-is_cycle)
    (pass _ (is-tolerated (goal.at.returns-then-speed-gt-MOST_SPEED c).Else-not-is_tolerable)
    (pass _ (omega tests)
    (stop _ (omega tests))))

pub verdict_at-requires : goal.verdict_at-requires
verdict_at-requires c =
    (is-valid (goal.at.verdict_at-requires c).Else-not-is_cycle, (tolerated _ (is-tolerated (goal.at.verdict_at-requires c).Else-not-is_tolerable)).time, omega arith)

pub returns : goal.returns
unfolding question
returns c =
    pass _ (is-valid (goal.at.returns c).Else-not-is_cycle)
    (pass _ (is-tolerated (goal.at.returns c).Else-not-is_tolerable)
    (pass _ (omega tests)
    (pass _ (omega tests)
    (read {w = w32} (record { sfits = c.from.type_inv }) ∙ c.from.ensures ∙ ap pos c.verdict_at.ensures))))
