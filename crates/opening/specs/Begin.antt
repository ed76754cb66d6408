-- The answers to each of the first four fields where it stands in its order.
-- Assumes nothing.
use Rattle.std.specs.Prelude.{List, ℕ, ◌+◌, ℤ, length, take}
use Rattle.rules.specs.Words.{unless, settled}
use Rattle.rules.specs.Cycle.{valid}
use Rattle.laws.specs.Answers.{gives, refuses}
use Rattle.state.specs.State.{lent, Left}
use Rattle.rules.specs.declared.Method.TheVariants.{Regular as by_cycles}
use Rattle.state.specs.Refusals.{start_refusal, started}
use Rattle.step.specs.Step.{start_of}
use Rattle.rules.specs.Values.{is_number, tolerances_in}
use Rattle.opening.specs.declared.Opening.{Opening}
use Rattle.opening.specs.Answers.{opens, starts, OpenSaid}

abbrev pub refused_at : Opening → ℕ → OpenSaid
refused_at o number = record { says = refuses number; opening = o }

abbrev pub number_answer : Opening → List ℕ → ℕ → OpenSaid
number_answer o v n =
    unless (refused_at o 4) (is_number v)
    (record { says = gives (opens n); opening = record { fields = o.fields + 1; vehicle = v; cycle = o.cycle } })

abbrev pub cycle_answer : Opening → List ℕ → ℕ → OpenSaid
cycle_answer o v n =
    unless (refused_at o 2) (valid v)
    (record { says = gives (opens n); opening = record { fields = o.fields + 1; vehicle = o.vehicle; cycle = length v } })

-- the number of the refusal of a start by field 4, 0 where there is none
abbrev pub start_number : Opening → List ℕ → List ℤ → List ℕ → List ℕ → ℕ
start_number o room l m v = start_refusal (take o.cycle room) (tolerances_in v) by_cycles l m

-- what it leaves, with ledger and map
abbrev pub start_opened : Opening → List ℕ → List ℤ → List ℕ → List ℕ → ℕ → Left OpenSaid
start_opened o room l m v n =
    let k = start_number o room l m v in
    record {
      answer =
          settled k
          (record {
            says = gives (starts n (started (take o.cycle room) (tolerances_in v) by_cycles));
            opening = record { fields = o.fields + 1; vehicle = o.vehicle; cycle = o.cycle };
          })
          (refused_at o k);
      memory = settled k (start_of l m).memory (lent l m);
    }
