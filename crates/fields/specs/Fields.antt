-- What stands at the front of the input, as `front_of` answers it.
-- Assumes nothing.
use Rattle.std.specs.Prelude.{Bool, true, false, List, ℕ, length, Option, Some, None, Result, Ok, Err}
use Rattle.rules.specs.Table.{by_row, tags}
use Rattle.rules.specs.Front.{Front as Stands, incomplete, impossible, field}
use Rattle.laws.specs.Answers.{Said, gives, refuses}
use Rattle.rules.specs.Numbered.{number}
use Rattle.rules.specs.declared.Refusal.{Refusal}
pub use Rattle.fields.specs.declared.Front.{Front}

-- a whole field, by its tag and how many bytes its value has; or "incomplete"
pub data AtFront : Type 0 where
  whole : (tag : ℕ) → (size : ℕ) → AtFront
  unfinished : AtFront

-- what the cases say
abbrev pub front_said : Result (Option Front) Refusal → Said AtFront
front_said (Ok (Some f)) = gives (whole f.tag f.size)
front_said (Ok None) = gives unfinished
front_said (Err e) = refuses (number e)

-- what the rules say stands there; 8: "unknown tag, impossible length"
abbrev pub stands_said : Stands → Said AtFront
stands_said (field f) = gives (whole f.tag (length f.value))
stands_said incomplete = gives unfinished
stands_said impossible = refuses 8

-- a row of the table is the field's
abbrev pub has_row : ℕ → List ℕ → Bool
has_row tag v = by_row tags tag v (λ _. true) false
