-- Document 01's orders of refusals, as numbers, 0 where nothing is refused; its list of them.
-- Assumes nothing.
use Rattle.std.specs.Prelude.{List, ◌≡◌, ℕ, ◌≤◌, ℤ, None as absent, Some as wh}
use Rattle.rules.specs.Words.{settled}
use Rattle.rules.specs.Closing.{Charge, recharge_refusal}
use Rattle.rules.specs.Machine.{Reply, to_field, not_yet, no_field}
use Rattle.rules.specs.Machine as machine
use Rattle.rules.specs.Record.{Content, brought, foreign, wrong}
use Rattle.records.specs.Stage.{reply_on}
use Rattle.opening.specs.declared.Opening.{Opening}
use Rattle.opening.specs.Answers.{stage_of, open_ground}
use Rattle.reading.specs.declared.Reading.{Reading}
use Rattle.reading.specs.Answers.{stage_at, read_ground}

-- an answer that is neither the refusal 1 nor the refusal 2
abbrev pub Neither1Nor2 : {A : Type 0} → (ℕ → A) → A → Type 0
Neither1Nor2 refused x = (x ≡ refused 1 → ⊥) × (x ≡ refused 2 → ⊥)

-- no number above those of document 01's list of refusals, 1 to 15, but document 02's 19, of the stretches
pub data Known (n : ℕ) : Type 0 where
  in_01 : n ≤ 15 → Known n
  in_02 : n ≡ 19 → Known n

-- a number of the lists
pub record Listed (n : ℕ) : Type 0 where
  pub from_1 : 1 ≤ n
  pub known : Known n

-- ---- orders of refusals: read off the definitions of the crates below, so that each order is defined once

-- one number, or where that is 0 the next
abbrev pub or_else : ℕ → ℕ → ℕ
or_else n next = settled n next n

-- "then absent, 14, 12": of the recharge figure that stands beside weighted consumption and range
abbrev pub recharge_number : ℤ → ℕ → ℤ → Charge → ℕ
recharge_number E R F absent = 0
recharge_number E R F (wh A) = recharge_refusal E R F A

-- of what a field brings
abbrev pub wrong_number : Content → ℕ
wrong_number (brought b) = 0
wrong_number foreign = 0
wrong_number (wrong n) = n

-- "Order for a field: 8, 9, then its content": of the machine's answer to the bytes
abbrev pub reply_number : {S : Type 0} → Reply S → ℕ
reply_number (to_field (machine.taken s) n) = 0
reply_number (to_field (machine.passed s) n) = 0
reply_number (to_field (machine.refused k) n) = k
reply_number not_yet = 0
reply_number no_field = 8

-- until the start: 1 "before all else", then the field at the front of i
abbrev pub opening_number : Opening → List ℕ → List ℤ → List ℕ → List ℕ → ℕ
opening_number o room l m i = or_else (open_ground o room) (reply_number (reply_on (stage_of o room l m) i))

-- after it: of the field at the front of i
abbrev pub next_number : Reading → List ℕ → List ℤ → List ℕ → List ℕ → ℕ
next_number r b l m i = reply_number (reply_on (stage_at r b l m) i)

-- "In a started run 1 and 2 come before all others"
abbrev pub reading_number : Reading → List ℕ → List ℤ → List ℕ → List ℕ → ℕ
reading_number r b l m i = or_else (read_ground r b l m) (next_number r b l m i)
