-- A record: what each field brings, and what a whole record tells, as a use of the machine.
-- Assumes nothing.
use Rattle.std.specs.Prelude.{cond, List, [], ◌++◌, ℕ, suc, ◌+◌, ◌-◌, leb, eqb, ℤ, pos, length, replicate}
use Rattle.rules.specs.Words.{unless}
use Rattle.rules.specs.Bench.{Moment, Tolerances, Stretches, Method, by_cycles, with_stretches, most_passed, are_stretches}
use Rattle.rules.specs.Cycle.{valid, start_or}
use Rattle.rules.specs.Closing.{Amounts, absent, wh, is_transfer_in, doubled, is_charge}
use Rattle.rules.specs.Table.{Row, Matter, mark, number, cycle, tolerances, stretches, block, energy_before, energy_after, recharge}
use Rattle.rules.specs.Table.{among, by_row, place_after}
use Rattle.rules.specs.Table.{at_first, behind_tolerances, tags}
use Rattle.rules.specs.Front.{Field}
use Rattle.rules.specs.Machine.{Answer, taken, passed, refused, End, waiting, broken, stopped, run}
use Rattle.rules.specs.Values.{is_number, same_number, tolerances_in, stretches_in, first_in, samples_of, moments_in, block_or, transfer_in, recharge_in}

-- ---- what has been read

-- what the fields have brought
pub record Holding : Type 0 where
  pub vehicle : List ℕ
  pub cycle : List ℕ
  pub tolerances : Tolerances
  pub method : Method
  pub samples : List Moment
  pub amounts : Amounts

-- with the place in the order, and how many blocks are passed over
pub record Told : Type 0 where
  pub place : ℕ
  pub passed : ℕ
  pub holding : Holding

-- ---- what a field brings

-- a value: nothing (the mark), a vehicle number, a cycle, tolerances, stretches, samples, a transfer energy before or after, a recharge
pub data Bring : Type 0 where
  nothing : Bring
  a_number : List ℕ → Bring
  a_cycle : List ℕ → Bring
  the_tolerances : Tolerances → Bring
  the_stretches : Stretches → Bring
  own_samples : List Moment → Bring
  before : ℤ → Bring
  after : ℤ → Bring
  charged : ℕ → Bring

-- something, nothing as it is another vehicle's, or a refusal
pub data Content : Type 0 where
  brought : Bring → Content
  foreign : Content
  wrong : ℕ → Content

-- "for field 5: 4, pass over, 6, 7, 5 (a block passed over can only meet 7)": so many are passed over and offered, me is the record's vehicle
unfoldable pub block_content : ℕ → List ℕ → ℕ → List ℕ → Content
block_content over me offered v =
    unless (wrong 4) (is_number v)
    (cond (same_number me v) (block_or wrong offered (first_in v) (samples_of v) (brought (own_samples (moments_in (samples_of v)))))
    (unless (wrong 7) (leb (over + 1) most_passed) foreign))

-- what the value v brings. "For starting a run, as field 4 does: .. 2, 3": the cycle is tested again; "transfer or recharge amount outside its limits" is 14,
-- of the transfer energy as the field has it; document 02, L5: "19 for a bad stretch field"
abbrev pub content_of : ℕ → List ℕ → List ℕ → ℕ → Matter → List ℕ → Content
content_of over me course offered mark v = brought nothing
content_of over me course offered number v = unless (wrong 4) (is_number v) (brought (a_number v))
content_of over me course offered cycle v = unless (wrong 2) (valid v) (brought (a_cycle v))
content_of over me course offered tolerances v = start_or wrong course (tolerances_in v) (brought (the_tolerances (tolerances_in v)))
content_of over me course offered stretches v = unless (wrong 19) (are_stretches (stretches_in v)) (brought (the_stretches (stretches_in v)))
content_of over me course offered block v = block_content over me offered v
content_of over me course offered energy_before v = unless (wrong 14) (is_transfer_in (transfer_in v)) (brought (before (doubled (transfer_in v))))
content_of over me course offered energy_after v = unless (wrong 14) (is_transfer_in (transfer_in v)) (brought (after (doubled (transfer_in v))))
content_of over me course offered recharge v = unless (wrong 14) (is_charge (wh (recharge_in v))) (brought (charged (recharge_in v)))

-- "Order for a field: 8, 9, then its content": at a place in the order, by what the row holds; no row is "wrong mark, tag 6 kind above 1"
abbrev pub row_content : ℕ → (Matter → List ℕ → Content) → List ℕ → Row Matter → Content
row_content place content v r = unless (wrong 9) (among place r.stands) (content r.holds v)

unfoldable pub field_content : ℕ → (Matter → List ℕ → Content) → Field → Content
field_content place content f = by_row tags f.tag f.value (row_content place content f.value) (wrong 8)

-- ---- the answer to a field, for a state of any kind S

-- with what a field brings; where it is passed over
abbrev pub answer_by : {S : Type 0} → (Bring → S) → S → Content → Answer S
answer_by bring over (brought b) = taken (bring b)
answer_by bring over foreign = passed over
answer_by bring over (wrong n) = refused n

-- bring is told the place to which the field moves
abbrev pub field_answer : {S : Type 0} → ℕ → (Matter → List ℕ → Content) → (ℕ → Bring → S) → S → Field → Answer S
field_answer place content bring over f = answer_by (bring (place_after tags place f.tag f.value)) over (field_content place content f)

-- ---- what is told with a field

-- "transfer energy", "recharge"
abbrev pub with_before : Amounts → ℤ → Amounts
with_before a e = record { before = e; after = a.after; charge = a.charge }

abbrev pub with_after : Amounts → ℤ → Amounts
with_after a e = record { before = a.before; after = e; charge = a.charge }

abbrev pub with_charge : Amounts → ℕ → Amounts
with_charge a w = record { before = a.before; after = a.after; charge = wh w }

abbrev pub holding : List ℕ → List ℕ → Tolerances → Method → List Moment → Amounts → Holding
holding me course t y xs a = record { vehicle = me; cycle = course; tolerances = t; method = y; samples = xs; amounts = a }

-- with other amounts
abbrev pub with_amounts : Holding → Amounts → Holding
with_amounts h a = holding h.vehicle h.cycle h.tolerances h.method h.samples a

-- samples stand behind those before; an amount replaces that of its kind; stretches make the run a shortened one
abbrev pub with_bring : Holding → Bring → Holding
with_bring h nothing = h
with_bring h (a_number v) = holding v h.cycle h.tolerances h.method h.samples h.amounts
with_bring h (a_cycle v) = holding h.vehicle v h.tolerances h.method h.samples h.amounts
with_bring h (the_tolerances t) = holding h.vehicle h.cycle t h.method h.samples h.amounts
with_bring h (the_stretches x) = holding h.vehicle h.cycle h.tolerances (with_stretches x) h.samples h.amounts
with_bring h (own_samples xs) = holding h.vehicle h.cycle h.tolerances h.method (h.samples ++ xs) h.amounts
with_bring h (before e) = with_amounts h (with_before h.amounts e)
with_bring h (after e) = with_amounts h (with_after h.amounts e)
with_bring h (charged w) = with_amounts h (with_charge h.amounts w)

-- what the value v brings to what is told; what is told with it; and "the place in the order does not move, only the passed-over count rises"
abbrev pub content_at : Told → Matter → List ℕ → Content
content_at s = content_of s.passed s.holding.vehicle s.holding.cycle (length s.holding.samples)

abbrev pub bring_at : Told → ℕ → Bring → Told
bring_at s moves b = record { place = moves; passed = s.passed; holding = with_bring s.holding b }

abbrev pub more_passed : Told → Told
more_passed s = record { place = s.place; passed = s.passed + 1; holding = s.holding }

-- a whole field: taken, passed over or refused
abbrev pub take_field : Told → Field → Answer Told
take_field s f = field_answer s.place (content_at s) (bring_at s) (more_passed s) f

-- ---- a record as a whole

-- "A missing 6 is energy 0. A missing 7 gives the recharge figure "absent"."
abbrev pub no_amounts : Amounts
no_amounts = record { before = pos 0; after = pos 0; charge = absent }

-- before the first field
abbrev pub untold : Told
untold = record {
  place = at_first;
  passed = 0;
  holding = holding (replicate 17 48) [] (record { speed = 0; time = 0; allowance = 0 }) by_cycles [] no_amounts;
}

-- what is told, or "refused N field K"
pub data Sheet : Type 0 where
  told : Told → Sheet
  refused_at : (number : ℕ) → (field : ℕ) → Sheet

-- 15: "input ends inside a field, or before field 4 was accepted"; "K is the number of accepted fields, passed-over ones among them, plus one"
abbrev pub sheet_by : End → Told → ℕ → ℕ → Sheet
sheet_by waiting s fields left =
    unless (refused_at 15 (suc fields)) (leb behind_tolerances s.place)
    (unless (refused_at 15 (suc fields)) (eqb left 0) (told s))
sheet_by broken s fields left = refused_at 8 (suc fields)
sheet_by (stopped n) s fields left = refused_at n (suc fields)

-- the bytes i from what is told, behind so many fields
abbrev pub sheet_from : ℕ → Told → List ℕ → Sheet
sheet_from fields s i = let x = run tags take_field s i in sheet_by x.end x.state (fields + x.fields) (length i - x.used)

-- what the record i tells, or "refused N field K"
unfoldable pub sheet_of : List ℕ → Sheet
sheet_of i = sheet_from 0 untold i
