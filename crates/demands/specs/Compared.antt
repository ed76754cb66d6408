-- What the demands compare: records that differ only in field 4, records with samples added at their end, and what is printed of two records.
-- Assumes nothing.
use Rattle.std.specs.Prelude.{List, ◌∷◌, ◌++◌, ◌≡◌, ℕ, ◌+◌, ◌≤◌, max, length}
use Rattle.rules.specs.Words.{spell}
use Rattle.rules.specs.declared.Figures.{Figures}
use Rattle.rules.specs.declared.Moment.{Moment}
use Rattle.rules.specs.declared.Tolerances.{Tolerances}
use Rattle.rules.specs.Course.{outside, judged}
use Rattle.rules.specs.Regular.{moment_in}
use Rattle.rules.specs.Plan.{course_of}
use Rattle.rules.specs.Table.{behind_cycle, tags}
use Rattle.rules.specs.Machine.{waiting, run}
use Rattle.rules.specs.Record.{Told, holding, take_field, untold, Sheet, told, refused_at}
use Rattle.rules.specs.Figures.{plan_told, closed_in}
use Rattle.rules.specs.Text.{digits, line}
use Rattle.reading.specs.declared.Reading.{Reading}
use Rattle.figures.specs.Compared.{with_counts}

-- ---- records that differ only in field 4: p, a field 4 of the value v, and q

-- "a one-byte tag, a two-byte length and the value"
abbrev pub field_four : List ℕ → List ℕ
field_four v = 4 ∷ 0 ∷ 6 ∷ v

abbrev pub with_four : List ℕ → List ℕ → List ℕ → List ℕ
with_four p q v = p ++ (field_four v ++ q)

-- p is the whole first three fields: they are accepted, and no byte is left
pub record FirstThree (p : List ℕ) : Type 0 where
  pub three : (run tags take_field untold p).state.place ≡ behind_cycle
  pub whole : (run tags take_field untold p).used ≡ length p
  pub awaits : (run tags take_field untold p).end ≡ waiting

-- the record i as p, a field 4 of the value v, and q
pub record HasFour (i : List ℕ) : Type 0 where
  pub p : List ℕ
  pub v : List ℕ
  pub q : List ℕ
  pub record_is : i ≡ with_four p q v
  pub first_three : FirstThree p
  pub six : length v ≡ 6

-- what is told, and a sheet, with other tolerances
abbrev pub with_tolerances : Told → Tolerances → Told
with_tolerances x t = record {
  place = x.place;
  passed = x.passed;
  holding = holding x.holding.vehicle x.holding.cycle t x.holding.method x.holding.samples x.holding.amounts;
}

abbrev pub retold : Tolerances → Sheet → Sheet
retold t (told x) = told (with_tolerances x t)
retold t (refused_at number field) = refused_at number field

-- ---- samples added at the end

-- what is told, with other samples
abbrev pub with_samples : Told → List Moment → Told
with_samples x xs = record {
  place = x.place;
  passed = x.passed;
  holding = holding x.holding.vehicle x.holding.cycle x.holding.tolerances x.holding.method xs x.holding.amounts;
}

-- at the place p, where that of x is before it
abbrev pub not_before : ℕ → Told → Told
not_before p x = record { place = max p x.place; passed = x.passed; holding = x.holding }

-- y is x with others behind
pub record Appends (x y : List Moment) : Type 0 where
  pub added : List Moment
  pub joins : y ≡ x ++ added

-- x' tells the cycle, the tolerances and the method of x, and its samples with others behind them
pub record Grown (x x' : Told) : Type 0 where
  pub cycle : x'.holding.cycle ≡ x.holding.cycle
  pub tolerances : x'.holding.tolerances ≡ x.holding.tolerances
  pub method : x'.holding.method ≡ x.holding.method
  pub samples : Appends x.holding.samples x'.holding.samples

-- ---- what is printed

-- the samples of what is told, how many of their shares are closed, and how many of cycle c are outside, the stopping one among them
abbrev pub moments_told : Told → ℕ → Moment
moments_told x = moment_in x.holding.samples

abbrev pub closed_told : Told → ℕ
closed_told x = closed_in (plan_told x) x.holding.samples

abbrev pub outside_told : Told → ℕ → ℕ
outside_told x c = let y = course_of (plan_told x) in outside y (moments_told x) c (judged y (moments_told x) (length x.holding.samples))

-- `outside` and a number
abbrev pub outside_line : ℕ → List ℕ
outside_line n = line (spell "outside") (digits n)

-- `passed` and a number
abbrev pub passed_line : ℕ → List ℕ
passed_line n = line (spell "passed") (digits n)

-- two sheets with the same lines but for `outside`, whose number is no higher on the second
pub record NoMoreOutside (text text' : List ℕ) : Type 0 where
  pub above : List ℕ
  pub below : List ℕ
  pub number : ℕ
  pub number' : ℕ
  pub lines : text ≡ above ++ (outside_line number ++ below)
  pub lines' : text' ≡ above ++ (outside_line number' ++ below)
  pub no_higher : number' ≤ number

-- two sheets with the same lines but for `passed`, whose number is one higher on the second
pub record OneMorePassed (text text' : List ℕ) : Type 0 where
  pub above : List ℕ
  pub below : List ℕ
  pub number : ℕ
  pub lines : text ≡ above ++ (passed_line number ++ below)
  pub lines' : text' ≡ above ++ (passed_line (number + 1) ++ below)

-- the figures, with another `passed`
abbrev pub with_passed : Figures → ℕ → Figures
with_passed f n = with_counts f f.outside n

-- the reading with one block more passed over
abbrev pub one_passed : Reading → Reading
one_passed r = record { vehicle = r.vehicle; place = r.place; passed = r.passed + 1; amounts = r.amounts; run = r.run }
