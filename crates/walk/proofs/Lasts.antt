-- The last line of a record, by what its last turn says.
-- Assumes nothing.
use mathlib.Core.List.{List, [], ◌∷◌}
use mathlib.Core.Logic.{⊎_elim}
use mathlib.Core.Path.{◌≡◌, sym, ap, ◌∙◌}
use Prim.Native.Nat.{ℕ}
use native.Mathlib.Omega.{arith}
use types.Run.{OneOf}
use denote.Enum.Declared.{tag_of}
use lib.ListN.{take, drop}
use Rattle.rules.specs.declared.Spot.{Spot}
use Rattle.laws.specs.Answers.{Said, refuses}
use Rattle.reader.specs.Answers.{ending_of}
use Rattle.intake.specs.declared.Turn.{Turn}
use Rattle.intake.specs.declared.Turned.{Turned}
use Rattle.intake.specs.declared.Turned.TheVariants.{On, Ended, Failed, Refused}
use Rattle.intake.specs.contracts.Turned.{the_type as turned-type}
use Rattle.walk.specs.Walks.{last_text, last_said, last_of}

-- what the last turn says
abbrev said : Turn → Said (Unit {0})
said t = last_said t.turned t.desk.started t.held

pub said_last : (t : Turn) (spot : Spot) (buffer : List ℕ) {y : Said (Unit {0})} → said t ≡ y → last_text y t.desk.fields spot.offset (take t.held (drop t.used buffer)) ≡ last_of t spot buffer
said_last t spot buffer e = ap (λ (y : Said (Unit {0})). last_text y t.desk.fields spot.offset (take t.held (drop t.used buffer))) (sym e)

-- a field was refused
pub refused_said : (t : Turn) {k : ℕ} → t.turned ≡ Refused k → said t ≡ refuses k
refused_said t e = ap (λ (z : Turned). last_said z t.desk.started t.held) e

-- none was: by the record's end
not_refused : (z : Turned) → OneOf (0 ∷ 1 ∷ 2 ∷ []) (tag_of turned-type z) → (t : Turn) → last_said z t.desk.started t.held ≡ ending_of t.desk.started t.held
not_refused On h t = λ i. ending_of t.desk.started t.held
not_refused Ended h t = λ i. ending_of t.desk.started t.held
not_refused Failed h t = λ i. ending_of t.desk.started t.held
not_refused (Refused k) h t = absurd (⊎_elim (λ e. omega arith) (⊎_elim (λ e. omega arith) (λ e. omega arith)) h)

pub ended_said : (t : Turn) → OneOf (0 ∷ 1 ∷ 2 ∷ []) (tag_of turned-type t.turned) → {y : Said (Unit {0})} → ending_of t.desk.started t.held ≡ y → said t ≡ y
ended_said t h e = not_refused t.turned h t ∙ e
