-- What it is that a contract leaves no doubt: nothing is asked and one answer is left, in terms of the contract itself.
-- Assumes nothing.
use mathlib.Core.Path.{◌≡◌, sym, ap, ◌∙◌}
use denote.Triple.Clauses.{Ended, Lasts, at_exit}
use Rattle.demands.specs.Calls.{Promise, Call, left}
pub mod OfRules
pub mod OfNumbers
pub mod OfValues
pub mod OfCycle
pub mod OfWindow
pub mod OfMap
pub mod OfLedger
pub mod OfState
pub mod OfStep
pub mod OfBlocks
pub mod OfJudge
pub mod OfWide
pub mod OfConsumption
pub mod OfClosing
pub mod OfFields
pub mod OfContents
pub mod OfOpening
pub mod OfReading
pub mod OfReader
pub mod OfSheet
pub mod OfListing
pub mod OfTraces
pub mod OfFigures
pub mod OfSources
pub mod OfDesk
pub mod OfPrints
pub mod OfTracing
pub mod OfIntake
pub mod OfWalk
pub mod OfTraced
pub mod OfPaperwhelk

pub left_by : {T : Ended} {P : Promise T} (c : Call T P) {w : Lasts T c.κs c.args} → c.lasts ≡ w → left c ≡ at_exit T c.κs c.args w
left_by {T} c e = ap (at_exit T c.κs c.args) e

pub same : {A : Type 0} {x y z : A} → x ≡ z → y ≡ z → x ≡ y
same p q = p ∙ sym q
