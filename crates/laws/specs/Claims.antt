-- What the claims about runs and records compare.
-- Assumes nothing.
use Rattle.std.specs.Prelude.{true, false, List, ◌≡◌, ℕ, suc, ◌+◌, ◌≤◌, T, length}
use Rattle.rules.specs.declared.Moment.{Moment}
use Rattle.rules.specs.declared.Tolerances.{Tolerances}
use Rattle.rules.specs.Course.{Share}
use Rattle.rules.specs.Parts.{Part, finished, part_energy, part_distance}
use Rattle.rules.specs.Table.{tags}
use Rattle.rules.specs.Front.{field, front_of}
use Rattle.rules.specs.Values.{is_number, same_number}
use Rattle.rules.specs.Record.{Told, more_passed, Sheet, told, refused_at}
use Rattle.laws.specs.Beside.{may_stand}

-- each of the three tolerances is kept or widened
pub record Widened (t t' : Tolerances) : Type 0 where
  pub speed : t.speed ≤ t'.speed
  pub time : t.time ≤ t'.time
  pub allowance : t.allowance ≤ t'.allowance

-- a part that is finished where m shares of s are closed is finished, with the same figures, where m' of s' are
pub record PartKept (h : Share) (p : Part) (s s' : ℕ → Moment) (m m' : ℕ) : Type 0 where
  pub finished_too : T (finished p m')
  pub same_energy : part_energy h s' p m' ≡ part_energy h s p m
  pub same_distance : part_distance h s' p m' ≡ part_distance h s p m

-- f is a field 5 with the value v, and nothing behind it; its number is valid, and not the one of s; blocks may stand there
pub record ForeignBlock (s : Told) (f v : List ℕ) : Type 0 where
  pub front : front_of tags f ≡ field (record { tag = 5; value = v })
  pub size : length f ≡ 3 + length v
  pub number : is_number v ≡ true
  pub other : same_number s.holding.vehicle v ≡ false
  pub place : may_stand tags s.place 5 v ≡ true

-- with one block more passed over: the count is one higher, and so is the number of a refused field
abbrev pub one_more : Sheet → Sheet
one_more (told s) = told (more_passed s)
one_more (refused_at number k) = refused_at number (suc k)
