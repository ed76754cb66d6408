-- No number of the state passes its limits.
-- Assumes nothing.
use mathlib.Core.Bool.{Bool, true, false, ◌&&◌, false≢true}
use mathlib.Core.List.{List}
use mathlib.Core.Path.{◌≡◌, refl, ap, subst, ◌∙◌}
use Prim.Native.Nat.{ℕ, ◌≤◌}
use native.Mathlib.Omega.{arith}
use lib.ListN.{length}
use Rattle.std.specs.Prelude.{Some as wh}
use Rattle.rules.specs.Bench.{most_passed}
use Rattle.rules.specs.Closing.{is_charge}
use Rattle.laws.specs.Beside.{is_transfer}
use Rattle.values.specs.Limits.{are_amounts}
use Rattle.rules.specs.Cycle.{valid, most_bytes}
use Rattle.rules.specs.Table.{behind_recharge, tags}
use Rattle.rules.specs.Front.{Field}
use Rattle.rules.specs.Machine.{on, move_at, upto}
use Rattle.rules.specs.Values.{is_number}
use Rattle.rules.specs.Record.{Bring, nothing, a_number, a_cycle, the_tolerances, the_stretches, own_samples, before, after, charged}
use Rattle.laws.proofs.Prefixes.{kept}
use Rattle.laws.proofs.Says.{moves_to, Says}
use Rattle.laws.proofs.Sound.{sound}
use Rattle.records.specs.Stage.{Stage, bring_on, take_on}
use Rattle.records.proofs.Came.{Moved, took, went, moved}

pub record InLimits (x : Stage) : Type 0 where
  pub place : x.place ≤ behind_recharge
  pub passed : x.passed ≤ most_passed
  pub amounts : are_amounts x.amounts ≡ true
  pub number : is_number x.vehicle ≡ true
  pub size : length x.cycle ≤ most_bytes

-- one of three tests exchanged
exchanged : (b c d e : Bool) → (b && c && d) ≡ true → e ≡ true → ((e && c && d) ≡ true) × ((b && e && d) ≡ true) × ((b && c && e) ≡ true)
exchanged true true true true g k = (refl, refl, refl)
exchanged b c d false g k = absurd (false≢true k)
exchanged false c d true g k = absurd (false≢true g)
exchanged true false d true g k = absurd (false≢true g)
exchanged true true false true g k = absurd (false≢true g)

module _ (x : Stage) (f : Field) (h : InLimits x) where
  module _ (e : Bool) (k : e ≡ true) where
    abbrev tests : ((e && is_transfer x.amounts.after && is_charge x.amounts.charge) ≡ true)
        × ((is_transfer x.amounts.before && e && is_charge x.amounts.charge) ≡ true) × ((is_transfer x.amounts.before && is_transfer x.amounts.after && e) ≡ true)
    unfolding are_amounts
    tests = exchanged (is_transfer x.amounts.before) (is_transfer x.amounts.after) (is_charge x.amounts.charge) e h.amounts k

  limits_brought : (b : Bring) → Says x.passed x.vehicle x.cycle x.run.progress.offered f.tag f.value x.place b → InLimits (bring_on x (moves_to b) b)
  unfolding are_amounts
  limits_brought nothing s = record { place = omega arith; passed = h.passed; amounts = h.amounts; number = h.number; size = h.size }
  limits_brought (a_number v) s = record { place = omega arith; passed = h.passed; amounts = h.amounts; number = ap is_number s.2 ∙ s.3; size = h.size }
  limits_brought (a_cycle v) s =
      let o = sound v (ap valid s.2 ∙ s.3) in
      record { place = omega arith; passed = h.passed; amounts = h.amounts; number = h.number; size = omega (arith, o.whole, o.few_phases, o.short) }
  limits_brought (the_tolerances t) s = record { place = omega arith; passed = h.passed; amounts = h.amounts; number = h.number; size = h.size }
  limits_brought (the_stretches y) s = record { place = omega arith; passed = h.passed; amounts = h.amounts; number = h.number; size = h.size }
  limits_brought (own_samples xs) s = record { place = omega arith; passed = h.passed; amounts = h.amounts; number = h.number; size = h.size }
  limits_brought (before e) s = record { place = omega arith; passed = h.passed; amounts = (tests (is_transfer e) s.2).0; number = h.number; size = h.size }
  limits_brought (after e) s = record { place = omega arith; passed = h.passed; amounts = (tests (is_transfer e) s.2).1; number = h.number; size = h.size }
  limits_brought (charged w) s = record { place = omega arith; passed = h.passed; amounts = (tests (is_charge (wh w)) s.2).2; number = h.number; size = h.size }

pub limits_move : (x : Stage) (i : List ℕ) (y : Stage) (m : ℕ) → move_at tags take_on x i ≡ on y m → InLimits x → InLimits y
limits_move x i y m e h = go (moved x i y m e)
  where
    go : Moved x i y m → InLimits y
    go (took f _ _ _ c) = subst InLimits c.is (limits_brought x f h c.brings c.says)
    go (went f _ _ d l _) = subst InLimits d (record { place = h.place; passed = l; amounts = h.amounts; number = h.number; size = h.size })

pub limits_upto : (n : ℕ) (x : Stage) (i : List ℕ) → InLimits x → InLimits (upto tags take_on n x i).state
limits_upto n x i h = kept tags take_on InLimits limits_move n x i h
