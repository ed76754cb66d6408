-- What later fields leave: the place never falls, the cycle stays from field 3 on, vehicle and tolerances from the start on.
-- Assumes nothing.
use mathlib.Core.List.{List}
use mathlib.Core.Path.{◌≡◌, refl, subst, ◌∙◌}
use Prim.Native.Nat.{ℕ, ◌≤◌}
use native.Mathlib.Nat.{le_refl, le_trans}
use native.Mathlib.Omega.{arith}
use Rattle.rules.specs.Table.{behind_cycle, behind_tolerances, tags}
use Rattle.rules.specs.Front.{Field}
use Rattle.rules.specs.Machine.{on, move_at, upto}
use Rattle.rules.specs.Record.{Bring, nothing, a_number, a_cycle, the_tolerances, the_stretches, own_samples, before, after, charged}
use Rattle.laws.proofs.Places.{place_is, before_places, block_places_lem, recharge_places}
use Rattle.laws.proofs.Prefixes.{kept}
use Rattle.laws.proofs.Says.{moves_to, Says}
use Rattle.records.specs.Stage.{Stage, bring_on, take_on}
use Rattle.records.proofs.Came.{Moved, took, went, moved}

pub record After (x y : Stage) : Type 0 where
  pub place : x.place ≤ y.place
  pub cycle : behind_cycle ≤ x.place → y.cycle ≡ x.cycle
  pub vehicle : behind_tolerances ≤ x.place → y.vehicle ≡ x.vehicle
  pub tolerances : behind_tolerances ≤ x.place → y.tolerances ≡ x.tolerances

pub after_none : (x : Stage) → After x x
after_none x = record { place = le_refl x.place; cycle = λ _. refl; vehicle = λ _. refl; tolerances = λ _. refl }

pub after_both : {x y z : Stage} → After x y → After y z → After x z
after_both g h = record {
  place = le_trans g.place h.place;
  cycle = λ l. h.cycle (le_trans l g.place) ∙ g.cycle l;
  vehicle = λ l. h.vehicle (le_trans l g.place) ∙ g.vehicle l;
  tolerances = λ l. h.tolerances (le_trans l g.place) ∙ g.tolerances l;
}

module _ (x : Stage) (f : Field) where
  after_brought : (b : Bring) → Says x.passed x.vehicle x.cycle x.run.progress.offered f.tag f.value x.place b → After x (bring_on x (moves_to b) b)
  after_brought nothing s = let e = place_is x.place 0 s.1 in record { place = omega arith; cycle = λ l. refl; vehicle = λ l. refl; tolerances = λ l. refl }
  after_brought (a_number v) s = let e = place_is x.place 1 s.1 in record { place = omega arith; cycle = λ l. refl; vehicle = λ l. absurd (omega arith); tolerances = λ l. refl }
  after_brought (a_cycle v) s = let e = place_is x.place 2 s.1 in record { place = omega arith; cycle = λ l. absurd (omega arith); vehicle = λ l. refl; tolerances = λ l. refl }
  after_brought (the_tolerances t) s = let e = place_is x.place 3 s.1 in record { place = omega arith; cycle = λ l. refl; vehicle = λ l. refl; tolerances = λ l. absurd (omega arith) }
  after_brought (the_stretches y) s = let e = place_is x.place behind_tolerances s.1 in record { place = omega arith; cycle = λ l. refl; vehicle = λ l. refl; tolerances = λ l. refl }
  after_brought (own_samples xs) s = let e = (block_places_lem x.place s.1).1 in record { place = omega arith; cycle = λ l. refl; vehicle = λ l. refl; tolerances = λ l. refl }
  after_brought (before z) s = let e = (before_places x.place s.1).1 in record { place = omega arith; cycle = λ l. refl; vehicle = λ l. refl; tolerances = λ l. refl }
  after_brought (after z) s = let e = (block_places_lem x.place s.1).1 in record { place = omega arith; cycle = λ l. refl; vehicle = λ l. refl; tolerances = λ l. refl }
  after_brought (charged w) s = let e = (recharge_places x.place s.1).1 in record { place = omega arith; cycle = λ l. refl; vehicle = λ l. refl; tolerances = λ l. refl }

pub after_move : (x : Stage) (i : List ℕ) (y : Stage) (m : ℕ) → move_at tags take_on x i ≡ on y m → After x y
after_move x i y m e = go (moved x i y m e)
  where
    go : Moved x i y m → After x y
    go (took f _ _ _ c) = subst (After x) c.is (after_brought x f c.brings c.says)
    go (went f _ _ d _ _) = subst (After x) d (record { place = le_refl x.place; cycle = λ _. refl; vehicle = λ _. refl; tolerances = λ _. refl })

pub after_upto : (n : ℕ) (x : Stage) (i : List ℕ) → After x (upto tags take_on n x i).state
after_upto n x i = kept tags take_on (After x) (λ y j z m e a. after_both a (after_move y j z m e)) n x i (after_none x)
