-- `ledger::row::add_interval` meets its contract. No addition wraps, since no number grows beyond the row's bound and the interval's.
use mathlib.Core.Path.{◌≡◌, sym, ap, ap₂, subst⁻¹, ◌∙◌}
use mathlib.Core.List.{List}
use Prim.Native.Nat.{ℕ, ◌+◌}
use native.Mathlib.Nat.{zero-add}
use native.Mathlib.Omega.{arith}
use lib.IntN.{ℤ, pos, ◌+ℤ◌}
use mir.Syntax.{w64}
use mir.Val.{to_z, of_z}
use Rattle.numbers.specs.Lists.{plus}
use Rattle.numbers.specs.Whole.{Sized, Small}
use Rattle.numbers.proofs.Whole.{of_nat, sized_add, small_plus}
use Rattle.numbers.proofs.Signed.{sfits, read}
use Rattle.rules.specs.declared.Moment.{Moment}
use Rattle.rules.specs.Bench.{most_share_energy, most_share_distance}
use Rattle.laws.proofs.Bounds.{within}
use Rattle.ledger.specs.Row.{interval_added, most_held}
use Rattle.ledger.proofs.row.add_interval.Goals as goal
use Rattle.ledger.proofs.row.add_interval.Goals.{After-energy_between, After-distance_between}

-- the row once the energy e is added, and once the distance d is too: the interval's from x to y
added_both : (l : List ℤ) (k : ℕ) (x y : Moment) (e d : ℤ) → e ≡ x.energy +ℤ y.energy → d ≡ pos (x.speed + y.speed)
    → {l₁ l₂ : List ℤ} → l₁ ≡ plus l k e → l₂ ≡ plus l₁ (4 + k) d → l₂ ≡ interval_added 0 l k x y
unfolding interval_added
added_both l k x y e d energy distance p q =
    q
    ∙ ap (λ (z : List ℤ). plus z (4 + k) d) p
    ∙ ap₂ (λ (i j : ℕ). plus (plus l i e) j d) (sym (zero-add k)) (sym (zero-add (4 + k)))
    ∙ ap₂ (λ (z w : ℤ). plus (plus l (0 + k) z) (0 + (4 + k)) w) energy distance

-- energy and distance as the machine reads them
module _ (c : After-energy_between) where
  abbrev energy : ℤ
  energy = to_z w64 (of_z w64 c.energy_between.result)

  energy_is : energy ≡ c.args.x.energy +ℤ c.args.y.energy
  energy_is = read {w = w64} (record { sfits = c.energy_between.type_inv }) ∙ c.energy_between.ensures

  energy_sized : Sized most_share_energy energy
  energy_sized =
      subst⁻¹ (Sized most_share_energy) energy_is
      (sized_add (within c.args.x c.requires.3).energy (within c.args.y c.requires.4).energy)

module _ (c : After-distance_between) where
  abbrev distance : ℤ
  distance = to_z w64 (of_z w64 c.distance_between.result)

  distance_is : distance ≡ pos (c.args.x.speed + c.args.y.speed)
  distance_is = read {w = w64} (record { sfits = c.distance_between.type_inv }) ∙ c.distance_between.ensures

  distance_sized : Sized most_share_distance distance
  distance_sized =
      subst⁻¹ (Sized most_share_distance) distance_is
      (of_nat (omega (arith, (within c.args.x c.requires.3).speed, (within c.args.y c.requires.4).speed)))

pub add_at-requires : goal.add_at-requires
add_at-requires c = let a = (goal.at.add_at-requires c).After-energy_between in (omega arith, sfits w64 tt (sized_add (c.requires.2 _) (energy_sized a)))

pub add_at-requires-2 : goal.add_at-requires-2
add_at-requires-2 c =
    let a = (goal.at.add_at-requires-2 c).After-distance_between in
    let b = (goal.at.add_at-requires-2 c).After-energy_between in
    let small = small_plus c.args.row.now c.args.phase c.requires.2 (energy_sized b) in
    (omega (arith, c.add_at.auto.row), sfits w64 tt (sized_add (subst⁻¹ (Small (most_held + most_share_energy)) c.add_at.ensures small _) (distance_sized a)))

pub returns : goal.returns
returns c =
    let a = (goal.at.returns c).After-distance_between in
    let b = (goal.at.returns c).After-energy_between in
    added_both c.args.row.now c.args.phase c.args.x c.args.y _ _ (energy_is b) (distance_is a) c.add_at.ensures c.add_at-2.ensures
