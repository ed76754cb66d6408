-- The desk that the bytes of a record brought goes on without a test: whatever the memory lent at first, it has no 1 or 2 where its run has started.
-- Assumes nothing.
use mathlib.Core.Bool.{Bool, true, false, false≢true}
use mathlib.Core.List.{List, ◌++◌}
use mathlib.Core.Path.{◌≡◌, refl, sym, ap, subst, ◌∙◌}
use Prim.Native.Nat.{ℕ, ◌≤◌, ◌<◌, zero-le}
use native.Mathlib.Omega.{arith}
use borrow.Author.Tests.{leb-true, leb-false, lt-leb}
use lib.Dec.{leb}
use lib.IntN.{ℤ}
use lib.ListN.{length}
use Rattle.numbers.proofs.Tests.{stop}
use Rattle.rules.specs.Cycle.{most_bytes}
use Rattle.laws.specs.Answers.{Said, refuses}
use Rattle.opening.specs.Answers.{open_ground}
use Rattle.desk.specs.declared.Desk.{Desk}
use Rattle.desk.specs.Feeding.{wanted, Laid, Consumed, laid_of, empty_desk, stops, feed_of, most_fields, desk_ground, Steady}
use Rattle.desk.proofs.Grounds.{of_opening, ground_steady, feed_refuses}
use Rattle.desk.proofs.Arriving.{begin, after_few, Arrived, arrived_none, arrived_more, arrived_ground, fed_is}
use Rattle.intake.specs.Turns.{Came, none, part, round_of, going_on, Stood}

-- on a room that is long enough, the bytes that came have arrived at the desk
module _ (room : List ℕ) (l : List ℤ) (m : List ℕ) (long : most_bytes ≤ length room) where
  pub came_arrived : {w rest : List ℕ} {x : Laid} {o : Said (Unit {0})} → Came (begin room l m long) w x rest o → o ≡ wanted → Arrived room l m long w x rest
  came_arrived none e = arrived_none room l m long
  came_arrived (part h new) e = arrived_more room l m long (came_arrived h refl) new e

-- on a shorter one each call is refused
refused_short : (room : List ℕ) (l : List ℤ) (m : List ℕ) → length room < most_bytes → (i : List ℕ)
    → feed_of (laid_of empty_desk room l m) i ≡ stops (laid_of empty_desk room l m) (refuses (desk_ground (laid_of empty_desk room l m)))
unfolding open_ground
refused_short room l m h i =
    let x₀ = laid_of empty_desk room l m in
    let one : 1 ≡ desk_ground x₀ = stop _ (lt-leb most_bytes (length room) h) ∙ of_opening x₀ zero-le refl in
    feed_refuses x₀ i (λ z. omega arith)

came_nothing : (room : List ℕ) (l : List ℤ) (m : List ℕ) → length room < most_bytes → {w rest : List ℕ} {x : Laid} {o : Said (Unit {0})} → Came (laid_of empty_desk room l m) w x rest o → o ≡ wanted
    → x ≡ laid_of empty_desk room l m
came_nothing room l m h none e = refl
came_nothing room l m h (part {rest = rest} {x = x} c new) e =
    let x₀ = laid_of empty_desk room l m in
    let same = came_nothing room l m h c refl in
    let fed = ap (λ (y : Laid). feed_of y (rest ++ new)) same ∙ refused_short room l m h (rest ++ new) in
    absurd (more_not_refused (desk_ground x₀) (sym e ∙ ap (λ (y : Consumed). y.outcome) fed))
  where
    more_not_refused : (k : ℕ) → wanted ≡ refuses k → ⊥
    more_not_refused k e = false≢true cc

-- on any
came_steady : (room : List ℕ) (l : List ℤ) (m : List ℕ) {w rest : List ℕ} {x : Laid} → Came (laid_of empty_desk room l m) w x rest wanted → Steady x
came_steady room l m {x = x} c = go (leb most_bytes (length room)) refl
  where
    go : (p : Bool) → leb most_bytes (length room) ≡ p → Steady x
    go true e = let long = leb-true most_bytes (length room) e in ground_steady x (arrived_ground room l m long (came_arrived room l m long c refl))
    go false e = subst Steady (sym (came_nothing room l m (leb-false most_bytes (length room) e) c refl)) (record { few = zero-le; run_ground = λ q. absurd (false≢true q) })

-- and it has no more fields than a record can have, whatever became of the last part
pub came_few : (room : List ℕ) (l : List ℤ) (m : List ℕ) {w rest : List ℕ} {x : Laid} {o : Said (Unit {0})} → Came (laid_of empty_desk room l m) w x rest o → x.desk.fields ≤ most_fields
came_few room l m none = zero-le
came_few room l m (part {w = w} {rest = rest} {x = x} c new) = go (leb most_bytes (length room)) refl
  where
    go : (p : Bool) → leb most_bytes (length room) ≡ p → (feed_of x (rest ++ new)).laid.desk.fields ≤ most_fields
    go true e =
        let long = leb-true most_bytes (length room) e in
        let fed = ap (λ (y : Consumed). y.laid.desk.fields) (fed_is room l m long (came_arrived room l m long c refl) new) in
        omega (arith, fed, after_few room l m long (w ++ new))
    go false e =
        let short = leb-false most_bytes (length room) e in
        let same = came_nothing room l m short c refl in
        let fed = ap (λ (y : Laid). feed_of y (rest ++ new)) same ∙ refused_short room l m short (rest ++ new) in
        omega (arith, ap (λ (y : Consumed). y.laid.desk.fields) fed)

-- so every turn begins with a desk that needs none
pub stood_steady : (room₀ : List ℕ) (l₀ : List ℤ) (m₀ : List ℕ) (most : ℕ) (desk : Desk) (used held left : ℕ) (b room : List ℕ) (l : List ℤ) (m : List ℕ)
    → Stood (laid_of empty_desk room₀ l₀ m₀) most (round_of (going_on desk used held left) b room l m) → Steady (laid_of desk room l m)
stood_steady room₀ l₀ m₀ most desk used held left b room l m s = came_steady room₀ l₀ m₀ s.came
