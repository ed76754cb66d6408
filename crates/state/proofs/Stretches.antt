-- What the tests say of a method's stretches and of what a run has of them; and how many cycles there are beside stretches.
-- Assumes nothing.
use mathlib.Core.Bool.{Bool, true, false, cond}
use mathlib.Core.Path.{◌≡◌, refl, sym, subst}
use Prim.Native.Nat.{ℕ, ◌+◌, ◌-◌, ◌*◌, ◌/◌, ◌≤◌, ◌<◌, min}
use native.Mathlib.Nat.{div-lt_iff_lt-mul}
use native.Mathlib.Omega.{arith}
use borrow.Author.Tests.{leb-true, ltb-true, eqb-true}
use lib.Dec.{leb, ltb, eqb}
use lib.IntN.{pos}
use Rattle.numbers.specs.Whole.{Sized}
use Rattle.numbers.proofs.Tests.{both}
use Rattle.numbers.proofs.Whole.{of_nat, eq_z_true, sized_between}
use Rattle.rules.specs.declared.Stretches.{Stretches}
use Rattle.rules.specs.declared.Method.{Method}
use Rattle.rules.specs.declared.Method.TheVariants.{Regular as by_cycles, Shortened as with_stretches}
use Rattle.rules.specs.Bench.{are_stretches, most_offered}
use Rattle.rules.specs.Shortened.{most_below}
use Rattle.rules.specs.Shown.{most_stretch_energy, most_stretch_distance}
use Rattle.values.specs.Limits.{is_method}
use Rattle.state.specs.State.{Stretch, Stretched, Run, is_stretch, are_stretched, stretched_by, is_stretched}
use Rattle.state.specs.Refusals.{finished_around, last_around}

-- ---- a method

pub method_length : (x : Stretches) → are_stretches x ≡ true → (1 ≤ x.length) × (x.length ≤ most_offered)
unfolding are_stretches
method_length x e =
    let e₃ = both _ _ e in
    let e₂ = both _ _ e₃.0 in
    let e₁ = both _ _ e₂.0 in
    (leb-true _ _ e₁.0, leb-true _ _ e₁.1)

-- the same of a method that is known to have stretches
pub shortened_length : {y : Method} {x : Stretches} → is_method y ≡ true → y ≡ with_stretches x → (1 ≤ x.length) × (x.length ≤ most_offered)
shortened_length h e = method_length _ (subst (λ (y : Method). is_method y ≡ true) e h)

-- ---- what a run has of its stretches

abbrev Brought : Stretch → Type 0
Brought x = Sized most_stretch_energy x.energy × (x.distance ≤ most_stretch_distance)

record Parts (z : Stretched) : Type 0 where
  in_m : Brought z.in_m
  in_e : Brought z.in_e
  watch : z.watch ≤ most_below

brought : (begun : Bool) (x : Stretch) → is_stretch begun x ≡ true → Brought x
brought true x h =
    let (d, e) = both (leb x.distance most_stretch_distance) _ h in
    (sized_between most_stretch_energy x.energy e, leb-true _ _ d)
brought false x h =
    let (d, e) = both (eqb x.distance 0) _ h in
    (subst (Sized most_stretch_energy) (sym (eq_z_true x.energy (pos 0) e)) (of_nat (omega arith)), omega (arith, eqb-true x.distance 0 d))

watched_most : (watched : Bool) (n : ℕ) → cond watched (leb n most_below) (eqb n 0) ≡ true → n ≤ most_below
watched_most true n h = leb-true n most_below h
watched_most false n h = omega (arith, eqb-true n 0 h)

parts : (z : Stretched) (m e watched : Bool) → are_stretched z m e watched ≡ true → Parts z
unfolding are_stretched
parts z m e watched h =
    let (a, w) = both _ _ h in
    let (x, y) = both (is_stretch m z.in_m) (is_stretch e z.in_e) a in
    record { in_m = brought m z.in_m x; in_e = brought e z.in_e y; watch = watched_most watched z.watch w }

stretched : (r : Run) → is_stretched r ≡ true → Parts r.stretched
unfolding is_stretched
stretched r = go r.track.method (20 * r.track.seconds)
  where
    go : (y : Method) (n : ℕ) → stretched_by y n r.progress r.stretched ≡ true → Parts r.stretched
    go by_cycles n h = parts r.stretched _ _ _ h
    go (with_stretches x) n h = parts r.stretched _ _ _ h

pub stretched_m : (r : Run) → is_stretched r ≡ true → Sized most_stretch_energy r.stretched.in_m.energy × (r.stretched.in_m.distance ≤ most_stretch_distance)
stretched_m r h = (stretched r h).in_m

pub stretched_e : (r : Run) → is_stretched r ≡ true → Sized most_stretch_energy r.stretched.in_e.energy × (r.stretched.in_e.distance ≤ most_stretch_distance)
stretched_e r h = (stretched r h).in_e

pub stretched_watch : (r : Run) → is_stretched r ≡ true → r.stretched.watch ≤ most_below
stretched_watch r h = (stretched r h).watch

-- ---- four cycles of n positions, and M of m samples

module _ (n m : ℕ) (real : 1 ≤ n) where
  pub finished_most : (closed : ℕ) → finished_around closed n m ≤ 4
  finished_most closed = go (ltb closed (2 * n)) (ltb closed (2 * n + m)) refl
    where
      go : (a b : Bool) → ltb closed (2 * n) ≡ a → cond a (closed / n) (cond b 2 (min 4 ((closed - m) / n))) ≤ 4
      go true b e = let h = (div-lt_iff_lt-mul {x = closed} {y = 2} real).1 (ltb-true _ _ e) in omega arith
      go false true e = omega arith
      go false false e = omega arith

  pub last_most : (j : ℕ) → last_around j n m < 4
  last_most j = go (ltb j (2 * n)) (ltb j (2 * n + m)) (ltb j (4 * n + m)) refl refl
    where
      go : (a b c : Bool) → ltb j (2 * n) ≡ a → ltb j (4 * n + m) ≡ c → cond a (j / n) (cond b 1 (cond c ((j - m) / n) 3)) < 4
      go true b c e f = let h = (div-lt_iff_lt-mul {x = j} {y = 2} real).1 (ltb-true _ _ e) in omega arith
      go false true c e f = omega arith
      go false false true e f = (div-lt_iff_lt-mul {x = j - m} {y = 4} real).1 (omega (arith, ltb-true j (4 * n + m) f))
      go false false false e f = omega arith
