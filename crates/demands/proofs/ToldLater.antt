-- What the fields after the start leave: vehicle, cycle and tolerances, the samples before their own, and, once another field stands behind the
-- tolerances, the method.
-- Assumes nothing.
use mathlib.Core.List.{List, [], ◌++◌, append-nil, append_assoc}
use mathlib.Core.Path.{◌≡◌, refl, sym, ap, ◌∙◌}
use Prim.Native.Nat.{ℕ, ◌+◌, ◌≤◌, ◌<◌}
use native.Mathlib.Omega.{arith}
use lib.ListN.{length, length-append}
use Rattle.rules.specs.declared.Amounts.{Amounts}
use Rattle.rules.specs.declared.Moment.{Moment}
use Rattle.rules.specs.Table.{behind_tolerances, behind_before, behind_block, behind_after, behind_recharge, tags}
use Rattle.rules.specs.Front.{Field}
use Rattle.rules.specs.Machine.{on, move_at, upto, run}
use Rattle.rules.specs.Record.{Told, Bring, nothing, a_number, a_cycle, the_tolerances, the_stretches, own_samples, before, after, charged, holding, with_before, with_after, with_charge, bring_at, take_field}
use Rattle.laws.proofs.Places.{place_is}
use Rattle.laws.proofs.Prefixes.{kept}
use Rattle.laws.proofs.Says.{moves_to}
use Rattle.demands.specs.Compared.{Appends}
use Rattle.demands.proofs.ToldCame.{SaysAt, moved_holds}

-- y came after x, where the run is started
pub record Later (x y : Told) : Type 0 where
  pub late : behind_tolerances ≤ y.place
  pub vehicle : y.holding.vehicle ≡ x.holding.vehicle
  pub cycle : y.holding.cycle ≡ x.holding.cycle
  pub tolerances : y.holding.tolerances ≡ x.holding.tolerances
  -- document 02, L5: "A new field (tag 8) after the tolerances"
  pub past : behind_tolerances < x.place → behind_tolerances < y.place
  pub method : behind_tolerances < x.place → y.holding.method ≡ x.holding.method
  pub samples : Appends x.holding.samples y.holding.samples

later_none : (x : Told) → behind_tolerances ≤ x.place → Later x x
later_none x l =
    let none : Appends x.holding.samples x.holding.samples = record { added = []; joins = sym (append-nil x.holding.samples) } in
    record { late = l; vehicle = refl; cycle = refl; tolerances = refl; past = λ g. g; method = λ _. refl; samples = none }

module _ (x s : Told) (h : Later x s) where
  -- what s is, at the place p, with so many passed over, with the samples ys and the amounts a
  later_with : (p over : ℕ) (a : Amounts) (ys : List Moment) → behind_tolerances ≤ p → (behind_tolerances < x.place → behind_tolerances < p)
      → Appends x.holding.samples ys
      → Later x (record { place = p; passed = over; holding = holding s.holding.vehicle s.holding.cycle s.holding.tolerances s.holding.method ys a })
  later_with p over a ys l g more =
      record { late = l; vehicle = h.vehicle; cycle = h.cycle; tolerances = h.tolerances; past = g; method = h.method; samples = more }

  later_brought : (f : Field) (b : Bring) → SaysAt s f b → Later x (bring_at s (moves_to b) b)
  later_brought f nothing w = absurd (let l = place_is s.place 0 w.1 in omega (arith, h.late))
  later_brought f (a_number v) w = absurd (let l = place_is s.place 1 w.1 in omega (arith, h.late))
  later_brought f (a_cycle v) w = absurd (let l = place_is s.place 2 w.1 in omega (arith, h.late))
  later_brought f (the_tolerances t) w = absurd (let l = place_is s.place 3 w.1 in omega (arith, h.late))
  later_brought f (the_stretches z) w =
      let l = place_is s.place behind_tolerances w.1 in
      record {
        late = omega arith;
        vehicle = h.vehicle;
        cycle = h.cycle;
        tolerances = h.tolerances;
        past = λ _. omega arith;
        method = λ g. absurd (let k = h.past g in omega arith);
        samples = h.samples;
      }
  later_brought f (own_samples xs) w =
      let a = h.samples in
      let more : Appends x.holding.samples (s.holding.samples ++ xs) = record {
        added = a.added ++ xs;
        joins = ap (λ (y : List Moment). y ++ xs) a.joins ∙ append_assoc x.holding.samples a.added xs;
      } in
      later_with behind_block s.passed s.holding.amounts _ (omega arith) (λ _. omega arith) more
  later_brought f (before e) w = later_with behind_before s.passed (with_before s.holding.amounts e) _ (omega arith) (λ _. omega arith) h.samples
  later_brought f (after e) w = later_with behind_after s.passed (with_after s.holding.amounts e) _ (omega arith) (λ _. omega arith) h.samples
  later_brought f (charged k) w = later_with behind_recharge s.passed (with_charge s.holding.amounts k) _ (omega arith) (λ _. omega arith) h.samples

  later_move : (i : List ℕ) (s' : Told) (m : ℕ) → move_at tags take_field s i ≡ on s' m → Later x s'
  later_move =
      moved_holds (Later x) s (λ f b _ w. later_brought f b w)
      (later_with s.place (s.passed + 1) s.holding.amounts _ h.late h.past h.samples)

-- over one field, at most n, and all of them
pub later_first : (x : Told) (i : List ℕ) (s' : Told) (m : ℕ) → move_at tags take_field x i ≡ on s' m → behind_tolerances ≤ x.place → Later x s'
later_first x i s' m e l = later_move x x (later_none x l) i s' m e

pub later_upto : (n : ℕ) (x : Told) (i : List ℕ) → behind_tolerances ≤ x.place → Later x (upto tags take_field n x i).state
later_upto n x i l = kept tags take_field (Later x) (λ s j s' m e h. later_move x s h j s' m e) n x i (later_none x l)

pub later_run : (x : Told) (i : List ℕ) → behind_tolerances ≤ x.place → Later x (run tags take_field x i).state
later_run x i = later_upto (length i) x i

-- the samples do not get fewer
pub later_longer : (x y : Told) → Later x y → length x.holding.samples ≤ length y.holding.samples
later_longer x y h = let a = h.samples in omega (arith, ap length a.joins, length-append x.holding.samples a.added)
