-- After one of the first four fields: the opening that is left is as ready as before, or the run has started.
-- Assumes nothing.
use mathlib.Core.Bool.{Bool, true, false, cond, ◌&&◌}
use mathlib.Core.List.{List}
use mathlib.Core.Path.{◌≡◌, refl, sym, ap, subst, ◌∙◌}
use Prim.Native.Nat.{ℕ, ◌+◌, ◌≤◌}
use native.Mathlib.Omega.{arith}
use borrow.Author.Tests.{le-leb, lt-leb}
use lib.Dec.{leb}
use lib.IntN.{ℤ}
use lib.ListN.{length, take, drop, length-append, length-drop}
use lib.Seq.{length-take-le, take-append-le, take_all}
use Rattle.numbers.proofs.Tests.{both, pass}
use Rattle.rules.specs.declared.Tolerances.{Tolerances}
use Rattle.rules.specs.declared.Method.TheVariants.{Regular as by_cycles}
use Rattle.rules.specs.Bench.{tolerable}
use Rattle.rules.specs.Cycle.{valid, most_bytes}
use Rattle.rules.specs.Table.{behind_tolerances}
use Rattle.rules.specs.Values.{is_number}
use Rattle.rules.specs.Record.{Bring, nothing, a_number, a_cycle, the_tolerances, the_stretches, own_samples, before, after, charged}
use Rattle.laws.proofs.Places.{place_is, before_places, block_places_lem, recharge_places}
use Rattle.laws.proofs.Says.{moves_to, Says}
use Rattle.laws.proofs.Sound.{sound}
use Rattle.state.specs.State.{lent}
use Rattle.state.specs.Refusals.{start_refusal}
use Rattle.records.specs.Stage.{Stage, is_long, bring_on, written, room_after}
use Rattle.records.proofs.Came.{Enough, Moved, took, went}
use Rattle.opening.specs.declared.Opening.{Opening}
use Rattle.opening.specs.Answers.{stage_of, opening_of}
use Rattle.opening.proofs.Readied.{Ready}

-- the room keeps its length, and holds the cycle
length_written : (room v : List ℕ) → length v ≤ length room → length (written room v) ≡ length room
unfolding written
length_written room v h = omega (arith, length-append v (drop (length v) room), length-drop (length v) room)

pub take_written : (room v : List ℕ) → take (length v) (written room v) ≡ v
unfolding written
take_written room v = take-append-le (length v) v (drop (length v) room) (omega arith) ∙ take_all (length v) v (omega arith)

-- what became of an opening o on its room, with ledger and map, by a field that led to y
pub data Next (o : Opening) (room : List ℕ) (l : List ℤ) (m : List ℕ) (y : Stage) : Type 0 where
  waits : y.place ≡ o.fields + 1 → y.place ≤ 3 → (let r = room_after (stage_of o room l m) y room in (stage_of (opening_of y) r l m ≡ y) × Ready (opening_of y) r) → Next o room l m y
  begins : o.fields ≡ 3 → (t : Tolerances) → start_refusal (take o.cycle room) t by_cycles l m ≡ 0 → bring_on (stage_of o room l m) 4 (the_tolerances t) ≡ y → Next o room l m y

module _ (o : Opening) (room : List ℕ) (l : List ℤ) (m : List ℕ) (h : Ready o room) where
  abbrev x : Stage
  x = stage_of o room l m

  fits : o.cycle ≤ length room
  fits = omega (arith, h.size, h.room)

  size_is : length (take o.cycle room) ≡ o.cycle
  size_is = length-take-le o.cycle room fits

  -- the room as it was, where no cycle was written
  same_room : (y : Stage) → y.place ≤ 2 → room_after x y room ≡ room
  same_room y e = ap (λ (b : Bool). cond (leb o.fields 2 && b) (written room y.cycle) room) (lt-leb 3 y.place (omega arith)) ∙ go (leb o.fields 2)
    where
      go : (b : Bool) → cond (b && false) (written room y.cycle) room ≡ room
      go true = refl
      go false = refl

  new_room : (y : Stage) → o.fields ≤ 2 → 3 ≤ y.place → room_after x y room ≡ written room y.cycle
  new_room y e g = rw (le-leb o.fields 2 e, le-leb 3 y.place g)

  -- the opening with the number v, on the same room
  with_number : (n : ℕ) (v : List ℕ) → stage_of (record { fields = n; vehicle = v; cycle = length (take o.cycle room) }) room l m
      ≡ record { place = n; passed = 0; vehicle = v; cycle = take o.cycle room; tolerances = x.tolerances; method = x.method; amounts = x.amounts; run = x.run }
  with_number n v = λ i. record { place = n; passed = 0; vehicle = v; cycle = take (size_is i) room; tolerances = x.tolerances; method = x.method; amounts = x.amounts; run = x.run }

  ready_number : (n : ℕ) (v : List ℕ) → n ≤ 3 → is_number v ≡ true → Ready (record { fields = n; vehicle = v; cycle = length (take o.cycle room) }) room
  ready_number n v g e = record { few = g; size = omega (arith, size_is, h.size); number = e; room = h.room }

  on_same : (y : Stage) → y.place ≤ 2 → (stage_of (opening_of y) room l m ≡ y) × Ready (opening_of y) room
      → (let r = room_after x y room in (stage_of (opening_of y) r l m ≡ y) × Ready (opening_of y) r)
  on_same y e = subst (λ (r : List ℕ). (stage_of (opening_of y) r l m ≡ y) × Ready (opening_of y) r) (sym (same_room y e))

  granted : (t : Tolerances) → valid (take o.cycle room) ≡ true → tolerable t ≡ true → is_long (lent l m) ≡ true → start_refusal (take o.cycle room) t by_cycles l m ≡ 0
  unfolding start_refusal
  granted t c g e = let (a, b) = both _ _ e in sym (pass 1 a (pass 1 b (pass 2 c (pass 3 g (pass 19 refl refl)))))

  next_brought : (b : Bring) (tag : ℕ) (v : List ℕ) → Says 0 o.vehicle (take o.cycle room) 0 tag v o.fields b → Enough x b → Next o room l m (bring_on x (moves_to b) b)
  next_brought nothing tag v s q =
      let p = place_is o.fields 0 s.1 in
      waits (omega arith) (omega arith) (on_same (bring_on x 1 nothing) (omega arith) (with_number 1 o.vehicle, ready_number 1 o.vehicle (omega arith) h.number))
  next_brought (a_number w) tag v s q =
      let p = place_is o.fields 1 s.1 in
      waits (omega arith) (omega arith) (on_same (bring_on x 2 (a_number w)) (omega arith) (with_number 2 w, ready_number 2 w (omega arith) (ap is_number s.2 ∙ s.3)))
  next_brought (a_cycle w) tag v s q =
      let p = place_is o.fields 2 s.1 in
      let c = sound w (ap valid s.2 ∙ s.3) in
      let small : length w ≤ most_bytes = omega (arith, c.whole, c.few_phases, c.short) in
      let y = bring_on x 3 (a_cycle w) in
      waits (omega arith) (omega arith)
      (subst (λ (r : List ℕ). (stage_of (opening_of y) r l m ≡ y) × Ready (opening_of y) r) (sym (new_room y (omega arith) (omega arith))) (
        (λ i. record { place = 3; passed = 0; vehicle = o.vehicle; cycle = take_written room w i; tolerances = x.tolerances; method = x.method; amounts = x.amounts; run = x.run }),
        record { few = omega arith; size = small; number = h.number; room = omega (arith, length_written room w (omega (arith, h.room)), h.room) },
      ))
  next_brought (the_tolerances t) tag v s q = begins (place_is o.fields 3 s.1) t (granted t s.3 s.4 q) refl
  next_brought (the_stretches z) tag v s q = absurd (let p = place_is o.fields behind_tolerances s.1 in omega (arith, h.few))
  next_brought (own_samples xs) tag v s q = absurd (omega (arith, h.few, (block_places_lem o.fields s.1).0))
  next_brought (before e) tag v s q = absurd (omega (arith, h.few, (before_places o.fields s.1).0))
  next_brought (after e) tag v s q = absurd (omega (arith, h.few, (block_places_lem o.fields s.1).0))
  next_brought (charged w) tag v s q = absurd (omega (arith, h.few, (recharge_places o.fields s.1).0))

  pub next_move : (i : List ℕ) (y : Stage) (n : ℕ) → Moved x i y n → Next o room l m y
  next_move i y n (took f _ _ _ c) = subst (Next o room l m) c.is (next_brought c.brings f.tag f.value c.says c.enough)
  next_move i y n (went f _ _ _ _ e) = absurd (omega (arith, h.few, (block_places_lem o.fields e).0))
