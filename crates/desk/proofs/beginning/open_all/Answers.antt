-- `desk::beginning::open_all` meets its contract. The loop's invariant: what is left to open is what the desk, as it is now, has to open of the rest.
use mathlib.Core.Bool.{Bool, true, false}
use mathlib.Core.Logic.{◌⊎◌, inl, inr, ⊎_elim}
use mathlib.Core.Path.{◌≡◌, refl, ◌∙◌}
use Prim.Native.Nat.{ℕ, ◌+◌, ◌-◌, ◌≤◌, zero-le, ◌<◌, ◌^◌}
use native.Mathlib.Omega.{arith}
use borrow.Author.Rules.{rules}
use lib.ListN.{length}
use Rattle.desk.specs.Feeding.{Desk, Laid, laid_of}
use Rattle.desk.proofs.Turns.{before_all, turn, turn_end, turn_size, turn_started}
use Rattle.desk.proofs.beginning.open_all.Goals as goal
use Rattle.desk.proofs.beginning.open_all.Invariants.{InTurn}
use Rattle.desk.proofs.beginning.open_all.Goals.{After-on-1, At-loop-turn, Else-on}

-- so after four turns it has
at_last : (on : Desk) (left : ℕ) → left ≡ 0 → InTurn on left → on.started ≡ true
at_last on left e h = go on.started refl
  where
    go : (b : Bool) → on.started ≡ b → b ≡ true
    go true f = refl
    go false f = absurd (⊎_elim (λ (q : left ≡ 4). omega arith) (λ q. let r = q.0 in let t = q.1 in omega arith) (h f))

-- one field more, one turn less
next_turn : (on y : Desk) (turn : ℕ) → turn < 4 → on.started ≡ false → InTurn on (4 - turn) → (y.opening.fields ≡ on.opening.fields + 1) × (y.opening.fields ≤ 3)
    → (4 ≤ y.opening.fields + (4 - (turn + 1))) × (y.opening.fields ≤ 3)
next_turn on y turn some f h (p, q) = ⊎_elim (λ (z : 4 - turn ≡ 4). (omega arith, q)) (λ z. let r = z.0 in (omega arith, q)) (h f)

-- the desk on its memory
abbrev laid : At-loop-turn → Laid
laid at = laid_of at.loop-turn.on at.loop-turn.room at.loop-turn.ledger at.loop-turn.map

not-started : (c : Else-on) → c.loop-turn.on.started ≡ false
not-started c = c.if-on.false

sized : (c : After-on-1)
    → (let at = c in
    let r = c.open_one-x.result in
    (at.loop-turn.used + r.used ≤ length c.args.input.now) × (r.desk.fields ≤ at.loop-turn.on.fields + 1))
sized c =
    let at = c in
    turn_size (laid_of at.loop-turn.on at.loop-turn.room at.loop-turn.ledger at.loop-turn.map) c.args.input.now at.loop-turn.used c.open_one-x.ensures c.if-on.false at.loop-turn.invariant.0.0

pub loop-turn-init : goal.loop-turn-init
loop-turn-init c =
    let s = c in
    ((zero-le, omega (arith, s.requires), refl, refl, refl), before_all _, λ _. inl refl)

pub returns-then-on : goal.returns-then-on
returns-then-on c =
    let at = c in
    turn_started (laid (goal.at.returns-then-on c).At-loop-turn) _ at.loop-turn.used c.if-on.true ∙ at.loop-turn.invariant.1

pub slice_bounds-open_one-count : goal.slice_bounds-open_one-count
slice_bounds-open_one-count c = c.loop-turn.invariant.0.0

pub slice_bounds-open_one-start : goal.slice_bounds-open_one-start
slice_bounds-open_one-start c = c.loop-turn.invariant.0.0

pub open_one-x-requires : goal.open_one-x-requires
open_one-x-requires c = let at = c in omega (arith, at.loop-turn.invariant.0.1)

pub overflow_add-used : goal.overflow_add-used
overflow_add-used c =
    let s = sized (goal.at.overflow_add-used c).After-on-1 in
    let short : length c.args.input.now < 2 ^ 64 = search rules in
    omega (arith, s.0, short)

pub returns-then-n-eq0 : goal.returns-then-n-eq0
returns-then-n-eq0 c =
    let f = c in
    let at = f in
    turn_end (laid (goal.at.returns-then-n-eq0 c).At-loop-turn) f.args.input.now at.loop-turn.used f.open_one-x.ensures (not-started (goal.at.returns-then-n-eq0 c).Else-on) c.if-n-eq0.true
    ∙ at.loop-turn.invariant.1

pub loop-turn-preserved : goal.loop-turn-preserved
loop-turn-preserved c =
    let f = c in
    let at = f in
    let s = sized (goal.at.loop-turn-preserved c).After-on-1 in
    let (again, onward) = turn (laid (goal.at.loop-turn-preserved c).At-loop-turn) f.args.input.now at.loop-turn.used f.open_one-x.ensures (not-started (goal.at.loop-turn-preserved c).Else-on) c.if-n-eq0.false in (
      (s.0, omega (arith, s.1, at.loop-turn.invariant.0.1, f.loop-turn-test.true), search rules, search rules, search rules),
      again ∙ at.loop-turn.invariant.1,
      λ q. inr (next_turn at.loop-turn.on f.open_one-x.result.desk at.loop-turn._turn (omega arith) (not-started (goal.at.loop-turn-preserved c).Else-on) at.loop-turn.invariant.2 (onward.turn q)),
    )

pub returns : goal.returns
returns c =
    let at = c in
    turn_started (laid (goal.at.returns c).At-loop-turn) _ at.loop-turn.used (at_last at.loop-turn.on (4 - at.loop-turn._turn) (omega arith) at.loop-turn.invariant.2) ∙ at.loop-turn.invariant.1
