-- The turns of the loop that opens a record.
-- Assumes nothing.
use mathlib.Core.Bool.{true, false, cond}
use mathlib.Core.List.{List}
use mathlib.Core.Path.{◌≡◌, sym, ap, subst, ◌∙◌}
use Prim.Native.Nat.{ℕ, ◌+◌, ◌-◌, ◌≤◌}
use native.Mathlib.Nat.{add_assoc}
use native.Mathlib.Omega.{arith}
use lib.IntN.{ℤ}
use lib.ListN.{length, take, drop, length-drop}
use lib.Seq.{drop-drop}
use Rattle.numbers.proofs.Lists.{part_rest}
use Rattle.opening.specs.declared.Opening.{Opening}
use Rattle.opening.specs.declared.OpenAnswer.{OpenAnswer}
use Rattle.std.specs.Prelude.{Result}
use Rattle.rules.specs.declared.Refusal.{Refusal}
use Rattle.opening.specs.declared.OpenStep.{OpenStep}
use Rattle.opening.specs.Answers.{open_step_said, open_left, front_opened}
use Rattle.desk.specs.Feeding.{Desk, wanted, Laid, FedSaid, fed_on, Consumed, stops, behind, opens_as, opens_to, open_one, open_rest, open_all}
use Rattle.desk.proofs.Opens.{Onward, View, stays, goes, view_of}

-- ---- one field

-- by what its answer is known to be
pub opens_by : (d : Desk) (o : Opening) {s s' : Result OpenStep Refusal} {r : FedSaid} → s ≡ s' → r ≡ opens_as d (open_step_said s') o → r ≡ opens_as d (open_step_said s) o
opens_by d o e h = h ∙ ap (λ (z : Result OpenStep Refusal). opens_as d (open_step_said z) o) (sym e)

pub one_left : (x : Laid) (i : List ℕ) (a : OpenAnswer Refusal) {room : List ℕ} {l : List ℤ} {m : List ℕ} {r : FedSaid}
    → open_left a room l m ≡ front_opened x.desk.opening x.room x.memory.ledger x.memory.map i → r ≡ opens_as x.desk (open_step_said a.step) a.opening
    → fed_on r room l m ≡ open_one x i
one_left x i a {room = room} {l = l} {m = m} e h = (λ j. fed_on (h j) room l m) ∙ ap (opens_to x) e

-- ---- the loop

pub before_all : (y : Consumed) → behind 0 y ≡ y
before_all y = let e : 0 + y.used ≡ y.used = omega arith in λ j. record { laid = y.laid; used = e j; outcome = y.outcome }

module _ (x : Laid) (input : List ℕ) (u : ℕ) where
  abbrev i : List ℕ
  i = drop u input

  -- the run has started
  pub turn_started : x.desk.started ≡ true → record { laid = x; used = u; outcome = wanted } ≡ behind u (open_all x i)
  turn_started e =
      let z : u ≡ u + 0 = omega arith in
      (λ j. record { laid = x; used = z j; outcome = wanted }) ∙ ap (λ b. behind u (cond b (stops x wanted) (open_rest x i))) (sym e)

  module _ {y : Consumed} (h : y ≡ open_one x (take (length input - u) (drop u input))) (e : x.desk.started ≡ false) where
    here : y ≡ open_one x i
    here = h ∙ ap (open_one x) (part_rest u input)

    opens : open_all x i ≡ open_rest x i
    opens = ap (λ b. cond b (stops x wanted) (open_rest x i)) e

    pub turn_size : u ≤ length input → (u + y.used ≤ length input) × (y.laid.desk.fields ≤ x.desk.fields + 1)
    turn_size w = go (view_of x e i)
      where
        go : View x i → (u + y.used ≤ length input) × (y.laid.desk.fields ≤ x.desk.fields + 1)
        go (stays q a b) =
            let c = here ∙ a in
            let used_is = ap (λ (z : Consumed). z.used) c in
            let fields_are = ap (λ (z : Consumed). z.laid.desk.fields) c in
            (omega arith, omega arith)
        go (goes z k a b low high o) =
            let c = here ∙ a in
            let used_is = ap (λ (w : Consumed). w.used) c in
            let fields_are = ap (λ (w : Consumed). w.laid.desk.fields) c in
            let l = length-drop u input in
            (omega arith, omega (arith, o.fields))

    pub turn_end : y.used ≡ 0 → behind u y ≡ behind u (open_all x i)
    turn_end none = ap (behind u) (go (view_of x e i))
      where
        go : View x i → y ≡ open_all x i
        go (stays q a b) = here ∙ a ∙ sym b ∙ sym opens
        go (goes z k a b low high o) = absurd (let used_is = ap (λ (w : Consumed). w.used) (here ∙ a) in omega arith)

    pub turn : (y.used ≡ 0 → ⊥) → (behind (u + y.used) (open_all y.laid (drop (u + y.used) input)) ≡ behind u (open_all x i)) × Onward x y.laid
    turn some = go (view_of x e i)
      where
        go : View x i → (behind (u + y.used) (open_all y.laid (drop (u + y.used) input)) ≡ behind u (open_all x i)) × Onward x y.laid
        go (stays q a b) = absurd (some (ap (λ (z : Consumed). z.used) (here ∙ a)))
        go (goes z k a b low high o) =
            let c = here ∙ a in
            let w = open_all z (drop (u + k) input) in (
              (λ j. behind (u + (c j).used) (open_all (c j).laid (drop (u + (c j).used) input)))
                  ∙ (λ j. record { laid = w.laid; used = add_assoc u k w.used j; outcome = w.outcome })
                  ∙ (λ j. behind u (behind k (open_all z (sym (drop-drop k u input) j))))
                  ∙ ap (behind u) (sym b ∙ sym opens),
              subst (λ (v : Consumed). Onward x v.laid) (sym c) o,
            )
