-- The first four fields on an opening with its lent room: what the code forms is what the machine says.
-- Assumes nothing.
use mathlib.Core.Bool.{Bool, true, false, cond, ◌&&◌}
use mathlib.Core.List.{List}
use mathlib.Core.Path.{◌≡◌, refl, sym, ap, subst, ◌∙◌}
use Prim.Native.Nat.{ℕ, ◌+◌, ◌≤◌}
use native.Mathlib.Omega.{arith}
use borrow.Author.Tests.{le-leb, lt-leb}
use lib.Dec.{leb, eqb}
use lib.IntN.{ℤ}
use lib.ListN.{length, take}
use lib.Seq.{length-take-le}
use Rattle.rules.specs.Words.{all_below, unless, settled}
use Rattle.numbers.proofs.Tests.{pass, stop, settled_taken, settled_refused, settled_answer}
use Rattle.rules.specs.declared.Tolerances.{Tolerances}
use Rattle.rules.specs.declared.Method.TheVariants.{Regular as by_cycles}
use Rattle.rules.specs.Bench.{tolerable}
use Rattle.rules.specs.Cycle.{valid}
use Rattle.rules.specs.Shown.{ledger_numbers, map_words}
use Rattle.rules.specs.Table.{tolerances, begins, by_row, length_allowed, place_after, tags}
use Rattle.rules.specs.Front.{Field, Front as Stands, front_of}
use Rattle.rules.specs.Machine.{to_field, reply_as, reply_at}
use Rattle.rules.specs.Values.{is_number, tolerances_in}
use Rattle.rules.specs.Record.{Content, brought, wrong, nothing, a_number, a_cycle, the_tolerances, field_content, answer_by}
use Rattle.laws.specs.Answers.{gives, refuses}
use Rattle.laws.proofs.Answers.{was_given, was_refused, given_refused, given_is}
use Rattle.laws.proofs.Contents.{content_order}
use Rattle.state.specs.declared.Run.{Run}
use Rattle.state.specs.State.{Memory, lent, Left}
use Rattle.state.specs.Refusals.{start_refusal, started}
use Rattle.step.specs.Step.{start_of}
use Rattle.judge.specs.Answers.{start_left}
use Rattle.judge.proofs.Promises.{StartPromise, promised}
use Rattle.records.specs.Stage.{Stage, written, content_on, bring_on, pass_on, take_on}
use Rattle.fields.specs.Fields.{has_row}
use Rattle.fields.proofs.Fronts.{row_of_mark}
use Rattle.opening.specs.declared.Opening.{Opening}
use Rattle.std.specs.Prelude.{Result, Ok, Err}
use Rattle.rules.specs.Numbered.{number}
use Rattle.rules.specs.declared.Refusal.{Refusal}
use Rattle.laws.specs.Answers.{answer_said}
use Rattle.opening.specs.Answers.{opens, starts, OpenSaid, stage_of, open_ground, OpenLeft, not_opened, opened_by, field_opened, front_opened}
use Rattle.opening.specs.Begin.{refused_at, number_answer, cycle_answer, start_number, start_opened}
use Rattle.opening.proofs.Readied.{out_of_turn}

module _ (o : Opening) (room : List ℕ) (l : List ℤ) (m : List ℕ) where
  abbrev x : Stage
  x = stage_of o room l m

  -- the answer a, where the memory is as it was; where the room is so too; and where the room is
  abbrev opened : OpenSaid → List ℕ → OpenLeft
  opened a room' = record { answer = a; room = room'; memory = lent l m }

  abbrev here : OpenSaid → OpenLeft
  here a = opened a room

  abbrev beside : Left OpenSaid → OpenLeft
  beside y = record { answer = y.answer; room = room; memory = y.memory }

  -- the opening with one field more, of which nothing is kept
  abbrev one_more : Opening
  one_more = record { fields = o.fields + 1; vehicle = o.vehicle; cycle = o.cycle }

  module _ (v : List ℕ) where
    -- ---- the start, with the tolerances t that the value holds, in a field of n bytes

    -- the number of the start's refusal, and the run that it starts
    abbrev number_is : ℕ
    number_is = start_number o room l m v

    abbrev run : Run
    run = started (take o.cycle room) (tolerances_in v) by_cycles

    module _ (n : ℕ) {t : Tolerances} (e : t ≡ tolerances_in v) (a : Result Run Refusal) {c : Memory} (h : record { answer = answer_said a; memory = c } ≡ start_left (take o.cycle room) t by_cycles l m) where
      promise : StartPromise (take o.cycle room) (tolerances_in v) by_cycles l m a c
      promise = promised (h ∙ ap (λ (z : Tolerances). start_left (take o.cycle room) z by_cycles l m) e)

      answers : {r : OpenSaid} → r ≡ (start_opened o room l m v n).answer → record { answer = r; memory = c } ≡ start_opened o room l m v n
      answers p = λ i. record { answer = p i; memory = promise.in_memory i }

      pub start_refused : {k : Refusal} {r : OpenSaid} → a ≡ Err k → r ≡ refused_at o (number k) → record { answer = r; memory = c } ≡ start_opened o room l m v n
      start_refused {k} p q =
          let (same, some) = was_refused number_is (gives run) (number k) (sym promise.answer ∙ ap answer_said p) given_refused in
          answers (q ∙ ap (refused_at o) (sym same) ∙ sym (settled_refused _ some))

      pub start_taken : {r : Run} {k : Opening} → a ≡ Ok r → k ≡ one_more
          → record { answer = record { says = gives (starts n r); opening = k }; memory = c } ≡ start_opened o room l m v n
      start_taken {r} p q =
          let (none, same) = was_given number_is (gives run) r (sym promise.answer ∙ ap answer_said p) in
          let run_is = given_is same in
          answers ((λ i. record { says = gives (starts n (sym run_is i)); opening = q i }) ∙ sym (settled_taken _ none))

    -- what field 4 brings, by that number
    start_content : content_on x tolerances v ≡ settled number_is (brought (the_tolerances (tolerances_in v))) (wrong number_is)
    unfolding start_refusal unless
    start_content = go (leb ledger_numbers (length l)) (leb map_words (length m)) (valid (take o.cycle room)) (tolerable (tolerances_in v))
      where
        go : (a b c d : Bool) → unless (wrong 1) (a && b) (unless (wrong 2) c (unless (wrong 3) d (brought (the_tolerances (tolerances_in v)))))
            ≡ (let k = unless 1 a (unless 1 b (unless 2 c (unless 3 d 0))) in settled k (brought (the_tolerances (tolerances_in v))) (wrong k))
        go true true true true = refl
        go true true true false = refl
        go true true false d = refl
        go true false c d = refl
        go false b c d = refl

    -- ---- a whole field

    abbrev n : ℕ
    n = 3 + length v

    abbrev field_of : ℕ → Field
    field_of tag = record { tag = tag; value = v }

    -- by its content c, and the place k to which it moves
    by_content : (tag : ℕ) {k : ℕ} (c : Content) {y : OpenLeft} → field_content o.fields (content_on x) (field_of tag) ≡ c → place_after tags o.fields tag v ≡ k
        → y ≡ opened_by o room x (to_field (answer_by (bring_on x k) (pass_on x) c) n) → y ≡ field_opened o room l m (field_of tag)
    by_content tag c e f h = h ∙ (λ i. opened_by o room x (to_field (answer_by (bring_on x (sym f i)) (pass_on x) (sym e i)) n))

    pub no_row : (tag : ℕ) {r : OpenSaid} → has_row tag v ≡ false → r ≡ refused_at o 8 → here r ≡ field_opened o room l m (field_of tag)
    no_row tag h e = by_content tag (wrong 8) (content_order o.fields (content_on x) (field_of tag) ∙ sym (stop _ h)) refl (ap here e)

    pub out_of_order : (tag : ℕ) {r : OpenSaid} → has_row tag v ≡ true → o.fields ≤ 3 → length_allowed tags tag (length v) ≡ true → (tag ≡ o.fields + 1 → ⊥) → r ≡ refused_at o 9
        → here r ≡ field_opened o room l m (field_of tag)
    out_of_order tag row few a h e =
        by_content tag (wrong 9) (content_order o.fields (content_on x) (field_of tag) ∙ sym (pass _ row (stop _ (out_of_turn o.fields few v tag (length v) a h)))) refl (ap here e)

    -- in its order: the field of tag k + 1 where k are accepted brings what its row holds, and moves on by one
    of_number : field_content 1 (content_on x) (field_of 2) ≡ unless (wrong 4) (is_number v) (brought (a_number v))
    unfolding field_content by_row begins all_below unless
    of_number = refl

    of_cycle : field_content 2 (content_on x) (field_of 3) ≡ unless (wrong 2) (valid v) (brought (a_cycle v))
    unfolding field_content by_row begins all_below unless
    of_cycle = refl

    of_tolerances : field_content 3 (content_on x) (field_of 4) ≡ content_on x tolerances v
    unfolding field_content by_row begins all_below unless
    of_tolerances = refl

    of_mark : has_row 1 v ≡ true → field_content 0 (content_on x) (field_of 1) ≡ brought nothing
    unfolding field_content by_row unless
    of_mark h = ap (λ (b : Bool). cond b (brought nothing) (wrong 8)) (sym (row_of_mark v) ∙ h)

    moves_mark : has_row 1 v ≡ true → place_after tags 0 1 v ≡ 1
    unfolding by_row
    moves_mark h = ap (λ (b : Bool). cond b 1 0) (sym (row_of_mark v) ∙ h)

    moves_on : (place_after tags 1 2 v ≡ 2) × (place_after tags 2 3 v ≡ 3) × (place_after tags 3 4 v ≡ 4)
    unfolding by_row begins all_below
    moves_on = (refl, refl, refl)

    -- the field of tag k + 1, where k are accepted, and the cycle is in the room
    module _ (tag : ℕ) (h : tag ≡ o.fields + 1) (fits : o.cycle ≤ length room) where
      size_is : length (take o.cycle room) ≡ o.cycle
      size_is = length-take-le o.cycle room fits

      not_written : (b : Bool) (w : List ℕ) → cond (b && false) w room ≡ room
      not_written true w = refl
      not_written false w = refl

      -- as many are accepted, where the tag is known
      before_it : (k : ℕ) → tag ≡ k + 1 → o.fields ≡ k
      before_it k d = omega arith

      content_of_lem : (k : ℕ) {c : Content} → tag ≡ k + 1 → field_content k (content_on x) (field_of (k + 1)) ≡ c → field_content o.fields (content_on x) (field_of tag) ≡ c
      content_of_lem k d e = (λ i. field_content (before_it k d i) (content_on x) (field_of (d i))) ∙ e

      place_of : (k : ℕ) {q : ℕ} → tag ≡ k + 1 → place_after tags k (k + 1) v ≡ q → place_after tags o.fields tag v ≡ q
      place_of k d e = (λ i. place_after tags (before_it k d i) (d i) v) ∙ e

      pub number_opens : {r : OpenSaid} → tag ≡ 2 → r ≡ number_answer o v n → here r ≡ field_opened o room l m (field_of tag)
      unfolding unless
      number_opens d e =
          by_content tag (unless (wrong 4) (is_number v) (brought (a_number v))) (content_of_lem 1 d of_number) (place_of 1 d moves_on.0) (ap here e ∙ go (is_number v))
        where
          two : o.fields + 1 ≡ 2
          two = omega arith

          go : (b : Bool) → here (unless (refused_at o 4) b (record { says = gives (opens n); opening = record { fields = o.fields + 1; vehicle = v; cycle = o.cycle } }))
              ≡ opened_by o room x (to_field (answer_by (bring_on x 2) (pass_on x) (unless (wrong 4) b (brought (a_number v)))) n)
          go true = λ i. record {
            answer = record { says = gives (opens n); opening = record { fields = two i; vehicle = v; cycle = sym size_is i } };
            room = sym (not_written (leb o.fields 2) (written room (take o.cycle room))) i;
            memory = lent l m;
          }
          go false = refl

      pub cycle_opens : {r : OpenSaid} {room' : List ℕ} → tag ≡ 3 → r ≡ cycle_answer o v n → room' ≡ unless room (valid v) (written room v)
          → opened r room' ≡ field_opened o room l m (field_of tag)
      unfolding unless
      cycle_opens d e f =
          by_content tag (unless (wrong 2) (valid v) (brought (a_cycle v))) (content_of_lem 2 d of_cycle) (place_of 2 d moves_on.1) ((λ i. opened (e i) (f i)) ∙ go (valid v))
        where
          three : o.fields + 1 ≡ 3
          three = omega arith

          go : (b : Bool) → opened (unless (refused_at o 2) b (record { says = gives (opens n); opening = record { fields = o.fields + 1; vehicle = o.vehicle; cycle = length v } })) (unless room b (written room v))
              ≡ opened_by o room x (to_field (answer_by (bring_on x 3) (pass_on x) (unless (wrong 2) b (brought (a_cycle v)))) n)
          go true = λ i. record {
            answer = record { says = gives (opens n); opening = record { fields = three i; vehicle = o.vehicle; cycle = length v } };
            room = cond (sym (le-leb o.fields 2 (omega arith)) i && true) (written room v) room;
            memory = lent l m;
          }
          go false = refl

      pub start_opens : {y : Left OpenSaid} → tag ≡ 4 → y ≡ start_opened o room l m v n → beside y ≡ field_opened o room l m (field_of tag)
      start_opens d e =
          by_content tag (settled number_is (brought (the_tolerances (tolerances_in v))) (wrong number_is)) (content_of_lem 3 d (of_tolerances ∙ start_content)) (place_of 3 d moves_on.2)
          (ap beside e ∙ go (eqb number_is 0))
        where
          four : o.fields + 1 ≡ 4
          four = omega arith

          go : (b : Bool)
              → beside (record { answer = cond b (record { says = gives (starts n run); opening = one_more }) (refused_at o number_is); memory = cond b (start_of l m).memory (lent l m) })
              ≡ opened_by o room x (to_field (answer_by (bring_on x 4) (pass_on x) (cond b (brought (the_tolerances (tolerances_in v))) (wrong number_is))) n)
          go true = λ i. record {
            answer = record { says = gives (starts n run); opening = record { fields = four i; vehicle = o.vehicle; cycle = sym size_is i } };
            room = cond (sym (lt-leb o.fields 2 (omega arith)) i && true) (written room (take o.cycle room)) room;
            memory = (start_of l m).memory;
          }
          go false = refl

      -- any other is the mark, of which nothing is kept
      pub mark_opens : {k : Opening} → has_row tag v ≡ true → o.fields ≤ 3 → (tag ≡ 2 → ⊥) → (tag ≡ 3 → ⊥) → (tag ≡ 4 → ⊥) → k ≡ one_more
          → here (record { says = gives (opens n); opening = k }) ≡ field_opened o room l m (field_of tag)
      mark_opens row few two three four e =
          let d : tag ≡ 1 = omega arith in
          let first : has_row 1 v ≡ true = subst (λ (t : ℕ). has_row t v ≡ true) d row in
          let one : o.fields + 1 ≡ 1 = omega arith in
          by_content tag (brought nothing) (content_of_lem 0 d (of_mark first)) (place_of 0 d (moves_mark first))
          ((λ i. here (record { says = gives (opens n); opening = e i })) ∙ (λ i. record {
            answer = record { says = gives (opens n); opening = record { fields = one i; vehicle = o.vehicle; cycle = sym size_is i } };
            room = sym (not_written (leb o.fields 2) (written room (take o.cycle room))) i;
            memory = lent l m;
          }))

  -- ---- the field at the front of the input
  module _ (i : List ℕ) where
    pub ground_refuses : {k : ℕ} {r : OpenSaid} → k ≡ open_ground o room → (k ≡ 0 → ⊥) → r ≡ refused_at o k → here r ≡ front_opened o room l m i
    unfolding front_opened
    ground_refuses e some p = ap here p ∙ settled_answer (λ k. not_opened o room x (refuses k)) _ e some

    -- by what stands there
    pub ground_passes : {y : OpenLeft} → open_ground o room ≡ 0 → {w : Stands} → front_of tags i ≡ w → y ≡ opened_by o room x (reply_as tags take_on x w) → y ≡ front_opened o room l m i
    unfolding front_opened reply_at
    ground_passes e p h = h ∙ ap (λ (w : Stands). opened_by o room x (reply_as tags take_on x w)) (sym p) ∙ sym (settled_taken _ e)
