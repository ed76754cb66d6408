-- All fields of an input, one after another, by a reading on its lent memory: what every turn of the loop keeps.
-- Assumes nothing.
use mathlib.Core.List.{List}
use mathlib.Core.Path.{◌≡◌, refl, sym, ap, subst, ◌∙◌}
use Prim.Native.Nat.{ℕ, suc, ◌+◌, ◌-◌, ◌≤◌, zero-le}
use native.Mathlib.Nat.{add_assoc, add-zero}
use native.Mathlib.Omega.{arith}
use lib.ListN.{length, take, drop, length-drop}
use lib.Seq.{drop-drop, drop-length}
use Rattle.numbers.proofs.Lists.{part_rest}
use Rattle.rules.specs.declared.Tolerances.{Tolerances}
use Rattle.rules.specs.Plan.{plan}
use Rattle.rules.specs.Table.{behind_tolerances, tags}
use Rattle.rules.specs.Machine.{taken, passed, refused, Reply, to_field, not_yet, no_field, End, waiting, broken, stopped, Ran, on, off, move_of, move_at, ends, onwards}
use Rattle.laws.proofs.Cuts.{first_then, first_ends}
use Rattle.laws.proofs.Moves.{move_size}
use Rattle.laws.proofs.Prefixes.{no_bytes}
use Rattle.state.specs.State.{Left, left}
use Rattle.step.specs.declared.Going.{Going}
use Rattle.step.specs.Where.{Kept, standing, taking}
use Rattle.records.specs.Stage.{Stage, take_on, reply_on, run_on, stage_after}
use Rattle.records.proofs.Later.{Later, later_move}
use Rattle.laws.specs.Answers.{Said, gives, end_said}
use Rattle.reading.specs.declared.Along.{Along}
use Rattle.reading.specs.Answers.{FieldRead, unfinished, reply_said, bytes_of, ReadSaid, AllSaid}
use Rattle.reading.specs.Along.{stage_along, along_left, stepped_left, passage_left, Ready}
use Rattle.reading.proofs.Taking.{along_is}

-- ---- an answer and how many bytes it uses

reply_on_lem : (x : Stage) (r : Reply Stage) (n : ℕ) → n ≡ bytes_of (reply_said r) → (n ≡ 0 → ⊥) → move_of r ≡ on (stage_after x r) n
reply_on_lem x (to_field (taken z) m) n e h = ap (on z) (sym e)
reply_on_lem x (to_field (passed z) m) n e h = ap (on z) (sym e)
reply_on_lem x (to_field (refused k) m) n e h = absurd (h e)
reply_on_lem x not_yet n e h = absurd (h e)
reply_on_lem x no_field n e h = absurd (h e)

record Off (x : Stage) (r : Reply Stage) : Type 0 where
  end : End
  move : move_of r ≡ off end
  last : end_said unfinished end ≡ reply_said r
  same : stage_after x r ≡ x

reply_off : (x : Stage) (r : Reply Stage) → ((z : Stage) (m : ℕ) → move_of r ≡ on z m → 3 ≤ m) → bytes_of (reply_said r) ≡ 0 → Off x r
reply_off x (to_field (taken z) m) h e = absurd (let l = h z m refl in omega arith)
reply_off x (to_field (passed z) m) h e = absurd (let l = h z m refl in omega arith)
reply_off x (to_field (refused k) m) h e = record { end = stopped k; move = refl; last = refl; same = refl }
reply_off x not_yet h e = record { end = waiting; move = refl; last = refl; same = refl }
reply_off x no_field h e = record { end = broken; move = refl; last = refl; same = refl }

-- f fields of u bytes before those of y
abbrev behind : ℕ → ℕ → Ran Stage → Ran Stage
behind f u y = record { state = y.state; fields = f + y.fields; used = u + y.used; end = y.end }

-- ---- a reading with its memory

-- after the answer to a field
abbrev next : Left (ReadSaid Along) → Left Along
next x = record { answer = x.answer.state; memory = x.memory }

-- as the answer to f fields of u bytes, the last answered by s
abbrev passage : Left Along → ℕ → ℕ → Said FieldRead → Left (AllSaid Along)
passage y f u s = record { answer = record { state = y.answer; fields = f; used = u; last = s }; memory = y.memory }

module _ (me b : List ℕ) (t : Tolerances) where
  -- what holds while fields are taken, by the method that the run has then
  abbrev ReadyAt : Left Along → Type 0
  ReadyAt y = Ready me (plan b t y.answer.method) y

  abbrev stage : Left Along → Stage
  stage y = stage_along me b t y.answer y.memory.ledger y.memory.map

  later : (y : Left Along) → ReadyAt y → Later me b t (stage y)
  later y h = record {
    late = omega arith;
    vehicle = refl;
    cycle = refl;
    tolerances = refl;
    kept =
        subst (λ (g : Going). Kept (plan b t y.answer.method) (left (taking g y.answer.taken.stretched) y.memory.ledger y.memory.map)) h.kept.stands
        h.kept;
    few = h.few;
    fresh = λ e. h.fresh (omega arith);
  }

  -- a state after the start is what the code keeps of it
  module _ (z : Stage) (h : Later me b t z) where
    stage_again : stage (along_left z) ≡ z
    stage_again =
        let place_is : behind_tolerances + (z.place - behind_tolerances) ≡ z.place = omega (arith, h.late) in
        λ i. record { place = place_is i; passed = z.passed; vehicle = sym h.vehicle i; cycle = sym h.cycle i; tolerances = sym h.tolerances i; method = z.method; amounts = z.amounts; run = z.run }

    ready_again : {y : Left Along} → ReadyAt y → ReadyAt (along_left z)
    ready_again r = record {
      number = r.number;
      valid = r.valid;
      kept = subst (λ (g : Going). Kept (plan b t z.method) (left (taking g z.run.stretched) z.run.memory.ledger z.run.memory.map))
          (λ i. standing (sym h.cycle i) (sym h.tolerances i).time z.method z.run.progress) h.kept;
      few = h.few;
      fresh = λ e. h.fresh (omega (arith, h.late));
    }

  -- ---- from y₀ on, f fields of the first u bytes are taken: what y has to read of the rest is what is left to read
  pub record Past (y₀ : Left Along) (input : List ℕ) (f u : ℕ) (y : Left Along) : Type 0 where
    pub within : u ≤ length input
    pub fewer : f ≤ u
    pub ready : ReadyAt y
    pub rest : run_on (stage y₀) input ≡ behind f u (run_on (stage y) (drop u input))

  pub past_none : (y : Left Along) (input : List ℕ) → ReadyAt y → Past y input 0 0 y
  past_none y input h = record { within = zero-le; fewer = zero-le; ready = h; rest = λ i. let z = run_on (stage y) input in record { state = z.state; fields = none z.fields i; used = none z.used i; end = z.end } }
    where
      none : (n : ℕ) → n ≡ 0 + n
      none n = omega arith

  -- all is read
  ended : (y : Left Along) (f u : ℕ) (e : End) {w : Ran Stage} → ReadyAt y → w ≡ behind f u (ends (stage y) e) → passage y f u (end_said unfinished e) ≡ passage_left w
  ended y f u e h d =
      (λ j. passage (record { answer = along_is me b t y.answer y.memory.ledger y.memory.map h.kept j; memory = y.memory }) (sym (add-zero f) j) (sym (add-zero u) j) (end_said unfinished e))
      ∙ ap passage_left (sym d)

  module _ {y₀ y : Left Along} {input : List ℕ} {f u : ℕ} (h : Past y₀ input f u y) where
    pub nothing_left : u ≡ length input → passage y f u (gives unfinished) ≡ passage_left (run_on (stage y₀) input)
    nothing_left e =
        ended y f u waiting h.ready
        (h.rest ∙ ap (λ (i : List ℕ). behind f u (run_on (stage y) i)) (ap (λ (d : ℕ). drop d input) e ∙ drop-length input) ∙ ap (behind f u) (no_bytes tags take_on (stage y)))

    abbrev i : List ℕ
    i = drop u input

    abbrev reply : Reply Stage
    reply = reply_on (stage y) i

    -- a turn of the loop: x answers the field after them, as it is lent on, and accepts n bytes
    module _ {x : Left (ReadSaid Along)} (q : x ≡ stepped_left (stage y) (reply_on (stage y) (take (length input - u) (drop u input)))) {n : ℕ} (e : n ≡ bytes_of x.answer.says) where
      here : stepped_left (stage y) reply ≡ x
      here = sym (q ∙ ap (λ (j : List ℕ). stepped_left (stage y) (reply_on (stage y) j)) (part_rest u input))

      bytes_is : n ≡ bytes_of (reply_said reply)
      bytes_is = e ∙ sym (ap (λ (z : Left (ReadSaid Along)). bytes_of z.answer.says) here)

      abbrev z : Stage
      z = stage_after (stage y) reply

      module _ (some : n ≡ 0 → ⊥) where
        goes : move_at tags take_on (stage y) i ≡ on z n
        goes = reply_on_lem (stage y) reply n bytes_is some

        pub turn_size : (3 ≤ n) × (u + n ≤ length input)
        turn_size = let (low, high) = move_size tags take_on (stage y) i z n goes in (low, omega (arith, length-drop u input, h.within))

        next_later : Later me b t z
        next_later = later_move me b t (stage y) i z n goes (later y h.ready)

        pub turn : Past y₀ input (f + 1) (u + n) (next x)
        turn =
            let (low, high) = turn_size in
            let w = run_on (stage (next x)) (drop (u + n) input) in
            let one : f + suc w.fields ≡ f + 1 + w.fields = omega arith in
            let same : z ≡ stage (next x) = sym (stage_again z next_later) ∙ ap (λ (v : Left (ReadSaid Along)). stage (next v)) here in
            record {
              within = high;
              fewer = omega (arith, h.fewer);
              ready = subst (λ (v : Left (ReadSaid Along)). ReadyAt (next v)) here (ready_again z next_later h.ready);
              rest =
                  h.rest
                  ∙ ap (behind f u) (first_then tags take_on (stage y) i z n goes)
                  ∙ (λ j. behind f u (onwards n (run_on (same j) (drop-drop n u input j))))
                  ∙ (λ j. record { state = w.state; fields = one j; used = sym (add_assoc u n w.used) j; end = w.end });
            }

      -- it accepts none
      pub turn_end : n ≡ 0 → passage (next x) f u x.answer.says ≡ passage_left (run_on (stage y₀) input)
      turn_end none =
          let o = reply_off (stage y) reply (λ w m d. (move_size tags take_on (stage y) i w m d).0) (sym bytes_is ∙ none) in
          let same : y ≡ next x =
          (λ j. record { answer = along_is me b t y.answer y.memory.ledger y.memory.map h.ready.kept j; memory = y.memory })
          ∙ ap along_left (sym o.same) ∙ ap next here in
          (λ j. passage (sym same j) f u ((ap (λ (v : Left (ReadSaid Along)). v.answer.says) (sym here) ∙ sym o.last) j))
          ∙ ended y f u o.end h.ready (h.rest ∙ ap (behind f u) (first_ends tags take_on (stage y) i o.end o.move))
