-- What is shown of a record turn by turn, with its last line, is its field list by the rules.
-- Assumes nothing.
use mathlib.Core.Bool.{Bool}
use mathlib.Core.List.{List, [], ◌++◌, append_assoc, append-nil}
use mathlib.Core.Path.{◌≡◌, refl, sym, ap, ◌∙◌}
use Prim.Native.Nat.{ℕ, ◌≤◌}
use native.Mathlib.Omega.{arith}
use lib.IntN.{ℤ}
use lib.ListN.{length, take, drop, length-append, length-drop}
use lib.Seq.{take_at}
use Rattle.rules.specs.declared.Spot.{Spot}
use Rattle.rules.specs.Table.{tags}
use Rattle.rules.specs.Machine.{run}
use Rattle.rules.specs.Record.{Told, take_field, untold, Sheet, refused_at, sheet_of}
use Rattle.rules.specs.Listing.{Listed as Lines, listed, list_from, first_spot, accepted, remaining, list_of, last_line, fields_text}
use Rattle.laws.specs.Answers.{Said, gives, refuses}
use Rattle.laws.proofs.Cuts.{used_most}
use Rattle.records.specs.Stage.{take_on}
use Rattle.records.proofs.Held.{Long}
use Rattle.opening.specs.Answers.{unopened, stage_of}
use Rattle.reader.specs.Answers.{ending_of}
use Rattle.desk.specs.Feeding.{Laid, Consumed, Lent, feed_of}
use Rattle.desk.proofs.Arriving.{worked, Arrived, arrived_none, arrived_more, left_is, alike}
use Rattle.listing.specs.Lines.{most_line}
use Rattle.prints.proofs.Texts.{text_at}
use Rattle.prints.proofs.Printing.{sheet_end, sheet_ends, refused_number}
use Rattle.intake.specs.declared.Turned.{Turned}
use Rattle.intake.specs.declared.Turned.TheVariants.{On, Ended, Failed, Refused}
use Rattle.intake.specs.Turns.{Round, Came, none, part, turned_said}
use Rattle.intake.proofs.Told.{start}
use Rattle.intake.proofs.Untested.{came_arrived}
use Rattle.std.specs.Prelude.{Ok}
use Rattle.walk.specs.declared.whole.Listed.{Listed}
use Rattle.walk.specs.Walks.{Shows, last_text, last_said, last_of, Recorded, short_line, Unlisted}

-- a refusal, or what is said of the end
abbrev settle : Said (Unit {0}) → Said (Unit {0}) → Said (Unit {0})
settle (gives _) end = end
settle (refuses k) end = refuses k

last_said_lem : (t : Turned) (started : Bool) (held : ℕ) → last_said t started held ≡ settle (turned_said t) (ending_of started held)
last_said_lem On started held = refl
last_said_lem Ended started held = refl
last_said_lem Failed started held = refl
last_said_lem (Refused k) started held = refl

-- the last line of what is told or refused at the end
last_of_lem : (y : Said (Unit {0})) (t : Told) (k offset : ℕ) (q : List ℕ) → last_line (sheet_end y t k) offset q ≡ last_text y k offset q
last_of_lem (gives _) t k offset q = refl
last_of_lem (refuses n) t k offset q = refl

module _ (lent : Lent) where
  abbrev room : List ℕ
  room = lent.room₀

  abbrev l : List ℤ
  l = lent.l₀

  abbrev m : List ℕ
  m = lent.m₀

  enough : Long l m
  enough = record { ledger = lent.long_ledger; map = lent.long_map }

  came_left : {w rest : List ℕ} {x : Laid} {o : Said (Unit {0})} → Came (start lent) w x rest o → drop (worked room l m lent.long_room w).used w ≡ rest
  came_left none = (arrived_none room l m lent.long_room).bytes
  came_left (part h new) = left_is room l m lent.long_room (came_arrived room l m lent.long_room h refl) new

  arrived_last : {w rest : List ℕ} {x : Laid} → Arrived lent.room₀ lent.l₀ lent.m₀ lent.long_room w x rest → (offset : ℕ) (q : List ℕ)
      → last_line (sheet_of w) offset q ≡ last_text (ending_of x.desk.started (length rest)) x.desk.fields offset q
  arrived_last {w} {rest} {x} h offset q =
      ap (λ (s : Sheet). last_line s offset q) (sheet_ends lent h) ∙ last_of_lem (ending_of x.desk.started (length rest)) (run tags take_field untold w).state x.desk.fields offset q

  -- whatever became of the bytes, their last line
  came_last : {w rest : List ℕ} {x : Laid} {o : Said (Unit {0})} → Came (start lent) w x rest o → (offset : ℕ) (q : List ℕ)
      → last_line (sheet_of w) offset q ≡ last_text (settle o (ending_of x.desk.started (length rest))) x.desk.fields offset q
  came_last none offset q = arrived_last (arrived_none room l m lent.long_room) offset q
  came_last (part {w = w} {rest = rest} {x = x} h new) offset q = go y.outcome refl
    where
      arrived : Arrived lent.room₀ lent.l₀ lent.m₀ lent.long_room w x rest
      arrived = came_arrived lent.room₀ lent.l₀ lent.m₀ lent.long_room h refl

      y : Consumed
      y = feed_of x (rest ++ new)

      go : (o : Said (Unit {0})) → y.outcome ≡ o
          → last_line (sheet_of (w ++ new)) offset q ≡ last_text (settle o (ending_of y.laid.desk.started (length (drop y.used (rest ++ new))))) y.laid.desk.fields offset q
      go (gives _) e = arrived_last (arrived_more lent.room₀ lent.l₀ lent.m₀ lent.long_room arrived new e) offset q
      go (refuses k) e =
          ap (λ (i : List ℕ). last_line (sheet_of i) offset q) (sym (append-nil (w ++ new)))
          ∙ ap (λ (s : Sheet). last_line s offset q) (refused_number lent arrived new k e [])

  module _ {most : ℕ} {text : List ℕ} {p : Round} {spot : Spot} (s : Shows (start lent) most text p spot) where
    abbrev w : List ℕ
    w = s.stood.bytes

    abbrev u : ℕ
    u = (worked room l m lent.long_room w).used

    used_is : (run tags take_field untold w).used ≡ u
    used_is = (alike room l m lent.long_room enough w).used

    -- the bytes done are the accepted ones, and the rest is what remains
    done_is : accepted w ≡ s.stood.done
    done_is =
        let split = s.stood.whole in
        let size : length s.stood.done ≡ u =
        omega (arith, ap length split, length-append s.stood.done s.stood.rest, ap length (came_left s.stood.came), length-drop u w, used_most tags take_on (stage_of unopened room l m) w) in
        ap (λ (n : ℕ). take n w) used_is ∙ ap (take u) split ∙ take_at s.stood.done s.stood.rest u size

    rest_is : remaining w ≡ s.stood.rest
    rest_is = ap (λ (n : ℕ). drop n w) used_is ∙ came_left s.stood.came

    lists_are : list_of w ≡ listed spot text
    unfolding list_of
    lists_are = ap (list_from first_spot) done_is ∙ s.lists

    last_is : last_line (sheet_of w) (list_of w).spot.offset (remaining w) ≡ last_of p.turn spot p.buffer
    last_is =
        (λ i. last_line (sheet_of w) (lists_are i).spot.offset ((rest_is ∙ s.stood.held.0) i))
        ∙ came_last s.stood.came spot.offset _
        ∙ ap (λ (n : ℕ). last_text (settle (turned_said p.turn.turned) (ending_of p.turn.desk.started n)) p.turn.desk.fields spot.offset (take p.turn.held (drop p.turn.used p.buffer))) s.stood.held.1
        ∙ ap (λ (y : Said (Unit {0})). last_text y p.turn.desk.fields spot.offset (take p.turn.held (drop p.turn.used p.buffer))) (sym (last_said_lem p.turn.turned p.turn.desk.started p.turn.held))

    -- the lines of all turns, and the last one, are what the rules give for the bytes that came
    pub fields_print : text ++ last_of p.turn spot p.buffer ≡ fields_text w
    unfolding fields_text
    fields_print = λ i. (sym lists_are i).text ++ sym last_is i

    -- and so are the own blocks among the fields
    pub spot_is : (list_of w).spot ≡ spot
    spot_is = ap (λ (x : Lines). x.spot) lists_are

  -- what went out and what is to go out behind it, of a record that was listed
  pub list_record_prints : {most : ℕ} {r : Listed} {buffer room : List ℕ} {l : List ℤ} {m after : List ℕ} (c : Recorded (start lent) most r buffer room l m after)
      → {n : ℕ} → r.printed ≡ Ok n → c.out ++ take n after ≡ fields_text c.shows.stood.bytes
  list_record_prints c {n} e =
      let last = last_of c.turn c.spot _ in
      ap (λ (q : List ℕ). c.out ++ q) (c.lines n e) ∙ sym (append_assoc c.out c.rest last) ∙ fields_print c.shows

-- where buffer or lines are too short, a refusal before all else
pub short_list_prints : {x₀ : Laid} {most : ℕ} {out : List ℕ} {r : Listed} {room : List ℕ} {l : List ℤ} {m after : List ℕ} → Unlisted x₀ most out r room l m after
    → most_line ≤ length out → (n : ℕ) × (r.printed ≡ Ok n) × (take n after ≡ last_line (refused_at 1 1) 0 [])
short_list_prints {out = out} u h = (_, ap (λ (x : Listed). x.printed) u.answer, text_at most_line short_line out refl u.lines h)
