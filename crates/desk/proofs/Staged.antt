-- A desk after fields: what is left of it, by one call or by several.
-- Assumes nothing.
use mathlib.Core.Bool.{Bool, true, false, cond, ◌&&◌}
use mathlib.Core.List.{List}
use mathlib.Core.Path.{◌≡◌, refl, sym, ap, ◌∙◌}
use Prim.Native.Nat.{ℕ, ◌+◌}
use native.Mathlib.Nat.{add-zero, add_assoc}
use native.Mathlib.Omega.{arith}
use borrow.Author.Tests.{le-leb, lt-leb, leb-true, leb-false}
use lib.Dec.{leb}
use lib.ListN.{length, take}
use lib.Seq.{length-take-le}
use Rattle.rules.specs.declared.Method.TheVariants.{Regular as by_cycles}
use Rattle.rules.specs.Table.{behind_tolerances}
use Rattle.rules.specs.Machine.{End, Ran, ends}
use Rattle.laws.specs.Answers.{end_said}
use Rattle.laws.proofs.Cuts.{joined}
use Rattle.state.specs.State.{Memory}
use Rattle.state.specs.Refusals.{started}
use Rattle.records.specs.Stage.{Stage, written, room_after}
use Rattle.records.proofs.After.{After}
use Rattle.opening.specs.declared.Opening.{Opening}
use Rattle.opening.specs.Answers.{stage_of, opening_of, run_of}
use Rattle.opening.proofs.Readied.{Ready}
use Rattle.reading.specs.declared.Reading.{Reading}
use Rattle.reading.specs.Answers.{started_reading, stage_at, reading_of}
use Rattle.reading.proofs.Taking.{from_start}
use Rattle.desk.specs.Feeding.{Desk, Laid, lent_cycle, stage_on, started_opening, laid_after, behind, fed_by}

-- ---- the room: in two steps as in one

pub rooms : (s u w : Stage) (room : List ℕ) → After s u → After u w → room_after u w (room_after s u room) ≡ room_after s w room
rooms s u w room a b = go (leb s.place 2) (leb 3 u.place) (leb u.place 2) (leb 3 w.place) refl refl refl refl
  where
    go : (p q r t : Bool) → leb s.place 2 ≡ p → leb 3 u.place ≡ q → leb u.place 2 ≡ r → leb 3 w.place ≡ t
        → cond (r && t) (written (cond (p && q) (written room u.cycle) room) w.cycle) (cond (p && q) (written room u.cycle) room) ≡ cond (p && t) (written room w.cycle) room
    go true true true t e f g k = absurd (let x = leb-true 3 u.place f in let y = leb-true u.place 2 g in omega arith)
    go true true false true e f g k = ap (written room) (sym (b.cycle (leb-true 3 u.place f)))
    go true true false false e f g k = absurd (let x = leb-true 3 u.place f in let y = leb-false 3 w.place k in omega (arith, b.place))
    go true false true t e f g k = refl
    go true false false t e f g k = absurd (let x = leb-false 3 u.place f in let y = leb-false u.place 2 g in omega arith)
    go false q true t e f g k = absurd (let x = leb-false s.place 2 e in let y = leb-true u.place 2 g in omega (arith, a.place))
    go false q false t e f g k = refl

-- ---- where nothing is taken

module _ (x : Laid) (e : End) where
  abbrev d : Desk
  d = x.desk

  none_more : d.fields + 0 ≡ d.fields
  none_more = add-zero d.fields

  pub none_opened : d.started ≡ false → Ready d.opening x.room → laid_after x (ends (stage_on x) e) ≡ x
  none_opened f h =
      let o = d.opening in
      let s = stage_of o x.room x.memory.ledger x.memory.map in
      let size_is : length (take o.cycle x.room) ≡ o.cycle = length-take-le o.cycle x.room (omega (arith, h.size, h.room)) in
      (λ i. laid_after (record { desk = record { started = f i; opening = o; reading = d.reading; fields = d.fields }; room = x.room; memory = x.memory }) (ends (cond (f i) (stage_at d.reading (lent_cycle x) x.memory.ledger x.memory.map) s) e))
      ∙ (λ i. record {
        desk = cond (lt-leb 4 o.fields (omega (arith, h.few)) i)
            (record { started = true; opening = started_opening s; reading = reading_of (started_reading s.vehicle (run_of s)) s; fields = d.fields + 0 })
            (record { started = false; opening = record { fields = o.fields; vehicle = o.vehicle; cycle = size_is i }; reading = d.reading; fields = none_more i });
        room = same_room s (leb o.fields 2) (leb 3 o.fields) refl refl i;
        memory = x.memory;
      })
      ∙ (λ i. record { desk = record { started = sym f i; opening = o; reading = d.reading; fields = d.fields }; room = x.room; memory = x.memory })
    where
      same_room : (s : Stage) (p q : Bool) → leb s.place 2 ≡ p → leb 3 s.place ≡ q → cond (p && q) (written x.room s.cycle) x.room ≡ x.room
      same_room s true true a b = absurd (let y = leb-true s.place 2 a in let z = leb-true 3 s.place b in omega arith)
      same_room s true false a b = refl
      same_room s false q a b = refl

  pub none_read : d.started ≡ true → laid_after x (ends (stage_on x) e) ≡ x
  none_read f =
      let r = d.reading in
      (λ i. laid_after (record { desk = record { started = f i; opening = d.opening; reading = r; fields = d.fields }; room = x.room; memory = x.memory })
      (ends (cond (f i) (stage_at r (lent_cycle x) x.memory.ledger x.memory.map) (stage_of d.opening x.room x.memory.ledger x.memory.map)) e))
      ∙ (λ i. record {
        desk = record {
          started = sym f i;
          opening = d.opening;
          reading = record { vehicle = r.vehicle; place = sym (from_start r.place) i; passed = r.passed; amounts = r.amounts; run = r.run };
          fields = none_more i;
        };
        room = x.room;
        memory = x.memory;
      })

-- ---- by two calls as by one

-- the desk with its parts
abbrev laid_as : Bool → Opening → Reading → ℕ → List ℕ → Memory → Laid
laid_as s o r n room c = record { desk = record { started = s; opening = o; reading = r; fields = n }; room = room; memory = c }

-- a desk that was fed u is fed w
module _ (o : Opening) (r : Reading) (n : ℕ) (room : List ℕ) (c : Memory) (u w : Ran Stage) (b : After u.state w.state) where
  abbrev more : n + u.fields + w.fields ≡ n + (u.fields + w.fields)
  more = add_assoc n u.fields w.fields

  joined_begun : After (stage_on (laid_as false o r n room c)) u.state → (q : Bool) → leb behind_tolerances u.state.place ≡ q
      → laid_after (record {
        desk = cond q
            (record { started = true; opening = started_opening u.state; reading = reading_of (started_reading u.state.vehicle (run_of u.state)) u.state; fields = n + u.fields })
            (record { started = false; opening = opening_of u.state; reading = r; fields = n + u.fields });
        room = room_after (stage_on (laid_as false o r n room c)) u.state room;
        memory = u.state.run.memory;
      }) w ≡ laid_after (laid_as false o r n room c) (joined u w)
  joined_begun a true e =
      let late = leb-true behind_tolerances u.state.place e in
      let s = stage_on (laid_as false o r n room c) in
      let z = w.state in
      let kept : room_after u.state z (room_after s u.state room) ≡ room_after s u.state room =
      ap (λ (t : Bool). cond (t && leb 3 z.place) (written (room_after s u.state room) z.cycle) (room_after s u.state room)) (lt-leb u.state.place 2 (omega arith)) in
      λ i. record {
        desk = cond (sym (le-leb 4 z.place (omega (arith, b.place))) i)
            (record {
              started = true;
              opening = record { fields = 4; vehicle = sym (b.vehicle late) i; cycle = length (sym (b.cycle (omega arith)) i) };
              reading = reading_of (started_reading (sym (b.vehicle late) i) (started (sym (b.cycle (omega arith)) i) (sym (b.tolerances late) i) by_cycles)) z;
              fields = more i;
            })
            (record { started = false; opening = opening_of z; reading = r; fields = n + (u.fields + w.fields) });
        room = (sym kept ∙ rooms s u.state z room a b) i;
        memory = z.run.memory;
      }
  joined_begun a false e =
      let s = stage_on (laid_as false o r n room c) in
      let z = w.state in
      λ i. record {
        desk = cond (leb behind_tolerances z.place)
            (record { started = true; opening = started_opening z; reading = reading_of (started_reading z.vehicle (run_of z)) z; fields = more i })
            (record { started = false; opening = opening_of z; reading = r; fields = more i });
        room = rooms s u.state z room a b i;
        memory = z.run.memory;
      }

  joined_by : (s : Bool) → After (stage_on (laid_as s o r n room c)) u.state
      → laid_after (laid_after (laid_as s o r n room c) u) w ≡ laid_after (laid_as s o r n room c) (joined u w)
  joined_by true a = λ i. record { desk = record { started = true; opening = o; reading = reading_of r w.state; fields = more i }; room = room; memory = w.state.run.memory }
  joined_by false a = joined_begun a (leb behind_tolerances u.state.place) refl

pub laid_joined : (x : Laid) (u w : Ran Stage) → After (stage_on x) u.state → After u.state w.state → laid_after (laid_after x u) w ≡ laid_after x (joined u w)
laid_joined x u w a b = joined_by x.desk.opening x.desk.reading x.desk.fields x.room x.memory u w b x.desk.started a

-- so is what is taken
pub fed_joined : (x : Laid) (u w : Ran Stage) → After (stage_on x) u.state → After u.state w.state → behind u.used (fed_by (laid_after x u) w) ≡ fed_by x (joined u w)
fed_joined x u w a b = λ i. record { laid = laid_joined x u w a b i; used = u.used + w.used; outcome = end_said tt w.end }
