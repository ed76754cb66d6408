-- Demand 2 of records: "Blocks of another vehicle change nothing but the passed-over count (and the field number of a later refusal)".
-- Assumes nothing.
use mathlib.Core.Bool.{Bool, true, false, cond, false≢true}
use mathlib.Core.List.{List, ◌++◌}
use mathlib.Core.Path.{◌≡◌, refl, sym, ap, ◌∙◌}
use Prim.Native.Nat.{ℕ, ◌+◌, ◌≤◌}
use lib.Dec.{eqb}
use lib.IntN.{ℤ}
use Rattle.rules.specs.Bench.{most_passed}
use Rattle.rules.specs.Table.{tags}
use Rattle.rules.specs.Front.{Front, incomplete, impossible, field, front_of}
use Rattle.rules.specs.Machine.{Reply, to_field, not_yet, no_field, taken, passed, refused, reply_as, reply_at, run}
use Rattle.rules.specs.Record.{Told, take_field, untold, told, sheet_of}
use Rattle.rules.specs.Text.{printed}
use Rattle.rules.specs.Figures.{figures_told}
use Rattle.laws.specs.Answers.{gives, refuses}
use Rattle.laws.proofs.Sheets.{told_leads}
use Rattle.laws.specs.Claims.{ForeignBlock, one_more}
use Rattle.laws.proofs.ForeignBlocks as laws
use Rattle.state.specs.State.{Left, left as memory-left}
use Rattle.records.specs.Stage.{Stage, pass_on, take_on, reply_on}
use Rattle.records.proofs.Came.{gone}
use Rattle.reading.specs.declared.Reading.{Reading}
use Rattle.reading.specs.Answers.{passes, step_said, reply_said, ReadSaid, stage_at, read_ground}
use Rattle.reading.proofs.Taking.{from_start}
use Rattle.reader.specs.Answers.{read_by, read_left}
use Rattle.demands.specs.Foreign.{ForeignChangesNothing, ReadPassesOver}
use Rattle.demands.specs.Compared.{one_passed}
use Rattle.demands.proofs.NoDoubt.{left_by}
use Rattle.demands.proofs.Lines.{above_passed, below_passed, passed_lines}

pub foreign_changes_nothing : (p f v q : List ℕ) (x : Told) → sheet_of p ≡ told x → ForeignBlock x f v → (run tags take_field untold (p ++ q)).state.passed + 1 ≤ most_passed
    → ForeignChangesNothing p f q
foreign_changes_nothing p f v q x tells block room =
    let l = told_leads p x tells in
    let same = laws.foreign_blocks_change_nothing p f v q x l.fields l.leads block room in
    record {
      foreign_blocks_change_nothing = same;
      foreign_figures = λ y e. (same ∙ ap one_more e, refl);
      foreign_prints = λ y e. record {
        above = above_passed (figures_told y);
        below = below_passed (figures_told y);
        number = y.passed;
        lines = ap printed e ∙ passed_lines (figures_told y) y.passed;
        lines' = ap printed (same ∙ ap one_more e) ∙ passed_lines (figures_told y) (y.passed + 1);
      };
      foreign_refusal_prints = λ k j e. ap printed (same ∙ ap one_more e);
    }

-- ---- a single call of `read` that passes a block over: "only the passed-over count rises"

-- what is passed over leads only to the state with one more
reply_gone : (x : Stage) (i : List ℕ) (z : Stage) (k : ℕ) → reply_on x i ≡ to_field (passed z) k → pass_on x ≡ z
unfolding reply_at
reply_gone x i z k = go (front_of tags i)
  where
    go : (w : Front) → reply_as tags take_on x w ≡ to_field (passed z) k → pass_on x ≡ z
    go incomplete e = absurd (false≢true cc)
    go impossible e = absurd (false≢true cc)
    go (field f) e = let a : take_on x f ≡ passed z = cc e in (gone x f z a).0

module _ (r : Reading) (b : List ℕ) (l : List ℤ) (m i : List ℕ) (n : ℕ) where
  abbrev x : Stage
  x = stage_at r b l m

  abbrev over : Left (ReadSaid Reading)
  over = memory-left (record { says = gives (passes n); state = one_passed r }) l m

  reply_passes : (y : Reply Stage) → reply_on x i ≡ y → reply_said y ≡ gives (passes n) → read_by r x y ≡ over
  reply_passes (to_field (taken z) k) d e = absurd (false≢true cc)
  reply_passes (to_field (passed z) k) d e =
      let z-is : pass_on x ≡ z = reply_gone x i z k d in
      let same : k ≡ n = cc e in
      (λ j. read_by r x (to_field (passed (sym z-is j)) (same j)))
      ∙ (λ j. memory-left (record { says = gives (passes n); state = record { vehicle = r.vehicle; place = sym (from_start r.place) j; passed = r.passed + 1; amounts = r.amounts; run = r.run } }) l m)
  reply_passes (to_field (refused k) j) d e = absurd (false≢true cc)
  reply_passes not_yet d e = absurd (false≢true cc)
  reply_passes no_field d e = absurd (false≢true cc)

  passed_read : (read_left r b l m i).answer.says ≡ gives (passes n) → read_left r b l m i ≡ over
  unfolding read_left
  passed_read = go (eqb (read_ground r b l m) 0)
    where
      call : Bool → Left (ReadSaid Reading)
      call t = cond t (read_by r x (reply_on x i)) (memory-left (record { says = refuses (read_ground r b l m); state = r }) l m)

      go : (t : Bool) → (call t).answer.says ≡ gives (passes n) → call t ≡ over
      go true = reply_passes (reply_on x i) refl
      go false = λ e. absurd (false≢true cc)

pub read_passes_over : ReadPassesOver
read_passes_over c n e =
    let (r, (i, (b, (l, (m, _))))) = c.args in
    let k = c.kept in
    let f = k ∙ passed_read r b.now l.now m.now i.now n (sym (ap (λ (y : Left (ReadSaid Reading)). y.answer.says) k) ∙ ap step_said e) in
    (ap (λ (y : Left (ReadSaid Reading)). y.answer.state) f, left_by c (λ j. (tt, (tt, (tt, ((f j).memory.ledger, ((f j).memory.map, tt)))))))
