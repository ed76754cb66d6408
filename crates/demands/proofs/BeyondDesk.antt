-- "what lies beyond is never touched": of every single call, on any state, input and memory.
-- Assumes nothing.
use mathlib.Core.Bool.{Bool, true, false, cond}
use mathlib.Core.List.{List}
use mathlib.Core.Path.{◌≡◌, ap, subst⁻¹}
use Prim.Native.Nat.{ℕ}
use lib.Dec.{leb}
use lib.ListN.{length}
use Rattle.numbers.proofs.Tests.{not_refused}
use Rattle.state.specs.State.{lent, Left}
use Rattle.opening.specs.Answers.{OpenLeft, stage_of, open_ground}
use Rattle.reading.specs.Answers.{stage_at}
use Rattle.reading.specs.declared.Reading.{Reading}
use Rattle.reading.specs.Answers.{ReadSaid, AllSaid}
use Rattle.desk.specs.Feeding.{Laid, Consumed, laid_of, lent_cycle, stage_on, started_ground, most_fields, desk_ground, feed_of}
use Rattle.desk.proofs.LeftOver.{by_feed}
use Rattle.demands.specs.Demand1.{BeyondStays}
use Rattle.demands.specs.Runs.{Beyond}
use Rattle.demands.proofs.Beyond.{untouched, start_untouched, sample_untouched, block_untouched}
use Rattle.demands.proofs.BeyondReader.{Keeps, keeps_run, opening_keeps, open_of_beyond, reading_keeps, read_of_beyond, read_all_of_beyond}

-- a desk that passes the tests before all else
desk_keeps : (x : Laid) → desk_ground x ≡ 0 → Keeps x.memory (stage_on x)
unfolding desk_ground
desk_keeps x e = go x.desk.started (not_refused 0 (leb x.desk.fields most_fields) _ e).1
  where
    go : (s : Bool) → cond s (started_ground x) (open_ground x.desk.opening x.room) ≡ 0
        → Keeps x.memory (cond s (stage_at x.desk.reading (lent_cycle x) x.memory.ledger x.memory.map) (stage_of x.desk.opening x.room x.memory.ledger x.memory.map))
    go true g = reading_keeps x.desk.reading (lent_cycle x) x.memory.ledger x.memory.map (not_refused 0 (leb x.desk.opening.cycle (length x.room)) _ g).1
    go false g = opening_keeps x.desk.opening x.room x.memory.ledger x.memory.map g

fed_beyond : (x : Laid) (i : List ℕ) → Beyond x.memory (feed_of x i).laid.memory
fed_beyond x i = by_feed x i (λ (y : Consumed). Beyond x.memory y.laid.memory) (λ e. (keeps_run x.memory (stage_on x) i (desk_keeps x e)).beyond) (λ _. untouched)

-- ---- the calls

pub beyond_stays : BeyondStays
beyond_stays = record {
  start_beyond = start_untouched;
  sample_beyond = sample_untouched;
  block_beyond = block_untouched;
  open_beyond = λ c.
      let (o, (i, (room, (l, (m, _))))) = c.args in
      subst⁻¹ (Beyond (lent l.now m.now)) (ap (λ (y : OpenLeft). y.memory) c.kept) (open_of_beyond o room.now l.now m.now i.now);
  read_beyond = λ c.
      let (r, (i, (b, (l, (m, _))))) = c.args in
      subst⁻¹ (Beyond (lent l.now m.now)) (ap (λ (y : Left (ReadSaid Reading)). y.memory) c.kept) (read_of_beyond r b.now l.now m.now i.now);
  read_all_beyond = λ c.
      let (r, (i, (b, (l, (m, _))))) = c.args in
      subst⁻¹ (Beyond (lent l.now m.now)) (ap (λ (y : Left (AllSaid Reading)). y.memory) c.kept) (read_all_of_beyond r b.now l.now m.now i.now);
  feed_beyond = λ c.
      let (d, (i, (room, (l, (m, _))))) = c.args in
      subst⁻¹ (Beyond (lent l.now m.now)) (ap (λ (y : Consumed). y.laid.memory) c.kept) (fed_beyond (laid_of d room.now l.now m.now) i.now);
}
