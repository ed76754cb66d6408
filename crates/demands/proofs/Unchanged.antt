-- "A refusal returns its number and no figure; state, ledger, map and every other lent buffer stay exactly as they were.": over the contracts.
-- Assumes nothing.
use Rattle.std.specs.Prelude.{Result, Ok, Err}
use mathlib.Core.Bool.{Bool, true, false}
use mathlib.Core.List.{List}
use mathlib.Core.Path.{◌≡◌, refl, sym, ap, subst, ◌∙◌}
use Prim.Native.Nat.{ℕ, ◌+◌, ◌<◌}
use native.Mathlib.Nat.{zero-add}
use borrow.Author.Tests.{lt-leb}
use lib.Dec.{leb}
use lib.ListN.{length, take, drop}
use lib.Seq.{drop-append_seam}
use Rattle.rules.specs.declared.Figures.{Figures}
use Rattle.rules.specs.declared.Refusal.{Refusal}
use Rattle.laws.specs.Answers.{answer_said, number_of}
use Rattle.laws.proofs.Answers.{number_said}
use Rattle.rules.specs.Words.{unless}
use Rattle.rules.specs.Record.{sheet_of}
use Rattle.rules.specs.Text.{printed}
use Rattle.state.specs.State.{Left}
use Rattle.numbers.proofs.Tests.{stop}
use Rattle.judge.proofs.Promises as judge
use Rattle.opening.specs.declared.OpenStep.TheVariants as opening
use Rattle.reading.specs.declared.Step.TheVariants as step
use Rattle.opening.specs.declared.OpenStep.{OpenStep}
use Rattle.opening.specs.Answers.{open_step_said, OpenLeft}
use Rattle.reading.specs.declared.Reading.{Reading}
use Rattle.reading.specs.declared.Step.{Step}
use Rattle.reading.specs.Answers.{step_said, ReadSaid, AllSaid}
use Rattle.reader.specs.Answers.{all_left}
use Rattle.reader.proofs.Unchanged.{OpenStays, open_stays, ReadStays, read_stays, none_read, read_alone}
use Rattle.sheet.specs.Overlaid.{overlaid, most_sheet}
use Rattle.tracing.specs.Traced.{most_trace}
use Rattle.desk.specs.Feeding.{Laid, Consumed, laid_of, feed_of}
use Rattle.desk.proofs.LeftOver as desk
use Rattle.paperwhelk.proofs.Fitting.{does_not_fit}
use Rattle.demands.specs.Calls.{left, OpenCall, ReadCall}
use Rattle.demands.specs.Demand1.{RefusedChangesNothing, LinesStay}
use Rattle.demands.proofs.NoDoubt.{left_by}
use Rattle.demands.proofs.Driven.{start_promised, sample_promised, block_promised}

open_unchanged : (c : OpenCall) (s : Result OpenStep Refusal) → c.answer.step ≡ s → OpenStays (open_step_said s) → (c.answer.opening ≡ c.args.0) × (left c ≡ c.args)
open_unchanged c s e h =
    let (o, (i, (room, (l, (m, _))))) = c.args in
    let k = c.kept in
    let f = k ∙ open_stays o room.now l.now m.now i.now (subst OpenStays (ap open_step_said (sym e) ∙ ap (λ (y : OpenLeft). y.answer.says) k) h) in
    (ap (λ (y : OpenLeft). y.answer.opening) f, left_by c (λ j. (tt, (tt, ((f j).room, ((f j).memory.ledger, ((f j).memory.map, tt)))))))

read_unchanged : (c : ReadCall) (s : Result Step Refusal) → c.answer.step ≡ s → ReadStays (step_said s) → (c.answer.reading ≡ c.args.0) × (left c ≡ c.args)
read_unchanged c s e h =
    let (r, (i, (b, (l, (m, _))))) = c.args in
    let k = c.kept in
    let f = k ∙ read_stays r b.now l.now m.now i.now (subst ReadStays (ap step_said (sym e) ∙ ap (λ (y : Left (ReadSaid Reading)). y.answer.says) k) h) in
    (ap (λ (y : Left (ReadSaid Reading)). y.answer.state) f, left_by c (λ j. (tt, (tt, (tt, ((f j).memory.ledger, ((f j).memory.map, tt)))))))

pub refused_changes_nothing : RefusedChangesNothing
refused_changes_nothing = record {
  start_refused_changes_nothing = λ c n e.
      let s = judge.refused_changes_nothing _ _ _ _ _ n _ _ (start_promised c) e in
      left_by c (λ i. (tt, (tt, (tt, ((s.1 i).ledger, ((s.1 i).map, tt))))));
  sample_refused_changes_nothing = λ c n e.
      let s = judge.refused_changes_nothing _ _ _ _ _ n _ _ (sample_promised c) e in
      left_by c (λ i. (tt, (tt, ((s.1 i).ledger, ((s.1 i).map, (tt, tt))))));
  block_refused_changes_nothing = λ c n e.
      let s = judge.refused_changes_nothing _ _ _ _ _ n _ _ (block_promised c) e in
      left_by c (λ i. (tt, (tt, ((s.1 i).ledger, ((s.1 i).map, (tt, (tt, tt)))))));
  open_refused_changes_nothing = λ c n e. open_unchanged c (Err n) e tt;
  open_incomplete_changes_nothing = λ c e. open_unchanged c (Ok opening.Incomplete) e tt;
  read_refused_changes_nothing = λ c n e. read_unchanged c (Err n) e tt;
  read_incomplete_changes_nothing = λ c e. read_unchanged c (Ok step.Incomplete) e tt;
  read_all_none_accepted_changes_nothing = λ c e.
      let (r, (i, (b, (l, (m, _))))) = c.args in
      let k = c.kept in
      let s = none_read r b.now l.now m.now i.now (sym (ap (λ (y : Left (AllSaid Reading)). y.answer.fields) k) ∙ e) in
      let memory = ap (λ (y : Left (AllSaid Reading)). y.memory) k ∙ s.1 in
      (ap (λ (y : Left (AllSaid Reading)). y.answer.state) k ∙ s.0, left_by c (λ j. (tt, (tt, (tt, ((memory j).ledger, ((memory j).map, tt)))))));
  read_all_refused_leaves_no_trace = λ c d s.
      let (r, (i, (b, (l, (m, _))))) = c.args in
      let k = c.kept in
      let input = s.input ∙ ap (λ (y : Left (AllSaid Reading)). take y.answer.used i.now) k in
      let alone = read_alone r b.now l.now m.now i.now in
      let f = d.kept ∙ (λ j. all_left (s.state j) (s.bytes j) (s.ledger j) (s.map j) (input j)) in
      let memory = ap (λ (y : Left (AllSaid Reading)). y.memory) f ∙ alone.1 ∙ sym (ap (λ (y : Left (AllSaid Reading)). y.memory) k) in (
        ap (λ (y : Left (AllSaid Reading)). y.answer.state) f ∙ alone.0 ∙ sym (ap (λ (y : Left (AllSaid Reading)). y.answer.state) k),
        λ j. (tt, (tt, (tt, ((memory j).ledger, ((memory j).map, tt))))),
      );
  feed_none_accepted_changes_nothing = λ c e.
      let (d, (i, (r, (l, (m, _))))) = c.args in
      let k = c.kept in
      let s = ap (λ (y : Consumed). y.laid) k ∙ desk.refused_changes_nothing (laid_of d r.now l.now m.now) i.now (sym (ap (λ (y : Consumed). y.used) k) ∙ e) in
      (ap (λ (y : Laid). y.desk) s, left_by c (λ j. (tt, (tt, ((s j).room, ((s j).memory.ledger, ((s j).memory.map, tt)))))));
  feed_refused_leaves_no_trace = λ c d s.
      let (x, (i, (r, (l, (m, _))))) = c.args in
      let p = c.kept in
      let input = s.input ∙ ap (λ (y : Consumed). take y.used i.now) p in
      let fed = d.kept ∙ (λ j. feed_of (laid_of (s.state j) (s.bytes j) (s.ledger j) (s.map j)) (input j)) in
      let end = ap (λ (y : Consumed). y.laid) fed ∙ desk.feed_alone (laid_of x r.now l.now m.now) i.now ∙ sym (ap (λ (y : Consumed). y.laid) p) in
      (ap (λ (y : Laid). y.desk) end, λ j. (tt, (tt, ((end j).room, ((end j).memory.ledger, ((end j).memory.map, tt))))));
  figures_of_refused_has_no_figure = λ c h x e.
      let number_is = ap number_of c.kept ∙ number_said _ _ refl in
      h (sym number_is ∙ ap (λ (y : Result Figures Refusal). number_of (answer_said y)) e);
}

-- ---- lines

-- a text was overlaid over out, or nothing was written
beyond_text : (text out : List ℕ) {o : List ℕ} (t : Bool) → o ≡ unless out t (overlaid out 0 text) → drop (length text) o ≡ drop (length text) out
unfolding unless overlaid
beyond_text text out true v =
    ap (drop (length text)) v ∙ drop-append_seam text (drop (0 + length text) out) ∙ ap (λ (k : ℕ). drop k out) (zero-add (length text))
beyond_text text out false v = ap (drop (length text)) v

-- r is the result, and o are the lines then
module _ (n : ℕ) (text out : List ℕ) {r : ℕ} {o : List ℕ}
    (p : r ≡ unless 0 (leb n (length out)) (length text)) (q : o ≡ unless out (leb n (length out)) (overlaid out 0 text)) where
  short : length out < n → (r ≡ 0) × (o ≡ out)
  short h = let t = lt-leb n (length out) h in (p ∙ sym (stop (length text) t), q ∙ sym (stop (overlaid out 0 text) t))

  beyond : drop r o ≡ drop r out
  unfolding unless
  beyond = go (leb n (length out)) p q
    where
      go : (t : Bool) → r ≡ unless 0 t (length text) → o ≡ unless out t (overlaid out 0 text) → drop r o ≡ drop r out
      go true u v = ap (λ (k : ℕ). drop k o) u ∙ beyond_text text out true v ∙ ap (λ (k : ℕ). drop k out) (sym u)
      go false u v = ap (drop r) v

pub lines_stay : LinesStay
lines_stay = record {
  sheet_lines_short_changes_nothing = λ c h. let s = short most_sheet _ _ c.kept.0 c.kept.1 h in (s.0, left_by c (λ i. (tt, (s.1 i, tt))));
  sheet_lines_beyond_stays = λ c. beyond most_sheet _ _ c.kept.0 c.kept.1;
  refusal_line_short_changes_nothing = λ c h. let s = short most_sheet _ _ c.kept.0 c.kept.1 h in (s.0, left_by c (λ i. (tt, (tt, (s.1 i, tt)))));
  refusal_line_beyond_stays = λ c. beyond most_sheet _ _ c.kept.0 c.kept.1;
  refuse_short_changes_nothing = λ c h. let s = short most_sheet _ _ c.kept.0 c.kept.1 h in (s.0, left_by c (λ i. (tt, (tt, (s.1 i, tt)))));
  refuse_beyond_stays = λ c. beyond most_sheet _ _ c.kept.0 c.kept.1;
  close_short_changes_nothing = λ c h. let s = short most_sheet _ _ c.kept.0 c.kept.1 h in (s.0, left_by c (λ i. (tt, (tt, (tt, (tt, (tt, (s.1 i, tt))))))));
  close_beyond_stays = λ c. beyond most_sheet _ _ c.kept.0 c.kept.1;
  trace_close_short_changes_nothing = λ c h. let s = short most_trace _ _ c.kept.0 c.kept.1 h in (s.0, left_by c (λ i. (tt, (tt, (tt, (tt, (tt, (tt, (s.1 i, tt)))))))));
  trace_close_beyond_stays = λ c. beyond most_trace _ _ c.kept.0 c.kept.1;
  sheet_short_changes_nothing = λ c h.
      let s = does_not_fit (printed (sheet_of c.args.0.now)) c.args.1.0.now h in
      (c.kept.0 ∙ sym s.0, left_by c (λ i. (tt, ((c.kept.1.0 ∙ sym s.1) i, tt))));
  sheet_beyond_stays = λ c. beyond_text (printed (sheet_of c.args.0.now)) c.args.1.0.now _ c.kept.1.0;
}
