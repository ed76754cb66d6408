-- "Each refusal has a number": it is one of document 01's list, whatever is refused.
-- Assumes nothing.
use mathlib.Core.Bool.{Bool, true, false, cond, false≢true}
use mathlib.Core.List.{List}
use mathlib.Core.Path.{◌≡◌, refl, sym, ap, subst, ◌∙◌}
use Prim.Native.Nat.{ℕ, suc, ◌+◌, ◌-◌, zero-le}
use native.Mathlib.Omega.{arith}
use borrow.Author.Tests.{eqb-false}
use lib.Dec.{leb, eqb}
use lib.IntN.{ℤ}
use lib.ListN.{length}
use Rattle.rules.specs.Numbered.{number}
use Rattle.rules.specs.Words.{unless}
use Rattle.rules.specs.declared.Amounts.{Amounts}
use Rattle.rules.specs.Closing.{Charge, Is, recharge_figure, recharge_refusal, recharge_by}
use Rattle.std.specs.Prelude.{None as absent, Some as wh}
use Rattle.rules.specs.declared.Closing.{Closing}
use Rattle.rules.specs.Table.{Matter, behind_tolerances, tags}
use Rattle.rules.specs.Machine.{Reply, to_field, not_yet, no_field, taken, passed, refused, End, waiting, broken, stopped, Ran, run}
use Rattle.rules.specs.Record.{Told, content_at, bring_at, more_passed, take_field, untold, told, refused_at, sheet_by, sheet_of}
use Rattle.laws.specs.Answers.{Said, gives, refuses, is, figure_said, closing_said, end_said, answer_said}
use Rattle.laws.proofs.Answers.{given_refused, figure_or}
use Rattle.state.specs.State.{Left, left}
use Rattle.ledger.specs.Row.{energy_in, distance_in}
use Rattle.state.specs.declared.Run.{Run}
use Rattle.state.specs.Refusals.{start_refusal, sample_refusal, cycles_by}
use Rattle.blocks.specs.Blocks.{block_refusal}
use Rattle.closing.specs.Answers.{whole, refusal_of, closed_figures}
use Rattle.records.specs.Stage.{Stage, reply_on, run_on}
use Rattle.opening.specs.declared.Opening.{Opening}
use Rattle.opening.specs.Answers.{opens, starts, open_step_said, OpenLeft, stage_of, run_of, open_ground, not_opened, opened_by, front_opened}
use Rattle.reading.specs.declared.Reading.{Reading}
use Rattle.reading.specs.Answers.{unfinished, step_said, reply_said, ReadSaid, AllSaid, stage_at, read_ground}
use Rattle.reader.specs.Answers.{may_end, read_by, all_by, read_left, all_left, ending_of}
use Rattle.desk.specs.Feeding.{Laid, Consumed, laid_of, stage_on, desk_ground, feed_of}
use Rattle.desk.proofs.LeftOver.{by_feed}
use Rattle.demands.specs.Cases.{Known, in_01, in_02, Listed}
use Rattle.demands.specs.Demand1.{InTheList}
use Rattle.demands.proofs.HasItsNumber.{closed_by_lem}
use Rattle.demands.proofs.Proper.{few_unless, few_ground, few_closing, few_reading, few_opening, few_desk, listed, given_listed, Proper, at, content_proper, end_proper, reply_listed, run_listed}

-- ---- the answers

eight : Listed 8
eight = at 8 (omega arith) (in_01 (omega arith))

-- after the last accepted field
end_listed : {A : Type 0} (a : A) (x : Stage) (i : List ℕ) (n : ℕ) → end_said a (run_on x i).end ≡ refuses n → Listed n
end_listed a x i n = by (run_on x i).end refl
  where
    by : (e : End) → (run_on x i).end ≡ e → end_said a e ≡ refuses n → Listed n
    by waiting q e = absurd (given_refused e)
    by broken q e = let d : 8 ≡ n = cc e in subst Listed d eight
    by (stopped j) q e = let d : j ≡ n = cc e in subst Listed d (run_listed x i j q)

open_listed : (o : Opening) (room : List ℕ) (l : List ℤ) (m i : List ℕ) (n : ℕ) → (front_opened o room l m i).answer.says ≡ refuses n → Listed n
unfolding front_opened
open_listed o room l m i n = go (eqb (open_ground o room) 0) refl
  where
    x : Stage
    x = stage_of o room l m

    started : (b : Bool) (z : Stage) (k : ℕ) → gives (cond b (starts k (run_of z)) (opens k)) ≡ refuses n → Listed n
    started true z k e = absurd (false≢true cc)
    started false z k e = absurd (false≢true cc)

    by : (y : Reply Stage) → reply_on x i ≡ y → (opened_by o room x y).answer.says ≡ refuses n → Listed n
    by (to_field (taken z) k) q e = started (eqb z.place behind_tolerances) z k e
    by (to_field (passed z) k) q e = absurd (false≢true cc)
    by (to_field (refused x) k) q e = let d : x ≡ n = cc e in subst Listed d (reply_listed _ i x k q)
    by not_yet q e = absurd (false≢true cc)
    by no_field q e = let d : 8 ≡ n = cc e in subst Listed d eight

    go : (b : Bool) → eqb (open_ground o room) 0 ≡ b
        → (cond b (opened_by o room x (reply_on x i)) (not_opened o room x (refuses (open_ground o room)))).answer.says ≡ refuses n → Listed n
    go true z e = by (reply_on x i) refl e
    go false z e = let d : open_ground o room ≡ n = cc e in subst Listed d (listed (open_ground o room) (few_opening o room) (eqb-false _ 0 z))

module _ (r : Reading) (b : List ℕ) (l : List ℤ) (m i : List ℕ) (n : ℕ) where
  abbrev x : Stage
  x = stage_at r b l m

  refused_listed : eqb (read_ground r b l m) 0 ≡ false → read_ground r b l m ≡ n → Listed n
  refused_listed z d = subst Listed d (listed (read_ground r b l m) (few_reading r b l m) (eqb-false _ 0 z))

  read_listed : (read_left r b l m i).answer.says ≡ refuses n → Listed n
  unfolding read_left
  read_listed = go (eqb (read_ground r b l m) 0) refl
    where
      by : (y : Reply Stage) → reply_on x i ≡ y → reply_said y ≡ refuses n → Listed n
      by (to_field (taken z) k) q e = absurd (false≢true cc)
      by (to_field (passed z) k) q e = absurd (false≢true cc)
      by (to_field (refused j) k) q e = let d : j ≡ n = cc e in subst Listed d (reply_listed x i j k q)
      by not_yet q e = absurd (false≢true cc)
      by no_field q e = let d : 8 ≡ n = cc e in subst Listed d eight

      go : (t : Bool) → eqb (read_ground r b l m) 0 ≡ t
          → (cond t (read_by r x (reply_on x i)) (left {A = ReadSaid Reading} (record { says = refuses (read_ground r b l m); state = r }) l m)).answer.says ≡ refuses n → Listed n
      go true z e = by (reply_on x i) refl e
      go false z e = refused_listed z cc

  read_all_listed : (all_left r b l m i).answer.last ≡ refuses n → Listed n
  unfolding all_left
  read_all_listed = go (eqb (read_ground r b l m) 0) refl
    where
      go : (t : Bool) → eqb (read_ground r b l m) 0 ≡ t
          → (cond t (all_by r (run_on x i)) (left {A = AllSaid Reading} (record { state = r; fields = 0; used = 0; last = refuses (read_ground r b l m) }) l m)).answer.last ≡ refuses n → Listed n
      go true z e = end_listed unfinished x i n e
      go false z e = refused_listed z cc

ended_listed : (started : Bool) (left n : ℕ) → ending_of started left ≡ refuses n → Listed n
unfolding ending_of unless
ended_listed started left n = go started (eqb left 0)
  where
    go : (s t : Bool) → unless (refuses 15) s (unless (refuses 15) t may_end) ≡ refuses n → Listed n
    go true true e = absurd (false≢true cc)
    go true false e = let d : 15 ≡ n = cc e in subst Listed d (at 15 (omega arith) (in_01 (omega arith)))
    go false t e = let d : 15 ≡ n = cc e in subst Listed d (at 15 (omega arith) (in_01 (omega arith)))

feed_listed : (x : Laid) (i : List ℕ) (n : ℕ) → (feed_of x i).outcome ≡ refuses n → Listed n
feed_listed x i n =
    by_feed x i (λ (y : Consumed). y.outcome ≡ refuses n → Listed n) (λ _ e. end_listed tt (stage_on x) i n e)
    (λ z e. let d : desk_ground x ≡ n = cc e in subst Listed d (listed (desk_ground x) (few_desk x) z))

at_proper : (s : Told) (m : Matter) (v : List ℕ) → Proper (content_at s m v)
at_proper s = content_proper s.passed s.holding.vehicle s.holding.cycle (length s.holding.samples)

sheet_listed : (i : List ℕ) (n k : ℕ) → sheet_of i ≡ refused_at n k → Listed n
unfolding sheet_of unless
sheet_listed i n k = by (run tags take_field untold i).end refl
  where
    at_end : (a b : Bool) (f : ℕ) (s : Told) → unless (refused_at 15 f) a (unless (refused_at 15 f) b (told s)) ≡ refused_at n k → Listed n
    at_end true true f s e = absurd (false≢true cc)
    at_end true false f s e = let d : 15 ≡ n = cc e in subst Listed d (at 15 (omega arith) (in_01 (omega arith)))
    at_end false b f s e = let d : 15 ≡ n = cc e in subst Listed d (at 15 (omega arith) (in_01 (omega arith)))

    x : Ran Told
    x = run tags take_field untold i

    by : (e : End) → x.end ≡ e → sheet_by e x.state (0 + x.fields) (length i - x.used) ≡ refused_at n k → Listed n
    by waiting q e = at_end (leb behind_tolerances x.state.place) (eqb (length i - x.used) 0) (suc (0 + x.fields)) x.state e
    by broken q e = let d : 8 ≡ n = cc e in subst Listed d eight
    by (stopped j) q e =
        let d : j ≡ n = cc e in
        subst Listed d (end_proper (λ s. s.place) content_at bring_at more_passed at_proper untold i j q)

-- the recharge figure beside a closing
recharge_listed : (E : ℤ) (R : ℕ) (F : ℤ) (y : Charge) (n : ℕ) → figure_said (recharge_by E R F y) ≡ refuses n → Listed n
unfolding recharge_refusal
recharge_listed E R F absent n q = absurd (given_refused q)
recharge_listed E R F (wh A) n q =
    given_listed (recharge_refusal E R F A) (is (recharge_figure E R F A)) n (few_unless _ (in_01 (omega arith)) (few_unless _ (in_01 (omega arith)) (in_01 zero-le)))
    (sym (figure_or (recharge_refusal E R F A) (Is (recharge_figure E R F A))) ∙ q)

-- the closing
few_closed : (r : Run) (a : Amounts) (b : List ℕ) (l : List ℤ) (m : List ℕ) → Known (refusal_of r a b l m)
unfolding refusal_of
few_closed r a b l m = few_unless _ (in_01 (omega arith)) (few_ground r b l m _ (few_closing (whole r a b l m) (cycles_by r) (energy_in l) (distance_in l) _))

pub in_the_list : InTheList
unfolding start_refusal sample_refusal block_refusal
in_the_list = record {
  start_listed = λ c k e.
      given_listed _ _ (number k) (few_unless _ (in_01 (omega arith)) (few_unless _ (in_01 (omega arith)) (few_unless _ (in_01 (omega arith)) (few_unless _ (in_01 (omega arith)) (few_unless _ (in_02 refl) (in_01 zero-le))))))
      (sym (ap (λ (y : Left (Said Run)). y.answer) c.kept) ∙ ap answer_said e);
  sample_listed = λ c k e.
      let (r, (b, (l, (m, _)))) = c.args in
      given_listed _ _ (number k) (few_ground r b.now l.now m.now _ (few_unless _ (in_01 (omega arith)) (few_unless _ (in_01 (omega arith)) (in_01 zero-le))))
      (sym (ap (λ (y : Left (Said Run)). y.answer) c.kept) ∙ ap answer_said e);
  block_listed = λ c k e.
      let (r, (b, (l, (m, _)))) = c.args in
      given_listed _ _ (number k)
      (few_ground r b.now l.now m.now _ (few_unless _ (in_01 (omega arith)) (few_unless _ (in_01 (omega arith)) (few_unless _ (in_01 (omega arith)) (few_unless _ (in_01 (omega arith)) (in_01 zero-le))))))
      (sym (ap (λ (y : Left (Said Run)). y.answer) c.kept) ∙ ap answer_said e);
  shown_listed = λ c k e.
      let (r, (b, (l, (m, _)))) = c.args in
      given_listed _ _ (number k) (few_ground r b.now l.now m.now 0 (in_01 zero-le)) (sym c.kept ∙ ap answer_said e);
  totals_listed = λ c k e.
      let (r, (b, (l, (m, _)))) = c.args in
      given_listed _ _ (number k) (few_ground r b.now l.now m.now 0 (in_01 zero-le)) (sym c.kept ∙ ap answer_said e);
  closing_listed = λ c n e. given_listed _ _ n (few_closed _ _ _ _ _) (sym c.kept ∙ ap closing_said e);
  recharge_listed = λ c x is n e.
      let (r, (a, (b, (l, (m, _))))) = c.args in
      recharge_listed (whole r a b.now l.now m.now) (closed_figures r a b.now l.now m.now).range a.after a.charge n
      (ap (λ (y : Closing). figure_said y.recharge) (closed_by_lem c x is) ∙ ap figure_said e);
  open_listed = λ c k e.
      let (o, (i, (room, (l, (m, _))))) = c.args in
      open_listed o room.now l.now m.now i.now (number k) (sym (ap (λ (y : OpenLeft). y.answer.says) c.kept) ∙ ap open_step_said e);
  read_listed = λ c k e.
      let (r, (i, (b, (l, (m, _))))) = c.args in
      read_listed r b.now l.now m.now i.now (number k) (sym (ap (λ (y : Left (ReadSaid Reading)). y.answer.says) c.kept) ∙ ap step_said e);
  read_all_listed = λ c k e.
      let (r, (i, (b, (l, (m, _))))) = c.args in
      read_all_listed r b.now l.now m.now i.now (number k) (sym (ap (λ (y : Left (AllSaid Reading)). y.answer.last) c.kept) ∙ ap step_said e);
  ended_listed = λ c k e. ended_listed c.args.0 c.args.1.0 (number k) (sym c.kept ∙ ap answer_said e);
  feed_listed = λ c k e.
      let (d, (i, (room, (l, (m, _))))) = c.args in
      feed_listed (laid_of d room.now l.now m.now) i.now (number k) (sym (ap (λ (y : Consumed). y.outcome) c.kept) ∙ ap answer_said e);
  sheet_listed = sheet_listed;
}
