-- "what lies beyond is never touched": of every single call, on any state and memory.
-- Assumes nothing.
use Rattle.rules.specs.declared.Refusal.{Refusal}
use Rattle.std.specs.Prelude.{Result}
use mathlib.Core.Bool.{Bool, true, false, cond}
use mathlib.Core.List.{List}
use mathlib.Core.Path.{◌≡◌, refl, subst⁻¹, ◌∙◌}
use Prim.Native.Nat.{ℕ, zero, suc, ◌*◌, ◌<◌}
use native.Mathlib.Omega.{arith}
use lib.Dec.{ltb, eqb}
use borrow.Author.Tests.{eqb-true, ltb-true}
use lib.IntN.{ℤ, pos}
use lib.ListN.{drop}
use Rattle.rules.specs.Words.{fold}
use Rattle.numbers.proofs.Lists.{drop_cleared}
use Rattle.rules.specs.declared.Moment.{Moment}
use Rattle.laws.specs.Beside.{is_open, stand_of}
use Rattle.rules.specs.Bench.{moment_of, most_cycles, most_positions}
use Rattle.rules.specs.Plan.{Plan, layout_of, course_of}
use Rattle.laws.proofs.Plans.{begin_first}
use Rattle.laws.proofs.Sound.{Sound, sound}
use Rattle.rules.specs.Shown.{ledger_numbers, map_words}
use Rattle.ledger.specs.Row.{interval_added, outside_added}
use Rattle.ledger.proofs.Rows.{outside_beyond, interval_beyond}
use Rattle.map.specs.Map.{opened, marked_if}
use Rattle.map.proofs.Marks.{drop_marked_if, drop_opened}
use Rattle.state.specs.declared.Run.{Run}
use Rattle.state.specs.State.{Memory, lent}
use Rattle.state.proofs.Checked.{ground_passed}
use Rattle.step.specs.Step.{State, open_row, open_phase, interval_closed, row_now, position_now, out_now, only_offered, judge, judge_or_limit, closed_with, limited, sample_taken, samples_taken, state_of}
use Rattle.step.proofs.Standing.{place_small, open_small}
use Rattle.rules.specs.Values.{moment_at, count_in}
use Rattle.blocks.proofs.Accepted.{one_accepted, block_accepted}
use Rattle.judge.specs.Answers.{plan_of}
use Rattle.judge.proofs.Promises.{Promised}
use Rattle.demands.specs.Calls.{StartCall, SampleCall, BlockCall, start_lent, start_leaves, sample_lent, sample_leaves, block_lent, block_leaves}
use Rattle.demands.specs.Runs.{Beyond}
use Rattle.demands.proofs.Driven.{start_promised, sample_promised, block_promised}

pub untouched : {a : Memory} → Beyond a a
untouched = record { in_ledger = refl; in_map = refl }

pub beyond_then : {a b c : Memory} → Beyond a b → Beyond b c → Beyond a c
beyond_then g h = record { in_ledger = h.in_ledger ∙ g.in_ledger; in_map = h.in_map ∙ g.in_map }

-- ---- one sample, and several

module _ (p : Plan) where
  -- the open interval is closed in the ledger
  closed_beyond : (a : State) (x : Moment) → Sound p.cycle → drop ledger_numbers (closed_with p a x).memory.ledger ≡ drop ledger_numbers a.memory.ledger
  unfolding interval_closed
  closed_beyond a x good = go (ltb row most_cycles) refl
    where
      row : ℕ
      row = open_row (layout_of p.cycle p.method) a.progress.counted

      phase : ℕ
      phase = open_phase (layout_of p.cycle p.method) a.progress.counted

      go : (v : Bool) → ltb row most_cycles ≡ v → drop ledger_numbers (cond v (interval_added (9 * row) a.memory.ledger phase a.progress.held x) a.memory.ledger)
          ≡ drop ledger_numbers a.memory.ledger
      go true e = interval_beyond row a.memory.ledger (ltb-true _ _ e) phase a.progress.held x (open_small p.cycle good p.method a.progress.counted)
      go false e = refl

  -- a sample is judged, on any memory
  judge_beyond : (a : State) (x : Moment) → Sound p.cycle → Beyond a.memory (judge p a x).memory
  unfolding judge
  judge_beyond a x good = go (ltb row most_cycles) refl
    where
      row : ℕ
      row = row_now p a x

      q : ℕ
      q = position_now p a x

      out : Bool
      out = out_now p a x

      small : row < most_cycles → q < most_positions
      small h =
          let n = a.progress.counted in
          omega (arith, begin_first p.cycle p.method n h, place_small p.cycle good (stand_of p.cycle p.method n), good.short)

      go : (v : Bool) → ltb row most_cycles ≡ v
          → Beyond a.memory (cond v (lent (outside_added (9 * row) a.memory.ledger out) (marked_if (opened a.memory.map q) q out)) a.memory)
      go true e = record {
        in_ledger = outside_beyond row a.memory.ledger (ltb-true _ _ e) out;
        in_map = drop_marked_if (opened a.memory.map q) q out (small (ltb-true _ _ e)) ∙ drop_opened a.memory.map q;
      }
      go false e = untouched

  taken_beyond : (a : State) (x : Moment) → Sound p.cycle → Beyond a.memory (sample_taken p a x).memory
  unfolding sample_taken judge_or_limit
  taken_beyond a x good = go (is_open a.progress.end) (ltb a.progress.counted (course_of p).layout.most)
    where
      z : State
      z = closed_with p a x

      closed : Beyond a.memory z.memory
      closed = record { in_ledger = closed_beyond a x good; in_map = refl }

      go : (o v : Bool) → Beyond a.memory (cond o (cond v (judge p z x) (limited z)) (only_offered a)).memory
      go true true = beyond_then closed (judge_beyond z x good)
      go true false = closed
      go false v = untouched

  pub all_beyond : (a : State) (s : ℕ → Moment) (n : ℕ) → Sound p.cycle → Beyond a.memory (samples_taken p a s n).memory
  unfolding fold
  all_beyond a s zero good = untouched
  all_beyond a s (suc n) good = beyond_then (all_beyond a s n good) (taken_beyond (samples_taken p a s n) (s n) good)

-- ---- the calls

-- what was promised, by the number of the refusal
promised_beyond : {n : ℕ} {r : Run} {a c : Memory} {l : List ℤ} {m : List ℕ} {x : Result Run Refusal} → Promised n r a l m x c → (n ≡ 0 → Beyond (lent l m) a) → Beyond (lent l m) c
promised_beyond {n} {a = a} {c} {l} {m} k h = subst⁻¹ (Beyond (lent l m)) k.in_memory (go (eqb n 0) refl)
  where
    go : (t : Bool) → eqb n 0 ≡ t → Beyond (lent l m) (cond t a (lent l m))
    go true e = h (eqb-true n 0 e)
    go false e = untouched

pub start_untouched : (c : StartCall) → Beyond (start_lent c) (start_leaves c)
start_untouched c =
    promised_beyond (start_promised c)
    (λ _. record { in_ledger = drop_cleared (pos 0) ledger_numbers (start_lent c).ledger; in_map = drop_cleared 0 map_words (start_lent c).map })

pub sample_untouched : (c : SampleCall) → Beyond (sample_lent c) (sample_leaves c)
sample_untouched c =
    let (r, (b, (l, (m, (x, _))))) = c.args in
    promised_beyond (sample_promised c) (λ z.
    let k = one_accepted r b.now l.now m.now x z in
    taken_beyond (plan_of r b.now) (state_of r l.now m.now) (moment_of x) (sound b.now (ground_passed k.run_ground).sound))

pub block_untouched : (c : BlockCall) → Beyond (block_lent c) (block_leaves c)
block_untouched c =
    let (r, (b, (l, (m, (first, (q, _)))))) = c.args in
    promised_beyond (block_promised c) (λ z.
    let k = block_accepted r b.now l.now m.now first q.now z in
    all_beyond (plan_of r b.now) (state_of r l.now m.now) (moment_at q.now) (count_in q.now) (sound b.now (ground_passed k.run_ground).sound))
