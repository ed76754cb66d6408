-- "Demand 2 shuts out a judge that ..": the six judges that document 01 names, each of which breaks a contract.
-- Assumes nothing.
use Rattle.rules.specs.declared.Refusal.{Refusal}
use Rattle.std.specs.Prelude.{Result, Ok, Err}
use mathlib.Core.Bool.{Bool, true, false, cond, false≢true}
use mathlib.Core.List.{List, [], ◌++◌}
use mathlib.Core.Path.{◌≡◌, refl, sym, ap, ◌∙◌}
use Prim.Native.Nat.{ℕ, suc, ◌+◌, ◌≤◌, ◌<◌}
use native.Mathlib.Numerals.{add-one}
use native.Mathlib.Omega.{arith}
use borrow.Author.Tests.{le-leb, eq-eqb}
use lib.Dec.{ltb, lit≤, lit<}
use lib.IntN.{ℤ, pos}
use lib.ListN.{length}
use Rattle.rules.specs.Words.{be, fold, gather, first, table, all_below, unless}
use Rattle.numbers.proofs.Tests.{pass, settled_taken}
use Rattle.rules.specs.declared.End.TheVariants.{None as none, Stop as stop, Limit as limit}
use Rattle.rules.specs.declared.Sample.{Sample}
use Rattle.rules.specs.declared.Method.{Method}
use Rattle.rules.specs.declared.Method.TheVariants.{Regular as by_cycles}
use Rattle.rules.specs.declared.Moment.{Moment}
use Rattle.rules.specs.declared.Tolerances.{Tolerances}
use Rattle.rules.specs.Bench.{is_sample, moment_of, no_moment, tolerable, most_speed, most_cycles, most_offered}
use Rattle.rules.specs.Cycle.{valid}
use Rattle.rules.specs.Band.{grid20, inside, side, verdict}
use Rattle.rules.specs.Tally as tally
use Rattle.rules.specs.Course.{outside, judged, closed}
use Rattle.laws.specs.Answers.{gives, refuses, answer_said}
use Rattle.laws.specs.Beside.{stopped, is_block}
use Rattle.rules.specs.Regular.{moment_in}
use Rattle.rules.specs.Plan.{Plan, plan, course_of}
use Rattle.rules.specs.Shown.{ledger_numbers, map_words, figure, shown_row, marked}
use Rattle.ledger.specs.Row.{at, outside_in}
use Rattle.map.specs.Map.{is_set, ones_of}
use Rattle.values.specs.Limits.{is_method}
use Rattle.state.specs.declared.Run.{Run}
use Rattle.state.specs.State.{Memory, lent, run_ground}
use Rattle.state.specs.Refusals.{start_refusal, sample_refusal, not_stretched}
use Rattle.step.specs.Step.{State, out_now, state_of, run_to}
use Rattle.step.proofs.Steps.{taken_offered}
use Rattle.step.proofs.Keeping.{all_offered}
use Rattle.rules.specs.Values.{moment_at, count_in, are_samples}
use Rattle.blocks.specs.Blocks.{block_refusal}
use Rattle.laws.proofs.Answers.{was_given, given_refused, given_is}
use Rattle.laws.proofs.Samples.{block_of}
use Rattle.blocks.proofs.Accepted.{block_accepted}
use Rattle.judge.specs.Answers.{plan_of, after_sample, after_block}
use Rattle.judge.proofs.Promises.{Promised}
use Rattle.judge.proofs.Runs as runs
use Rattle.rules.specs.Question.{question}
use Rattle.demands.specs.Calls.{StartCall, SampleCall, BlockCall, VerdictCall}
use Rattle.demands.specs.ShutOut.{ShutsOut, Asks, WorkedThrough, ShutsOutAlways}
use Rattle.demands.specs.Runs.{StartOn, SampleOn, BlockOn, sample_in, bytes_in, Driven, takes_block}
use Rattle.demands.specs.Rows.{risen, no_time, of_speed, eleven, level, allows_three, four_fast, moments_of}
use Rattle.demands.proofs.Driven.{start_kept, sample_kept, block_kept, driven_reached, sample_promised}
use Rattle.demands.proofs.LastJudged.{outsides_are}
use Rattle.demands.proofs.OfRun.{run_shows}
use Rattle.demands.proofs.SomeRun.{some_run}

-- ---- "a judge that refuses everything"

not_refused : {n : ℕ} {r : Run} {a c : Memory} {l : List ℤ} {m : List ℕ} {x : Result Run Refusal} → Promised n r a l m x c → n ≡ 0 → (k : Refusal) → x ≡ Err k → ⊥
not_refused {n} {r} p z k e =
    given_refused (sym (settled_taken (refuses n) z) ∙ sym p.answer ∙ ap answer_said e)

-- a start on memory that is long enough, with a cycle, tolerances and a method that break no rule
pub start_not_refused : {b : List ℕ} {t : Tolerances} {y : Method} {l : List ℤ} {m : List ℕ} (c : StartCall) → StartOn b t y l m c → ledger_numbers ≤ length l
    → map_words ≤ length m → valid b ≡ true → tolerable t ≡ true → is_method y ≡ true → (k : Refusal) → c.answer ≡ Err k → ⊥
unfolding start_refusal
start_not_refused {b} {t} {y} {l} {m} c on long_ledger long_map good tolerated fits =
    not_refused (start_kept c on)
    (sym (pass 1 (le-leb ledger_numbers (length l) long_ledger) (pass 1 (le-leb map_words (length m) long_map) (pass 2 good (pass 3 tolerated (pass 19 fits refl))))))

-- a sample within its limits, and a block of such, in a whole run that has room for them
module _ {p : Plan} {l₀ : List ℤ} {m₀ : List ℕ} {xs : List Moment} {r : Run} {l : List ℤ} {m : List ℕ} (h : Driven p l₀ m₀ xs r l m) where
  grounded : (others : ℕ) → run_ground r p.cycle l m others ≡ others
  grounded = runs.never_refused p l₀ m₀ (driven_reached p l₀ m₀ h)

  pub sample_not_refused : (c : SampleCall) → SampleOn r p.cycle l m c → is_sample (sample_in c) ≡ true → r.progress.offered < most_offered → (k : Refusal) → c.answer ≡ Err k → ⊥
  unfolding sample_refusal
  sample_not_refused c on ok room =
      not_refused (sample_kept c on)
      (grounded _ ∙ sym (pass 7 (le-leb (r.progress.offered + 1) most_offered (omega arith)) (pass 5 ok refl)))

  pub block_not_refused : (c : BlockCall) → BlockOn r p.cycle l m c → (let q = bytes_in c in
      is_block (length q) ≡ true → c.args.1.1.1.1.0 ≡ r.progress.offered → r.progress.offered + count_in q ≤ most_offered → are_samples q (count_in q) ≡ true
      → (k : Refusal) → c.answer ≡ Err k → ⊥)
  unfolding block_refusal
  block_not_refused c on whole first room ok =
      not_refused (block_kept c on)
      (grounded _ ∙ sym (pass 8 whole (pass 6 (eq-eqb _ _ first) (pass 7 (le-leb _ most_offered room) (pass 5 ok refl)))))

-- ---- "one with a constant verdict"

-- the question of the test card's first row, with a speed, as a call that keeps its promise
asked : ℕ → VerdictCall
asked speed = record {
  κs = ([], tt);
  args = (record { ref_ptr = (0, 0); now = risen }, (30, (0, (0, (10, (speed, tt))))));
  answer = question risen no_time 10 speed;
  lasts = (tt, (tt, (tt, (tt, (tt, (tt, tt))))));
  kept = refl;
}

inside_answer : question risen no_time 10 20 ≡ pos 0
unfolding question be fold all_below unless valid tolerable grid20 verdict side
inside_answer = refl

outside_answer : question risen no_time 10 19 ≡ pos 1
unfolding question be fold all_below unless valid tolerable grid20 verdict side
outside_answer = refl

asks : (speed : ℕ) → speed ≤ most_speed → Asks (asked speed)
unfolding be all_below valid tolerable asked
asks speed h = record { cycle = refl; tolerated = refl; position = lit< tt; speed = h }

-- no number is the answer to every such question
pub no_constant_verdict : (v : ℤ) → ((c : VerdictCall) → Asks c → c.answer ≡ v) → ⊥
unfolding asked
no_constant_verdict v h =
    let e : pos 0 ≡ pos 1 = sym inside_answer ∙ h (asked 20) (asks 20 (lit≤ tt)) ∙ sym (h (asked 19) (asks 19 (lit≤ tt))) ∙ outside_answer in
    let z : ◌≡◌ {A = ℕ} 0 1 = cc in
    omega arith

-- nor is the judge's verdict constant: whether the next sample is outside, of cycles, tolerances and samples that break no rule
pub no_constant_out : (y : Bool)
    → ((p : Plan) (a : State) (x : Sample) → valid p.cycle ≡ true → tolerable p.tolerances ≡ true → is_sample x ≡ true
    → out_now p a (moment_of x) ≡ y)
    → ⊥
unfolding be fold all_below unless valid tolerable is_sample grid20 inside
no_constant_out y h =
    let a : State = record { progress = record { offered = 10; counted = 10; end = none; held = no_moment }; stretched = not_stretched; memory = lent [] [] } in
    false≢true (h (plan risen no_time by_cycles) a (of_speed 20) refl refl refl ∙ sym (h (plan risen no_time by_cycles) a (of_speed 19) refl refl refl))

-- nor is the mark that it leaves: after eleven samples, the last of speed 20 or 19
unmarked : {l₀ : List ℤ} {m₀ : List ℕ} {r : Run} {l : List ℤ} {m : List ℕ} → Driven (plan risen no_time by_cycles) l₀ m₀ (moments_of (eleven 20)) r l m → is_set m 10 ≡ false
unfolding be fold gather first grid20 inside tally.over shown_row marked
unmarked h = (run_shows h).map_shows 10 (lit< tt)

marked_outside : {l₀ : List ℤ} {m₀ : List ℕ} {r : Run} {l : List ℤ} {m : List ℕ} → Driven (plan risen no_time by_cycles) l₀ m₀ (moments_of (eleven 19)) r l m → is_set m 10 ≡ true
unfolding be fold gather first grid20 inside tally.over shown_row marked
marked_outside h = (run_shows h).map_shows 10 (lit< tt)

pub no_constant_mark : (l₀ : List ℤ) (m₀ : List ℕ) → ledger_numbers ≤ length l₀ → map_words ≤ length m₀ → (y : Bool)
    → ((v : ℕ) (r : Run) (l : List ℤ) (m : List ℕ) → Driven (plan risen no_time by_cycles) l₀ m₀ (moments_of (eleven v)) r l m → is_set m 10 ≡ y) → ⊥
unfolding be fold all_below unless valid tolerable is_sample
no_constant_mark l₀ m₀ long_ledger long_map y h =
    let in-speed = some_run (plan risen no_time by_cycles) l₀ m₀ long_ledger long_map refl refl refl (eleven 20) refl (lit≤ tt) in
    let out-speed = some_run (plan risen no_time by_cycles) l₀ m₀ long_ledger long_map refl refl refl (eleven 19) refl (lit≤ tt) in
    false≢true (sym (unmarked in-speed.driven) ∙ h 20 _ _ _ in-speed.driven ∙ sym (h 19 _ _ _ out-speed.driven) ∙ marked_outside out-speed.driven)

-- ---- "one that does nothing"

-- a sample that is taken raises the number offered
module _ (c : SampleCall) {r' : Run} (e : c.answer ≡ Ok r') where
  pub sample_is_offered : r'.progress.offered ≡ suc c.args.0.progress.offered
  sample_is_offered =
      let (r, (b, (l, (m, (x, _))))) = c.args in
      let a = after_sample r b.now l.now m.now x in
      let same = given_is (was_given (sample_refusal r b.now l.now m.now x) (gives (run_to r a.progress a.stretched)) r' (sym (sample_promised c).answer ∙ ap answer_said e)).1 in
      ap (λ (y : Run). y.progress.offered) (sym same) ∙ taken_offered (plan_of r b.now) (state_of r l.now m.now) (moment_of x) ∙ add-one r.progress.offered

  pub sample_does_something : r' ≡ c.args.0 → ⊥
  sample_does_something f = let g = ap (λ (y : Run). y.progress.offered) f in omega (arith, sample_is_offered)

-- ---- "one that works through the first block and lets later ones slide by"

pub every_block_is_worked_through : {r : Run} {b : List ℕ} {l : List ℤ} {m : List ℕ} (c : BlockCall) → BlockOn r b l m c → {r' : Run} → c.answer ≡ Ok r'
    → WorkedThrough r b l m (bytes_in c) r' c.lasts.1.1.0 c.lasts.1.1.1.0
every_block_is_worked_through {r} {b} {l} {m} c on {r'} e =
    let k = block_kept c on in
    let q = bytes_in c in
    let a = after_block r b l m q in
    let (z, given) = was_given _ (gives (run_to r a.progress a.stretched)) r' (sym k.answer ∙ ap answer_said e) in
    let same = given_is given in
    let w = block_accepted r b l m c.args.1.1.1.1.0 q z in
    let size = block_of (length q) w.block in
    record {
      some = omega (arith, size.some, size.whole);
      offered = ap (λ (y : Run). y.progress.offered) (sym same) ∙ all_offered (plan_of r b) (state_of r l m) (moment_at q) (count_in q);
      run = sym same;
      memory = k.in_memory ∙ settled_taken (lent l m) z;
    }

module _ {p : Plan} {l₀ : List ℤ} {m₀ : List ℕ} {xs : List Moment} {r : Run} {l : List ℤ} {m : List ℕ} (h : Driven p l₀ m₀ xs r l m) where
  -- so after a later block the ledger shows its samples behind those before
  pub later_block_shows : (c : BlockCall) → BlockOn r p.cycle l m c → {r' : Run} → c.answer ≡ Ok r'
      → (let ys = xs ++ table (moment_at (bytes_in c)) (count_in (bytes_in c)) in
      (i : ℕ) → i < ledger_numbers → at c.lasts.1.1.0 i ≡ figure (course_of p) (moment_in ys) (length ys) i)
  later_block_shows c on e = (run_shows (takes_block h c on e)).ledger_shows

  -- ---- "and one whose outside count is invented: count and map are both tied to the band"

  -- of the samples judged, those of cycle c that the band has outside: the count in the ledger is no other number, nor are the ones in the map for
  -- the cycle last judged
  abbrev banded : ℕ → ℕ
  banded c = outside (course_of p) (moment_in xs) c (judged (course_of p) (moment_in xs) (length xs))

  pub no_invented_count : (c : ℕ) → c < most_cycles → (n : ℕ) → (n ≡ banded c → ⊥) → outside_in l c ≡ pos n → ⊥
  no_invented_count c g n other e =
      let f : pos n ≡ pos (banded c) = sym e ∙ outsides_are p l₀ m₀ (driven_reached p l₀ m₀ h) c g in
      other cc

  pub no_invented_map : (n : ℕ) → (n ≡ banded (shown_row (course_of p).layout (judged (course_of p) (moment_in xs) (length xs))) → ⊥) → ones_of m ≡ n → ⊥
  no_invented_map n other e = other (sym e ∙ (run_shows h).ones_are_outside)

  -- ---- and one that never stops: "Demand 3 alone would admit a judge that never stops, so it is stated over demand 2's definition."

  pub stops_by_the_rules : stopped (course_of p) (moment_in xs) (length xs) ≡ true → r.progress.end ≡ stop
  stops_by_the_rules e = (run_shows h).state_shows.2 ∙ rw e

  pub stops_only_by_the_rules : r.progress.end ≡ stop → stopped (course_of p) (moment_in xs) (length xs) ≡ true
  stops_only_by_the_rules e =
      let c = course_of p in
      let s = moment_in xs in
      ended (stopped c s (length xs)) (ltb (closed c s (length xs)) c.layout.most) (sym (run_shows h).state_shows.2 ∙ e)
    where
      ended : (x y : Bool) → cond x stop (cond y none limit) ≡ stop → x ≡ true
      ended true y q = refl
      ended false true q = absurd (false≢true cc)
      ended false false q = absurd (false≢true cc)

-- the row of the test card: a run of its four samples that goes on is no run of a judge that keeps its promises
pub no_judge_that_never_stops : {l₀ : List ℤ} {m₀ : List ℕ} {r : Run} {l : List ℤ} {m : List ℕ} → Driven (plan level allows_three by_cycles) l₀ m₀ (moments_of four_fast) r l m → (r.progress.end ≡ stop → ⊥) → ⊥
unfolding be fold gather first grid20 inside tally.over
no_judge_that_never_stops h go_on = go_on (stops_by_the_rules h refl)

-- ---- together

pub shuts_out : {p : Plan} {l₀ : List ℤ} {m₀ : List ℕ} {xs : List Moment} {r : Run} {l : List ℤ} {m : List ℕ} → Driven p l₀ m₀ xs r l m → ShutsOut p xs r l m
shuts_out h = record {
  sample_not_refused = sample_not_refused h;
  block_not_refused = block_not_refused h;
  later_block_shows = later_block_shows h;
  no_invented_count = no_invented_count h;
  no_invented_map = no_invented_map h;
  stops_by_the_rules = stops_by_the_rules h;
  stops_only_by_the_rules = stops_only_by_the_rules h;
}

pub shuts_out_always : ShutsOutAlways
shuts_out_always = record {
  start_not_refused = start_not_refused;
  no_constant_verdict = no_constant_verdict;
  no_constant_mark = no_constant_mark;
  sample_is_offered = λ c e. sample_is_offered c e;
  every_block_is_worked_through = every_block_is_worked_through;
  no_judge_that_never_stops = no_judge_that_never_stops;
}
