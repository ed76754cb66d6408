-- What the tests before an operation say, as facts that `omega` reads; and the tests that pass, from such facts.
-- Assumes nothing.
use mathlib.Core.Bool.{Bool, true, false, cond, false≢true}
use mathlib.Core.List.{List}
use mathlib.Core.Path.{◌≡◌, refl, sym, ap}
use Prim.Native.Nat.{ℕ, ◌-◌, ◌≤◌, ◌<◌}
use native.Mathlib.Omega.{arith}
use borrow.Author.Tests.{leb-true, ltb-true, eqb-true, le-leb, eq-eqb}
use lib.Dec.{leb, ltb, eqb}
use lib.IntN.{ℤ, pos}
use lib.ListN.{length}
use Rattle.rules.specs.Words.{unless}
use Rattle.numbers.proofs.Tests.{not_refused, both, pass}
use Rattle.numbers.proofs.Whole.{eq_z_true}
use Rattle.rules.specs.declared.Moment.{Moment}
use Rattle.rules.specs.declared.Tolerances.{Tolerances}
use Rattle.rules.specs.declared.End.{End}
use Rattle.rules.specs.declared.End.TheVariants.{None as none, Stop as stop, Limit as limit}
use Rattle.rules.specs.declared.Method.{Method}
use Rattle.laws.specs.Beside.{is_moment, is_open}
use Rattle.rules.specs.Bench.{tolerable, most_seconds, most_offered}
use Rattle.rules.specs.Cycle.{seconds, valid}
use Rattle.laws.proofs.Band.{Tolerated, tolerated}
use Rattle.rules.specs.Shown.{ledger_numbers, map_words}
use Rattle.values.specs.Limits.{is_method}
use Rattle.ledger.specs.Row.{bounded}
use Rattle.state.specs.State.{Ends, Run, ends_of, same_ends, most_of, is_progress, is_nothing, is_held, is_stretched, are_ends, is_run, is_lent, is_starts, run_ground}
use Rattle.state.specs.Refusals.{judged_by, start_refusal}

-- ---- what an end says of the samples offered and counted

pub open_progress : (e : End) (most o c : ℕ) → is_progress e most o c ≡ true → is_open e ≡ true → (c ≡ o) × (c ≤ most)
unfolding is_progress
open_progress none most o c h g = let (p, q) = both (eqb c o) (leb c most) h in (eqb-true c o p, leb-true c most q)
open_progress stop most o c h g = absurd (false≢true g)
open_progress limit most o c h g = absurd (false≢true g)

pub stop_progress : (most o c : ℕ) → is_progress stop most o c ≡ true → (c < o) × (c < most)
unfolding is_progress
stop_progress most o c h = let (p, q) = both (ltb c o) (ltb c most) h in (ltb-true c o p, ltb-true c most q)

pub limit_progress : (most o c : ℕ) → is_progress limit most o c ≡ true → (c ≡ most) × (most < o)
unfolding is_progress
limit_progress most o c h = let (p, q) = both (eqb c most) (ltb most o) h in (eqb-true c most p, ltb-true most o q)

pub progress_most : (e : End) (most o c : ℕ) → is_progress e most o c ≡ true → (c ≤ o) × (c ≤ most)
progress_most none most o c h = let (p, q) = open_progress none most o c h refl in (omega arith, omega arith)
progress_most stop most o c h = let (p, q) = stop_progress most o c h in (omega arith, omega arith)
progress_most limit most o c h = let (p, q) = limit_progress most o c h in (omega arith, omega arith)

-- the sample last judged is one of those that can count
pub judged_most : (e : End) (most o c : ℕ) → is_progress e most o c ≡ true → 0 < most → judged_by e c - 1 < most
judged_most none most o c h g = omega (arith, (progress_most none most o c h).1)
judged_most stop most o c h g = omega (arith, (stop_progress most o c h).1)
judged_most limit most o c h g = omega (arith, (progress_most limit most o c h).1)

-- ---- what is held of the open interval

nothing_moment : (x : Moment) → is_nothing x ≡ true → is_moment x ≡ true
unfolding is_moment
nothing_moment x e =
    let (v, z) = both (eqb x.speed 0) _ e in
    rw (eqb-true x.speed 0 v, eq_z_true x.energy (pos 0) z)

pub held_moment : (e : End) (c : ℕ) (x : Moment) → is_held e c x ≡ true → is_moment x ≡ true
unfolding is_held
held_moment none c x h = go (eqb c 0) h
  where
    go : (b : Bool) → cond b (is_nothing x) (is_moment x) ≡ true → is_moment x ≡ true
    go true t = nothing_moment x t
    go false t = t
held_moment stop c x h = nothing_moment x h
held_moment limit c x h = nothing_moment x h

-- ---- the state

pub record Limits (r : Run) : Type 0 where
  pub long : 2 ≤ r.track.seconds
  pub short : r.track.seconds ≤ most_seconds
  pub first : r.track.ends.first ≤ most_seconds
  pub second : r.track.ends.second ≤ most_seconds
  pub third : r.track.ends.third ≤ most_seconds
  pub fourth : r.track.ends.fourth ≤ most_seconds
  pub tolerated : Tolerated r.track.tolerances
  pub method : is_method r.track.method ≡ true
  pub offered : r.progress.offered ≤ most_offered
  pub held : is_held r.progress.end r.progress.counted r.progress.held ≡ true
  pub stretched : is_stretched r ≡ true
  pub progress : is_progress r.progress.end (most_of r) r.progress.offered r.progress.counted ≡ true

pub limits : (r : Run) → is_run r ≡ true → Limits r
unfolding is_run are_ends
limits r e =
    let e₈ = both _ _ e in
    let e₇ = both _ _ e₈.0 in
    let e₆ = both _ _ e₇.0 in
    let e₅ = both _ _ e₆.0 in
    let e₄ = both _ _ e₅.0 in
    let e₃ = both _ _ e₄.0 in
    let e₂ = both _ _ e₃.0 in
    let e₁ = both _ _ e₂.0 in
    let d₃ = both _ _ e₂.1 in
    let d₂ = both _ _ d₃.0 in
    let d₁ = both _ _ d₂.0 in
    record {
      long = leb-true _ _ e₁.0;
      short = leb-true _ _ e₁.1;
      first = leb-true _ _ d₁.0;
      second = leb-true _ _ d₁.1;
      third = leb-true _ _ d₂.1;
      fourth = leb-true _ _ d₃.1;
      tolerated = tolerated r.track.tolerances e₃.1;
      method = e₄.1;
      offered = leb-true _ _ e₅.1;
      held = e₆.1;
      stretched = e₇.1;
      progress = e₈.1;
    }

pub tolerable_by : (t : Tolerances) → Tolerated t → tolerable t ≡ true
unfolding tolerable
tolerable_by t h = rw (le-leb _ _ h.speed, le-leb _ _ h.time, le-leb _ _ h.allowance)

pub run_by : {r : Run} → Limits r → is_run r ≡ true
unfolding is_run are_ends
run_by {r} h =
    rw (
      le-leb _ _ h.long,
      le-leb _ _ h.short,
      le-leb _ _ h.first,
      le-leb _ _ h.second,
      le-leb _ _ h.third,
      le-leb _ _ h.fourth,
      tolerable_by r.track.tolerances h.tolerated,
      h.method,
      le-leb _ _ h.offered,
      h.held,
      h.stretched,
      h.progress,
    )

-- ---- a start

pub record Startable (b : List ℕ) (t : Tolerances) (y : Method) (l : List ℤ) (m : List ℕ) : Type 0 where
  pub long_ledger : ledger_numbers ≤ length l
  pub long_map : map_words ≤ length m
  pub sound : valid b ≡ true
  pub tolerated : Tolerated t
  pub method : is_method y ≡ true

pub start_passed : (b : List ℕ) (t : Tolerances) (y : Method) (l : List ℤ) (m : List ℕ) → start_refusal b t y l m ≡ 0 → Startable b t y l m
unfolding start_refusal
start_passed b t y l m e =
    let (p₁, e₁) = not_refused 0 _ _ e in
    let (p₂, e₂) = not_refused 0 _ _ e₁ in
    let (p₃, e₃) = not_refused 1 _ _ e₂ in
    let (p₄, e₄) = not_refused 2 _ _ e₃ in
    let (p₅, e₅) = not_refused 18 _ _ e₄ in
    record { long_ledger = leb-true _ _ p₁; long_map = leb-true _ _ p₂; sound = p₃; tolerated = tolerated t p₄; method = p₅ }

-- ---- the phase ends

pub ends_are : (d e : Ends) → same_ends d e ≡ true → d ≡ e
unfolding same_ends
ends_are d e h =
    let e₃ = both _ _ h in
    let e₂ = both _ _ e₃.0 in
    let e₁ = both _ _ e₂.0 in
    λ i. record {
      first = eqb-true d.first e.first e₁.0 i;
      second = eqb-true d.second e.second e₁.1 i;
      third = eqb-true d.third e.third e₂.1 i;
      fourth = eqb-true d.fourth e.fourth e₃.1 i;
    }

pub same_by : (d e : Ends) → d ≡ e → same_ends d e ≡ true
unfolding same_ends
same_by d e h =
    rw (
      eq-eqb _ _ (ap (λ (x : Ends). x.first) h),
      eq-eqb _ _ (ap (λ (x : Ends). x.second) h),
      eq-eqb _ _ (ap (λ (x : Ends). x.third) h),
      eq-eqb _ _ (ap (λ (x : Ends). x.fourth) h),
    )

-- ---- the tests that come before all others in a started run

pub record Ground (r : Run) (b : List ℕ) (l : List ℤ) (m : List ℕ) : Type 0 where
  pub bounded : bounded l ≡ true
  pub long : map_words ≤ length m
  pub limits : Limits r
  pub is_run_lem : is_run r ≡ true
  pub sound : valid b ≡ true
  pub same_seconds : seconds b ≡ r.track.seconds
  pub same_ends_lem : ends_of b ≡ r.track.ends

pub starts_by : (r : Run) (b : List ℕ) → valid b ≡ true → seconds b ≡ r.track.seconds → ends_of b ≡ r.track.ends → is_starts r b ≡ true
unfolding is_starts
starts_by r b v s e = rw (v, eq-eqb _ _ s, same_by _ _ e)

pub ground_passed : {r : Run} {b : List ℕ} {l : List ℤ} {m : List ℕ} → run_ground r b l m 0 ≡ 0 → Ground r b l m
unfolding run_ground is_lent is_starts
ground_passed {r} e =
    let (x, e') = not_refused 0 _ _ e in
    let y₂ = both _ _ (not_refused 1 _ _ e').0 in
    let y₁ = both _ _ y₂.0 in
    let x₂ = both _ _ x in
    let x₁ = both _ _ x₂.0 in
    record {
      bounded = x₁.0;
      long = leb-true _ _ x₁.1;
      limits = limits r x₂.1;
      is_run_lem = x₂.1;
      sound = y₁.0;
      same_seconds = eqb-true _ _ y₁.1;
      same_ends_lem = ends_are _ _ y₂.1;
    }

-- whatever is asked after those tests: its answer, or the same refusal
module _ (r : Run) (b : List ℕ) (l : List ℤ) (m : List ℕ) where
  pub ground_by : bounded l ≡ true → map_words ≤ length m → is_run r ≡ true → is_starts r b ≡ true → (others : ℕ) → run_ground r b l m others ≡ others
  unfolding run_ground is_lent unless
  ground_by h g i s others = rw (h, le-leb _ _ g, i, s)

  module _ (others : ℕ) where
    -- nothing is refused, before or after
    pub ground_zero : run_ground r b l m others ≡ 0 → (run_ground r b l m 0 ≡ 0) × (others ≡ 0)
    unfolding run_ground
    ground_zero e =
        let (x, e₁) = not_refused 0 _ _ e in
        let (y, e₂) = not_refused 1 _ _ e₁ in
        (sym (pass 1 x (pass 2 y refl)), e₂)

    pub ground_on : run_ground r b l m 0 ≡ 0 → run_ground r b l m others ≡ others
    unfolding run_ground
    ground_on e =
        let (x, e₁) = not_refused 0 _ _ e in
        let (y, e₂) = not_refused 1 _ _ e₁ in
        sym (pass 1 x (pass 2 y refl))

    pub ground_off : (run_ground r b l m 0 ≡ 0 → ⊥) → run_ground r b l m others ≡ run_ground r b l m 0
    unfolding run_ground unless
    ground_off = go (is_lent r l m) (is_starts r b)
      where
        go : (x y : Bool) → (◌≡◌ {A = ℕ} (unless 1 x (unless 2 y 0)) 0 → ⊥) → unless 1 x (unless 2 y others) ≡ unless 1 x (unless 2 y 0)
        go true true h = absurd (h refl)
        go true false h = refl
        go false y h = refl
