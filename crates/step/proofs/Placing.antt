-- Where a run stands after a sample that counts, put together from its parts.
-- Assumes nothing.
use mathlib.Core.List.{List}
use mathlib.Core.Path.{◌≡◌, sym, ap, ap₂, ◌∙◌}
use Prim.Native.Nat.{ℕ, ◌+◌, ◌*◌, ◌<◌, min}
use native.Mathlib.Omega.{arith}
use Rattle.rules.specs.declared.Moment.{Moment}
use Rattle.rules.specs.declared.Method.{Method}
use Rattle.rules.specs.Bench.{most_cycles}
use Rattle.rules.specs.Cycle.{positions, phase_end, phase_at}
use Rattle.rules.specs.Regular.{cycle_of, position_of}
use Rattle.rules.specs.Shortened.{Stand, ride, row_of, phase_of}
use Rattle.rules.specs.Plan.{layout_of}
use Rattle.laws.specs.Beside.{stand_of, place_of}
use Rattle.laws.proofs.Sound.{Sound, phase_first}
use Rattle.window.specs.declared.Window.{Window}
use Rattle.window.specs.Moving.{window_of}
use Rattle.state.specs.declared.Progress.{Progress}
use Rattle.step.specs.Step.{counted_one}
use Rattle.step.specs.Where.{Going, Next, until_at, standing, next_at, next_of, moved_on, resumed_on}
use Rattle.step.proofs.Standing.{place_phase, same_cycle, next_position, Riding, open_next_row, open_next_phase, position_is, row_is, phase_is, until_is, row_in, phase_in}
use Rattle.step.proofs.Standing.{window_is, position_small, rides, near_positions, same_phase, same_until}

-- where the sample behind a counted one stands, within its cycle
module _ (b : List ℕ) (o : Sound b) (y : Method) (n : ℕ) (r : Riding b y n) (h : position_of b r.place + 1 < positions b) where
  pub next_within : (c p k : ℕ) → c ≡ cycle_of b r.place → p ≡ position_of b r.place → k ≡ phase_at b (p + 1)
      → ◌≡◌ {A = Next} (record { row = c; position = p + 1; phase = k }) (next_of b y (n + 1))
  next_within c p k hc hp hk =
      let there = ap (λ (i : ℕ). i + 1) hp ∙ next_position b o r.place h in
      (λ i. record { row = (hc ∙ same_cycle b o r.place h) i; position = there i; phase = (hk ∙ ap (phase_at b) there) i })
      ∙ ap (next_at b) (sym (r.next h))

-- phase and window worked out anew
module _ (b : List ℕ) (o : Sound b) (w : ℕ) (v : Window) (u : ℕ) where
  pub until_made : (x : Stand) → v ≡ window_of b w (place_of b x) → (k : ℕ) → k ≡ phase_of b x → u ≡ min v.until (20 * phase_end b k) → u ≡ until_at b w (place_of b x)
  until_made x hv k hk hu = hu ∙ ap₂ (λ (z : Window) (j : ℕ). min z.until (20 * phase_end b j)) hv (hk ∙ place_phase b o x)

  pub turned_is : (y : Method) (p : Progress) (m : Moment) (x : Next) → x ≡ next_of b y (p.counted + 1) → v ≡ window_of b w x.position
      → u ≡ min v.until (20 * phase_end b x.phase) → (r k : ℕ) → r ≡ (layout_of b y).row p.counted → k ≡ (layout_of b y).phase p.counted
      → ◌≡◌ {A = Going}
      (record { progress = counted_one p m; row = x.row; phase = x.phase; window = v; open_row = r; open_phase = k; position = x.position; until = u })
      (standing b w y (counted_one p m))
  turned_is y p m x hx hv hu r k hr hk =
      let there = hv ∙ ap (λ (z : Next). window_of b w z.position) hx in
      λ i. record {
        progress = counted_one p m;
        row = (hx i).row;
        phase = (hx i).phase;
        window = there i;
        open_row = (hr ∙ sym (open_next_row (layout_of b y) p.counted)) i;
        open_phase = (hk ∙ sym (open_next_phase (layout_of b y) p.counted)) i;
        position = (hx i).position;
        until = until_made (stand_of b y (p.counted + 1)) there x.phase (ap (λ (z : Next). z.phase) hx) hu i;
      }

module _ (b : List ℕ) (o : Sound b) (w : ℕ) (y : Method) (g : Going) (stands : g ≡ standing b w y g.progress) where
  abbrev n : ℕ
  n = g.progress.counted

  -- the next sample stands where this one does, in a stretch
  pub stays_is : (m : Moment) → stand_of b y (n + 1) ≡ stand_of b y n → moved_on g m ≡ standing b w y (counted_one g.progress m)
  stays_is m e = λ i. record {
    progress = counted_one g.progress m;
    row = (row_is b o w y g stands ∙ ap (row_of b) (sym e)) i;
    phase = (phase_is b o w y g stands ∙ ap (phase_of b) (sym e)) i;
    window = (window_is b o w y g stands ∙ ap (λ (x : Stand). window_of b w (place_of b x)) (sym e)) i;
    open_row = (row_in b o w y g stands ∙ sym (open_next_row (layout_of b y) n)) i;
    open_phase = (phase_in b o w y g stands ∙ sym (open_next_phase (layout_of b y) n)) i;
    position = (position_is b o w y g stands ∙ ap (place_of b) (sym e)) i;
    until = (until_is b o w y g stands ∙ ap (λ (x : Stand). until_at b w (place_of b x)) (sym e)) i;
  }

  -- it is the first of cycle 3
  pub resumes_is : (m : Moment) (i : ℕ) → stand_of b y (n + 1) ≡ ride i → 2 ≡ cycle_of b i → 0 ≡ position_of b i
      → resumed_on b w g m ≡ standing b w y (counted_one g.progress m)
  resumes_is m i e hc hp = λ k. record {
    progress = counted_one g.progress m;
    row = (hc ∙ ap (row_of b) (sym e)) k;
    phase = (sym (phase_first b o) ∙ ap (phase_at b) hp ∙ ap (phase_of b) (sym e)) k;
    window = (ap (window_of b w) hp ∙ ap (λ (x : Stand). window_of b w (place_of b x)) (sym e)) k;
    open_row = (row_in b o w y g stands ∙ sym (open_next_row (layout_of b y) n)) k;
    open_phase = (phase_in b o w y g stands ∙ sym (open_next_phase (layout_of b y) n)) k;
    position = (hp ∙ ap (place_of b) (sym e)) k;
    until = (ap (until_at b w) hp ∙ ap (λ (x : Stand). until_at b w (place_of b x)) (sym e)) k;
  }

  -- while only the ends of the window move
  module _ (in_cycle_lem : g.row < most_cycles) (h : g.position + 1 < g.until) where
    abbrev r : Riding b y g.progress.counted
    r = rides b o w y g stands in_cycle_lem

    abbrev p : ℕ
    p = position_of b r.place

    position_now_lem : g.position ≡ p
    position_now_lem = position_is b o w y g stands ∙ ap (place_of b) r.is

    small : p < positions b
    small = omega (arith, position_now_lem, position_small b o w y g stands)

    until_now : g.until ≡ until_at b w p
    until_now = until_is b o w y g stands ∙ ap (λ (x : Stand). until_at b w (place_of b x)) r.is

    near : p + 1 < until_at b w p
    near = omega (arith, position_now_lem, until_now)

    pub goes_on : g.position + 1 < positions b
    goes_on = omega (arith, position_now_lem, near_positions b o w p small near)

    pub moved_is : (m : Moment) (x : Window) → x ≡ window_of b w (g.position + 1)
        → ◌≡◌ {A = Going}
        (record { progress = counted_one g.progress m; row = g.row; phase = g.phase; window = x; open_row = g.row; open_phase = g.phase; position = g.position + 1; until = g.until })
        (standing b w y (counted_one g.progress m))
    moved_is m x e =
        let inner = near_positions b o w p small near in
        let next = next_position b o r.place inner in
        let there = ap (λ (i : ℕ). i + 1) position_now_lem ∙ next in
        let to = sym (r.next inner) in
        λ i. record {
          progress = counted_one g.progress m;
          row = (row_is b o w y g stands ∙ ap (row_of b) r.is ∙ same_cycle b o r.place inner ∙ ap (row_of b) to) i;
          phase = (phase_is b o w y g stands ∙ ap (phase_of b) r.is ∙ same_phase b o w p small near ∙ ap (phase_at b) next ∙ ap (phase_of b) to) i;
          window = (e ∙ ap (window_of b w) there ∙ ap (λ (z : Stand). window_of b w (place_of b z)) to) i;
          open_row = (row_in b o w y g stands ∙ sym (open_next_row (layout_of b y) n)) i;
          open_phase = (phase_in b o w y g stands ∙ sym (open_next_phase (layout_of b y) n)) i;
          position = (there ∙ ap (place_of b) to) i;
          until = (until_now ∙ same_until b o w p small near ∙ ap (until_at b w) next ∙ ap (λ (z : Stand). until_at b w (place_of b z)) to) i;
        }
