-- Demand 3: "Wider tolerances never stop earlier. Samples added at the end move no stop given and change no phase or cycle finished. What the narrower run
-- finished, the wider finished too, with equal energies and distances and no higher outside count."
-- Stated here over runs of any samples, over whole runs of calls that keep the contracts, and over records; proved in proofs/ (`demand_3`).
-- Assumes nothing.
use Rattle.std.specs.Prelude.{true, false, List, [], ◌++◌, ◌≡◌, ℕ, ◌+◌, ◌*◌, ◌≤◌, ◌<◌, T, ℤ, length}
use Rattle.std.specs.Int.Signed.{le_z}
use Rattle.rules.specs.declared.End.TheVariants.{Stop as stop}
use Rattle.rules.specs.declared.Method.{Method}
use Rattle.rules.specs.declared.Moment.{Moment}
use Rattle.rules.specs.declared.Tolerances.{Tolerances}
use Rattle.rules.specs.Bench.{tolerable, most_cycles}
use Rattle.rules.specs.Cycle.{valid}
use Rattle.rules.specs.Course.{Course, outside, counted, judged, closed, row_m, row_e}
use Rattle.rules.specs.Parts.{Part, row_part, phase_part, finished}
use Rattle.rules.specs.Regular.{interval}
use Rattle.rules.specs.Plan.{Plan, plan, layout_of, course_of}
use Rattle.rules.specs.Table.{behind_tolerances, behind_before, behind_block}
use Rattle.rules.specs.Values.{tolerances_in}
use Rattle.rules.specs.Record.{Told, told, sheet_of}
use Rattle.rules.specs.Records.{me, four, sample, block, charge}
use Rattle.rules.specs.Figures.{figures_told}
use Rattle.rules.specs.Text.{printed}
use Rattle.laws.specs.Beside.{is_open, stopped}
use Rattle.laws.specs.Claims.{Widened, PartKept}
use Rattle.ledger.specs.Row.{at, energy_in, distance_in, outside_in}
use Rattle.state.specs.declared.Run.{Run}
use Rattle.state.specs.State.{closed_by}
use Rattle.values.specs.Limits.{are_amounts}
use Rattle.figures.specs.Compared.{NoEarlier}
use Rattle.demands.specs.Calls.{ClosingCall}
use Rattle.demands.specs.Runs.{Driven, ClosingOn, closing_amounts}
use Rattle.demands.specs.Compared.{with_four, FirstThree, HasFour, with_tolerances, retold, with_samples, not_before, Grown, moments_told, closed_told}
use Rattle.demands.specs.Compared.{outside_told, NoMoreOutside}

-- ---- over runs: of any samples s, n are offered

module _ (b : List ℕ) (y : Method) (t t' : Tolerances) (s : ℕ → Moment) (n : ℕ) where
  abbrev c : Course
  c = course_of (plan b t y)

  abbrev c' : Course
  c' = course_of (plan b t' y)

  -- by tolerances of which each is kept or widened
  pub record WiderRun : Type 0 where
    -- "Wider tolerances never stop earlier."
    pub wider_never_stops_earlier : (counted c s n ≤ counted c' s n) × (T (stopped c' s n) → T (stopped c s n))
    -- every interval that the narrower run closed: its stopping sample was offered to both
    pub wider_closes_no_less : closed c s n ≤ closed c' s n
    -- "What the narrower run finished, the wider finished too, with equal energies and distances and no higher outside count."
    -- Row 64 is stretch M (document 02, L5); row 65 is stretch E, see `e_never_finished`
    pub wider_finishes_phases : (i k : ℕ) → T (finished (phase_part (layout_of b y) i k) (closed c s n))
        → PartKept interval (phase_part (layout_of b y) i k) s s (closed c s n) (closed c' s n)
    pub wider_finishes_cycles : (i : ℕ) → T (finished (row_part (layout_of b y) i) (closed c s n))
        → PartKept interval (row_part (layout_of b y) i) s s (closed c s n) (closed c' s n)
        × (outside c' s i (judged c' s n) ≤ outside c s i (judged c s n))

-- n samples of s, and n' of s' that begin with them
module _ (b : List ℕ) (y : Method) (t : Tolerances) (s s' : ℕ → Moment) (n n' : ℕ) where
  abbrev course : Course
  course = course_of (plan b t y)

  pub record LongerRun : Type 0 where
    -- "Samples added at the end move no stop given"
    pub longer_moves_no_stop : T (stopped course s n) → T (stopped course s' n') × (counted course s' n' ≡ counted course s n)
    pub longer_closes_no_less : closed course s n ≤ closed course s' n'
    -- "and change no phase or cycle finished."
    pub finished_phase_stays : (c k : ℕ) → T (finished (phase_part (layout_of b y) c k) (closed course s n))
        → PartKept interval (phase_part (layout_of b y) c k) s s' (closed course s n) (closed course s' n')
    pub finished_stays : valid b ≡ true → (c : ℕ) → T (finished (row_part (layout_of b y) c) (closed course s n))
        → PartKept interval (row_part (layout_of b y) c) s s' (closed course s n) (closed course s' n')
        × (outside course s' c (judged course s' n') ≡ outside course s c (judged course s n))

-- ---- over whole runs of calls that keep the contracts, in their state and ledger: the run r with the ledger l, and the run r' with l'

module _ (b : List ℕ) (y : Method) (r r' : Run) (l l' : List ℤ) where
  -- where the first finished a phase or a cycle, the second has it with the same energy and distance in its ledger
  pub record PhaseStays (c k : ℕ) : Type 0 where
    pub finished_too : T (finished (phase_part (layout_of b y) c k) (closed_by r'.progress))
    pub energy : at l' (9 * c + k) ≡ at l (9 * c + k)
    pub distance : at l' (9 * c + (4 + k)) ≡ at l (9 * c + (4 + k))

  pub record CycleStays (c : ℕ) : Type 0 where
    pub finished_too : T (finished (row_part (layout_of b y) c) (closed_by r'.progress))
    pub energy : energy_in l' c ≡ energy_in l c
    pub distance : distance_in l' c ≡ distance_in l c

  -- and stretch M, in the state
  pub record StretchStays : Type 0 where
    pub finished_too : T (finished (row_part (layout_of b y) row_m) (closed_by r'.progress))
    pub stretch : r'.stretched.in_m ≡ r.stretched.in_m

  -- the second by tolerances of which each is kept or widened
  pub record WiderCalls : Type 0 where
    -- "Wider tolerances never stop earlier."
    pub wider_run_never_stops_earlier : (r.progress.counted ≤ r'.progress.counted) × (r'.progress.end ≡ stop → r.progress.end ≡ stop)
    pub wider_run_closes_no_less : closed_by r.progress ≤ closed_by r'.progress
    -- "What the narrower run finished, the wider finished too, with equal energies and distances and no higher outside count."
    pub wider_run_finishes_phases : (c k : ℕ) → c < most_cycles → T (finished (phase_part (layout_of b y) c k) (closed_by r.progress)) → PhaseStays c k
    pub wider_run_finishes_cycles : (c : ℕ) → c < most_cycles → T (finished (row_part (layout_of b y) c) (closed_by r.progress))
        → CycleStays c × (le_z (outside_in l' c) (outside_in l c) ≡ true)
    pub wider_run_finishes_M : T (finished (row_part (layout_of b y) row_m) (closed_by r.progress)) → StretchStays

  -- the second with samples added at the end; m and m' are the maps
  pub record LongerCalls (m m' : List ℕ) : Type 0 where
    -- "Samples added at the end move no stop given"
    pub longer_run_moves_no_stop : r.progress.end ≡ stop → (r'.progress.end ≡ stop) × (r'.progress.counted ≡ r.progress.counted)
    pub longer_run_closes_no_less : closed_by r.progress ≤ closed_by r'.progress
    -- "and change no phase or cycle finished."
    pub finished_phases_stay : (c k : ℕ) → c < most_cycles → T (finished (phase_part (layout_of b y) c k) (closed_by r.progress)) → PhaseStays c k
    pub finished_cycles_stay : (c : ℕ) → c < most_cycles → T (finished (row_part (layout_of b y) c) (closed_by r.progress))
        → CycleStays c × (outside_in l' c ≡ outside_in l c)
    pub finished_M_stays : T (finished (row_part (layout_of b y) row_m) (closed_by r.progress)) → StretchStays
    -- "Later accepted samples raise only the number offered.": of a run that has ended, the closing stays
    pub closing_stays : is_open r.progress.end ≡ false → (c c' : ClosingCall) → ClosingOn r b l m c → ClosingOn r' b l' m' c'
        → are_amounts (closing_amounts c) ≡ true → closing_amounts c' ≡ closing_amounts c → c'.answer ≡ c.answer

-- ---- over records: wider tolerances

-- records that differ only in field 4
module _ (p q v v' : List ℕ) where
  -- both are refused alike, or tell the same but for the tolerances
  abbrev pub FieldFourAlone : Type 0
  FieldFourAlone =
      tolerable (tolerances_in v) ≡ true → tolerable (tolerances_in v') ≡ true
      → sheet_of (with_four p q v') ≡ retold (tolerances_in v') (sheet_of (with_four p q v))

  -- the first tells x, and the second has tolerances of which each is kept or widened
  pub record WiderRecord (x : Told) : Type 0 where
    pub wider_told : sheet_of (with_four p q v') ≡ told (with_tolerances x (tolerances_in v'))
    -- the figures printed: "Wider tolerances never stop earlier. .. What the narrower run finished, the wider finished too, with equal energies and distances
    -- and no higher outside count."
    pub wider_sheet : (let h = x.holding in
        NoEarlier h.vehicle x.passed h.amounts h.cycle h.method h.tolerances (tolerances_in v') h.samples)
    -- and where the narrower run did not stop, the sheets are the same but for `outside`, which is no higher
    pub wider_prints : ((figures_told x).end ≡ stop → ⊥) → NoMoreOutside (printed (sheet_of (with_four p q v))) (printed (sheet_of (with_four p q v')))

-- ---- over records: samples added at the end

-- a part that the run of x finished is finished in that of x', with the same energy and distance
abbrev pub Stays : Told → Told → Part → Type 0
Stays x x' part = T (finished part (closed_told x)) → PartKept interval part (moments_told x) (moments_told x') (closed_told x) (closed_told x')

-- "Samples added at the end move no stop given and change no phase or cycle finished."
pub record Unmoved (x x' : Told) : Type 0 where
  pub stop_stays : (figures_told x).end ≡ stop → ((figures_told x').end ≡ stop) × ((figures_told x').counted ≡ (figures_told x).counted)
  pub counted_no_less : (figures_told x).counted ≤ (figures_told x').counted
  pub cycles_no_less : (figures_told x).cycles ≤ (figures_told x').cycles
  pub phases_stay : (c k : ℕ) → Stays x x' (phase_part (layout_of x.holding.cycle x.holding.method) c k)
  pub cycles_stay : (c : ℕ) → Stays x x' (row_part (layout_of x.holding.cycle x.holding.method) c)
  pub outside_stays : (c : ℕ) → T (finished (row_part (layout_of x.holding.cycle x.holding.method) c) (closed_told x))
      → outside_told x' c ≡ outside_told x c

-- "Later accepted samples raise only the number offered.": where the run of x has ended, no figure changes, nor a byte of what is printed
pub record EndedStays (x x' : Told) : Type 0 where
  pub ended_told : figures_told x' ≡ figures_told x
  pub ended_prints : (i i' : List ℕ) → sheet_of i ≡ told x → sheet_of i' ≡ told x' → printed (sheet_of i') ≡ printed (sheet_of i)

-- a is a record up to its blocks (a 6 before or a block stands in it), more are own blocks added there, and z are the fields that stood behind: 6 after, 7,
-- blocks passed over
pub record BlocksBetween (a more z : List ℕ) (s y x : Told) : Type 0 where
  pub first : sheet_of a ≡ told s
  pub behind : behind_before ≤ s.place
  pub added : sheet_of (a ++ more) ≡ told y
  pub blocks : y.place ≡ behind_block
  pub own : y.passed ≡ s.passed
  pub rest : sheet_of (a ++ z) ≡ told x
  pub none : x.holding.samples ≡ s.holding.samples

-- there are such: a record of one sample, one more, and a field 7
pub record SomeBetween : Type 0 where
  pub first : Told
  pub added : Told
  pub rest : Told
  pub between : BlocksBetween (four ++ block me 0 sample) (block me 1 sample) (charge 15) first added rest

-- from bytes to bytes
module _ (a more z : List ℕ) (y x : Told) where
  -- what the longer record tells: the samples of y, and all else as x, behind a block
  abbrev pub longer_told : Told
  longer_told = not_before behind_block (with_samples x y.holding.samples)

  pub record BlocksAddedStay : Type 0 where
    pub blocks_added : sheet_of (a ++ (more ++ z)) ≡ told longer_told
    pub blocks_added_stay : Unmoved x longer_told
    -- where the run had ended, not a byte that is printed changes
    pub blocks_added_print : is_open (figures_told x).end ≡ false → printed (sheet_of (a ++ (more ++ z))) ≡ printed (sheet_of (a ++ z))

-- ---- together

pub record Demand3 : Type 0 where
  pub wider_runs : (b : List ℕ) (y : Method) (t t' : Tolerances) (s : ℕ → Moment) (n : ℕ) → valid b ≡ true → Widened t t'
      → WiderRun b y t t' s n
  pub longer_runs : (b : List ℕ) (y : Method) (t : Tolerances) (s s' : ℕ → Moment) (n n' : ℕ) → n ≤ n'
      → ((j : ℕ) → j < n → s' j ≡ s j) → LongerRun b y t s s' n n'
  -- document 02, L5: "E never as a finished one"
  pub e_never_finished : (p : Plan) (s : ℕ → Moment) (n : ℕ) → valid p.cycle ≡ true
      → finished (row_part (layout_of p.cycle p.method) row_e) (closed (course_of p) s n) ≡ false
  pub wider_calls : {b : List ℕ} {y : Method} {t t' : Tolerances} {l₀ k₀ : List ℤ} {m₀ n₀ : List ℕ} {xs : List Moment}
      {r r' : Run} {l l' : List ℤ} {m m' : List ℕ}
      → Driven (plan b t y) l₀ m₀ xs r l m → Driven (plan b t' y) k₀ n₀ xs r' l' m' → Widened t t' → WiderCalls b y r r' l l'
  pub longer_calls : {b : List ℕ} {y : Method} {t : Tolerances} {l₀ k₀ : List ℤ} {m₀ n₀ : List ℕ} {xs : List Moment} (ys : List Moment)
      {r r' : Run} {l l' : List ℤ} {m m' : List ℕ}
      → Driven (plan b t y) l₀ m₀ xs r l m → Driven (plan b t y) k₀ n₀ (xs ++ ys) r' l' m' → LongerCalls b y r r' l l' m m'
  -- every record that is told is one with a field 4
  pub told_has_four : (i : List ℕ) (x : Told) → sheet_of i ≡ told x → HasFour i
  pub field_four_alone : (p q v v' : List ℕ) → FirstThree p → length v ≡ 6 → length v' ≡ 6 → FieldFourAlone p q v v'
  pub wider_records : (p q v v' : List ℕ) → FirstThree p → length v ≡ 6 → length v' ≡ 6 → tolerable (tolerances_in v') ≡ true
      → Widened (tolerances_in v) (tolerances_in v') → (x : Told) → sheet_of (with_four p q v) ≡ told x → WiderRecord p q v v' x
  -- a record that is read on tells the same vehicle, cycle and tolerances, the same method where a field stands behind field 4, and its samples with
  -- others behind them; where none does, it has no sample yet
  pub longer_record : (p q : List ℕ) (x x' : Told) → sheet_of p ≡ told x → sheet_of (p ++ q) ≡ told x'
      → (let h = x.holding in let h' = x'.holding in
      (h'.vehicle ≡ h.vehicle) × (h'.cycle ≡ h.cycle) × (h'.tolerances ≡ h.tolerances) × (behind_tolerances < x.place → Grown x x'))
  pub none_behind_four : (p : List ℕ) (x : Told) → sheet_of p ≡ told x → x.place ≤ behind_tolerances → x.holding.samples ≡ []
  -- any two records, of which the second tells the samples of the first with others behind them
  pub longer_told_lem : (x x' : Told) → Grown x x' → (i : List ℕ) → sheet_of i ≡ told x → Unmoved x x'
  pub ended_stays : (x x' : Told) → Grown x x' → is_open (figures_told x).end ≡ false
      → x'.holding.vehicle ≡ x.holding.vehicle → x'.passed ≡ x.passed → x'.holding.amounts ≡ x.holding.amounts → EndedStays x x'
  pub blocks_added_between : (a more z : List ℕ) (s y x : Told) → BlocksBetween a more z s y x → BlocksAddedStay a more z y x
  pub some_between : SomeBetween
