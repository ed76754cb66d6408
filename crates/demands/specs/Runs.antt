-- Whole runs, and records, by calls that keep the contracts: what each call is lent and leaves.
-- Assumes nothing.
use Rattle.std.specs.Prelude.{List, [], ◌∷◌, ◌++◌, ◌≡◌, ℕ, ◌≤◌, ℤ, length, take, drop, Ok, Err}
use Rattle.rules.specs.declared.Amounts.{Amounts}
use Rattle.rules.specs.declared.Method.{Method}
use Rattle.rules.specs.declared.Moment.{Moment}
use Rattle.rules.specs.declared.Sample.{Sample}
use Rattle.rules.specs.declared.Tolerances.{Tolerances}
use Rattle.rules.specs.Bench.{moment_of}
use Rattle.rules.specs.Plan.{Plan}
use Rattle.rules.specs.Shown.{ledger_numbers, map_words}
use Rattle.rules.specs.Values.{moments_in}
use Rattle.state.specs.declared.Run.{Run}
use Rattle.state.specs.State.{Memory}
use Rattle.rules.specs.declared.Refusal.{Refusal}
use Rattle.reading.specs.declared.Reading.{Reading}
use Rattle.sheet.specs.Overlaid.{most_sheet}
use Rattle.desk.specs.declared.Desk.{Desk}
use Rattle.desk.specs.Feeding.{Laid, Lent, laid_of, empty_desk}
use Rattle.demands.specs.Calls.{StartCall, SampleCall, BlockCall, ShownCall, TotalsCall, ClosingCall}
use Rattle.demands.specs.Calls.{FiguresCall, ReadCall, AllCall, FeedCall, CloseCall, RefuseCall, VerdictCall, start_leaves, sample_leaves}
use Rattle.demands.specs.Calls.{block_leaves}

-- ---- what a call is lent

-- a start: this cycle and this memory, with these tolerances and this method
pub record StartOn (b : List ℕ) (t : Tolerances) (y : Method) (l : List ℤ) (m : List ℕ) (c : StartCall) : Type 0 where
  pub cycle : c.args.0.now ≡ b
  pub tolerances : c.args.1.0 ≡ t
  pub method : c.args.1.1.0 ≡ y
  pub ledger : c.args.1.1.1.0.now ≡ l
  pub map : c.args.1.1.1.1.0.now ≡ m

-- a later call: this run, this cycle and this memory
pub record On (r : Run) (b : List ℕ) (l : List ℤ) (m : List ℕ) (run : Run) (cycle : List ℕ) (ledger : List ℤ) (map : List ℕ) : Type 0 where
  pub run_is : run ≡ r
  pub cycle_is : cycle ≡ b
  pub ledger_is : ledger ≡ l
  pub map_is : map ≡ m

-- the closing's call also amounts, the figures' and the reader's a reading of that run
module _ (r : Run) (b : List ℕ) (l : List ℤ) (m : List ℕ) where
  abbrev pub SampleOn : SampleCall → Type 0
  SampleOn c = let (run, (cycle, (ledger, (map, _)))) = c.args in On r b l m run cycle.now ledger.now map.now

  abbrev pub BlockOn : BlockCall → Type 0
  BlockOn c = let (run, (cycle, (ledger, (map, _)))) = c.args in On r b l m run cycle.now ledger.now map.now

  abbrev pub ShownOn : ShownCall → Type 0
  ShownOn c = let (run, (cycle, (ledger, (map, _)))) = c.args in On r b l m run cycle.now ledger.now map.now

  abbrev pub TotalsOn : TotalsCall → Type 0
  TotalsOn c = let (run, (cycle, (ledger, (map, _)))) = c.args in On r b l m run cycle.now ledger.now map.now

  abbrev pub ClosingOn : ClosingCall → Type 0
  ClosingOn c = let (run, (_, (cycle, (ledger, (map, _))))) = c.args in On r b l m run cycle.now ledger.now map.now

  abbrev pub FiguresOn : FiguresCall → Type 0
  FiguresOn c = let (reading, (cycle, (ledger, (map, _)))) = c.args in On r b l m reading.run cycle.now ledger.now map.now

  abbrev pub ReadOn : ReadCall → Type 0
  ReadOn c = let (reading, (_, (cycle, (ledger, (map, _))))) = c.args in On r b l m reading.run cycle.now ledger.now map.now

  abbrev pub AllOn : AllCall → Type 0
  AllOn c = let (reading, (_, (cycle, (ledger, (map, _))))) = c.args in On r b l m reading.run cycle.now ledger.now map.now

-- the sample of a call, and the bytes of a block's samples; the amounts; the reading, with the run r in it
abbrev pub sample_in : SampleCall → Sample
sample_in c = c.args.1.1.1.1.0

abbrev pub bytes_in : BlockCall → List ℕ
bytes_in c = c.args.1.1.1.1.1.0.now

abbrev pub closing_amounts : ClosingCall → Amounts
closing_amounts c = c.args.1.0

abbrev pub figures_reading : FiguresCall → Run → Reading
figures_reading c r =
    let y = c.args.0 in
    record { vehicle = y.vehicle; place = y.place; passed = y.passed; amounts = y.amounts; run = r }

-- "what lies beyond is never touched": beyond their 576 numbers and 750 words ledger and map are as they were
pub record Beyond (a c : Memory) : Type 0 where
  pub in_ledger : drop ledger_numbers c.ledger ≡ drop ledger_numbers a.ledger
  pub in_map : drop map_words c.map ≡ drop map_words a.map

-- ---- the whole run: "What is promised of a whole run takes state, memory and cycle at each call as the call before left them"

-- a run, its ledger and its map, after a start and calls that took the samples of the list, one by one or in blocks, or refused
pub data Driven (p : Plan) (l₀ : List ℤ) (m₀ : List ℕ) : List Moment → Run → List ℤ → List ℕ → Type 0 where
  begins : (c : StartCall) → StartOn p.cycle p.tolerances p.method l₀ m₀ c → {r : Run} → c.answer ≡ Ok r
      → Driven p l₀ m₀ [] r (start_leaves c).ledger (start_leaves c).map
  takes : {xs : List Moment} {r : Run} {l : List ℤ} {m : List ℕ} → Driven p l₀ m₀ xs r l m
      → (c : SampleCall) → SampleOn r p.cycle l m c → {r' : Run} → c.answer ≡ Ok r'
      → Driven p l₀ m₀ (xs ++ moment_of (sample_in c) ∷ []) r' (sample_leaves c).ledger (sample_leaves c).map
  takes_block : {xs : List Moment} {r : Run} {l : List ℤ} {m : List ℕ} → Driven p l₀ m₀ xs r l m
      → (c : BlockCall) → BlockOn r p.cycle l m c → {r' : Run} → c.answer ≡ Ok r'
      → Driven p l₀ m₀ (xs ++ moments_in (bytes_in c)) r' (block_leaves c).ledger (block_leaves c).map
  refuses : {xs : List Moment} {r : Run} {l : List ℤ} {m : List ℕ} → Driven p l₀ m₀ xs r l m
      → (c : SampleCall) → SampleOn r p.cycle l m c → (k : Refusal) → c.answer ≡ Err k
      → Driven p l₀ m₀ xs r (sample_leaves c).ledger (sample_leaves c).map
  refuses_block : {xs : List Moment} {r : Run} {l : List ℤ} {m : List ℕ} → Driven p l₀ m₀ xs r l m
      → (c : BlockCall) → BlockOn r p.cycle l m c → (k : Refusal) → c.answer ≡ Err k
      → Driven p l₀ m₀ xs r (block_leaves c).ledger (block_leaves c).map

-- there is such a run
pub record SomeRun (p : Plan) (l₀ : List ℤ) (m₀ : List ℕ) (xs : List Moment) : Type 0 where
  pub run : Run
  pub ledger : List ℤ
  pub map : List ℕ
  pub driven : Driven p l₀ m₀ xs run ledger map

-- the bench controller asks about a cycle, tolerances, a position and a speed
pub record AskedOn (b : List ℕ) (t : Tolerances) (p v : ℕ) (c : VerdictCall) : Type 0 where
  pub cycle : c.args.0.now ≡ b
  pub tolerances : record { speed = c.args.1.0; time = c.args.1.1.0; allowance = c.args.1.1.1.0 } ≡ t
  pub position : c.args.1.1.1.1.0 ≡ p
  pub speed : c.args.1.1.1.1.1.0 ≡ v

-- ---- a record, as its bytes arrive

-- a call feeds the desk x, on its memory, with the input i
pub record FeedOn (x : Laid) (i : List ℕ) (c : FeedCall) : Type 0 where
  pub desk : c.args.0 ≡ x.desk
  pub input : c.args.1.0.now ≡ i
  pub room : c.args.1.1.0.now ≡ x.room
  pub ledger : c.args.1.1.1.0.now ≡ x.memory.ledger
  pub map : c.args.1.1.1.1.0.now ≡ x.memory.map

-- the desk and the memory that it leaves
abbrev pub laid_by : FeedCall → Laid
laid_by c = laid_of c.answer.desk c.lasts.1.1.0 c.lasts.1.1.1.0 c.lasts.1.1.1.1.0

-- the bytes w have arrived, in calls that each had what was left over before and new bytes behind it; the desk has taken all but the rest
pub data FedIn (lent : Lent) : List ℕ → Laid → List ℕ → Type 0 where
  empty : FedIn lent [] (laid_of empty_desk lent.room₀ lent.l₀ lent.m₀) []
  more : {w rest : List ℕ} {x : Laid} → FedIn lent w x rest → (new : List ℕ) (c : FeedCall) → FeedOn x (rest ++ new) c → c.answer.outcome ≡ Ok tt
      → FedIn lent (w ++ new) (laid_by c) (drop c.answer.used (rest ++ new))

-- the input ends at the desk x with the rest left over
pub record CloseOn (x : Laid) (rest : List ℕ) (c : CloseCall) : Type 0 where
  pub desk : c.args.0 ≡ x.desk
  pub left : c.args.1.0 ≡ length rest
  pub room : c.args.1.1.0.now ≡ x.room
  pub ledger : c.args.1.1.1.0.now ≡ x.memory.ledger
  pub map : c.args.1.1.1.1.0.now ≡ x.memory.map
  pub long : most_sheet ≤ length c.args.1.1.1.1.1.0.now

-- there is such a call
pub record SomeClose (x : Laid) (rest : List ℕ) : Type 0 where
  pub call : CloseCall
  pub on : CloseOn x rest call

-- a field is refused the number k at the desk x
pub record RefuseOn (x : Laid) (k : ℕ) (c : RefuseCall) : Type 0 where
  pub desk : c.args.0 ≡ x.desk
  pub number : c.args.1.0 ≡ k
  pub long : most_sheet ≤ length c.args.1.1.0.now

-- what such a call prints
abbrev pub closed_to : CloseCall → List ℕ
closed_to c = take c.answer c.lasts.1.1.1.1.1.0

abbrev pub refused_to : RefuseCall → List ℕ
refused_to c = take c.answer c.lasts.1.1.0

-- state, input, bytes of the cycle or room for it, ledger, map: what `read_all` and `feed` are given
pub record Given (S : Type 0) : Type 0 where
  pub state : S
  pub input : List ℕ
  pub bytes : List ℕ
  pub ledger : List ℤ
  pub map : List ℕ

abbrev pub all_given : AllCall → Given Reading
all_given c = let (r, (i, (b, (l, (m, _))))) = c.args in record { state = r; input = i.now; bytes = b.now; ledger = l.now; map = m.now }

abbrev pub feed_given : FeedCall → Given Desk
feed_given c = let (d, (i, (b, (l, (m, _))))) = c.args in record { state = d; input = i.now; bytes = b.now; ledger = l.now; map = m.now }

-- b is a, but for its input: the first n bytes of a's
pub record Shorter {S : Type 0} (n : ℕ) (a b : Given S) : Type 0 where
  pub state : b.state ≡ a.state
  pub input : b.input ≡ take n a.input
  pub bytes : b.bytes ≡ a.bytes
  pub ledger : b.ledger ≡ a.ledger
  pub map : b.map ≡ a.map
