-- A started run's state, its limits, and the tests that come before all others.
-- Assumes nothing.
use Rattle.std.specs.Prelude.{Bool, false, cond, ◌&&◌, List, ℕ, ◌+◌, ◌-◌, ◌*◌, min, leb, ltb, eqb, ℤ, pos, neg_ℤ, length}
use Rattle.rules.specs.Words.{unless, eq_z, between}
use Rattle.rules.specs.declared.Moment.{Moment}
use Rattle.rules.specs.declared.End.{End}
use Rattle.rules.specs.declared.End.TheVariants.{None as none, Stop as stop, Limit as limit}
use Rattle.rules.specs.declared.Method.{Method}
use Rattle.rules.specs.declared.Method.TheVariants.{Regular as by_cycles, Shortened as with_stretches}
use Rattle.rules.specs.Bench.{tolerable, least_seconds, most_seconds, most_offered, most_cycles}
use Rattle.rules.specs.Cycle.{phases, phase_end, seconds, valid}
use Rattle.rules.specs.Shortened.{most_below}
use Rattle.rules.specs.Shown.{map_words, most_stretch_energy, most_stretch_distance}
use Rattle.values.specs.Limits.{is_method}
use Rattle.laws.specs.Beside.{is_moment}
use Rattle.ledger.specs.Row.{bounded}
pub use Rattle.state.specs.declared.Ends.{Ends}
pub use Rattle.state.specs.declared.Track.{Track}
pub use Rattle.state.specs.declared.Progress.{Progress}
pub use Rattle.state.specs.declared.Stretch.{Stretch}
pub use Rattle.state.specs.declared.Stretched.{Stretched}
pub use Rattle.state.specs.declared.Run.{Run}

-- ledger and map together
pub record Memory : Type 0 where
  pub ledger : List ℤ
  pub map : List ℕ

abbrev pub lent : List ℤ → List ℕ → Memory
lent l m = record { ledger = l; map = m }

-- what a call leaves: its answer, and ledger and map
pub record Left (A : Type 0) : Type 0 where
  pub answer : A
  pub memory : Memory

abbrev pub left : {A : Type 0} → A → List ℤ → List ℕ → Left A
left a l m = record { answer = a; memory = lent l m }

-- the end of phase k, and 0 where there is no such phase
abbrev pub end_or_zero : List ℕ → ℕ → ℕ
end_or_zero b k = cond (ltb k (phases b)) (phase_end b k) 0

unfoldable pub ends_of : List ℕ → Ends
ends_of b = record { first = end_or_zero b 0; second = end_or_zero b 1; third = end_or_zero b 2; fourth = end_or_zero b 3 }

unfoldable pub same_ends : Ends → Ends → Bool
same_ends d e = eqb d.first e.first && eqb d.second e.second && eqb d.third e.third && eqb d.fourth e.fourth

-- how many samples can count: those of 64 cycles of n positions, or all that may be offered
abbrev pub most_by : Method → ℕ → ℕ
most_by by_cycles n = most_cycles * n
most_by (with_stretches x) n = most_offered

abbrev pub most_of : Run → ℕ
most_of r = most_by r.track.method (20 * r.track.seconds)

-- how many intervals are closed
abbrev pub closed_by : Progress → ℕ
closed_by p = min (p.offered - 1) p.counted

-- what the three ends say of the samples offered and counted
unfoldable pub is_progress : End → ℕ → ℕ → ℕ → Bool
is_progress none most offered counted = eqb counted offered && leb counted most
is_progress stop most offered counted = ltb counted offered && ltb counted most
is_progress limit most offered counted = eqb counted most && ltb most offered

-- what is held where no interval is open: nothing of a sample
abbrev pub is_nothing : Moment → Bool
is_nothing x = eqb x.speed 0 && eq_z x.energy (pos 0)

-- an interval is open while the run goes on, from its first sample on: the last counted sample's product and speed are held, and else nothing
unfoldable pub is_held : End → ℕ → Moment → Bool
is_held none counted x = cond (eqb counted 0) (is_nothing x) (is_moment x)
is_held stop counted x = is_nothing x
is_held limit counted x = is_nothing x

-- what a stretch has is within its limits where one of its intervals is closed, and else nothing
abbrev pub is_stretch : Bool → Stretch → Bool
is_stretch begun x =
    cond begun (leb x.distance most_stretch_distance && between (neg_ℤ (pos most_stretch_energy)) (pos most_stretch_energy) x.energy)
    (eqb x.distance 0 && eq_z x.energy (pos 0))

-- the same of both: whether an interval of M is closed, and of E, and whether a sample of E is counted
unfoldable pub are_stretched : Stretched → Bool → Bool → Bool → Bool
are_stretched z m e watched = is_stretch m z.in_m && is_stretch e z.in_e && cond watched (leb z.watch most_below) (eqb z.watch 0)

-- M begins behind two cycles of n positions, E behind four and M; by the regular method there is neither
abbrev pub stretched_by : Method → ℕ → Progress → Stretched → Bool
stretched_by by_cycles n p z = are_stretched z false false false
stretched_by (with_stretches x) n p z =
    let e = 4 * n + x.length in
    are_stretched z (ltb (2 * n) (closed_by p)) (ltb e (closed_by p)) (ltb e p.counted)

unfoldable pub is_stretched : Run → Bool
is_stretched r = stretched_by r.track.method (20 * r.track.seconds) r.progress r.stretched

unfoldable pub are_ends : Ends → Bool
are_ends e = leb e.first most_seconds && leb e.second most_seconds && leb e.third most_seconds && leb e.fourth most_seconds

-- no number of the state is beyond its limits (docs/STATE.md)
unfoldable pub is_run : Run → Bool
is_run r =
    leb least_seconds r.track.seconds
    && leb r.track.seconds most_seconds
    && are_ends r.track.ends
    && tolerable r.track.tolerances
    && is_method r.track.method
    && leb r.progress.offered most_offered
    && is_held r.progress.end r.progress.counted r.progress.held
    && is_stretched r
    && is_progress r.progress.end (most_of r) r.progress.offered r.progress.counted

-- ledger and map are long enough, none of the 576 numbers is out of bounds, and none of the state's
unfoldable pub is_lent : Run → List ℤ → List ℕ → Bool
is_lent r l m = bounded l && leb map_words (length m) && is_run r

-- the cycle breaks no rule, and is the start's in T and phase ends
unfoldable pub is_starts : Run → List ℕ → Bool
is_starts r b = valid b && eqb (seconds b) r.track.seconds && same_ends (ends_of b) r.track.ends

-- "In a started run 1 and 2 come before all others"
unfoldable pub run_ground : Run → List ℕ → List ℤ → List ℕ → ℕ → ℕ
run_ground r b l m others = unless 1 (is_lent r l m) (unless 2 (is_starts r b) others)
