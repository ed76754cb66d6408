-- 'Numbers on the bench': the limits, and what a sample brings.
-- Assumes nothing.
use Rattle.std.specs.Prelude.{Bool, ◌&&◌, ℕ, ◌*◌, leb, ℤ, pos, neg_ℤ, ◌*ℤ◌}
use Rattle.rules.specs.Words.{between}
pub use Rattle.rules.specs.declared.Sample.{Sample}
pub use Rattle.rules.specs.declared.Moment.{Moment}
pub use Rattle.rules.specs.declared.Tolerances.{Tolerances}
pub use Rattle.rules.specs.declared.Stretches.{Stretches}
pub use Rattle.rules.specs.declared.Method.{Method}
pub use Rattle.rules.specs.declared.Method.TheVariants.{Regular as by_cycles, Shortened as with_stretches}
pub use Rattle.rules.specs.declared.End.{End}
pub use Rattle.rules.specs.declared.End.TheVariants.{None as none, Stop as stop, Limit as limit}

-- "Speed 0..1500 .. Voltage 0..15000 .. Current -10000..10000"
abbrev pub most_speed : ℕ
most_speed = 1500

abbrev pub most_voltage : ℕ
most_voltage = 15000

abbrev pub most_current : ℕ
most_current = 10000

-- every value of the sample is within its limits
unfoldable pub is_sample : Sample → Bool
is_sample x =
    leb x.speed most_speed
    && leb x.voltage most_voltage
    && between (neg_ℤ (pos most_current)) (pos most_current) x.current

-- "Drawn energy of a sample is -(voltage × current)": the product of which an interval of the run sums two
abbrev pub drawn : Sample → ℤ
drawn x = neg_ℤ (pos x.voltage *ℤ x.current)

-- what a run takes of a sample: its speed, and the energy that it draws
abbrev pub moment_of : Sample → Moment
moment_of x = record { speed = x.speed; energy = drawn x }

-- nothing of a sample
abbrev pub no_moment : Moment
no_moment = record { speed = 0; energy = pos 0 }

-- the most that a sample within its limits draws, either way: the greatest product of voltage and current
abbrev pub most_drawn : ℕ
most_drawn = most_voltage * most_current

-- the most that one share of a run brings, "the sums of both ends' products and speeds": energy either way, and distance
abbrev pub most_share_energy : ℕ
most_share_energy = 2 * most_drawn

abbrev pub most_share_distance : ℕ
most_share_distance = 2 * most_speed

-- "A cycle has T seconds, 2 <= T <= 2400 .. and 1 to 4 phases"; "A cycle has 20T positions"
abbrev pub least_seconds : ℕ
least_seconds = 2

abbrev pub most_seconds : ℕ
most_seconds = 2400

abbrev pub most_phases : ℕ
most_phases = 4

abbrev pub most_positions : ℕ
most_positions = 20 * most_seconds

-- "A run has at most 64 cycles. At most 4,000,000 samples may be offered, and at most 4,000,000 blocks passed over."
abbrev pub most_cycles : ℕ
most_cycles = 64

abbrev pub most_offered : ℕ
most_offered = 4_000_000

abbrev pub most_passed : ℕ
most_passed = 4_000_000

-- "Tolerances: speed 0..100 (0.1 km/h), time 0..40 positions, allowance 0..1200 samples."
abbrev pub most_speed_tolerance : ℕ
most_speed_tolerance = 100

abbrev pub most_time_tolerance : ℕ
most_time_tolerance = 40

abbrev pub most_allowance : ℕ
most_allowance = 1200

unfoldable pub tolerable : Tolerances → Bool
tolerable t = leb t.speed most_speed_tolerance && leb t.time most_time_tolerance && leb t.allowance most_allowance

-- document 02, L5: "M's length in samples, 1..4,000,000 (4 bytes), and E's set speed, 1..1500 (2 bytes)"
unfoldable pub are_stretches : Stretches → Bool
are_stretches x = leb 1 x.length && leb x.length most_offered && leb 1 x.speed && leb x.speed most_speed
