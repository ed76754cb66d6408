-- The cycle, read from the bytes b of field 3's value: "phase count (1 byte), phase ends (2 bytes each), points (2 bytes each)".
-- Assumes nothing.
use Rattle.std.specs.Prelude.{Bool, ◌&&◌, List, ℕ, zero, suc, ◌+◌, ◌-◌, ◌*◌, leb, ltb, eqb, length, get_or}
use Rattle.rules.specs.Words.{be, first, all_below, unless}
use Rattle.rules.specs.Bench.{Tolerances, tolerable, most_speed, least_seconds, most_seconds, most_phases}

-- the number of phases
abbrev pub phases : List ℕ → ℕ
phases b = get_or b 0 0

-- the second at which phase k ends, and at which it starts, k from 0
abbrev pub phase_end : List ℕ → ℕ → ℕ
phase_end b k = be 2 b (1 + 2 * k)

abbrev pub phase_start : List ℕ → ℕ → ℕ
phase_start b zero = 0
phase_start b (suc k) = phase_end b k

-- T: "the last equal to T"
abbrev pub seconds : List ℕ → ℕ
seconds b = phase_end b (phases b - 1)

-- point k, k from 0
abbrev pub point : List ℕ → ℕ → ℕ
point b k = be 2 b (1 + 2 * phases b + 2 * k)

-- "each above the one before, the first at least 1"; "T+1 points 0..1500"
abbrev pub rises : List ℕ → ℕ → Bool
rises b k = ltb (phase_start b k) (phase_end b k)

abbrev pub is_speed : List ℕ → ℕ → Bool
is_speed b k = leb (point b k) most_speed

-- how many bytes so many phases and seconds take; the shortest cycle and the longest: "9..4811 bytes"
abbrev pub bytes_for : ℕ → ℕ → ℕ
bytes_for k t = 1 + 2 * k + 2 * (t + 1)

abbrev pub least_bytes : ℕ
least_bytes = bytes_for 1 least_seconds

abbrev pub most_bytes : ℕ
most_bytes = bytes_for most_phases most_seconds

-- the bytes are a cycle that breaks no rule, and its length matches
unfoldable pub valid : List ℕ → Bool
valid b =
    leb 1 (phases b)
    && leb (phases b) most_phases
    && leb least_seconds (seconds b)
    && leb (seconds b) most_seconds
    && eqb (length b) (bytes_for (phases b) (seconds b))
    && all_below (phases b) (rises b)
    && all_below (seconds b + 1) (is_speed b)

-- "2, 3", of a start with this cycle and these tolerances, and of the bench controller's question: the refusal, or the answer
abbrev pub start_or : {A : Type 0} → (ℕ → A) → List ℕ → Tolerances → A → A
start_or refused b t answer = unless (refused 2) (valid b) (unless (refused 3) (tolerable t) answer)

-- N: "A cycle has 20T positions"
abbrev pub positions : List ℕ → ℕ
positions b = 20 * seconds b

-- the phase in which position p lies: the first that ends after it
unfoldable pub phase_at : List ℕ → ℕ → ℕ
phase_at b p = first (λ k. ltb p (20 * phase_end b k)) (phases b)
