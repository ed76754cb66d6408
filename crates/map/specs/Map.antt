-- The map: "position p is bit p mod 64 of word p div 64, set when outside".
-- Assumes nothing.
use Rattle.std.specs.Prelude.{Bool, cond, List, ℕ, ◌/◌, ◌%◌, ◌^◌, eqb, get_or, set}
use Rattle.std.specs.Int.Bits.{bit_or}
use Rattle.std.specs.Int.Count.{ones}
use Rattle.numbers.specs.Lists.{cleared}
use Rattle.rules.specs.Words.{sum}
use Rattle.rules.specs.Shown.{map_words}

-- bit k of a word
abbrev pub bit_of : ℕ → ℕ → ℕ
bit_of w k = w / 2 ^ k % 2

-- position p is set
abbrev pub is_set : List ℕ → ℕ → Bool
is_set m p = eqb (bit_of (get_or m (p / 64) 0) (p % 64)) 1

-- the map with position p set, and set only where the sample is outside
abbrev pub mark : List ℕ → ℕ → List ℕ
mark m p = set m (p / 64) (bit_or (get_or m (p / 64) 0) (2 ^ (p % 64)))

unfoldable pub marked_if : List ℕ → ℕ → Bool → List ℕ
marked_if m p out = cond out (mark m p) m

-- "It is cleared by the first judged sample of the next cycle": by the sample at position 0
unfoldable pub opened : List ℕ → ℕ → List ℕ
opened m p = cond (eqb p 0) (cleared 0 map_words m) m

-- "The count of ones in the map": as many as positions are set (law `ones_set`)
abbrev pub ones_of : List ℕ → ℕ
ones_of m = sum (λ k. ones (get_or m k 0)) map_words
