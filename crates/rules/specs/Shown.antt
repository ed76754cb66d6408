-- 'Ledger and map': what the 576 numbers and the bits of the map are after n samples offered over any course, and their bounds.
-- Assumes nothing.
use Rattle.std.specs.Prelude.{Bool, cond, ◌&&◌, List, ℕ, ◌+◌, ◌-◌, ◌*◌, ◌/◌, ◌%◌, ltb, eqb, ℤ, pos, neg_ℤ}
use Rattle.rules.specs.Words.{fold, table, between}
use Rattle.rules.specs.Bench.{Moment, most_share_energy, most_share_distance, most_positions, most_cycles, most_offered}
use Rattle.rules.specs.Course.{Layout, Course, out, outside, judged, closed}
use Rattle.rules.specs.Parts.{phase_part, part_energy, part_distance}

-- "a ledger of at least 576 signed 64-bit numbers and a map of at least 750 unsigned 64-bit words"
abbrev pub ledger_numbers : ℕ
ledger_numbers = 9 * most_cycles

abbrev pub map_words : ℕ
map_words = most_positions / 64

-- by its place among a cycle's nine: one of "four phase energies, four phase distances, the outside count"
abbrev pub of_nine : {A : Type 0} → ℕ → (ℕ → A) → (ℕ → A) → A → A
of_nine a energy distance outside = cond (ltb a 4) (energy a) (cond (ltb a 8) (distance (a - 4)) outside)

-- "out of bounds (energy beyond .. either way, distance outside .., outside count outside 0..48,000)": the most that a whole cycle brings;
-- document 02, L2: "the ledger's bounds for energy and distance double", to 14.4 × 10^12 and 144,000,000
abbrev pub most_energy : ℕ
most_energy = most_share_energy * most_positions

abbrev pub most_distance : ℕ
most_distance = most_share_distance * most_positions

abbrev pub most_outside : ℕ
most_outside = most_positions

-- document 02, L5: "M and E each have one energy and one distance outside the ledger": at most those of as many intervals as samples may be offered,
-- 1.2 × 10^15 and 1.2 × 10^10
abbrev pub most_stretch_energy : ℕ
most_stretch_energy = most_share_energy * most_offered

abbrev pub most_stretch_distance : ℕ
most_stretch_distance = most_share_distance * most_offered

-- the number z may stand at place i of the ledger
unfoldable pub in_bounds : ℕ → ℤ → Bool
in_bounds i z =
    of_nine (i % 9)
    (λ _. between (neg_ℤ (pos most_energy)) (pos most_energy) z)
    (λ _. between (pos 0) (pos most_distance) z)
    (between (pos 0) (pos most_outside) z)

module _ (c : Course) (s : ℕ → Moment) (n : ℕ) where
  -- "Cycle c owns the nine numbers that start at 9 × c (c from 0)": number i of the ledger
  unfoldable pub figure : ℕ → ℤ
  figure i =
      of_nine (i % 9)
      (λ k. part_energy c.share s (phase_part c.layout (i / 9) k) (closed c s n))
      (λ k. pos (part_distance c.share s (phase_part c.layout (i / 9) k) (closed c s n)))
      (pos (outside c s (i / 9) (judged c s n)))

  abbrev pub ledger : List ℤ
  ledger = table figure ledger_numbers

-- "The map shows the cycle last judged": the last row of the ledger in which one of the first m samples stands
unfoldable pub shown_row : Layout → ℕ → ℕ
shown_row l = fold (λ r k. cond (ltb k most_cycles) k r) 0 l.row

-- "position p is .. set when outside": the sample at position p of that row is among the first m, which are judged, and outside
unfoldable pub marked : Course → (ℕ → Moment) → ℕ → ℕ → Bool
marked c s m p =
    let r = shown_row c.layout m in
    let i = c.layout.begin r + p in
    eqb (c.layout.row i) r && ltb i m && out c s i
