-- A cycle's nine numbers among the figures: "four phase energies, four phase distances, the outside count".
-- Assumes nothing.
use mathlib.Core.Path.{◌≡◌}
use Prim.Native.Nat.{ℕ, ◌+◌, ◌-◌, ◌*◌, ◌/◌, ◌%◌, ◌<◌}
use native.Mathlib.Omega.{arith}
use borrow.Author.Tests.{lt-ltb, le-ltb}
use lib.IntN.{pos}
use Rattle.rules.specs.declared.Moment.{Moment}
use Rattle.rules.specs.Course.{Course, outside, judged, closed}
use Rattle.rules.specs.Parts.{phase_part, part_energy, part_distance}
use Rattle.rules.specs.Shown.{figure}

module _ (y : Course) (s : ℕ → Moment) (n c : ℕ) where
  pub energy_figure : (k : ℕ) → k < 4 → figure y s n (9 * c + k) ≡ part_energy y.share s (phase_part y.layout c k) (closed y s n)
  unfolding figure
  energy_figure k h =
      let d : (9 * c + k) / 9 ≡ c = omega arith in
      let r : (9 * c + k) % 9 ≡ k = omega arith in
      rw (r, d, lt-ltb k 4 h)

  pub distance_figure : (k : ℕ) → k < 4 → figure y s n (9 * c + (4 + k)) ≡ pos (part_distance y.share s (phase_part y.layout c k) (closed y s n))
  unfolding figure
  distance_figure k h =
      let d : (9 * c + (4 + k)) / 9 ≡ c = omega arith in
      let r : (9 * c + (4 + k)) % 9 ≡ 4 + k = omega arith in
      let z : 4 + k - 4 ≡ k = omega arith in
      rw (r, d, le-ltb (4 + k) 4 (omega arith), lt-ltb (4 + k) 8 (omega arith), z)

  pub outside_figure : figure y s n (9 * c + 8) ≡ pos (outside y s c (judged y s n))
  unfolding figure
  outside_figure =
      let d : (9 * c + 8) / 9 ≡ c = omega arith in
      let r : (9 * c + 8) % 9 ≡ 8 = omega arith in
      rw (r, d)
