-- Document 02, L11: "the range from unrounded cycle consumptions", in whole numbers: n finished cycles of energies e and distances d, the whole energy E.
-- No figure comes from here: what is claimed of the figures compares them with it.
-- Assumes nothing.
use Rattle.std.specs.Prelude.{cond, ℕ, ◌*◌, ◌/◌, eqb}
use Rattle.rules.specs.Words.{fold}
use Rattle.rules.specs.Closing.{weighing, weight}

-- the one denominator of all that is unrounded: the product of the distances
abbrev pub denominator : ℕ → (ℕ → ℕ) → ℕ
denominator n d = fold ◌*◌ 1 d n

-- "the unrounded 100 e_c / d_c", over it: the product with 100 e_c in place of d_c
abbrev pub unrounded : ℕ → (ℕ → ℕ) → (ℕ → ℕ) → ℕ → ℕ
unrounded n e d c = fold ◌*◌ 1 (λ k. cond (eqb k c) (100 * e k) (d k)) n

module _ (E n : ℕ) (e d : ℕ → ℕ) where
  -- W*, "the same weighting" of them: over the denominator times E (n-2)
  abbrev pub exact_weighing : ℕ
  exact_weighing = weighing E n e (unrounded n e d)

  -- R* = 5E / (72 W*), over the denominator below
  abbrev pub exact_range : ℕ
  exact_range = 5 * E * (denominator n d * weight E n)

  abbrev pub range_denominator : ℕ
  range_denominator = 72 * exact_weighing

  -- "the whole metres of the range from unrounded cycle consumptions"
  abbrev pub exact_metres : ℕ
  exact_metres = exact_range / range_denominator
