-- The bench controller's question: the bytes b, the tolerances t, position p, speed v.
-- Assumes nothing.
use Rattle.std.specs.Prelude.{List, ℕ, leb, ltb, ℤ, pos, neg_ℤ}
use Rattle.rules.specs.Words.{unless}
use Rattle.rules.specs.declared.Tolerances.{Tolerances}
use Rattle.rules.specs.Bench.{most_speed}
use Rattle.rules.specs.Cycle.{start_or, positions}
use Rattle.rules.specs.Band.{verdict}

-- "minus a refusal"
abbrev pub minus : ℕ → ℤ
minus n = neg_ℤ (pos n)

-- "gets 0 inside, 1 below, 2 above, or minus a refusal (2, 3, 6, 5 in that order; 6 for a position of 20T or more)"
unfoldable pub question : List ℕ → Tolerances → ℕ → ℕ → ℤ
question b t p v =
    start_or minus b t
    (unless (minus 6) (ltb p (positions b))
    (unless (minus 5) (leb v most_speed)
    (pos (verdict b t p v))))
