-- `tracing::behind::weight_in` meets its contract: each answer rewrites with the test that led there.
use native.Mathlib.Omega.{arith}
use Rattle.consumption.proofs.Weights.{product_fits, most_drawn, energy_most}
use Rattle.tracing.proofs.behind.weight_in.Goals as goal

pub overflow_mul-result : goal.overflow_mul-result
overflow_mul-result c =
    let s = c in
    product_fits 62 most_drawn (omega (arith, c.saturating_sub.ensures, s.requires)) (omega (arith, c.drawn_in.ensures, energy_most _ s.requires.0 _ s.requires.2)) tt
