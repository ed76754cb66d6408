-- Bounds of what the lines of the trace are made of.
-- Assumes nothing.
use Rattle.std.specs.Prelude.{ℕ}

-- a cycle or phase counted from 0: one more fits, and is what a line shows
abbrev pub most_place : ℕ
most_place = 4_294_967_295

-- an energy of which a rate is formed: 100 times as much fits
abbrev pub most_rated : ℕ
most_rated = 100_000_000_000_000_000
