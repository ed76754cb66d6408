-- Lists of any kind.
-- Assumes nothing.
use Rattle.std.specs.Prelude.{List, ◌++◌, ℕ, ℤ, pos, ◌+ℤ◌, get_or, set, drop, replicate}

-- the first n elements are z, and the others as they were
unfoldable pub cleared : {A : Type 0} → A → ℕ → List A → List A
cleared z n l = replicate n z ++ drop n l

-- z is added to the number at place k
abbrev pub plus : List ℤ → ℕ → ℤ → List ℤ
plus l k z = set l k (get_or l k (pos 0) +ℤ z)
