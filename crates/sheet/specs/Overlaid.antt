-- Text overlaid over bytes.
-- Assumes nothing.
use Rattle.std.specs.Prelude.{List, ◌++◌, ◌≡◌, ℕ, ◌+◌, ◌≤◌, length, take, drop}

-- a buffer of this many bytes holds every sheet and every refusal
abbrev pub most_sheet : ℕ
most_sheet = 512

-- the text in place of as many bytes of out, from place at on
unfoldable pub overlaid : List ℕ → ℕ → List ℕ → List ℕ
overlaid out at text = take at out ++ text ++ drop (at + length text) out

-- the text, of at most m bytes, was overlaid over out from place at on; the result is the place after it
pub record Wrote (m : ℕ) (out : List ℕ) (at : ℕ) (text after : List ℕ) (result : ℕ) : Type 0 where
  pub most : length text ≤ m
  pub place : result ≡ at + length text
  pub bytes : after ≡ overlaid out at text
