-- How long the lines of the field list can be, and what of it one field at the front of bytes brings.
-- Assumes nothing.
use Rattle.std.specs.Prelude.{List, [], ◌≡◌, ℕ, ◌+◌, ◌≤◌}
use Rattle.rules.specs.declared.Spot.{Spot}
use Rattle.rules.specs.Front.{Front, incomplete, impossible, field, bytes_of}
use Rattle.rules.specs.Listing.{spot_after, field_line}

-- no line is longer; and as a field has three bytes or more, no more bytes of lines come of a byte
abbrev pub per_byte : ℕ
per_byte = 55

abbrev pub most_line : ℕ
most_line = 165

-- n can be added to each count of the spot
abbrev pub most_count : ℕ
most_count = 18_446_744_073_709_551_615

pub record Counts (p : Spot) (n : ℕ) : Type 0 where
  pub fields : p.fields + n ≤ most_count
  pub offset : p.offset + n ≤ most_count
  pub blocks : p.blocks + n ≤ most_count

-- what the field at the front brings, if there is one: how many bytes it has, where the list stands behind it, its line
abbrev pub front_used : Front → ℕ
front_used incomplete = 0
front_used impossible = 0
front_used (field f) = bytes_of f

abbrev pub front_spot : Spot → Front → Spot
front_spot p incomplete = p
front_spot p impossible = p
front_spot p (field f) = spot_after p f

abbrev pub front_text : Spot → Front → List ℕ
front_text p incomplete = []
front_text p impossible = []
front_text p (field f) = field_line p f

-- there is one, of n bytes, and the list stands there behind it
pub record Takes (p : Spot) (z : Front) (behind : Spot) (n : ℕ) : Type 0 where
  pub used : n ≡ front_used z
  pub spot : behind ≡ front_spot p z
  pub least : 3 ≤ n
