-- "Fields of a one-byte tag, a two-byte length and the value; all numbers big-endian.": what stands at the front of the bytes, by any table.
-- Assumes nothing.
use Rattle.std.specs.Prelude.{List, ℕ, ◌+◌, leb, ltb, length, get_or, take, drop}
use Rattle.rules.specs.Words.{be, unless}
use Rattle.rules.specs.Table.{Row, is_tag, length_allowed}

-- "a one-byte tag, a two-byte length and the value"
pub record Field : Type 0 where
  pub tag : ℕ
  pub value : List ℕ

-- how many bytes it takes: tag, length and value
abbrev pub bytes_of : Field → ℕ
bytes_of f = 3 + length f.value

-- an "incomplete" field, an "unknown tag" or "impossible length", a whole field
pub data Front : Type 0 where
  incomplete : Front
  impossible : Front
  field : Field → Front

-- the field of the tag and length at the front, behind which other bytes may stand
abbrev pub field_in : List ℕ → Field
field_in i = record { tag = get_or i 0 0; value = take (be 2 i 1) (drop 3 i) }

-- "Bytes that begin a field but do not finish it, and no bytes at all, are answered "incomplete". .. An unknown tag is refused from its first byte,
-- a length not allowed for its tag from the third."
unfoldable pub front_of : {M : Type 0} → List (Row M) → List ℕ → Front
front_of rows i =
    unless incomplete (ltb 0 (length i))
    (unless impossible (is_tag rows (get_or i 0 0))
    (unless incomplete (leb 3 (length i))
    (unless impossible (length_allowed rows (get_or i 0 0) (be 2 i 1))
    (unless incomplete (leb (3 + be 2 i 1) (length i))
    (field (field_in i))))))
