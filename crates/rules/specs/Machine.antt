-- One machine that takes fields, over any state S and any step: whole fields one after another, until one is refused or the bytes end.
-- Assumes nothing.
use Rattle.std.specs.Prelude.{List, ℕ, zero, suc, ◌+◌, length, drop}
use Rattle.rules.specs.Table.{Row}
use Rattle.rules.specs.Front.{Field, Front, incomplete, impossible, field, bytes_of, front_of}

-- the answer to a whole field: taken, or "passed over", with what is read now; or "A refusal returns its number"
pub data Answer (S : Type 0) : Type 0 where
  taken : S → Answer S
  passed : S → Answer S
  refused : ℕ → Answer S

-- the answer to the bytes: to the whole field at their front, with how many bytes it takes; "incomplete"; or no field begins so, which is 8
pub data Reply (S : Type 0) : Type 0 where
  to_field : Answer S → ℕ → Reply S
  not_yet : Reply S
  no_field : Reply S

-- how it ended: where more bytes could go on ("incomplete", "no bytes at all" among it), at what no field can be (8), at a whole field refused
pub data End : Type 0 where
  waiting : End
  broken : End
  stopped : ℕ → End

-- what was taken: the state after it, how many fields are accepted, "passed-over ones among them", how many bytes they have, and how it ended
pub record Ran (S : Type 0) : Type 0 where
  pub state : S
  pub fields : ℕ
  pub used : ℕ
  pub end : End

-- one field: on, with a new state behind so many bytes, or the end
pub data Move (S : Type 0) : Type 0 where
  on : S → ℕ → Move S
  off : End → Move S

abbrev pub move_by : {S : Type 0} → Answer S → ℕ → Move S
move_by (taken s) m = on s m
move_by (passed s) m = on s m
move_by (refused n) m = off (stopped n)

abbrev pub move_of : {S : Type 0} → Reply S → Move S
move_of (to_field a m) = move_by a m
move_of not_yet = off waiting
move_of no_field = off broken

module _ {S : Type 0} where
  abbrev pub ends : S → End → Ran S
  ends s e = record { state = s; fields = 0; used = 0; end = e }

  -- one field more, of m bytes, before those that follow
  abbrev pub onwards : ℕ → Ran S → Ran S
  onwards m x = record { state = x.state; fields = suc x.fields; used = m + x.used; end = x.end }

  -- "That answer changes nothing.": the state s stays at the end
  abbrev pub go_on : S → Move S → (S → ℕ → Ran S) → Ran S
  go_on s (on s' m) next = onwards m (next s' m)
  go_on s (off e) next = ends s e

module _ {M S : Type 0} (rows : List (Row M)) (take : S → Field → Answer S) where
  abbrev pub reply_as : S → Front → Reply S
  reply_as s incomplete = not_yet
  reply_as s impossible = no_field
  reply_as s (field f) = to_field (take s f) (bytes_of f)

  -- the field at the front of the bytes
  unfoldable pub reply_at : S → List ℕ → Reply S
  reply_at s i = reply_as s (front_of rows i)

  abbrev pub move_at : S → List ℕ → Move S
  move_at s i = move_of (reply_at s i)

  -- at most n fields of the bytes
  unfoldable pub upto : ℕ → S → List ℕ → Ran S
  upto zero s i = ends s waiting
  upto (suc n) s i = go_on s (move_at s i) (λ s' m. upto n s' (drop m i))

  -- all whole fields of the bytes: each has at least one byte
  abbrev pub run : S → List ℕ → Ran S
  run s i = upto (length i) s i
