-- What an answer of the system's read or write means. Which bytes it moved, nothing here can say.
-- Assumes nothing.
use Rattle.std.specs.Prelude.{Bool, true, false, cond, ℕ, ◌≤◌, Option, Some, None, Result, Ok, Err, IfOk}
use Rattle.std.specs.IoError.{error_kind}
use Rattle.std.specs.declared.io.Error.{Error}
use Rattle.std.specs.declared.io.ErrorKind.{ErrorKind}
use Rattle.std.specs.declared.io.ErrorKind.TheVariants.{Interrupted}

-- the call is to be made again: a signal interrupted it before it moved a byte
abbrev pub is_interruption : ErrorKind → Bool
is_interruption Interrupted = true
is_interruption kind = false

abbrev pub is_again : Error → Bool
is_again e = is_interruption (error_kind e)

-- so many bytes were moved, of a read 0 at the end; an error never is the end: it says that the call was interrupted, or failed
abbrev pub meant : Result ℕ Error → Option (Result ℕ Error)
meant (Ok n) = Some (Ok n)
meant (Err e) = cond (is_again e) None (Some (Err e))

-- of n bytes at most all were moved
abbrev pub Within : ℕ → Result ℕ Error → Type 0
Within n r = IfOk r (λ k. k ≤ n)
