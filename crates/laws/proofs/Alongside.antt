-- What one machine took whole, a machine that refuses nothing takes whole too.
-- Assumes nothing.
use mathlib.Core.Bool.{false≢true}
use mathlib.Core.List.{List, [], ◌∷◌}
use mathlib.Core.Path.{◌≡◌, refl, ap, ◌∙◌}
use Prim.Native.Nat.{ℕ, zero, suc, ◌≤◌}
use native.Mathlib.Nat.{le_refl}
use native.Mathlib.Omega.{arith}
use lib.ListN.{length, drop, length-drop}
use Rattle.rules.specs.Table.{Row}
use Rattle.rules.specs.Front.{Field, Front, incomplete, impossible, field, bytes_of, front_of}
use Rattle.rules.specs.Machine.{Answer, taken, waiting, Ran, Move, on, off, move_at, reply_at, run}
use Rattle.laws.proofs.Cuts.{first_then, first_ends}
use Rattle.laws.proofs.Moves.{uses, move_as, move_size}
use Rattle.laws.proofs.Prefixes.{no_bytes}

-- all bytes are whole fields
pub record TookAll {S : Type 0} (p : List ℕ) (x : Ran S) : Type 0 where
  pub used : x.used ≡ length p
  pub end : x.end ≡ waiting

module _ {M S R : Type 0} (rows : List (Row M)) (take : S → Field → Answer S) (next : R → Field → R) where
  -- the machine that refuses nothing
  abbrev accept : R → Field → Answer R
  accept r f = taken (next r f)

  -- where the one moves, the other does
  record MovesToo (r : R) (p : List ℕ) (m : ℕ) : Type 0 where
    state : R
    move : move_at rows accept r p ≡ on state m

  moves_as : (s : S) (r : R) (p : List ℕ) (z : Front) → front_of rows p ≡ z → (s' : S) (m : ℕ) → move_as rows take s z ≡ on s' m → MovesToo r p m
  unfolding reply_at
  moves_as s r p incomplete e s' m h = absurd (false≢true cc)
  moves_as s r p impossible e s' m h = absurd (false≢true cc)
  moves_as s r p (field f) e s' m h = record { state = next r f; move = ap (move_as rows accept r) e ∙ ap (on (next r f)) (uses (take s f) (bytes_of f) m s' h) }

  moves_too : (s : S) (r : R) (p : List ℕ) (s' : S) (m : ℕ) → move_at rows take s p ≡ on s' m → MovesToo r p m
  unfolding reply_at
  moves_too s r p s' m h = moves_as s r p (front_of rows p) refl s' m h

  -- the first field, and those that follow it
  one_field : (n : ℕ) (s : S) (r : R) (b : ℕ) (q : List ℕ) → length (b ∷ q) ≤ suc n → (run rows take s (b ∷ q)).used ≡ length (b ∷ q)
      → ((s' : S) (r' : R) (p : List ℕ) → length p ≤ n → (run rows take s' p).used ≡ length p → TookAll p (run rows accept r' p))
      → (x : Move S) → move_at rows take s (b ∷ q) ≡ x → TookAll (b ∷ q) (run rows accept r (b ∷ q))
  one_field n s r b q l h later (off e) m = let none = ap (λ (x : Ran S). x.used) (first_ends rows take s (b ∷ q) e m) in absurd (omega (arith, none, h))
  one_field n s r b q l h later (on s' m) e =
      let (low, high) = move_size rows take s (b ∷ q) s' m e in
      let too = moves_too s r (b ∷ q) s' m e in
      let here = ap (λ (x : Ran S). x.used) (first_then rows take s (b ∷ q) s' m e) in
      let there = first_then rows accept r (b ∷ q) too.state m too.move in
      let size = length-drop m (b ∷ q) in
      let rest = later s' too.state (drop m (b ∷ q)) (omega (arith, size)) (omega (arith, here, h, size)) in
      record {
        used = ap (λ (x : Ran R). x.used) there ∙ omega (arith, rest.used, size);
        end = ap (λ (x : Ran R). x.end) there ∙ rest.end;
      }

  none_at_all : (r : R) → TookAll [] (run rows accept r [])
  none_at_all r = record { used = ap (λ (x : Ran R). x.used) (no_bytes rows accept r); end = ap (λ (x : Ran R). x.end) (no_bytes rows accept r) }

  no_byte : (r : R) (p : List ℕ) → length p ≤ 0 → TookAll p (run rows accept r p)
  no_byte r [] l = none_at_all r
  no_byte r (b ∷ q) l = absurd (omega arith)

  some_bytes : (n : ℕ) (s : S) (r : R) (p : List ℕ) → length p ≤ suc n → (run rows take s p).used ≡ length p
      → ((s' : S) (r' : R) (p' : List ℕ) → length p' ≤ n → (run rows take s' p').used ≡ length p' → TookAll p' (run rows accept r' p')) → TookAll p (run rows accept r p)
  some_bytes n s r [] l h later = none_at_all r
  some_bytes n s r (b ∷ q) l h later = one_field n s r b q l h later (move_at rows take s (b ∷ q)) refl

  by_bytes : (n : ℕ) (s : S) (r : R) (p : List ℕ) → length p ≤ n → (run rows take s p).used ≡ length p → TookAll p (run rows accept r p)
  by_bytes zero s r p l h = no_byte r p l
  by_bytes (suc n) s r p l h = some_bytes n s r p l h (by_bytes n)

  pub alongside : (s : S) (r : R) (p : List ℕ) → (run rows take s p).used ≡ length p → TookAll p (run rows accept r p)
  alongside s r p h = by_bytes (length p) s r p (le_refl (length p)) h
