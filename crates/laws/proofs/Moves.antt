-- One field of any machine: how many bytes it takes, and that it is the same whatever follows it.
-- Assumes nothing.
use mathlib.Core.Bool.{false≢true}
use mathlib.Core.List.{List, [], ◌++◌}
use mathlib.Core.Path.{◌≡◌, refl, ap}
use Prim.Native.Nat.{ℕ, ◌+◌, ◌≤◌}
use native.Mathlib.Omega.{arith}
use lib.ListN.{length}
use Rattle.rules.specs.Table.{Row}
use Rattle.rules.specs.Front.{Field, Front, incomplete, impossible, field, bytes_of, front_of}
use Rattle.rules.specs.Machine.{Answer, taken, passed, refused, End, waiting, Ran, Move, on, off, move_by, ends, onwards, go_on, move_of, reply_as, reply_at, move_at}
use Rattle.laws.proofs.Fronts.{front_whole, front_none, front_longer}

-- a field that is accepted takes its bytes
pub uses : {S : Type 0} (a : Answer S) (n m : ℕ) (s : S) → move_by a n ≡ on s m → n ≡ m
uses (taken t) n m s e = cc
uses (passed t) n m s e = cc
uses (refused x) n m s e = absurd (false≢true cc)

-- a field that is refused is not unfinished
pub never_waits : {S : Type 0} (a : Answer S) (n : ℕ) → move_by a n ≡ off waiting → ⊥
never_waits (taken t) n e = false≢true cc
never_waits (passed t) n e = false≢true cc
never_waits (refused x) n e = false≢true cc

module _ {M S : Type 0} (rows : List (Row M)) (take : S → Field → Answer S) where
  -- by what stands at the front
  abbrev pub move_as : S → Front → Move S
  move_as s x = move_of (reply_as rows take s x)

  -- a field has at least three bytes, and they stand in the input
  pub move_size : (s : S) (i : List ℕ) (s' : S) (m : ℕ) → move_at rows take s i ≡ on s' m → (3 ≤ m) × (m ≤ length i)
  unfolding reply_at
  move_size s i s' m = go (front_of rows i) refl
    where
      go : (x : Front) → front_of rows i ≡ x → move_as s x ≡ on s' m → (3 ≤ m) × (m ≤ length i)
      go impossible e h = absurd (false≢true cc)
      go incomplete e h = absurd (false≢true cc)
      go (field f) e h =
          let w = front_whole rows i f e in
          let u = uses (take s f) (bytes_of f) m s' h in
          (omega (arith, w.size), omega (arith, w.size, w.long))

  -- "no bytes at all, are answered "incomplete""
  pub move_none : (s : S) → move_at rows take s [] ≡ off waiting
  unfolding reply_at
  move_none s = ap (move_as s) (front_none rows)

  -- what is not incomplete is the same, whatever follows it
  pub move_longer : (s : S) (p q : List ℕ) → (move_at rows take s p ≡ off waiting → ⊥) → move_at rows take s (p ++ q) ≡ move_at rows take s p
  unfolding reply_at
  move_longer s p q h = ap (move_as s) (front_longer rows p q (λ e. h (ap (move_as s) e)))

-- ---- what follows a field

module _ {S : Type 0} where
  -- by cases: the end, or on
  pub by_move : (P : Ran S → Type 0) (s : S) (x : Move S) (f : S → ℕ → Ran S) → ((e : End) → x ≡ off e → P (ends s e))
      → ((s' : S) (m : ℕ) → x ≡ on s' m → P (onwards m (f s' m))) → P (go_on s x f)
  by_move P s (on s' m) f end going = going s' m refl
  by_move P s (off e) f end going = end e refl

  pub same_next : (s : S) (x : Move S) (f g : S → ℕ → Ran S) → ((s' : S) (m : ℕ) → x ≡ on s' m → f s' m ≡ g s' m) → go_on s x f ≡ go_on s x g
  same_next s (on s' m) f g e = ap (onwards m) (e s' m refl)
  same_next s (off e) f g h = refl
