-- Two machines whose states are related: where every whole field is answered alike, all bytes are. One law joins the code's state with lists.
-- Assumes nothing.
use mathlib.Core.Bool.{true}
use mathlib.Core.List.{List}
use mathlib.Core.Path.{◌≡◌, refl, ap}
use Prim.Native.Nat.{ℕ, zero, suc, ◌+◌}
use lib.ListN.{length, drop}
use Rattle.rules.specs.Table.{Row, length_allowed}
use Rattle.rules.specs.Front.{Field, Front, incomplete, impossible, field, bytes_of, front_of}
use Rattle.rules.specs.Machine.{Answer, taken, passed, refused, End, waiting, broken, Ran, Move, on, off, move_by, go_on, reply_at, move_at, upto, run}
use Rattle.laws.proofs.Moves.{move_as}
use Rattle.laws.proofs.Fronts.{front_allowed}

module _ {S R : Type 0} (P : S → R → Type 0) where
  -- two answers that are alike
  pub data Alike : Answer S → Answer R → Type 0 where
    both_taken : {s : S} {r : R} → P s r → Alike (taken s) (taken r)
    both_passed : {s : S} {r : R} → P s r → Alike (passed s) (passed r)
    both_refused : (n : ℕ) → Alike (refused n) (refused n)

  pub record AlikeRan (x : Ran S) (y : Ran R) : Type 0 where
    pub state : P x.state y.state
    pub fields : x.fields ≡ y.fields
    pub used : x.used ≡ y.used
    pub end : x.end ≡ y.end

  data AlikeMove : Move S → Move R → Type 0 where
    both_on : {s : S} {r : R} (m : ℕ) → P s r → AlikeMove (on s m) (on r m)
    both_off : (e : End) → AlikeMove (off e) (off e)

  move_alike : (x : Answer S) (y : Answer R) (n : ℕ) → Alike x y → AlikeMove (move_by x n) (move_by y n)
  move_alike x y n (both_taken p) = both_on n p
  move_alike x y n (both_passed p) = both_on n p
  move_alike x y n (both_refused k) = both_off _

  go_alike : (s : S) (r : R) (x : Move S) (y : Move R) (f : S → ℕ → Ran S) (g : R → ℕ → Ran R) → P s r → AlikeMove x y
      → ((s : S) (r : R) (m : ℕ) → P s r → AlikeRan (f s m) (g r m)) → AlikeRan (go_on s x f) (go_on r y g)
  go_alike s r x y f g p (both_on {s = a} {r = b} m q) next =
      let w = next a b m q in
      record { state = w.state; fields = ap suc w.fields; used = ap (λ (z : ℕ). m + z) w.used; end = w.end }
  go_alike s r x y f g p (both_off e) next = record { state = p; fields = refl; used = refl; end = refl }

  -- by any tags, with any two steps
  module _ {M : Type 0} (rows : List (Row M)) (act : S → Field → Answer S) (act' : R → Field → Answer R)
      (alike : (s : S) (r : R) → P s r → (f : Field) → length_allowed rows f.tag (length f.value) ≡ true → Alike (act s f) (act' r f)) where
    moves_alike : (s : S) (r : R) (i : List ℕ) → P s r → AlikeMove (move_at rows act s i) (move_at rows act' r i)
    unfolding reply_at
    moves_alike s r i p = go (front_of rows i) refl
      where
        go : (x : Front) → front_of rows i ≡ x → AlikeMove (move_as rows act s x) (move_as rows act' r x)
        go impossible e = both_off broken
        go incomplete e = both_off waiting
        go (field f) e = move_alike (act s f) (act' r f) (bytes_of f) (alike s r p f (front_allowed rows i f e))

    upto_alike : (n : ℕ) (s : S) (r : R) (i : List ℕ) → P s r → AlikeRan (upto rows act n s i) (upto rows act' n r i)
    unfolding upto
    upto_alike zero s r i p = record { state = p; fields = refl; used = refl; end = refl }
    upto_alike (suc n) s r i p =
        go_alike s r (move_at rows act s i) (move_at rows act' r i) _ _ p (moves_alike s r i p) (λ s' r' m q. upto_alike n s' r' (drop m i) q)

    pub runs_alike : (s : S) (r : R) (i : List ℕ) → P s r → AlikeRan (run rows act s i) (run rows act' r i)
    runs_alike s r i p = upto_alike (length i) s r i p
