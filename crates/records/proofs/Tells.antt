-- A state of the code that holds what some lists tell: each accepted field keeps it so.
-- Assumes nothing.
use mathlib.Core.Bool.{false≢true}
use mathlib.Core.List.{List}
use mathlib.Core.Path.{◌≡◌, refl, subst}
use Prim.Native.Nat.{ℕ}
use lib.IntN.{ℤ}
use Rattle.rules.specs.Table.{tags}
use Rattle.rules.specs.Front.{Front, incomplete, impossible, field, bytes_of, front_of}
use Rattle.rules.specs.Machine.{Answer, on, move_by, reply_at, move_at}
use Rattle.rules.specs.Record.{Told, take_field}
use Rattle.laws.proofs.Carried.{step_alike}
use Rattle.laws.proofs.Fronts.{front_allowed}
use Rattle.laws.proofs.Moves.{move_as}
use Rattle.laws.proofs.Related.{Alike, both_taken, both_passed, both_refused}
use Rattle.records.specs.Stage.{Stage, content_on, bring_on, pass_on, take_on}
use Rattle.records.proofs.Held.{Long, Holds as Holding}
use Rattle.records.proofs.Joined.{carries}

module _ (l₀ : List ℤ) (m₀ : List ℕ) (long : Long l₀ m₀) where
  abbrev Holds : Told → Stage → Type 0
  Holds = Holding l₀ m₀ long

  pub record Tells (x : Stage) : Type 0 where
    pub told : Told
    pub holds : Holds told x

  pub tells_move : (x : Stage) (i : List ℕ) (y : Stage) (m : ℕ) → move_at tags take_on x i ≡ on y m → Tells x → Tells y
  unfolding reply_at
  tells_move x i y m e h = go (front_of tags i) refl e
    where
      by_answer : (a : Answer Told) (c : Answer Stage) (n : ℕ) → Alike Holds a c → move_by c n ≡ on y m → Tells y
      by_answer a c n (both_taken {s = s} {r = r} p) q = let d : r ≡ y = cc q in record { told = s; holds = subst (Holds s) d p }
      by_answer a c n (both_passed {s = s} {r = r} p) q = let d : r ≡ y = cc q in record { told = s; holds = subst (Holds s) d p }
      by_answer a c n (both_refused k) q = absurd (false≢true cc)

      go : (w : Front) → front_of tags i ≡ w → move_as tags take_on x w ≡ on y m → Tells y
      go incomplete q g = absurd (false≢true cc)
      go impossible q g = absurd (false≢true cc)
      go (field f) q g =
          by_answer (take_field h.told f) (take_on x f) (bytes_of f)
          (step_alike (λ y. y.place) content_on bring_on pass_on Holds (carries l₀ m₀ long) h.told x h.holds f (front_allowed tags i f q)) g
