-- Texts in turn, as a loop writes them.
-- Assumes nothing.
use mathlib.Core.Bool.{cond}
use mathlib.Core.List.{List, [], ◌∷◌, ◌++◌}
use mathlib.Core.Path.{◌≡◌, sym, ap, ◌∙◌}
use Prim.Native.Nat.{ℕ, suc, ◌+◌, ◌≤◌}
use native.Mathlib.Numerals.{add-one}
use lib.Dec.{ltb}
use lib.ListN.{length}
use Rattle.rules.specs.Words.{fold}
use Rattle.rules.specs.Cycle.{phase_end}
use Rattle.rules.specs.Text.{digits}
use Rattle.rules.specs.Listing.{in_turn, phases_in, end_of_phase}
use Rattle.sheet.specs.Overlaid.{Wrote}
use Rattle.sheet.proofs.Overlaid.{nothing, wrote_then, wrote_is}

-- none yet
pub none_in_turn : (f : ℕ → List ℕ) (out : List ℕ) (at : ℕ) → Wrote 0 out at (in_turn f 0) out at
unfolding fold
none_in_turn f out at = nothing out at

-- one more
pub more_in_turn : {out o₁ o₂ : List ℕ} {at r₁ r₂ m k : ℕ} (f : ℕ → List ℕ) (n : ℕ) → Wrote m out at (in_turn f n) o₁ r₁ → Wrote k o₁ r₁ (f n) o₂ r₂ → at ≤ length out
    → Wrote (m + k) out at (in_turn f (n + 1)) o₂ r₂
unfolding fold
more_in_turn f n w v h = wrote_is (wrote_then w v h) (ap (in_turn f) (sym (add-one n)))

-- the end of phase k of n, as it is written
pub end_is : (b : List ℕ) (k n e s : ℕ) → e ≡ phase_end b k → s ≡ cond (ltb (suc k) n) 32 10 → n ≡ phases_in b → digits e ++ s ∷ [] ≡ end_of_phase b k
end_is b k n e s p q r = λ i. digits (p i) ++ (q ∙ ap (λ (m : ℕ). cond (ltb (suc k) m) 32 10) r) i ∷ []
