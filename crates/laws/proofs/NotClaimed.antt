-- Document 02, L11: what must not be answered a maker, each with a closing of four cycles of which it is wrong.
-- Assumes nothing.
use mathlib.Core.Bool.{false≢true}
use mathlib.Core.List.{[], ◌∷◌}
use mathlib.Core.Path.{◌≡◌, refl}
use Prim.Native.Nat.{ℕ}
use borrow.Author.Tests.{lt-ltb, le-leb, leb-true}
use lib.IntN.{pos}
use lib.ListN.{get_or}
use Rattle.rules.specs.Words.{fold, all_below, unless}
use Rattle.rules.specs.declared.Method.{Method}
use Rattle.rules.specs.declared.Method.TheVariants.{Regular as by_cycles, Shortened as with_stretches}
use Rattle.rules.specs.Closing.{weighing, least_finished, closing_refusal}
use Rattle.laws.specs.Near.{NotClaimed}

-- the first two cycles, and the last two
two : ℕ → ℕ → ℕ → ℕ
two x y c = get_or (x ∷ x ∷ y ∷ y ∷ []) c 0

-- with their energies and distances, and the whole energy E: it is not refused
unfoldable IsClosed : Method → ℕ → ℕ → ℕ → ℕ → ℕ → Type 0
IsClosed y E e e' d d' = closing_refusal (pos E) 4 (λ c. pos (two e e' c)) (λ c. pos (two d d' c)) (least_finished y) ≡ 0

-- W = 100 and R = 10, from rates of 100.9 and 101.9: R* is 9.82..
above : (y : Method) → IsClosed y 14_400 1009 1019 1000 1000
unfolding IsClosed closing_refusal fold all_below unless weighing two
above by_cycles = refl
above (with_stretches x) = refl

-- W = 1 and R = 5, from rates that are whole: R* is 5.55..
below : (y : Method) → IsClosed y 80 1 1 100 100
unfolding IsClosed closing_refusal fold all_below unless weighing two
below by_cycles = refl
below (with_stretches x) = refl

-- W = 5 and R = 4, from rates of 5.88.. and 6.89..: R* is 2.90..
far : (y : Method) → IsClosed y 288 1 2 17 29
unfolding IsClosed closing_refusal fold all_below unless weighing two
far by_cycles = refl
far (with_stretches x) = refl

pub not_claimed : (y : Method) → NotClaimed y
unfolding IsClosed fold weighing two
not_claimed y = record {
  not_by_one = λ h. false≢true (lt-ltb _ _ (h 14_400 4 (two 1009 1019) (two 1000 1000) (above y)));
  not_never_above = λ h. false≢true (le-leb _ _ (h 14_400 4 (two 1009 1019) (two 1000 1000) (above y)));
  not_rounded_up = λ h. false≢true (le-leb _ _ (h 80 4 (two 1 1) (two 100 100) (below y)));
  not_one_metre = λ h. false≢true (le-leb _ _ (h 288 4 (two 1 2) (two 17 29) (far y) (leb-true 8 8 refl)));
}
