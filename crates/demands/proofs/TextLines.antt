-- The lines of a text, one by one; and digits, which tell their number.
-- Assumes nothing.
use mathlib.Core.Bool.{Bool, true, not, false≢true}
use mathlib.Core.List.{List, [], ◌∷◌, ◌++◌, append_assoc}
use mathlib.Core.Logic.{⊎_elim}
use mathlib.Core.Path.{◌≡◌, refl, sym, ap, subst, ◌∙◌}
use Prim.Native.Nat.{ℕ, zero, suc, ◌+◌, ◌-◌, ◌*◌, ◌/◌, ◌%◌, ◌≤◌, ◌<◌}
use native.Mathlib.Nat.{div-add-mod', le_refl, not-suc-le-zero}
use native.Mathlib.Omega.{arith}
use borrow.Author.Tests.{ne_eqb, not-true}
use lib.Dec.{eqb}
use lib.IntN.{ℤ, pos, negsuc}
use lib.ListN.{length, get_or}
use Rattle.rules.specs.Words.{every}
use Rattle.numbers.proofs.Order.{side}
use Rattle.numbers.proofs.Tests.{both, all_at, every_by, every_append}
use Rattle.rules.specs.Text.{digits, signed, spaced, line}
use Rattle.rules.specs.Values.{is_character, is_number}
use Rattle.sheet.proofs.Digits.{tenth, digits_small, digits_more}
use Rattle.demands.specs.Range.{first_line, behind_line}

-- ---- bytes that are no newline

abbrev pub is_plain : ℕ → Bool
is_plain b = not (eqb b 10)

-- 10 is no character
plain_character : (b : ℕ) → is_character b ≡ true → is_plain b ≡ true
unfolding is_character
plain_character b h = ap not (ne_eqb b 10 (λ e. false≢true (subst (λ (c : ℕ). is_character c ≡ true) e h)))

-- a vehicle number is
pub plain_number : (v : List ℕ) → is_number v ≡ true → length v ≡ 17 → every is_plain v ≡ true
unfolding is_number
plain_number v h n = every_by is_plain v 0 (λ k l. plain_character _ (all_at 17 (λ j. is_character (get_or v j 0)) h k (omega (arith, n))))

-- ---- digits

digit_plain : (d : ℕ) → every is_plain ((48 + d) ∷ []) ≡ true
digit_plain d = rw (ne_eqb (48 + d) 10 (λ q. absurd (omega (arith, q)))) refl

plain_below : (k n : ℕ) → n < k → every is_plain (digits n) ≡ true
plain_below zero n h = absurd (not-suc-le-zero h)
plain_below (suc k) n h =
    ⊎_elim
    (λ (l : 10 ≤ n). rw (digits_more n l) (every_append is_plain (digits (n / 10)) ((48 + n % 10) ∷ []) (plain_below k (n / 10) (omega (arith, tenth n l))) (digit_plain (n % 10))))
    (λ (l : n < 10). rw (digits_small n l) (digit_plain n))
    (side 10 n)

pub plain_digits : (n : ℕ) → every is_plain (digits n) ≡ true
plain_digits n = plain_below (suc n) n (le_refl (suc n))

pub plain_signed : (z : ℤ) → every is_plain (signed z) ≡ true
unfolding signed
plain_signed (pos n) = plain_digits n
plain_signed (negsuc n) = plain_digits (suc n)

-- the number that they are read as, behind what was read before
value : ℕ → List ℕ → ℕ
value n [] = n
value n (b ∷ t) = value (10 * n + (b - 48)) t

value_last : (n : ℕ) (t : List ℕ) (b : ℕ) → value n (t ++ b ∷ []) ≡ 10 * value n t + (b - 48)
unfolding value
value_last n [] b = refl
value_last n (c ∷ t) b = value_last (10 * n + (c - 48)) t b

value_below : (k n : ℕ) → n < k → value 0 (digits n) ≡ n
unfolding value
value_below zero n h = absurd (not-suc-le-zero h)
value_below (suc k) n h =
    ⊎_elim
    (λ (l : 10 ≤ n).
    ap (value 0) (digits_more n l) ∙ value_last 0 (digits (n / 10)) (48 + n % 10)
    ∙ omega (arith, value_below k (n / 10) (omega (arith, tenth n l)), div-add-mod' n 10))
    (λ (l : n < 10). ap (value 0) (digits_small n l) ∙ omega arith)
    (side 10 n)

pub digits_tell : (m n : ℕ) → digits m ≡ digits n → m ≡ n
digits_tell m n e = sym (value_below (suc m) m (le_refl (suc m))) ∙ ap (value 0) e ∙ value_below (suc n) n (le_refl (suc n))

-- ---- lines

-- a plain text and a newline
first_line_lem : (a t : List ℕ) → every is_plain a ≡ true → first_line (a ++ 10 ∷ t) ≡ a
unfolding first_line
first_line_lem [] t h = refl
first_line_lem (b ∷ a) t h = let (p, q) = both (is_plain b) _ h in rw (not-true (eqb b 10) p) (ap (λ (r : List ℕ). b ∷ r) (first_line_lem a t q))

behind_line_lem : (a t : List ℕ) → every is_plain a ≡ true → behind_line (a ++ 10 ∷ t) ≡ t
unfolding behind_line
behind_line_lem [] t h = refl
behind_line_lem (b ∷ a) t h = let (p, q) = both (is_plain b) _ h in rw (not-true (eqb b 10) p) (behind_line_lem a t q)

-- a word and a value
module _ (word value t : List ℕ) (w : every is_plain word ≡ true) (v : every is_plain value ≡ true) where
  line_is : line word value ++ t ≡ (spaced word ++ value) ++ 10 ∷ t
  unfolding line
  line_is = simp append_assoc

  both_plain : every is_plain (spaced word ++ value) ≡ true
  both_plain = every_append is_plain (spaced word) value (every_append is_plain word (32 ∷ []) w refl) v

  pub first_of_line : first_line (line word value ++ t) ≡ spaced word ++ value
  first_of_line = ap first_line line_is ∙ first_line_lem (spaced word ++ value) t both_plain

  pub behind_of_line : behind_line (line word value ++ t) ≡ t
  behind_of_line = ap behind_line line_is ∙ behind_line_lem (spaced word ++ value) t both_plain

-- a word more
pub words_line : (a b value t : List ℕ) → (spaced a ++ line b value) ++ t ≡ line (spaced a ++ b) value ++ t
unfolding line
words_line a b value t = simp append_assoc
