-- Words that the rules are said in: a fold over the numbers below n, tests, chains of refusals, numbers of several bytes, letters, integers.
-- Assumes nothing.
use Rattle.std.specs.Prelude.{Bool, true, false, cond, ◌&&◌, List, [], ◌∷◌, ℕ, zero, suc, ◌+◌, ◌-◌, ◌*◌, min, max, eqb, ℤ, pos, negsuc, ◌+ℤ◌, get_or}
use Prim.Native.Char.{code}
use Prim.Native.String.{String, len, char_at}
use Rattle.std.specs.Int.Signed.{le_z}

-- ---- over the numbers below n

-- z ⊕ f 0 ⊕ f 1 ⊕ .. ⊕ f (n - 1), taken from the left
unfoldable pub fold : {A B : Type 0} → (B → A → B) → B → (ℕ → A) → ℕ → B
fold op z f zero = z
fold op z f (suc n) = op (fold op z f n) (f n)

-- the sum of f 0, .., f (n - 1): of numbers, and of signed numbers
abbrev pub sum : (ℕ → ℕ) → ℕ → ℕ
sum = fold ◌+◌ 0

abbrev pub sumℤ : (ℕ → ℤ) → ℕ → ℤ
sumℤ = fold ◌+ℤ◌ (pos 0)

-- the sum of f j over the j below n that pass the test: of numbers, and of signed numbers
unfoldable pub gather : {A : Type 0} → (A → A → A) → A → (ℕ → Bool) → (ℕ → A) → ℕ → A
gather op z test f = fold op z (λ j. cond (test j) (f j) z)

abbrev pub sum_of : (ℕ → Bool) → (ℕ → ℕ) → ℕ → ℕ
sum_of = gather ◌+◌ 0

abbrev pub sum_ofℤ : (ℕ → Bool) → (ℕ → ℤ) → ℕ → ℤ
sum_ofℤ = gather ◌+ℤ◌ (pos 0)

-- the least and the greatest of f a, f (a + 1), .., f e
abbrev pub least : (ℕ → ℕ) → ℕ → ℕ → ℕ
least f a e = fold min (f a) (λ k. f (a + suc k)) (e - a)

abbrev pub greatest : (ℕ → ℕ) → ℕ → ℕ → ℕ
greatest f a e = fold max (f a) (λ k. f (a + suc k)) (e - a)

-- the first j below n that passes the test, and n where none does
unfoldable pub first : (ℕ → Bool) → ℕ → ℕ
first test zero = zero
first test (suc n) = let r = suc (first (λ j. test (suc j)) n) in cond (test 0) 0 r

-- f 0, f 1, .., f (n - 1), as a list
unfoldable pub table : {A : Type 0} → (ℕ → A) → ℕ → List A
table f zero = []
table f (suc n) = let r = table (λ j. f (suc j)) n in f 0 ∷ r

-- ---- tests and refusals

-- 1 where the test passes, else 0
abbrev pub bit : Bool → ℕ
bit b = cond b 1 0

-- the test passes at every number below n
unfoldable pub all_below : ℕ → (ℕ → Bool) → Bool
all_below zero test = true
all_below (suc n) test = all_below n test && test n

-- the test passes at every element
abbrev pub every : {A : Type 0} → (A → Bool) → List A → Bool
every test [] = true
every test (x ∷ xs) = test x && every test xs

-- the refusal, unless the test passes
unfoldable pub unless : {A : Type 0} → A → Bool → A → A
unless refusal true answer = answer
unless refusal false answer = refusal

-- by the number of the refusal, 0 where there is none: what is new, or what was
abbrev pub settled : {A : Type 0} → ℕ → A → A → A
settled n new old = cond (eqb n 0) new old

-- ---- bytes: "all numbers big-endian"; a place past the last byte reads as 0

-- the number of n bytes from place i, the highest byte first
unfoldable pub be : ℕ → List ℕ → ℕ → ℕ
be zero b i = 0
be (suc n) b i = 256 * be n b i + get_or b (i + n) 0

-- both begin with the same n bytes
abbrev pub same_bytes : ℕ → List ℕ → List ℕ → Bool
same_bytes n u v = all_below n (λ k. eqb (get_or u k 0) (get_or v k 0))

-- ---- letters

-- the bytes of a text, one for each of its letters: n of them from letter i on, and all
abbrev pub letters : ℕ → ℕ → String → List ℕ
letters zero i text = []
letters (suc n) i text = code (char_at text i) ∷ letters n (suc i) text

abbrev pub spell : String → List ℕ
spell text = letters (len text) 0 text

-- ---- integers

-- z itself where it is not negative, else 0
abbrev pub up : ℤ → ℕ
up (pos n) = n
up (negsuc n) = 0

-- lo ≤ z ≤ hi
abbrev pub between : ℤ → ℤ → ℤ → Bool
between lo hi z = le_z lo z && le_z z hi

-- two integers are the same
abbrev pub eq_z : ℤ → ℤ → Bool
eq_z (pos a) (pos b) = eqb a b
eq_z (pos a) (negsuc b) = false
eq_z (negsuc a) (pos b) = false
eq_z (negsuc a) (negsuc b) = eqb a b
