-- Laws of tests: joined, at every number below n as a loop builds it, at every element, and along a chain of refusals.
-- Assumes nothing.
use mathlib.Core.Bool.{Bool, true, false, not, ◌&&◌, false≢true, and-true, and-false, and_assoc}
use mathlib.Core.List.{List, [], ◌∷◌, ◌++◌}
use mathlib.Core.Logic.{◌⊎◌, inl, inr, ⊎_elim}
use mathlib.Core.Path.{◌≡◌, refl, sym, ap, ap₂, subst, ◌∙◌}
use Prim.Native.Nat.{ℕ, zero, suc, ◌+◌, ◌*◌, ◌≤◌, ◌<◌, zero-le, suc-le-suc}
use native.Mathlib.Nat.{le_refl, le_step, le_of_suc-le-suc, not-suc-le-zero, eq-or-lt_of_le, add-zero, add-suc, zero-add, mul-zero, mul-suc}
use native.Mathlib.Numerals.{add-one}
use native.Mathlib.Omega.{arith}
use lib.Dec.{T, T_not, leb, leb→le, le→leb}
use lib.ListN.{length, get_or}
use borrow.Author.Tests.{lt-ltb, le-ltb, le-leb, lt-leb, eq-eqb, ne_eqb}
use Rattle.std.specs.List.{list_all, range_with_len}
use Rattle.rules.specs.Words.{table, bit, all_below, every, unless, settled}

-- ---- two tests

pub both : (x y : Bool) → (x && y) ≡ true → (x ≡ true) × (y ≡ true)
both true y e = (refl, e)
both false y e = absurd (false≢true e)

-- the same of `T`
pub both_T : (x y : Bool) → T (x && y) → T x × T y
both_T true y t = (tt, t)
both_T false y t = absurd t

pub and_T : (x y : Bool) → T x → T y → T (x && y)
and_T true y s t = t
and_T false y s t = s

-- a joint test whose parts pass more often, a test that fails more often, an order that is looser
pub and_mono : (a b c d : Bool) → (T a → T c) → (T b → T d) → T (a && b) → T (c && d)
and_mono a b c d f g t = let (s, r) = both_T a b t in and_T c d (f s) (g r)

pub not_mono : (a b : Bool) → (T a → T b) → T (not b) → T (not a)
not_mono true b f t = absurd (T_not b t (f tt))
not_mono false b f t = tt

pub leb_mono : {a b c d : ℕ} → c ≤ a → b ≤ d → T (leb a b) → T (leb c d)
leb_mono {a} {b} h g t = omega (arith, leb→le, le→leb)

-- a test that would be absurd, were it true
pub refuted : (x : Bool) → (x ≡ true → ⊥) → x ≡ false
refuted true h = absurd (h refl)
refuted false h = refl

pub true_T : {x : Bool} → x ≡ true → T x
true_T e = subst T (sym e) tt

pub T_true : (x : Bool) → T x → x ≡ true
T_true true t = refl
T_true false t = absurd t

-- ---- the number of a test

pub bit_le : (a b : Bool) → (T a → T b) → bit a ≤ bit b
bit_le true true f = le_refl 1
bit_le true false f = absurd (f tt)
bit_le false b f = zero-le

pub bit_most : (b : Bool) → bit b ≤ 1
bit_most true = le_refl 1
bit_most false = zero-le

-- ---- at every number below n

pub all_more : (n : ℕ) (f : ℕ → Bool) → all_below n f ≡ true → f n ≡ true → all_below (n + 1) f ≡ true
unfolding all_below
all_more n f p q = rw add-one (ap (λ (x : Bool). x && f n) p ∙ q)

pub all_fails : (n k : ℕ) (f : ℕ → Bool) → k < n → f k ≡ false → all_below n f ≡ false
unfolding all_below
all_fails zero k f l q = absurd (not-suc-le-zero l)
all_fails (suc n) k f l q =
    ⊎_elim
    (λ e. ap (λ (x : Bool). all_below n f && x) (subst (λ (m : ℕ). f m ≡ false) e q) ∙ and-false (all_below n f))
    (λ h. ap (λ (x : Bool). x && f n) (all_fails n k f h q))
    (eq-or-lt_of_le (le_of_suc-le-suc l))

pub all_at : (n : ℕ) (f : ℕ → Bool) → all_below n f ≡ true → (k : ℕ) → k < n → f k ≡ true
unfolding all_below
all_at zero f e k h = absurd (not-suc-le-zero h)
all_at (suc n) f e k h =
    let (r, l) = both (all_below n f) (f n) e in
    ⊎_elim (λ p. ap f p ∙ l) (λ p. all_at n f r k p) (eq-or-lt_of_le (le_of_suc-le-suc h))

pub all_by_lem : (n : ℕ) (test : ℕ → Bool) → ((k : ℕ) → k < n → test k ≡ true) → all_below n test ≡ true
unfolding all_below
all_by_lem zero test h = refl
all_by_lem (suc n) test h = rw (all_by_lem n test (λ k l. h k (le_step l))) (h n (le_refl (suc n)))

pub all_same : (n : ℕ) (f g : ℕ → Bool) → ((k : ℕ) → k < n → f k ≡ g k) → all_below n f ≡ all_below n g
unfolding all_below
all_same zero f g h = refl
all_same (suc n) f g h = ap₂ ◌&&◌ (all_same n f g (λ k l. h k (le_step l))) (h n (le_refl (suc n)))

-- the first number apart
all_front : (n : ℕ) (f : ℕ → Bool) → all_below (suc n) f ≡ (f 0 && all_below n (λ k. f (suc k)))
unfolding all_below
all_front zero f = sym (and-true (f 0))
all_front (suc n) f = ap (λ (x : Bool). x && f (suc n)) (all_front n f) ∙ and_assoc (f 0) (all_below n (λ k. f (suc k))) (f (suc n))

-- as an iterator's `all` tests the numbers of a range
all_range_from : (a n : ℕ) (f : ℕ → Bool) → list_all f (range_with_len a n) ≡ all_below n (λ k. f (a + k))
unfolding all_below
all_range_from a zero f = refl
all_range_from a (suc n) f =
    ap (λ (x : Bool). f a && x)
    (all_range_from (a + 1) n f ∙ all_same n (λ k. f (a + 1 + k)) (λ k. f (a + suc k)) (λ k l. ap f (omega arith)))
    ∙ ap (λ (j : ℕ). f j && all_below n (λ k. f (a + suc k))) (sym (add-zero a))
    ∙ sym (all_front n (λ k. f (a + k)))

pub all_range : (n : ℕ) (f : ℕ → Bool) → list_all f (range_with_len 0 n) ≡ all_below n f
all_range n f = all_range_from 0 n f ∙ all_same n (λ k. f (0 + k)) f (λ k l. ap f (zero-add k))

-- the first a numbers, and b more
all_split : (a b : ℕ) (f : ℕ → Bool) → all_below (a + b) f ≡ (all_below a f && all_below b (λ k. f (a + k)))
unfolding all_below
all_split a zero f = rw (add-zero a) (sym (and-true (all_below a f)))
all_split a (suc b) f =
    rw (add-suc a b)
    (ap (λ (x : Bool). x && f (a + b)) (all_split a b f) ∙ and_assoc (all_below a f) (all_below b (λ k. f (a + k))) (f (a + b)))

-- n numbers at a time
pub all_rows : (n m : ℕ) (f : ℕ → Bool) → all_below m (λ c. all_below n (λ k. f (n * c + k))) ≡ all_below (n * m) f
unfolding all_below
all_rows n zero f = rw (mul-zero n) refl
all_rows n (suc m) f =
    rw (mul-suc n m) (ap (λ (x : Bool). x && all_below n (λ k. f (n * m + k))) (all_rows n m f) ∙ sym (all_split (n * m) n f))

-- a loop tests the numbers below n, and all below k have passed
pub record Passing (n : ℕ) (test : ℕ → Bool) (k : ℕ) : Type 0 where
  pub most : k ≤ n
  pub all : all_below k test ≡ true

pub passing_none : {n : ℕ} {test : ℕ → Bool} → Passing n test 0
unfolding all_below
passing_none = record { most = zero-le; all = refl }

pub passing_more : {n : ℕ} {test : ℕ → Bool} {k : ℕ} → Passing n test k → k < n → test k ≡ true → Passing n test (k + 1)
passing_more {n} {test} {k} p h e = record { most = omega arith; all = all_more k test p.all e }

pub passing_all : {n : ℕ} {test : ℕ → Bool} {k : ℕ} → Passing n test k → n ≤ k → true ≡ all_below n test
passing_all {n} {test} {k} p h = let e : k ≡ n = omega arith in sym (subst (λ (m : ℕ). all_below m test ≡ true) e p.all)

-- ---- at every element

module _ {A : Type 0} (p : A → Bool) where
  pub every_at : (a : List A) (d : A) → every p a ≡ true → (i : ℕ) → i < length a → p (get_or a i d) ≡ true
  every_at [] d e i h = absurd (not-suc-le-zero h)
  every_at (x ∷ a) d e zero h = (both (p x) (every p a) e).0
  every_at (x ∷ a) d e (suc i) h = every_at a d (both (p x) (every p a) e).1 i (le_of_suc-le-suc h)

  pub every_by : (a : List A) (d : A) → ((i : ℕ) → i < length a → p (get_or a i d) ≡ true) → every p a ≡ true
  every_by [] d h = refl
  every_by (x ∷ a) d h =
      ap (λ (y : Bool). y && every p a) (h 0 (suc-le-suc zero-le)) ∙ every_by a d (λ i l. h (suc i) (suc-le-suc l))

  pub every_append : (a c : List A) → every p a ≡ true → every p c ≡ true → every p (a ++ c) ≡ true
  every_append [] c e f = f
  every_append (x ∷ a) c e f =
      let (h, t) = both (p x) (every p a) e in
      ap (λ (y : Bool). y && every p (a ++ c)) h ∙ every_append a c t f

  pub every_table : (f : ℕ → A) (n : ℕ) → ((k : ℕ) → k < n → p (f k) ≡ true) → every p (table f n) ≡ true
  unfolding table
  every_table f zero h = refl
  every_table f (suc n) h =
      ap (λ (y : Bool). y && every p (table (λ j. f (suc j)) n)) (h 0 (suc-le-suc zero-le)) ∙ every_table (λ j. f (suc j)) n (λ k l. h (suc k) (suc-le-suc l))

-- ---- along a chain of refusals: a test that holds is passed, and one that fails is the answer

pub pass : {A : Type 0} {r a : A} {b : Bool} (refusal : A) → b ≡ true → r ≡ a → r ≡ unless refusal b a
unfolding unless
pass refusal e h = rw e h

pub stop : {A : Type 0} {refusal : A} {b : Bool} (rest : A) → b ≡ false → refusal ≡ unless refusal b rest
unfolding unless
stop rest e = rw e

-- a chain's answer is its first refusal, whose test fails, or that of the rest
pub first_or_rest : {A : Type 0} (refusal answer : A) (t : Bool) (rest : A) → unless refusal t rest ≡ answer
    → ((t ≡ false) × (refusal ≡ answer)) ⊎ ((t ≡ true) × (rest ≡ answer))
unfolding unless
first_or_rest refusal answer true rest e = inr (refl, e)
first_or_rest refusal answer false rest e = inl (refl, e)

-- a chain whose answer is not its first refusal: its first test passes, and the rest gives the answer
pub passed : {A : Type 0} (refusal answer : A) (t : Bool) (rest : A) → (refusal ≡ answer → ⊥) → unless refusal t rest ≡ answer → (t ≡ true) × (rest ≡ answer)
passed refusal answer t rest h e = ⊎_elim (λ f. absurd (h f.1)) (λ p. p) (first_or_rest refusal answer t rest e)

-- a chain of numbers that refuses nothing
pub not_refused : (n : ℕ) (t : Bool) (rest : ℕ) → unless (suc n) t rest ≡ 0 → (t ≡ true) × (rest ≡ 0)
not_refused n t rest e = passed (suc n) 0 t rest (λ (f : suc n ≡ 0). omega arith) e

-- ---- by the number of a refusal

pub settled_taken : {A : Type 0} {n : ℕ} {a : A} (b : A) → n ≡ 0 → settled n a b ≡ a
settled_taken {n = n} b e = rw (eq-eqb n 0 e)

pub settled_refused : {A : Type 0} {n : ℕ} (a : A) {b : A} → (n ≡ 0 → ⊥) → settled n a b ≡ b
settled_refused {n = n} a h = rw (ne_eqb n 0 h)

-- a call that finds x, the number n of its refusal, not 0 answers with it
pub settled_answer : {A : Type 0} {x n : ℕ} (answer : ℕ → A) (new : A) → x ≡ n → (x ≡ 0 → ⊥) → answer x ≡ settled n new (answer n)
settled_answer answer new e d = ap answer e ∙ sym (settled_refused new (λ z. d (e ∙ z)))

-- for `omega`, at a test of numbers
pub ruleset tests = (arith, lt-ltb, le-ltb, le-leb, lt-leb, eq-eqb)
