-- The laws of a fold over the numbers below n, and of sums split by where their terms belong.
-- Assumes nothing.
use mathlib.Core.Bool.{Bool, true, false, cond, ◌&&◌}
use mathlib.Core.Logic.{⊎_elim}
use mathlib.Core.Path.{◌≡◌, refl, sym, ap, ap₂, ◌∙◌}
use Prim.Native.Nat.{ℕ, zero, suc, ◌+◌, ◌*◌, ◌≤◌, ◌<◌, zero-le}
use native.Mathlib.Decide.{le_ind}
use native.Mathlib.Nat.{le_refl, le_step, not-suc-le-zero, le_of_suc-le-suc, add-le-add, eq-or-lt_of_le, add-zero, add-suc, zero-add, mul-add, mul-one}
use native.Mathlib.Numerals.{add-one}
use native.Mathlib.Omega.{arith}
use lib.Dec.{T, eqb}
use lib.IntN.{ℤ, pos, ◌+ℤ◌, +ℤ_assoc, +ℤ_comm, +ℤ_idl, +ℤ_idr}
use borrow.Author.Tests.{eq-eqb, ne_eqb}
use Rattle.rules.specs.Words.{fold, gather, sum, sum_of}

-- one term more, as the code counts it
pub fold_more : {A B : Type 0} (op : B → A → B) (z : B) (f : ℕ → A) (k : ℕ) → fold op z f (k + 1) ≡ op (fold op z f k) (f k)
unfolding fold
fold_more op z f k = rw add-one

module _ {A : Type 0} (op : A → A → A) (z : A) where
  -- equal terms
  pub fold_same : (f g : ℕ → A) (n : ℕ) → ((k : ℕ) → k < n → f k ≡ g k) → fold op z f n ≡ fold op z g n
  unfolding fold
  fold_same f g zero h = refl
  fold_same f g (suc n) h = ap₂ op (fold_same f g n (λ k l. h k (le_step l))) (h n (le_refl (suc n)))

  -- terms from m on that change nothing
  fold_rest : (e : A) (f : ℕ → A) (m : ℕ) → ((x : A) → op x e ≡ x) → ((k : ℕ) → m ≤ k → f k ≡ e)
      → (n : ℕ) → m ≤ n → fold op z f n ≡ fold op z f m
  unfolding fold
  fold_rest e f m idr h =
      le_ind (λ n. fold op z f n ≡ fold op z f m) refl (λ k l ih. ap (op (fold op z f k)) (h k l) ∙ idr (fold op z f k) ∙ ih)

pub sum_le : (f g : ℕ → ℕ) (n : ℕ) → ((k : ℕ) → k < n → f k ≤ g k) → sum f n ≤ sum g n
unfolding fold
sum_le f g zero h = zero-le
sum_le f g (suc n) h = add-le-add (sum_le f g n (λ k l. h k (le_step l))) (h n (le_refl (suc n)))

-- no number from m on passes the test
pub gather_rest : {A : Type 0} (op : A → A → A) (z : A) → ((x : A) → op x z ≡ x) → (test : ℕ → Bool) (f : ℕ → A) (m : ℕ)
    → ((j : ℕ) → m ≤ j → T (test j) → ⊥) → (n : ℕ) → m ≤ n → gather op z test f n ≡ gather op z test f m
unfolding gather
gather_rest {A} op z idr test f m h = fold_rest op z z (λ j. cond (test j) (f j) z) m idr (λ j l. none (test j) (f j) (h j l))
  where
    none : (b : Bool) (x : A) → (T b → ⊥) → cond b x z ≡ z
    none true x g = absurd (g tt)
    none false x g = refl

-- equal terms where the test passes
pub gather_same : {A : Type 0} (op : A → A → A) (z : A) (test : ℕ → Bool) (f g : ℕ → A) (n : ℕ) → ((j : ℕ) → j < n → f j ≡ g j)
    → gather op z test f n ≡ gather op z test g n
unfolding gather
gather_same {A} op z test f g n h = fold_same op z _ _ n (λ j l. ap (λ (x : A). cond (test j) x z) (h j l))

pub gather_le : (test : ℕ → Bool) (f g : ℕ → ℕ) (n : ℕ) → ((j : ℕ) → j < n → f j ≤ g j) → sum_of test f n ≤ sum_of test g n
unfolding gather
gather_le test f g n h = sum_le _ _ n (λ j l. keep (test j) (h j l))
  where
    keep : (b : Bool) {a c : ℕ} → a ≤ c → cond b a 0 ≤ cond b c 0
    keep true l = l
    keep false l = zero-le

-- at most b for each number that passes a test that passes no less often
pub gather_most : (test more : ℕ → Bool) (f : ℕ → ℕ) (b : ℕ) → ((j : ℕ) → T (test j) → T (more j)) → (m : ℕ) → ((j : ℕ) → j < m → f j ≤ b)
    → sum_of test f m ≤ b * sum_of more (λ j. 1) m
unfolding fold gather
gather_most test more f b h zero g = zero-le
gather_most test more f b h (suc m) g =
    rw mul-add (add-le-add (gather_most test more f b h m (λ j l. g j (le_step l))) (go (test m) (more m) (h m)))
  where
    go : (d e : Bool) → (T d → T e) → cond d (f m) 0 ≤ b * cond e 1 0
    go true true i = rw mul-one (g m (le_refl (suc m)))
    go true false i = absurd (i tt)
    go false e i = zero-le

-- ---- a sum split by where its terms belong

-- the laws of a sum
pub record Sum {A : Type 0} (op : A → A → A) (z : A) : Type 0 where
  pub idl : (x : A) → op z x ≡ x
  pub idr : (x : A) → op x z ≡ x
  pub swap : (a b c d : A) → op (op a b) (op c d) ≡ op (op a c) (op b d)

pub sum_ℕ : Sum ◌+◌ 0
sum_ℕ = record { idl = zero-add; idr = add-zero; swap = λ a b c d. omega arith }

pub sum_ℤ : Sum ◌+ℤ◌ (pos 0)
sum_ℤ = record {
  idl = +ℤ_idl;
  idr = +ℤ_idr;
  swap = λ a b c d.
      +ℤ_assoc a b (c +ℤ d) ∙ ap (λ (x : ℤ). a +ℤ x) (sym (+ℤ_assoc b c d) ∙ ap (λ (x : ℤ). x +ℤ d) (+ℤ_comm b c) ∙ +ℤ_assoc c b d)
      ∙ sym (+ℤ_assoc a c (b +ℤ d));
}

module _ {A : Type 0} (op : A → A → A) (z : A) (laws : Sum op z) where
  pub fold_none : (f : ℕ → A) (n : ℕ) → ((k : ℕ) → k < n → f k ≡ z) → fold op z f n ≡ z
  unfolding fold
  fold_none f zero h = refl
  fold_none f (suc n) h = ap₂ op (fold_none f n (λ k l. h k (le_step l))) (h n (le_refl (suc n))) ∙ laws.idr z

  -- the first a terms, and c more
  pub fold_split : (f : ℕ → A) (a c : ℕ) → fold op z f (a + c) ≡ op (fold op z f a) (fold op z (λ k. f (a + k)) c)
  unfolding fold
  fold_split f a zero = rw (add-zero a) (sym (laws.idr (fold op z f a)))
  fold_split f a (suc c) =
      let first = fold op z f a in
      let more = fold op z (λ k. f (a + k)) c in
      rw (add-suc a c)
      (ap (λ (x : A). op x (f (a + c))) (fold_split f a c)
      ∙ ap (op (op first more)) (sym (laws.idl (f (a + c))))
      ∙ laws.swap first more z (f (a + c))
      ∙ ap (λ (x : A). op x (op more (f (a + c)))) (laws.idr first))

  fold_add : (f g : ℕ → A) (n : ℕ) → fold op z (λ k. op (f k) (g k)) n ≡ op (fold op z f n) (fold op z g n)
  unfolding fold
  fold_add f g zero = sym (laws.idr z)
  fold_add f g (suc n) = ap (λ (x : A). op x (op (f n) (g n))) (fold_add f g n) ∙ laws.swap _ _ _ _

  -- one term stands out
  fold_one : (q : ℕ) (x : A) (n : ℕ) → q < n → fold op z (λ k. cond (eqb q k) x z) n ≡ x
  unfolding fold
  fold_one q x zero h = absurd (not-suc-le-zero h)
  fold_one q x (suc n) h =
      ⊎_elim
      (λ e. ap₂ op
      (fold_none _ n (λ k l. ap (λ (b : Bool). cond b x z) (ne_eqb q k (λ (g : q ≡ k). omega arith))))
      (ap (λ (b : Bool). cond b x z) (eq-eqb q n e))
      ∙ laws.idl x)
      (λ l. ap₂ op (fold_one q x n l) (ap (λ (b : Bool). cond b x z) (ne_eqb q n (λ (g : q ≡ n). omega arith))) ∙ laws.idr x)
      (eq-or-lt_of_le (le_of_suc-le-suc h))

  -- what passes the test, split by a number below w that each has
  pub split : (test : ℕ → Bool) (place : ℕ → ℕ) (w : ℕ) (f : ℕ → A) (m : ℕ) → ((j : ℕ) → j < m → T (test j) → place j < w)
      → fold op z (λ k. gather op z (λ j. test j && eqb (place j) k) f m) w ≡ gather op z test f m
  unfolding fold gather
  split test place w f zero h = fold_none _ w (λ k l. refl)
  split test place w f (suc m) h =
      fold_add _ _ w ∙ ap₂ op (split test place w f m (λ j l. h j (le_step l))) (go (test m) (h m (le_refl (suc m))))
    where
      go : (b : Bool) → (T b → place m < w) → fold op z (λ k. cond (b && eqb (place m) k) (f m) z) w ≡ cond b (f m) z
      go true g = fold_one (place m) (f m) w (g tt)
      go false g = fold_none _ w (λ k l. refl)
