-- Laws of numbers of several bytes, whatever their width.
-- Assumes nothing.
use mathlib.Core.List.{List, ◌++◌}
use mathlib.Core.Logic.{⊎_elim}
use mathlib.Core.Path.{◌≡◌, refl, sym, ap, ap₂, ◌∙◌}
use Prim.Native.Nat.{ℕ, zero, suc, ◌+◌, ◌*◌, ◌^◌, ◌≤◌, ◌<◌}
use native.Mathlib.Nat.{le_refl, le_step, le_of_suc-le-suc, not-suc-le-zero, eq-or-lt_of_le, pow-suc, add-zero, add-suc, add_assoc}
use native.Mathlib.Omega.{arith}
use lib.Dec.{lit<}
use lib.ListN.{length, get_or, get_or-append}
use lib.Seq.{get_or-append-add}
use Rattle.rules.specs.Words.{be}

-- n bytes make a number below 256 ^ n
pub be_most : (b : List ℕ) → ((k : ℕ) → get_or b k 0 < 256) → (n i : ℕ) → be n b i < 256 ^ n
unfolding be
be_most b h zero i = lit< tt
be_most b h (suc n) i = rw pow-suc (omega (arith, be_most b h n i, h (i + n)))

pub be_two : (b : List ℕ) (i : ℕ) → be 2 b i ≡ 256 * get_or b i 0 + get_or b (i + 1) 0
unfolding be
be_two b i = rw add-zero (omega arith)

-- m bytes, and n more
pub be_more : (m n : ℕ) (b : List ℕ) (i : ℕ) → be (m + n) b i ≡ 256 ^ n * be m b i + be n b (i + m)
unfolding be
be_more m zero b i = rw (add-zero m) (omega arith)
be_more m (suc n) b i =
    let e : get_or b (i + (m + n)) 0 ≡ get_or b (i + m + n) 0 = ap (λ (k : ℕ). get_or b k 0) (sym (add_assoc i m n)) in
    rw (add-suc m n, pow-suc) (omega (arith, e, be_more m n b i))

-- n bytes, and as many more
pub be_halves : (n : ℕ) (b : List ℕ) (i : ℕ) {x y : ℕ} → x ≡ be n b i → y ≡ be n b (i + n) → 256 ^ n * x + y ≡ be (n + n) b i
be_halves n b i p q = ap₂ (λ (x y : ℕ). 256 ^ n * x + y) p q ∙ sym (be_more n n b i)

-- of joined bytes
pub be_left : (n : ℕ) (p q : List ℕ) (i : ℕ) → i + n ≤ length p → be n (p ++ q) i ≡ be n p i
unfolding be
be_left zero p q i h = refl
be_left (suc n) p q i h =
    ap₂ (λ (x y : ℕ). 256 * x + y) (be_left n p q i (omega arith)) (get_or-append p q 0 (i + n) (omega arith))

pub be_right : (n : ℕ) (p q : List ℕ) (i : ℕ) → be n (p ++ q) (length p + i) ≡ be n q i
unfolding be
be_right zero p q i = refl
be_right (suc n) p q i =
    let e : length p + i + n ≡ length p + (i + n) = omega arith in
    ap₂ (λ (x y : ℕ). 256 * x + y) (be_right n p q i) (ap (λ (k : ℕ). get_or (p ++ q) k 0) e ∙ get_or-append-add p q (i + n) 0)

-- ---- the same n bytes from place i, and the same number

pub same_bytes : (n : ℕ) (a b : List ℕ) (i : ℕ) → ((k : ℕ) → k < n → get_or a (i + k) 0 ≡ get_or b (i + k) 0) → be n a i ≡ be n b i
unfolding be
same_bytes zero a b i h = refl
same_bytes (suc n) a b i h =
    ap₂ (λ (x y : ℕ). 256 * x + y) (same_bytes n a b i (λ k l. h k (le_step l))) (h n (le_refl (suc n)))

pub same_be : (a b : List ℕ) → ((k : ℕ) → get_or a k 0 < 256) → ((k : ℕ) → get_or b k 0 < 256)
    → (n i : ℕ) → be n a i ≡ be n b i → (k : ℕ) → k < n → get_or a (i + k) 0 ≡ get_or b (i + k) 0
unfolding be
same_be a b p q zero i e k l = absurd (not-suc-le-zero l)
same_be a b p q (suc n) i e k l =
    ⊎_elim
    (λ (m : k ≡ n). rw m (omega (arith, p (i + n), q (i + n))))
    (λ (m : k < n). same_be a b p q n i (omega (arith, p (i + n), q (i + n))) k m)
    (eq-or-lt_of_le (le_of_suc-le-suc l))
