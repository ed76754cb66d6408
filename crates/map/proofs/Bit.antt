-- One bit of a word: what `|` with a power of two does to each bit and to the number of ones, and the ones as a sum of bits, whatever the width.
-- Assumes nothing.
use mathlib.Core.Path.{◌≡◌, refl, sym, ap, ap₂, ◌∙◌}
use Prim.Native.Nat.{ℕ, zero, suc, ◌+◌, ◌-◌, ◌*◌, ◌/◌, ◌%◌, ◌^◌, ◌<◌, max}
use native.Mathlib.Decide.{dec_lt}
use native.Mathlib.Nat.{add-zero, one-mul, mod-lt, mod-eq_of_lt, mod-one, max-eq_right, le_of_suc-le-suc, div_self, div-eq_of_lt, pow-suc, mul-mod_left}
use native.Mathlib.Omega.{arith}
use lib.Arith.{digits_div, digits_mod}
use lib.Bits.{bit_or, or_block, or_step, or_shr, or_zero_r}
use lib.Count.{ones, ones_cat, ones_step}
use lib.Dec.{lit<}
use lib.Pow.{pow_pos, pow-add, pow-lt, shl-shr, split, mod-pow-add}
use Rattle.rules.specs.Words.{fold, sum}
use Rattle.map.specs.Map.{bit_of}

or_one : (n : ℕ) → bit_or n 1 ≡ n / 2 * 2 + 1
or_one n =
    or_step n 1
    ∙ ap₂ (λ (x y : ℕ). x * 2 + y) (or_zero_r (n / 2)) (max-eq_right (le_of_suc-le-suc (mod-lt n (lit< tt))))

-- `w | (1 << k)` keeps the bits above and below place k and sets that one
or_pow : (w k : ℕ) → bit_or w (2 ^ k) ≡ (w / 2 ^ k / 2 * 2 + 1) * 2 ^ k + w % 2 ^ k
or_pow w k =
    ap₂ bit_or (sym (split w k)) (sym (add-zero (1 * 2 ^ k) ∙ one-mul (2 ^ k)))
    ∙ or_block k (w / 2 ^ k) 1 (w % 2 ^ k) 0 (mod-lt w (pow_pos k)) (pow_pos k)
    ∙ ap₂ (λ (x y : ℕ). x * 2 ^ k + y) (or_one (w / 2 ^ k)) (or_zero_r (w % 2 ^ k))

-- setting a bit that was 0 makes one more
pub ones_or : (w k : ℕ) → bit_of w k ≡ 0 → ones (bit_or w (2 ^ k)) ≡ ones w + 1
ones_or w k e =
    let h : ℕ = w / 2 ^ k in
    let r : ℕ = w % 2 ^ k in
    let low = mod-lt w (pow_pos k) in
    let new : ones ((h / 2 * 2 + 1) * 2 ^ k + r) ≡ ones (h / 2 * 2 + 1) + ones r = ones_cat k (h / 2 * 2 + 1) r low in
    let old : ones w ≡ ones h + ones r = ap ones (sym (split w k)) ∙ ones_cat k h r low in
    let top : ones (h / 2 * 2 + 1) ≡ 1 + ones (h / 2) =
    ones_step (h / 2 * 2 + 1) ∙ ap₂ (λ (x y : ℕ). x + ones y) (digits_mod (h / 2) (lit< tt)) (digits_div (h / 2) (lit< tt)) in
    let was : ones h ≡ h % 2 + ones (h / 2) = ones_step h in
    ap ones (or_pow w k) ∙ omega arith

-- each bit of `a | b` is the greater of the two
pub bit_or_lem : (a b j : ℕ) → bit_of (bit_or a b) j ≡ max (bit_of a j) (bit_of b j)
bit_or_lem a b j =
    let ha : a / 2 ^ j % 2 < 2 = mod-lt (a / 2 ^ j) (lit< tt) in
    let hb : b / 2 ^ j % 2 < 2 = mod-lt (b / 2 ^ j) (lit< tt) in
    ap (λ (n : ℕ). n % 2) (or_shr a b j ∙ or_step (a / 2 ^ j) (b / 2 ^ j))
    ∙ digits_mod (bit_or (a / 2 ^ j / 2) (b / 2 ^ j / 2)) (omega arith)

-- the power of two has that one bit
pub bit_pow_same : (k : ℕ) → bit_of (2 ^ k) k ≡ 1
bit_pow_same k = ap (λ (n : ℕ). n % 2) (div_self (pow_pos k))

pub bit_pow_other : (k j : ℕ) → (j ≡ k → ⊥) → bit_of (2 ^ k) j ≡ 0
bit_pow_other k j e = go (dec_lt j k)
  where
    go : Dec (j < k) → bit_of (2 ^ k) j ≡ 0
    go (yes h) =
        let d : ℕ = k - suc j in
        let split-k : suc d + j ≡ k = omega arith in
        ap (λ (n : ℕ). 2 ^ n / 2 ^ j % 2) (sym split-k)
        ∙ ap (λ (n : ℕ). n / 2 ^ j % 2) (pow-add 2 (suc d) j)
        ∙ ap (λ (n : ℕ). n % 2) (shl-shr (2 ^ suc d) j ∙ pow-suc 2 d)
        ∙ mul-mod_left (2 ^ d) 2
    go (no h) = ap (λ (n : ℕ). n % 2) (div-eq_of_lt (pow-lt (let g : k < j = omega arith in g)))

-- a bit has itself as its number of ones
pub ones_bit : (b : ℕ) → b < 2 → ones b ≡ b
unfolding ones
ones_bit zero h = refl
ones_bit (suc zero) h = refl
ones_bit (suc (suc b)) h = absurd (omega arith)

-- the ones of a word are the sum of its bits
ones_low : (w n : ℕ) → ones (w % 2 ^ n) ≡ sum (bit_of w) n
unfolding fold
ones_low w zero = ap ones (mod-one w) ∙ ones_bit 0 (lit< tt)
ones_low w (suc n) =
    let e : suc n ≡ 1 + n = omega arith in
    let new : ones (bit_of w n * 2 ^ n + w % 2 ^ n) ≡ ones (bit_of w n) + ones (w % 2 ^ n) = ones_cat n (bit_of w n) (w % 2 ^ n) (mod-lt w (pow_pos n)) in
    let top : ones (bit_of w n) ≡ bit_of w n = ones_bit (bit_of w n) (mod-lt (w / 2 ^ n) (lit< tt)) in
    ap (λ (k : ℕ). ones (w % 2 ^ k)) e ∙ ap ones (mod-pow-add w 1 n) ∙ omega (arith, ones_low w n)

pub ones_bits : (n w : ℕ) → w < 2 ^ n → ones w ≡ sum (bit_of w) n
ones_bits n w h = ap ones (sym (mod-eq_of_lt h)) ∙ ones_low w n
