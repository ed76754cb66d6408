-- The map: a position is set that was set or is the one marked, a new mark makes one more, a cleared map has none, the ones are
-- the positions set, and the words past the first 750 stay as they were.
-- Assumes nothing.
use mathlib.Core.Path.{◌≡◌, refl, sym, ap, ap₂, ◌∙◌, subst}
use mathlib.Core.Bool.{Bool, true, false, cond}
use mathlib.Core.List.{List}
use Prim.Native.Nat.{ℕ, zero, suc, ◌+◌, ◌*◌, ◌/◌, ◌%◌, ◌^◌, ◌≤◌, ◌<◌, max}
use native.Mathlib.Decide.{ℕ_discrete}
use native.Mathlib.Nat.{mod-lt, zero-div, suc-mul}
use native.Mathlib.Omega.{arith}
use borrow.Author.Tests.{eq-eqb, ne_eqb, eqb-false}
use lib.Bits.{bit_or}
use lib.Count.{ones}
use lib.Dec.{eqb, lit<}
use lib.ListN.{length, get_or, set, drop, length-set}
use lib.Seq.{get_or-set_same, get_or-set_other, drop-set-lt}
use Rattle.numbers.specs.Lists.{cleared}
use Rattle.rules.specs.Words.{fold, sum, bit}
use Rattle.numbers.proofs.Lists.{length_cleared, get_d_cleared, drop_cleared}
use Rattle.numbers.proofs.Range.{fold_same, fold_split, sum_ℕ}
use Rattle.map.specs.Map.{bit_of, is_set, mark, marked_if, opened, ones_of}
use Rattle.map.proofs.Bit.{bit_or_lem, bit_pow_same, bit_pow_other, ones_or, ones_bit, ones_bits}
use Rattle.numbers.proofs.Sums.{sum_none, sum_grown}
use Rattle.rules.specs.Bench.{most_positions}
use Rattle.rules.specs.Shown.{map_words}

-- the ones of the first n words
abbrev pub ones_in : ℕ → List ℕ → ℕ
ones_in n m = sum (λ k. ones (get_or m k 0)) n

-- ---- a mark

-- a position is set after a mark exactly if it is the one that was marked, or was set before
pub set_mark : (m : List ℕ) (p q : ℕ) → p / 64 < length m → is_set (mark m p) q ≡ cond (eqb q p) true (is_set m q)
set_mark m p q h = go (ℕ_discrete (q / 64) (p / 64)) (ℕ_discrete (q % 64) (p % 64))
  where
    w : ℕ
    w = get_or m (p / 64) 0

    v : ℕ
    v = bit_or w (2 ^ (p % 64))

    said : (t : Bool) → eqb q p ≡ t → cond (eqb q p) true (is_set m q) ≡ cond t true (is_set m q)
    said t e = ap (λ (b : Bool). cond b true (is_set m q)) e

    here : q / 64 ≡ p / 64 → is_set (mark m p) q ≡ eqb (max (bit_of w (q % 64)) (bit_of (2 ^ (p % 64)) (q % 64))) 1
    here e =
        ap (λ (x : ℕ). eqb (bit_of x (q % 64)) 1) (ap (λ (j : ℕ). get_or (set m (p / 64) v) j 0) e ∙ get_or-set_same m (p / 64) v 0 h)
        ∙ ap (λ (x : ℕ). eqb x 1) (bit_or_lem w (2 ^ (p % 64)) (q % 64))

    go : Dec (q / 64 ≡ p / 64) → Dec (q % 64 ≡ p % 64) → is_set (mark m p) q ≡ cond (eqb q p) true (is_set m q)
    go (no n) d =
        ap (λ (x : ℕ). eqb (bit_of x (q % 64)) 1) (get_or-set_other m (p / 64) (q / 64) v 0 n)
        ∙ sym (said false (ne_eqb q p (λ e. n (ap (λ (x : ℕ). x / 64) e))))
    go (yes e) (yes f) =
        let set-bit : bit_of (2 ^ (p % 64)) (q % 64) ≡ 1 = subst (λ (j : ℕ). bit_of (2 ^ (p % 64)) j ≡ 1) (sym f) (bit_pow_same (p % 64)) in
        here e
        ∙ eq-eqb (max (bit_of w (q % 64)) (bit_of (2 ^ (p % 64)) (q % 64))) 1 (omega (arith, mod-lt (w / 2 ^ (q % 64)) (lit< {m = 0} {n = 2} tt)))
        ∙ sym (said true (eq-eqb q p (omega arith)))
    go (yes e) (no n) =
        let no-bit : bit_of (2 ^ (p % 64)) (q % 64) ≡ 0 = bit_pow_other (p % 64) (q % 64) n in
        let kept : max (bit_of w (q % 64)) (bit_of (2 ^ (p % 64)) (q % 64)) ≡ bit_of w (q % 64) = omega arith in
        here e
        ∙ ap (λ (x : ℕ). eqb x 1) (kept ∙ ap (λ (j : ℕ). bit_of (get_or m j 0) (q % 64)) (sym e))
        ∙ sym (said false (ne_eqb q p (λ f. n (ap (λ (x : ℕ). x % 64) f))))

-- a position that is not set has the bit 0
bit_unset : (m : List ℕ) (p : ℕ) → is_set m p ≡ false → bit_of (get_or m (p / 64) 0) (p % 64) ≡ 0
bit_unset m p e =
    omega (arith, eqb-false (bit_of (get_or m (p / 64) 0) (p % 64)) 1 e, mod-lt (get_or m (p / 64) 0 / 2 ^ (p % 64)) (lit< {m = 0} {n = 2} tt))

-- a mark where none was makes one more
pub ones_mark : (m : List ℕ) (p : ℕ) → p < most_positions → map_words ≤ length m → is_set m p ≡ false → ones_of (mark m p) ≡ ones_of m + 1
ones_mark m p h g e =
    let w : ℕ = get_or m (p / 64) 0 in
    let v : ℕ = bit_or w (2 ^ (p % 64)) in
    sum_grown (λ k. ones (get_or (mark m p) k 0)) (λ k. ones (get_or m k 0)) (p / 64) 1 map_words (omega arith)
    (ap ones (get_or-set_same m (p / 64) v 0 (omega arith)) ∙ ones_or w (p % 64) (bit_unset m p e))
    (λ k d. ap ones (get_or-set_other m (p / 64) k v 0 d))

-- ---- a cleared map

pub set_cleared : (m : List ℕ) (p : ℕ) → p < most_positions → is_set (cleared 0 map_words m) p ≡ false
set_cleared m p h =
    ap (λ (w : ℕ). eqb (bit_of w (p % 64)) 1) (get_d_cleared 0 map_words m (p / 64) 0 (omega arith))
    ∙ ap (λ (x : ℕ). eqb (x % 2) 1) (zero-div (2 ^ (p % 64)))

pub ones_cleared : (m : List ℕ) → ones_of (cleared 0 map_words m) ≡ 0
ones_cleared m = sum_none (λ k. ones (get_or (cleared 0 map_words m) k 0)) map_words (λ k l. ap ones (get_d_cleared 0 map_words m k 0 l) ∙ ones_bit 0 (lit< tt))

-- ---- how many are set

-- the number of a test that a bit is 1 is the bit
bit_set : (b : ℕ) → b < 2 → bit (eqb b 1) ≡ b
bit_set zero h = refl
bit_set (suc zero) h = refl
bit_set (suc (suc b)) h = absurd (omega arith)

-- the ones of n words of 64 bits are the positions that are set
ones_in_set : (n : ℕ) (m : List ℕ) → ((k : ℕ) → get_or m k 0 < 2 ^ 64) → ones_in n m ≡ sum (λ p. bit (is_set m p)) (n * 64)
unfolding fold
ones_in_set zero m h = refl
ones_in_set (suc n) m h =
    let w : ℕ = get_or m n 0 in
    ap₂ ◌+◌ (ones_in_set n m h)
    (ones_bits 64 w (h n)
    ∙ fold_same ◌+◌ 0 (bit_of w) (λ k. bit (is_set m (n * 64 + k))) 64
    (λ k l.
    let word : (n * 64 + k) / 64 ≡ n = omega arith in
    let place : (n * 64 + k) % 64 ≡ k = omega arith in
    rw (word, place) (sym (bit_set (bit_of w k) (mod-lt (w / 2 ^ k) (lit< tt))))))
    ∙ sym (fold_split ◌+◌ 0 sum_ℕ (λ p. bit (is_set m p)) (n * 64) 64)
    ∙ ap (sum (λ p. bit (is_set m p))) (sym (suc-mul n 64))

pub ones_set : (m : List ℕ) → ((k : ℕ) → get_or m k 0 < 2 ^ 64) → ones_of m ≡ sum (λ p. bit (is_set m p)) most_positions
ones_set m h = ones_in_set map_words m h

-- ---- the map before and after a sample at position p

-- what holds of both outcomes holds of the one that is
opened_either : (P : List ℕ → Type 0) (m : List ℕ) (p : ℕ) → P (cleared 0 map_words m) → P m → P (opened m p)
unfolding opened
opened_either P m p x y = go (eqb p 0)
  where
    go : (b : Bool) → P (cond b (cleared 0 map_words m) m)
    go true = x
    go false = y

-- the length is kept
length_mark : (m : List ℕ) (p : ℕ) → length (mark m p) ≡ length m
length_mark m p = length-set m (p / 64) (bit_or (get_or m (p / 64) 0) (2 ^ (p % 64)))

pub length_marked_if : (m : List ℕ) (p : ℕ) (out : Bool) → length (marked_if m p out) ≡ length m
unfolding marked_if
length_marked_if m p true = length_mark m p
length_marked_if m p false = refl

pub length_opened : (m : List ℕ) (p : ℕ) → map_words ≤ length m → length (opened m p) ≡ length m
length_opened m p h = opened_either (λ x. length x ≡ length m) m p (length_cleared 0 map_words m h) refl

-- so are the words past the first 750
pub drop_marked_if : (m : List ℕ) (p : ℕ) (out : Bool) → p < most_positions → drop map_words (marked_if m p out) ≡ drop map_words m
unfolding marked_if
drop_marked_if m p true h = drop-set-lt map_words m (p / 64) (bit_or (get_or m (p / 64) 0) (2 ^ (p % 64))) (omega arith)
drop_marked_if m p false h = refl

pub drop_opened : (m : List ℕ) (p : ℕ) → drop map_words (opened m p) ≡ drop map_words m
drop_opened m p = opened_either (λ x. drop map_words x ≡ drop map_words m) m p (drop_cleared 0 map_words m) refl
