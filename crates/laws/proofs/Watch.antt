-- The stop in E, sample by sample, as a state can hold it.
-- Assumes nothing.
use mathlib.Core.Bool.{Bool, true, false, not, ◌&&◌, not-not}
use mathlib.Core.Path.{◌≡◌, refl, sym, ap, ◌∙◌}
use Prim.Native.Nat.{ℕ, zero, suc, ◌+◌, ◌-◌, ◌≤◌, ◌<◌, zero-le}
use native.Mathlib.Nat.{le_refl, suc-sub-suc, sub-zero, zero-sub}
use native.Mathlib.Omega.{arith}
use borrow.Author.Tests.{leb-true, leb-false, le-leb, lt-leb, le-ltb, eq-eqb, ne_eqb}
use lib.Dec.{T, leb, ltb, leb-suc-suc, leb→le}
use Rattle.rules.specs.Words.{all_below}
use Rattle.numbers.proofs.Tests.{all_same, all_fails, both_T}
use Rattle.numbers.proofs.Whole.{leb_not}
use Rattle.rules.specs.Shortened.{has_reached, is_below, most_below, stops_in_e}
use Rattle.laws.specs.Beside.{watch_next, watch}

-- ---- tests at every number below k, from the front

all_front : (k : ℕ) (f : ℕ → Bool) → all_below (suc k) f ≡ (f 0 && all_below k (λ i. f (suc i)))
unfolding all_below
all_front zero f = go (f 0)
  where
    go : (x : Bool) → x ≡ (x && true)
    go true = refl
    go false = refl
all_front (suc k) f = ap (λ (x : Bool). x && f (suc k)) (all_front k f) ∙ go (f 0) (all_below k (λ i. f (suc i))) (f (suc k))
  where
    go : (x y z : Bool) → (x && y && z) ≡ (x && (y && z))
    go true y z = refl
    go false y z = refl

-- where the first fails, only none at all pass
none_or_fails : (k : ℕ) (f : ℕ → Bool) → f 0 ≡ false → leb (suc k) 1 ≡ all_below k f
unfolding all_below
none_or_fails zero f e = refl
none_or_fails (suc k) f e = lt-leb (suc (suc k)) 1 (omega arith) ∙ sym (all_fails (suc k) 0 f (omega arith) e)

begun : (z : ℕ) → leb 1 z ≡ true → z ≡ 0 → ⊥
begun z e q = omega (arith, leb-true 1 z e)

-- g: none has reached the set speed so far; z: the number so far; f: whether the last is below, the one before it, ..
one_more_lem : (g r w : Bool) (z : ℕ) (f : ℕ → Bool) → f 0 ≡ w → (T r → w ≡ false)
    → ((k : ℕ) → leb (suc k) z ≡ (not g && all_below k (λ i. f (suc i)))) → (k : ℕ) → leb (suc k) (watch_next r w z) ≡ (not (g && not r) && all_below k f)
unfolding all_below
one_more_lem true true w z f e n h k = none_or_fails k f (e ∙ n tt)
one_more_lem false true w z f e n h k = none_or_fails k f (e ∙ n tt)
one_more_lem true false w z f e n h k = rw (eq-eqb z 0 (omega (arith, leb-false 1 z (h 0)))) (lt-leb (suc k) 0 (omega arith))
one_more_lem false false true z f e n h zero = rw (ne_eqb z 0 (begun z (h 0))) (le-leb 1 (suc z) (omega arith))
one_more_lem false false true z f e n h (suc k) =
    rw (ne_eqb z 0 (begun z (h 0))) (leb-suc-suc (suc k) z ∙ h k ∙ sym (all_front k f ∙ ap (λ (x : Bool). x && all_below k (λ i. f (suc i))) e))
one_more_lem false false false z f e n h k = rw (ne_eqb z 0 (begun z (h 0))) (none_or_fails k f e)

module _ (e u s : ℕ) (v : ℕ → ℕ) where
  -- sample n has reached the set speed in E
  abbrev reaches : ℕ → Bool
  reaches n = leb e n && leb u (v n)

  not_below : (n : ℕ) → T (reaches n) → is_below u s (v n) ≡ false
  not_below n t = le-ltb (v n + s) u (omega (arith, leb→le u (v n) (both_T (leb e n) (leb u (v n)) t).1))

  shifted : (n k : ℕ) → all_below k (λ i. is_below u s (v (n - suc i))) ≡ all_below k (λ i. is_below u s (v (suc n - suc (suc i))))
  shifted n k = all_same k _ _ (λ i l. ap (λ (a : ℕ). is_below u s (v a)) (sym (suc-sub-suc n (suc i))))

  -- none of E's samples before sample n has
  abbrev none : ℕ → Bool
  none n = all_below (n - e) (λ i. ltb (v (e + i)) u)

  none_more : (n : ℕ) → none (suc n) ≡ (none n && not (reaches n))
  unfolding all_below
  none_more n = go (leb e n) refl
    where
      go : (x : Bool) → leb e n ≡ x → none (suc n) ≡ (none n && not (x && leb u (v n)))
      go true h =
          let c : suc n - e ≡ suc (n - e) = omega (arith, leb-true e n h) in
          let d : e + (n - e) ≡ n = omega (arith, leb-true e n h) in
          rw (c, d, leb_not (v n) u) (ap (λ (x : Bool). none n && x) (sym (not-not (ltb (v n) u))))
      go false h =
          let c : suc n - e ≡ 0 = omega (arith, leb-false e n h) in
          let d : n - e ≡ 0 = omega (arith, leb-false e n h) in
          rw (c, d) refl

  watched : (n k : ℕ) → leb (suc k) (watch e u s v n) ≡ (not (none n) && all_below k (λ i. is_below u s (v (n - suc i))))
  unfolding all_below watch
  watched zero k = rw (zero-sub e) (lt-leb (suc k) 0 (omega arith))
  watched (suc n) k =
      one_more_lem (none n) (reaches n) (is_below u s (v n)) (watch e u s v n) (λ i. is_below u s (v (suc n - suc i)))
      (ap (λ (i : ℕ). is_below u s (v i)) (suc-sub-suc n 0 ∙ sub-zero n)) (not_below n)
      (λ j. watched n j ∙ ap (λ (x : Bool). not (none n) && x) (shifted n j)) k
      ∙ ap (λ (x : Bool). not x && all_below k (λ i. is_below u s (v (suc n - suc i)))) (sym (none_more n))

  -- the run stops in E at the sample that brings the number above 80
  pub stop_watched : (j : ℕ) → stops_in_e e u s v j ≡ leb (suc most_below) (watch e u s v (suc j))
  unfolding stops_in_e
  stop_watched j =
      ap (λ (x : Bool). has_reached e u v j && x) (all_same most_below _ _ (λ i l. ap (λ (a : ℕ). is_below u s (v a)) (sym (suc-sub-suc j i))))
      ∙ sym (watched (suc j) most_below)

  -- it is 0 until E begins
  pub watch_before : (k : ℕ) → k ≤ e → watch e u s v k ≡ 0
  unfolding watch
  watch_before zero h = refl
  watch_before (suc n) h = rw (lt-leb e n h, watch_before n (omega arith))

  -- and at most 80 while no sample stops the run there
  pub watch_most : (n : ℕ) → ((j : ℕ) → j < n → stops_in_e e u s v j ≡ false) → watch e u s v n ≤ most_below
  unfolding watch
  watch_most zero h = zero-le
  watch_most (suc n) h = omega (arith, leb-false (suc most_below) (watch e u s v (suc n)) (sym (stop_watched n) ∙ h n (le_refl (suc n))))
