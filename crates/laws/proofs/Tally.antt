-- Which samples count, whatever ends the run: what one more sample does to it, and how two runs compare.
-- Assumes nothing.
use mathlib.Core.Bool.{Bool, true, false, cond}
use mathlib.Core.Path.{◌≡◌, refl, sym, ap, subst, ◌∙◌}
use Prim.Native.Nat.{ℕ, suc, ◌+◌, ◌≤◌, ◌<◌, suc-le-suc}
use native.Mathlib.Nat.{le_refl, le_antisymm}
use native.Mathlib.Omega.{arith}
use lib.Dec.{T, ltb, ltb→lt, le→leb}
use borrow.Author.Tests.{lt-ltb, le-ltb, ltb-true, ltb-false}
use Rattle.rules.specs.Words.{first, bit}
use Rattle.numbers.proofs.Range.{gather_le, gather_same}
use Rattle.numbers.proofs.Firsts.{first_le, first_at, first_least, first_later, first_next}
use Rattle.numbers.proofs.Tests.{leb_mono, bit_le}
use Rattle.rules.specs.Tally.{outside, over, room, counted, stopped, judged}

module _ (ends : ℕ → Bool) (most : ℕ) where
  pub counted_le : (n : ℕ) → (counted ends most n ≤ n) × (counted ends most n ≤ most)
  counted_le n = let h = first_le ends (room most n) in (omega arith, omega arith)

  pub judged_le : (n : ℕ) → (judged ends most n ≤ n) × (judged ends most n ≤ most)
  judged_le n = go (stopped ends most n) refl
    where
      go : (x : Bool) → stopped ends most n ≡ x → (counted ends most n + bit x ≤ n) × (counted ends most n + bit x ≤ most)
      go true e = let h = ltb-true (counted ends most n) (room most n) e in (omega arith, omega arith)
      go false e = let h = counted_le n in (omega arith, omega arith)

  -- ---- one more sample, where all before it count

  module _ (n : ℕ) (all : counted ends most n ≡ n) where
    -- none counts but those that can
    pub next_none : most ≤ n → counted ends most (suc n) ≡ n
    next_none h = let f : room most (suc n) ≡ room most n = omega arith in ap (first ends) f ∙ all

    module _ (h : n < most) where
      none_yet : first ends n ≡ n
      none_yet = let r : room most n ≡ n = omega arith in rw r at all

      pub next_counted : counted ends most (suc n) ≡ cond (ends n) n (suc n)
      next_counted = let f : room most (suc n) ≡ suc n = omega arith in ap (first ends) f ∙ first_next ends n none_yet

      -- it is judged
      pub next_judged : judged ends most (suc n) ≡ suc n
      next_judged = go (ends n) next_counted
        where
          go : (x : Bool) → counted ends most (suc n) ≡ cond x n (suc n) → judged ends most (suc n) ≡ suc n
          go true e = rw (lt-ltb (counted ends most (suc n)) (room most (suc n)) (omega arith)) (omega arith)
          go false e = rw (le-ltb (counted ends most (suc n)) (room most (suc n)) (omega arith)) (omega arith)

-- ---- two runs that count as many, and both stopped or both did not

module _ (ends ends' : ℕ → Bool) (most n n' : ℕ) (c : counted ends' most n' ≡ counted ends most n) (s : stopped ends' most n' ≡ stopped ends most n) where
  pub judged_alike : judged ends' most n' ≡ judged ends most n
  judged_alike = λ i. c i + bit (s i)

-- ---- a run that ends by fewer samples

module _ (cycle : ℕ → ℕ) (out out' : ℕ → Bool) (fewer : (j : ℕ) → T (out' j) → T (out j)) where
  pub outside_fewer : (c m : ℕ) → outside cycle out' c m ≤ outside cycle out c m
  outside_fewer c m = gather_le _ _ _ m (λ j l. bit_le (out' j) (out j) (fewer j))

  pub over_fewer : (a a' : ℕ) → a ≤ a' → (j : ℕ) → T (over cycle out' a' j) → T (over cycle out a j)
  unfolding over
  over_fewer a a' h j = leb_mono (suc-le-suc h) (outside_fewer (cycle j) (suc j))

module _ (ends ends' : ℕ → Bool) (fewer : (j : ℕ) → T (ends' j) → T (ends j)) (most n : ℕ) where
  -- the stop comes no earlier, and no stop comes where none was
  pub counted_fewer : counted ends most n ≤ counted ends' most n
  counted_fewer = first_later ends ends' (room most n) (room most n) (le_refl _) (λ j l. fewer j)

  pub stopped_fewer : T (stopped ends' most n) → T (stopped ends most n)
  stopped_fewer = leb_mono (suc-le-suc counted_fewer) (le_refl _)

  -- where none was, as many are counted
  pub counted_all : stopped ends most n ≡ false → counted ends' most n ≡ counted ends most n
  counted_all e =
      le_antisymm (omega (arith, first_le ends' (room most n), ltb-false (counted ends most n) (room most n) e)) counted_fewer

-- ---- a run that goes on: n samples, and n' that begin with them

module _ (cycle : ℕ → ℕ) (out out' : ℕ → Bool) (n : ℕ) (same : (j : ℕ) → j < n → out' j ≡ out j) where
  pub outside_longer : (c m : ℕ) → m ≤ n → outside cycle out' c m ≡ outside cycle out c m
  outside_longer c m h = gather_same ◌+◌ 0 _ _ _ m (λ j l. ap bit (same j (omega arith)))

  pub over_longer : (a j : ℕ) → j < n → over cycle out' a j ≡ over cycle out a j
  unfolding over
  over_longer a j l = ap (ltb a) (outside_longer (cycle j) (suc j) l)

module _ (ends ends' : ℕ → Bool) (most n n' : ℕ) (more : n ≤ n') (same : (j : ℕ) → j < n → ends' j ≡ ends j) where
  pub counted_longer : counted ends most n ≤ counted ends' most n'
  counted_longer =
      first_later ends ends' (room most n) (room most n') (omega arith) (λ j l. subst T (same j (omega arith)))

  -- a stop stays, at its sample
  pub stop_longer : T (stopped ends most n) → T (stopped ends' most n') × (counted ends' most n' ≡ counted ends most n)
  stop_longer h =
      let l = ltb→lt (counted ends most n) (room most n) h in
      let o = subst T (sym (same (counted ends most n) (omega arith))) (first_at ends (room most n) l) in
      let e = le_antisymm (first_least ends' (room most n') (counted ends most n) o) counted_longer in
      (omega (arith, le→leb), e)
