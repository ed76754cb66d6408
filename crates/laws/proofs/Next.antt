-- One more sample: what it does while the run goes on. (After the end: `over` in Longer.antt.)
-- Assumes nothing.
use mathlib.Core.Bool.{Bool, true, false, not, cond, ◌||◌, false≢true}
use mathlib.Core.Logic.{⊎_elim}
use mathlib.Core.Path.{◌≡◌, refl, ap, subst, ◌∙◌}
use Prim.Native.Nat.{ℕ, zero, suc, ◌+◌, ◌-◌, ◌≤◌, ◌<◌, min, zero-le}
use native.Mathlib.Decide.{ℕ_discrete}
use native.Mathlib.Nat.{le_refl, le_step}
use native.Mathlib.Omega.{arith}
use borrow.Author.Tests.{ltb-true, ltb-false, lt-ltb, le-ltb, ne_eqb}
use lib.Dec.{T, ltb}
use Rattle.rules.specs.Words.{fold, gather, bit}
use Rattle.numbers.proofs.Order.{side}
use Rattle.numbers.proofs.Firsts.{first_before}
use Rattle.numbers.proofs.Range.{fold_none, sum_ℕ}
use Rattle.rules.specs.declared.Moment.{Moment}
use Rattle.rules.specs.declared.End.TheVariants.{None as none, Stop as stop, Limit as limit}
use Rattle.laws.specs.Beside.{is_open, stopped}
use Rattle.rules.specs.Tally as rules
use Rattle.rules.specs.Course.{Course, out, outside, stops_at, counted, judged, closed, ending}
use Rattle.laws.proofs.Facts.{Orderly}
use Rattle.laws.proofs.Tally as tally

module _ (c : Course) (soon : c.share.ahead ≤ 1) (s : ℕ → Moment) where
  abbrev most : ℕ
  most = c.layout.most

  -- while the run goes on, every sample offered is counted
  pub record Going (n : ℕ) : Type 0 where
    pub all : counted c s n ≡ n
    pub no_stop : stopped c s n ≡ false
    pub short : n < most + c.share.ahead

  pub going : (n : ℕ) → is_open (ending c s n) ≡ true → Going n
  going n = go (stopped c s n) (ltb (closed c s n) most) refl refl
    where
      go : (x y : Bool) → stopped c s n ≡ x → ltb (closed c s n) most ≡ y → is_open (cond x stop (cond y none limit)) ≡ true → Going n
      go true y e q o = absurd (false≢true o)
      go false false e q o = absurd (false≢true o)
      go false true e q o =
          let few = ltb-true (closed c s n) most q in
          let none-stopped = ltb-false (counted c s n) (min n most) e in
          let (le, le-most) = tally.counted_le (stops_at c s) most n in
          record { all = omega (arith, soon); no_stop = e; short = omega (arith, soon) }

  -- it is judged
  pub judged_all : {n : ℕ} → Going n → judged c s n ≡ n
  judged_all g = rw g.no_stop (omega (arith, g.all))

  -- sample n comes after the last that can count, and is not judged; or it stops the run; or it counts
  pub data Next (n : ℕ) : Type 0 where
    limits : n ≡ most → counted c s (suc n) ≡ n → judged c s (suc n) ≡ n → ending c s (suc n) ≡ limit → Next n
    stops : n < most → stops_at c s n ≡ true → counted c s (suc n) ≡ n → judged c s (suc n) ≡ suc n → ending c s (suc n) ≡ stop → Next n
    goes : n < most → stops_at c s n ≡ false → counted c s (suc n) ≡ suc n → judged c s (suc n) ≡ suc n
        → ending c s (suc n) ≡ cond (ltb (closed c s (suc n)) most) none limit → Next n

  pub next : {n : ℕ} → Going n → Next n
  next {n} g = ⊎_elim (λ (l : n < most). inner l (stops_at c s n) refl) outer (side (suc n) most)
    where
      outer : most < suc n → Next n
      outer l =
          let m = tally.next_none (stops_at c s) most n g.all (omega arith) in
          let is-most : n ≡ most = omega (arith, g.all, (tally.counted_le (stops_at c s) most n).1) in
          let none-stopped = le-ltb (counted c s (suc n)) (min (suc n) most) (omega arith) in
          limits is-most m (rw none-stopped (omega arith)) (rw (none-stopped, le-ltb (closed c s (suc n)) most (omega (arith, soon))))

      inner : n < most → (x : Bool) → stops_at c s n ≡ x → Next n
      inner l true e =
          let m : counted c s (suc n) ≡ n = tally.next_counted (stops_at c s) most n g.all l ∙ ap (λ (x : Bool). cond x n (suc n)) e in
          stops l e m (tally.next_judged (stops_at c s) most n g.all l) (rw (lt-ltb (counted c s (suc n)) (min (suc n) most) (omega arith)))
      inner l false e =
          let m : counted c s (suc n) ≡ suc n = tally.next_counted (stops_at c s) most n g.all l ∙ ap (λ (x : Bool). cond x n (suc n)) e in
          goes l e m (tally.next_judged (stops_at c s) most n g.all l) (rw (le-ltb (counted c s (suc n)) (min (suc n) most) (omega arith)))

-- where the next sample closes a share: while the run goes on the last counted sample's is open, and sample n closes it, whatever else it does
module _ (c : Course) (soon : c.share.ahead ≤ 1) (one : c.share.ahead ≡ 1) (s : ℕ → Moment) {n : ℕ} (g : Going c soon s n) where
  pub closed_before : closed c s n ≡ n - 1
  closed_before = omega (arith, g.all)

  pub closed_next : closed c s (suc n) ≡ n
  closed_next = omega (arith, g.all, tally.counted_longer (stops_at c s) (stops_at c s) c.layout.most n (suc n) (le_step (le_refl n)) (λ j l. refl))

-- outside samples of the row in which the next sample stands
module _ (c : Course) (f : Orderly c.layout) (s : ℕ → Moment) where
  abbrev row : ℕ → ℕ
  row = c.layout.row

  -- none comes before the row's first
  pub none_before : (n : ℕ) → n ≤ c.layout.begin (c.layout.row n) → outside c s (c.layout.row n) n ≡ 0
  unfolding gather
  none_before n h =
      fold_none ◌+◌ 0 sum_ℕ _ n
      (λ j l. ap (λ (x : Bool). cond x (bit (out c s j)) 0) (ne_eqb (row j) (row n) (λ (q : row j ≡ row n). before j l q)))
    where
      before : (j : ℕ) → j < n → row j ≡ row n → ⊥
      before j l q = let g : c.layout.begin (row n) ≤ j = rw q at (f.begun j) in omega arith

  not_over : (j : ℕ) → T (not (stops_at c s j)) → outside c s (row j) (suc j) ≤ c.rule.allowance
  unfolding rules.over
  not_over j = go (c.rule.halts (λ i. (s i).speed) j) (ltb c.rule.allowance (outside c s (row j) (suc j))) refl
    where
      go : (x y : Bool) → ltb c.rule.allowance (outside c s (row j) (suc j)) ≡ y → T (not (x || y)) → outside c s (row j) (suc j) ≤ c.rule.allowance
      go false false e t = ltb-false _ _ e
      go false true e t = absurd t
      go true y e t = absurd t

  -- while the run goes on, their count is not above the allowance
  pub count_within : (n : ℕ) → counted c s n ≡ n → outside c s (c.layout.row n) n ≤ c.rule.allowance
  unfolding fold gather
  count_within zero all = zero-le
  count_within (suc k) all = go (ℕ_discrete (row k) (row (suc k)))
    where
      go : Dec (row k ≡ row (suc k)) → outside c s (row (suc k)) (suc k) ≤ c.rule.allowance
      go (yes e) =
          let kept = not_over k (first_before (stops_at c s) (min (suc k) c.layout.most) k (omega arith)) in
          subst (λ (r : ℕ). outside c s r (suc k) ≤ c.rule.allowance) e kept
      go (no e) =
          let first : suc k ≤ c.layout.begin (row (suc k)) = ⊎_elim (λ h. h) (λ h. absurd (e (f.joined k (omega arith)))) (side (suc k) (c.layout.begin (row (suc k)))) in
          omega (arith, none_before (suc k) first)
