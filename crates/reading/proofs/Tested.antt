-- What the test of the reader's own numbers says, and when it passes.
-- Assumes nothing.
use mathlib.Core.Bool.{Bool, true, false, cond}
use mathlib.Core.Path.{◌≡◌, refl}
use Prim.Native.Nat.{ℕ, ◌≤◌}
use borrow.Author.Tests.{leb-true, eqb-true, le-leb, eq-eqb}
use lib.Dec.{leb, eqb}
use Rattle.numbers.proofs.Tests.{both}
use Rattle.rules.specs.Bench.{most_passed}
use Rattle.rules.specs.Values.{is_number}
use Rattle.values.specs.Limits.{are_amounts}
use Rattle.reading.specs.declared.Reading.{Reading}
use Rattle.reading.specs.Answers.{is_fresh, is_reading}

pub record OwnLimits (r : Reading) : Type 0 where
  pub place : r.place ≤ 5
  pub fresh : r.place ≤ 2 → r.run.progress.offered ≡ 0
  pub passed : r.passed ≤ most_passed
  pub amounts : are_amounts r.amounts ≡ true
  pub number : is_number r.vehicle ≡ true

fresh_so : (p o : ℕ) → is_fresh p o ≡ true → p ≤ 2 → o ≡ 0
fresh_so p o e h = eqb-true o 0 (rw (le-leb p 2 h) at e)

fresh_by : (p o : ℕ) → (p ≤ 2 → o ≡ 0) → is_fresh p o ≡ true
fresh_by p o h = go (leb p 2) refl
  where
    go : (v : Bool) → leb p 2 ≡ v → cond v (eqb o 0) true ≡ true
    go true e = eq-eqb o 0 (h (leb-true p 2 e))
    go false e = refl

pub own_limits : (r : Reading) → is_reading r ≡ true → OwnLimits r
unfolding is_reading
own_limits r e =
    let e₄ = both _ _ e in
    let e₃ = both _ _ e₄.0 in
    let e₂ = both _ _ e₃.0 in
    let e₁ = both _ _ e₂.0 in
    record {
      place = leb-true _ _ e₁.0;
      fresh = fresh_so r.place r.run.progress.offered e₁.1;
      passed = leb-true _ _ e₂.1;
      amounts = e₃.1;
      number = e₄.1;
    }

pub own_by : (r : Reading) → OwnLimits r → is_reading r ≡ true
unfolding is_reading
own_by r h = rw (le-leb _ _ h.place, fresh_by r.place r.run.progress.offered h.fresh, le-leb _ _ h.passed, h.amounts, h.number)
