-- The places at which fields may stand, as numbers.
-- Assumes nothing.
use mathlib.Core.Bool.{Bool, true, false, cond, ◌&&◌, false≢true}
use mathlib.Core.List.{List, [], ◌∷◌}
use mathlib.Core.Path.{◌≡◌, refl, ap, ◌∙◌}
use Prim.Native.Nat.{ℕ, ◌≤◌}
use native.Mathlib.Omega.{arith}
use borrow.Author.Tests.{leb-true, leb-false, eqb-true}
use lib.Dec.{leb, eqb}
use Rattle.rules.specs.Words.{every}
use Rattle.numbers.proofs.Tests.{both}
use Rattle.rules.specs.Table.{among, behind_tolerances, behind_stretches, behind_block, behind_after, block_places}

-- until the start, or after it
pub early_or_late : {A : Type 0} (n : ℕ) → (n ≤ 3 → A) → (behind_tolerances ≤ n → A) → A
early_or_late {A} n e l = go (leb n 3) refl
  where
    go : (b : Bool) → leb n 3 ≡ b → A
    go true q = e (leb-true n 3 q)
    go false q = l (let z = leb-false n 3 q in omega arith)

-- what holds of each of some places holds of one that is among them
pub every_among : (test : ℕ → Bool) (place : ℕ) (ps : List ℕ) → every test ps ≡ true → among place ps ≡ true → test place ≡ true
every_among test place [] e f = absurd (false≢true f)
every_among test place (p ∷ ps) e f = go (eqb place p) refl (both (test p) (every test ps) e) (every_among test place ps) f
  where
    go : (b : Bool) → eqb place p ≡ b → (test p ≡ true) × (every test ps ≡ true) → (every test ps ≡ true → among place ps ≡ true → test place ≡ true)
        → cond b true (among place ps) ≡ true → test place ≡ true
    go true q t next g = ap test (eqb-true place p q) ∙ t.0
    go false q t next g = next t.1 g

pub place_is : (p k : ℕ) → among p (k ∷ []) ≡ true → p ≡ k
place_is p k e = go (eqb p k) refl e
  where
    go : (b : Bool) → eqb p k ≡ b → cond b true false ≡ true → p ≡ k
    go true q f = eqb-true p k q
    go false q f = absurd (false≢true f)

-- from one to another
between : (low high : ℕ) (p : ℕ) (ps : List ℕ) → every (λ k. leb low k && leb k high) ps ≡ true → among p ps ≡ true → (low ≤ p) × (p ≤ high)
between low high p ps e a =
    let z = both (leb low p) (leb p high) (every_among (λ k. leb low k && leb k high) p ps e a) in
    (leb-true low p z.0, leb-true p high z.1)

-- a transfer energy before, blocks and a recharge stand only after the start
pub before_places : (p : ℕ) → among p (behind_tolerances ∷ behind_stretches ∷ []) ≡ true → (behind_tolerances ≤ p) × (p ≤ behind_stretches)
before_places p = between behind_tolerances behind_stretches p (behind_tolerances ∷ behind_stretches ∷ []) refl

pub block_places_lem : (p : ℕ) → among p block_places ≡ true → (behind_tolerances ≤ p) × (p ≤ behind_block)
block_places_lem p = between behind_tolerances behind_block p block_places refl

pub recharge_places : (p : ℕ) → among p (behind_after ∷ block_places) ≡ true → (behind_tolerances ≤ p) × (p ≤ behind_after)
recharge_places p = between behind_tolerances behind_after p (behind_after ∷ block_places) refl
