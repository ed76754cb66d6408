-- "The same accepted samples cut into other blocks give the same run.": of records.
-- Assumes nothing.
use mathlib.Core.Bool.{Bool, true, false, false≢true}
use mathlib.Core.List.{List, ◌++◌}
use mathlib.Core.Path.{◌≡◌, refl, sym, ap, ◌∙◌}
use Prim.Native.Nat.{ℕ, suc, ◌+◌, ◌-◌}
use native.Mathlib.Omega.{arith}
use lib.Dec.{leb, eqb}
use lib.ListN.{length, length-append}
use Rattle.rules.specs.Words.{unless}
use Rattle.rules.specs.declared.Moment.{Moment}
use Rattle.rules.specs.Table.{behind_tolerances, tags}
use Rattle.rules.specs.Machine.{End, waiting, broken, stopped, run}
use Rattle.rules.specs.Record.{Told, take_field, Sheet, told, refused_at, sheet_by, sheet_from, sheet_of}
use Rattle.laws.proofs.Sheets.{sheet_ran, Leads, sheet_longer}
use Rattle.laws.proofs.OwnBlocks.{Blocks, blocks_run, blocks_state}

-- behind m fields more: the same is told, or refused m fields later
abbrev pub later : ℕ → Sheet → Sheet
later m (told s) = told s
later m (refused_at number k) = refused_at number (k + m)

sheet_later : (d m : ℕ) (s : Told) (q : List ℕ) → sheet_from (d + m) s q ≡ later m (sheet_from d s q)
unfolding unless
sheet_later d m s q =
    let x = run tags take_field s q in
    let f : d + m + x.fields ≡ d + x.fields + m = omega arith in
    ap (λ (n : ℕ). sheet_by x.end x.state n (length q - x.used)) f ∙ go x.end x.state (d + x.fields) (length q - x.used)
  where
    go : (e : End) (s : Told) (n left : ℕ) → sheet_by e s (n + m) left ≡ later m (sheet_by e s n left)
    go waiting s n left = by_tests (leb behind_tolerances s.place) (eqb left 0)
      where
        number : suc (n + m) ≡ suc n + m
        number = omega arith

        by_tests : (a b : Bool) → unless (refused_at 15 (suc (n + m))) a (unless (refused_at 15 (suc (n + m))) b (told s))
            ≡ later m (unless (refused_at 15 (suc n)) a (unless (refused_at 15 (suc n)) b (told s)))
        by_tests true true = refl
        by_tests true false = ap (refused_at 15) number
        by_tests false b = ap (refused_at 15) number
    go broken s n left = let e : suc (n + m) ≡ suc n + m = omega arith in ap (refused_at 8) e
    go (stopped y) s n left = let e : suc (n + m) ≡ suc n + m = omega arith in ap (refused_at y) e

-- the whole fields a, then own blocks p, then the bytes q
blocks_sheet : (a p q : List ℕ) (s s' : Told) (xs : List Moment) (k n : ℕ) → Leads a s k → Blocks s p xs n s' → sheet_of (a ++ (p ++ q)) ≡ later n (sheet_from k s' q)
blocks_sheet a p q s s' xs k n h bs =
    let y = run tags take_field s' q in
    let f : k + (n + y.fields) ≡ k + n + y.fields = omega arith in
    let l : length (p ++ q) - (length p + y.used) ≡ length q - y.used = omega (arith, length-append p q) in
    sheet_longer a s k h (p ++ q)
    ∙ ap (sheet_ran k (length (p ++ q))) (blocks_run s p xs n s' bs q)
    ∙ (λ j. sheet_by y.end y.state (f j) (l j))
    ∙ sheet_later k n s' q

-- the same samples in n + 1 blocks p and in n' + 1 blocks p': one sheet, but that a later refusal is so many fields later as there are blocks
module _ (a q : List ℕ) (s : Told) (k : ℕ) (h : Leads a s k) (xs : List Moment) (p p' : List ℕ) (s₁ s₂ : Told) (n n' : ℕ)
    (bs : Blocks s p xs (suc n) s₁) (bs' : Blocks s p' xs (suc n') s₂) where
  pub same_state : s₁ ≡ s₂
  same_state = sym (blocks_state s p xs n s₁ bs) ∙ blocks_state s p' xs n' s₂ bs'

  pub cut_otherwise : (sheet_of (a ++ (p ++ q)) ≡ later (suc n) (sheet_from k s₂ q)) × (sheet_of (a ++ (p' ++ q)) ≡ later (suc n') (sheet_from k s₂ q))
  cut_otherwise =
      (blocks_sheet a p q s s₁ xs k (suc n) h bs ∙ ap (λ (t : Told). later (suc n) (sheet_from k t q)) same_state, blocks_sheet a p' q s s₂ xs k (suc n') h bs')

  -- what the one tells, the other tells
  pub tells_the_same : (x : Told) → sheet_of (a ++ (p ++ q)) ≡ told x → sheet_of (a ++ (p' ++ q)) ≡ told x
  tells_the_same x e = cut_otherwise.1 ∙ go (sheet_from k s₂ q) (sym cut_otherwise.0 ∙ e)
    where
      go : (y : Sheet) → later (suc n) y ≡ told x → later (suc n') y ≡ told x
      go (told t) f = f
      go (refused_at number j) f = absurd (no f)
        where
          no : refused_at number (j + suc n) ≡ told x → ⊥
          no f = false≢true cc
