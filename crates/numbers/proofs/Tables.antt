-- A function's values as a list, and a fold over a list.
-- Assumes nothing.
use mathlib.Core.List.{List, [], ◌∷◌, ◌++◌, foldl}
use mathlib.Core.Path.{◌≡◌, refl, sym, ap, ap₂, ◌∙◌}
use Prim.Native.Nat.{ℕ, zero, suc, ◌+◌, ◌<◌, zero-le, suc-le-suc}
use native.Mathlib.Nat.{zero-add, suc-add}
use lib.ListN.{length, get_or}
use Rattle.rules.specs.Words.{fold, table}

-- ---- a function's values as a list

module _ {A : Type 0} where
  pub table_same : (f g : ℕ → A) (n : ℕ) → ((k : ℕ) → k < n → f k ≡ g k) → table f n ≡ table g n
  unfolding table
  table_same f g zero h = refl
  table_same f g (suc n) h = ap₂ ◌∷◌ (h 0 (suc-le-suc zero-le)) (table_same (λ j. f (suc j)) (λ j. g (suc j)) n (λ k l. h (suc k) (suc-le-suc l)))

  pub length_table : (f : ℕ → A) (n : ℕ) → length (table f n) ≡ n
  unfolding table
  length_table f zero = refl
  length_table f (suc n) = ap suc (length_table (λ j. f (suc j)) n)

  -- m values, and n more
  pub table_more : (f : ℕ → A) (m n : ℕ) → table f (m + n) ≡ table f m ++ table (λ j. f (m + j)) n
  unfolding table
  table_more f zero n = λ i. table (λ j. f (sym (zero-add j) i)) (zero-add n i)
  table_more f (suc m) n =
      ap (table f) (suc-add m n)
      ∙ ap (λ (r : List A). f 0 ∷ r) (table_more (λ j. f (suc j)) m n)
      ∙ (λ i. f 0 ∷ (table (λ j. f (suc j)) m ++ table (λ j. f (sym (suc-add m j) i)) n))

-- ---- a fold over a list

module _ {A B : Type 0} (g : B → A → B) where
  fold_front : (b : B) (s : ℕ → A) (n : ℕ) → fold g b s (suc n) ≡ fold g (g b (s 0)) (λ j. s (suc j)) n
  unfolding fold
  fold_front b s zero = refl
  fold_front b s (suc n) = ap (λ (x : B). g x (s (suc n))) (fold_front b s n)

  pub fold_list : (b : B) (xs : List A) (d : A) → foldl g b xs ≡ fold g b (λ j. get_or xs j d) (length xs)
  unfolding fold
  fold_list b [] d = refl
  fold_list b (x ∷ xs) d = fold_list (g b x) xs d ∙ sym (fold_front b (λ j. get_or (x ∷ xs) j d) (length xs))

  pub fold_table : (b : B) (f : ℕ → A) (n : ℕ) → fold g b f n ≡ foldl g b (table f n)
  unfolding fold table
  fold_table b f zero = refl
  fold_table b f (suc n) = fold_front b f n ∙ fold_table (g b (f 0)) (λ j. f (suc j)) n
