-- Any cutting of the bytes into parts gives the same, for any machine: what is left of a part is taken on with the next part behind it.
-- Assumes nothing.
use mathlib.Core.Bool.{false≢true}
use mathlib.Core.List.{List, [], ◌∷◌, ◌++◌, append-nil}
use mathlib.Core.Path.{◌≡◌, refl, sym, ap, ◌∙◌}
use Prim.Native.Nat.{ℕ, zero, suc, ◌+◌, ◌≤◌, zero-le}
use native.Mathlib.Nat.{add_assoc, suc-add, zero-add, not-suc-le-zero, le_refl}
use native.Mathlib.Omega.{arith}
use lib.ListN.{length, drop, length-drop}
use lib.Seq.{drop-append-le, drop-drop, drop-length}
use Rattle.rules.specs.Table.{Row}
use Rattle.rules.specs.Front.{Field}
use Rattle.rules.specs.Machine.{Answer, End, waiting, broken, stopped, Ran, Move, on, off, ends, onwards, go_on, move_at, upto, run}
use Rattle.laws.proofs.Moves.{move_size, move_none, move_longer, by_move, same_next}

module _ {S : Type 0} where
  -- y behind what x took
  abbrev pub joined : Ran S → Ran S → Ran S
  joined x y = record { state = y.state; fields = x.fields + y.fields; used = x.used + y.used; end = y.end }

  -- only where the bytes may go on, more can follow
  abbrev pub resumed : End → Ran S → Ran S → Ran S
  resumed waiting x y = joined x y
  resumed broken x y = x
  resumed (stopped n) x y = x

  none_before : (s : S) (e : End) (y : Ran S) → y ≡ joined (ends s e) y
  none_before s e y = λ j. record { state = y.state; fields = sym (zero-add y.fields) j; used = sym (zero-add y.used) j; end = y.end }

  -- one field more before both
  one_resumed : (m : ℕ) (e : End) (x y : Ran S) → resumed e (onwards m x) y ≡ onwards m (resumed e x y)
  one_resumed m waiting x y =
      λ j. record { state = y.state; fields = suc-add x.fields y.fields j; used = add_assoc m x.used y.used j; end = y.end }
  one_resumed m broken x y = refl
  one_resumed m (stopped n) x y = refl

module _ {M S : Type 0} (rows : List (Row M)) (take : S → Field → Answer S) where
  abbrev at : S → List ℕ → Move S
  at = move_at rows take

  abbrev all : S → List ℕ → Ran S
  all = run rows take

  -- ---- as many fields as there are bytes are enough

  none : (n : ℕ) (s : S) (i : List ℕ) → length i ≤ 0 → upto rows take n s i ≡ ends s waiting
  unfolding upto
  none zero s i h = refl
  none (suc n) s [] h = rw (move_none rows take s)
  none (suc n) s (b ∷ i) h = absurd (not-suc-le-zero h)

  fuel : (n m : ℕ) (s : S) (i : List ℕ) → length i ≤ n → length i ≤ m → upto rows take n s i ≡ upto rows take m s i
  unfolding upto
  fuel zero m s i h g = sym (none m s i h)
  fuel (suc n) zero s i h g = none (suc n) s i g
  fuel (suc n) (suc m) s i h g =
      same_next s (at s i) _ _ (λ s' c u.
      let z = move_size rows take s i s' c u in
      let l = length-drop c i in
      fuel n m s' (drop c i) (omega arith) (omega arith))

  pub enough : (n : ℕ) (s : S) (i : List ℕ) → length i ≤ n → upto rows take n s i ≡ all s i
  enough n s i h = fuel n (length i) s i h (le_refl (length i))

  -- the first field, and those that follow it
  pub unrolled : (s : S) (i : List ℕ) → all s i ≡ go_on s (at s i) (λ s' m. all s' (drop m i))
  unfolding upto
  unrolled s i =
      sym (enough (suc (length i)) s i (omega arith))
      ∙ same_next s (at s i) _ _ (λ s' m u. enough (length i) s' (drop m i) (omega (arith, length-drop m i)))

  pub first_then : (s : S) (i : List ℕ) (s' : S) (m : ℕ) → at s i ≡ on s' m → all s i ≡ onwards m (all s' (drop m i))
  first_then s i s' m e = unrolled s i ∙ ap (λ (x : Move S). go_on s x (λ t c. all t (drop c i))) e

  pub first_ends : (s : S) (i : List ℕ) (e : End) → at s i ≡ off e → all s i ≡ ends s e
  first_ends s i e h = unrolled s i ∙ ap (λ (x : Move S). go_on s x (λ t c. all t (drop c i))) h

  -- ---- cut in two

  -- the fields use no more than there is
  pub used_upto : (n : ℕ) (s : S) (i : List ℕ) → (upto rows take n s i).used ≤ length i
  unfolding upto
  used_upto zero s i = zero-le
  used_upto (suc n) s i =
      by_move (λ (x : Ran S). x.used ≤ length i) s (at s i) _ (λ _ _. zero-le)
      (λ s' m u. let z = move_size rows take s i s' m u in omega (arith, length-drop m i, used_upto n s' (drop m i)))

  pub used_most : (s : S) (i : List ℕ) → (all s i).used ≤ length i
  used_most s i = used_upto (length i) s i

  -- x was taken of p: what is left of p is taken on with q behind it
  abbrev pub taken_on : List ℕ → List ℕ → Ran S → Ran S
  taken_on p q x = resumed x.end x (all x.state (drop x.used p ++ q))

  one_more_lem : (p q : List ℕ) (m : ℕ) (x : Ran S) → taken_on p q (onwards m x) ≡ onwards m (taken_on (drop m p) q x)
  one_more_lem p q m x =
      ap (λ (l : List ℕ). resumed x.end (onwards m x) (all x.state (l ++ q))) (sym (drop-drop x.used m p))
      ∙ one_resumed m x.end x (all x.state (drop x.used (drop m p) ++ q))

  pub first_longer : (s : S) (p q : List ℕ) (s' : S) (m : ℕ) → at s p ≡ on s' m → all s (p ++ q) ≡ onwards m (all s' (drop m p ++ q))
  first_longer s p q s' m e =
      first_then s (p ++ q) s' m (move_longer rows take s p q (λ w. false≢true cc) ∙ e)
      ∙ ap (λ (l : List ℕ). onwards m (all s' l)) (drop-append-le m p q (move_size rows take s p s' m e).1)

  -- a refusal is the same, whatever follows it
  pub ends_longer : (s : S) (p q : List ℕ) (e : End) → (e ≡ waiting → ⊥) → at s p ≡ off e → all s (p ++ q) ≡ ends s e
  ends_longer s p q e f h =
      first_ends s (p ++ q) e (move_longer rows take s p q (λ w. f (let z : off e ≡ off waiting = sym h ∙ w in cc z)) ∙ h)

  cut_one : (s : S) (p q : List ℕ) (f : S → ℕ → Ran S) → ((s' : S) (m : ℕ) → all s' (drop m p ++ q) ≡ taken_on (drop m p) q (f s' m))
      → all s (p ++ q) ≡ taken_on p q (go_on s (at s p) f)
  cut_one s p q f next =
      by_move (λ (x : Ran S). all s (p ++ q) ≡ taken_on p q x) s (at s p) f go
      (λ s' m u. first_longer s p q s' m u ∙ ap (onwards m) (next s' m) ∙ sym (one_more_lem p q m (f s' m)))
    where
      go : (e : End) → at s p ≡ off e → all s (p ++ q) ≡ taken_on p q (ends s e)
      go waiting h = none_before s waiting (all s (p ++ q))
      go broken h = ends_longer s p q broken (λ w. false≢true cc) h
      go (stopped n) h = ends_longer s p q (stopped n) (λ w. false≢true cc) h

  cut_upto : (n : ℕ) (s : S) (p q : List ℕ) → all s (p ++ q) ≡ taken_on p q (upto rows take n s p)
  unfolding upto
  cut_upto zero s p q = none_before s waiting (all s (p ++ q))
  cut_upto (suc n) s p q = cut_one s p q _ (λ s' m. cut_upto n s' (drop m p) q)

  -- at most n fields, and those that follow them
  pub upto_then : (n : ℕ) (s : S) (i : List ℕ) → all s i ≡ (let x = upto rows take n s i in resumed x.end x (all x.state (drop x.used i)))
  upto_then n s i =
      let x = upto rows take n s i in
      ap (all s) (sym (append-nil i)) ∙ cut_upto n s i [] ∙ ap (λ (j : List ℕ). resumed x.end x (all x.state j)) (append-nil (drop x.used i))

  -- the whole is what the first part gives, taken on
  pub cut : (s : S) (p q : List ℕ) → all s (p ++ q) ≡ taken_on p q (all s p)
  cut s p q = cut_upto (length p) s p q

  -- where the first part ends with a whole field
  pub cut_whole : (s : S) (p q : List ℕ) → (all s p).end ≡ waiting → (all s p).used ≡ length p → all s (p ++ q) ≡ joined (all s p) (all (all s p).state q)
  cut_whole s p q e u =
      cut s p q
      ∙ ap (λ (x : End). resumed x (all s p) (all (all s p).state (drop (all s p).used p ++ q))) e
      ∙ ap (λ (l : List ℕ). joined (all s p) (all (all s p).state (l ++ q))) (ap (λ (n : ℕ). drop n p) u ∙ drop-length p)

  -- a refusal stays, whatever follows
  pub refusal_stays : (s : S) (p q : List ℕ) → ((all s p).end ≡ waiting → ⊥) → all s (p ++ q) ≡ all s p
  refusal_stays s p q f = cut s p q ∙ go (all s p).end f
    where
      go : (e : End) → (e ≡ waiting → ⊥) → resumed e (all s p) (all (all s p).state (drop (all s p).used p ++ q)) ≡ all s p
      go waiting h = absurd (h refl)
      go broken h = refl
      go (stopped n) h = refl
