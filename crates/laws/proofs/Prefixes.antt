-- Of any machine: what every field keeps; the accepted fields alone, without what follows them; how many they are.
-- Assumes nothing.
use mathlib.Core.Bool.{false≢true}
use mathlib.Core.List.{List, [], ◌∷◌, ◌++◌}
use mathlib.Core.Logic.{◌⊎◌, inl, inr, ⊎_elim}
use mathlib.Core.Path.{◌≡◌, refl, sym, ap, subst, ◌∙◌}
use Prim.Native.Nat.{ℕ, zero, suc, ◌+◌, ◌*◌, ◌≤◌, zero-le}
use native.Mathlib.Nat.{le_refl, not-suc-le-zero}
use native.Mathlib.Omega.{arith}
use lib.ListN.{length, take, drop, length-drop, take-append-drop, drop_of_length-le}
use lib.Seq.{length-take-le, take-add, drop-drop}
use Rattle.rules.specs.Table.{Row}
use Rattle.rules.specs.Front.{Field, Front, incomplete, impossible, field, bytes_of, front_of}
use Rattle.rules.specs.Machine.{Answer, End, waiting, broken, stopped, Ran, on, off, ends, onwards, reply_at, move_at, upto, run}
use Rattle.laws.proofs.Fronts.{front_none, front_shorter}
use Rattle.laws.proofs.Moves.{move_as, uses, never_waits, move_size, move_none, by_move}
use Rattle.laws.proofs.Cuts.{resumed, first_ends, first_longer, used_most, cut}

module _ {M S : Type 0} (rows : List (Row M)) (act : S → Field → Answer S) where
  -- "incomplete .. changes nothing"
  pub incomplete_changes_nothing : (s : S) (i : List ℕ) → front_of rows i ≡ incomplete → run rows act s i ≡ ends s waiting
  unfolding reply_at
  incomplete_changes_nothing s i e = first_ends rows act s i waiting (ap (move_as rows act s) e)

  pub no_bytes : (s : S) → run rows act s [] ≡ ends s waiting
  no_bytes s = first_ends rows act s [] waiting (move_none rows act s)

  -- what every accepted field keeps, all keep
  pub kept : (P : S → Type 0) → ((s : S) (i : List ℕ) (s' : S) (m : ℕ) → move_at rows act s i ≡ on s' m → P s → P s')
      → (n : ℕ) (s : S) (i : List ℕ) → P s → P (upto rows act n s i).state
  unfolding upto
  kept P keeps zero s i p = p
  kept P keeps (suc n) s i p =
      by_move (λ (x : Ran S). P x.state) s (move_at rows act s i) _ (λ _ _. p) (λ s' m e. kept P keeps n s' (drop m i) (keeps s i s' m e p))

  -- ---- how many fields

  -- each has at least three bytes
  fields_upto : (n : ℕ) (s : S) (i : List ℕ) → 3 * (upto rows act n s i).fields ≤ (upto rows act n s i).used
  unfolding upto
  fields_upto zero s i = zero-le
  fields_upto (suc n) s i =
      by_move (λ (x : Ran S). 3 * x.fields ≤ x.used) s (move_at rows act s i) _ (λ _ _. zero-le)
      (λ s' m e. let z = move_size rows act s i s' m e in let r = fields_upto n s' (drop m i) in omega arith)

  pub fields_most : (s : S) (i : List ℕ) → 3 * (run rows act s i).fields ≤ length i
  fields_most s i = let l = used_most rows act s i in let r = fields_upto (length i) s i in omega arith

  -- where none is accepted, the state is as it was
  none_upto : (n : ℕ) (s : S) (i : List ℕ) → (upto rows act n s i).fields ≡ 0 → upto rows act n s i ≡ ends s (upto rows act n s i).end
  unfolding upto
  none_upto zero s i = λ _. refl
  none_upto (suc n) s i =
      by_move (λ (x : Ran S). x.fields ≡ 0 → x ≡ ends s x.end) s (move_at rows act s i) _ (λ _ _ _. refl) (λ s' m e z. absurd (omega arith))

  pub none_accepted : (s : S) (i : List ℕ) → (run rows act s i).fields ≡ 0 → run rows act s i ≡ ends s (run rows act s i).end
  none_accepted s i = none_upto (length i) s i

  pub none_used : (s : S) (i : List ℕ) → (run rows act s i).used ≡ 0 → run rows act s i ≡ ends s (run rows act s i).end
  none_used s i e = none_accepted s i (let r = fields_upto (length i) s i in omega arith)

  -- more bytes take no accepted field back
  pub fields_grow : (s : S) (p q : List ℕ) → ((run rows act s p).fields ≤ (run rows act s (p ++ q)).fields) × ((run rows act s p).used ≤ (run rows act s (p ++ q)).used)
  fields_grow s p q =
      let x = run rows act s p in
      subst (λ (y : Ran S). (x.fields ≤ y.fields) × (x.used ≤ y.used)) (sym (cut rows act s p q)) (go x.end x _)
    where
      go : (e : End) (x y : Ran S) → (x.fields ≤ (resumed e x y).fields) × (x.used ≤ (resumed e x y).used)
      go waiting x y = (omega arith, omega arith)
      go broken x y = (le_refl x.fields, le_refl x.used)
      go (stopped n) x y = (le_refl x.fields, le_refl x.used)

  -- ---- the accepted fields alone

  move_shorter : (s : S) (p q : List ℕ) (s' : S) (m : ℕ) → move_at rows act s (p ++ q) ≡ on s' m → m ≤ length p → move_at rows act s p ≡ on s' m
  unfolding reply_at
  move_shorter s p q s' m e h = go (front_of rows (p ++ q)) refl e
    where
      go : (x : Front) → front_of rows (p ++ q) ≡ x → move_as rows act s x ≡ on s' m → move_as rows act s (front_of rows p) ≡ on s' m
      go impossible f g = absurd (false≢true cc)
      go incomplete f g = absurd (false≢true cc)
      go (field a) f g =
          let u = uses (act s a) (bytes_of a) m s' g in
          ap (move_as rows act s) (front_shorter rows p q a f (omega arith)) ∙ g

  abbrev finished : Ran S → Ran S
  finished x = record { state = x.state; fields = x.fields; used = x.used; end = waiting }

  alone_upto : (n : ℕ) (s : S) (i : List ℕ) → run rows act s (take (upto rows act n s i).used i) ≡ finished (upto rows act n s i)
  unfolding upto
  alone_upto zero s i = no_bytes s
  alone_upto (suc n) s i =
      by_move (λ (x : Ran S). run rows act s (take x.used i) ≡ finished x) s (move_at rows act s i) _ (λ _ _. no_bytes s) (λ s' m e.
      let z = move_size rows act s i s' m e in
      let u = (upto rows act n s' (drop m i)).used in
      let l : length (take m i) ≡ m = length-take-le m i z.1 in
      let first : move_at rows act s (take m i) ≡ on s' m =
      move_shorter s (take m i) (drop m i) s' m (subst (λ (j : List ℕ). move_at rows act s j ≡ on s' m) (sym (take-append-drop m i)) e) (omega arith) in
      ap (run rows act s) (take-add m u i)
      ∙ first_longer rows act s (take m i) (take u (drop m i)) s' m first
      ∙ ap (λ (j : List ℕ). onwards m (run rows act s' (j ++ take u (drop m i)))) (drop_of_length-le (take m i) {i = m} (omega arith))
      ∙ ap (onwards m) (alone_upto n s' (drop m i)))

  -- the bytes that were used, without what stands behind them, bring the same
  pub accepted_alone : (s : S) (i : List ℕ) → run rows act s (take (run rows act s i).used i) ≡ finished (run rows act s i)
  accepted_alone s i = alone_upto (length i) s i

  -- ---- what is left over

  waits_incomplete : (s : S) (i : List ℕ) → move_at rows act s i ≡ off waiting → front_of rows i ≡ incomplete
  unfolding reply_at
  waits_incomplete s i = go (front_of rows i)
    where
      go : (x : Front) → move_as rows act s x ≡ off waiting → x ≡ incomplete
      go incomplete e = refl
      go impossible e = absurd (false≢true cc)
      go (field f) e = absurd (never_waits (act s f) (bytes_of f) e)

  left_upto : (n : ℕ) (s : S) (i : List ℕ) → length i ≤ n → (upto rows act n s i).end ≡ waiting → front_of rows (drop (upto rows act n s i).used i) ≡ incomplete
  unfolding upto
  left_upto zero s [] h = λ e. front_none rows
  left_upto zero s (b ∷ i) h = absurd (not-suc-le-zero h)
  left_upto (suc n) s i h =
      by_move (λ (x : Ran S). x.end ≡ waiting → front_of rows (drop x.used i) ≡ incomplete) s (move_at rows act s i) _
      (λ e d w. waits_incomplete s i (d ∙ ap off w))
      (λ s' m d w.
      let z = move_size rows act s i s' m d in
      ap (front_of rows) (sym (drop-drop (upto rows act n s' (drop m i)).used m i)) ∙ left_upto n s' (drop m i) (omega (arith, length-drop m i)) w)

  -- where more bytes could go on, an unfinished field is left over, or no bytes
  pub left_over : (s : S) (i : List ℕ) → (run rows act s i).end ≡ waiting → front_of rows (drop (run rows act s i).used i) ≡ incomplete
  left_over s i = left_upto (length i) s i (le_refl (length i))

  -- ---- at most n fields: n are accepted, or one that follows them is not

  pub few_upto : (n : ℕ) (s : S) (i : List ℕ) → (upto rows act n s i).fields ≤ n
  unfolding upto
  few_upto zero s i = zero-le
  few_upto (suc n) s i =
      by_move (λ (x : Ran S). x.fields ≤ suc n) s (move_at rows act s i) _ (λ _ _. zero-le) (λ s' m e. let r = few_upto n s' (drop m i) in omega arith)

  pub upto_stops : (n : ℕ) (s : S) (i : List ℕ) → (let x = upto rows act n s i in (x.fields ≡ n) ⊎ (move_at rows act x.state (drop x.used i) ≡ off x.end))
  unfolding upto
  upto_stops zero s i = inl refl
  upto_stops (suc n) s i =
      by_move (λ (x : Ran S). (x.fields ≡ suc n) ⊎ (move_at rows act x.state (drop x.used i) ≡ off x.end)) s (move_at rows act s i) _ (λ e d. inr d)
      (λ s' m d.
      let x = upto rows act n s' (drop m i) in
      ⊎_elim (λ (q : x.fields ≡ n). inl (ap suc q)) (λ q. inr (ap (move_at rows act x.state) (sym (drop-drop x.used m i)) ∙ q)) (upto_stops n s' (drop m i)))

  -- where n are accepted, more bytes could go on
  pub upto_full : (n : ℕ) (s : S) (i : List ℕ) → (upto rows act n s i).fields ≡ n → (upto rows act n s i).end ≡ waiting
  unfolding upto
  upto_full zero s i = λ _. refl
  upto_full (suc n) s i =
      by_move (λ (x : Ran S). x.fields ≡ suc n → x.end ≡ waiting) s (move_at rows act s i) _ (λ e d z. absurd (omega arith))
      (λ s' m d z. upto_full n s' (drop m i) (omega arith))

  -- so the bytes that all fields leave have the answer by which they ended
  pub run_stops : (s : S) (i : List ℕ) → (let x = run rows act s i in move_at rows act x.state (drop x.used i) ≡ off x.end)
  run_stops s i = ⊎_elim none_left (λ e. e) (upto_stops (length i) s i)
    where
      x : Ran S
      x = run rows act s i

      none_left : x.fields ≡ length i → move_at rows act x.state (drop x.used i) ≡ off x.end
      none_left e =
          let m = fields_most s i in
          let none : length i ≡ 0 = omega arith in
          ap (move_at rows act x.state) (drop_of_length-le i {i = x.used} (omega arith)) ∙ move_none rows act x.state ∙ ap off (sym (upto_full (length i) s i e))
