-- Every record that is told is its first three fields, a field 4 and what follows: a comparison of records that differ only in field 4 leaves none out.
-- Assumes nothing.
use mathlib.Core.Bool.{Bool, true, false, false≢true}
use mathlib.Core.List.{List, [], ◌∷◌, ◌++◌, append_assoc}
use mathlib.Core.Path.{◌≡◌, refl, sym, ap, subst, ◌∙◌}
use Prim.Native.Nat.{ℕ, zero, suc, ◌+◌, ◌*◌, ◌≤◌, zero-le}
use native.Mathlib.Omega.{arith}
use lib.Dec.{leb}
use borrow.Author.Tests.{leb-true, leb-false}
use lib.ListN.{length, take, drop, length-append, take-append-drop, drop_of_length-le}
use lib.Seq.{length-take-le}
use Rattle.numbers.proofs.Bytes.{be_two}
use Rattle.rules.specs.Words.{be}
use Rattle.rules.specs.Table.{length_allowed, behind_cycle, behind_tolerances, tags}
use Rattle.rules.specs.Front.{Field, Front, incomplete, impossible, field, bytes_of, front_of}
use Rattle.rules.specs.Machine.{waiting, Ran, on, onwards, reply_at, move_at, upto, run}
use Rattle.rules.specs.Record.{Told, Bring, nothing, a_number, a_cycle, the_tolerances, the_stretches, own_samples, before, after, charged, told, take_field, untold, sheet_of}
use Rattle.laws.proofs.Cuts.{first_longer}
use Rattle.laws.proofs.Fronts.{Whole, front_whole, front_shorter}
use Rattle.laws.proofs.Moves.{move_as, uses, move_size, by_move}
use Rattle.laws.proofs.Places.{place_is, before_places, block_places_lem, recharge_places}
use Rattle.laws.proofs.Prefixes.{no_bytes}
use Rattle.laws.proofs.Says.{moves_to}
use Rattle.laws.proofs.Sheets.{told_leads}
use Rattle.laws.proofs.Tags.{sizes}
use Rattle.demands.specs.Compared.{field_four, with_four, FirstThree, HasFour}
use Rattle.demands.proofs.ToldCame.{SaysAt, Moved, took, went, moved}

-- ---- a field 4 by its bytes

four_bytes : (i : List ℕ) (f : Field) → Whole tags i f → f.tag ≡ 4 → length f.value ≡ 6 → i ≡ field_four f.value ++ drop 9 i
four_bytes [] f w t l = absurd (omega (arith, w.long))
four_bytes (a ∷ []) f w t l = absurd (omega (arith, w.long))
four_bytes (a ∷ b ∷ []) f w t l = absurd (omega (arith, w.long))
four_bytes (a ∷ b ∷ c ∷ i) f w t l =
    let size : be 2 (a ∷ b ∷ c ∷ i) 1 ≡ 6 = sym w.length_is ∙ l in
    let s : 256 * b + c ≡ 6 = sym (be_two (a ∷ b ∷ c ∷ i) 1) ∙ size in
    let tag : a ≡ 4 = ap (λ (g : Field). g.tag) (sym w.is) ∙ t in
    let high : b ≡ 0 = omega arith in
    let low : c ≡ 6 = omega arith in
    let value : f.value ≡ take 6 i = ap (λ (g : Field). g.value) w.is ∙ ap (λ (m : ℕ). take m i) size in
    let rest : i ≡ f.value ++ drop 6 i = sym (take-append-drop 6 i) ∙ ap (λ (v : List ℕ). v ++ drop 6 i) (sym value) in
    λ j. tag j ∷ high j ∷ low j ∷ rest j

-- ---- where the run starts: the fields before, the field 4 and what follows

record Split (s : Told) (i : List ℕ) : Type 0 where
  pub p : List ℕ
  pub v : List ℕ
  pub q : List ℕ
  pub record_is : i ≡ with_four p q v
  pub three : (run tags take_field s p).state.place ≡ behind_cycle
  pub whole : (run tags take_field s p).used ≡ length p
  pub awaits : (run tags take_field s p).end ≡ waiting
  pub six : length v ≡ 6

module _ (s : Told) (i : List ℕ) (s' : Told) (m : ℕ) (e : move_at tags take_field s i ≡ on s' m) where
  abbrev first : List ℕ
  first = take m i

  first_length : length first ≡ m
  first_length = length-take-le m i (move_size tags take_field s i s' m e).1

  -- the field is taken without what stands behind it
  first_alone : move_at tags take_field s first ≡ on s' m
  unfolding reply_at
  first_alone = go (front_of tags i) refl e
    where
      go : (x : Front) → front_of tags i ≡ x → move_as tags take_field s x ≡ on s' m → move_as tags take_field s (front_of tags first) ≡ on s' m
      go incomplete d g = absurd (false≢true cc)
      go impossible d g = absurd (false≢true cc)
      go (field f) d g =
          let u = uses (take_field s f) (bytes_of f) m s' g in
          ap (move_as tags take_field s) (front_shorter tags first (drop m i) f (ap (front_of tags) (take-append-drop m i) ∙ d) (omega (arith, first_length))) ∙ g

  -- and with other bytes behind it
  first_with : (r : List ℕ) → run tags take_field s (first ++ r) ≡ onwards m (run tags take_field s' r)
  first_with r =
      first_longer tags take_field s first r s' m first_alone
      ∙ ap (λ (j : List ℕ). onwards m (run tags take_field s' (j ++ r))) (drop_of_length-le first {i = m} (omega (arith, first_length)))

  -- a field that is taken stands before them
  one_before : Split s' (drop m i) → Split s i
  one_before w =
      let x = first_with w.p in
      record {
        p = first ++ w.p;
        v = w.v;
        q = w.q;
        record_is = sym (take-append-drop m i) ∙ ap (λ (j : List ℕ). first ++ j) w.record_is ∙ sym (append_assoc first w.p (field_four w.v ++ w.q));
        three = ap (λ (y : Ran Told). y.state.place) x ∙ w.three;
        whole = ap (λ (y : Ran Told). y.used) x ∙ omega (arith, w.whole, first_length, length-append first w.p);
        awaits = ap (λ (y : Ran Told). y.end) x ∙ w.awaits;
        six = w.six;
      }

  -- only a field 4 starts the run
  starts : s.place ≤ behind_cycle → behind_tolerances ≤ s'.place → Split s i
  starts l g = go (moved s i s' m e)
    where
      -- with none before it
      here : (f : Field) → front_of tags i ≡ field f → f.tag ≡ 4 → length f.value ≡ 6 → s.place ≡ behind_cycle → Split s i
      here f d t six three =
          let x = no_bytes tags take_field s in
          record {
            p = [];
            v = f.value;
            q = drop 9 i;
            record_is = four_bytes i f (front_whole tags i f d) t six;
            three = ap (λ (y : Ran Told). y.state.place) x ∙ three;
            whole = ap (λ (y : Ran Told). y.used) x;
            awaits = ap (λ (y : Ran Told). y.end) x;
            six = six;
          }

      by : (f : Field) → front_of tags i ≡ field f → length_allowed tags f.tag (length f.value) ≡ true
          → (b : Bring) → SaysAt s f b → behind_tolerances ≤ moves_to b → Split s i
      by f d a nothing w r = absurd (omega arith)
      by f d a (a_number v) w r = absurd (omega arith)
      by f d a (a_cycle v) w r = absurd (omega arith)
      by f d a (the_tolerances t) w r = here f d w.0 ((sizes f.tag (length f.value) a).tolerances w.0) (place_is s.place behind_cycle w.1)
      by f d a (the_stretches x) w r = absurd (let k = place_is s.place behind_tolerances w.1 in omega arith)
      by f d a (own_samples xs) w r = absurd (omega (arith, l, (block_places_lem s.place w.1).0))
      by f d a (before z) w r = absurd (omega (arith, l, (before_places s.place w.1).0))
      by f d a (after z) w r = absurd (omega (arith, l, (block_places_lem s.place w.1).0))
      by f d a (charged k) w r = absurd (omega (arith, l, (recharge_places s.place w.1).0))

      go : Moved s i s' → Split s i
      go (took f d a c) = by f d a c.brings c.says (subst (λ (y : Told). behind_tolerances ≤ y.place) (sym c.is) g)
      go (went d) = absurd (let k = ap (λ (y : Told). y.place) d in omega arith)

-- a field of the bytes starts the run
split_upto : (n : ℕ) (s : Told) (i : List ℕ) → s.place ≤ behind_cycle → behind_tolerances ≤ (upto tags take_field n s i).state.place → Split s i
unfolding upto
split_upto zero s i h = λ l. absurd (omega arith)
split_upto (suc n) s i h =
    by_move (λ (x : Ran Told). behind_tolerances ≤ x.state.place → Split s i) s (move_at tags take_field s i) _ (λ _ _ l. absurd (omega arith)) (λ s' m e l.
    go s' m e (λ g. split_upto n s' (drop m i) g l) (leb behind_tolerances s'.place) refl)
  where
    go : (s' : Told) (m : ℕ) → move_at tags take_field s i ≡ on s' m → (s'.place ≤ behind_cycle → Split s' (drop m i))
        → (b : Bool) → leb behind_tolerances s'.place ≡ b → Split s i
    go s' m e next true q = starts s i s' m e h (leb-true behind_tolerances s'.place q)
    go s' m e next false q = one_before s i s' m e (next (let l = leb-false behind_tolerances s'.place q in omega arith))

pub told_has_four : (i : List ℕ) (x : Told) → sheet_of i ≡ told x → HasFour i
told_has_four i x e =
    let t = told_leads i x e in
    let l : behind_tolerances ≤ (run tags take_field untold i).state.place =
    subst (λ (y : Ran Told). behind_tolerances ≤ y.state.place) (sym t.leads) (leb-true behind_tolerances x.place t.started) in
    let w = split_upto (length i) untold i zero-le l in
    let three : FirstThree w.p = record { three = w.three; whole = w.whole; awaits = w.awaits } in
    record { p = w.p; v = w.v; q = w.q; record_is = w.record_is; first_three = three; six = w.six }
