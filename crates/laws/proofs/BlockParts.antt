-- A block and its two parts: it is taken just where its first part is taken and then the second, with the same state behind them.
-- Assumes nothing.
use mathlib.Core.Bool.{Bool, true, false}
use mathlib.Core.List.{List, ◌++◌, append_assoc}
use mathlib.Core.Logic.{◌⊎◌, inl, inr, ⊎_elim}
use mathlib.Core.Path.{◌≡◌, refl, sym, ap, ap₂, ◌∙◌}
use Prim.Native.Nat.{ℕ, ◌+◌, ◌-◌, ◌*◌, ◌/◌, ◌≤◌, ◌<◌}
use native.Mathlib.Nat.{add_comm, add-mul-div_left}
use native.Mathlib.Omega.{arith}
use borrow.Author.Tests.{ltb-true, ltb-false}
use lib.Dec.{lit<, eqb, ltb}
use lib.ListN.{length, get_or, drop, length-append}
use Rattle.rules.specs.Words.{table}
use Rattle.numbers.proofs.Tables.{table_same, table_more, length_table}
use Rattle.numbers.proofs.Tests.{all_at, all_by_lem, all_same}
use Rattle.rules.specs.declared.Moment.{Moment}
use Rattle.rules.specs.Bench.{is_sample, moment_of}
use Rattle.rules.specs.Table.{behind_block}
use Rattle.rules.specs.Machine.{taken}
use Rattle.rules.specs.Values.{is_character, is_number, same_number, first_in, sample_at, moment_at, are_samples}
use Rattle.rules.specs.Record.{Holding, Told, take_field}
use Rattle.laws.proofs.Samples.{sample_left_lem, sample_right}
use Rattle.laws.proofs.OwnBlocks.{count_of, moments_of, sound_in, with_samples, OwnBlock, block_of, behind_samples, taken_block, block_taken_lem}

-- ---- a value, and the values of its parts

-- the same number, the samples of v one after another, the second numbered behind the first
pub record Parts (v v₁ v₂ : List ℕ) : Type 0 where
  pub head₁ : (k : ℕ) → k < 17 → get_or v₁ k 0 ≡ get_or v k 0
  pub head₂ : (k : ℕ) → k < 17 → get_or v₂ k 0 ≡ get_or v k 0
  pub first₁ : first_in v₁ ≡ first_in v
  pub first₂ : first_in v₂ ≡ first_in v + count_of v₁
  pub bytes : drop 21 v ≡ drop 21 v₁ ++ drop 21 v₂
  pub whole : length (drop 21 v₁) ≡ 6 * count_of v₁

-- of the number alone
number_same : (u v : List ℕ) → ((k : ℕ) → k < 17 → get_or u k 0 ≡ get_or v k 0) → is_number u ≡ is_number v
unfolding is_number
number_same u v h = all_same 17 _ _ (λ k l. ap is_character (h k l))

same_same : (me u v : List ℕ) → ((k : ℕ) → k < 17 → get_or u k 0 ≡ get_or v k 0) → same_number me u ≡ same_number me v
unfolding same_number
same_same me u v h = all_same 17 _ _ (λ k l. ap (eqb (get_or me k 0)) (h k l))

lt_or_ge : (i n : ℕ) → (i < n) ⊎ (n ≤ i)
lt_or_ge i n = go (ltb i n) refl
  where
    go : (b : Bool) → ltb i n ≡ b → (i < n) ⊎ (n ≤ i)
    go true e = inl (ltb-true i n e)
    go false e = inr (ltb-false i n e)

module _ (v v₁ v₂ : List ℕ) (w : Parts v v₁ v₂) where
  count_both : count_of v ≡ count_of v₁ + count_of v₂
  count_both =
      let l : length (drop 21 v₁ ++ drop 21 v₂) ≡ length (drop 21 v₂) + 6 * count_of v₁ = omega (arith, length-append (drop 21 v₁) (drop 21 v₂), w.whole) in
      ap (λ (q : List ℕ). length q / 6) w.bytes ∙ ap (λ (n : ℕ). n / 6) l ∙ add-mul-div_left (length (drop 21 v₂)) (count_of v₁) (lit< tt) ∙ add_comm (count_of v₂) (count_of v₁)

  left : (i : ℕ) → i < count_of v₁ → sample_at (drop 21 v) i ≡ sample_at (drop 21 v₁) i
  left i h = ap (λ (q : List ℕ). sample_at q i) w.bytes ∙ sample_left_lem (drop 21 v₁) (drop 21 v₂) (count_of v₁) i w.whole h

  right : (i : ℕ) → sample_at (drop 21 v) (count_of v₁ + i) ≡ sample_at (drop 21 v₂) i
  right i = ap (λ (q : List ℕ). sample_at q (count_of v₁ + i)) w.bytes ∙ sample_right (drop 21 v₁) (drop 21 v₂) (count_of v₁) i w.whole

  pub samples_both : moments_of v ≡ moments_of v₁ ++ moments_of v₂
  samples_both =
      ap (table (moment_at (drop 21 v))) count_both ∙ table_more (moment_at (drop 21 v)) (count_of v₁) (count_of v₂)
      ∙ ap₂ ◌++◌ (table_same _ (moment_at (drop 21 v₁)) (count_of v₁) (λ i h. ap moment_of (left i h)))
      (table_same _ (moment_at (drop 21 v₂)) (count_of v₂) (λ i _. ap moment_of (right i)))

  -- each sample is within its limits: of v, and of both parts
  good : sound_in v ≡ true → (sound_in v₁ ≡ true) × (sound_in v₂ ≡ true)
  unfolding are_samples
  good e =
      let at = all_at (count_of v) (λ i. is_sample (sample_at (drop 21 v) i)) e in (
        all_by_lem (count_of v₁) _ (λ i l. ap is_sample (sym (left i l)) ∙ at i (omega (arith, count_both))),
        all_by_lem (count_of v₂) _ (λ i l. ap is_sample (sym (right i)) ∙ at (count_of v₁ + i) (omega (arith, count_both))),
      )

  split : (i n : ℕ) → n ≤ i → i ≡ n + (i - n)
  split i n l = omega arith

  good_both : sound_in v₁ ≡ true → sound_in v₂ ≡ true → sound_in v ≡ true
  unfolding are_samples
  good_both e f =
      let at₁ = all_at (count_of v₁) (λ i. is_sample (sample_at (drop 21 v₁) i)) e in
      let at₂ = all_at (count_of v₂) (λ i. is_sample (sample_at (drop 21 v₂) i)) f in
      all_by_lem (count_of v) _ (λ i l. ⊎_elim (λ h. ap is_sample (left i h) ∙ at₁ i h)
      (λ h. let d = split i (count_of v₁) h in
      ap (λ (j : ℕ). is_sample (sample_at (drop 21 v) j)) d ∙ ap is_sample (right (i - count_of v₁)) ∙ at₂ (i - count_of v₁) (omega (arith, count_both)))
      (lt_or_ge i (count_of v₁)))

  module _ (h : Holding) where
    behind_first : length (with_samples h (moments_of v₁)).samples ≡ length h.samples + count_of v₁
    behind_first = length-append h.samples (moments_of v₁) ∙ ap (λ (n : ℕ). length h.samples + n) (length_table (moment_at (drop 21 v₁)) (count_of v₁))

    own_parts : OwnBlock h v → OwnBlock h v₁ × OwnBlock (with_samples h (moments_of v₁)) v₂
    own_parts o =
        let g = good o.samples in (
          record {
            number = number_same v₁ v w.head₁ ∙ o.number;
            same = same_same h.vehicle v₁ v w.head₁ ∙ o.same;
            first = w.first₁ ∙ o.first;
            room = omega (arith, count_both, o.room);
            samples = g.0;
          },
          record {
            number = number_same v₂ v w.head₂ ∙ o.number;
            same = same_same h.vehicle v₂ v w.head₂ ∙ o.same;
            first = omega (arith, w.first₂, o.first, behind_first);
            room = omega (arith, count_both, o.room, behind_first);
            samples = g.1;
          },
        )

    own_joined : OwnBlock h v₁ → OwnBlock (with_samples h (moments_of v₁)) v₂ → OwnBlock h v
    own_joined a b =
        record {
          number = sym (number_same v₁ v w.head₁) ∙ a.number;
          same = sym (same_same h.vehicle v₁ v w.head₁) ∙ a.same;
          first = sym w.first₁ ∙ a.first;
          room = omega (arith, count_both, b.room, behind_first);
          samples = good_both a.samples b.samples;
        }

  -- ---- as fields

  behind_both : (s : Told) → behind_samples (behind_samples s (moments_of v₁)) (moments_of v₂) ≡ behind_samples s (moments_of v)
  behind_both s =
      let h = s.holding in
      let e = append_assoc h.samples (moments_of v₁) (moments_of v₂) ∙ ap (λ (xs : List Moment). h.samples ++ xs) (sym samples_both) in
      λ k. record { place = behind_block; passed = s.passed; holding = record { vehicle = h.vehicle; cycle = h.cycle; tolerances = h.tolerances; method = h.method; samples = e k; amounts = h.amounts } }

  -- a block that is taken may be cut
  pub block_cut : (s s' : Told) → take_field s (block_of v) ≡ taken s'
      → (take_field s (block_of v₁) ≡ taken (behind_samples s (moments_of v₁))) × (take_field (behind_samples s (moments_of v₁)) (block_of v₂) ≡ taken s')
  block_cut s s' e =
      let t = taken_block s v s' e in
      let o = own_parts s.holding t.own in
      (block_taken_lem s v₁ t.place o.0, block_taken_lem (behind_samples s (moments_of v₁)) v₂ refl o.1 ∙ ap taken (behind_both s ∙ t.is))

  -- and two that are taken may be joined
  pub blocks_joined : (s s₁ s₂ : Told) → take_field s (block_of v₁) ≡ taken s₁ → take_field s₁ (block_of v₂) ≡ taken s₂ → take_field s (block_of v) ≡ taken s₂
  blocks_joined s s₁ s₂ e f =
      let t = taken_block s v₁ s₁ e in
      let u = taken_block (behind_samples s (moments_of v₁)) v₂ s₂ (ap (λ (x : Told). take_field x (block_of v₂)) t.is ∙ f) in
      block_taken_lem s v t.place (own_joined s.holding t.own u.own) ∙ ap taken (sym (behind_both s) ∙ u.is)
