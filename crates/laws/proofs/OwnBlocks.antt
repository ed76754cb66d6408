-- "The same accepted samples cut into other blocks give the same run.": own blocks one after another, however they are cut.
-- Assumes nothing.
use mathlib.Core.Bool.{Bool, true, false≢true}
use mathlib.Core.List.{List, [], ◌++◌, append-nil, append_assoc}
use mathlib.Core.Path.{◌≡◌, refl, sym, ap, ◌∙◌}
use Prim.Native.Nat.{ℕ, suc, ◌+◌}
use native.Mathlib.Nat.{zero-add}
use native.Mathlib.Omega.{arith}
use lib.ListN.{length, drop, length-append, drop_of_length-le}
use borrow.Author.Tests.{le-leb, eq-eqb}
use Rattle.rules.specs.Words.{all_below, unless}
use Rattle.numbers.proofs.Tests.{passed as passes}
use Rattle.rules.specs.declared.Moment.{Moment}
use Rattle.rules.specs.Bench.{most_offered}
use Rattle.rules.specs.Table.{begins, among, by_row, behind_block, block_places, tags}
use Rattle.rules.specs.Front.{Field, field, front_of}
use Rattle.rules.specs.Machine.{Answer, taken, passed, waiting, on, move_by, onwards, reply_at, move_at, run}
use Rattle.rules.specs.Values.{first_in, samples_of, count_in, moments_in, are_samples}
use Rattle.rules.specs.Record.{Holding, Told, Bring, own_samples, Content, brought, foreign, wrong, block_content, answer_by, field_content, content_at, with_bring, bring_at, more_passed, take_field}
use Rattle.laws.proofs.Says.{Own, own}
use Rattle.laws.proofs.Moves.{move_as}
use Rattle.laws.proofs.Cuts.{joined, first_longer}

-- ---- what an own block is that is taken

-- the samples behind number and first number: how many, what the run takes of them, and that they are within their limits
abbrev pub count_of : List ℕ → ℕ
count_of v = count_in (samples_of v)

abbrev pub moments_of : List ℕ → List Moment
moments_of v = moments_in (samples_of v)

abbrev pub sound_in : List ℕ → Bool
sound_in v = are_samples (samples_of v) (count_of v)

abbrev pub with_samples : Holding → List Moment → Holding
with_samples h xs = with_bring h (own_samples xs)

abbrev pub OwnBlock : Holding → List ℕ → Type 0
OwnBlock h v = Own h.vehicle (length h.samples) v

module _ (over : ℕ) (h : Holding) (v : List ℕ) where
  pub own_block : (h' : Bring) → block_content over h.vehicle (length h.samples) v ≡ brought h' → OwnBlock h v × (own_samples (moments_of v) ≡ h')
  own_block h' e = let z = own over h.vehicle h.cycle (length h.samples) 5 v h' e in (z.1, z.0)

  pub own_taken : OwnBlock h v → block_content over h.vehicle (length h.samples) v ≡ brought (own_samples (moments_of v))
  unfolding block_content unless
  own_taken o = rw (o.number, o.same, eq-eqb (first_in v) (length h.samples) o.first, le-leb (length h.samples + count_of v) most_offered o.room, o.samples)

-- ---- a field 5 that is taken

abbrev pub block_of : List ℕ → Field
block_of v = record { tag = 5; value = v }

-- the state with these samples more
abbrev pub behind_samples : Told → List Moment → Told
behind_samples s xs = record { place = behind_block; passed = s.passed; holding = with_samples s.holding xs }

pub record TakenBlock (s : Told) (v : List ℕ) (s' : Told) : Type 0 where
  pub place : among s.place block_places ≡ true
  pub own : OwnBlock s.holding v
  pub is : behind_samples s (moments_of v) ≡ s'

pub taken_block : (s : Told) (v : List ℕ) (s' : Told) → take_field s (block_of v) ≡ taken s' → TakenBlock s v s'
unfolding field_content by_row begins all_below
taken_block s v s' e = go (field_content s.place (content_at s) (block_of v)) refl e
  where
    go : (c : Content) → field_content s.place (content_at s) (block_of v) ≡ c → answer_by (bring_at s behind_block) (more_passed s) c ≡ taken s' → TakenBlock s v s'
    go (brought h) f e =
        let e₁ = passes (wrong 9) (brought h) (among s.place block_places) _ (λ q. false≢true cc) f in
        let (o, d) = own_block s.passed s.holding v h e₁.1 in
        let z : bring_at s behind_block h ≡ s' = cc e in
        record { place = e₁.0; own = o; is = ap (bring_at s behind_block) d ∙ z }
    go foreign f e = absurd (false≢true cc)
    go (wrong n) f e = absurd (false≢true cc)

pub block_taken_lem : (s : Told) (v : List ℕ) → among s.place block_places ≡ true → OwnBlock s.holding v → take_field s (block_of v) ≡ taken (behind_samples s (moments_of v))
unfolding field_content by_row begins all_below unless
block_taken_lem s v p o = rw (p, own_taken s.passed s.holding v o)

-- ---- blocks one after another

-- f is a field 5 with the value v, and nothing behind it
pub record BlockField (f v : List ℕ) : Type 0 where
  pub front : front_of tags f ≡ field (block_of v)
  pub size : length f ≡ 3 + length v

-- the bytes are n own blocks, all taken, of these samples, and lead from one state to the other
pub data Blocks : Told → List ℕ → List Moment → ℕ → Told → Type 0 where
  none : {s : Told} → Blocks s [] [] 0 s
  more : {s s₁ s' : Told} {f v q : List ℕ} {xs : List Moment} {n : ℕ} → BlockField f v → take_field s (block_of v) ≡ taken s₁ → Blocks s₁ q xs n s'
      → Blocks s (f ++ q) (moments_of v ++ xs) (suc n) s'

block_move : (s : Told) (v f : List ℕ) (s₁ : Told) → BlockField f v → take_field s (block_of v) ≡ taken s₁ → move_at tags take_field s f ≡ on s₁ (3 + length v)
unfolding reply_at
block_move s v f s₁ b e = ap (move_as tags take_field s) b.front ∙ ap (λ (a : Answer Told). move_by a (3 + length v)) e

pub blocks_run : (s : Told) (p : List ℕ) (xs : List Moment) (n : ℕ) (s' : Told) → Blocks s p xs n s' → (q : List ℕ)
    → run tags take_field s (p ++ q) ≡ joined (record { state = s'; fields = n; used = length p; end = waiting }) (run tags take_field s' q)
blocks_run s p xs n s' none q = λ k. let y = run tags take_field s q in record { state = y.state; fields = sym (zero-add y.fields) k; used = sym (zero-add y.used) k; end = y.end }
blocks_run s p xs n s' (more {s₁ = s₁} {f = f} {v = v} {q = r} {n = m} b e bs) q =
    let y = run tags take_field s' q in
    let gone : drop (3 + length v) f ≡ [] = drop_of_length-le f {i = 3 + length v} (omega (arith, b.size)) in
    let fields_are : suc (m + y.fields) ≡ suc m + y.fields = omega arith in
    let used_is : 3 + length v + (length r + y.used) ≡ length (f ++ r) + y.used = omega (arith, b.size, length-append f r) in
    ap (run tags take_field s) (append_assoc f r q)
    ∙ first_longer tags take_field s f (r ++ q) s₁ (3 + length v) (block_move s v f s₁ b e)
    ∙ ap (λ (j : List ℕ). onwards (3 + length v) (run tags take_field s₁ (j ++ (r ++ q)))) gone
    ∙ ap (onwards (3 + length v)) (blocks_run s₁ r _ m s' bs q)
    ∙ (λ k. record { state = y.state; fields = fields_are k; used = used_is k; end = y.end })

-- they bring their samples and nothing else
blocks_hold : (s : Told) (p : List ℕ) (xs : List Moment) (n : ℕ) (s' : Told) → Blocks s p xs n s' → (with_samples s.holding xs ≡ s'.holding) × (s.passed ≡ s'.passed)
blocks_hold s p xs n s' none = (λ k. record { vehicle = s.holding.vehicle; cycle = s.holding.cycle; tolerances = s.holding.tolerances; method = s.holding.method; samples = append-nil s.holding.samples k; amounts = s.holding.amounts }, refl)
blocks_hold s p xs n s' (more {s₁ = s₁} {v = v} {q = r} {xs = ys} {n = m} b e bs) =
    let (g, o) = blocks_hold s₁ r ys m s' bs in
    let d = (taken_block s v s₁ e).is in
    let h = s.holding in (
      (λ k. record { vehicle = h.vehicle; cycle = h.cycle; tolerances = h.tolerances; method = h.method; samples = sym (append_assoc h.samples (moments_of v) ys) k; amounts = h.amounts })
          ∙ ap (λ (t : Told). with_samples t.holding ys) d ∙ g,
      ap (λ (t : Told). t.passed) d ∙ o,
    )

blocks_place : (s : Told) (p : List ℕ) (xs : List Moment) (n : ℕ) (s' : Told) → behind_block ≡ s.place → Blocks s p xs n s' → behind_block ≡ s'.place
blocks_place s p xs n s' e none = e
blocks_place s p xs n s' e (more {s₁ = s₁} {v = v} {q = r} {xs = ys} {n = m} b t bs) = blocks_place s₁ r ys m s' (ap (λ (x : Told). x.place) (taken_block s v s₁ t).is) bs

pub blocks_state : (s : Told) (p : List ℕ) (xs : List Moment) (n : ℕ) (s' : Told) → Blocks s p xs (suc n) s' → behind_samples s xs ≡ s'
blocks_state s p xs n s' bs = (λ k. record { place = place s p xs n s' bs k; passed = w.1 k; holding = w.0 k })
  where
    w : (with_samples s.holding xs ≡ s'.holding) × (s.passed ≡ s'.passed)
    w = blocks_hold s p xs (suc n) s' bs

    place : (s : Told) (p : List ℕ) (xs : List Moment) (n : ℕ) (s' : Told) → Blocks s p xs (suc n) s' → behind_block ≡ s'.place
    place s p xs n s' (more {s₁ = s₁} {v = v} {q = r} {xs = ys} {n = m} b t bs) = blocks_place s₁ r ys m s' (ap (λ (x : Told). x.place) (taken_block s v s₁ t).is) bs
