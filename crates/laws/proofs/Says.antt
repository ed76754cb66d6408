-- What it says that a field brings something: of its value, of its tag, and of the place to which it moves.
-- Assumes nothing.
use mathlib.Core.Bool.{Bool, true, false, cond, ◌&&◌, false≢true}
use mathlib.Core.List.{List, [], ◌∷◌}
use mathlib.Core.Path.{◌≡◌, refl, ap, subst, ◌∙◌}
use Prim.Native.Nat.{ℕ, ◌+◌, ◌≤◌}
use native.Mathlib.Omega.{arith}
use lib.Dec.{leb, eqb}
use lib.IntN.{ℤ}
use borrow.Author.Tests.{leb-true, eqb-true}
use Rattle.rules.specs.Words.{unless}
use Rattle.numbers.proofs.Tests.{both, passed as passes}
use Rattle.numbers.proofs.Whole.{weaken, sized_add, sized_between, between_sized}
use Rattle.std.specs.Prelude.{Some as wh}
use Rattle.rules.specs.Bench.{tolerable, are_stretches, most_offered, most_passed}
use Rattle.rules.specs.Closing.{most_transfer_in, is_transfer_in, doubled, is_charge}
use Rattle.laws.specs.Beside.{most_transfer, is_transfer}
use Rattle.rules.specs.Cycle.{valid}
use Rattle.rules.specs.Table.{Row, Matter, number, among, is_of, tags, behind_mark, behind_number, behind_cycle, behind_tolerances, behind_stretches, behind_before, behind_block, behind_after, behind_recharge, block_places}
use Rattle.rules.specs.Values.{is_number, same_number, first_in, samples_of, count_in, moments_in, are_samples, block_or, tolerances_in, stretches_in, transfer_in, recharge_in}
use Rattle.rules.specs.Record.{Bring, nothing, a_number, a_cycle, the_tolerances, the_stretches, own_samples, before, after, charged, brought, foreign, wrong, block_content, content_of}
use Rattle.laws.proofs.Carried.{In, here, there}

-- a block of the vehicle me that follows the samples offered
pub record Own (me : List ℕ) (offered : ℕ) (v : List ℕ) : Type 0 where
  pub number : is_number v ≡ true
  pub same : same_number me v ≡ true
  pub first : first_in v ≡ offered
  pub room : offered + count_in (samples_of v) ≤ most_offered
  pub samples : are_samples (samples_of v) (count_in (samples_of v)) ≡ true

-- the place to which what is brought moves
abbrev pub moves_to : Bring → ℕ
moves_to nothing = behind_mark
moves_to (a_number v) = behind_number
moves_to (a_cycle v) = behind_cycle
moves_to (the_tolerances t) = behind_tolerances
moves_to (the_stretches x) = behind_stretches
moves_to (own_samples xs) = behind_block
moves_to (before e) = behind_before
moves_to (after e) = behind_after
moves_to (charged w) = behind_recharge

-- a transfer energy that the field may have is within the run's limits when it is doubled
doubled_in : (e : ℤ) → is_transfer_in e ≡ true → is_transfer (doubled e) ≡ true
doubled_in e h = let s = sized_between most_transfer_in e h in between_sized most_transfer (doubled e) (weaken (omega arith) (sized_add s s))

module _ (over : ℕ) (me course : List ℕ) (offered tag : ℕ) (v : List ℕ) where
  -- what each says of the value, and the places at which it stands
  abbrev pub Says : ℕ → Bring → Type 0
  Says p nothing = (tag ≡ 1) × (among p (0 ∷ []) ≡ true)
  Says p (a_number w) = (tag ≡ 2) × (among p (1 ∷ []) ≡ true) × (w ≡ v) × (is_number v ≡ true)
  Says p (a_cycle w) = (tag ≡ 3) × (among p (2 ∷ []) ≡ true) × (w ≡ v) × (valid v ≡ true)
  Says p (the_tolerances t) = (tag ≡ 4) × (among p (3 ∷ []) ≡ true) × (t ≡ tolerances_in v) × (valid course ≡ true) × (tolerable t ≡ true)
  Says p (the_stretches x) = (tag ≡ 8) × (among p (behind_tolerances ∷ []) ≡ true) × (x ≡ stretches_in v) × (are_stretches x ≡ true)
  Says p (own_samples xs) = (tag ≡ 5) × (among p block_places ≡ true) × (xs ≡ moments_in (samples_of v)) × Own me offered v
  Says p (before e) = (tag ≡ 6) × (among p (behind_tolerances ∷ behind_stretches ∷ []) ≡ true) × (is_transfer e ≡ true)
  Says p (after e) = (tag ≡ 6) × (among p block_places ≡ true) × (is_transfer e ≡ true)
  Says p (charged w) = (tag ≡ 7) × (among p (behind_after ∷ block_places) ≡ true) × (is_charge (wh w) ≡ true)

  tag_is : (k : ℕ) (b : Bool) → (eqb tag k && b) ≡ true → tag ≡ k
  tag_is k b e = eqb-true tag k (both (eqb tag k) b e).0

  -- an own block, by the content of a field 5
  pub own : (b : Bring) → block_content over me offered v ≡ brought b → (own_samples (moments_in (samples_of v)) ≡ b) × Own me offered v
  unfolding block_content
  own b e =
      let e₁ = passes (wrong 4) (brought b) (is_number v) _ (λ q. false≢true cc) e in
      go (same_number me v) refl e₁.0 e₁.1
    where
      go : (s : Bool) → same_number me v ≡ s → is_number v ≡ true
          → cond s (block_or wrong offered (first_in v) (samples_of v) (brought (own_samples (moments_in (samples_of v))))) (unless (wrong 7) (leb (over + 1) most_passed) foreign) ≡ brought b
          → (own_samples (moments_in (samples_of v)) ≡ b) × Own me offered v
      go true s n e =
          let e₁ = passes (wrong 6) (brought b) _ _ (λ q. false≢true cc) e in
          let e₂ = passes (wrong 7) (brought b) _ _ (λ q. false≢true cc) e₁.1 in
          let e₃ = passes (wrong 5) (brought b) _ _ (λ q. false≢true cc) e₂.1 in
          (cc e₃.1, record { number = n; same = s; first = eqb-true (first_in v) offered e₁.0; room = leb-true (offered + count_in (samples_of v)) most_offered e₂.0; samples = e₃.0 })
      go false s n e =
          let e₁ = passes (wrong 7) (brought b) _ _ (λ q. false≢true cc) e in
          absurd (let z = e₁.1 in false≢true cc)

  -- another's, likewise
  pub other : block_content over me offered v ≡ foreign → over + 1 ≤ most_passed
  unfolding block_content
  other e = go (same_number me v) (passes (wrong 4) foreign (is_number v) _ (λ q. false≢true cc) e).1
    where
      go : (s : Bool) → cond s (block_or wrong offered (first_in v) (samples_of v) (brought (own_samples (moments_in (samples_of v))))) (unless (wrong 7) (leb (over + 1) most_passed) foreign) ≡ foreign
          → over + 1 ≤ most_passed
      go true e =
          let e₁ = passes (wrong 6) foreign _ _ (λ q. false≢true cc) e in
          let e₂ = passes (wrong 7) foreign _ _ (λ q. false≢true cc) e₁.1 in
          let e₃ = passes (wrong 5) foreign _ _ (λ q. false≢true cc) e₂.1 in
          absurd (let z = e₃.1 in false≢true cc)
      go false e = leb-true (over + 1) most_passed (passes (wrong 7) foreign _ _ (λ q. false≢true cc) e).0

  -- by the row
  module _ (p : ℕ) where
    known : (x : Bring) (b : Bring) (m : ℕ) → m ≡ moves_to x → brought x ≡ brought b → Says p x → Says p b × (m ≡ moves_to b)
    known x b m n e s = let d : x ≡ b = cc e in (subst (Says p) d s, n ∙ ap moves_to d)

    pub says : (q : Row Matter) → In q tags → is_of tag v q ≡ true → among p q.stands ≡ true → (b : Bring) → content_of over me course offered q.holds v ≡ brought b
        → Says p b × (q.moves ≡ moves_to b)
    says q here t a b e = known nothing b 1 refl e (tag_is 1 _ t, a)
    says q (there here) t a b e = let z = passes (wrong 4) (brought b) _ _ (λ r. false≢true cc) e in known (a_number v) b 2 refl z.1 (tag_is 2 _ t, a, refl, z.0)
    says q (there (there here)) t a b e = let z = passes (wrong 2) (brought b) _ _ (λ r. false≢true cc) e in known (a_cycle v) b 3 refl z.1 (tag_is 3 _ t, a, refl, z.0)
    says q (there (there (there here))) t a b e =
        let z = passes (wrong 2) (brought b) _ _ (λ r. false≢true cc) e in
        let y = passes (wrong 3) (brought b) _ _ (λ r. false≢true cc) z.1 in
        known (the_tolerances (tolerances_in v)) b 4 refl y.1 (tag_is 4 _ t, a, refl, z.0, y.0)
    says q (there (there (there (there here)))) t a b e =
        let z = own b e in
        known (own_samples (moments_in (samples_of v))) b behind_block refl (ap brought z.0) (tag_is 5 _ t, a, refl, z.1)
    says q (there (there (there (there (there here))))) t a b e =
        let z = passes (wrong 14) (brought b) _ _ (λ r. false≢true cc) e in known (before (doubled (transfer_in v))) b behind_before refl z.1 (tag_is 6 _ t, a, doubled_in (transfer_in v) z.0)
    says q (there (there (there (there (there (there here)))))) t a b e =
        let z = passes (wrong 14) (brought b) _ _ (λ r. false≢true cc) e in known (after (doubled (transfer_in v))) b behind_after refl z.1 (tag_is 6 _ t, a, doubled_in (transfer_in v) z.0)
    says q (there (there (there (there (there (there (there here))))))) t a b e =
        let z = passes (wrong 14) (brought b) _ _ (λ r. false≢true cc) e in known (charged (recharge_in v)) b behind_recharge refl z.1 (tag_is 7 _ t, a, z.0)
    says q (there (there (there (there (there (there (there (there here)))))))) t a b e =
        let z = passes (wrong 19) (brought b) _ _ (λ r. false≢true cc) e in known (the_stretches (stretches_in v)) b behind_stretches refl z.1 (tag_is 8 _ t, a, refl, z.0)
    says q (there (there (there (there (there (there (there (there (there x))))))))) t a b e = elim x [ ]

    -- only a block is another's
    pub says_foreign : (q : Row Matter) → In q tags → among p q.stands ≡ true → content_of over me course offered q.holds v ≡ foreign
        → (over + 1 ≤ most_passed) × (among p block_places ≡ true)
    says_foreign q here a e = absurd (false≢true cc)
    says_foreign q (there here) a e = absurd (let z = (passes (wrong 4) foreign _ _ (λ r. false≢true cc) e).1 in false≢true cc)
    says_foreign q (there (there here)) a e = absurd (let z = (passes (wrong 2) foreign _ _ (λ r. false≢true cc) e).1 in false≢true cc)
    says_foreign q (there (there (there here))) a e =
        absurd (let z = (passes (wrong 3) foreign _ _ (λ r. false≢true cc) (passes (wrong 2) foreign _ _ (λ r. false≢true cc) e).1).1 in false≢true cc)
    says_foreign q (there (there (there (there here)))) a e = (other e, a)
    says_foreign q (there (there (there (there (there here))))) a e = absurd (let z = (passes (wrong 14) foreign _ _ (λ r. false≢true cc) e).1 in false≢true cc)
    says_foreign q (there (there (there (there (there (there here)))))) a e = absurd (let z = (passes (wrong 14) foreign _ _ (λ r. false≢true cc) e).1 in false≢true cc)
    says_foreign q (there (there (there (there (there (there (there here))))))) a e = absurd (let z = (passes (wrong 14) foreign _ _ (λ r. false≢true cc) e).1 in false≢true cc)
    says_foreign q (there (there (there (there (there (there (there (there here)))))))) a e = absurd (let z = (passes (wrong 19) foreign _ _ (λ r. false≢true cc) e).1 in false≢true cc)
    says_foreign q (there (there (there (there (there (there (there (there (there x))))))))) a e = elim x [ ]
