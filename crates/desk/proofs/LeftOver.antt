-- What a call leaves over: less than the longest field; and the bytes that it used, without what follows them, leave the same desk.
-- Assumes nothing.
use mathlib.Core.Bool.{Bool, true, false, cond, false≢true}
use mathlib.Core.List.{List}
use mathlib.Core.Logic.{⊎_elim}
use mathlib.Core.Path.{◌≡◌, refl, sym, ap, subst, ◌∙◌}
use Prim.Native.Nat.{ℕ, ◌+◌, ◌≤◌, ◌<◌, zero-le}
use native.Mathlib.Omega.{arith}
use borrow.Author.Tests.{ltb-false, leb-false, eqb-true, eqb-false}
use lib.Dec.{leb, eqb}
use lib.ListN.{length, get_or, take, drop, length-drop}
use Rattle.rules.specs.Words.{be}
use Rattle.numbers.proofs.Tests.{first_or_rest, passed, not_refused}
use Rattle.rules.specs.Table.{tags}
use Rattle.rules.specs.Front.{incomplete, impossible, front_of}
use Rattle.rules.specs.Machine.{End, ends}
use Rattle.laws.specs.Answers.{refuses}
use Rattle.laws.proofs.Answers.{only_waiting}
use Rattle.laws.proofs.Cuts.{used_most}
use Rattle.laws.proofs.Prefixes.{accepted_alone, left_over, none_used}
use Rattle.laws.proofs.Tags.{sizes}
use Rattle.records.specs.Stage.{take_on, run_on}
use Rattle.opening.specs.Answers.{open_ground}
use Rattle.opening.proofs.Readied.{ground_ready}
use Rattle.desk.specs.Feeding.{wanted, Laid, Consumed, stage_on, laid_after, stops, fed_by, feed_of, most_fields, started_ground, desk_ground, longest}
use Rattle.desk.proofs.Grounds.{feed_refuses, feeds}
use Rattle.desk.proofs.Staged.{none_opened, none_read}

-- bytes that do not finish a field are fewer than the longest has
incomplete_short : (i : List ℕ) → front_of tags i ≡ incomplete → length i < longest
unfolding front_of
incomplete_short i e =
    ⊎_elim (λ no. let z = ltb-false 0 (length i) no.0 in omega arith) (λ r.
    let e₂ = passed impossible incomplete _ _ (λ q. false≢true cc) r.1 in
    ⊎_elim (λ no. let z = leb-false 3 (length i) no.0 in omega arith) (λ s.
    let e₄ = passed impossible incomplete _ _ (λ q. false≢true cc) s.1 in
    let most = (sizes (get_or i 0 0) (be 2 i 1) e₄.0).most in
    ⊎_elim (λ no. let z = leb-false (3 + be 2 i 1) (length i) no.0 in omega arith) (λ t. absurd (let z = t.1 in false≢true cc))
    (first_or_rest incomplete incomplete _ _ e₄.1))
    (first_or_rest incomplete incomplete _ _ e₂.1))
    (first_or_rest incomplete incomplete _ _ e)

-- by the tests before all else
module _ (x : Laid) (i : List ℕ) where
  pub by_feed : (P : Consumed → Type 0) → (desk_ground x ≡ 0 → P (fed_by x (run_on (stage_on x) i))) → ((desk_ground x ≡ 0 → ⊥) → P (stops x (refuses (desk_ground x)))) → P (feed_of x i)
  by_feed P f g = go (eqb (desk_ground x) 0) refl
    where
      go : (b : Bool) → eqb (desk_ground x) 0 ≡ b → P (feed_of x i)
      go true e = let z = eqb-true (desk_ground x) 0 e in subst P (sym (feeds x i z)) (f z)
      go false e = let z = eqb-false (desk_ground x) 0 e in subst P (sym (feed_refuses x i z)) (g z)

  pub feed_used : (feed_of x i).used ≤ length i
  feed_used = by_feed (λ (y : Consumed). y.used ≤ length i) (λ _. used_most tags take_on (stage_on x) i) (λ _. zero-le)

  pub feed_short : (feed_of x i).outcome ≡ wanted → length i < (feed_of x i).used + longest
  feed_short =
      by_feed (λ (y : Consumed). y.outcome ≡ wanted → length i < y.used + longest)
      (λ _ e.
      let y = run_on (stage_on x) i in
      let short = incomplete_short (drop y.used i) (left_over tags take_on (stage_on x) i (only_waiting tt y.end e)) in
      let d = length-drop y.used i in
      let u = used_most tags take_on (stage_on x) i in
      omega arith)
      (λ _ e. absurd (false≢true cc))

-- what ends a call leaves no trace
pub feed_alone : (x : Laid) (i : List ℕ) → (feed_of x (take (feed_of x i).used i)).laid ≡ (feed_of x i).laid
feed_alone x i =
    by_feed x i (λ (y : Consumed). (feed_of x (take y.used i)).laid ≡ y.laid)
    (λ e.
    let y = run_on (stage_on x) i in
    ap (λ (z : Consumed). z.laid) (feeds x (take y.used i) e) ∙ ap (laid_after x) (accepted_alone tags take_on (stage_on x) i))
    (λ e. ap (λ (z : Consumed). z.laid) (feed_refuses x (take 0 i) e))

-- ---- where no bytes are used, the desk is as it was

none_after : (x : Laid) (e : End) → desk_ground x ≡ 0 → laid_after x (ends (stage_on x) e) ≡ x
unfolding desk_ground
none_after x e g = go x.desk.started refl
  where
    go : (b : Bool) → x.desk.started ≡ b → laid_after x (ends (stage_on x) e) ≡ x
    go true f = none_read x e f
    go false f =
        none_opened x e f (ground_ready x.desk.opening x.room
        (ap (λ (b : Bool). cond b (started_ground x) (open_ground x.desk.opening x.room)) (sym f) ∙ (not_refused 0 (leb x.desk.fields most_fields) _ g).1))

-- "A refusal returns its number and no figure; state, ledger, map .. stay exactly as they were": where no field before it was taken
pub refused_changes_nothing : (x : Laid) (i : List ℕ) → (feed_of x i).used ≡ 0 → (feed_of x i).laid ≡ x
refused_changes_nothing x i =
    by_feed x i (λ (y : Consumed). y.used ≡ 0 → y.laid ≡ x) (λ g e. ap (laid_after x) (none_used tags take_on (stage_on x) i e) ∙ none_after x (run_on (stage_on x) i).end g) (λ _ _. refl)
