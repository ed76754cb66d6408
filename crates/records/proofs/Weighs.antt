-- How many fields a record can have: each moves the place in the order on, offers a sample or is passed over.
-- Assumes nothing.
use mathlib.Core.Bool.{true}
use mathlib.Core.List.{List}
use mathlib.Core.Path.{◌≡◌, refl, ap, subst, ◌∙◌}
use Prim.Native.Nat.{ℕ, zero, suc, ◌+◌, ◌-◌, ◌≤◌}
use native.Mathlib.Omega.{arith}
use lib.ListN.{length, drop, length-drop}
use Rattle.numbers.proofs.Tables.{length_table}
use Rattle.rules.specs.Regular.{moment_in}
use Rattle.rules.specs.Table.{length_allowed, behind_tolerances, tags}
use Rattle.rules.specs.Front.{Field}
use Rattle.rules.specs.Machine.{Ran, on, move_at, upto}
use Rattle.rules.specs.Values.{samples_of, moment_at, count_in}
use Rattle.rules.specs.Record.{Bring, nothing, a_number, a_cycle, the_tolerances, the_stretches, own_samples, before, after, charged}
use Rattle.laws.proofs.Moves.{by_move}
use Rattle.laws.proofs.Places.{place_is, before_places, block_places_lem, recharge_places}
use Rattle.laws.proofs.Samples.{Block, block_of}
use Rattle.laws.proofs.Says.{moves_to, Says}
use Rattle.laws.proofs.Tags.{sizes}
use Rattle.step.proofs.Keeping.{all_offered}
use Rattle.records.specs.Stage.{Stage, plan_on, bring_on, take_on, run_on}
use Rattle.records.proofs.Came.{Moved, took, went, moved}

-- ---- what counts the fields

abbrev pub weight : Stage → ℕ
weight x = x.run.progress.offered + x.passed + x.place

-- before the start no sample is offered
abbrev pub Fresh : Stage → Type 0
Fresh x = x.place ≤ 3 → x.run.progress.offered ≡ 0

some_samples : (v : List ℕ) → 21 ≤ length v → Block (length v - 21) → 1 ≤ count_in (samples_of v)
some_samples v l n = let d = length-drop 21 v in let s = n.some in omega arith

module _ (x : Stage) (f : Field) where
  abbrev Here : Bring → Type 0
  Here = Says x.passed x.vehicle x.cycle x.run.progress.offered f.tag f.value x.place

  brought_weighs : (b : Bring) → length_allowed tags f.tag (length f.value) ≡ true → Here b → Fresh x → 1 + weight x ≤ weight (bring_on x (moves_to b) b)
  brought_weighs nothing a s z = let e = place_is x.place 0 s.1 in omega arith
  brought_weighs (a_number v) a s z = let e = place_is x.place 1 s.1 in omega arith
  brought_weighs (a_cycle v) a s z = let e = place_is x.place 2 s.1 in omega arith
  brought_weighs (the_tolerances t) a s z = let e = place_is x.place 3 s.1 in let o = z (omega arith) in omega arith
  brought_weighs (the_stretches y) a s z = let p = place_is x.place behind_tolerances s.1 in omega arith
  brought_weighs (own_samples xs) a s z =
      let q = samples_of f.value in
      let k = (sizes f.tag (length f.value) a).block s.0 in
      let l : length xs ≡ count_in q = ap length s.2 ∙ length_table (moment_at q) (count_in q) in
      let c = some_samples f.value k.0 (block_of _ k.1) in
      let o = all_offered (plan_on x) x.run (moment_in xs) (length xs) in
      let p = (block_places_lem x.place s.1).1 in
      omega arith
  brought_weighs (before e) a s z = let p = (before_places x.place s.1).1 in omega arith
  brought_weighs (after e) a s z = let p = (block_places_lem x.place s.1).1 in omega arith
  brought_weighs (charged w) a s z = let p = (recharge_places x.place s.1).1 in omega arith

  brought_fresh : (b : Bring) → Here b → Fresh x → Fresh (bring_on x (moves_to b) b)
  brought_fresh nothing s z = λ l. let e = place_is x.place 0 s.1 in z (omega arith)
  brought_fresh (a_number v) s z = λ l. let e = place_is x.place 1 s.1 in z (omega arith)
  brought_fresh (a_cycle v) s z = λ l. let e = place_is x.place 2 s.1 in z (omega arith)
  brought_fresh (the_tolerances t) s z = λ l. refl
  brought_fresh (the_stretches y) s z = λ l. absurd (omega arith)
  brought_fresh (own_samples xs) s z = λ l. absurd (omega arith)
  brought_fresh (before e) s z = λ l. absurd (omega arith)
  brought_fresh (after e) s z = λ l. absurd (omega arith)
  brought_fresh (charged w) s z = λ l. absurd (omega arith)

-- an accepted field weighs
pub move_weighs : (x : Stage) (i : List ℕ) (y : Stage) (m : ℕ) → move_at tags take_on x i ≡ on y m → Fresh x → (1 + weight x ≤ weight y) × Fresh y
move_weighs x i y m e z = go (moved x i y m e)
  where
    go : Moved x i y m → (1 + weight x ≤ weight y) × Fresh y
    go (took f _ _ a c) = subst (λ (w : Stage). (1 + weight x ≤ weight w) × Fresh w) c.is (brought_weighs x f c.brings a c.says z, brought_fresh x f c.brings c.says z)
    go (went f _ _ d _ _) = subst (λ (w : Stage). (1 + weight x ≤ weight w) × Fresh w) d (omega arith, z)

-- and all do
pub upto_weighs : (n : ℕ) (x : Stage) (i : List ℕ) → Fresh x → (upto tags take_on n x i).fields + weight x ≤ weight (upto tags take_on n x i).state
unfolding upto
upto_weighs zero x i z = omega arith
upto_weighs (suc n) x i z =
    by_move (λ (y : Ran Stage). y.fields + weight x ≤ weight y.state) x (move_at tags take_on x i) _ (λ e d. omega arith)
    (λ y m d. let w = move_weighs x i y m d z in let r = upto_weighs n y (drop m i) w.1 in let l = w.0 in omega arith)

pub fields_weigh : (x : Stage) (i : List ℕ) → Fresh x → (run_on x i).fields + weight x ≤ weight (run_on x i).state
fields_weigh x i z = upto_weighs (length i) x i z
