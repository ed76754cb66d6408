-- Behind a 6 before or a block: what may still be brought, and what own blocks leave.
-- Assumes nothing.
use mathlib.Core.Bool.{true}
use mathlib.Core.List.{List}
use mathlib.Core.Path.{◌≡◌, refl, ap, ◌∙◌}
use Prim.Native.Nat.{ℕ, ◌-◌, ◌≤◌}
use native.Mathlib.Omega.{arith}
use lib.IntN.{ℤ}
use lib.ListN.{length, length-drop}
use Rattle.numbers.proofs.Tables.{length_table}
use Rattle.rules.specs.declared.Moment.{Moment}
use Rattle.rules.specs.Table.{length_allowed, behind_tolerances, behind_before, behind_block, tags}
use Rattle.rules.specs.Front.{Field}
use Rattle.rules.specs.Machine.{on, move_at, run}
use Rattle.rules.specs.Values.{samples_of, moment_at, count_in}
use Rattle.rules.specs.Record.{Told, Bring, nothing, a_number, a_cycle, the_tolerances, the_stretches, own_samples, before, after, charged, bring_at, take_field}
use Rattle.laws.proofs.Places.{place_is, before_places, block_places_lem}
use Rattle.laws.proofs.Prefixes.{kept}
use Rattle.laws.proofs.Samples.{block_of}
use Rattle.laws.proofs.Says.{moves_to}
use Rattle.laws.proofs.Tags.{sizes}
use Rattle.demands.proofs.ToldCame.{SaysAt, moved_holds}

-- ---- what is brought where a 6 before or a block stands

pub data Late : Bring → Type 0 where
  samples_late : (xs : List Moment) → Late (own_samples xs)
  after_late : (e : ℤ) → Late (after e)
  charged_late : (w : ℕ) → Late (charged w)

pub late : (s : Told) (f : Field) (b : Bring) → SaysAt s f b → behind_before ≤ s.place → Late b
late s f nothing w l = absurd (let p = place_is s.place 0 w.1 in omega arith)
late s f (a_number v) w l = absurd (let p = place_is s.place 1 w.1 in omega arith)
late s f (a_cycle v) w l = absurd (let p = place_is s.place 2 w.1 in omega arith)
late s f (the_tolerances t) w l = absurd (let p = place_is s.place 3 w.1 in omega arith)
late s f (the_stretches x) w l = absurd (let p = place_is s.place behind_tolerances w.1 in omega arith)
late s f (own_samples xs) w l = samples_late xs
late s f (before e) w l = absurd (omega (arith, l, (before_places s.place w.1).1))
late s f (after e) w l = after_late e
late s f (charged k) w l = charged_late k

-- an own block brings at least one sample
pub some_samples : (s : Told) (f : Field) (xs : List Moment) → length_allowed tags f.tag (length f.value) ≡ true → SaysAt s f (own_samples xs) → 1 ≤ length xs
some_samples s f xs a w =
    let q = samples_of f.value in
    let z = (sizes f.tag (length f.value) a).block w.0 in
    let b = block_of (length f.value - 21) z.1 in
    let n : length xs ≡ count_in q = ap length w.2 ∙ length_table (moment_at q) (count_in q) in
    omega (arith, b.some, length-drop 21 f.value)

-- ---- from there to a block only own blocks are taken: they leave the amounts

pub record Blocked (s t : Told) : Type 0 where
  pub place : behind_before ≤ t.place
  pub amounts : t.place ≤ behind_block → t.holding.amounts ≡ s.holding.amounts

module _ (s t : Told) (h : Blocked s t) where
  blocked_brought : (f : Field) (b : Bring) → SaysAt t f b → Late b → Blocked s (bring_at t (moves_to b) b)
  blocked_brought f b w (samples_late xs) = record { place = omega arith; amounts = λ _. h.amounts (block_places_lem t.place w.1).1 }
  blocked_brought f b w (after_late e) = record { place = omega arith; amounts = λ l. absurd (omega arith) }
  blocked_brought f b w (charged_late k) = record { place = omega arith; amounts = λ l. absurd (omega arith) }

  pub blocked_move : (i : List ℕ) (t' : Told) (m : ℕ) → move_at tags take_field t i ≡ on t' m → Blocked s t'
  blocked_move =
      moved_holds (Blocked s) t (λ f b _ w. blocked_brought f b w (late t f b w h.place)) (record { place = h.place; amounts = h.amounts })

pub blocked_none : (s : Told) → behind_before ≤ s.place → Blocked s s
blocked_none s l = record { place = l; amounts = λ _. refl }

pub blocked_run : (s : Told) (i : List ℕ) → behind_before ≤ s.place → Blocked s (run tags take_field s i).state
blocked_run s i l = kept tags take_field (Blocked s) (λ t j t' m e h. blocked_move s t h j t' m e) (length i) s i (blocked_none s l)
