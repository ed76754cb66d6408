-- What every record that is told keeps.
-- Assumes nothing.
use mathlib.Core.Bool.{true}
use mathlib.Core.List.{List, [], ◌++◌}
use mathlib.Core.Path.{◌≡◌, refl, sym, ap, subst, ◌∙◌}
use Prim.Native.Nat.{ℕ, ◌≤◌, ◌<◌}
use native.Mathlib.Omega.{arith}
use borrow.Author.Tests.{leb-true}
use lib.ListN.{length}
use Rattle.rules.specs.Bench.{tolerable}
use Rattle.rules.specs.Cycle.{valid}
use Rattle.rules.specs.Table.{behind_tolerances, tags}
use Rattle.rules.specs.Front.{Field}
use Rattle.rules.specs.Machine.{Ran, on, move_at}
use Rattle.rules.specs.Record.{Told, Bring, nothing, a_number, a_cycle, the_tolerances, the_stretches, own_samples, before, after, charged, bring_at, take_field, untold, told, sheet_of}
use Rattle.laws.proofs.Places.{place_is}
use Rattle.laws.proofs.Prefixes.{kept}
use Rattle.laws.proofs.Says.{moves_to}
use Rattle.laws.proofs.Sheets.{told_leads}
use Rattle.demands.specs.Compared.{with_four, Grown}
use Rattle.demands.proofs.ToldCame.{SaysAt, moved_holds}
use Rattle.demands.proofs.ToldLater.{Later, later_run}
use Rattle.demands.proofs.ToldLed.{told_led}
use Rattle.demands.proofs.FieldFour.{told_four, valid_four, tolerable_four}
use Rattle.demands.proofs.Splits.{told_has_four}

-- what every field keeps
pub told_keeps : (P : Told → Type 0) → ((s : Told) (i : List ℕ) (s' : Told) (m : ℕ) → move_at tags take_field s i ≡ on s' m → P s → P s') → P untold
    → (w : List ℕ) (x : Told) → sheet_of w ≡ told x → P x
told_keeps P keeps h w x e = subst P (ap (λ (y : Ran Told). y.state) (told_leads w x e).leads) (kept tags take_field P keeps (length w) untold w h)

-- its start tested cycle and tolerances, and no field after it changes them
pub told_valid : (i : List ℕ) (x : Told) → sheet_of i ≡ told x → (valid x.holding.cycle ≡ true) × (tolerable x.holding.tolerances ≡ true)
told_valid i x e =
    let w = told_has_four i x e in
    let d : sheet_of (with_four w.p w.q w.v) ≡ told x = ap sheet_of (sym w.record_is) ∙ e in
    let t = told_four w.p w.q w.first_three w.v w.six x d in
    (valid_four w.p w.q w.first_three w.v w.six x d, ap tolerable t ∙ tolerable_four w.p w.q w.first_three w.v w.six x d)

-- ---- a record that is read on

pub told_grows : (p q : List ℕ) (x x' : Told) → sheet_of p ≡ told x → sheet_of (p ++ q) ≡ told x'
    → (let h = x.holding in let h' = x'.holding in
    (h'.vehicle ≡ h.vehicle) × (h'.cycle ≡ h.cycle) × (h'.tolerances ≡ h.tolerances) × (behind_tolerances < x.place → Grown x x'))
told_grows p q x x' e f =
    let l = leb-true behind_tolerances x.place (told_leads p x e).started in
    let h = subst (Later x) (told_led p q x x' e f).state (later_run x q l) in
    (h.vehicle, h.cycle, h.tolerances, λ g. record { cycle = h.cycle; tolerances = h.tolerances; method = h.method g; samples = h.samples })

-- ---- "Order: 1, 2, 3, 4 once each; .. any number of 5": up to the tolerances there is no sample

abbrev NoneYet : Told → Type 0
NoneYet s = s.place ≤ behind_tolerances → s.holding.samples ≡ []

none_brought : (s : Told) → NoneYet s → (f : Field) (b : Bring) → SaysAt s f b → NoneYet (bring_at s (moves_to b) b)
none_brought s h f nothing w = λ _. h (let p = place_is s.place 0 w.1 in omega arith)
none_brought s h f (a_number v) w = λ _. h (let p = place_is s.place 1 w.1 in omega arith)
none_brought s h f (a_cycle v) w = λ _. h (let p = place_is s.place 2 w.1 in omega arith)
none_brought s h f (the_tolerances t) w = λ _. h (let p = place_is s.place 3 w.1 in omega arith)
none_brought s h f (the_stretches x) w = λ l. absurd (omega arith)
none_brought s h f (own_samples xs) w = λ l. absurd (omega arith)
none_brought s h f (before e) w = λ l. absurd (omega arith)
none_brought s h f (after e) w = λ l. absurd (omega arith)
none_brought s h f (charged k) w = λ l. absurd (omega arith)

none_moved : (s : Told) (i : List ℕ) (s' : Told) (m : ℕ) → move_at tags take_field s i ≡ on s' m → NoneYet s → NoneYet s'
none_moved s i s' m e h = moved_holds NoneYet s (λ f b _ w. none_brought s h f b w) h i s' m e

pub none_behind_four : (p : List ℕ) (x : Told) → sheet_of p ≡ told x → x.place ≤ behind_tolerances → x.holding.samples ≡ []
none_behind_four p x e = told_keeps NoneYet none_moved (λ _. refl) p x e
