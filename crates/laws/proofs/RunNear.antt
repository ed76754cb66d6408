-- Document 02, L11, of the closing of a run: where it gives figures, they are near what is unrounded.
-- Assumes nothing.
use mathlib.Core.List.{List}
use mathlib.Core.Path.{◌≡◌, sym, ap, subst, ◌∙◌}
use Prim.Native.Nat.{ℕ}
use lib.IntN.{ℤ}
use lib.ListN.{length}
use Rattle.rules.specs.Words.{up}
use Rattle.rules.specs.declared.Amounts.{Amounts}
use Rattle.rules.specs.Closing.{Charge, whole_energy, least_finished, closing_refusal, closing_figures, closing_by}
use Rattle.rules.specs.declared.Closing.{Closing}
use Rattle.std.specs.Prelude.{Ok as Closed}
use Rattle.rules.specs.declared.Moment.{Moment}
use Rattle.rules.specs.Regular.{moment_in}
use Rattle.rules.specs.Plan.{Plan, course_of}
use Rattle.rules.specs.Figures.{energies, distances, cycles_in, closing_in}
use Rattle.laws.specs.Answers.{figured_said, closing_said}
use Rattle.laws.specs.Near.{NearRun}
use Rattle.laws.proofs.Answers.{was_given, given_is, closing_or, same_figured}
use Rattle.laws.proofs.Closes.{three_at_least, closes, closes_near}

-- a closing that gives figures refuses nothing, and they are its own
closed_by_lem : (E : ℤ) (n : ℕ) (e d : ℕ → ℤ) (F : ℤ) (asked : ℕ) (charge : Charge) (x : Closing) → closing_by E n e d F asked charge ≡ Closed x
    → (closing_refusal E n e d asked ≡ 0) × (closing_figures E n e d F charge ≡ x)
closed_by_lem E n e d F asked charge x h =
    let refusal = closing_refusal E n e d asked in
    let (none, same) = was_given refusal _ (figured_said x) (sym (closing_or refusal (closing_figures E n e d F charge)) ∙ ap closing_said h) in
    (none, same_figured _ x (given_is same))

pub run_near : (p : Plan) (xs : List Moment) (a : Amounts) (x : Closing) → closing_in p xs a ≡ Closed x → NearRun p xs a.before x.weighted x.range
run_near p xs a x h =
    let E = whole_energy a.before (course_of p) (moment_in xs) (length xs) in
    let n = cycles_in p xs in
    let (none, same) = closed_by_lem E n (energies p xs) (distances p xs) a.after (least_finished p.method) a.charge x h in
    let k = closes E n (energies p xs) (distances p xs) (least_finished p.method) (three_at_least p.method) none in
    subst (λ (y : Closing). NearRun p xs a.before y.weighted y.range) same (record {
      whole = up E;
      whole_is = k.whole;
      natural = k.natural;
      near_exact = closes_near E n (energies p xs) (distances p xs) k;
    })
