-- `paperwhelk::sheets::hand_over` meets its contract: a sheet that fits is copied whole.
use mathlib.Core.List.{List, ◌++◌}
use mathlib.Core.Path.{◌≡◌, sym, ap, ◌∙◌}
use Prim.Native.Nat.{ℕ, ◌<◌, ◌^◌}
use native.Mathlib.Omega.{arith}
use lib.ListN.{length, take, drop}
use lib.Seq.{length-take-le, take-length}
use mir.Syntax.{w32}
use mir.ValLaws.{to_z_pos}
use Rattle.paperwhelk.proofs.Fitting.{does_not_fit, fits}
use Rattle.paperwhelk.proofs.sheets.hand_over.Goals as goal
use Rattle.paperwhelk.proofs.sheets.hand_over.Goals.{Start}

-- the sheet
abbrev sheet : Start → List ℕ
sheet s = take s.args.n s.args.lines.now

size : (s : Start) → length (sheet s) ≡ s.args.n
size s = length-take-le s.args.n s.args.lines.now s.requires.0

small : (s : Start) → s.args.n < 2 ^ 31
small s = omega (arith, s.requires.1)

pub returns-then-out-n : goal.returns-then-out-n
returns-then-out-n c =
    let s = (goal.at.returns-then-out-n c).Start in
    let both = does_not_fit (sheet s) c.args.out.now (omega (arith, size s)) in
    record { value = both.0; out_after = both.1 }

pub overflow_cast-result : goal.overflow_cast-result
overflow_cast-result c = record { sfits = small (goal.at.overflow_cast-result c).Start }

pub returns : goal.returns
returns c =
    let s = (goal.at.returns c).Start in
    let out = c.args.out.now in
    let copied : c.copy_from_slice.new.self ++ drop c.args.n out ≡ take (length (sheet s)) (sheet s) ++ drop (length (sheet s)) out =
    ap (λ (x : List ℕ). x ++ drop c.args.n out) (c.copy_from_slice.ensures.after ∙ sym (take-length (sheet s)))
    ∙ ap (λ (k : ℕ). take (length (sheet s)) (sheet s) ++ drop k out) (sym (size s)) in
    let both = fits (sheet s) out (omega (arith, size s)) (sym (size s)) copied in
    record { value = to_z_pos w32 _ (small s) ∙ both.0; out_after = both.1 }
