-- `traces::parts::row_line` meets its contract.
use mathlib.Core.Path.{◌≡◌, sym, ap, ◌∙◌}
use mathlib.Core.Bool.{Bool, cond, ◌||◌}
use mathlib.Core.List.{List, [], ◌++◌}
use Prim.Native.Nat.{ℕ, suc}
use native.Mathlib.Omega.{arith}
use lib.Signed.{le_z}
use lib.IntN.{ℤ, pos}
use Rattle.numbers.proofs.Signed.{read}
use Rattle.rules.specs.Words.{spell}
use Rattle.rules.specs.declared.Gathered.{Gathered}
use Rattle.rules.specs.Text.{digits, signed, spaced}
use Rattle.rules.specs.Trace.{gathered_text, rate_text, row_line}
use Rattle.sheet.proofs.Overlaid.{nothing, wrote_then, wrote_most, wrote_is}
use Rattle.traces.proofs.parts.row_line.Goals as goal
use Rattle.traces.proofs.parts.row_line.Goals.{After-is_shown}

-- where the cycle is shown
abbrev shown_text : ℕ → Gathered → ℤ → List ℕ
shown_text c g outside = spaced (spell "cycle") ++ spaced (digits (suc c)) ++ gathered_text g ++ spaced (spell "outside") ++ spaced (signed outside) ++ rate_text g

shown : (c : After-is_shown) → (let a = c.args in c.is_shown.result ≡ (a.g.begun || le_z (pos 1) a.outside))
shown c =
    let s = c.before.before in
    c.is_shown.ensures ∙ ap (λ (z : ℤ). s.args.g.begun || le_z (pos 1) z) (read s.ranges.outside)

pub returns-then-not-is_shown : goal.returns-then-not-is_shown
unfolding row_line
returns-then-not-is_shown c =
    let a = c.args in
    let hidden = sym (shown (goal.at.returns-then-not-is_shown c).After-is_shown) ∙ c.if-not-is_shown.true in
    wrote_most (wrote_is (nothing a.out.now a.at) (ap (λ (b : Bool). cond b (shown_text a.c a.g a.outside) []) (sym hidden))) (omega arith)

pub returns : goal.returns
unfolding row_line
returns c =
    let fourth = c in
    let third = fourth in
    let second = third in
    let first = second in
    let test = first in
    let s = test in
    let a = s.args in
    let outside = wrote_is third.put_signed-next.ensures (ap (λ (z : ℤ). spaced (signed z)) (read s.ranges.outside)) in
    let is = sym (shown (goal.at.returns c).After-is_shown) ∙ test.if-not-is_shown.false in
    wrote_most
    (wrote_is
    (wrote_then (wrote_then (wrote_then first.row_text-text.ensures second.put_text-word.ensures (omega arith)) outside (omega arith)) fourth.rate_text.ensures (omega arith))
    (ap (λ (b : Bool). cond b (shown_text a.c a.g a.outside) []) (sym is)))
    (omega arith)
