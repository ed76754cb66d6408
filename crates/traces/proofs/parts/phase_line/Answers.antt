-- `traces::parts::phase_line` meets its contract.
use mathlib.Core.Path.{sym, ap}
use mathlib.Core.Bool.{Bool, cond}
use mathlib.Core.List.{List, [], ◌++◌}
use Prim.Native.Nat.{ℕ, suc}
use native.Mathlib.Omega.{arith}
use native.Mathlib.Numerals.{add-one}
use borrow.Author.Tests.{not-true, not-false}
use Rattle.rules.specs.Words.{spell}
use Rattle.rules.specs.declared.Gathered.{Gathered}
use Rattle.rules.specs.Text.{digits, spaced, ended}
use Rattle.rules.specs.Trace.{gathered_text, finished_word, phase_line}
use Rattle.sheet.proofs.Overlaid.{nothing, wrote_then, wrote_most, wrote_is}
use Rattle.traces.proofs.parts.phase_line.Goals as goal

-- where the phase has begun
abbrev phase_text : ℕ → ℕ → Gathered → List ℕ
phase_text c k g = spaced (spell "phase") ++ spaced (digits (suc c)) ++ spaced (digits (suc k)) ++ gathered_text g ++ ended (finished_word g.finished)

pub returns-then-not-g : goal.returns-then-not-g
unfolding phase_line
returns-then-not-g c =
    let s = c in
    let a = s.args in
    wrote_most (wrote_is (nothing a.out.now a.at) (ap (λ (b : Bool). cond b (phase_text a.c a.k a.g) []) (sym (not-true a.g.begun c.if-not-g.true)))) (omega arith)

pub returns : goal.returns
unfolding phase_line
returns c =
    let fifth = c in
    let fourth = fifth in
    let third = fourth in
    let second = third in
    let first = second in
    let test = first in
    let a = test.args in
    let cycle = wrote_is second.put_number-cycle.ensures (ap (λ (n : ℕ). spaced (digits n)) (add-one a.c)) in
    let phase = wrote_is third.put_number-phase.ensures (ap (λ (n : ℕ). spaced (digits n)) (add-one a.k)) in
    wrote_most
    (wrote_is
    (wrote_then (wrote_then (wrote_then (wrote_then first.put_text-word.ensures cycle (omega arith)) phase (omega arith)) fourth.gathered_text-next.ensures (omega arith)) fifth.finished_word.ensures (omega arith))
    (ap (λ (b : Bool). cond b (phase_text a.c a.k a.g) []) (sym (not-false a.g.begun test.if-not-g.false))))
    (omega arith)
