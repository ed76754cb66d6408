-- `traces::parts::stretch_line` meets its contract.
use mathlib.Core.Path.{sym, ap}
use mathlib.Core.Bool.{Bool, cond}
use mathlib.Core.List.{List, [], ◌++◌}
use Prim.Native.Nat.{ℕ, ◌≤◌}
use native.Mathlib.Omega.{arith}
use borrow.Author.Tests.{not-true, not-false}
use borrow.Author.Rules.{rules}
use lib.ListN.{length}
use Rattle.rules.specs.Words.{spell}
use Rattle.rules.specs.declared.Gathered.{Gathered}
use Rattle.rules.specs.Text.{spaced, ended}
use Rattle.rules.specs.Trace.{gathered_text, finished_word, stretch_line}
use Rattle.sheet.proofs.Overlaid.{nothing, wrote_then, wrote_most, wrote_is}
use Rattle.traces.proofs.parts.stretch_line.Goals as goal

-- where the stretch has begun
abbrev stretch_text : List ℕ → Gathered → List ℕ
stretch_text name g = spaced (spell "stretch") ++ spaced name ++ gathered_text g ++ ended (finished_word g.finished)

pub returns-then-not-g : goal.returns-then-not-g
unfolding stretch_line
returns-then-not-g c =
    let a = c.args in
    wrote_most (wrote_is (nothing a.out.now a.at) (ap (λ (b : Bool). cond b (stretch_text a.name.now a.g) []) (sym (not-true a.g.begun c.if-not-g.true)))) (omega arith)

pub returns : goal.returns
unfolding stretch_line
returns c =
    let fourth = c in
    let third = fourth in
    let second = third in
    let first = second in
    let test = first in
    let a = test.args in
    let name : length a.name.now ≤ 1 = search rules in
    wrote_most
    (wrote_is
    (wrote_then (wrote_then (wrote_then first.put_text-word.ensures second.put_text-text.ensures (omega arith)) third.gathered_text-next.ensures (omega arith)) fourth.finished_word.ensures (omega arith))
    (ap (λ (b : Bool). cond b (stretch_text a.name.now a.g) []) (sym (not-false a.g.begun test.if-not-g.false))))
    (omega arith)
