-- `traces::parts::rate_text` meets its contract.
use mathlib.Core.Path.{◌≡◌, sym, ap, ◌∙◌}
use mathlib.Core.Bool.{Bool, true, cond, ◌&&◌}
use mathlib.Core.List.{List, ◌++◌}
use Prim.Native.Nat.{ℕ}
use native.Mathlib.Omega.{arith}
use borrow.Author.Rules.{rules}
use lib.Signed.{le_z}
use lib.IntN.{pos}
use mir.Syntax.{w64}
use mir.Val.{SFits}
use Rattle.numbers.proofs.Signed.{read}
use Rattle.rules.specs.Words.{spell, up}
use Rattle.rules.specs.declared.Gathered.{Gathered}
use Rattle.rules.specs.Closing.{rate}
use Rattle.rules.specs.Text.{digits, spaced, ended, line}
use Rattle.rules.specs.Trace.{finished_word, rate_text}
use Rattle.sheet.proofs.Overlaid.{wrote_then, wrote_most, wrote_is}
use Rattle.traces.proofs.parts.rate_text.Goals as goal
use Rattle.traces.proofs.parts.rate_text.Goals.{Else-not-has_rate, Start}

-- where there is a rate
abbrev rated_text : Gathered → List ℕ
rated_text g = spaced (spell "finished") ++ line (spell "rate") (digits (rate (up g.energy) (up g.distance)))

has : (c : Else-not-has_rate) → (let g = c.args.g in (g.finished && le_z (pos 1) g.energy && le_z (pos 1) g.distance) ≡ true)
has c = sym c.has_rate.ensures ∙ c.if-not-has_rate.false

-- what the types say of the two numbers
energy-fits : (c : Start) → SFits w64 c.args.g.energy
energy-fits c = search rules

distance-fits : (c : Start) → SFits w64 c.args.g.distance
distance-fits c = search rules

pub returns-then-not-has_rate : goal.returns-then-not-has_rate
unfolding rate_text
returns-then-not-has_rate c =
    let call = c in
    let test = call in
    let g = test.args.g in
    let none = sym test.has_rate.ensures ∙ test.if-not-has_rate.true in
    wrote_most (wrote_is call.finished_word.ensures (ap (λ (b : Bool). cond b (rated_text g) (ended (finished_word g.finished))) (sym none))) (omega arith)

pub returns : goal.returns
unfolding rate_text
returns c =
    let second = c in
    let first = second in
    let quotient = first in
    let test = quotient in
    let g = test.args.g in
    let told = quotient in
    let q = quotient.rate_of-q.ensures ∙ (λ i. rate (up (read (energy-fits (goal.at.returns c).Start) i)) (up (read (distance-fits (goal.at.returns c).Start) i))) in
    let last = wrote_is second.number_line.ensures (ap (λ (n : ℕ). line (spell "rate") (digits n)) q) in
    wrote_is (wrote_then first.put_text-next.ensures last (omega arith)) (ap (λ (b : Bool). cond b (rated_text g) (ended (finished_word g.finished))) (sym (has (goal.at.returns c).Else-not-has_rate)))
