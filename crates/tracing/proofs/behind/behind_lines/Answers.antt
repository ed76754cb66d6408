-- `tracing::behind::behind_lines` meets its contract: the whole energy fits, and its natural part is handed on.
use mathlib.Core.Path.{◌≡◌, sym, ap, ap₂, ◌∙◌}
use Prim.Native.Nat.{ℕ}
use native.Mathlib.Omega.{arith}
use borrow.Author.Rules.{rules}
use lib.IntN.{◌+ℤ◌, nat_abs}
use mir.Syntax.{w64}
use mir.Val.{SFits}
use Rattle.std.specs.Prelude.{Result}
use Rattle.std.specs.Int.{FitsUnsignedBits}
use Rattle.std.specs.Result.{OkIff, result_unwrap_or}
use Rattle.consumption.proofs.Weights.{machine, natural}
use Rattle.numbers.proofs.Signed.{read}
use Rattle.rules.specs.Words.{up}
use Rattle.rules.specs.Trace.{sum_text}
use Rattle.sheet.proofs.Overlaid.{wrote_then, wrote_is}
use Rattle.tracing.specs.Traced.{closing_for}
use Rattle.tracing.proofs.behind.behind_lines.Goals as goal
use Rattle.tracing.proofs.behind.behind_lines.Goals.{After-whole_of-whole, Start}

-- what the types say of the signed numbers
before_fits : (c : Start) → SFits w64 c.args.amounts.before
before_fits c = search rules

drawn_fits : (c : Start) → SFits w64 c.args.f.drawn
drawn_fits c = search rules

outside_fits : (c : Start) → SFits w64 c.args.f.outside
outside_fits c = search rules

-- the whole energy, as the machine hands it on
whole_is : (c : After-whole_of-whole) → machine c.whole_of-whole.result ≡ c.args.amounts.before +ℤ c.args.f.drawn
whole_is c = read {w = w64} (record { sfits = c.whole_of-whole.type_inv }) ∙ c.whole_of-whole.ensures ∙ ap₂ ◌+ℤ◌ (read (before_fits c.before.before.before.before.before)) (read (drawn_fits c.before.before.before.before.before))

natural_is : {E : Type 0} (c : After-whole_of-whole) (r : Result ℕ E)
    → OkIff r (FitsUnsignedBits 64 (machine c.whole_of-whole.result)) (nat_abs (machine c.whole_of-whole.result))
    → result_unwrap_or r 0 ≡ up (c.args.amounts.before +ℤ c.args.f.drawn)
natural_is c r h =
    let fits : SFits w64 c.whole_of-whole.result = record { sfits = c.whole_of-whole.type_inv } in
    natural r fits (read fits) h ∙ ap up (sym (read fits) ∙ whole_is c)

pub returns : goal.returns
returns c =
    let last = c in
    let size = last in
    let sums = size in
    let whole = sums in
    let s = whole in
    let a = s.args in
    let size_is = c.unwrap_or.ensures ∙ natural_is (goal.at.returns c).After-whole_of-whole c.try_from.result c.try_from.ensures in
    let outside = read (outside_fits (goal.at.returns c).Start) in
    let drawn = read (drawn_fits (goal.at.returns c).Start) in
    wrote_then
    (wrote_is sums.sum_lines-next.ensures (λ i. sum_text a.f.cycles (outside i) (drawn i) a.amounts (whole_is (goal.at.returns c).After-whole_of-whole i)))
    (wrote_is last.closing_part.ensures (ap (λ (E : ℕ). closing_for a.ledger.now E a.f.cycles a.amounts.charge a.f.closing) size_is))
    (omega arith)
