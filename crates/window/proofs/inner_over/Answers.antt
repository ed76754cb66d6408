-- `window::inner_over` meets its contract. The loop's invariant: `low` and `high` are the least and the greatest over the i seconds after second j.
use mathlib.Core.Path.{◌≡◌, sym, ap, ap₂, ◌∙◌}
use Prim.Native.Nat.{ℕ, ◌+◌, ◌*◌, min, max}
use borrow.Author.Rules.{rules}
use Rattle.rules.specs.Words.{fold}
use Rattle.numbers.proofs.Range.{fold_more}
use Rattle.rules.specs.Cycle.{point}
use Rattle.window.proofs.inner_over.Goals as goal

pub loop-i-init : goal.loop-i-init
unfolding fold
loop-i-init c = search rules

pub loop-i-preserved : goal.loop-i-preserved
loop-i-preserved c =
    let f : ℕ → ℕ = λ i. 20 * point c.args.cycle.now (c.args.j + 1 + i) in
    let x : 20 * c.from-x.result ≡ f c.loop-i.i = ap (λ (n : ℕ). 20 * n) (c.from-x.ensures ∙ c.point_of.ensures) in (
      c.smaller-low.ensures ∙ ap₂ min c.loop-i.invariant.0 x ∙ sym (fold_more min 30000 f c.loop-i.i),
      c.larger-high.ensures ∙ ap₂ max c.loop-i.invariant.1 x ∙ sym (fold_more max 0 f c.loop-i.i),
    )
