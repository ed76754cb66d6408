-- `window::window_at` meets its contract, put together from what each callee ensures; that it holds lo and hi is the law of the fewer places.
use mathlib.Core.Path.{◌≡◌, ap, ◌∙◌}
use Rattle.window.specs.Moving.{Window, window_of, least_in, greatest_in}
use Rattle.window.proofs.Fewer.{least_in_lem, greatest_in_lem}
use Rattle.window.proofs.Moves.{window_made}
use Rattle.window.proofs.window_at.Goals as goal
use Rattle.window.proofs.window_at.Goals.{After-until_of}

abbrev made : After-until_of → Window
made c = record {
  left = c.left_edge-left.result;
  right = c.right_edge-right.result;
  inner = c.inner_over-inner.result;
  until = c.until_of.result;
}

made-is : (c : After-until_of) → made c ≡ window_of c.args.cycle.now c.args.w c.args.p
made-is c =
    let s = c in
    window_made s.args.cycle.now s.args.w s.args.p _ _ _ _ _ _ _ _
    c.seconds_of-t.ensures
    c.less.ensures
    c.smaller.ensures
    c.left_edge-left.ensures
    c.right_edge-right.ensures
    c.inner_over-inner.ensures.0
    c.inner_over-inner.ensures.1
    c.until_of.ensures

pub returns : goal.returns
returns c =
    let b = c.args.cycle.now in
    let e : made (goal.at.returns c).After-until_of ≡ window_of b c.args.w c.args.p = made-is (goal.at.returns c).After-until_of in
    record {
      value = e;
      result_value = (
        ap least_in e ∙ least_in_lem b c.requires.0 c.args.w c.args.p c.requires.2,
        ap greatest_in e ∙ greatest_in_lem b c.requires.0 c.args.w c.args.p c.requires.2,
      );
    }
