-- `sheet::text::put` meets its contract. The loop's invariant: the first i bytes of the text stand in their places.
use mathlib.Core.List.{List, ◌++◌}
use mathlib.Core.Path.{◌≡◌, refl, sym, ap, ◌∙◌}
use Prim.Native.Nat.{ℕ, ◌+◌}
use native.Mathlib.Nat.{le_refl}
use native.Mathlib.Numerals.{add-one}
use native.Mathlib.Omega.{arith}
use lib.ListN.{length, get_or, set, take, drop}
use lib.Seq.{paste, paste-zero, paste-suc, length-paste, take-length}
use Rattle.sheet.specs.Overlaid.{overlaid}
use Rattle.sheet.proofs.text.put.Goals as goal
use Rattle.sheet.proofs.text.put.Goals.{At-loop-i}

pub loop-i-init : goal.loop-i-init
loop-i-init c = paste-zero c.args.out.now c.args.at c.args.text.now

long : (c : At-loop-i) → length c.loop-i.out ≡ length c.args.out.now
long c =
    ap length c.loop-i.invariant
    ∙ length-paste c.args.out.now c.args.at c.args.text.now c.loop-i.i (omega (arith, c.requires)) (omega arith)

pub bounds-out-at : goal.bounds-out-at
bounds-out-at c = omega (arith, long (goal.at.bounds-out-at c).At-loop-i)

pub loop-i-preserved : goal.loop-i-preserved
loop-i-preserved c =
    let i = c.loop-i.i in
    ap (λ (l : List ℕ). set l (c.args.at + i) (get_or c.args.text.now i 0)) c.loop-i.invariant
    ∙ paste-suc c.args.out.now c.args.at c.args.text.now i 0 (omega arith) (omega arith)
    ∙ ap (paste c.args.out.now c.args.at c.args.text.now) (sym (add-one i))

pub shape_of-out : goal.shape_of-out
shape_of-out c = long (goal.at.shape_of-out c).At-loop-i

pub returns : goal.returns
unfolding overlaid
returns c =
    let done : c.loop-i.i ≡ length c.args.text.now = omega arith in
    record {
      most = le_refl _;
      place = refl;
      bytes =
          c.loop-i.invariant
          ∙ ap (paste c.args.out.now c.args.at c.args.text.now) done
          ∙ ap (λ (l : List ℕ). take c.args.at c.args.out.now ++ l ++ drop (c.args.at + length c.args.text.now) c.args.out.now) (take-length c.args.text.now);
    }
