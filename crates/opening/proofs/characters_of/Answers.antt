-- `opening::characters_of` meets its contract: all 17 bytes of the array are those of v.
use mathlib.Core.List.{◌++◌, append-nil}
use mathlib.Core.Path.{ap, ◌∙◌}
use Prim.Native.Nat.{ℕ}
use lib.ListN.{drop, replicate}
use Rattle.records.specs.Stage.{written}
use Rattle.opening.proofs.characters_of.Goals as goal

pub returns : goal.returns
unfolding written
returns c =
    let s = c in
    let v = s.args.v.now in
    c.keep.ensures ∙ ap (λ (n : ℕ). v ++ drop n (replicate 17 0)) s.requires ∙ append-nil v
