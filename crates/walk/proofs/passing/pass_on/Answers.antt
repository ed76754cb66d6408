-- `walk::passing::pass_on` meets its contract.
use mathlib.Core.List.{List}
use mathlib.Core.Path.{◌≡◌, refl, sym}
use Prim.Native.Nat.{ℕ}
use lib.ListN.{length}
use Rattle.walk.proofs.Showing.{taken_size, counts_before, counts_behind, shows_more}
use Rattle.walk.proofs.passing.pass_on.Goals as goal
use Rattle.walk.proofs.passing.pass_on.Goals.{After-read_once-t}

abbrev buffer : After-read_once-t → List ℕ
buffer t = t.read_once-t.new.buffer

same : (t : After-read_once-t) → length (buffer t) ≡ length t.args.buffer.now
same t = t.read_once-t.auto.buffer

pub slice_bounds-pass_fields-end-2 : goal.slice_bounds-pass_fields-end-2
slice_bounds-pass_fields-end-2 c = let t = c in sym (taken_size t.read_once-t.ensures.goes (buffer (goal.at.slice_bounds-pass_fields-end-2 c).After-read_once-t) (same (goal.at.slice_bounds-pass_fields-end-2 c).After-read_once-t))

pub pass_fields-requires : goal.pass_fields-requires
pass_fields-requires c = let t = c in counts_before t.read_once-t.ensures.goes (buffer (goal.at.pass_fields-requires c).After-read_once-t) (same (goal.at.pass_fields-requires c).After-read_once-t) t.requires.counts

pub returns : goal.returns
returns c =
    let t = c in
    let goes = t.read_once-t.ensures.goes in let leads = t.read_once-t.ensures.leads in
    let spot = c.pass_fields.ensures in
    record { goes = (goes, counts_behind goes (buffer (goal.at.returns c).After-read_once-t) (same (goal.at.returns c).After-read_once-t) t.requires.counts spot); adds = λ x₀ most text shown. shows_more shown (leads x₀ most shown.stood) spot refl }
