-- `walk::walk_on` meets its contract.
use mathlib.Core.List.{List}
use mathlib.Core.Path.{◌≡◌, sym}
use Prim.Native.Nat.{ℕ}
use native.Mathlib.Omega.{arith}
use lib.ListN.{length}
use Rattle.sheet.proofs.Overlaid.{wrote_front}
use Rattle.walk.proofs.Showing.{taken_size, counts_before, counts_behind, shows_more}
use Rattle.walk.proofs.walk_on.Goals as goal
use Rattle.walk.proofs.walk_on.Goals.{After-read_once-t}

abbrev buffer : After-read_once-t → List ℕ
buffer t = t.read_once-t.new.buffer

same : (t : After-read_once-t) → length (buffer t) ≡ length t.args.buffer.now
same t = t.read_once-t.auto.buffer

pub slice_bounds-list_fields-end-2 : goal.slice_bounds-list_fields-end-2
slice_bounds-list_fields-end-2 c = let t = c in sym (taken_size t.read_once-t.ensures.goes (buffer (goal.at.slice_bounds-list_fields-end-2 c).After-read_once-t) (same (goal.at.slice_bounds-list_fields-end-2 c).After-read_once-t))

pub list_fields-x-requires : goal.list_fields-x-requires
list_fields-x-requires c =
    let t = c in
    let goes = t.read_once-t.ensures.goes in
    (omega (arith, taken_size goes (buffer (goal.at.list_fields-x-requires c).After-read_once-t) (same (goal.at.list_fields-x-requires c).After-read_once-t), goes.within, t.requires.1), counts_before goes (buffer (goal.at.list_fields-x-requires c).After-read_once-t) (same (goal.at.list_fields-x-requires c).After-read_once-t) t.requires.0.counts)

pub returns : goal.returns
returns c =
    let goes = c.read_once-t.ensures.goes in
    let leads = c.read_once-t.ensures.leads in
    let wrote = c.list_fields-x.ensures.wrote in
    let spot = c.list_fields-x.ensures.spot_value in
    let at = (goal.at.returns c).After-read_once-t in
    record {
      goes = (goes, counts_behind goes (buffer at) (same at) c.requires.0.counts spot);
      most_line_in_bounds = omega (arith, wrote.place, wrote.most, taken_size goes (buffer at) (same at), goes.within, c.requires.1);
      adds = λ x₀ most text shown. shows_more shown (leads x₀ most shown.stood) spot (wrote_front wrote);
    }
