-- `reading::bringing::bring` meets its contract: samples are taken by the judge, stretches and an amount leave the run where it is.
use mathlib.Core.List.{List}
use mathlib.Core.Path.{ap, subst⁻¹, ◌∙◌}
use Prim.Native.Nat.{ℕ, ◌+◌, ◌≤◌}
use borrow.Author.Rules.{rules}
use lib.ListN.{length}
use mir.Syntax.{w64}
use mir.Val.{SFits}
use Rattle.numbers.proofs.Lists.{part_rest}
use Rattle.rules.specs.Bench.{most_offered}
use Rattle.rules.specs.Values.{count_in, are_samples}
use Rattle.reading.proofs.Taking.{by_bring, stretches_taken, samples_taken_lem, amount_taken, as_held}
use Rattle.reading.proofs.bringing.bring.Goals as goal
use Rattle.reading.proofs.bringing.bring.Goals.{In-Samples, Start}

-- the energies that were there
before_fits : (s : Start) → SFits w64 s.args.k.amounts.before
before_fits s = search rules

after_fits : (s : Start) → SFits w64 s.args.k.amounts.after
after_fits s = search rules

-- the value has 21 bytes before its samples
long : (c : In-Samples) → 21 ≤ length c.args.v.now
long c = c.requires.long c.in-Samples.is

pub slice_bounds-take_block-count : goal.slice_bounds-take_block-count
slice_bounds-take_block-count c = long (goal.at.slice_bounds-take_block-count c).In-Samples

pub slice_bounds-take_block-start : goal.slice_bounds-take_block-start
slice_bounds-take_block-start c = long (goal.at.slice_bounds-take_block-start c).In-Samples

pub take_block-requires : goal.take_block-requires
take_block-requires c =
    let told = c in
    let s = told in
    let own = told.in-Samples.is in
    let e = part_rest 21 s.args.v.now in record {
      kept = s.requires.kept;
      samples_bound = (
        subst⁻¹ (λ (q : List ℕ). s.args.k.taken.going.progress.offered + count_in q ≤ most_offered) e (s.requires.room own),
        ap (λ (q : List ℕ). are_samples q (count_in q)) e ∙ s.requires.samples own,
      );
    }

pub returns-in-Stretch : goal.returns-in-Stretch
returns-in-Stretch c =
    let known = c in
    let s = known in
    let a = s.args in
    by_bring a.cycle.now a.t a.k a.ledger.now a.map.now a.v.now known.in-Stretch.is
    (stretches_taken a.cycle.now a.t a.k a.ledger.now a.map.now a.v.now _ s.requires.kept (s.requires.fresh _ known.in-Stretch.is) c.with_stretches.ensures)

pub returns-in-Samples : goal.returns-in-Samples
returns-in-Samples c =
    let taken = c in
    let told = taken in
    let a = told.args in
    by_bring a.cycle.now a.t a.k a.ledger.now a.map.now a.v.now told.in-Samples.is
    (samples_taken_lem a.cycle.now a.t a.k a.ledger.now a.map.now a.v.now (part_rest 21 a.v.now) taken.take_block.ensures)

pub returns-in-Before : goal.returns-in-Before
returns-in-Before c =
    let known = c in
    let s = known in
    let a = s.args in
    let fits : SFits w64 known.in-Before.energy = search rules in
    by_bring a.cycle.now a.t a.k a.ledger.now a.map.now a.v.now known.in-Before.is
    (amount_taken a.cycle.now a.t a.k a.ledger.now a.map.now a.v.now s.requires.kept _ _ (as_held a.k fits (after_fits (goal.at.returns-in-Before c).Start) c.with_amounts.ensures))

pub returns-in-After : goal.returns-in-After
returns-in-After c =
    let known = c in
    let s = known in
    let a = s.args in
    let fits : SFits w64 known.in-After.energy = search rules in
    by_bring a.cycle.now a.t a.k a.ledger.now a.map.now a.v.now known.in-After.is
    (amount_taken a.cycle.now a.t a.k a.ledger.now a.map.now a.v.now s.requires.kept _ _ (as_held a.k (before_fits (goal.at.returns-in-After c).Start) fits c.with_amounts-in-After.ensures))

pub returns-in-Recharge : goal.returns-in-Recharge
returns-in-Recharge c =
    let known = c in
    let s = known in
    let a = s.args in
    by_bring a.cycle.now a.t a.k a.ledger.now a.map.now a.v.now known.in-Recharge.is
    (amount_taken a.cycle.now a.t a.k a.ledger.now a.map.now a.v.now s.requires.kept _ _ (as_held a.k (before_fits (goal.at.returns-in-Recharge c).Start) (after_fits (goal.at.returns-in-Recharge c).Start) c.with_amounts-in-Recharge.ensures))
