-- `listing::list_fields` meets its contract.
use mathlib.Core.List.{List}
use mathlib.Core.Path.{sym, ap, subst}
use Prim.Native.Nat.{◌*◌, ℕ}
use native.Mathlib.Omega.{arith}
use borrow.Author.Rules.{rules}
use lib.ListN.{length}
use Rattle.rules.specs.Listing.{Listed, list_from}
use Rattle.sheet.specs.Overlaid.{Wrote}
use Rattle.sheet.proofs.Overlaid.{wrote_most, wrote_is}
use Rattle.listing.specs.Lines.{per_byte}
use Rattle.listing.proofs.Walking.{gone_none, gone_more, behind_end}
use Rattle.listing.proofs.list_fields.Goals as goal

pub loop-x-init : goal.loop-x-init
loop-x-init c = gone_none c.args.spot c.args.input.now c.args.out.now c.requires.1

pub loop-x-preserved : goal.loop-x-preserved
loop-x-preserved c =
    let a = c.args in
    let (taken, written) = c.in-Some.ensures in
    gone_more a.spot a.input.now a.out.now c.loop-x.invariant taken written (search rules)

pub overflow_add-used : goal.overflow_add-used
overflow_add-used c = omega (arith, (loop-x-preserved c).behind.within, c.well_formed.1.0.0)

pub loop-x-smaller : goal.loop-x-smaller
loop-x-smaller c = omega (arith, (loop-x-preserved c).behind.within, c.in-Some.ensures.0.least)

pub returns : goal.returns
returns c =
    let a = c.args in
    let h = c.loop-x.invariant in
    let (none, same) = c.in_default.ensures in
    let all = behind_end a.spot a.input.now h.behind none in
    let written = wrote_is (wrote_most h.wrote (omega (arith, h.behind.within))) (ap (λ (x : Listed). x.text) (sym all)) in
    record {
      spot_value = ap (λ (x : Listed). x.spot) (sym all);
      wrote = subst (λ (o : List ℕ). Wrote (per_byte * length a.input.now) a.out.now 0 (list_from a.spot a.input.now).text o c.loop-x.next) (sym same) written;
    }
