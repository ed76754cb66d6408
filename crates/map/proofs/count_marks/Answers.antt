-- `map::count_marks` meets its contract: the sum over the first 750 words, each of at most 64 ones.
use Rattle.std.proofs.Common.{rules, arith, List, ℕ, ◌≡◌, ◌≤◌, ◌∙◌, ◌^◌, length, take, get_or, Fits, w64}
use borrow.Author.Tests.{tests}
use lib.Count.{ones, ones-le}
use Rattle.std.specs.List.{sum_by}
use Rattle.std.proofs.lemmas.Iterator.{YieldsList-from_slice, YieldsList-from_map}
use Rattle.std.proofs.lemmas.Iterator.Consumers.{sum_by_from_yields_List, fits_by_from_yields_list}
use Rattle.numbers.proofs.Sums.{sum_taken, sum_most}
use Rattle.rules.specs.Bench.{most_positions}
use Rattle.rules.specs.Shown.{map_words}
use Rattle.map.specs.Map.{ones_of}
use Rattle.map.proofs.count_marks.Goals as goal

few : (m : List ℕ) → ((k : ℕ) → Fits w64 (get_or m k 0)) → ones_of m ≤ most_positions
few m fits = sum_most 64 (λ k. ones (get_or m k 0)) map_words (λ k l. ones-le 64 _ (fits k).fits)

summed : (m : List ℕ) → map_words ≤ length m → sum_by ones (take map_words m) ≡ ones_of m
summed m h = sum_taken ones m map_words h

pub sum-requires-clause-fits : goal.sum-requires-clause-fits
sum-requires-clause-fits c =
    let m = c.args.map.now in
    fits_by_from_yields_list ones (take map_words m) c.map.result (2 ^ 64)
    (YieldsList-from_map _ ones (YieldsList-from_slice (take map_words m) cc) c.map.ensures.closure (λ x r q k. search (rules, tests)))
    (omega (arith, summed m c.requires, few m c.type_inv.map))

pub returns : goal.returns
returns c =
    let m = c.args.map.now in
    let all =
    sum_by_from_yields_List ones (take map_words m) c.map.result _ c.sum.ensures.ran
    (YieldsList-from_map _ ones (YieldsList-from_slice (take map_words m) cc) c.map.ensures.closure (λ x r q k. search (rules, tests)))
    ∙ summed m c.requires
    in
    (all, omega (arith, few m c.type_inv.map))
