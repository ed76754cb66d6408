-- Ledger and map as a start leaves them show no sample.
-- Assumes nothing.
use mathlib.Core.Bool.{false, and-false}
use mathlib.Core.List.{List}
use mathlib.Core.Path.{◌≡◌, sym, ◌∙◌}
use Prim.Native.Nat.{ℕ, ◌+◌, ◌≤◌, zero-le}
use native.Mathlib.Omega.{arith}
use lib.IntN.{ℤ, pos}
use lib.ListN.{length}
use borrow.Author.Tests.{le-ltb}
use Rattle.numbers.specs.Lists.{cleared}
use Rattle.rules.specs.Words.{fold, gather}
use Rattle.numbers.proofs.Lists.{length_cleared, get_d_cleared, drop_cleared}
use Rattle.rules.specs.declared.Moment.{Moment}
use Rattle.rules.specs.Course.{Course}
use Rattle.rules.specs.Shown.{ledger_numbers, map_words, shown_row, marked}
use Rattle.map.proofs.Marks.{set_cleared, ones_cleared}
use Rattle.judge.proofs.LedgerShows.{LedgerShows}
use Rattle.judge.proofs.MapShows.{MapShows}

module _ (c : Course) (s : ℕ → Moment) where
  pub ledger_start : (l₀ : List ℤ) → ledger_numbers ≤ length l₀ → LedgerShows c s l₀ 0 0 (cleared (pos 0) ledger_numbers l₀)
  unfolding fold gather
  ledger_start l₀ long_ledger = record {
    long = omega (arith, length_cleared (pos 0) ledger_numbers l₀ long_ledger);
    energies = λ r k h g. get_d_cleared (pos 0) ledger_numbers l₀ _ (pos 0) (omega arith);
    distances = λ r k h g. get_d_cleared (pos 0) ledger_numbers l₀ _ (pos 0) (omega arith);
    outsides = λ r h. get_d_cleared (pos 0) ledger_numbers l₀ _ (pos 0) (omega arith);
    beyond = drop_cleared (pos 0) ledger_numbers l₀;
  }

  none_marked : (i : ℕ) → marked c s 0 i ≡ false
  unfolding marked
  none_marked i = rw (le-ltb (c.layout.begin (shown_row c.layout 0) + i) 0 zero-le, and-false)

  pub map_start : (m₀ : List ℕ) → map_words ≤ length m₀ → MapShows c s m₀ 0 (cleared 0 map_words m₀)
  unfolding fold gather
  map_start m₀ long_map = record {
    long = omega (arith, length_cleared 0 map_words m₀ long_map);
    marks = λ i h. set_cleared m₀ i h ∙ sym (none_marked i);
    ones = ones_cleared m₀;
    beyond = drop_cleared 0 map_words m₀;
  }
