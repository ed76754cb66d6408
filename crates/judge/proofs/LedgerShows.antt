-- What the ledger shows after n samples: the figures of the rules, at every place. Over any course whose shares are intervals.
-- Assumes nothing.
use mathlib.Core.Bool.{Bool, true, false, ◌&&◌}
use mathlib.Core.List.{List}
use mathlib.Core.Path.{◌≡◌, refl, sym, ap, ◌∙◌}
use Prim.Native.Nat.{ℕ, suc, ◌+◌, ◌*◌, ◌≤◌, ◌<◌}
use native.Mathlib.Nat.{add-zero, le_trans}
use native.Mathlib.Omega.{arith}
use lib.Dec.{ltb, eqb}
use borrow.Author.Tests.{le-ltb, eq-eqb, ne_eqb}
use lib.IntN.{ℤ, pos, ◌+ℤ◌, +ℤ_idr}
use lib.ListN.{length, drop}
use lib.Signed.{lt_z}
use Rattle.numbers.specs.Lists.{plus}
use Rattle.rules.specs.Words.{fold, gather}
use Rattle.numbers.proofs.Order.{eqb_shift}
use Rattle.rules.specs.declared.Moment.{Moment}
use Rattle.rules.specs.Bench.{most_cycles, most_phases}
use Rattle.rules.specs.Course.{Layout, Rule, Course, course, out, outside}
use Rattle.rules.specs.Parts.{phase_part, part_energy, part_distance}
use Rattle.rules.specs.Regular.{interval}
use Rattle.rules.specs.Tally as tally
use Rattle.rules.specs.Shown.{ledger_numbers}
use Rattle.laws.proofs.Maps.{outside_beside}
use Rattle.ledger.specs.Row.{at, interval_added, outside_added, is_over}
use Rattle.ledger.proofs.Rows.{length_plus, length_outside, outside_beyond, interval_beyond}
use Rattle.judge.proofs.Entries.{entry_off, entry_add, outside_off, outside_add, pos_cond}

-- a ledger that shows the figures of m closed shares and j judged samples, and is beyond its 576 numbers as l₀
pub record LedgerShows (c : Course) (s : ℕ → Moment) (l₀ : List ℤ) (m j : ℕ) (l : List ℤ) : Type 0 where
  pub long : ledger_numbers ≤ length l
  pub energies : (r k : ℕ) → r < most_cycles → k < most_phases → at l (9 * r + k) ≡ part_energy c.share s (phase_part c.layout r k) m
  pub distances : (r k : ℕ) → r < most_cycles → k < most_phases → at l (9 * r + (4 + k)) ≡ pos (part_distance c.share s (phase_part c.layout r k) m)
  pub outsides : (r : ℕ) → r < most_cycles → at l (9 * r + 8) ≡ pos (outside c s r j)
  pub beyond : drop ledger_numbers l ≡ drop ledger_numbers l₀

module _ (y : Layout) (d : Rule) (s : ℕ → Moment) (l₀ : List ℤ) where
  abbrev c : Course
  c = course y d interval

  -- interval n is closed: it is of the row and phase of its earlier sample
  module _ (n j : ℕ) (l : List ℤ) (q<64 : y.row n < most_cycles) (p<4 : y.phase n < most_phases) (h : LedgerShows c s l₀ n j l) where
    abbrev q : ℕ
    q = y.row n

    abbrev p : ℕ
    p = y.phase n

    abbrev e : ℤ
    e = (s n).energy +ℤ (s (suc n)).energy

    abbrev l₁ : List ℤ
    l₁ = plus l (9 * q + p) e

    pub ledger_closes : LedgerShows c s l₀ (suc n) j (interval_added (9 * y.row n) l (y.phase n) (s n) (s (suc n)))
    unfolding fold gather interval_added
    ledger_closes =
        let size₁ : length l₁ ≡ length l = length_plus l _ _ in
        let long = h.long in
        record {
          long = omega (arith, length_plus l₁ (9 * q + (4 + p)) (pos ((s n).speed + (s (suc n)).speed)));
          energies = λ r k g f.
              entry_off l₁ q (4 + p) r k _ (omega arith) (omega arith) (λ e. omega arith)
              ∙ entry_add l q p r k _ (omega arith) (omega arith) (omega arith)
              ∙ rw (h.energies r k g f);
          distances = λ r k g f.
              entry_add l₁ q (4 + p) r (4 + k) _ (omega arith) (omega arith) (omega arith)
              ∙ rw (entry_off l q p r (4 + k) e (omega arith) (omega arith) (λ e. omega arith), h.distances r k g f, eqb_shift)
              (pos_cond (eqb q r && eqb p k) _ _);
          outsides = λ r g.
              entry_off l₁ q (4 + p) r 8 _ (omega arith) (omega arith) (λ e. omega arith)
              ∙ entry_off l q p r 8 _ (omega arith) (omega arith) (λ e. omega arith)
              ∙ h.outsides r g;
          beyond = interval_beyond q l q<64 p (s n) (s (suc n)) p<4 ∙ h.beyond;
        }

  -- or it is of a stretch, and the ledger has nothing of it
  pub ledger_beside : (n j : ℕ) (l : List ℤ) → most_cycles ≤ y.row n → LedgerShows c s l₀ n j l → LedgerShows c s l₀ (suc n) j l
  unfolding fold gather
  ledger_beside n j l row h = record {
    long = h.long;
    energies = λ r k g f. h.energies r k g f ∙ rw (ne_eqb (y.row n) r (λ (e : y.row n ≡ r). omega arith)) (sym (+ℤ_idr _));
    distances = λ r k g f. h.distances r k g f ∙ rw (ne_eqb (y.row n) r (λ (e : y.row n ≡ r). omega arith)) (ap pos (sym (add-zero _)));
    outsides = h.outsides;
    beyond = h.beyond;
  }

  -- sample n stands in no cycle
  pub ledger_unjudged : (m n : ℕ) (l : List ℤ) → most_cycles ≤ y.row n → LedgerShows c s l₀ m n l → LedgerShows c s l₀ m (suc n) l
  ledger_unjudged m n l row h = record {
    long = h.long;
    energies = h.energies;
    distances = h.distances;
    outsides = λ r g. h.outsides r g ∙ ap pos (sym (outside_beside c s n r row g));
    beyond = h.beyond;
  }

  -- sample n is judged
  module _ (m n : ℕ) (l : List ℤ) (row : y.row n < most_cycles) (h : LedgerShows c s l₀ m n l) where
    abbrev r₀ : ℕ
    r₀ = y.row n

    pub ledger_judged : LedgerShows c s l₀ m (suc n) (outside_added (9 * y.row n) l (out c s n))
    unfolding fold gather
    ledger_judged = record {
      long = omega (arith, length_outside (9 * r₀) l (out c s n), h.long);
      energies = λ r k g f. outside_off l r₀ r k (out c s n) (omega arith) ∙ h.energies r k g f;
      distances = λ r k g f. outside_off l r₀ r (4 + k) (out c s n) (omega arith) ∙ h.distances r k g f;
      outsides = λ r g. outside_add l r₀ r (out c s n) (omega (arith, h.long)) ∙ rw (h.outsides r g) (pos_cond (eqb r₀ r) _ _);
      beyond = outside_beyond r₀ l row (out c s n) ∙ h.beyond;
    }

    -- a sample that is not outside does not raise the count
    not_more : out c s n ≡ false → outside c s r₀ (suc n) ≤ outside c s r₀ n
    unfolding fold gather
    not_more e = rw (e, eq-eqb r₀ r₀ refl) (omega arith)

    -- the judge's test is the rules', where the count was not above the allowance before
    pub test_over : outside c s (y.row n) n ≤ d.allowance → is_over (9 * y.row n) l (out c s n) d.allowance ≡ tally.over y.row (out c s) d.allowance n
    unfolding tally.over
    test_over within =
        ap (λ (z : ℤ). out c s n && lt_z (pos d.allowance) z) (ledger_judged.outsides r₀ row)
        ∙ go (out c s n) (ltb d.allowance (outside c s r₀ (suc n))) (λ e. le-ltb d.allowance _ (le_trans (not_more e) within))
      where
        go : (o v : Bool) → (o ≡ false → v ≡ false) → (o && v) ≡ v
        go true v h = refl
        go false v h = sym (h refl)
