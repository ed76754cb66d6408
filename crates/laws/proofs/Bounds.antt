-- A part's energy and distance are at most what its places can bring, a row has no more samples outside than places: no number of a ledger that shows a run is out of bounds.
-- Assumes nothing.
use mathlib.Core.Bool.{Bool, true, false, cond, ◌&&◌}
use mathlib.Core.Path.{◌≡◌, ap₂}
use Prim.Native.Nat.{ℕ, zero, suc, ◌+◌, ◌-◌, ◌*◌, ◌/◌, ◌%◌, ◌≤◌, ◌<◌, zero-le}
use native.Mathlib.Nat.{le_refl, le_step, le_trans, mul-le-mul_left, div-lt_iff_lt-mul}
use native.Mathlib.Omega.{arith}
use borrow.Author.Tests.{leb-true}
use lib.Dec.{T, leb, ltb, eqb, eqb→eq, not_T, nleb→lt, lit<}
use lib.IntN.{ℤ, pos, neg_ℤ, nat_abs, ◌+ℤ◌}
use Rattle.rules.specs.Words.{fold, gather, sum_of, bit, between}
use Rattle.numbers.specs.Whole.{Sized}
use Rattle.numbers.proofs.Range.{gather_most}
use Rattle.numbers.proofs.Tests.{both, both_T, bit_most}
use Rattle.numbers.proofs.Whole.{of_nat, weaken, sized_neg, sized_add, sized_mul, sized_between, sized_gather, between_sized, between_upto}
use Rattle.rules.specs.declared.Sample.{Sample}
use Rattle.rules.specs.declared.Moment.{Moment}
use Rattle.rules.specs.Bench.{is_sample, moment_of, drawn, most_speed, most_voltage, most_current, most_drawn, most_positions, most_cycles, most_offered}
use Rattle.laws.specs.Beside.{is_moment}
use Rattle.rules.specs.Course.{after, Layout, Rule, Course, course, out, outside, judged, closed}
use Rattle.rules.specs.Parts.{Part, row_part, phase_part, part_energy, part_distance}
use Rattle.rules.specs.Regular.{interval}
use Rattle.rules.specs.Shown.{ledger_numbers, most_energy, most_distance, most_outside, most_stretch_energy, most_stretch_distance, in_bounds, figure}
use Rattle.laws.proofs.Facts.{Orderly, Near}
use Rattle.laws.proofs.Gathered.{closed_offered}

-- ---- places

-- of the first m numbers no more than k pass a test, where those that do stand among k from a on
places_to : (test : ℕ → Bool) (a k m : ℕ) → ((j : ℕ) → j < m → T (test j) → (a ≤ j) × (j < a + k))
    → (sum_of test (λ j. 1) m ≤ m - a) × (sum_of test (λ j. 1) m ≤ k)
unfolding fold gather
places_to test a k zero h = (zero-le, zero-le)
places_to test a k (suc m) h = one (test m) (h m (le_refl (suc m))) (places_to test a k m (λ j l. h j (le_step l)))
  where
    n : ℕ
    n = fold ◌+◌ 0 (λ j. cond (test j) 1 0) m

    one : (d : Bool) → (T d → (a ≤ m) × (m < a + k)) → (n ≤ m - a) × (n ≤ k) → (n + cond d 1 0 ≤ suc m - a) × (n + cond d 1 0 ≤ k)
    one true i (f, g) = let (b, e) = i tt in omega arith
    one false i (f, g) = omega arith

pub places : (test : ℕ → Bool) (a k m : ℕ) → ((j : ℕ) → j < m → T (test j) → (a ≤ j) × (j < a + k)) → sum_of test (λ j. 1) m ≤ k
places test a k m h = (places_to test a k m h).1

-- how many of the first m samples row c has: at most those from its first to its end, and never more than m
abbrev pub row_places : Layout → ℕ → ℕ → ℕ
row_places l c = sum_of (row_part l c).of (λ j. 1)

pub places_row : {l : Layout} → Orderly l → (c e m : ℕ) → l.row_end c ≡ after e → row_places l c m ≤ e - l.begin c
places_row {l} o c e m q = places (row_part l c).of (l.begin c) (e - l.begin c) m stands
  where
    stands : (j : ℕ) → j < m → T (eqb (l.row j) c) → (l.begin c ≤ j) × (j < l.begin c + (e - l.begin c))
    stands j g t =
        let r = eqb→eq (l.row j) c t in
        let b : l.begin c ≤ j = rw r at (o.begun j) in
        let n = nleb→lt e j (not_T (leb e j) (λ (h : T (leb e j)). o.row_open j (rw (r, q) h))) in
        omega arith

pub places_all : (l : Layout) (c m : ℕ) → row_places l c m ≤ m
places_all l c m = places (row_part l c).of 0 m m (λ j g t. omega arith)

-- ---- samples within their limits

-- what the test says of a moment
pub record Within (x : Moment) : Type 0 where
  pub speed : x.speed ≤ most_speed
  pub energy : Sized most_drawn x.energy

pub within : (x : Moment) → is_moment x ≡ true → Within x
unfolding is_moment
within x e =
    let (a, b) = both (leb x.speed most_speed) _ e in
    record { speed = leb-true _ _ a; energy = sized_between most_drawn x.energy b }

-- a sample within its limits brings such a moment
pub sample_moment : (x : Sample) → is_sample x ≡ true → is_moment (moment_of x) ≡ true
unfolding is_sample is_moment
sample_moment x e =
    let (e₂, i) = both (leb x.speed most_speed && leb x.voltage most_voltage) _ e in
    let (v, u) = both (leb x.speed most_speed) _ e₂ in
    let energy = sized_neg (sized_mul (of_nat (leb-true x.voltage most_voltage u)) (sized_between most_current x.current i)) in
    rw (v, between_sized most_drawn (drawn x) energy)

-- ---- what a part of row r can have, of which k places are taken

module _ (c : Course) (near : Near c.share) (s : ℕ → Moment) (n : ℕ) (limits : (j : ℕ) → j < n → Within (s j))
    (r k : ℕ) (few : row_places c.layout r (closed c s n) ≤ k) where
  -- the samples that close share j are offered
  offered : (j i : ℕ) → j < closed c s n → i ≤ j + c.share.ahead → i < n
  offered j i l g = omega (arith, closed_offered c s n j l)

  part_energy_lem : (p : Part) → ((j : ℕ) → T (p.of j) → T ((row_part c.layout r).of j))
      → Sized (most_drawn * suc c.share.ahead * k) (part_energy c.share s p (closed c s n))
  part_energy_lem p i =
      let most : (j : ℕ) → j < closed c s n → nat_abs (c.share.energy s j) ≤ most_drawn * suc c.share.ahead =
      λ j l. (near.energy_most s j most_drawn (λ i g. (limits i (offered j i l g)).energy)).size in
      weaken (le_trans (gather_most p.of (row_part c.layout r).of _ _ i _ most) (mul-le-mul_left (most_drawn * suc c.share.ahead) few))
      (sized_gather p.of (c.share.energy s) (closed c s n))

  part_distance_lem : (p : Part) → ((j : ℕ) → T (p.of j) → T ((row_part c.layout r).of j))
      → part_distance c.share s p (closed c s n) ≤ most_speed * suc c.share.ahead * k
  part_distance_lem p i =
      let most : (j : ℕ) → j < closed c s n → c.share.distance s j ≤ most_speed * suc c.share.ahead =
      λ j l. near.distance_most s j most_speed (λ i g. (limits i (offered j i l g)).speed) in
      le_trans (gather_most p.of (row_part c.layout r).of _ _ i _ most) (mul-le-mul_left (most_speed * suc c.share.ahead) few)

  pub row_energy_most : Sized (most_drawn * suc c.share.ahead * k) (part_energy c.share s (row_part c.layout r) (closed c s n))
  row_energy_most = part_energy_lem (row_part c.layout r) (λ j t. t)

  pub row_distance_most : part_distance c.share s (row_part c.layout r) (closed c s n) ≤ most_speed * suc c.share.ahead * k
  row_distance_most = part_distance_lem (row_part c.layout r) (λ j t. t)

  in_row : (q j : ℕ) → T ((phase_part c.layout r q).of j) → T ((row_part c.layout r).of j)
  in_row q j t = (both_T (eqb (c.layout.row j) r) _ t).0

  pub phase_energy_most : (q : ℕ) → Sized (most_drawn * suc c.share.ahead * k) (part_energy c.share s (phase_part c.layout r q) (closed c s n))
  phase_energy_most q = part_energy_lem (phase_part c.layout r q) (in_row q)

  pub phase_distance_most : (q : ℕ) → part_distance c.share s (phase_part c.layout r q) (closed c s n) ≤ most_speed * suc c.share.ahead * k
  phase_distance_most q = part_distance_lem (phase_part c.layout r q) (in_row q)

pub outside_most : (c : Course) (s : ℕ → Moment) (r k m : ℕ) → row_places c.layout r m ≤ k → outside c s r m ≤ k
outside_most c s r k m few =
    let f = (row_part c.layout r).of in
    omega (arith, gather_most f f (λ j. bit (out c s j)) 1 (λ j t. t) m (λ j l. bit_most (out c s j)))

-- ---- where an interval is the share

pub interval_near : Near interval
interval_near = record {
  soon = le_refl 1;
  energy_by = λ s s' j e. ap₂ (λ (x y : Moment). x.energy +ℤ y.energy) (e j (omega arith)) (e (suc j) (omega arith));
  distance_by = λ s s' j e. ap₂ (λ (x y : Moment). x.speed + y.speed) (e j (omega arith)) (e (suc j) (omega arith));
  energy_most = λ s j x h. weaken (omega arith) (sized_add (h j (omega arith)) (h (suc j) (omega arith)));
  distance_most = λ s j v h. omega (arith, h j (omega arith), h (suc j) (omega arith));
}

module _ (l : Layout) (rule : Rule) (s : ℕ → Moment) (n : ℕ) (limits : (j : ℕ) → j < n → Within (s j)) where
  abbrev c : Course
  c = course l rule interval

  -- a stretch, or any other row, has at most as many places as shares are closed
  module _ (h : n ≤ most_offered) (r : ℕ) where
    few_offered : row_places l r (closed c s n) ≤ most_offered
    few_offered = omega (arith, places_all l r (closed c s n))

    pub stretch_energy_most : Sized most_stretch_energy (part_energy interval s (row_part l r) (closed c s n))
    stretch_energy_most = row_energy_most c interval_near s n limits r most_offered few_offered

    pub stretch_distance_most : part_distance interval s (row_part l r) (closed c s n) ≤ most_stretch_distance
    stretch_distance_most = row_distance_most c interval_near s n limits r most_offered few_offered

  -- every number of the ledger is in bounds, where no row of it has more places than the longest cycle
  module _ (few : (r m : ℕ) → r < most_cycles → row_places l r m ≤ most_positions) where
    pub figure_in_bounds : (i : ℕ) → i < ledger_numbers → in_bounds i (figure c s n i) ≡ true
    unfolding in_bounds figure
    figure_in_bounds i h = go (ltb (i % 9) 4) (ltb (i % 9) 8)
      where
        in_ledger : i / 9 < most_cycles
        in_ledger = (div-lt_iff_lt-mul {x = i} {y = most_cycles} (lit< tt)).1 h

        e : ℕ → ℤ
        e k = part_energy interval s (phase_part l (i / 9) k) (closed c s n)

        d : ℕ → ℕ
        d k = part_distance interval s (phase_part l (i / 9) k) (closed c s n)

        energy_in_lem : (k : ℕ) → Sized most_energy (e k)
        energy_in_lem = phase_energy_most c interval_near s n limits (i / 9) most_positions (few _ _ in_ledger)

        distance_in_lem : (k : ℕ) → d k ≤ most_distance
        distance_in_lem = phase_distance_most c interval_near s n limits (i / 9) most_positions (few _ _ in_ledger)

        go : (x y : Bool) → (
            let z = cond x (e (i % 9)) (cond y (pos (d (i % 9 - 4))) (pos (outside c s (i / 9) (judged c s n)))) in
            cond x (between (neg_ℤ (pos most_energy)) (pos most_energy) z)
            (cond y (between (pos 0) (pos most_distance) z) (between (pos 0) (pos most_outside) z)) ≡ true)
        go true y = between_sized most_energy (e (i % 9)) (energy_in_lem (i % 9))
        go false true = between_upto most_distance _ (distance_in_lem (i % 9 - 4))
        go false false = between_upto most_outside _ (outside_most c s (i / 9) most_positions (judged c s n) (few _ _ in_ledger))
