-- 'Record layout', "Order": one table. Of each tag (and kind) its lengths, the places in the order at which it may stand, the place that it moves to.
-- Assumes nothing.
use Rattle.std.specs.Prelude.{Bool, true, false, cond, ◌&&◌, List, [], ◌∷◌, ℕ, ◌-◌, ◌*◌, ◌%◌, leb, eqb, length}
use Rattle.rules.specs.Words.{same_bytes}
use Rattle.rules.specs.Cycle.{least_bytes, most_bytes}

-- ---- what a row says

-- how many bytes a value may have: so many; from so many to so many; so many, and behind them "1 to 200 samples" of so many bytes each
pub data Lengths : Type 0 where
  exactly : ℕ → Lengths
  from_to : ℕ → ℕ → Lengths
  head_samples : ℕ → ℕ → Lengths

-- n bytes are "1 to 200 samples" of so many bytes each
abbrev pub most_block : ℕ
most_block = 200

unfoldable pub are_whole : ℕ → ℕ → Bool
are_whole size n = eqb (n % size) 0 && leb size n && leb n (most_block * size)

-- "17 characters", "9..4811 bytes", "1 to 200 samples": the length n is one of these
abbrev pub allows : Lengths → ℕ → Bool
allows (exactly k) n = eqb n k
allows (from_to a e) n = leb a n && leb n e
allows (head_samples head size) n = leb head n && are_whole size (n - head)

-- a row: starts are the bytes with which the value begins (the mark; the kind of a field 6), and M is what a field may hold
pub record Row (M : Type 0) : Type 0 where
  pub tag : ℕ
  pub starts : List ℕ
  pub lengths : Lengths
  pub stands : List ℕ
  pub moves : ℕ
  pub holds : M

abbrev pub row : {M : Type 0} → ℕ → List ℕ → Lengths → List ℕ → ℕ → M → Row M
row tag starts lengths stands moves holds = record { tag = tag; starts = starts; lengths = lengths; stands = stands; moves = moves; holds = holds }

-- ---- looked up

-- by the first row that passes the test, or otherwise
abbrev pub lookup : {M A : Type 0} → (Row M → Bool) → (Row M → A) → A → List (Row M) → A
lookup test found otherwise [] = otherwise
lookup test found otherwise (r ∷ rows) = cond (test r) (found r) (lookup test found otherwise rows)

-- the value begins with these bytes
unfoldable pub begins : List ℕ → List ℕ → Bool
begins starts v = same_bytes (length starts) v starts

-- the place is one of these
abbrev pub among : ℕ → List ℕ → Bool
among place [] = false
among place (p ∷ ps) = cond (eqb place p) true (among place ps)

-- the row is of this tag, and of this mark or kind
abbrev pub is_of : {M : Type 0} → ℕ → List ℕ → Row M → Bool
is_of tag v r = eqb tag r.tag && begins r.starts v

module _ {M : Type 0} (rows : List (Row M)) where
  -- "An unknown tag is refused from its first byte, a length not allowed for its tag from the third."
  unfoldable pub is_tag : ℕ → Bool
  is_tag tag = lookup (λ r. eqb tag r.tag) (λ _. true) false rows

  unfoldable pub length_allowed : ℕ → ℕ → Bool
  length_allowed tag n = lookup (λ r. eqb tag r.tag && allows r.lengths n) (λ _. true) false rows

  -- the row of a field, by its tag and the bytes with which its value begins; "wrong mark, tag 6 kind above 1": there is none
  unfoldable pub by_row : {A : Type 0} → ℕ → List ℕ → (Row M → A) → A → A
  by_row tag v found otherwise = lookup (is_of tag v) found otherwise rows

  -- the place after it
  abbrev pub place_after : ℕ → ℕ → List ℕ → ℕ
  place_after place tag v = by_row tag v (λ r. r.moves) place

-- ---- the table

-- what a field holds: "mark .. vehicle number .. phase count .. phase ends .. points .. speed, time, allowance .. samples .. drawn energy .. recharge";
-- document 02, L5: "a bad stretch field" is of one that holds M's length and E's set speed
pub data Matter : Type 0 where
  mark : Matter
  number : Matter
  cycle : Matter
  tolerances : Matter
  stretches : Matter
  block : Matter
  energy_before : Matter
  energy_after : Matter
  recharge : Matter

-- the places in the order: behind no field yet, and behind the field that is named; an own block moves the place, one passed over does not
abbrev pub at_first : ℕ
at_first = 0

abbrev pub behind_mark : ℕ
behind_mark = 1

abbrev pub behind_number : ℕ
behind_number = 2

abbrev pub behind_cycle : ℕ
behind_cycle = 3

-- the run is started
abbrev pub behind_tolerances : ℕ
behind_tolerances = 4

abbrev pub behind_stretches : ℕ
behind_stretches = 5

abbrev pub behind_before : ℕ
behind_before = 6

abbrev pub behind_block : ℕ
behind_block = 7

abbrev pub behind_after : ℕ
behind_after = 8

abbrev pub behind_recharge : ℕ
behind_recharge = 9

-- "the four letters RUN1"
abbrev pub run1 : List ℕ
run1 = 82 ∷ 85 ∷ 78 ∷ 49 ∷ []

-- "any number of 5": from the start to the 6 after
abbrev pub block_places : List ℕ
block_places = behind_tolerances ∷ behind_stretches ∷ behind_before ∷ behind_block ∷ []

-- "Order: 1, 2, 3, 4 once each; 6 before at most once; any number of 5; 6 after at most once; 7 at most once."
abbrev pub tags : List (Row Matter)
tags =
    -- tag, with what the value begins, lengths, where it may stand, where it moves to, what it holds
    row 1 run1 (exactly 4) (at_first ∷ []) behind_mark mark
    ∷ row 2 [] (exactly 17) (behind_mark ∷ []) behind_number number
    ∷ row 3 [] (from_to least_bytes most_bytes) (behind_number ∷ []) behind_cycle cycle
    ∷ row 4 [] (exactly 6) (behind_cycle ∷ []) behind_tolerances tolerances
    ∷ row 5 [] (head_samples 21 6) block_places behind_block block
    ∷ row 6 (0 ∷ []) (exactly 9) (behind_tolerances ∷ behind_stretches ∷ []) behind_before energy_before
    ∷ row 6 (1 ∷ []) (exactly 9) block_places behind_after energy_after
    ∷ row 7 [] (exactly 4) (behind_after ∷ block_places) behind_recharge recharge
    -- document 02, L5: "A new field (tag 8) after the tolerances"
    ∷ row 8 [] (exactly 6) (behind_tolerances ∷ []) behind_stretches stretches
    ∷ []
