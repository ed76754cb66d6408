-- The fields of an input, one after another: what every turn of the loop keeps.
-- Assumes nothing.
use mathlib.Core.Bool.{Bool, true, false}
use mathlib.Core.List.{List, [], ◌++◌}
use mathlib.Core.Path.{◌≡◌, refl, sym, ap, subst, ◌∙◌}
use Prim.Native.Nat.{ℕ, ◌+◌, ◌-◌, ◌*◌, ◌≤◌, zero-le}
use native.Mathlib.Omega.{arith}
use lib.ListN.{length, take, drop, length-drop}
use lib.Seq.{drop-drop}
use Rattle.numbers.proofs.Lists.{part_rest}
use Rattle.rules.specs.Words.{bit}
use Rattle.rules.specs.declared.Spot.{Spot}
use Rattle.rules.specs.Table.{tags}
use Rattle.rules.specs.Front.{Field, Front, incomplete, impossible, field, bytes_of, front_of}
use Rattle.rules.specs.Machine.{Ran, waiting, broken, on, move_of, move_at, reply_as, reply_at, run}
use Rattle.rules.specs.Listing.{Listed, listed, list_field, list_from, spot_after, field_line, is_own}
use Rattle.laws.proofs.Cuts.{first_then, first_ends}
use Rattle.laws.proofs.Fronts.{front_whole}
use Rattle.sheet.specs.Overlaid.{Wrote}
use Rattle.sheet.proofs.Overlaid.{nothing, wrote_then, wrote_most}
use Rattle.listing.specs.Lines.{per_byte, most_line, Counts, front_used, front_text, Takes}
use Rattle.listing.proofs.Fronted.{counts_less}

-- the list, from there on
abbrev all : Listed → List ℕ → Ran Listed
all = run tags list_field

-- the move that the front makes
module _ (x : Listed) (i : List ℕ) where
  by_front : {z : Front} → front_of tags i ≡ z → move_at tags list_field x i ≡ move_of (reply_as tags list_field x z)
  unfolding reply_at
  by_front e = ap (λ (z : Front). move_of (reply_as tags list_field x z)) e

  field_moves : (f : Field) → front_of tags i ≡ field f → move_at tags list_field x i ≡ on (listed (spot_after x.spot f) (x.text ++ field_line x.spot f)) (bytes_of f)
  field_moves f e = by_front e

-- one block more at most
bit_most : (b : Bool) → bit b ≤ 1
bit_most true = omega arith
bit_most false = omega arith

-- the counts behind a field
pub counts_after : (p : Spot) (f : Field) (m : ℕ) → bytes_of f ≤ m → Counts p m → Counts (spot_after p f) (m - bytes_of f)
counts_after p f m h c = record {
  fields = omega (arith, c.fields);
  offset = omega (arith, c.offset);
  blocks = omega (arith, c.blocks, bit_most (is_own p.vehicle f));
}

module _ (p₀ : Spot) (input : List ℕ) where
  -- the fields of the first `used` bytes are listed: what is left to list of the rest is what is left of all
  pub record Behind (p : Spot) (text : List ℕ) (used : ℕ) : Type 0 where
    pub within : used ≤ length input
    pub counts : Counts p (length input - used)
    pub rest : list_from p₀ input ≡ (all (listed p text) (drop used input)).state

  pub behind_none : Counts p₀ (length input) → Behind p₀ [] 0
  behind_none c = record { within = zero-le; counts = counts_less c (omega arith); rest = refl }

  module _ {p : Spot} {text : List ℕ} {used : ℕ} (h : Behind p text used) where
    abbrev i : List ℕ
    i = drop used input

    abbrev lent : List ℕ
    lent = take (length input - used) (drop used input)

    pub lent_length : length lent ≡ length input - used
    lent_length = ap length (part_rest used input) ∙ length-drop used input

    -- what is at the front, as it is lent
    here : front_of tags lent ≡ front_of tags i
    here = ap (front_of tags) (part_rest used input)

    -- there is no field: this is all
    none_left : (z : Front) → front_of tags i ≡ z → front_used z ≡ 0 → list_from p₀ input ≡ listed p text
    none_left incomplete e d = h.rest ∙ ap (λ (x : Ran Listed). x.state) (first_ends tags list_field (listed p text) i waiting (by_front (listed p text) i e))
    none_left impossible e d = h.rest ∙ ap (λ (x : Ran Listed). x.state) (first_ends tags list_field (listed p text) i broken (by_front (listed p text) i e))
    none_left (field f) e d = absurd (omega arith)

    pub behind_end : front_used (front_of tags lent) ≡ 0 → list_from p₀ input ≡ listed p text
    behind_end z = none_left (front_of tags i) refl (sym (ap front_used here) ∙ z)

    -- there is one, of n bytes
    one_more_lem : {n : ℕ} {q : Spot} (z : Front) → front_of tags i ≡ z → Takes p z q n → Behind q (text ++ front_text p z) (used + n)
    one_more_lem incomplete e t = absurd (omega (arith, t.used, t.least))
    one_more_lem impossible e t = absurd (omega (arith, t.used, t.least))
    one_more_lem {n} {q} (field f) e t =
        let whole = front_whole tags i f e in
        let size : bytes_of f ≤ length input - used = omega (arith, whole.length_is, whole.long, length-drop used input) in
        let less : length input - used - bytes_of f ≡ length input - (used + n) = omega (arith, t.used) in
        record {
          within = omega (arith, t.used, h.within);
          counts = subst (λ (x : Spot). Counts x (length input - (used + n))) (sym t.spot) (subst (Counts (spot_after p f)) less (counts_after p f (length input - used) size h.counts));
          rest =
              h.rest
              ∙ ap (λ (x : Ran Listed). x.state) (first_then tags list_field (listed p text) i _ (bytes_of f) (field_moves (listed p text) i f e))
              ∙ (λ j. (all (listed (sym t.spot j) (text ++ field_line p f)) ((ap (λ (m : ℕ). drop m i) (sym t.used) ∙ drop-drop n used input) j)).state);
        }

    pub behind_more : {n : ℕ} {q : Spot} → Takes p (front_of tags lent) q n → Behind q (text ++ front_text p (front_of tags lent)) (used + n)
    behind_more {n} {q} t =
        subst (λ (z : Front). Behind q (text ++ front_text p z) (used + n)) (sym here) (one_more_lem (front_of tags i) refl (subst (λ (z : Front). Takes p z q n) here t))

  -- with some text of their lines
  pub record Passed (p : Spot) (used : ℕ) : Type 0 where
    pub text : List ℕ
    pub behind : Behind p text used

-- ---- with the lines written

module _ (p₀ : Spot) (input out₀ : List ℕ) where
  pub record Gone (out : List ℕ) (p : Spot) (next used : ℕ) : Type 0 where
    pub same_length : length out ≡ length out₀
    pub text : List ℕ
    pub behind : Behind p₀ input p text used
    pub wrote : Wrote (per_byte * used) out₀ 0 text out next

  pub gone_none : Counts p₀ (length input) → Gone out₀ p₀ 0 0
  gone_none c = record { same_length = refl; text = []; behind = behind_none p₀ input c; wrote = nothing out₀ 0 }

  pub gone_more : {out o : List ℕ} {p q : Spot} {next used n r : ℕ} → Gone out p next used → Takes p (front_of tags (take (length input - used) (drop used input))) q n
      → Wrote most_line out next (front_text p (front_of tags (take (length input - used) (drop used input)))) o r → length o ≡ length out → Gone o q r (used + n)
  gone_more {p = p} {used = used} h t w l = record {
    same_length = l ∙ h.same_length;
    text = h.text ++ front_text p (front_of tags (take (length input - used) (drop used input)));
    behind = behind_more p₀ input h.behind t;
    wrote = wrote_most (wrote_then h.wrote w (omega arith)) (omega (arith, t.least));
  }
