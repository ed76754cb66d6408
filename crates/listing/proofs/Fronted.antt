-- What stands at the front of bytes, as the field list has it.
-- Assumes nothing.
use mathlib.Core.Bool.{Bool, true, false, cond, ◌&&◌}
use mathlib.Core.List.{List, [], ◌∷◌, ◌++◌}
use mathlib.Core.Path.{◌≡◌, refl, sym, ap, ◌∙◌}
use Prim.Native.Nat.{ℕ, ◌≤◌}
use native.Mathlib.Omega.{arith}
use borrow.Author.Tests.{eq-eqb, ne_eqb}
use lib.Dec.{eqb}
use Rattle.rules.specs.declared.Spot.{Spot}
use Rattle.rules.specs.Table.{tags}
use Rattle.rules.specs.Front.{Field, Front as Stands, incomplete, impossible, field, front_of}
use Rattle.rules.specs.Text.{digits, spaced, refused_word, refused_line}
use Rattle.rules.specs.Listing.{bad_sample, is_block_at, value_at, refused_text}
use Rattle.fields.specs.declared.Front.{Front}
use Rattle.std.specs.Prelude.{Option, Some, None, Result, Ok, Err}
use Rattle.rules.specs.declared.Refusal.{Refusal}
use Rattle.fields.specs.Fields.{front_said, stands_said}
use Rattle.fields.proofs.Fronts.{said_incomplete, said_impossible}
use Rattle.listing.specs.Lines.{Counts, front_used, front_spot, front_text}

-- ---- no whole field

pub record NoField (i : List ℕ) (p : Spot) : Type 0 where
  pub used : 0 ≡ front_used (front_of tags i)
  pub spot : p ≡ front_spot p (front_of tags i)
  pub text : [] ≡ front_text p (front_of tags i)
  pub block : is_block_at (front_of tags i) ≡ false

pub at_incomplete : (i : List ℕ) (p : Spot) → front_of tags i ≡ incomplete → NoField i p
at_incomplete i p e = record { used = ap front_used (sym e); spot = ap (front_spot p) (sym e); text = ap (front_text p) (sym e); block = ap is_block_at e }

pub at_impossible : (i : List ℕ) (p : Spot) → front_of tags i ≡ impossible → NoField i p
at_impossible i p e = record { used = ap front_used (sym e); spot = ap (front_spot p) (sym e); text = ap (front_text p) (sym e); block = ap is_block_at e }

-- r is the answer to the bytes, and no field
pub no_field_lem : (i : List ℕ) (p : Spot) (r : Result (Option Front) Refusal) → front_said r ≡ stands_said (front_of tags i) → ((f : Front) → r ≡ Ok (Some f) → ⊥) → NoField i p
no_field_lem i p (Ok None) e h = at_incomplete i p (said_incomplete i e refl)
no_field_lem i p (Err k) e h = at_impossible i p (said_impossible i k e refl).0
no_field_lem i p (Ok (Some f)) e h = absurd (h f refl)

-- n can be added, where more can
pub counts_less : {p : Spot} {m n : ℕ} → Counts p m → n ≤ m → Counts p n
counts_less c h = record { fields = omega (arith, c.fields); offset = omega (arith, c.offset); blocks = omega (arith, c.blocks) }

-- ---- what is refused

module _ (n : ℕ) (rest : List ℕ) where
  abbrev sampled : List ℕ
  sampled = spaced refused_word ++ spaced (digits n) ++ bad_sample (value_at (front_of tags rest))

  pub another_number : (n ≡ 5 → ⊥) → refused_line n ≡ refused_text n rest
  unfolding refused_text
  another_number h = ap (λ (b : Bool). cond (b && is_block_at (front_of tags rest)) sampled (refused_line n)) (sym (ne_eqb n 5 h))

  no_block : (a : Bool) → refused_line n ≡ cond (a && false) sampled (refused_line n)
  no_block true = refl
  no_block false = refl

  pub another_field : is_block_at (front_of tags rest) ≡ false → refused_line n ≡ refused_text n rest
  unfolding refused_text
  another_field e = no_block (eqb n 5) ∙ ap (λ (b : Bool). cond (eqb n 5 && b) sampled (refused_line n)) (sym e)

  pub of_sample : n ≡ 5 → (f : Field) → front_of tags rest ≡ field f → f.tag ≡ 5 → spaced refused_word ++ spaced (digits n) ++ bad_sample f.value ≡ refused_text n rest
  unfolding refused_text
  of_sample h f e t =
      ap (λ (x : Stands). spaced refused_word ++ spaced (digits n) ++ bad_sample (value_at x)) (sym e)
      ∙ (λ i. cond (sym (eq-eqb n 5 h) i && sym (ap is_block_at e ∙ eq-eqb f.tag 5 t) i) sampled (refused_line n))
