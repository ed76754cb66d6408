-- Text overlaid over bytes: one text after another is both in one, and a byte is stored.
-- Assumes nothing.
use mathlib.Core.List.{List, [], ◌∷◌, ◌++◌, append_assoc}
use mathlib.Core.Path.{◌≡◌, refl, sym, ap, ap₂, ◌∙◌, subst}
use Prim.Native.Nat.{ℕ, ◌+◌, ◌≤◌, ◌<◌}
use native.Mathlib.Nat.{le_refl, zero-add, add-zero}
use native.Mathlib.Numerals.{add-one}
use native.Mathlib.Omega.{arith}
use lib.Dec.{leb}
use lib.ListN.{length, take, drop, set, length-append}
use lib.Seq.{length-take-le, take_at, drop_at, drop-drop, set_split, append_snoc, paste-zero}
use Rattle.rules.specs.Words.{unless}
use Rattle.numbers.proofs.Tests.{pass, stop, tests}
use Rattle.sheet.specs.Overlaid.{overlaid, Wrote, most_sheet}

pub overlaid_then : (out : List ℕ) (at : ℕ) (a b : List ℕ) → at ≤ length out → overlaid (overlaid out at a) (at + length a) b ≡ overlaid out at (a ++ b)
unfolding overlaid
overlaid_then out at a b h =
    let p : List ℕ = take at out ++ a in
    let d : List ℕ = drop (at + length a) out in
    let n : length p ≡ at + length a = length-append (take at out) a ∙ ap (λ (k : ℕ). k + length a) (length-take-le at out h) in
    let e : at + length a + length b ≡ at + length (a ++ b) = omega (arith, length-append a b) in
    ap₂ (λ (x y : List ℕ). x ++ b ++ y)
    (take_at p d (at + length a) n)
    (sym (drop-drop (length b) (at + length a) (p ++ d)) ∙ ap (drop (length b)) (drop_at p d (at + length a) n) ∙ drop-drop (length b) (at + length a) out)
    ∙ ap₂ (λ (x : List ℕ) (k : ℕ). x ++ drop k out) (append_assoc (take at out) a b) e

pub overlaid_byte : (out : List ℕ) (at v : ℕ) → at < length out → set out at v ≡ overlaid out at (v ∷ [])
unfolding overlaid
overlaid_byte out at v h =
    set_split out at v h
    ∙ sym (append_snoc (take at out) v _)
    ∙ ap (λ (k : ℕ). take at out ++ v ∷ [] ++ drop k out) (sym (add-one at))

-- ---- what the functions promise

pub nothing : (out : List ℕ) (at : ℕ) → Wrote 0 out at [] out at
unfolding overlaid
nothing out at = record { most = le_refl 0; place = sym (add-zero at); bytes = paste-zero out at [] }

pub one_byte : (out : List ℕ) (at v : ℕ) → at < length out → Wrote 1 out at (v ∷ []) (set out at v) (at + 1)
one_byte out at v h = record { most = le_refl 1; place = refl; bytes = overlaid_byte out at v h }

module _ {out o₁ o₂ : List ℕ} {at r₁ r₂ : ℕ} {a b : List ℕ} where
  -- one text, and then another
  pub wrote_then : {m k : ℕ} → Wrote m out at a o₁ r₁ → Wrote k o₁ r₁ b o₂ r₂ → at ≤ length out → Wrote (m + k) out at (a ++ b) o₂ r₂
  wrote_then w v h = record {
    most = omega (arith, length-append a b, w.most, v.most);
    place = omega (arith, length-append a b, w.place, v.place);
    bytes = v.bytes ∙ ap₂ (λ (l : List ℕ) (k : ℕ). overlaid l k b) w.bytes w.place ∙ overlaid_then out at a b h;
  }

module _ {out o₁ : List ℕ} {at r₁ : ℕ} {a : List ℕ} where
  pub wrote_most : {m k : ℕ} → Wrote m out at a o₁ r₁ → m ≤ k → Wrote k out at a o₁ r₁
  wrote_most w h = record { most = omega (arith, w.most); place = w.place; bytes = w.bytes }

  -- the text, written otherwise
  pub wrote_is : {m : ℕ} {b : List ℕ} → Wrote m out at a o₁ r₁ → a ≡ b → Wrote m out at b o₁ r₁
  wrote_is {m} w e = subst (λ (t : List ℕ). Wrote m out at t o₁ r₁) e w

  -- room for more than the text is not counted
  pub wrote_tight : {m : ℕ} → Wrote m out at a o₁ r₁ → Wrote (length a) out at a o₁ r₁
  wrote_tight w = record { most = le_refl _; place = w.place; bytes = w.bytes }

  -- one text, and then a byte
  pub wrote_byte : {m : ℕ} (v : ℕ) → Wrote m out at a o₁ r₁ → r₁ < length o₁ → at ≤ length out → Wrote (m + 1) out at (a ++ v ∷ []) (set o₁ r₁ v) (r₁ + 1)
  wrote_byte v w g h = wrote_then w (one_byte o₁ r₁ v g) h

-- from the start on, the text stands at the front
pub wrote_front : {m r : ℕ} {out text after : List ℕ} → Wrote m out 0 text after r → take r after ≡ text
unfolding overlaid
wrote_front {out = out} {text = text} w =
    ap₂ take (w.place ∙ zero-add (length text)) w.bytes ∙ take_at text (drop (0 + length text) out) (length text) refl

-- ---- what the public functions promise: all of the text where out is long enough, else nothing

module _ (out text : List ℕ) where
  pub kept_whole : {m r : ℕ} {o : List ℕ} → Wrote m out 0 text o r → most_sheet ≤ length out
      → (r ≡ unless 0 (leb most_sheet (length out)) (length text)) × (o ≡ unless out (leb most_sheet (length out)) (overlaid out 0 text))
  kept_whole w h = (pass 0 (omega tests) (w.place ∙ zero-add (length text)), pass out (omega tests) w.bytes)

  pub too_short : length out < most_sheet
      → (◌≡◌ {A = ℕ} 0 (unless 0 (leb most_sheet (length out)) (length text))) × (out ≡ unless out (leb most_sheet (length out)) (overlaid out 0 text))
  too_short h = (stop (length text) (omega tests), stop (overlaid out 0 text) (omega tests))
