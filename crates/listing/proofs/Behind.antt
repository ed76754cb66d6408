-- The list of some bytes behind that of others: the lines stand behind theirs, and the counts go on.
-- Assumes nothing.
use mathlib.Core.List.{List, [], ◌++◌, append_assoc, append-nil}
use mathlib.Core.Path.{◌≡◌, refl, sym, ap, subst, ◌∙◌}
use Prim.Native.Nat.{ℕ, zero, suc, ◌-◌, ◌≤◌}
use native.Mathlib.Omega.{arith}
use lib.ListN.{length, drop, length-drop}
use Rattle.rules.specs.declared.Spot.{Spot}
use Rattle.rules.specs.Table.{tags}
use Rattle.rules.specs.Front.{Front, incomplete, impossible, field, bytes_of, front_of}
use Rattle.rules.specs.Machine.{move_of, reply_as, reply_at, go_on, upto, run}
use Rattle.rules.specs.Listing.{Listed, listed, list_field, list_from, spot_after, field_line}
use Rattle.laws.proofs.Fronts.{front_whole}
use Rattle.listing.specs.Lines.{Counts}
use Rattle.listing.proofs.Fronted.{counts_less}
use Rattle.listing.proofs.Walking.{counts_after}

-- so many fields of the bytes, from there on
abbrev some : ℕ → Listed → List ℕ → Listed
some n x i = (upto tags list_field n x i).state

-- with a text before
abbrev before : List ℕ → Listed → Listed
before t x = listed x.spot (t ++ x.text)

-- by what stands at the front: what is then listed, of so many fields
abbrev by_front : ℕ → Listed → List ℕ → Front → Listed
by_front n x i z = (go_on x (move_of (reply_as tags list_field x z)) (λ x' m. upto tags list_field n x' (drop m i))).state

text_behind : (n : ℕ) (p : Spot) (t : List ℕ) (i : List ℕ) → some n (listed p t) i ≡ before t (some n (listed p []) i)
unfolding upto reply_at
text_behind zero p t i = ap (listed p) (sym (append-nil t))
text_behind (suc n) p t i = go (front_of tags i) (λ q u. text_behind n q u)
  where
    go : (z : Front) → ((q : Spot) (u : List ℕ) (j : List ℕ) → some n (listed q u) j ≡ before u (some n (listed q []) j))
        → by_front n (listed p t) i z ≡ before t (by_front n (listed p []) i z)
    go incomplete next = ap (listed p) (sym (append-nil t))
    go impossible next = ap (listed p) (sym (append-nil t))
    go (field f) next =
        let q = spot_after p f in
        let j = drop (bytes_of f) i in
        let x = some n (listed q []) j in
        next q (t ++ field_line p f) j
        ∙ ap (listed x.spot) (append_assoc t (field_line p f) x.text)
        ∙ ap (before t) (sym (next q (field_line p f) j))

pub list_behind : (p : Spot) (t i : List ℕ) → (run tags list_field (listed p t) i).state ≡ listed (list_from p i).spot (t ++ (list_from p i).text)
list_behind p t i = text_behind (length i) p t i

-- each count rises by no more than the bytes
counts_upto : (k : ℕ) (p : Spot) (t i : List ℕ) (n : ℕ) → Counts p n → length i ≤ n → Counts (some k (listed p t) i).spot (n - length i)
unfolding upto reply_at
counts_upto zero p t i n c h = counts_less c (omega arith)
counts_upto (suc k) p t i n c h = go (front_of tags i) refl (λ q u. counts_upto k q u)
  where
    go : (z : Front) → front_of tags i ≡ z → ((q : Spot) (u j : List ℕ) (m : ℕ) → Counts q m → length j ≤ m → Counts (some k (listed q u) j).spot (m - length j))
        → Counts (by_front k (listed p t) i z).spot (n - length i)
    go incomplete e next = counts_less c (omega arith)
    go impossible e next = counts_less c (omega arith)
    go (field f) e next =
        let whole = front_whole tags i f e in
        let size : bytes_of f ≤ length i = omega (arith, whole.length_is, whole.long) in
        let rest = length-drop (bytes_of f) i in
        let same : n - bytes_of f - length (drop (bytes_of f) i) ≡ n - length i = omega (arith, rest) in
        subst (Counts _) same (next (spot_after p f) (t ++ field_line p f) (drop (bytes_of f) i) (n - bytes_of f) (counts_after p f n (omega arith) c) (omega (arith, rest)))

pub counts_listed : (p : Spot) (i : List ℕ) (n : ℕ) → Counts p n → length i ≤ n → Counts (list_from p i).spot (n - length i)
counts_listed p i n c h = counts_upto (length i) p [] i n c h
