-- What a record tells, field by field.
-- Assumes nothing.
use mathlib.Core.Bool.{Bool, true, false, false≢true}
use mathlib.Core.List.{List, [], ◌++◌, append-nil}
use mathlib.Core.Path.{◌≡◌, refl, sym, ap, ◌∙◌}
use Prim.Native.Nat.{ℕ, suc, ◌+◌, ◌-◌}
use native.Mathlib.Omega.{arith}
use borrow.Author.Tests.{eqb-true}
use lib.Dec.{leb, eqb}
use lib.ListN.{length, drop, length-drop, length-append}
use Rattle.rules.specs.Words.{unless}
use Rattle.rules.specs.Table.{behind_tolerances, tags}
use Rattle.rules.specs.Machine.{End, waiting, broken, stopped, Ran, Move, on, off, ends, onwards, go_on, move_at, run}
use Rattle.rules.specs.Record.{Told, Sheet, told, refused_at, take_field, untold, sheet_by, sheet_from, sheet_of}
use Rattle.laws.proofs.Cuts.{unrolled, joined, cut_whole, refusal_stays, used_most}
use Rattle.laws.proofs.Prefixes.{no_bytes}

-- the sheet by the first field, behind d others
abbrev pub sheet_move : ℕ → Told → List ℕ → Move Told → Sheet
sheet_move d s i (on s' m) = sheet_from (suc d) s' (drop m i)
sheet_move d s i (off e) = sheet_by e s d (length i)

-- of what was taken
abbrev pub sheet_ran : ℕ → ℕ → Ran Told → Sheet
sheet_ran d n x = sheet_by x.end x.state (d + x.fields) (n - x.used)

pub sheet_onwards : (d m : ℕ) (i : List ℕ) (x : Ran Told) → sheet_ran d (length i) (onwards m x) ≡ sheet_ran (suc d) (length (drop m i)) x
sheet_onwards d m i x =
    let f : d + suc x.fields ≡ suc d + x.fields = omega arith in
    let l : length i - (m + x.used) ≡ length (drop m i) - x.used = omega (arith, length-drop m i) in
    λ k. sheet_by x.end x.state (f k) (l k)

pub sheet_ends : (d n : ℕ) (s : Told) (e : End) → sheet_ran d n (ends s e) ≡ sheet_by e s d n
sheet_ends d n s e =
    let f : d + 0 ≡ d = omega arith in
    let l : n - 0 ≡ n = omega arith in
    λ k. sheet_by e s (f k) (l k)

pub sheet_first : (d : ℕ) (s : Told) (i : List ℕ) → sheet_from d s i ≡ sheet_move d s i (move_at tags take_field s i)
sheet_first d s i = ap (sheet_ran d (length i)) (unrolled tags take_field s i) ∙ go (move_at tags take_field s i)
  where
    go : (x : Move Told) → sheet_ran d (length i) (go_on s x (λ s' m. run tags take_field s' (drop m i))) ≡ sheet_move d s i x
    go (on s' m) = sheet_onwards d m i (run tags take_field s' (drop m i))
    go (off e) = sheet_ends d (length i) s e

-- ---- whole fields, and what follows them

-- the bytes p are n whole fields, all accepted, and lead to the state s
abbrev pub Leads : List ℕ → Told → ℕ → Type 0
Leads p s n = run tags take_field untold p ≡ record { state = s; fields = n; used = length p; end = waiting }

module _ (p : List ℕ) (s : Told) (n : ℕ) (h : Leads p s n) (q : List ℕ) where
  pub run_longer : run tags take_field untold (p ++ q) ≡ joined (record { state = s; fields = n; used = length p; end = waiting }) (run tags take_field s q)
  run_longer =
      cut_whole tags take_field untold p q (ap (λ (x : Ran Told). x.end) h) (ap (λ (x : Ran Told). x.used) h)
      ∙ ap (λ (x : Ran Told). joined x (run tags take_field x.state q)) h

  -- what the longer record comes to
  pub sheet_longer : sheet_of (p ++ q) ≡ sheet_from n s q
  unfolding sheet_of
  sheet_longer =
      let x = run tags take_field s q in
      let f : 0 + (n + x.fields) ≡ n + x.fields = omega arith in
      let l : length (p ++ q) - (length p + x.used) ≡ length q - x.used = omega (arith, length-append p q) in
      ap (sheet_ran 0 (length (p ++ q))) run_longer ∙ (λ k. sheet_by x.end x.state (f k) (l k))

-- where the run is started, they are a record that tells s
pub leads_told : (p : List ℕ) (s : Told) (n : ℕ) → Leads p s n → leb behind_tolerances s.place ≡ true → sheet_of p ≡ told s
unfolding unless
leads_told p s n h e =
    ap sheet_of (sym (append-nil p)) ∙ sheet_longer p s n h [] ∙ ap (sheet_ran n 0) (no_bytes tags take_field s) ∙ rw e

-- and no others are
pub record LeadsSome (p : List ℕ) (s : Told) : Type 0 where
  pub fields : ℕ
  pub leads : Leads p s fields
  pub started : leb behind_tolerances s.place ≡ true

pub told_leads : (p : List ℕ) (s : Told) → sheet_of p ≡ told s → LeadsSome p s
unfolding sheet_of unless
told_leads p s = go (run tags take_field untold p).end refl
  where
    x : Ran Told
    x = run tags take_field untold p

    closed : (a b : Bool) → leb behind_tolerances x.state.place ≡ a → eqb (length p - x.used) 0 ≡ b → x.end ≡ waiting
        → unless (refused_at 15 (suc (0 + x.fields))) a (unless (refused_at 15 (suc (0 + x.fields))) b (told x.state)) ≡ told s → LeadsSome p s
    closed true true e f w g =
        let l = eqb-true (length p - x.used) 0 f in
        let m = used_most tags take_field untold p in
        let u : x.used ≡ length p = omega arith in
        let d : x.state ≡ s = cc g in
        record {
          fields = x.fields;
          leads = λ k. record { state = d k; fields = x.fields; used = u k; end = w k };
          started = ap (λ (t : Told). leb behind_tolerances t.place) (sym d) ∙ e;
        }
    closed true false e f w g = absurd (false≢true cc)
    closed false b e f w g = absurd (false≢true cc)

    go : (e : End) → x.end ≡ e → sheet_by e x.state (0 + x.fields) (length p - x.used) ≡ told s → LeadsSome p s
    go waiting w g = closed (leb behind_tolerances x.state.place) (eqb (length p - x.used) 0) refl refl w g
    go broken w g = absurd (false≢true cc)
    go (stopped n) w g = absurd (false≢true cc)

-- ---- a refusal stays, whatever follows; but 15, which is of the end
pub refusal_stays_refused : (p q : List ℕ) → ((run tags take_field untold p).end ≡ waiting → ⊥) → sheet_of (p ++ q) ≡ sheet_of p
unfolding sheet_of
refusal_stays_refused p q h = ap (sheet_ran 0 (length (p ++ q))) (refusal_stays tags take_field untold p q h) ∙ go (run tags take_field untold p) h
  where
    go : (x : Ran Told) → (x.end ≡ waiting → ⊥) → sheet_ran 0 (length (p ++ q)) x ≡ sheet_ran 0 (length p) x
    go x = ends_by x.end
      where
        ends_by : (e : End) → (e ≡ waiting → ⊥) → sheet_by e x.state (0 + x.fields) (length (p ++ q) - x.used) ≡ sheet_by e x.state (0 + x.fields) (length p - x.used)
        ends_by waiting f = absurd (f refl)
        ends_by broken f = refl
        ends_by (stopped n) f = refl
