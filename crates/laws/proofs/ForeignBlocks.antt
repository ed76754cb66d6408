-- A block of another vehicle, anywhere where blocks may stand.
-- Assumes nothing.
use mathlib.Core.Bool.{Bool, true, false}
use mathlib.Core.List.{List, [], ◌++◌}
use mathlib.Core.Path.{◌≡◌, refl, sym, ap, subst, ◌∙◌}
use Prim.Native.Nat.{ℕ, suc, ◌+◌, ◌-◌, ◌≤◌}
use native.Mathlib.Omega.{arith}
use lib.Dec.{leb, eqb}
use lib.ListN.{length, drop, length-append, drop_of_length-le}
use borrow.Author.Tests.{le-leb}
use Rattle.rules.specs.Words.{all_below, unless}
use Rattle.rules.specs.Bench.{most_passed}
use Rattle.rules.specs.Table.{begins, by_row, behind_tolerances, tags}
use Rattle.rules.specs.Machine.{End, waiting, broken, stopped, Ran, on, onwards, reply_at, move_at, run}
use Rattle.rules.specs.Record.{Told, block_content, field_content, more_passed, take_field, untold, told, refused_at, sheet_by, sheet_of}
use Rattle.laws.proofs.Cuts.{first_longer}
use Rattle.laws.proofs.Sheets.{sheet_ran, Leads, run_longer, sheet_longer}
use Rattle.laws.proofs.Foreign.{more_ran, run_shifted, run_rises}
use Rattle.laws.specs.Claims.{ForeignBlock, one_more}

one_more_lem : (e : End) (s : Told) (d left : ℕ) → sheet_by e (more_passed s) (suc d) left ≡ one_more (sheet_by e s d left)
unfolding unless
one_more_lem waiting s d left = go (leb behind_tolerances s.place) (eqb left 0)
  where
    go : (a b : Bool) → unless (refused_at 15 (suc (suc d))) a (unless (refused_at 15 (suc (suc d))) b (told (more_passed s)))
        ≡ one_more (unless (refused_at 15 (suc d)) a (unless (refused_at 15 (suc d)) b (told s)))
    go true true = refl
    go true false = refl
    go false b = refl
one_more_lem broken s d left = refl
one_more_lem (stopped n) s d left = refl

module _ (s : Told) (f v : List ℕ) (w : ForeignBlock s f v) where
  -- "a block passed over can only meet 7"
  foreign_field : s.passed + 1 ≤ most_passed → move_at tags take_field s f ≡ on (more_passed s) (3 + length v)
  unfolding reply_at field_content by_row begins all_below block_content unless
  foreign_field room = rw (w.front, w.place, w.number, w.other, le-leb (s.passed + 1) most_passed room)

  -- read on with q behind it
  foreign_run : (q : List ℕ) → (run tags take_field s q).state.passed + 1 ≤ most_passed → run tags take_field s (f ++ q) ≡ onwards (3 + length v) (more_ran (run tags take_field s q))
  foreign_run q room =
      let gone : drop (3 + length v) f ≡ [] = drop_of_length-le f {i = 3 + length v} (omega (arith, w.size)) in
      first_longer tags take_field s f q (more_passed s) (3 + length v) (foreign_field (let l = run_rises s q in omega arith))
      ∙ ap (λ (j : List ℕ). onwards (3 + length v) (run tags take_field (more_passed s) (j ++ q))) gone
      ∙ ap (onwards (3 + length v)) (run_shifted s q room)

-- "A field 5 that bears another valid number is passed over: its first number and samples are not looked at, the place in the order does not move,
-- only the passed-over count rises": between the whole fields p and the bytes q stands such a field f. The record tells what it tells without it,
-- with one block more passed over, or has the same refusal one field later.
pub foreign_blocks_change_nothing : (p f v q : List ℕ) (s : Told) (n : ℕ) → Leads p s n → ForeignBlock s f v
    → (run tags take_field untold (p ++ q)).state.passed + 1 ≤ most_passed → sheet_of (p ++ (f ++ q)) ≡ one_more (sheet_of (p ++ q))
foreign_blocks_change_nothing p f v q s n h w room =
    let x = run tags take_field s q in
    let r : x.state.passed + 1 ≤ most_passed = subst (λ (y : Ran Told). y.state.passed + 1 ≤ most_passed) (run_longer p s n h q) room in
    let fields_are : n + suc x.fields ≡ suc (n + x.fields) = omega arith in
    let left_is : length (f ++ q) - (3 + length v + x.used) ≡ length q - x.used = omega (arith, length-append f q, w.size) in
    sheet_longer p s n h (f ++ q)
    ∙ ap (sheet_ran n (length (f ++ q))) (foreign_run s f v w q r)
    ∙ (λ k. sheet_by x.end (more_passed x.state) (fields_are k) (left_is k))
    ∙ one_more_lem x.end x.state (n + x.fields) (length q - x.used)
    ∙ ap one_more (sym (sheet_longer p s n h q))
