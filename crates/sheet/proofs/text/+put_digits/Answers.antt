-- `sheet::text::put_digits` meets its contract: it calls itself with the tenth of n, and adds the last digit.
use mathlib.Core.List.{[], ◌∷◌}
use mathlib.Core.Path.{◌≡◌, sym, ap, subst, ◌∙◌}
use Prim.Native.Nat.{ℕ, ◌+◌, ◌/◌, ◌%◌, ◌≤◌, ◌<◌}
use native.Mathlib.Omega.{arith}
use lib.ListN.{length, length-append}
use Rattle.rules.specs.Text.{digits}
use Rattle.sheet.proofs.Digits.{tenth, digits_small, digits_more}
use Rattle.sheet.proofs.Overlaid.{one_byte, wrote_is, wrote_tight, wrote_byte}
use Rattle.sheet.proofs.text.+put_digits.Goals as goal
use Rattle.sheet.proofs.text.+put_digits.Goals.{After-put_digits-next}

-- how many digits there are
one : (n : ℕ) → n < 10 → length (digits n) ≡ 1
one n h = ap length (digits_small n h)

one_more_lem : (n : ℕ) (h : 10 ≤ n) → length (digits n) ≡ length (digits (n / 10)) + 1
one_more_lem n h = ap length (digits_more n h) ∙ length-append (digits (n / 10)) ((48 + n % 10) ∷ [])

pub bounds-out-at : goal.bounds-out-at
bounds-out-at t c = omega (arith, one c.args.n c.if-n-lt10.true)

pub returns-then-n-lt10 : goal.returns-then-n-lt10
returns-then-n-lt10 t c =
    wrote_tight
    (wrote_is
    (one_byte c.args.out.now c.args.at (48 + c.args.n) (omega (arith, one c.args.n c.if-n-lt10.true)))
    (sym (digits_small c.args.n c.if-n-lt10.true)))

pub put_digits-next-requires : goal.put_digits-next-requires
put_digits-next-requires t c =
    let n = c.args.n in
    (subst (λ (m : ℕ). n / 10 < m) c.decreases (tenth n c.if-n-lt10.false), omega (arith, one_more_lem n c.if-n-lt10.false))

-- there is room for the last digit
room : (t : ℕ) (c : After-put_digits-next t) → c.put_digits-next.result < length c.put_digits-next.new.out
room t c =
    let call = c.put_digits-next in
    omega (arith, call.ensures.place, call.auto.out, c.requires, one_more_lem c.args.n c.if-n-lt10.false)

pub bounds-out-next : goal.bounds-out-next
bounds-out-next t c = room t (goal.at.bounds-out-next t c).After-put_digits-next

pub overflow_add-result-2 : goal.overflow_add-result-2
overflow_add-result-2 t c = omega (arith, room t (goal.at.overflow_add-result-2 t c).After-put_digits-next)

pub returns : goal.returns
returns t c =
    let n = c.args.n in
    let call = c.put_digits-next in
    wrote_tight
    (wrote_is
    (wrote_byte (48 + n % 10) call.ensures (room t (goal.at.returns t c).After-put_digits-next) (omega arith))
    (sym (digits_more n c.if-n-lt10.false)))
