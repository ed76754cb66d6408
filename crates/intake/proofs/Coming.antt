-- The bytes of a record as they come: what a turn leaves stands as the bytes that came say.
-- Assumes nothing.
use mathlib.Core.Bool.{Bool, true, false, cond, false≢true}
use mathlib.Core.List.{List, [], ◌++◌, append_assoc, append-nil}
use mathlib.Core.Path.{◌≡◌, refl, sym, ap, subst, subst⁻¹, ◌∙◌}
use Prim.Native.Nat.{ℕ, zero, suc, ◌+◌, ◌-◌, ◌≤◌, ◌<◌, zero-le}
use native.Mathlib.Nat.{zero-add}
use native.Mathlib.Omega.{arith}
use lib.Dec.{eqb}
use lib.IntN.{ℤ}
use lib.ListN.{length, take, drop, length-append, length-drop}
use lib.Seq.{paste, take-add, take-paste, take_at, length-take-le, drop_at}
use Rattle.rules.specs.Table.{tags}
use Rattle.rules.specs.Machine.{Ran}
use Rattle.laws.proofs.Cuts.{used_most}
use Rattle.laws.proofs.Prefixes.{no_bytes, accepted_alone}
use Rattle.records.specs.Stage.{Stage, take_on, run_on}
use Rattle.laws.specs.Answers.{Said, gives, refuses}
use Rattle.std.specs.declared.io.Error.{Error}
use Rattle.std.specs.Prelude.{Result, Ok, Err}
use Rattle.edges.specs.Answers.{Within}
use Rattle.desk.specs.declared.Desk.{Desk}
use Rattle.desk.specs.Feeding.{wanted, Laid, Consumed, laid_of, empty_desk, stage_on, fed_by, stops, desk_ground, feed_of, longest}
use Rattle.intake.specs.declared.Turn.{Turn}
use Rattle.intake.specs.declared.Turned.{Turned}
use Rattle.intake.specs.declared.Turned.TheVariants.{On, Ended, Failed, Refused}
use Rattle.intake.specs.Turns.{turned_by, is_on, Goes, Came, none, part, turned_said, Round, round_of, round_after, round_fed, round_by, going_on, Stood, WholeFields, Led}
use Rattle.desk.proofs.LeftOver.{feed_used, feed_short}

-- what the desk takes is whole fields; no bytes are
pub no_fields : (x : Laid) → WholeFields []
no_fields x = record { from = stage_on x; used = ap (λ (y : Ran Stage). y.used) (no_bytes tags take_on (stage_on x)) }

pub whole_taken_lem : (x : Laid) (i : List ℕ) → WholeFields (take (feed_of x i).used i)
unfolding feed_of
whole_taken_lem x i = go (eqb (desk_ground x) 0)
  where
    go : (b : Bool) → WholeFields (take (cond b (fed_by x (run_on (stage_on x) i)) (stops x (refuses (desk_ground x)))).used i)
    go true =
        let u = (run_on (stage_on x) i).used in
        record { from = stage_on x; used = ap (λ (y : Ran Stage). y.used) (accepted_alone tags take_on (stage_on x) i) ∙ sym (length-take-le u i (used_most tags take_on (stage_on x) i)) }
    go false = no_fields x

-- a turn that fed the desk says what the desk did
outcome_of : (o : Said (Unit {0})) → o ≡ turned_said (turned_by o)
outcome_of (gives _) = refl
outcome_of (refuses k) = refl

-- the bytes before place k, from place u on
between_places : (u k : ℕ) (b : List ℕ) → u ≤ k → k ≤ length b → drop u (take k b) ≡ take (k - u) (drop u b)
between_places u k b h g =
    let n = k - u in
    let split : u + n ≡ k = omega arith in
    ap (λ (j : ℕ). drop u (take j b)) (sym split)
    ∙ ap (drop u) (take-add u n b)
    ∙ drop_at (take u b) (take n (drop u b)) u (length-take-le u b (omega arith))

-- what was not taken of the first k bytes stands at the front
to_the_front : (u k : ℕ) (b : List ℕ) → u ≤ k → k ≤ length b → drop u (take k b) ≡ take (k - u) (paste b 0 (drop u b) (k - u))
to_the_front u k b h g =
    between_places u k b h g
    ∙ sym (take-paste b 0 (drop u b) (k - u) zero-le (omega (arith, length-drop u b)))
    ∙ ap (λ (j : ℕ). take j (paste b 0 (drop u b) (k - u))) (zero-add (k - u))

-- what is within m bytes is within more
pub within_more : (m n : ℕ) (g : Result ℕ Error) → m ≤ n → Within m g → Within n g
within_more m n (Ok k) h w = omega arith
within_more m n (Err e) h w = tt

-- a reading that gave bytes
pub some_came : (n : ℕ) → 1 ≤ n → (x : Laid) (held left : ℕ) (b : List ℕ) → round_fed x (held + n) (left - n) b ≡ round_by (Ok n) x held left b
some_came zero h x held left b = absurd (omega arith)
some_came (suc n) h x held left b = refl

-- what is taken and held after a turn stands in the buffer, and a turn that goes on leaves fewer bytes to read
pub goes_by : (g : Result ℕ Error) (x : Laid) (held left : ℕ) (b : List ℕ) → held < longest → held ≤ length b → Within (length b - held) g → Within left g
    → Goes held left (length b) (round_by g x held left b).turn
goes_by (Ok (suc k)) x held left b short h space rest =
    let i = take (held + n) b in
    let size = length-take-le (held + n) b (omega (arith, space)) in
    record {
      within = omega (arith, feed_used x i, size, space);
      none_lost = omega (arith, feed_used x i, size, rest);
      short = held_by (feed_of x i).outcome (λ e. omega (arith, feed_short x i e, size));
      falls = λ _. omega (arith, rest);
    }
  where
    n : ℕ
    n = suc k

    held_by : (o : Said (Unit {0})) → (o ≡ wanted → held + n < (feed_of x (take (held + n) b)).used + longest) → is_on (turned_by o) ≡ true → held + n - (feed_of x (take (held + n) b)).used < longest
    held_by (gives _) e f = let g = e refl in omega arith
    held_by (refuses k) e f = absurd (false≢true f)
goes_by (Ok zero) x held left b short h space rest = record { within = omega arith; none_lost = omega arith; short = λ e. absurd (false≢true e); falls = λ e. absurd (false≢true e) }
goes_by (Err e) x held left b short h space rest = record { within = omega arith; none_lost = omega arith; short = λ e. absurd (false≢true e); falls = λ e. absurd (false≢true e) }

-- before the first turn nothing came
pub nothing_yet : (most : ℕ) (desk : Desk) (b room : List ℕ) (l : List ℤ) (m : List ℕ) → desk ≡ empty_desk
    → Stood (laid_of empty_desk room l m) most (round_of (going_on desk 0 0 most) b room l m)
nothing_yet most desk b room l m e = record {
  bytes = [];
  done = [];
  rest = [];
  whole = refl;
  came = subst⁻¹ (λ (d : Desk). Came (laid_of empty_desk room l m) [] (laid_of d room l m) [] wanted) e none;
  held = (refl, refl);
  all = zero-add most;
}

pub nothing_done : (most : ℕ) (desk : Desk) (b room : List ℕ) (l : List ℤ) (m : List ℕ) (e : desk ≡ empty_desk) → (nothing_yet most desk b room l m e).done ≡ []
unfolding nothing_yet
nothing_done most desk b room l m e = refl

pub is_on_lem : (t : Turned) → is_on t ≡ true → t ≡ On
is_on_lem On e = refl
is_on_lem Ended e = absurd (false≢true e)
is_on_lem Failed e = absurd (false≢true e)
is_on_lem (Refused k) e = absurd (false≢true e)

-- where another turn follows, it begins where the one before stood
pub on_again : (x₀ : Laid) (most : ℕ) (t : Turn) (b room : List ℕ) (l : List ℤ) (m : List ℕ) → is_on t.turned ≡ true
    → Stood x₀ most (round_of t b room l m) → Stood x₀ most (round_of (going_on t.desk t.used t.held t.left) b room l m)
on_again x₀ most t b room l m e s =
    subst (λ (z : Turned). Stood x₀ most (round_of (record { turned = z; desk = t.desk; used = t.used; held = t.held; left = t.left }) b room l m)) (is_on_lem t.turned e) s

-- the bytes held move to the front
module _ {x₀ : Laid} {most : ℕ} {desk : Desk} {used held left : ℕ} {b room : List ℕ} {l : List ℤ} {m : List ℕ} (s : Stood x₀ most (round_of (going_on desk used held left) b room l m))
    (fits : used + held ≤ length b) where
  pub moved_up : {n : ℕ} {b' : List ℕ} → n ≡ used + held - used → b' ≡ paste b 0 (drop used b) (used + held - used) → Stood x₀ most (round_of (going_on desk 0 n left) b' room l m)
  moved_up {n} {b'} p q =
      let size : used + held - used ≡ held = omega arith in
      let n-is : held ≡ n = omega (arith, p, size) in
      record {
        bytes = s.bytes;
        done = s.done;
        rest = s.rest;
        came = s.came;
        whole = s.whole;
        held = (
          s.held.0
              ∙ ap (λ (k : ℕ). take k (drop used b)) (sym size)
              ∙ sym (between_places used (used + held) b (omega arith) fits)
              ∙ to_the_front used (used + held) b (omega arith) fits
              ∙ (λ i. take (sym p i) (sym q i)),
          s.held.1 ∙ n-is,
        );
        all = s.all;
      }

  -- what leads on from there leads on from here
  pub led_from : {n : ℕ} {b' : List ℕ} (p : n ≡ used + held - used) (q : b' ≡ paste b 0 (drop used b) (used + held - used)) {r : Round} → Led (moved_up p q) r → Led s r
  unfolding moved_up
  led_from p q led = record { stood = led.stood; more = led.more; fields = led.fields }

module _ (x₀ : Laid) (most : ℕ) (desk : Desk) (held left : ℕ) (b₀ room : List ℕ) (l : List ℤ) (m : List ℕ) (s : Stood x₀ most (round_of (going_on desk 0 held left) b₀ room l m))
    (b : List ℕ) (same : take held b ≡ take held b₀) where
  rest_is : s.rest ≡ take held b
  rest_is = s.held.0 ∙ sym same

  -- nothing came
  nothing_came : (t : Turned) → turned_said t ≡ wanted → Led s (round_of (record { turned = t; desk = desk; used = 0; held = held; left = left }) b room l m)
  nothing_came t e = record {
    stood = record {
      bytes = s.bytes;
      done = s.done;
      rest = s.rest;
      came = subst (Came x₀ s.bytes (laid_of desk room l m) s.rest) (sym e) s.came;
      whole = s.whole;
      held = (rest_is, s.held.1);
      all = s.all;
    };
    more = sym (append-nil s.done);
    fields = no_fields (laid_of desk room l m);
  }

  -- n bytes came, behind those held, and went to the desk with them
  module _ (n : ℕ) (fits : held + n ≤ length b) (few : n ≤ left) where
    abbrev fed : Consumed
    fed = feed_of (laid_of desk room l m) (take (held + n) b)

    came_new : List ℕ
    came_new = take n (drop held b)

    input_is : s.rest ++ came_new ≡ take (held + n) b
    unfolding came_new
    input_is = ap (λ (q : List ℕ). q ++ came_new) rest_is ∙ sym (take-add held n b)

    size_new : length came_new ≡ n
    unfolding came_new
    size_new = length-take-le n (drop held b) (omega (arith, length-drop held b))

    used_within : fed.used ≤ held + n
    used_within = omega (arith, feed_used (laid_of desk room l m) (take (held + n) b), length-take-le (held + n) b fits)

    -- the bytes that it took, and those that it left
    abbrev left_over : List ℕ
    left_over = drop fed.used (take (held + n) b)

    left_is : left_over ≡ take (held + n - fed.used) (drop fed.used b)
    left_is = between_places fed.used (held + n) b used_within fits

    in_two : take (held + n) b ≡ take fed.used b ++ left_over
    in_two =
        let split : held + n ≡ fed.used + (held + n - fed.used) = omega (arith, used_within) in
        ap (λ (k : ℕ). take k b) split ∙ take-add fed.used (held + n - fed.used) b ∙ ap (λ (q : List ℕ). take fed.used b ++ q) (sym left_is)

    taken_is : take fed.used (take (held + n) b) ≡ take fed.used b
    taken_is = ap (take fed.used) in_two ∙ take_at (take fed.used b) left_over fed.used (length-take-le fed.used b (omega (arith, used_within)))

    digested : Led s (round_after fed (held + n) (left - n) b)
    digested = record {
      stood = record {
        bytes = s.bytes ++ came_new;
        done = s.done ++ take fed.used b;
        rest = left_over;
        came = subst (Came x₀ (s.bytes ++ came_new) fed.laid left_over) (outcome_of fed.outcome)
            (subst (λ (i : List ℕ). (let y = feed_of (laid_of desk room l m) i in Came x₀ (s.bytes ++ came_new) y.laid (drop y.used i) y.outcome)) input_is (part s.came came_new));
        whole =
            ap (λ (q : List ℕ). q ++ came_new) s.whole
            ∙ append_assoc s.done s.rest came_new
            ∙ ap (λ (q : List ℕ). s.done ++ q) (input_is ∙ in_two)
            ∙ sym (append_assoc s.done (take fed.used b) left_over);
        held = (left_is, omega (arith, length-drop fed.used (take (held + n) b), length-take-le (held + n) b fits));
        all = omega (arith, length-append s.bytes came_new, size_new, s.all);
      };
      more = refl;
      fields = subst WholeFields taken_is (whole_taken_lem (laid_of desk room l m) (take (held + n) b));
    }

  -- so whatever a reading gave, the record stands where it leads
  pub stood_by : (g : Result ℕ Error) → held ≤ length b → Within (length b - held) g → Within left g → Led s (round_by g (laid_of desk room l m) held left b)
  stood_by (Ok zero) h space rest = nothing_came Ended refl
  stood_by (Ok (suc k)) h space rest = digested (suc k) (omega (arith, space)) rest
  stood_by (Err e) h space rest = nothing_came Failed refl

-- no more is to be read of the record
pub all_came : (x₀ : Laid) (most : ℕ) (desk : Desk) (used held left : ℕ) (b room : List ℕ) (l : List ℤ) (m : List ℕ)
    → Stood x₀ most (round_of (going_on desk used held left) b room l m) → Stood x₀ most (round_of (record { turned = Ended; desk = desk; used = used; held = held; left = left }) b room l m)
all_came x₀ most desk used held left b room l m s = record {
  bytes = s.bytes;
  done = s.done;
  rest = s.rest;
  came = s.came;
  whole = s.whole;
  held = s.held;
  all = s.all;
}
