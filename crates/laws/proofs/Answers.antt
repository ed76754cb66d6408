-- What an answer says: by the number of its refusal, and of a closing.
-- Assumes nothing.
use mathlib.Core.Bool.{Bool, true, false, cond, false≢true}
use mathlib.Core.Path.{◌≡◌, refl, sym, ap, ◌∙◌}
use Prim.Native.Nat.{ℕ}
use lib.Dec.{eqb}
use borrow.Author.Tests.{eqb-true, eqb-false}
use native.Mathlib.Omega.{arith}
use Rattle.rules.specs.Words.{settled}
use Rattle.rules.specs.Closing.{Figure, ClosingAnswer}
use Rattle.rules.specs.declared.Closing.{Closing}
use Rattle.rules.specs.Machine.{End, waiting, broken, stopped}
use Rattle.std.specs.Prelude.{Some, None, Result, Ok, Err, [], ◌∷◌, get_or}
use Rattle.rules.specs.Numbered.{number}
use Rattle.rules.specs.declared.Refusal.{Refusal}
use Rattle.rules.specs.declared.Refusal.TheVariants as why
use Rattle.laws.specs.Answers.{Said, gives, refuses, number_of, or_refused, answer_said, refused_by, Measure, is, absent, figure_said, Figured, figured_said, closing_said, end_said}

-- what is said, by the number of a refusal
module _ {A : Type 0} (n : ℕ) (x : Said A) where
  -- it is not refused, or refused so
  pub was_given : (y : A) → or_refused n x ≡ gives y → (n ≡ 0) × (x ≡ gives y)
  was_given y e = go (eqb n 0) refl e
    where
      go : (t : Bool) → eqb n 0 ≡ t → cond t x (refuses n) ≡ gives y → (n ≡ 0) × (x ≡ gives y)
      go true p f = (eqb-true n 0 p, f)
      go false p f = absurd (false≢true cc)

  pub was_refused : (k : ℕ) → or_refused n x ≡ refuses k → (x ≡ refuses k → ⊥) → (n ≡ k) × (n ≡ 0 → ⊥)
  was_refused k e other = go (eqb n 0) refl e
    where
      go : (t : Bool) → eqb n 0 ≡ t → cond t x (refuses n) ≡ refuses k → (n ≡ k) × (n ≡ 0 → ⊥)
      go true p f = absurd (other f)
      go false p f = (cc, eqb-false n 0 p)

  -- its number
  pub number_said : number_of x ≡ 0 → number_of (or_refused n x) ≡ n
  number_said z = go (eqb n 0) refl
    where
      go : (t : Bool) → eqb n 0 ≡ t → number_of (cond t x (refuses n)) ≡ n
      go true p = let q = eqb-true n 0 p in cc
      go false p = refl

-- what is given is no refusal, and is what it is
pub given_refused : {A : Type 0} {x : A} {n : ℕ} → gives x ≡ refuses n → ⊥
given_refused e = false≢true cc

pub given_is : {A : Type 0} {x y : A} → gives x ≡ gives y → x ≡ y
given_is e = cc

-- more bytes may go on only where nothing is refused
pub only_waiting : {A : Type 0} (x : A) (e : End) {y : A} → end_said x e ≡ gives y → e ≡ waiting
only_waiting x waiting q = refl
only_waiting x broken q = absurd (given_refused (sym q))
only_waiting x (stopped n) q = absurd (given_refused (sym q))

-- a figure and a closing by the number of their refusal say so
pub figure_or : (n : ℕ) (f : Figure) → figure_said (settled n f (Err n)) ≡ or_refused n (figure_said f)
figure_or n f = go (eqb n 0)
  where
    go : (t : Bool) → figure_said (cond t f (Err n)) ≡ cond t (figure_said f) (refuses n)
    go true = refl
    go false = refl

pub closing_or : (n : ℕ) (x : Closing) → closing_said (settled n (Ok x) (Err n)) ≡ or_refused n (gives (figured_said x))
closing_or n x = go (eqb n 0)
  where
    go : (t : Bool) → closing_said (cond t (Ok x) (Err n)) ≡ cond t (gives (figured_said x)) (refuses n)
    go true = refl
    go false = refl

-- ---- answers that say the same are the same: each is known by what it says

pub known_by : {A B : Type 0} (said : A → B) (back : B → A) → ((x : A) → back (said x) ≡ x) → (x y : A) → said x ≡ said y → x ≡ y
known_by said back h x y e = sym (h x) ∙ ap back e ∙ h y

same_figure : (x y : Figure) → figure_said x ≡ figure_said y → x ≡ y
same_figure = known_by figure_said back known
  where
    back : Said Measure → Figure
    back (gives (is n)) = Ok (Some n)
    back (gives absent) = Ok None
    back (refuses n) = Err n

    known : (x : Figure) → back (figure_said x) ≡ x
    known (Ok (Some n)) = refl
    known (Ok None) = refl
    known (Err n) = refl

pub same_figured : (x y : Closing) → figured_said x ≡ figured_said y → x ≡ y
same_figured x y e =
    let recharge = same_figure x.recharge y.recharge (ap (λ (z : Figured). z.recharge) e) in
    λ i. record { weighted = (e i).weighted; range = (e i).range; recharge = recharge i }

pub same_closing : (x y : ClosingAnswer) → closing_said x ≡ closing_said y → x ≡ y
same_closing (Ok x) (Ok y) e = ap Ok (same_figured x y (given_is e))
same_closing (Ok x) (Err n) e = absurd (given_refused e)
same_closing (Err n) (Ok y) e = absurd (given_refused (sym e))
same_closing (Err n) (Err k) e = let same : n ≡ k = cc e in ap Err same

-- ---- refusals by their numbers

-- none has the number 0, and no two have one
pub numbered : (e : Refusal) → number e ≡ 0 → ⊥
numbered why.Ground p = omega (arith, p)
numbered why.Cycle p = omega (arith, p)
numbered why.Tolerance p = omega (arith, p)
numbered why.Vehicle p = omega (arith, p)
numbered why.Sample p = omega (arith, p)
numbered why.FirstNumber p = omega (arith, p)
numbered why.Full p = omega (arith, p)
numbered why.Field p = omega (arith, p)
numbered why.Order p = omega (arith, p)
numbered why.FewCycles p = omega (arith, p)
numbered why.Energy p = omega (arith, p)
numbered why.Rate p = omega (arith, p)
numbered why.Range p = omega (arith, p)
numbered why.Amount p = omega (arith, p)
numbered why.Unfinished p = omega (arith, p)
numbered why.Stretches p = omega (arith, p)

pub refusal_of : ℕ → Refusal
refusal_of n = get_or (why.Ground ∷ why.Ground ∷ why.Cycle ∷ why.Tolerance ∷ why.Vehicle ∷ why.Sample ∷ why.FirstNumber ∷ why.Full ∷ why.Field ∷ why.Order ∷ why.FewCycles ∷ why.Energy ∷ why.Rate ∷ why.Range ∷ why.Amount ∷ why.Unfinished ∷ why.Ground ∷ why.Ground ∷ why.Ground ∷ why.Stretches ∷ []) n why.Ground

pub of_number : (e : Refusal) → refusal_of (number e) ≡ e
unfolding refusal_of
of_number why.Ground = refl
of_number why.Cycle = refl
of_number why.Tolerance = refl
of_number why.Vehicle = refl
of_number why.Sample = refl
of_number why.FirstNumber = refl
of_number why.Full = refl
of_number why.Field = refl
of_number why.Order = refl
of_number why.FewCycles = refl
of_number why.Energy = refl
of_number why.Rate = refl
of_number why.Range = refl
of_number why.Amount = refl
of_number why.Unfinished = refl
of_number why.Stretches = refl

pub same_refusal : (x y : Refusal) → number x ≡ number y → x ≡ y
same_refusal = known_by number refusal_of of_number

pub same_answer : {A : Type 0} (x y : Result A Refusal) → answer_said x ≡ answer_said y → x ≡ y
same_answer (Ok x) (Ok y) e = ap Ok (given_is e)
same_answer (Ok x) (Err n) e = absurd (given_refused e)
same_answer (Err n) (Ok y) e = absurd (given_refused (sym e))
same_answer (Err n) (Err k) e = let same : number n ≡ number k = cc e in ap Err (same_refusal n k same)

-- what is answered, and what that is
pub ok_is : {A E : Type 0} {r : Result A E} {x y : A} → r ≡ Ok x → x ≡ y → r ≡ Ok y
ok_is p q = p ∙ ap Ok q

-- tests that refuse the same are the same
pub same_refused : (x y : Result (Unit {0}) Refusal) → refused_by x ≡ refused_by y → x ≡ y
same_refused (Ok x) (Ok y) e = refl
same_refused (Ok x) (Err k) e = absurd (numbered k (sym e))
same_refused (Err n) (Ok y) e = absurd (numbered n e)
same_refused (Err n) (Err k) e = ap Err (same_refusal n k e)
