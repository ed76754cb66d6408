-- Where the input may end, and answers that say the same.
-- Assumes nothing.
use mathlib.Core.Bool.{Bool, true, false, false≢true}
use mathlib.Core.Path.{◌≡◌, refl, ap}
use Prim.Native.Nat.{ℕ}
use borrow.Author.Tests.{eqb-true}
use lib.Dec.{eqb}
use Rattle.rules.specs.Words.{unless}
use Rattle.laws.specs.Answers.{refuses}
use Rattle.reading.specs.declared.Reading.{Reading}
use Rattle.reading.specs.Answers.{ReadSaid, AllSaid}
use Rattle.reading.proofs.Answered.{same_step}
use Rattle.reader.specs.declared.AllAnswer.{AllAnswer}
use Rattle.reader.specs.declared.ReadAnswer.{ReadAnswer}
use Rattle.reader.specs.Answers.{read_said, all_said, may_end, ending_of}

-- only after the start, and where no byte is left over
pub only_whole : (s : Bool) (n : ℕ) → ending_of s n ≡ may_end → (s ≡ true) × (n ≡ 0)
unfolding ending_of unless
only_whole true n e = (refl, go (eqb n 0) refl e)
  where
    go : (t : Bool) → eqb n 0 ≡ t → unless (refuses 15) t may_end ≡ may_end → n ≡ 0
    go true p f = eqb-true n 0 p
    go false p f = absurd (false≢true cc)
only_whole false n e = absurd (false≢true cc)

-- ---- answers that say the same are the same

pub same_read : (x y : ReadAnswer) → read_said x ≡ read_said y → x ≡ y
same_read x y e =
    let step_is = same_step x.step y.step (ap (λ (z : ReadSaid Reading). z.says) e) in
    λ i. record { step = step_is i; reading = (e i).state }

pub same_all : (x y : AllAnswer) → all_said x ≡ all_said y → x ≡ y
same_all x y e =
    let last_is = same_step x.last y.last (ap (λ (z : AllSaid Reading). z.last) e) in
    λ i. record { reading = (e i).state; fields = (e i).fields; used = (e i).used; last = last_is i }
