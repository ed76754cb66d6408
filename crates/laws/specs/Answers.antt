-- 'Numbered answers': what an answer says, whatever enum of the code it is. Beside each enum a definition says it of its cases; the promises use it.
-- Assumes nothing.
use Rattle.std.specs.Prelude.{ℕ, Some, None, Result, Ok, Err}
use Rattle.rules.specs.Words.{settled}
use Rattle.rules.specs.Numbered.{number}
use Rattle.rules.specs.declared.Refusal.{Refusal}
use Rattle.rules.specs.Closing.{Figure, ClosingAnswer}
use Rattle.rules.specs.declared.Closing.{Closing}
use Rattle.rules.specs.Machine.{End, waiting, broken, stopped}

-- what is given, or "A refusal returns its number and no figure"
pub data Said (A : Type 0) : Type 0 where
  gives : A → Said A
  refuses : ℕ → Said A

-- its number, 0 where nothing is refused
abbrev pub number_of : {A : Type 0} → Said A → ℕ
number_of (gives x) = 0
number_of (refuses n) = n

-- by the number of a refusal, 0 where there is none: the refusal, or what is said else
abbrev pub or_refused : {A : Type 0} → ℕ → Said A → Said A
or_refused n x = settled n x (refuses n)

-- what an answer of the code says, and the number of its refusal, 0 where it is none
abbrev pub answer_said : {A : Type 0} → Result A Refusal → Said A
answer_said (Ok x) = gives x
answer_said (Err e) = refuses (number e)

abbrev pub refused_by : {A : Type 0} → Result A Refusal → ℕ
refused_by (Ok x) = 0
refused_by (Err e) = number e

-- the recharge figure (of `rules::Closing`), or "absent"
pub data Measure : Type 0 where
  is : ℕ → Measure
  absent : Measure

abbrev pub figure_said : Figure → Said Measure
figure_said (Ok (Some x)) = gives (is x)
figure_said (Ok None) = gives absent
figure_said (Err n) = refuses n

-- the closing (of `rules::Figures`): weighted consumption and range with the recharge figure, or a refusal in place of all
pub record Figured : Type 0 where
  pub weighted : ℕ
  pub range : ℕ
  pub recharge : Said Measure

abbrev pub figured_said : Closing → Figured
figured_said x = record { weighted = x.weighted; range = x.range; recharge = figure_said x.recharge }

abbrev pub closing_said : ClosingAnswer → Said Figured
closing_said (Ok x) = gives (figured_said x)
closing_said (Err n) = refuses n

-- where no field more is accepted: what is given where more bytes may go on; no field begins so, which is 8; or a whole field is refused
abbrev pub end_said : {A : Type 0} → A → End → Said A
end_said x waiting = gives x
end_said x broken = refuses 8
end_said x (stopped n) = refuses n
