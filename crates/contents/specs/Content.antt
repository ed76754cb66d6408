-- What a field after the start brings, as `content_of` answers it.
-- Assumes nothing.
use Rattle.std.specs.Prelude.{List, [], ℕ, ◌+◌, Option, Some, None, Result, Ok, Err}
use Rattle.rules.specs.Numbered.{number}
use Rattle.rules.specs.declared.Refusal.{Refusal}
use Rattle.rules.specs.Table.{behind_tolerances}
use Rattle.rules.specs.Front.{Field}
use Rattle.rules.specs.Values.{samples_of, moments_in}
use Rattle.rules.specs.Record.{Bring as Brings, the_stretches, own_samples, before, after, charged}
use Rattle.rules.specs.Record.{Content as Comes, brought, foreign, wrong, content_of, field_content}
pub use Rattle.contents.specs.declared.Bring.{Bring}
use Rattle.contents.specs.declared.Bring.TheVariants.{Stretch, Samples, Before, After, Recharge}

-- what each case says of a field with the value v: what it brings, another vehicle's, or the number of a refusal
abbrev pub bring_said : List ℕ → Bring → Brings
bring_said v (Stretch x) = the_stretches x
bring_said v Samples = own_samples (moments_in (samples_of v))
bring_said v (Before e) = before e
bring_said v (After e) = after e
bring_said v (Recharge w) = charged w

abbrev pub content_said : List ℕ → Result (Option Bring) Refusal → Comes
content_said v (Ok (Some b)) = brought (bring_said v b)
content_said v (Ok None) = foreign
content_said v (Err e) = wrong (number e)

-- a field after the start, at a place counted from it: the cycle is asked by no field then
abbrev pub later_content : List ℕ → ℕ → ℕ → ℕ → Field → Comes
later_content me place passed offered f = field_content (behind_tolerances + place) (content_of passed me [] offered) f
