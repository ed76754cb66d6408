-- Document 02, L11, from a record's bytes to the bytes printed: the weighted consumption and the range that a sheet shows lie near the range from unrounded
-- cycle consumptions. What near is, stands in laws/specs/Near.antt.
-- Assumes nothing.
use Rattle.std.specs.Prelude.{cond, List, [], ◌∷◌, ◌++◌, ◌≡◌, ℕ, zero, suc, eqb, Ok as Closed}
use Rattle.rules.specs.Words.{spell}
use Rattle.rules.specs.declared.Closing.{Closing}
use Rattle.rules.specs.Record.{Told, told, sheet_of}
use Rattle.rules.specs.Figures.{plan_told, figures_told}
use Rattle.rules.specs.Text.{digits, spaced}
use Rattle.laws.specs.Near.{NearRun}

-- ---- the lines of a text: 10 is the newline

unfoldable pub first_line : List ℕ → List ℕ
first_line [] = []
first_line (b ∷ t) = let r = first_line t in cond (eqb b 10) [] (b ∷ r)

unfoldable pub behind_line : List ℕ → List ℕ
behind_line [] = []
behind_line (b ∷ t) = let r = behind_line t in cond (eqb b 10) t r

-- behind so many lines
unfoldable pub behind_lines : ℕ → List ℕ → List ℕ
behind_lines zero t = t
behind_lines (suc k) t = behind_line (behind_lines k t)

-- the seventh line of the text t is `weighted W`, and the eighth `range R`
pub record Shows (t : List ℕ) (W R : ℕ) : Type 0 where
  pub weighted : first_line (behind_lines 6 t) ≡ spaced (spell "weighted") ++ digits W
  pub range : first_line (behind_lines 7 t) ≡ spaced (spell "range") ++ digits R

-- ---- the record w, of which the text t is printed

-- what it tells, with W and R near what is unrounded
pub record Near (w : List ℕ) (W R : ℕ) : Type 0 where
  pub x : Told
  pub tells : sheet_of w ≡ told x
  pub near_run : NearRun (plan_told x) x.holding.samples x.holding.amounts.before W R

pub record PrintsNear (w t : List ℕ) : Type 0 where
  -- the W and the R that are printed, whatever they are
  pub printed_near : (W R : ℕ) → Shows t W R → Near w W R
  -- and they are printed where the closing gives figures
  pub figures_printed : (x : Told) → sheet_of w ≡ told x → (y : Closing) → (figures_told x).closing ≡ Closed y → Shows t y.weighted y.range
