-- Before the first sample a run stands where it stands by any other method.
-- Assumes nothing.
use mathlib.Core.List.{List}
use mathlib.Core.Path.{◌≡◌, refl, sym, ap, ◌∙◌}
use Prim.Native.Nat.{ℕ}
use native.Mathlib.Omega.{arith}
use Rattle.rules.specs.declared.Method.{Method}
use Rattle.rules.specs.declared.Method.TheVariants.{Regular as by_cycles, Shortened as with_stretches}
use Rattle.rules.specs.Shortened.{ride, row_of, phase_of}
use Rattle.rules.specs.Plan.{layout_of}
use Rattle.laws.specs.Beside.{stand_of, place_of}
use Rattle.laws.proofs.Shortened.{stand_early}
use Rattle.laws.proofs.Sound.{Sound, real}
use Rattle.window.specs.Moving.{window_of}
use Rattle.state.specs.declared.Progress.{Progress}
use Rattle.step.specs.Step.{open_row, open_phase}
use Rattle.step.specs.Where.{until_at, standing}

first_stand : (b : List ℕ) → Sound b → (y : Method) → stand_of b y 0 ≡ ride 0
first_stand b o by_cycles = refl
first_stand b o (with_stretches x) = stand_early b x.length 0 (omega (arith, real o))

pub fresh_standing : (b : List ℕ) → Sound b → (w : ℕ) (y y' : Method) (p : Progress) → p.counted ≡ 0 → standing b w y p ≡ standing b w y' p
fresh_standing b o w y y' p e =
    let at : stand_of b y p.counted ≡ stand_of b y' p.counted = ap (stand_of b y) e ∙ first_stand b o y ∙ sym (first_stand b o y') ∙ ap (stand_of b y') (sym e) in
    let row : open_row (layout_of b y) p.counted ≡ open_row (layout_of b y') p.counted = ap (open_row (layout_of b y)) e ∙ ap (open_row (layout_of b y')) (sym e) in
    let phase : open_phase (layout_of b y) p.counted ≡ open_phase (layout_of b y') p.counted = ap (open_phase (layout_of b y)) e ∙ ap (open_phase (layout_of b y')) (sym e) in
    λ i. record {
      progress = p;
      row = row_of b (at i);
      phase = phase_of b (at i);
      window = window_of b w (place_of b (at i));
      open_row = row i;
      open_phase = phase i;
      position = place_of b (at i);
      until = until_at b w (place_of b (at i));
    }
