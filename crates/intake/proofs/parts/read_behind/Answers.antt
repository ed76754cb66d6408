-- `intake::parts::read_behind` meets its contract: what is read stands in the buffer and belongs to the record.
use mathlib.Core.List.{List}
use mathlib.Core.Path.{◌≡◌, ap, subst, subst⁻¹}
use Prim.Native.Nat.{ℕ, ◌+◌, ◌-◌, ◌≤◌}
use native.Mathlib.Omega.{arith}
use borrow.Rule.Slice.PartMut.{put_mid, take_put}
use lib.ListN.{length, take, drop, length-take, length-drop}
use Rattle.edges.specs.Answers.{Within}
use Rattle.intake.specs.Turns.{Round, Goes, Led}
use Rattle.intake.proofs.Coming.{within_more, goes_by, stood_by}
use Rattle.intake.proofs.parts.read_behind.Goals as goal
use Rattle.intake.proofs.parts.read_behind.Goals.{After-fill-got}

pub fill-got-requires : goal.fill-got-requires
fill-got-requires c =
    let s = c in
    let n = c.at_most.result in
    let size : s.args.held + n - s.args.held ≡ n = omega arith in
    omega (arith, size, c.at_most.ensures, s.requires, length-take (s.args.held + n - s.args.held) (drop s.args.held s.args.buffer.now), length-drop s.args.held s.args.buffer.now)

-- the buffer when its part has come back: what was held stands where it stood
abbrev filled : After-fill-got → List ℕ
filled f =
    let s = f in
    let n = f.at_most.result in
    put_mid s.args.held (s.args.held + n - s.args.held) s.args.buffer.now f.fill-got.new.part

still_held : (f : After-fill-got) → (let s = f in take s.args.held (filled f) ≡ take s.args.held s.args.buffer.now)
still_held f =
    let s = f in
    let n = f.at_most.result in
    take_put s.args.held (s.args.held + n - s.args.held) s.args.buffer.now f.fill-got.new.part (omega (arith, s.requires))

-- what was read stands within the buffer, and within the record
space : (f : After-fill-got) → length (filled f) ≡ length f.args.buffer.now
    → (f.args.held ≤ length (filled f)) × Within (length (filled f) - f.args.held) f.fill-got.result × Within f.args.left f.fill-got.result
space f same =
    let n = f.at_most.result in
    let size : f.args.held + n - f.args.held ≡ n = omega arith in
    let few = length-take (f.args.held + n - f.args.held) (drop f.args.held f.args.buffer.now) in
    let most = f.at_most.ensures in
    let w = f.fill-got.ensures.within in (
      omega (arith, same, f.requires),
      within_more _ _ f.fill-got.result (omega (arith, size, few, same, most, f.requires)) w,
      within_more _ _ f.fill-got.result (omega (arith, size, few, most)) w,
    )

pub turn_by-requires : goal.turn_by-requires
turn_by-requires c =
    let came = c in
    let w = space (goal.at.turn_by-requires c).After-fill-got c.buffer-1.given.1 in
    (w.0, w.1, w.2, came.requires.3)

pub returns : goal.returns
returns c =
    let turned = c in
    let came = turned in
    let f = came in
    let s = f in
    let w = space (goal.at.returns c).After-fill-got c.buffer-1.given.1 in
    let e = turned.turn_by.ensures in record {
      goes = subst (λ (n : ℕ). Goes s.args.held s.args.left n turned.turn_by.result) came.buffer-1.given.1
          (subst⁻¹ (Goes s.args.held s.args.left (length (filled (goal.at.returns c).After-fill-got))) (ap (λ (p : Round). p.turn) e) (goes_by f.fill-got.result _ s.args.held s.args.left (filled (goal.at.returns c).After-fill-got) s.requires.0 w.0 w.1 w.2));
      leads = λ x₀ most stood. subst⁻¹ (Led stood) e (stood_by x₀ most _ _ _ _ _ _ _ stood (filled (goal.at.returns c).After-fill-got) (still_held (goal.at.returns c).After-fill-got) f.fill-got.result w.0 w.1 w.2);
    }
