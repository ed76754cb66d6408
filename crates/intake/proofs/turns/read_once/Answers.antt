-- `intake::turns::read_once` meets its contract: what is held moves to the front, where it stands as it stood.
use mathlib.Core.Path.{◌≡◌, subst}
use native.Mathlib.Omega.{arith}
use lib.ListN.{length}
use Prim.Native.Nat.{ℕ}
use Rattle.intake.specs.Turns.{Goes}
use Rattle.intake.proofs.Coming.{moved_up, led_from}
use Rattle.intake.proofs.turns.read_once.Goals as goal

pub returns : goal.returns
returns c =
    let behind = c in
    let front = behind in
    let s = front in
    let kept : front.to_front-kept.result ≡ s.args.turn.held = omega (arith, front.to_front-kept.ensures.value) in
    let same : length front.to_front-kept.new.buffer ≡ length s.args.buffer.now = front.to_front-kept.auto.buffer in record {
      goes = subst (λ (n : ℕ). Goes n s.args.turn.left (length s.args.buffer.now) behind.read_behind.result) kept
          (subst (λ (n : ℕ). Goes front.to_front-kept.result s.args.turn.left n behind.read_behind.result) same behind.read_behind.ensures.goes);
      leads = λ x₀ most stood. led_from stood s.requires.1 front.to_front-kept.ensures.value front.to_front-kept.ensures.buffer_after (behind.read_behind.ensures.leads x₀ most (moved_up stood s.requires.1 front.to_front-kept.ensures.value front.to_front-kept.ensures.buffer_after));
    }
