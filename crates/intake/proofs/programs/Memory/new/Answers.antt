-- `intake::programs::Memory::new` meets its contract: the constants' arrays are long, and hold one value.
use Rattle.std.proofs.Common.{◌≡◌, ℕ, pos}
use mathlib.Core.Path.{refl}
use lib.IntN.{ℤ}
use Rattle.std.proofs.lemmas.List.Elements.{All-replicate}
use Rattle.intake.proofs.programs.Memory.new.Goals as goal

pub returns-clause-buffer : goal.returns-clause-buffer
returns-clause-buffer g c = All-replicate (λ (x : ℕ). x ≡ 0) 4864 0 refl

pub returns-clause-room : goal.returns-clause-room
returns-clause-room g c = All-replicate (λ (x : ℕ). x ≡ 0) 4811 0 refl

pub returns-clause-ledger : goal.returns-clause-ledger
returns-clause-ledger g c = All-replicate (λ (x : ℤ). x ≡ pos 0) 576 (pos 0) refl

pub returns-clause-map : goal.returns-clause-map
returns-clause-map g c = All-replicate (λ (x : ℕ). x ≡ 0) 750 0 refl
