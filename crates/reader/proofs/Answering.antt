-- `read` and `read_all` on a reading with its lent memory: what the tests before a field say, and what is answered after them.
-- Assumes nothing.
use mathlib.Core.Bool.{true}
use mathlib.Core.List.{List}
use mathlib.Core.Path.{◌≡◌, sym, ap, subst⁻¹, ◌∙◌}
use Prim.Native.Nat.{ℕ, ◌≤◌}
use native.Mathlib.Omega.{arith}
use lib.IntN.{ℤ}
use lib.ListN.{length}
use Rattle.numbers.proofs.Tests.{not_refused, settled_taken, settled_answer}
use Rattle.rules.specs.Bench.{most_time_tolerance}
use Rattle.rules.specs.Cycle.{valid}
use Rattle.rules.specs.declared.Tolerances.{Tolerances}
use Rattle.laws.specs.Answers.{refuses}
use Rattle.state.specs.State.{Left, left}
use Rattle.state.proofs.Checked.{Ground, ground_passed}
use Rattle.judge.proofs.Calls.{kept_ground}
use Rattle.reading.specs.declared.Along.{Along}
use Rattle.reading.specs.declared.Reading.{Reading}
use Rattle.reading.specs.Answers.{ReadSaid, AllSaid, is_reading, read_ground}
use Rattle.reading.proofs.Tested.{OwnLimits, own_limits}
use Rattle.rules.specs.Plan.{plan}
use Rattle.values.specs.Limits.{is_method}
use Rattle.reading.specs.Along.{along_at, with_along, front_taken, all_taken, Ready}
use Rattle.reader.specs.Answers.{read_left, all_left}

-- as the answer of a call, with the reading y, for one field and for all
abbrev as_read : Reading → Left (ReadSaid Along) → Left (ReadSaid Reading)
as_read y x = record { answer = record { says = x.answer.says; state = y }; memory = x.memory }

abbrev as_all : Reading → Left (AllSaid Along) → Left (AllSaid Reading)
as_all y x = record { answer = record { state = y; fields = x.answer.fields; used = x.answer.used; last = x.answer.last }; memory = x.memory }

module _ (r : Reading) (b : List ℕ) (l : List ℤ) (m : List ℕ) where
  abbrev t : Tolerances
  t = r.run.track.tolerances

  -- ---- the tests passed
  module _ (e : read_ground r b l m ≡ 0) where
    pub grounded : Ground r.run b l m
    unfolding read_ground
    grounded = ground_passed (not_refused 0 _ _ e).1

    own : OwnLimits r
    unfolding read_ground
    own = own_limits r (not_refused 0 (is_reading r) _ e).0

    pub along_asked : (valid b ≡ true) × (t.time ≤ most_time_tolerance) × (is_method r.run.track.method ≡ true)
    along_asked = (grounded.sound, grounded.limits.tolerated.time, grounded.limits.method)

    module _ {k : Along} (p : k ≡ along_at r b) where
      pub ready_at : length r.vehicle ≡ 17 → Ready r.vehicle (plan b t k.method) (left k l m)
      ready_at h =
          subst⁻¹ (λ (y : Along). Ready r.vehicle (plan b t y.method) (left y l m)) p
          (record { number = omega arith; valid = own.number; kept = kept_ground r.run b l m grounded; few = grounded.limits.offered; fresh = own.fresh })

      -- what is read from k on is what the call reads
      module _ (i : List ℕ) {y : Reading} where
        pub read_taken : {x : Left (ReadSaid Along)} → x ≡ front_taken b t k l m r.vehicle i → y ≡ with_along r x.answer.state → as_read y x ≡ read_left r b l m i
        unfolding read_left
        read_taken {x} h q =
            ap (λ (z : Reading). as_read z x) q
            ∙ ap (λ (z : Left (ReadSaid Along)). as_read (with_along r z.answer.state) z) (h ∙ ap (λ (z : Along). front_taken b t z l m r.vehicle i) p)
            ∙ sym (settled_taken _ e)

        pub all_taken_lem : {x : Left (AllSaid Along)} → x ≡ all_taken b t k l m r.vehicle i → y ≡ with_along r x.answer.state → as_all y x ≡ all_left r b l m i
        unfolding all_left
        all_taken_lem {x} h q =
            ap (λ (z : Reading). as_all z x) q
            ∙ ap (λ (z : Left (AllSaid Along)). as_all (with_along r z.answer.state) z) (h ∙ ap (λ (z : Along). all_taken b t z l m r.vehicle i) p)
            ∙ sym (settled_taken _ e)

  -- ---- a test refuses
  module _ (i : List ℕ) {x : ℕ} (e : x ≡ read_ground r b l m) (some : x ≡ 0 → ⊥) where
    pub read_refuses : left {A = ReadSaid Reading} (record { says = refuses x; state = r }) l m ≡ read_left r b l m i
    unfolding read_left
    read_refuses = settled_answer (λ k. left {A = ReadSaid Reading} (record { says = refuses k; state = r }) l m) _ e some

    pub all_refuses : left {A = AllSaid Reading} (record { state = r; fields = 0; used = 0; last = refuses x }) l m ≡ all_left r b l m i
    unfolding all_left
    all_refuses = settled_answer (λ k. left {A = AllSaid Reading} (record { state = r; fields = 0; used = 0; last = refuses k }) l m) _ e some
