-- The 1 or 2 of a desk, which comes before all else: what it tests, and that `feed` answers it with nothing taken; and answers that say the same.
-- Assumes nothing.
use mathlib.Core.Bool.{Bool, true, false, cond}
use mathlib.Core.List.{List}
use mathlib.Core.Path.{◌≡◌, refl, sym, ap, ◌∙◌}
use Prim.Native.Nat.{ℕ, ◌≤◌, ◌<◌}
use borrow.Author.Tests.{leb-true, le-leb, lt-leb}
use lib.Dec.{leb}
use lib.ListN.{length}
use Rattle.numbers.proofs.Tests.{pass, stop, not_refused, settled_taken, settled_refused, settled_answer}
use Rattle.laws.specs.Answers.{Said, gives, refuses}
use Rattle.laws.proofs.Answers.{same_answer}
use Rattle.records.specs.Stage.{run_on}
use Rattle.opening.specs.Answers.{open_ground}
use Rattle.reading.specs.Answers.{read_ground}
use Rattle.desk.specs.declared.Fed.{Fed}
use Rattle.desk.specs.Feeding.{FedSaid, fed_said, Laid, lent_cycle, stage_on, stops, fed_by, feed_of, most_fields, started_ground, desk_ground, Steady}

-- ---- answers that say the same are the same

pub same_fed : (x y : Fed) → fed_said x ≡ fed_said y → x ≡ y
same_fed x y e =
    let outcome_is = same_answer x.outcome y.outcome (ap (λ (z : FedSaid). z.outcome) e) in
    λ i. record { outcome = outcome_is i; used = (e i).used; desk = (e i).desk }

-- ---- before all else

module _ (x : Laid) where
  pub many_fields : most_fields < x.desk.fields → 1 ≡ desk_ground x
  unfolding desk_ground
  many_fields h = stop _ (lt-leb _ _ h)

  module _ (few : x.desk.fields ≤ most_fields) where
    by_start : (t : Bool) → x.desk.started ≡ t → cond t (started_ground x) (open_ground x.desk.opening x.room) ≡ desk_ground x
    unfolding desk_ground
    by_start t e = pass 1 (le-leb _ _ few) (rw e)

    pub of_opening : x.desk.started ≡ false → open_ground x.desk.opening x.room ≡ desk_ground x
    of_opening e = by_start false e

    pub of_started : x.desk.started ≡ true → started_ground x ≡ desk_ground x
    of_started e = by_start true e

    module _ (e : x.desk.started ≡ true) where
      pub no_room : length x.room < x.desk.opening.cycle → 1 ≡ desk_ground x
      no_room h = stop _ (lt-leb _ _ h) ∙ by_start true e

      pub of_reading : x.desk.opening.cycle ≤ length x.room → read_ground x.desk.reading (lent_cycle x) x.memory.ledger x.memory.map ≡ desk_ground x
      of_reading h = pass 1 (le-leb _ _ h) refl ∙ by_start true e

  -- a started run with none has its cycle in the room, and may be read on
  pub started_fits : started_ground x ≡ 0 → (x.desk.opening.cycle ≤ length x.room) × (read_ground x.desk.reading (lent_cycle x) x.memory.ledger x.memory.map ≡ 0)
  started_fits g = let (long, rest) = not_refused 0 (leb x.desk.opening.cycle (length x.room)) _ g in (leb-true _ _ long, rest)

  -- a desk with none is as a call of its record left it
  pub ground_steady : desk_ground x ≡ 0 → Steady x
  unfolding desk_ground
  ground_steady g =
      let (few, rest) = not_refused 0 (leb x.desk.fields most_fields) _ g in
      record { few = leb-true _ _ few; run_ground = λ e. ap (λ (t : Bool). cond t (started_ground x) (open_ground x.desk.opening x.room)) (sym e) ∙ rest }

  -- ---- `feed` answers it, and takes nothing; else it takes what the machine takes
  module _ (i : List ℕ) where
    pub feed_refuses : (desk_ground x ≡ 0 → ⊥) → feed_of x i ≡ stops x (refuses (desk_ground x))
    unfolding feed_of
    feed_refuses h = settled_refused _ h

    pub feed_stops : {n : ℕ} → n ≡ desk_ground x → (n ≡ 0 → ⊥) → stops x (refuses n) ≡ feed_of x i
    unfolding feed_of
    feed_stops e some = settled_answer (λ k. stops x (refuses k)) _ e some

    pub feeds : desk_ground x ≡ 0 → feed_of x i ≡ fed_by x (run_on (stage_on x) i)
    unfolding feed_of
    feeds e = settled_taken _ e
