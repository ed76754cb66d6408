-- What every turn of a walk keeps while it goes on.
-- Assumes nothing.
use mathlib.Core.Bool.{true}
use mathlib.Core.List.{List, [], ◌++◌}
use mathlib.Core.Path.{◌≡◌, refl, sym, ap, subst}
use Prim.Native.Nat.{ℕ, ◌+◌, ◌≤◌, ◌<◌, min}
use native.Mathlib.Omega.{arith}
use lib.IntN.{ℤ}
use lib.ListN.{length, take, length-append}
use lib.Seq.{length-take-le}
use Rattle.rules.specs.declared.Spot.{Spot}
use Rattle.rules.specs.Listing.{first_spot}
use Rattle.listing.specs.Lines.{most_line, most_count, Counts}
use Rattle.desk.specs.Feeding.{Laid, laid_of, empty_desk, longest, most_fields}
use Rattle.intake.specs.declared.Turn.{Turn}
use Rattle.intake.specs.declared.Turned.TheVariants.{On}
use Rattle.intake.specs.Turns.{is_on, Round, round_of, going_on, Goes}
use Rattle.intake.proofs.Coming.{nothing_yet, nothing_done, is_on_lem}
use Rattle.intake.proofs.Untested.{stood_steady, came_few}
use Rattle.walk.specs.declared.Walk.{Walk}
use Rattle.walk.specs.Walks.{Ready, Shows, Adds}
use Rattle.walk.proofs.Showing.{shows_none}

-- a turn that goes on
going_is : (t : Turn) → t.turned ≡ On → t ≡ going_on t.desk t.used t.held t.left
going_is t e = λ i. record { turned = e i; desk = t.desk; used = t.used; held = t.held; left = t.left }

-- a turn that goes on, and the text of the lines shown up to there
pub record Going (x₀ : Laid) (most : ℕ) (text : List ℕ) (w : Walk) (buffer room : List ℕ) (l : List ℤ) (m : List ℕ) : Type 0 where
  pub on : w.turn.turned ≡ On
  pub within : w.turn.used + w.turn.held ≤ length buffer
  pub held : w.turn.held < longest
  pub counts : Counts w.spot (w.turn.held + w.turn.left)
  pub shows : Shows x₀ most text (round_of w.turn buffer room l m) w.spot

-- before the first turn
abbrev pub first : ℕ → Walk
first most = record { turn = going_on empty_desk 0 0 most; spot = first_spot; printed = 0 }

pub going_none : (most : ℕ) (w : Walk) (buffer room : List ℕ) (l : List ℤ) (m : List ℕ) → w ≡ first most → most ≤ most_count → Going (laid_of empty_desk room l m) most [] w buffer room l m
going_none most w buffer room l m e few = subst (λ (x : Walk). Going (laid_of empty_desk room l m) most [] x buffer room l m) (sym e) (record {
  on = refl;
  within = omega arith;
  held = omega arith;
  counts = record { fields = omega arith; offset = omega arith; blocks = omega arith };
  shows = shows_none (nothing_yet most empty_desk buffer room l m refl) (nothing_done most empty_desk buffer room l m refl);
})

-- what stands has no more fields than a record can have
pub shown_few : {room₀ : List ℕ} {l₀ : List ℤ} {m₀ : List ℕ} {most : ℕ} {text : List ℕ} {p : Round} {spot : Spot} → Shows (laid_of empty_desk room₀ l₀ m₀) most text p spot → p.turn.desk.fields ≤ most_fields
shown_few {room₀} {l₀} {m₀} s = came_few room₀ l₀ m₀ s.stood.came

module _ {room₀ : List ℕ} {l₀ : List ℤ} {m₀ : List ℕ} {most : ℕ} {text : List ℕ} {w : Walk} {buffer room : List ℕ} {l : List ℤ} {m : List ℕ}
    (g : Going (laid_of empty_desk room₀ l₀ m₀) most text w buffer room l m) where
  abbrev t : Turn
  t = w.turn

  -- what is shown there, as another turn finds it
  shown : Shows (laid_of empty_desk room₀ l₀ m₀) most text (round_of (going_on t.desk t.used t.held t.left) buffer room l m) w.spot
  shown = subst (λ (x : Turn). Shows (laid_of empty_desk room₀ l₀ m₀) most text (round_of x buffer room l m) w.spot) (going_is t g.on) g.shows

  -- another turn may be made
  pub going_ready : 1 ≤ t.left → longest ≤ length buffer → Ready t w.spot buffer room l m
  going_ready some long = record {
    within = g.within;
    held = g.held;
    long = long;
    some = some;
    steady = stood_steady room₀ l₀ m₀ most t.desk t.used t.held t.left buffer room l m shown.stood;
    counts = g.counts;
  }

  -- which leads on, and adds to the text
  module _ (w' : Walk) {buffer' room' : List ℕ} {l' : List ℤ} {m' : List ℕ} (more : List ℕ)
      (adds : Adds (round_of (going_on t.desk t.used t.held t.left) buffer room l m) w.spot more (round_of w'.turn buffer' room' l' m') w'.spot) where
    pub shows_on : Shows (laid_of empty_desk room₀ l₀ m₀) most (text ++ more) (round_of w'.turn buffer' room' l' m') w'.spot
    shows_on = adds (laid_of empty_desk room₀ l₀ m₀) most text shown

    pub going_on_lem : {held n : ℕ} → is_on w'.turn.turned ≡ true → Goes held n (length buffer) w'.turn → length buffer' ≡ length buffer → Counts w'.spot (w'.turn.held + w'.turn.left)
        → Going (laid_of empty_desk room₀ l₀ m₀) most (text ++ more) w' buffer' room' l' m'
    going_on_lem e goes same counts = record {
      on = is_on_lem w'.turn.turned e;
      within = omega (arith, goes.within, same);
      held = goes.short e;
      counts = counts;
      shows = shows_on;
    }

-- ---- without lines

pub record Passing (x₀ : Laid) (most : ℕ) (w : Walk) (buffer room : List ℕ) (l : List ℤ) (m : List ℕ) : Type 0 where
  pub text : List ℕ
  pub going : Going x₀ most text w buffer room l m

-- ---- with lines, which go out before the next turn

pub record Sending (x₀ : Laid) (most : ℕ) (w : Walk) (sent : ℕ) (buffer room : List ℕ) (l : List ℤ) (m lines : List ℕ) : Type 0 where
  pub out : List ℕ
  pub going : Going x₀ most (out ++ take w.printed lines) w buffer room l m
  pub printed : w.printed + most_line ≤ length lines
  pub sent_is : sent ≡ min (length out) most_count

pub sending_none : (most : ℕ) (w : Walk) (buffer room : List ℕ) (l : List ℤ) (m lines : List ℕ) → w ≡ first most → most ≤ most_count → most_line ≤ length lines
    → Sending (laid_of empty_desk room l m) most w 0 buffer room l m lines
sending_none most w buffer room l m lines e few long =
    let none : w.printed ≡ 0 = ap (λ (x : Walk). x.printed) e in
    record {
      out = [];
      going = subst (λ (n : ℕ). Going (laid_of empty_desk room l m) most (take n lines) w buffer room l m) (sym none) (going_none most w buffer room l m e few);
      printed = omega (arith, none);
      sent_is = refl;
    }

-- the lines of the turn have gone out
pub gone_out : (out lines : List ℕ) (n : ℕ) {went sent sent' : ℕ} → sent ≡ min (length out) most_count → n ≤ length lines → went ≤ n → n ≤ went → sent' ≡ min (sent + went) most_count
    → sent' ≡ min (length (out ++ take n lines)) most_count
gone_out out lines n e h g f p = omega (arith, length-append out (take n lines), length-take-le n lines h, e, p)
