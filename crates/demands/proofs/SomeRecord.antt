-- What is said of records speaks of something: by calls that keep the contracts every record whose fields are none refused is fed, in any parts, and closed;
-- and there are records with blocks added between.
-- Assumes nothing.
use Rattle.std.specs.Prelude.{Ok}
use mathlib.Core.List.{List, [], ◌++◌}
use mathlib.Core.Path.{◌≡◌, refl, sym}
use Prim.Native.Nat.{ℕ, ◌≤◌}
use lib.Dec.{leb, lit≤}
use lib.ListN.{length, drop}
use Rattle.rules.specs.Words.{be, table, all_below, unless}
use Rattle.rules.specs.Bench.{is_sample, tolerable}
use Rattle.rules.specs.Cycle.{valid}
use Rattle.rules.specs.Table.{tags, are_whole, begins, is_tag, length_allowed, by_row}
use Rattle.rules.specs.Front.{front_of}
use Rattle.rules.specs.Machine.{run, reply_at, upto}
use Rattle.rules.specs.Values.{is_character, is_number, same_number, sample_at, are_samples}
use Rattle.rules.specs.Record.{Told, take_field, untold, block_content, field_content, sheet_of}
use Rattle.rules.specs.Records.{me, four, sample, block, charge}
use Rattle.desk.specs.Feeding.{wanted, Lent, Laid, feed_of}
use Rattle.sheet.specs.Overlaid.{overlaid, most_sheet}
use Rattle.prints.specs.Printed.{close_text}
use Rattle.demands.specs.Calls.{FeedCall, CloseCall, left}
use Rattle.demands.specs.Demand2.{Speaks}
use Rattle.demands.specs.Demand3.{SomeBetween}
use Rattle.demands.specs.Runs.{FedIn, SomeClose, more}
use Rattle.demands.proofs.SomeRun.{to, mut_to, some_run}

-- calls with the answers that the contracts ask for: of bytes of which no field is refused, and where the input ends
abbrev feed_call : (x : Laid) (i : List ℕ) → (feed_of x i).outcome ≡ wanted → FeedCall
feed_call x i e =
    let y = feed_of x i in
    record {
      κs = ([], ([], ([], ([], tt))));
      args = (x.desk, (to i, (mut_to x.room, (mut_to x.memory.ledger, (mut_to x.memory.map, tt)))));
      answer = record { outcome = Ok tt; used = y.used; desk = y.laid.desk };
      lasts = (tt, (tt, (y.laid.room, (y.laid.memory.ledger, (y.laid.memory.map, tt)))));
      kept = λ j. record { laid = y.laid; used = y.used; outcome = sym e j };
    }

abbrev close_call : Laid → ℕ → List ℕ → CloseCall
close_call x left out =
    let text = close_text x left in
    record {
      κs = ([], ([], ([], ([], tt))));
      args = (x.desk, (left, (to x.room, (to x.memory.ledger, (to x.memory.map, (mut_to out, tt))))));
      answer = unless 0 (leb most_sheet (length out)) (length text);
      lasts = (tt, (tt, (tt, (tt, (tt, (unless out (leb most_sheet (length out)) (overlaid out 0 text), tt))))));
      kept = (refl, refl);
    }

module _ (lent : Lent) where
  -- one part more, of which no field is refused
  pub some_part : {w rest : List ℕ} {x : Laid} → FedIn lent w x rest → (new : List ℕ) → (feed_of x (rest ++ new)).outcome ≡ wanted
      → FedIn lent (w ++ new) (feed_of x (rest ++ new)).laid (drop (feed_of x (rest ++ new)).used (rest ++ new))
  some_part {rest = rest} {x = x} h new e = more h new (feed_call x (rest ++ new) e) (record { desk = refl; input = refl; room = refl; ledger = refl; map = refl }) refl

-- where the input ends
pub some_close : (x : Laid) (rest out : List ℕ) → most_sheet ≤ length out → SomeClose x rest
some_close x rest out h = record { call = close_call x (length rest) out; on = record { desk = refl; left = refl; room = refl; ledger = refl; map = refl; long = h } }

-- what is told of a record of one sample, with one more, and with a field 7
abbrev told_behind : List ℕ → Told
told_behind q = (run tags take_field untold ((four ++ block me 0 sample) ++ q)).state

pub some_between : SomeBetween
unfolding be table all_below unless is_sample tolerable valid are_whole begins is_tag length_allowed by_row front_of reply_at upto is_character is_number same_number sample_at are_samples block_content field_content sheet_of
some_between = record {
  first = told_behind [];
  added = told_behind (block me 1 sample);
  rest = told_behind (charge 15);
  between = record { first = refl; behind = lit≤ tt; added = refl; blocks = refl; own = refl; rest = refl; none = refl };
}

pub speaks : Speaks
speaks = record { some_run = some_run; some_part = some_part; some_close = some_close }
