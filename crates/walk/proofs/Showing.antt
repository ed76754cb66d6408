-- What is shown of a record, turn by turn: the lines of the fields taken stand behind those before.
-- Assumes nothing.
use mathlib.Core.List.{List, [], ◌++◌}
use mathlib.Core.Path.{◌≡◌, sym, ap, subst, ◌∙◌}
use Prim.Native.Nat.{ℕ, ◌+◌, ◌-◌}
use native.Mathlib.Omega.{arith}
use lib.ListN.{length, take, length-append}
use lib.Seq.{length-take-le}
use Rattle.rules.specs.declared.Spot.{Spot}
use Rattle.rules.specs.Table.{tags}
use Rattle.rules.specs.Machine.{Ran, run}
use Rattle.rules.specs.Listing.{Listed, listed, list_field, list_from, first_spot, spot_after, field_line}
use Rattle.laws.proofs.Alongside.{TookAll, alongside}
use Rattle.laws.proofs.Cuts.{joined, cut_whole}
use Rattle.laws.proofs.Prefixes.{no_bytes}
use Rattle.records.specs.Stage.{take_on}
use Rattle.listing.specs.Lines.{Counts}
use Rattle.listing.proofs.Fronted.{counts_less}
use Rattle.listing.proofs.Behind.{list_behind, counts_listed}
use Rattle.desk.specs.Feeding.{Laid}
use Rattle.intake.specs.declared.Turn.{Turn}
use Rattle.intake.specs.Turns.{Round, Goes, Stood, WholeFields, Led}
use Rattle.walk.specs.Walks.{Shows}

-- whole fields are listed whole
listed_whole : (x : Listed) {p : List ℕ} → WholeFields p → TookAll p (run tags list_field x p)
listed_whole x {p} w = alongside tags take_on (λ (y : Listed) f. listed (spot_after y.spot f) (y.text ++ field_line y.spot f)) w.from x p w.used

-- the list of some bytes, and that of whole fields behind them
module _ {p : List ℕ} {spot : Spot} {text : List ℕ} (e : list_from first_spot p ≡ listed spot text) (all : TookAll p (run tags list_field (listed first_spot []) p)) {q : List ℕ} (w : WholeFields q) where
  both : run tags list_field (listed first_spot []) (p ++ q) ≡ joined (run tags list_field (listed first_spot []) p) (run tags list_field (listed spot text) q)
  both =
      cut_whole tags list_field (listed first_spot []) p q all.end all.used
      ∙ ap (λ (x : Listed). joined (run tags list_field (listed first_spot []) p) (run tags list_field x q)) e

  more_listed : list_from first_spot (p ++ q) ≡ listed (list_from spot q).spot (text ++ (list_from spot q).text)
  more_listed = ap (λ (x : Ran Listed). x.state) both ∙ list_behind spot text q

  all_listed : TookAll (p ++ q) (run tags list_field (listed first_spot []) (p ++ q))
  all_listed =
      let rest = listed_whole (listed spot text) w in
      record {
        used = ap (λ (x : Ran Listed). x.used) both ∙ omega (arith, all.used, rest.used, length-append p q);
        end = ap (λ (x : Ran Listed). x.end) both ∙ rest.end;
      }

-- a turn in a buffer of so many bytes, with so many held and left before it: the bytes that it took, and the counts of the list before and behind them
module _ {held left size : ℕ} {t : Turn} (goes : Goes held left size t) (buffer : List ℕ) (same : length buffer ≡ size) where
  pub taken_size : length (take t.used buffer) ≡ t.used
  taken_size = length-take-le t.used buffer (omega (arith, goes.within, same))

  module _ {p : Spot} (c : Counts p (held + left)) where
    pub counts_before : Counts p (length (take t.used buffer))
    counts_before = counts_less c (omega (arith, taken_size, goes.none_lost))

    pub counts_behind : {q : Spot} → q ≡ (list_from p (take t.used buffer)).spot → Counts q (t.held + t.left)
    counts_behind e =
        let rest : held + left - length (take t.used buffer) ≡ t.held + t.left = omega (arith, taken_size, goes.none_lost) in
        subst (λ (q : Spot). Counts q (t.held + t.left)) (sym e)
        (subst (Counts (list_from p (take t.used buffer)).spot) rest (counts_listed p (take t.used buffer) (held + left) c (omega (arith, taken_size, goes.none_lost))))

-- before the first turn nothing is shown
pub shows_none : {x₀ : Laid} {most : ℕ} {p : Round} (s : Stood x₀ most p) → s.done ≡ [] → Shows x₀ most [] p first_spot
shows_none s e =
    let nothing = no_bytes tags list_field (listed first_spot []) in
    record {
      stood = s;
      lists = ap (list_from first_spot) e ∙ ap (λ (x : Ran Listed). x.state) nothing;
      all = subst (λ (p : List ℕ). TookAll p (run tags list_field (listed first_spot []) p)) (sym e)
          (record { used = ap (λ (x : Ran Listed). x.used) nothing; end = ap (λ (x : Ran Listed). x.end) nothing });
    }

-- a turn: the list of the fields taken stands behind
pub shows_more : {x₀ : Laid} {most : ℕ} {text lines : List ℕ} {p q : Round} {spot spot' : Spot} (s : Shows x₀ most text p spot) → Led s.stood q
    → spot' ≡ (list_from spot (take q.turn.used q.buffer)).spot → lines ≡ (list_from spot (take q.turn.used q.buffer)).text
    → Shows x₀ most (text ++ lines) q spot'
shows_more {text = text} {q = q} s led f g = record {
  stood = led.stood;
  lists = ap (list_from first_spot) led.more ∙ more_listed s.lists s.all led.fields ∙ (λ i. listed (sym f i) (text ++ sym g i));
  all = subst (λ (p : List ℕ). TookAll p (run tags list_field (listed first_spot []) p)) (sym led.more) (all_listed s.lists s.all led.fields);
}
