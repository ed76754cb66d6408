-- Document 02, L11, from a record's bytes to the bytes printed: the weighted consumption and the range that a sheet shows are those of the closing, and so
-- near what is unrounded.
-- Assumes nothing.
use mathlib.Core.Bool.{true, false≢true}
use mathlib.Core.List.{List, [], ◌∷◌, ◌++◌, append_assoc, append-nil}
use mathlib.Core.Path.{◌≡◌, refl, sym, ap, ◌∙◌}
use Prim.Native.Nat.{ℕ}
use lib.Dec.{eqb}
use lib.ListN.{length, get_or, drop}
use Rattle.rules.specs.Words.{every, spell}
use Rattle.numbers.proofs.Tests.{every_append}
use Rattle.rules.specs.declared.End.{End}
use Rattle.rules.specs.declared.End.TheVariants.{None as none, Stop as stop, Limit as limit}
use Rattle.rules.specs.declared.Closing.{Closing}
use Rattle.rules.specs.Closing.{ClosingAnswer}
use Rattle.std.specs.Prelude.{Ok as Closed, Err as Refused}
use Rattle.rules.specs.declared.Figures.{Figures}
use Rattle.rules.specs.Table.{length_allowed, tags}
use Rattle.rules.specs.Front.{Field}
use Rattle.rules.specs.Machine.{on, move_at}
use Rattle.rules.specs.Record.{Told, Bring, nothing, a_number, a_cycle, the_tolerances, the_stretches, own_samples, before, after, charged, bring_at, take_field, Sheet, told, refused_at, sheet_of}
use Rattle.rules.specs.Figures.{plan_told, figures_told}
use Rattle.rules.specs.Text.{digits, signed, spaced, line, end_word, end_line, refused_word, refused_line, head_lines, count_lines, recharge_line, closed_lines, closing_lines, sheet_text, refusal_text, printed}
use Rattle.laws.proofs.RunNear.{run_near}
use Rattle.laws.proofs.Says.{moves_to}
use Rattle.laws.proofs.Tags.{sizes}
use Rattle.demands.specs.Range.{first_line, behind_line, behind_lines, Shows, Near, PrintsNear}
use Rattle.demands.proofs.TextLines.{is_plain, plain_number, plain_digits, plain_signed, digits_tell, first_of_line, behind_of_line, words_line}
use Rattle.demands.proofs.ToldCame.{SaysAt, moved_holds}
use Rattle.demands.proofs.ToldLaws.{told_keeps}

-- ---- the vehicle number of a record has no newline

abbrev Named : Told → Type 0
Named s = every is_plain s.holding.vehicle ≡ true

named_brought : (s : Told) → Named s → (f : Field) (b : Bring) → length_allowed tags f.tag (length f.value) ≡ true → SaysAt s f b
    → Named (bring_at s (moves_to b) b)
named_brought s h f nothing a w = h
named_brought s h f (a_number v) a w =
    rw w.2 (plain_number f.value w.3 ((sizes f.tag (length f.value) a).number w.0))
named_brought s h f (a_cycle v) a w = h
named_brought s h f (the_tolerances t) a w = h
named_brought s h f (the_stretches x) a w = h
named_brought s h f (own_samples xs) a w = h
named_brought s h f (before e) a w = h
named_brought s h f (after e) a w = h
named_brought s h f (charged k) a w = h

named_moved : (s : Told) (i : List ℕ) (s' : Told) (m : ℕ) → move_at tags take_field s i ≡ on s' m → Named s → Named s'
named_moved s i s' m e h = moved_holds Named s (named_brought s h) h i s' m e

named : (w : List ℕ) (x : Told) → sheet_of w ≡ told x → Named x
named = told_keeps Named named_moved refl

-- ---- a sheet, line by line

end_plain : (e : End) → every is_plain (spaced (spell "end") ++ end_word e) ≡ true
end_plain none = refl
end_plain stop = refl
end_plain limit = refl

module _ (f : Figures) (v : every is_plain f.vehicle ≡ true) where
  -- what stands from each line on
  abbrev drawn : List ℕ
  drawn = line (spell "drawn") (signed f.drawn) ++ closing_lines f.closing

  abbrev passed : List ℕ
  passed = line (spell "passed") (digits f.passed) ++ drawn

  abbrev outside : List ℕ
  outside = line (spell "outside") (signed f.outside) ++ passed

  abbrev cycles : List ℕ
  cycles = line (spell "cycles") (digits f.cycles) ++ outside

  end_is : end_line f.end f.counted ++ cycles ≡ line (spaced (spell "end") ++ end_word f.end) (digits f.counted) ++ cycles
  unfolding end_line
  end_is = words_line (spell "end") (end_word f.end) (digits f.counted) cycles

  run_first : sheet_text f ≡ line (spell "run") f.vehicle ++ (end_line f.end f.counted ++ cycles)
  unfolding head_lines count_lines
  run_first = simp append_assoc

  behind_six : behind_lines 6 (sheet_text f) ≡ closing_lines f.closing
  unfolding behind_lines
  behind_six =
      let one = ap behind_line run_first ∙ behind_of_line (spell "run") f.vehicle (end_line f.end f.counted ++ cycles) refl v in
      let two = ap behind_line (one ∙ end_is)
      ∙ behind_of_line (spaced (spell "end") ++ end_word f.end) (digits f.counted) cycles (end_plain f.end) (plain_digits f.counted) in
      let three = ap behind_line two ∙ behind_of_line (spell "cycles") (digits f.cycles) outside refl (plain_digits f.cycles) in
      let four = ap behind_line three ∙ behind_of_line (spell "outside") (signed f.outside) passed refl (plain_signed f.outside) in
      let five = ap behind_line four ∙ behind_of_line (spell "passed") (digits f.passed) drawn refl (plain_digits f.passed) in
      ap behind_line five ∙ behind_of_line (spell "drawn") (signed f.drawn) (closing_lines f.closing) refl (plain_signed f.drawn)

-- the closing's lines, in a text behind whose sixth line they stand
module _ (t : List ℕ) (y : Closing) (six : behind_lines 6 t ≡ closed_lines y) where
  abbrev behind : List ℕ
  behind = line (spell "range") (digits y.range) ++ recharge_line y.recharge

  closed_is : behind_lines 6 t ≡ line (spell "weighted") (digits y.weighted) ++ behind
  unfolding closed_lines
  closed_is = six ∙ append_assoc (line (spell "weighted") (digits y.weighted)) (line (spell "range") (digits y.range)) (recharge_line y.recharge)

  weighted_line : first_line (behind_lines 6 t) ≡ spaced (spell "weighted") ++ digits y.weighted
  weighted_line = ap first_line closed_is ∙ first_of_line (spell "weighted") (digits y.weighted) behind refl (plain_digits y.weighted)

  range_line : first_line (behind_lines 7 t) ≡ spaced (spell "range") ++ digits y.range
  unfolding behind_lines
  range_line =
      ap first_line (ap behind_line closed_is ∙ behind_of_line (spell "weighted") (digits y.weighted) behind refl (plain_digits y.weighted))
      ∙ first_of_line (spell "range") (digits y.range) (recharge_line y.recharge) refl (plain_digits y.range)

  closing_shown : Shows t y.weighted y.range
  closing_shown = record { weighted = weighted_line; range = range_line }

  -- and no other figures are
  shown_alone : (W R : ℕ) → Shows t W R → (y.weighted ≡ W) × (y.range ≡ R)
  shown_alone W R s = (
    digits_tell _ W (ap (drop 9) (sym weighted_line ∙ s.weighted)),
    digits_tell _ R (ap (drop 6) (sym range_line ∙ s.range)),
  )

-- a text of which the seventh line begins with another byte than 119, or is empty, shows none
not_shown : (t : List ℕ) (W R : ℕ) → Shows t W R → (l : List ℕ) → first_line (behind_lines 6 t) ≡ l → eqb (get_or l 0 0) 119 ≡ true
not_shown t W R s l e = ap (λ (u : List ℕ). eqb (get_or u 0 0) 119) (sym e ∙ s.weighted)

-- a refused field's text has one line
module _ (number k : ℕ) where
  abbrev words : List ℕ
  words = spaced refused_word ++ (spaced (digits number) ++ (spell "field"))

  refusal_is : refusal_text number k ≡ line words (digits k) ++ []
  unfolding refusal_text line
  refusal_is = simp append_assoc

  words_plain : every is_plain words ≡ true
  words_plain =
      every_append is_plain (spaced refused_word) (spaced (digits number) ++ (spell "field")) refl
      (every_append is_plain (spaced (digits number)) (spell "field") (every_append is_plain (digits number) (32 ∷ []) (plain_digits number) refl) refl)

  refusal_alone : behind_line (refusal_text number k) ≡ []
  refusal_alone = ap behind_line refusal_is ∙ behind_of_line words (digits k) [] words_plain (plain_digits k)

refusal_not_shown : (number k W R : ℕ) → Shows (refusal_text number k) W R → ⊥
unfolding behind_lines first_line behind_line
refusal_not_shown number k W R s =
    false≢true (not_shown (refusal_text number k) W R s [] (ap (λ (t : List ℕ). first_line (behind_line (behind_line (behind_line (behind_line (behind_line t)))))) (refusal_alone number k)))

module _ (w : List ℕ) where
  near_told : (x : Told) → sheet_of w ≡ told x → (c : ClosingAnswer) → (figures_told x).closing ≡ c → (W R : ℕ) → Shows (printed (told x)) W R → Near w W R
  near_told x e (Closed y) q W R s =
      let f = figures_told x in
      let (same-weighted, same-range) = shown_alone (sheet_text f) y (behind_six f (named w x e) ∙ ap closing_lines q) W R s in
      record {
        x = x;
        tells = e;
        near_run = rw (← same-weighted, ← same-range) (run_near (plan_told x) x.holding.samples x.holding.amounts y q);
      }
  near_told x e (Refused n) q W R s =
      let f = figures_told x in
      let six = behind_six f (named w x e) ∙ ap closing_lines q ∙ sym (append-nil (refused_line n)) in
      absurd (false≢true (not_shown (sheet_text f) W R s _ (ap first_line six ∙ first_of_line refused_word (digits n) [] refl (plain_digits n))))

  printed_by : (s : Sheet) → sheet_of w ≡ s → PrintsNear w (printed s)
  printed_by (told x) e = record {
    printed_near = near_told x e (figures_told x).closing refl;
    figures_printed = λ x' e' y q.
        let same : x ≡ x' = cc (sym e ∙ e') in
        let closing = ap (λ (z : Told). (figures_told z).closing) same ∙ q in
        closing_shown (sheet_text (figures_told x)) y (behind_six (figures_told x) (named w x e) ∙ ap closing_lines closing);
  }
  printed_by (refused_at number k) e = record {
    printed_near = λ W R s. absurd (refusal_not_shown number k W R s);
    figures_printed = λ x e' y q. absurd (let d = sym e ∙ e' in false≢true cc);
  }

pub prints_near : (w : List ℕ) → PrintsNear w (printed (sheet_of w))
prints_near w = printed_by w (sheet_of w) refl
