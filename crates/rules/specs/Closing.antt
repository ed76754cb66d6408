-- 'Closing figures', on whole numbers of any size: n finished cycles of energies e and distances d, the whole energy E. Place 0 is cycle 1.
-- Assumes nothing.
use Rattle.std.specs.Prelude.{Some, None, Ok, Err, Bool, true, ◌&&◌, ℕ, ◌+◌, ◌-◌, ◌*◌, ◌/◌, leb, ℤ, pos, neg_ℤ, ◌+ℤ◌}
use Rattle.std.specs.Int.Signed.{le_z, lt_z}
use Rattle.rules.specs.Words.{settled, sum, all_below, unless, up, between}
use Rattle.rules.specs.Bench.{Moment, Method, by_cycles, with_stretches}
use Rattle.rules.specs.Course.{Course, closed}
use Rattle.rules.specs.Parts.{energy}
pub use Rattle.rules.specs.declared.Amounts.{Amounts}
pub use Rattle.rules.specs.declared.Closing.{Closing}
pub use Rattle.std.specs.Prelude.{Option, None as absent, Some as wh, Result, Ok as Closed, Err as Refused}

-- the energy that a recharge took from the mains, in Wh: absent, or so much
abbrev pub Charge : Type 0
Charge = Option ℕ

-- a figure, no figure, or the number of a refusal
abbrev pub Figure : Type 0
Figure = Result (Option ℕ) ℕ

abbrev pub Is : ℕ → Figure
Is x = Ok (Some x)

abbrev pub Absent : Figure
Absent = Ok None

-- the closing figures together, or the number of the refusal that stands in place of all
abbrev pub ClosingAnswer : Type 0
ClosingAnswer = Result Closing ℕ

-- field 6: "within 10^13 either way", in units of 0.5 mJ
abbrev pub most_transfer_in : ℕ
most_transfer_in = 10_000_000_000_000

abbrev pub is_transfer_in : ℤ → Bool
is_transfer_in = between (neg_ℤ (pos most_transfer_in)) (pos most_transfer_in)

-- document 02, L2: "Transfer energies in field 6 keep their old unit and are doubled on reading": in the run's unit
abbrev pub doubled : ℤ → ℤ
doubled e = e +ℤ e

-- "recharge in Wh (4), 1..2,000,000"
abbrev pub most_charge : ℕ
most_charge = 2_000_000

abbrev pub is_charge : Charge → Bool
is_charge absent = true
is_charge (wh A) = leb 1 A && leb A most_charge

-- "E is transfer energy before the test plus the energy of" all closed intervals
abbrev pub whole_energy : ℤ → Course → (ℕ → Moment) → ℕ → ℤ
whole_energy before c s n = before +ℤ energy c.share s (closed c s n)

-- "q_c = floor(100 e_c / d_c), in mWh/km"
abbrev pub rate : ℕ → ℕ → ℕ
rate e d = 100 * e / d

-- "(n-2)(q_1 e_1 + q_2 e_2) + (E - e_1 - e_2)(q_3 + .. + q_n)"
unfoldable pub weighing : ℕ → ℕ → (ℕ → ℕ) → (ℕ → ℕ) → ℕ
weighing E n e q = (n - 2) * (q 0 * e 0 + q 1 * e 1) + (E - e 0 - e 1) * sum (λ c. q (2 + c)) (n - 2)

-- "E (n-2)"
abbrev pub weight : ℕ → ℕ → ℕ
weight E n = E * (n - 2)

-- "Weighted W = floor of" their quotient
abbrev pub weighted : ℕ → ℕ → (ℕ → ℕ) → (ℕ → ℕ) → ℕ
weighted E n e q = weighing E n e q / weight E n

-- document 02, L2: "Range becomes floor(5E / (72W))" metres
abbrev pub range : ℕ → ℕ → ℕ
range E W = 5 * E / (72 * W)

-- "Recharge figure, A in Wh, F the transfer energy after the test: floor(E × A × 1,000,000 / ((E+F) × range))": EF is E + F
abbrev pub recharge : ℕ → ℕ → ℕ → ℕ → ℕ
recharge E EF A r = E * A * 1000000 / (EF * r)

-- "q_c outside 1..10,000,000"
abbrev pub most_rate : ℕ
most_rate = 10_000_000

abbrev pub is_rate : ℕ → Bool
is_rate q = leb 1 q && leb q most_rate

-- q_c of signed energies e and distances d, as a ledger has them
abbrev pub rate_of : (ℕ → ℤ) → (ℕ → ℤ) → ℕ → ℕ
rate_of e d c = rate (up (e c)) (up (d c))

-- "10 | n < 3"; document 02, L5: "10 at closing also when fewer than four cycles were finished", by the shortened method
abbrev pub least_finished : Method → ℕ
least_finished by_cycles = 3
least_finished (with_stretches x) = 4

-- n finished cycles, and the signed whole energy E
module _ (E : ℤ) (n : ℕ) (e d : ℕ → ℤ) where
  abbrev pub weighted_figure : ℕ
  weighted_figure = weighted (up E) n (λ c. up (e c)) (rate_of e d)

  abbrev pub range_figure : ℕ
  range_figure = range (up E) weighted_figure

  -- "Closing: 10, 11, 12, 13."; 0 where nothing is refused: of a method that asks for so many
  unfoldable pub closing_refusal : ℕ → ℕ
  closing_refusal asked =
      unless 10 (leb asked n)
      (unless 11 (all_below n (λ c. le_z (pos 1) (e c)))
      (unless 11 (le_z (e 0 +ℤ e 1) E)
      (unless 12 (all_below n (λ c. lt_z (pos 0) (d c)))
      (unless 12 (all_below n (λ c. is_rate (rate_of e d c)))
      (unless 13 (leb 1 range_figure) 0)))))

-- the whole energy E, the range R, and F
module _ (E : ℤ) (R : ℕ) (F : ℤ) where
  -- "Recharge: whatever closing refuses, then absent, 14, 12.": 14 and 12, with A; 0 where nothing is refused
  abbrev pub recharge_figure : ℕ → ℕ
  recharge_figure A = recharge (up E) (up (E +ℤ F)) A R

  unfoldable pub recharge_refusal : ℕ → ℕ
  recharge_refusal A =
      unless 14 (le_z (pos 1) (E +ℤ F))
      (unless 12 (leb (recharge_figure A) most_rate) 0)

  -- "A missing 7 gives the recharge figure "absent"."; 14 and 12, or the figure
  abbrev pub recharge_by : Charge → Figure
  recharge_by absent = Absent
  recharge_by (wh A) = let refusal = recharge_refusal A in settled refusal (Is (recharge_figure A)) (Err refusal)

-- ---- as the sheet has them

-- document 02, L6: the figures of one closing
abbrev pub together : ℕ → ℕ → Figure → Closing
together W R recharge = record { weighted = W; range = R; recharge = recharge }

-- n finished cycles of energies e and distances d, the whole energy E; with F and the recharge
module _ (E : ℤ) (n : ℕ) (e d : ℕ → ℤ) (F : ℤ) where
  -- document 02, L6: "a recharge refusal still shows weighted consumption and range"
  abbrev pub closing_figures : Charge → Closing
  closing_figures charge = let R = range_figure E n e d in together (weighted_figure E n e d) R (recharge_by E R F charge)

  -- "Recharge: whatever closing refuses, then absent, 14, 12."; document 02, L6: "Make them one operation."
  abbrev pub closing_by : ℕ → Charge → ClosingAnswer
  closing_by asked charge = let refusal = closing_refusal E n e d asked in settled refusal (Closed (closing_figures charge)) (Refused refusal)
