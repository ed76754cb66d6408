-- 'Rows on the test card': those marked P, and others, as one table with one claim.
-- Assumes nothing.
use Rattle.std.specs.Prelude.{true, false, List, [], ◌∷◌, ℕ, ℤ, pos, neg_ℤ}
use Rattle.rules.specs.Bench.{none, stop, limit}
use Rattle.rules.specs.Closing.{absent, wh, Is, Absent, Closed, Refused, together}
use Rattle.rules.specs.Rows.{points, bytes, moment, leg, Row, band, drive, draws, joins, weighs, closes, exact, shuts, gathers, short, asks}

-- a cycle of one speed
flat : ℕ → List ℕ
flat v = bytes (record { a = v; b = v; c = v })

-- three energies of 1, and three distances of 100: every q is 1
ones : List ℤ
ones = pos 1 ∷ pos 1 ∷ pos 1 ∷ []

hundreds : List ℤ
hundreds = pos 100 ∷ pos 100 ∷ pos 100 ∷ []

-- none outside in four cycles
clean : List ℕ
clean = 0 ∷ 0 ∷ 0 ∷ 0 ∷ []

unfoldable pub card : List Row
unfolding flat ones hundreds clean
card =
    band (points 0 100 0) 10 0 30 (20 ∷ 80 ∷ []) (19 ∷ 81 ∷ [])
    ∷ band (points 0 100 0) 20 5 30 (45 ∷ 130 ∷ []) (44 ∷ 131 ∷ [])
    ∷ band (points 0 100 0) 10 20 30 (0 ∷ 130 ∷ []) (131 ∷ [])
    ∷ drive 0 120 30 3 stop 3 3 0 (4 ∷ 0 ∷ 0 ∷ [])
    ∷ drive 0 120 30 5 stop 5 5 0 (6 ∷ 0 ∷ 0 ∷ [])
    ∷ drive 0 120 31 3 none 120 119 2 (0 ∷ 0 ∷ 0 ∷ [])
    ∷ drive 0 120 30 39 stop 39 39 0 (40 ∷ 0 ∷ 0 ∷ [])
    ∷ drive 0 120 30 40 none 120 119 2 (40 ∷ 40 ∷ 40 ∷ [])
    ∷ draws 6000 (neg_ℤ (pos 120)) (pos 720_000)
    ∷ draws 6000 (pos 120) (neg_ℤ (pos 720_000))
    ∷ draws 15_000 (neg_ℤ (pos 10_000)) (pos 150_000_000)
    ∷ weighs 100 30 20 3 (300 ∷ 100 ∷ 200 ∷ []) 210
    ∷ weighs 101 30 20 4 (300 ∷ 100 ∷ 200 ∷ 201 ∷ []) 210
    -- not on the card: the window is clipped at place 20T (position 39) and at 0 (position 5)
    ∷ band (points 0 100 100) 39 20 0 (95 ∷ 100 ∷ []) (94 ∷ 101 ∷ [])
    ∷ band (points 100 0 100) 5 20 0 (0 ∷ 100 ∷ []) (101 ∷ [])
    -- not on the card: the window is not taken across the joint, neither from the first position of the second cycle nor from the last of the first
    ∷ band (points 100 50 0) 40 5 0 (88 ∷ 100 ∷ []) (87 ∷ 0 ∷ [])
    ∷ band (points 100 50 0) 39 5 0 (0 ∷ 15 ∷ []) (16 ∷ 100 ∷ [])
    -- not on the card: a stop at the last position, here of the second cycle, leaves its cycle unfinished; the count begins afresh in each cycle
    ∷ drive 40 120 30 39 stop 79 79 1 (0 ∷ 40 ∷ 0 ∷ [])
    ∷ drive 20 120 30 39 stop 79 79 1 (20 ∷ 40 ∷ 0 ∷ [])
    -- not on the card: a stop at the first position of a cycle finishes the cycle before it, and one by the first sample of the run closes nothing
    ∷ drive 40 120 30 0 stop 40 40 1 (0 ∷ 1 ∷ 0 ∷ [])
    ∷ drive 40 41 30 0 stop 40 40 1 (0 ∷ 1 ∷ 0 ∷ [])
    ∷ drive 0 1 30 0 stop 0 0 0 (1 ∷ 0 ∷ 0 ∷ [])
    -- not on the card: no sample, one, two; a record that ends on a cycle's last sample, and with one sample more
    ∷ drive 0 0 31 0 none 0 0 0 (0 ∷ 0 ∷ 0 ∷ [])
    ∷ drive 0 1 31 0 none 1 0 0 (0 ∷ 0 ∷ 0 ∷ [])
    ∷ drive 0 2 31 0 none 2 1 0 (0 ∷ 0 ∷ 0 ∷ [])
    ∷ drive 0 40 31 0 none 40 39 0 (0 ∷ 0 ∷ 0 ∷ [])
    ∷ drive 0 41 31 0 none 41 40 1 (0 ∷ 0 ∷ 0 ∷ [])
    ∷ drive 0 121 31 0 none 121 120 3 (0 ∷ 0 ∷ 0 ∷ [])
    -- not on the card: an interval has both ends' products and speeds
    ∷ joins (moment 100 (pos 720_000)) (moment 131 (neg_ℤ (pos 20_000))) (pos 700_000) 231
    ∷ joins (moment 1500 (pos 150_000_000)) (moment 1500 (pos 150_000_000)) (pos 300_000_000) 3000
    -- not on the card: the closing's order, each number with the next one's fault there too; E = e_1 + e_2 is good
    ∷ closes 3 (pos 9) (pos 0 ∷ pos 0 ∷ []) (pos 0 ∷ pos 0 ∷ []) (pos 0) absent (Refused 10)
    ∷ closes 3 (pos 9) (pos 1 ∷ pos 1 ∷ pos 0 ∷ []) (pos 1 ∷ pos 1 ∷ pos 0 ∷ []) (pos 0) absent (Refused 11)
    ∷ closes 3 (pos 1) ones (pos 1 ∷ pos 1 ∷ pos 0 ∷ []) (pos 0) absent (Refused 11)
    ∷ closes 3 (pos 2) ones (pos 1 ∷ pos 1 ∷ pos 0 ∷ []) (pos 0) absent (Refused 12)
    ∷ closes 3 (pos 2) ones (pos 100 ∷ pos 100 ∷ pos 101 ∷ []) (pos 0) absent (Refused 12)
    ∷ closes 3 (pos 14) ones hundreds (pos 0) absent (Refused 13)
    ∷ closes 3 (pos 14) ones hundreds (neg_ℤ (pos 14)) (wh 1) (Refused 13)
    -- not on the card: absent before 14; 14, 12 and the figure; each beside weighted consumption and range
    ∷ closes 3 (pos 15) ones hundreds (neg_ℤ (pos 15)) absent (Closed (together 1 1 Absent))
    ∷ closes 3 (pos 15) ones hundreds (neg_ℤ (pos 15)) (wh 1) (Closed (together 1 1 (Refused 14)))
    ∷ closes 3 (pos 15) ones hundreds (neg_ℤ (pos 14)) (wh 1) (Closed (together 1 1 (Refused 12)))
    ∷ closes 3 (pos 15) ones hundreds (neg_ℤ (pos 13)) (wh 1) (Closed (together 1 1 (Is 7_500_000)))
    -- document 02, L5: the shortened method asks for four
    ∷ closes 4 (pos 15) ones hundreds (pos 0) absent (Refused 10)
    ∷ closes 4 (pos 15) (pos 1 ∷ ones) (pos 100 ∷ hundreds) (pos 0) absent (Closed (together 1 1 Absent))
    -- document 02, L11: W at the least rate and at the greatest, where cycle 3 has no weight; the rates are not the same
    ∷ weighs 100 30 20 3 (10 ∷ 10 ∷ 11 ∷ []) 10
    ∷ weighs 50 30 20 3 (10 ∷ 10 ∷ 5 ∷ []) 10
    -- R is R*; R is below R* and has its whole metres, with rates that are whole and with rates of 100.5; R is above R*, one above its whole metres
    ∷ exact 3 72 (1 ∷ 1 ∷ 1 ∷ []) (100 ∷ 100 ∷ 100 ∷ []) 1 5 5 1 5 1
    ∷ exact 3 80 (1 ∷ 1 ∷ 1 ∷ []) (100 ∷ 100 ∷ 100 ∷ []) 1 5 50 9 5 0
    ∷ exact 3 15_120 (201 ∷ 201 ∷ 201 ∷ []) (200 ∷ 200 ∷ 200 ∷ []) 100 10 700 67 10 0
    ∷ exact 3 14_400 (201 ∷ 201 ∷ 201 ∷ []) (200 ∷ 200 ∷ 200 ∷ []) 100 10 2000 201 9 1
    -- W* is 6.8, so W+1 is not enough; 2R = W+2 and one metre more; 2R = W+3 and two metres more
    ∷ exact 3 1180 (59 ∷ 59 ∷ 69 ∷ []) (1000 ∷ 1000 ∷ 1000 ∷ []) 5 16 7375 612 12 2
    ∷ exact 3 576 (2 ∷ 2 ∷ 10 ∷ []) (23 ∷ 23 ∷ 101 ∷ []) 8 5 167_256 41_365 4 2
    ∷ exact 3 288 (1 ∷ 1 ∷ 2 ∷ []) (17 ∷ 17 ∷ 29 ∷ []) 5 4 70_992 24_455 2 2
    -- records: examples/not-above.rec and above.rec; and one of which W+1 is not enough, that of examples/joint.rec with energy before the test
    ∷ exact 3 172_800_000 (57_600_000 ∷ 57_600_000 ∷ 57_600_000 ∷ []) (8020 ∷ 8020 ∷ 8020 ∷ []) 718_204 16 401 24 16 0
    ∷ exact 3 175_816_340 (57_600_000 ∷ 57_600_000 ∷ 57_600_000 ∷ []) (8020 ∷ 8020 ∷ 8020 ∷ []) 718_204 17 3_525_117_617 207_360_000 16 1
    ∷ exact 3 188_857_570 (64_740_000 ∷ 55_440_000 ∷ 64_500_000 ∷ []) (8780 ∷ 7240 ∷ 7980 ∷ []) 771_477 17
    342_665_866_411_356_599_573 20_156_854_054_316_400_000 16 2
    -- four cycles, as the shortened method asks for
    ∷ exact 4 15_120 (201 ∷ 201 ∷ 201 ∷ 201 ∷ []) (200 ∷ 200 ∷ 200 ∷ 200 ∷ []) 100 10 700 67 10 0
    ∷ exact 4 14_400 (1009 ∷ 1009 ∷ 1019 ∷ 1019 ∷ []) (1000 ∷ 1000 ∷ 1000 ∷ 1000 ∷ []) 100 10 7_200_000 732_671 9 2
    -- not on the card: an interval counts when it is closed, and the limit is reached when all are
    ∷ shuts 40 0 0 0 none
    ∷ shuts 40 1 1 0 none
    ∷ shuts 40 40 40 39 none
    ∷ shuts 40 41 40 40 limit
    ∷ shuts 40 50 40 40 limit
    ∷ shuts 40 30 20 20 stop
    ∷ shuts 40 40 39 39 stop
    -- not on the card: an interval is of its earlier sample's phase and cycle, also at the joint of two phases and of two cycles;
    -- a phase is finished when its last position's interval is closed
    ∷ gathers 0 0 19 361 false
    ∷ gathers 0 0 20 400 true
    ∷ gathers 0 1 20 0 false
    ∷ gathers 0 1 21 41 false
    ∷ gathers 0 0 50 400 true
    ∷ gathers 0 1 39 1121 false
    ∷ gathers 0 1 40 1200 true
    ∷ gathers 1 0 40 0 false
    ∷ gathers 1 0 41 81 false
    ∷ gathers 1 0 59 1881 false
    ∷ gathers 1 0 60 2000 true
    ∷ gathers 1 2 80 0 false
    -- document 02, L5: a stop in each of the four cycles; M (samples 80 to 82) is not judged, and the count begins afresh in cycle 3
    ∷ short 3 100 (leg 4 131 ∷ []) stop 3 3 0 (4 ∷ 0 ∷ 0 ∷ 0 ∷ []) 0 0 false 0
    ∷ short 3 100 (leg 40 100 ∷ leg 4 131 ∷ []) stop 43 43 1 (0 ∷ 4 ∷ 0 ∷ 0 ∷ []) 1 0 false 0
    ∷ short 3 100 (leg 80 100 ∷ leg 3 0 ∷ leg 6 131 ∷ []) stop 86 86 2 (0 ∷ 0 ∷ 4 ∷ 0 ∷ []) 2 3 true 0
    ∷ short 3 100 (leg 77 100 ∷ leg 9 131 ∷ leg 1 100 ∷ []) none 87 86 2 (0 ∷ 3 ∷ 3 ∷ 0 ∷ []) 2 3 true 0
    ∷ short 3 100 (leg 123 100 ∷ leg 4 131 ∷ []) stop 126 126 3 (0 ∷ 0 ∷ 0 ∷ 4 ∷ []) 3 3 true 0
    -- it ends on each joint, and with one sample more: before M, inside it, behind it, before E, four finished and none closed in E
    ∷ short 3 100 (leg 80 100 ∷ []) none 80 79 1 clean 1 0 false 0
    ∷ short 3 100 (leg 81 100 ∷ []) none 81 80 2 clean 1 0 false 0
    ∷ short 3 100 (leg 82 100 ∷ []) none 82 81 2 clean 1 1 false 0
    ∷ short 3 100 (leg 83 100 ∷ []) none 83 82 2 clean 1 2 false 0
    ∷ short 3 100 (leg 84 100 ∷ []) none 84 83 2 clean 2 3 true 0
    ∷ short 3 100 (leg 163 100 ∷ []) none 163 162 3 clean 3 3 true 0
    ∷ short 3 100 (leg 164 100 ∷ []) none 164 163 4 clean 3 3 true 0
    -- M of one sample
    ∷ short 1 100 (leg 81 100 ∷ []) none 81 80 2 clean 1 0 false 0
    ∷ short 1 100 (leg 82 100 ∷ []) none 82 81 2 clean 2 1 true 0
    -- E begins with sample 163, and at 69 a sample is below 100 less 30: not at the 79th, at the 80th; 79, one that is not (70), 80
    ∷ short 3 100 (leg 164 100 ∷ leg 79 69 ∷ []) none 243 242 4 clean 3 3 true 79
    ∷ short 3 100 (leg 164 100 ∷ leg 80 69 ∷ []) stop 243 243 4 clean 3 3 true 80
    ∷ short 3 100 (leg 164 100 ∷ leg 79 69 ∷ leg 1 70 ∷ leg 80 69 ∷ []) stop 323 323 4 clean 3 3 true 160
    -- 80 below before the set speed is reached; it is never reached, though it is within the tolerance; it is reached in the cycles only;
    -- it is as low as the tolerance, so that nothing is below
    ∷ short 3 100 (leg 163 100 ∷ leg 80 69 ∷ leg 1 100 ∷ []) none 244 243 4 clean 3 3 true 80
    ∷ short 3 101 (leg 164 100 ∷ leg 80 70 ∷ []) none 244 243 4 clean 3 3 true 80
    ∷ short 3 130 (leg 163 130 ∷ leg 80 99 ∷ []) none 243 242 4 clean 3 3 true 79
    ∷ short 3 30 (leg 163 100 ∷ leg 1 30 ∷ leg 80 0 ∷ []) none 244 243 4 clean 3 3 true 80
    -- not on the card: the bench controller's answers, each refusal with the next one's fault there too
    ∷ asks [] 101 0 40 1501 (neg_ℤ (pos 2))
    ∷ asks (flat 100) 101 0 40 1501 (neg_ℤ (pos 3))
    ∷ asks (flat 100) 30 0 40 1501 (neg_ℤ (pos 6))
    ∷ asks (flat 100) 30 0 39 1501 (neg_ℤ (pos 5))
    ∷ asks (flat 100) 30 0 39 69 (pos 1)
    ∷ asks (flat 100) 30 0 39 130 (pos 0)
    ∷ asks (flat 100) 30 0 39 131 (pos 2)
    ∷ []
