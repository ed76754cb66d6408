-- Every row of the test card holds of the definitions: antt computes them.
-- Assumes nothing.
use lib.Dec.{T}
use Rattle.rules.specs.Words.{be, fold, gather, first, all_below, every, unless}
use Rattle.rules.specs.Cycle.{valid, phase_at}
use Rattle.rules.specs.Band.{grid20, inside, side, verdict}
use Rattle.rules.specs.Bench.{tolerable}
use Rattle.rules.specs.Question.{question}
use Rattle.rules.specs.Tally.{over}
use Rattle.rules.specs.Parts.{cycles}
use Rattle.rules.specs.Shortened.{stops_in_e}
use Rattle.rules.specs.Shown.{shown_row}
use Rattle.rules.specs.Closing.{weighing, closing_refusal, recharge_refusal}
use Rattle.rules.specs.Rows.{holds}
use Rattle.rules.specs.Card.{card}

pub card_holds : T (every holds card)
unfolding be fold gather first all_below valid grid20 inside over cycles stops_in_e shown_row weighing unless closing_refusal recharge_refusal tolerable side verdict question phase_at card holds
card_holds = tt
