-- `map::clear_map` meets its contract: `fill` leaves so many zeros in the part that it is lent.
use Rattle.numbers.proofs.Lists.{filled}
use Rattle.rules.specs.Shown.{map_words}
use Rattle.map.proofs.clear_map.Goals as goal

pub returns : goal.returns
returns c = filled 0 map_words c.args.map.now _ c.requires (c.fill.ensures.after (λ y e. e))
