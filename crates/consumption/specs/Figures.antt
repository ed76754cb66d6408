-- The closing of n finished cycles, read off a ledger, and what one pass over the ledger gathers for it.
-- Assumes nothing.
use Rattle.std.specs.Prelude.{List, ℕ, ◌+◌, ◌-◌, ◌*◌, ◌/◌, ◌≤◌, leb, ℤ, pos, ◌+ℤ◌}
use Rattle.std.specs.Int.Signed.{le_z}
use Rattle.rules.specs.Words.{all_below, sum, unless, up}
use Rattle.rules.specs.declared.Amounts.{Amounts}
use Rattle.rules.specs.Closing.{Charge, ClosingAnswer, most_rate, is_rate, rate_of, weight, range, recharge_by, together, closing_by}
use Rattle.laws.specs.Beside.{most_whole}
use Rattle.rules.specs.Bench.{most_cycles}
use Rattle.laws.specs.Answers.{Said, gives, refuses, Figured, figured_said}
use Rattle.ledger.specs.Row.{energy_in, distance_in, energy_all}
use Rattle.consumption.specs.declared.Rated.{Rated}
use Rattle.consumption.specs.declared.Gathered.{Gathered}

-- the closing by the rules, of n finished cycles and these amounts: so much energy is beside the cycles, and the method asks for so many
abbrev pub closing_on : List ℤ → ℤ → ℕ → ℕ → Amounts → ClosingAnswer
closing_on l beside asked n a = closing_by (a.before +ℤ (energy_all l +ℤ beside)) n (energy_in l) (distance_in l) a.after asked a.charge

-- ---- what one pass gathers

-- e_c and q_c
abbrev pub rated_in : List ℤ → ℕ → Rated
rated_in l c = record { energy = up (energy_in l c); rate = rate_of (energy_in l) (distance_in l) c }

-- of n cycles: the first two, q_3 + .. + q_n, e_1 + .. + e_n, whether each has drawn energy, and whether each rate is within its limits
abbrev pub gathered_in : List ℤ → ℕ → Gathered
gathered_in l n = record {
  first = rated_in l 0;
  second = rated_in l 1;
  rates = sum (λ c. rate_of (energy_in l) (distance_in l) (2 + c)) (n - 2);
  energy = sum (λ c. up (energy_in l c)) n;
  drawn = all_below n (λ c. le_z (pos 1) (energy_in l c));
  rated = all_below n (λ c. is_rate (rate_of (energy_in l) (distance_in l) c));
}

-- ---- the figures of what is gathered, with the whole energy E

-- W
abbrev pub weighed_by : Gathered → ℕ → ℕ → ℕ
weighed_by g n E =
    ((n - 2) * (g.first.rate * g.first.energy + g.second.rate * g.second.energy) + (E - g.first.energy - g.second.energy) * g.rates)
    / weight E n

-- what the tests up to 12 leave
pub record Weighable (g : Gathered) (n E : ℕ) : Type 0 where
  pub three : 3 ≤ n
  pub most : n ≤ most_cycles
  pub some : 1 ≤ E
  pub small : E ≤ most_whole
  pub parts : g.first.energy + g.second.energy ≤ E
  pub first : g.first.rate ≤ most_rate
  pub second : g.second.rate ≤ most_rate
  pub least : 1 ≤ weighed_by g n E
  pub greatest : weighed_by g n E ≤ most_rate

-- 13, or the figures
unfoldable pub finished_by : Gathered → ℕ → ℤ → ℤ → Charge → Said Figured
finished_by g n E F charge =
    let W = weighed_by g n (up E) in
    let R = range (up E) W in
    unless (refuses 13) (leb 1 R) (gives (figured_said (together W R (recharge_by E R F charge))))
