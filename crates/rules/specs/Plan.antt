-- What is settled of a run before its first sample, and its course.
-- Assumes nothing.
use Rattle.std.specs.Prelude.{List, ℕ}
use Rattle.rules.specs.Bench.{Tolerances, Method, by_cycles, with_stretches}
use Rattle.rules.specs.Course.{Layout, Rule, Course, course}
use Rattle.rules.specs.Regular.{interval, regular_layout, regular_rule}
use Rattle.rules.specs.Shortened.{shortened_layout, shortened_rule}

-- the cycle's bytes, the tolerances, the method
pub record Plan : Type 0 where
  pub cycle : List ℕ
  pub tolerances : Tolerances
  pub method : Method

abbrev pub plan : List ℕ → Tolerances → Method → Plan
plan b t y = record { cycle = b; tolerances = t; method = y }

-- where the samples stand, what stops the run, and its course, by the method
abbrev pub layout_of : List ℕ → Method → Layout
layout_of b by_cycles = regular_layout b
layout_of b (with_stretches x) = shortened_layout b x.length

abbrev pub rule_of : List ℕ → Tolerances → Method → Rule
rule_of b t by_cycles = regular_rule b t
rule_of b t (with_stretches x) = shortened_rule b t x

abbrev pub course_of : Plan → Course
course_of p = course (layout_of p.cycle p.method) (rule_of p.cycle p.tolerances p.method) interval
