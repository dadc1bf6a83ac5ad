-- Which calls of an object in memory fail.
use Rattle.std.specs.Prelude.{ℕ, Bool, List, ◌==◌, if◌then◌else◌}
use Rattle.std.specs.List.{list_any}
use Rattle.ecf_edge.specs.Count.{counted_up}

-- the numbers of the calls that fail, the number of the next call, and how many calls have failed
pub record Plan : Type 0 where
  pub fails : List ℕ
  pub next : ℕ
  pub faults : ℕ

-- before the first call
abbrev pub fresh_plan : List ℕ → Plan
fresh_plan fails = record { fails = fails; next = 1; faults = 0 }

-- whether the next call is one of those that fail
abbrev pub next_fails : Plan → Bool
next_fails plan = list_any (λ number. number == plan.next) plan.fails

-- one call later: the number of the next call goes up, and the count of faults where the call failed
abbrev pub after_call : Plan → Plan
after_call plan = record {
  fails = plan.fails;
  next = counted_up plan.next;
  faults = if next_fails plan then counted_up plan.faults else plan.faults;
}
