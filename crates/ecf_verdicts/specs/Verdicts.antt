-- What is decided on the steps of a run that answered.
use Rattle.std.specs.Prelude.{ℕ, not, nat_lt, if◌then◌else◌, List, [], ◌∷◌, length, find, Option, Some, None}
use Rattle.ecf_lang.specs.declared.receipt.Order.{Order}
use Rattle.ecf_lang.specs.declared.run.Step.{Step}
use Rattle.ecf_verdicts.specs.Cycles.{at, cycle, is_placed}
use Rattle.ecf_verdicts.specs.Placing.{placing}
use Rattle.ecf_verdicts.specs.Traces.{members, objects, trace}

-- approved with orders, or vetoed at an object with the number of steps and the cycle
pub data Verdict : Type 0 where
  Approved : List Order → Verdict
  Vetoed : ℕ → ℕ → List ℕ → Verdict

-- the named order of each object on which at least two invocations have steps
unfoldable pub orders : List Step → List ℕ → List Order
orders steps [] = []
orders steps (o ∷ os) =
    let later = orders steps os in
    let order : Order = record { object = o; invs = (placing (trace steps o)).order } in
    if nat_lt 1 (length (members (trace steps o))) then order ∷ later else later

-- the least object whose trace isn't free; the objects rise
unfoldable pub vetoed_object : List Step → Option ℕ
vetoed_object steps = find (λ o. not (is_placed (trace steps o))) (objects steps)

-- a veto at the least object whose trace isn't free, else an approval
unfoldable pub verdict : List Step → Verdict
verdict steps = elim (vetoed_object steps) [
  | None ↦ Approved (orders steps (objects steps))
  | Some o ↦ Vetoed o (at (trace steps o)) (cycle (trace steps o))
]
