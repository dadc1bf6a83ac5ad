-- How a run goes on: it carries what it has so far, and gives a value or stops.
use Rattle.std.specs.Prelude.{ℕ, ◌+◌, ◌-◌, true, false, if◌then◌else◌, nat_le, is_some, ◌||◌, List, [], ◌∷◌, ◌++◌, length, map, slice_get, slice_set, take, drop, Some, None, unwrap_or}
use Rattle.std.specs.Option.{option_map_or}
use Rattle.ecf_lang.specs.declared.cell.Cell.{Cell}
use Rattle.ecf_lang.specs.declared.run.Step.{Step}
use Rattle.ecf_lang.specs.declared.run.Invocation.{Invocation}
use Rattle.ecf_lang.specs.declared.run.Cause.{Cause}
use Rattle.ecf_lang.specs.Store.{Store, Cells, find_cell, read, set}

-- what a run has so far
pub record State : Type 0 where
  -- the fuel that is left; none once a charge was more than what was left
  pub fuel : ℕ
  -- the written cells with their present numbers, rising
  pub written : Cells
  -- what was read from the store, in the order of first read
  pub reads : Cells
  -- the steps of the invocations that aren't undone
  pub steps : List Step
  -- the invocations in the order of opening
  pub invocations : List Invocation

-- how a run stops without a value
pub data Halt : Type 0 where
  Reverts : Cause → Halt
  RunsOut : Halt

-- where a part of a run leads: to a value, or to a stop
pub data Control (A : Type 0) : Type 0 where
  Done : A → State → Control A
  Exit : Halt → State → Control A

-- a part of a run: from what the run has so far to where it leads
abbrev pub Part : Type 0 → Type 0
Part A = State → Control A

-- one part after another; a stop ends the whole
abbrev pub after : {A B : Type 0} → Control A → (A → Part B) → Control B
after (Done value state) next = next value state
after (Exit halt state) next = Exit halt state

infixl 10 ◌>>=◌
abbrev pub ◌>>=◌ : {A B : Type 0} → Part A → (A → Part B) → Part B
(part >>= next) state = after (part state) next

infixl 10 ◌>>◌
abbrev pub ◌>>◌ : {A B : Type 0} → Part A → Part B → Part B
(part >> next) state = after (part state) (λ _. next)

-- gives a value at once
abbrev pub pure : {A : Type 0} → A → Part A
pure value state = Done value state

-- stops
abbrev pub revert : {A : Type 0} → Cause → Part A
revert cause state = Exit (Reverts cause) state

-- the invocations with one of them changed
abbrev pub with_change : (Invocation → Invocation) → List Invocation → ℕ → List Invocation
with_change change invocations n = option_map_or (λ one. slice_set invocations n (change one)) (slice_get invocations n) invocations

-- fuel that is charged in an invocation
abbrev pub with_charge : ℕ → Invocation → Invocation
with_charge n one = record one { own_fuel = one.own_fuel + n }

-- one more answer that an invocation got from its calls
abbrev pub with_heard : ℕ → Invocation → Invocation
with_heard value one = record one { answers = one.answers ++ value ∷ [] }

-- an invocation's own answer
abbrev pub with_answer : ℕ → Invocation → Invocation
with_answer value one = record one { answer = Some value }

-- an invocation that a try undid
abbrev pub as_undone : Invocation → Invocation
as_undone one = record one { undone = true }

-- a charge in the invocation of that number; one that exceeds what is left takes the rest and ends the run
unfoldable pub pay : ℕ → ℕ → Part Unit
pay inv n state =
    if nat_le n state.fuel
    then Done tt (record state { fuel = state.fuel - n; invocations = with_change (with_charge n) state.invocations inv })
    else Exit RunsOut (record state { fuel = 0 })

-- what a cell holds now: what the run wrote last and didn't undo, else what the store holds
abbrev pub value_now : Store → State → Cell → ℕ
value_now store state cell = unwrap_or (find_cell state.written cell) (read store cell)

-- the reads with that of a cell, which is kept where it is the first and the run hasn't written the cell
abbrev pub with_read : Cells → Cells → Cell → ℕ → Cells
with_read written reads cell value =
    if is_some (find_cell written cell) || is_some (find_cell reads cell) then reads else reads ++ (cell, value) ∷ []

-- a read of a cell
unfoldable pub read_cell : Store → ℕ → Cell → Part ℕ
read_cell store inv cell state =
    let value = value_now store state cell in
    Done value (record state {
      reads = with_read state.written state.reads cell value;
      steps = state.steps ++ record { inv = inv; write = false; cell = cell; value = value } ∷ [];
    })

-- a write of a number into a cell
unfoldable pub write_cell : ℕ → Cell → ℕ → Part Unit
write_cell inv cell value state =
    Done tt (record state {
      written = set state.written cell value;
      steps = state.steps ++ record { inv = inv; write = true; cell = cell; value = value } ∷ [];
    })

-- a change of the invocation of that number
abbrev pub note : (Invocation → Invocation) → ℕ → Part Unit
note change inv state = Done tt (record state { invocations = with_change change state.invocations inv })

-- a new invocation, and its number
abbrev pub begin : ℕ → ℕ → List ℕ → Part ℕ
begin object method args state =
    Done (length state.invocations) (record state {
      invocations = state.invocations ++ record { object = object; method = method; args = args; answer = None; answers = []; own_fuel = 0; undone = false } ∷ [];
    })

-- what a run has after the parts since an earlier moment were undone: what was read, charged and opened stays
abbrev pub back_to : State → State → State
back_to earlier later = record later {
  written = earlier.written;
  steps = earlier.steps;
  invocations = take (length earlier.invocations) later.invocations ++ map as_undone (drop (length earlier.invocations) later.invocations);
}

-- a part under a try: 1 where it answers; where it reverts it is undone, and 0; want of fuel isn't caught
unfoldable pub attempt_of : Part ℕ → Part ℕ
attempt_of part state = caught state (part state)
  where
    caught : State → Control ℕ → Control ℕ
    caught earlier (Done value later) = Done 1 later
    caught earlier (Exit (Reverts cause) later) = Done 0 (back_to earlier later)
    caught earlier (Exit RunsOut later) = Exit RunsOut later
