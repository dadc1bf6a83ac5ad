-- What the definitions promise.
use Rattle.std.specs.List.Sorted.{IsNonDecreasingBy, IsStrictlyIncreasing}
use Rattle.std.specs.Prelude.{◌&&◌, ⊤, nat_lt, map, Any, ◌≡◌, ◌↔◌, ◌≢◌, ◌⊎◌, ◌==◌, ◌<◌, ◌≤◌, ◌+◌, ◌-◌, ℕ, true, false, List, [], ◌∷◌, All, AllPairs, Contains, IsPermutation, Some, filter, length, slice_index, slice_index_or, take}
use Rattle.ecf_lang.specs.declared.cell.Cell.{Cell}
use Rattle.ecf_lang.specs.declared.receipt.Order.{Order}
use Rattle.ecf_lang.specs.declared.run.Step.{Step}
use Rattle.ecf_verdicts.specs.Before.{before}
use Rattle.ecf_verdicts.specs.Blocks.{blocks}
use Rattle.ecf_verdicts.specs.Conflicts.{conflicts, same_cell}
use Rattle.ecf_verdicts.specs.Cycles.{at, cycle, is_placed, least_before, walk}
use Rattle.ecf_verdicts.specs.Free.{Free}
use Rattle.ecf_verdicts.specs.Placing.{next_placed, placing}
use Rattle.ecf_verdicts.specs.Swaps.{swaps}
use Rattle.ecf_verdicts.specs.Traces.{members, trace}
use Rattle.ecf_verdicts.specs.Verdicts.{Verdict, Approved, Vetoed, verdict}

-- a trace is free exactly where the placing leaves no rest
abbrev pub FreeExactlyWherePlaced : Type 0
FreeExactlyWherePlaced = (t : List Step) → Free t ↔ ((placing t).rest ≡ [])

-- a rank of invocations that keeps what is before what
abbrev pub KeepsBefore : List Step → (ℕ → ℕ) → Type 0
KeepsBefore t rank = (i j : ℕ) → before t i j ≡ true → rank i < rank j

-- a trace is free exactly where some rank keeps what is before what
abbrev pub FreeExactlyWhereOrdered : Type 0
FreeExactlyWhereOrdered = (t : List Step) → Free t ↔ (rank : ℕ → ℕ) × KeepsBefore t rank

-- the test says which traces are free
abbrev pub TestTellsFree : Type 0
TestTellsFree = (t : List Step) → ((is_placed t ≡ true) ↔ Free t) × ((is_placed t ≡ false) ↔ (Free t → ⊥))

-- a free trace is brought into the blocks of its invocations in their named order
abbrev pub FreeInBlocks : Type 0
FreeInBlocks = (t : List Step) → Free t → (places : List ℕ) × (swaps t places ≡ Some (blocks t (placing t).order))

-- a trace of one invocation is free
abbrev pub SingleFree : Type 0
SingleFree = (t : List Step) (inv : ℕ) → All (λ s. s.inv ≡ inv) t → Free t

-- steps of one invocation are approved, with no orders
abbrev pub SingleApproved : Type 0
SingleApproved = (steps : List Step) (inv : ℕ) → All (λ s. s.inv ≡ inv) steps → verdict steps ≡ Approved []

-- legal swaps only move the steps
abbrev pub SwapsPermute : Type 0
SwapsPermute = (t : List Step) (places : List ℕ) (u : List Step) → swaps t places ≡ Some u → IsPermutation t u

-- legal swaps keep the order of each invocation's steps
abbrev pub SwapsKeepInvocations : Type 0
SwapsKeepInvocations = (t : List Step) (places : List ℕ) (u : List Step) → swaps t places ≡ Some u → (inv : ℕ) →
    filter (λ s. s.inv == inv) u ≡ filter (λ s. s.inv == inv) t

-- legal swaps keep the order of the writes of each cell
abbrev pub SwapsKeepWrites : Type 0
SwapsKeepWrites = (t : List Step) (places : List ℕ) (u : List Step) → swaps t places ≡ Some u → (c : Cell) →
    filter (λ s. s.write && same_cell s.cell c) u ≡ filter (λ s. s.write && same_cell s.cell c) t

-- legal swaps keep which invocation is before which
abbrev pub SwapsKeepBefore : Type 0
SwapsKeepBefore = (t : List Step) (places : List ℕ) (u : List Step) → swaps t places ≡ Some u → (i j : ℕ) → before u i j ≡ before t i j

-- legal swaps can be undone by legal swaps
abbrev pub SwapsUndone : Type 0
SwapsUndone = (t : List Step) (places : List ℕ) (u : List Step) → swaps t places ≡ Some u → (back : List ℕ) × (swaps u back ≡ Some t)

-- each first part of a free trace is free
abbrev pub FirstPartsFree : Type 0
FirstPartsFree = (t : List Step) → Free t → (n : ℕ) → Free (take n t)

-- how many pairs of steps a rank of invocations puts the other way round
unfoldable pub inversion_count : (ℕ → ℕ) → List Step → ℕ
inversion_count rank [] = 0
inversion_count rank (s ∷ later) =
    length (filter (λ u. nat_lt (rank u.inv) (rank s.inv)) later) + inversion_count rank later

-- legal swaps to a trace in which the rank doesn't fall
pub record SwapsTo (rank : ℕ → ℕ) (t : List Step) (places : List ℕ) (u : List Step) : Type 0 where
  pub swaps_to_result : swaps t places ≡ Some u
  pub in_order : IsNonDecreasingBy (λ (s : Step). rank s.inv) u

-- a rank that keeps what is before what is reached by legal swaps, one for each pair of steps out of it
abbrev pub SwapsIntoOrder : Type 0
SwapsIntoOrder = (t : List Step) (rank : ℕ → ℕ) → KeepsBefore t rank →
    (places : List ℕ) × (u : List Step) × SwapsTo rank t places u × (length places ≡ inversion_count rank t)

-- two places of the trace, the first earlier, whose steps are of i and of j and conflict
abbrev pub ConflictsInOrder : List Step → ℕ → ℕ → Type 0
ConflictsInOrder t i j = (p : ℕ) × (q : ℕ) × (p < q) × (q < length t) × (
    (d : Step) → ((slice_index_or t p d).inv ≡ i) × ((slice_index_or t q d).inv ≡ j)
    × (conflicts (slice_index_or t p d) (slice_index_or t q d) ≡ true))

-- "before" says exactly that there are such places
abbrev pub BeforeExactlyWhere : Type 0
BeforeExactlyWhere = (t : List Step) (i j : ℕ) → (before t i j ≡ true) ↔ ConflictsInOrder t i j

-- the members are the invocations with steps, rising
abbrev pub MembersAre : Type 0
MembersAre = (t : List Step) → IsStrictlyIncreasing (members t) × ((i : ℕ) → Contains (members t) i ↔ Any (λ s. s.inv ≡ i) t)

-- what is before what has steps
abbrev pub BeforeIsOfMembers : Type 0
BeforeIsOfMembers = (t : List Step) (i j : ℕ) → before t i j ≡ true → Contains (members t) i × Contains (members t) j

-- the placed invocations are distinct and have steps
abbrev pub PlacesMembers : Type 0
PlacesMembers = (t : List Step) → AllPairs (λ i j. i ≢ j) (placing t).order × All (Contains (members t)) (placing t).order

-- whatever is before a placed invocation is placed earlier
abbrev pub PlacedKeepsBefore : Type 0
PlacedKeepsBefore = (t : List Step) (k i : ℕ) → k < length (placing t).order → before t i (slice_index (placing t).order k) ≡ true →
    (m : ℕ) × (m < k) × (slice_index (placing t).order m ≡ i)

-- each invocation that has steps is placed or in the rest
abbrev pub MembersPlacedOrRest : Type 0
MembersPlacedOrRest = (t : List Step) → All (λ i. Contains (placing t).order i ⊎ Contains (placing t).rest i) (members t)

-- each of the rest has one of the rest before it, so that nothing more can be placed
abbrev pub RestIsStuck : Type 0
RestIsStuck = (t : List Step) → All (λ j. (i : ℕ) × Contains (placing t).rest i × (before t i j ≡ true)) (placing t).rest

-- the rest rises
abbrev pub RestRises : Type 0
RestRises = (t : List Step) → IsStrictlyIncreasing (placing t).rest

-- of rising unplaced invocations the next is the least that none of them is before
abbrev pub NextIsLeast : Type 0
NextIsLeast = (t : List Step) (unplaced : List ℕ) (j : ℕ) → IsStrictlyIncreasing unplaced → next_placed t unplaced ≡ Some j →
    Contains unplaced j × ((i : ℕ) → Contains unplaced i → before t i j ≡ true → ⊥)
    × ((k : ℕ) → Contains unplaced k → k < j → (i : ℕ) × Contains unplaced i × (before t i k ≡ true))

-- the walk goes to the least of a rising rest that is before the present one
abbrev pub StepIsLeast : Type 0
StepIsLeast = (t : List Step) (rest : List ℕ) (j i : ℕ) → IsStrictlyIncreasing rest → least_before t rest j ≡ Some i →
    Contains rest i × (before t i j ≡ true) × ((k : ℕ) → Contains rest k → k < i → before t k j ≡ true → ⊥)

-- the walk never ends for want of moves: with more of them it gives the same
abbrev pub MovesSuffice : Type 0
MovesSuffice = (t : List Step) (i : ℕ) (is : List ℕ) → (placing t).rest ≡ i ∷ is → (n : ℕ) → length (i ∷ is) ≤ n →
    walk t (i ∷ is) n i [] ≡ walk t (i ∷ is) (length (i ∷ is)) i []

-- a cycle: several invocations, none twice, the least first, each before the next and the last before the first
pub record IsCycle (t : List Step) (c : List ℕ) : Type 0 where
  pub several : 2 ≤ length c
  pub distinct : AllPairs (λ i j. i ≢ j) c
  pub least_first : All (λ i. slice_index c 0 ≤ i) c
  pub each_before : (k : ℕ) → k + 1 < length c → before t (slice_index c k) (slice_index c (k + 1)) ≡ true
  pub last_before : before t (slice_index c (length c - 1)) (slice_index c 0) ≡ true

-- the named cycle of a trace that isn't free is a cycle
abbrev pub CycleNamed : Type 0
CycleNamed = (t : List Step) → (Free t → ⊥) → IsCycle t (cycle t)

-- of a trace that isn't free: the first part of `at` steps isn't free, and each shorter one is
pub record IsShortest (t : List Step) (n : ℕ) : Type 0 where
  pub some_steps : 0 < n
  pub within : n ≤ length t
  pub not_free : Free (take n t) → ⊥
  pub shorter_free : (m : ℕ) → m < n → Free (take m t)

-- a veto's number of steps is that of the shortest first part that isn't free
abbrev pub AtIsShortest : Type 0
AtIsShortest = (t : List Step) → (Free t → ⊥) → IsShortest t (at t)

-- a veto names the least object whose trace isn't free
abbrev pub VetoesLeast : Type 0
VetoesLeast = (steps : List Step) (o n : ℕ) (c : List ℕ) → verdict steps ≡ Vetoed o n c →
    (Free (trace steps o) → ⊥) × ((p : ℕ) → p < o → Free (trace steps p))

-- a veto's cycle is one of that object's trace, and its number of steps that of the shortest part that isn't free
abbrev pub VetoesExplain : Type 0
VetoesExplain = (steps : List Step) (o n : ℕ) (c : List ℕ) → verdict steps ≡ Vetoed o n c →
    IsShortest (trace steps o) n × IsCycle (trace steps o) c

-- an approval means that the trace of each object is free
abbrev pub ApprovesFree : Type 0
ApprovesFree = (steps : List Step) (orders : List Order) → verdict steps ≡ Approved orders → (o : ℕ) → Free (trace steps o)

-- the verdict is a veto
abbrev pub IsVeto : Verdict → Type 0
IsVeto (Approved orders) = ⊥
IsVeto (Vetoed o n c) = ⊤

-- a veto is given exactly where the trace of some object isn't free
abbrev pub VetoedExactlyWhere : Type 0
VetoedExactlyWhere = (steps : List Step) → IsVeto (verdict steps) ↔ (o : ℕ) × (Free (trace steps o) → ⊥)

-- an approval lists, objects rising, the named order of each object on which at least two invocations have steps
pub record ListsOrders (steps : List Step) (orders : List Order) : Type 0 where
  pub objects_rise : IsStrictlyIncreasing (map (λ r. r.object) orders)
  pub orders_named : All (λ r. r.invs ≡ (placing (trace steps r.object)).order) orders
  pub where_several : (o : ℕ) → Any (λ r. r.object ≡ o) orders ↔ (2 ≤ length (members (trace steps o)))

-- so each approval lists its orders
abbrev pub ApprovesOrders : Type 0
ApprovesOrders = (steps : List Step) (orders : List Order) → verdict steps ≡ Approved orders → ListsOrders steps orders
