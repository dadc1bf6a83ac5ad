-- The first fault: the one of the least token, and of those at one token the one whose kind stands first.
use Rattle.std.specs.Prelude.{◌≡◌, ℕ, ◌==◌, nat_lt, Bool, false, [], ◌&&◌, ◌||◌, if◌then◌else◌, List, Option, Some, None, All}
use Rattle.std.specs.List.{fold, Contains}
use Rattle.ecf_faults.specs.declared.What.{What}
use Rattle.ecf_faults.specs.declared.What.TheVariants as what
use Rattle.ecf_faults.specs.declared.Fault.{Fault}

-- the place of a kind among the kinds
abbrev pub rank : What → ℕ
rank what.TwoObjects = 0
rank what.TwoFields = 1
rank what.TwoMethods = 2
rank what.TwoLocals = 3
rank what.TwoSignatures = 4
rank what.TwoKeys = 5
rank what.TooManyObjects = 6
rank what.TooManyMembers = 7
rank what.TooManyLocals = 8
rank what.UnknownName = 9
rank what.Misused = 10
rank what.UnknownMethod = 11
rank what.WrongArity = 12
rank what.WrongType = 13

-- whether a fault stands before another
abbrev pub precedes : Fault → Fault → Bool
precedes a b = nat_lt a.token b.token || (a.token == b.token && nat_lt (rank a.what) (rank b.what))

-- the first of a fault that there may be and of one more
abbrev pub least_of_both : Option Fault → Fault → Option Fault
least_of_both None new = Some new
least_of_both (Some old) new = if precedes new old then Some new else Some old

-- the first of a fault that there may be and of more
abbrev pub least_with : Option Fault → List Fault → Option Fault
least_with = fold least_of_both

-- a fault is among these, and none of them stands before it
abbrev pub IsLeast : Fault → List Fault → Type 0
IsLeast fault faults = Contains faults fault × All (λ other. precedes other fault ≡ false) faults

-- what going through a list leaves is its first fault
abbrev pub LeftIsLeast : Type 0
LeftIsLeast = (faults : List Fault) (fault : Fault) → least_with None faults ≡ Some fault → IsLeast fault faults

-- where nothing is left, there was no fault
abbrev pub LeftOfNone : Type 0
LeftOfNone = (faults : List Fault) → least_with None faults ≡ None → faults ≡ []
