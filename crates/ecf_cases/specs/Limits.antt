-- The tests of a call, in their order: open frames, then invocations, then the method.
use Rattle.std.specs.Prelude.{◌≡◌, ℕ, suc, ◌<◌, ◌≤◌, List, length, None}
use Rattle.ecf_lang.specs.declared.limits.TheConstants.{MAX_INVOCATIONS}
use Rattle.ecf_lang.specs.declared.run.Cause.TheVariants.{NoMethod, Depth, Calls}
use Rattle.ecf_lang.specs.declared.typed.Typed.{Typed}
use Rattle.ecf_lang.specs.Store.{Store}
use Rattle.ecf_lang.specs.Fits.{method_at}
use Rattle.ecf_lang.specs.Part.{State, Exit, Reverts}
use Rattle.ecf_lang.specs.Meaning.{ways}

-- where no frame may be opened, that is what a call reverts for, whatever the method and the number of invocations
abbrev pub DepthBeforeAll : Type 0
DepthBeforeAll = (typed : Typed) (store : Store) (to name : ℕ) (args : List ℕ) (s : State) →
    (ways typed store 0).anew to name args s ≡ Exit (Reverts Depth) s

-- so for an internal call
abbrev pub DepthBeforeMethod : Type 0
DepthBeforeMethod = (typed : Typed) (store : Store) (here inv name : ℕ) (args : List ℕ) (s : State) →
    (ways typed store 0).within here inv name args s ≡ Exit (Reverts Depth) s

-- where a frame may be opened and no invocation, a call reverts for that, whatever the method
abbrev pub InvocationsBeforeMethod : Type 0
InvocationsBeforeMethod = (typed : Typed) (store : Store) (room to name : ℕ) (args : List ℕ) (s : State) →
    MAX_INVOCATIONS ≤ length s.invocations → (ways typed store (suc room)).anew to name args s ≡ Exit (Reverts Calls) s

-- where both may be opened, a missing method is what a call reverts for, and no invocation is opened
abbrev pub MethodAtLast : Type 0
MethodAtLast = (typed : Typed) (store : Store) (room to name : ℕ) (args : List ℕ) (s : State) →
    length s.invocations < MAX_INVOCATIONS → method_at typed to name ≡ None →
    (ways typed store (suc room)).anew to name args s ≡ Exit (Reverts NoMethod) s

-- an internal call doesn't ask how many invocations there are
abbrev pub InternalMethod : Type 0
InternalMethod = (typed : Typed) (store : Store) (room here inv name : ℕ) (args : List ℕ) (s : State) →
    method_at typed here name ≡ None → (ways typed store (suc room)).within here inv name args s ≡ Exit (Reverts NoMethod) s
