-- What it takes for a transaction to fit a contract.
use Rattle.std.specs.Prelude.{◌==◌, ℕ, ◌^◌, ◌<◌, ◌≤◌, List, length, find, slice_get, Option, option_and_then, IsSome, All, MatchOption}
use Rattle.std.specs.List.{AllZip}
use Rattle.ecf_lang.specs.declared.tree.Ty.{Ty}
use Rattle.ecf_lang.specs.declared.tree.Ty.TheVariants.{Num, Flag, Addr}
use Rattle.ecf_lang.specs.declared.typed.Typed.{Typed}
use Rattle.ecf_lang.specs.declared.typed.TypedObject.{TypedObject}
use Rattle.ecf_lang.specs.declared.typed.TypedMethod.{TypedMethod}
use Rattle.ecf_lang.specs.declared.tx.Tx.{Tx}
use Rattle.ecf_lang.specs.declared.tx.TxCall.{TxCall}
use Rattle.ecf_lang.specs.declared.limits.TheConstants.{MAX_CALLS, MAX_FUEL}

-- the method of that name in an object
abbrev pub method_of : TypedObject → ℕ → Option TypedMethod
method_of object name = find (λ m. m.name == name) object.methods

-- the method of that name in the object of that number
abbrev pub method_at : Typed → ℕ → ℕ → Option TypedMethod
method_at typed object name = option_and_then (λ o. method_of o name) (slice_get typed.objects object)

-- a value of that type: a flag is 0 or 1, an addr the number of an object
abbrev pub IsValue : Typed → Ty → ℕ → Type 0
IsValue typed Num value = value < 2 ^ 128
IsValue typed Flag value = value < 2
IsValue typed Addr value = value < length typed.objects

-- as many arguments as parameters, each of its parameter's type
abbrev pub ArgumentsFit : Typed → List Ty → List ℕ → Type 0
ArgumentsFit typed params args = AllZip (IsValue typed) params args

-- the object has the method, and the arguments are right for it
pub record CallFits (typed : Typed) (call : TxCall) : Type 0 where
  pub method : IsSome (method_at typed call.object call.method)
  pub arguments : MatchOption (slice_get typed.signatures call.method) ⊥ (λ s. ArgumentsFit typed s.params call.args)

-- at least one call and at most MAX_CALLS, each of which fits, and a fuel limit from 1 to MAX_FUEL
pub record Fits (typed : Typed) (tx : Tx) : Type 0 where
  pub some_call : 1 ≤ length tx.calls
  pub few_calls : length tx.calls ≤ MAX_CALLS
  pub calls : All (CallFits typed) tx.calls
  pub some_fuel : 1 ≤ tx.fuel
  pub fuel : tx.fuel ≤ MAX_FUEL
