-- What a line of a stream says: nothing where it is skipped, else a transaction, or the first cause why it is none.
-- A transaction is spelled `submitter object method fuel arg .. ; object method arg ..`, with one space between words and none at the
-- ends; a `;` stands before each further call.
use Rattle.std.specs.Prelude.{ℕ, ◌-◌, ◌^◌, ◌==◌, ◌≤◌, Bool, true, false, ◌&&◌, nat_lt, nat_le, if◌then◌else◌, List, [], ◌∷◌, length, map, position, codes, Option, Some, None, is_some, option_and_then, Result, Ok, Err}
use Rattle.std.specs.List.{list_all, list_any, slice_split}
use Rattle.std.specs.Option.{option_map, ok_or}
use Rattle.std.specs.Str.{bytes_eq}
use Rattle.ecf_decimal.specs.Decimal.{is_numeral, number_value}
use Rattle.ecf_lang.specs.declared.tree.Ty.{Ty}
use Rattle.ecf_lang.specs.declared.tree.Ty.TheVariants.{Num, Flag, Addr}
use Rattle.ecf_lang.specs.declared.typed.Typed.{Typed}
use Rattle.ecf_lang.specs.declared.typed.TypedObject.{TypedObject}
use Rattle.ecf_lang.specs.declared.tx.Tx.{Tx}
use Rattle.ecf_lang.specs.declared.tx.TxCall.{TxCall}
use Rattle.ecf_lang.specs.declared.receipt.StopCause.{StopCause}
use Rattle.ecf_lang.specs.declared.receipt.StopCause.TheVariants.{Form, Object, Method, Fuel, Arity, Arg}
use Rattle.ecf_lang.specs.declared.limits.TheConstants.{MAX_OBJECTS, MAX_CALLS, MAX_FUEL}
use Rattle.ecf_lang.specs.Fits.{method_at}
use Rattle.ecf_lang.specs.Signatures.{params_of}

-- a reading goes on with a value, or stops for a cause
abbrev pub Reading : Type 0 → Type 0
Reading A = Result A StopCause

infixl 10 ◌>>=◌
abbrev pub ◌>>=◌ : {A B : Type 0} → Reading A → (A → Reading B) → Reading B
Ok value >>= next = next value
Err cause >>= next = Err cause

-- the words of a line: what stands before, between and behind its spaces
abbrev pub words : List ℕ → List (List ℕ)
words line = slice_split (λ byte. byte == 32) line

-- a word of no bytes, as two spaces leave one between them
abbrev pub is_empty : List ℕ → Bool
is_empty word = length word == 0

-- the number that a word spells, where it is one in this range
abbrev pub number_within : ℕ → ℕ → List ℕ → Option ℕ
number_within least most word =
    if is_numeral word && nat_le least (number_value word) && nat_le (number_value word) most then Some (number_value word) else None

-- the place of the first name that is this word
abbrev pub number_named : List (List ℕ) → List ℕ → Option ℕ
number_named names word = position (bytes_eq word) names

-- the names of a contract's objects
abbrev pub object_names : Typed → List (List ℕ)
object_names typed = map (λ (o : TypedObject). o.name) typed.objects

-- the number of the object of that name
abbrev pub object_named : Typed → List ℕ → Option ℕ
object_named typed word = number_named (object_names typed) word

-- the number of a method's name, where the object has the method
abbrev pub method_named : Typed → ℕ → List ℕ → Option ℕ
method_named typed object word =
    option_and_then (λ name. if is_some (method_at typed object name) then Some name else None) (number_named typed.names word)

-- a flag's number: 0 is false
abbrev pub flag_named : List ℕ → Option ℕ
flag_named word = if bytes_eq word (codes "true") then Some 1 else if bytes_eq word (codes "false") then Some 0 else None

-- the value that a word spells for a parameter of that type
abbrev pub value_of : Typed → Ty → List ℕ → Option ℕ
value_of typed Num word = number_within 0 (2 ^ 128 - 1) word
value_of typed Flag word = flag_named word
value_of typed Addr word = object_named typed word

-- the values that words spell, one for each parameter
abbrev pub values_of : Typed → List Ty → List (List ℕ) → Option (List ℕ)
values_of typed [] [] = Some []
values_of typed [] (word ∷ more) = None
values_of typed (ty ∷ params) [] = None
values_of typed (ty ∷ params) (word ∷ more) =
    option_and_then (λ value. option_map (λ values. value ∷ values) (values_of typed params more)) (value_of typed ty word)

-- the arguments of a method, as many as it has parameters
abbrev pub arguments_of : Typed → ℕ → List (List ℕ) → Reading (List ℕ)
arguments_of typed method args =
    if length args == length (params_of typed method) then ok_or (values_of typed (params_of typed method) args) Arg else Err Arity

-- the object of that name, and its method of that name
abbrev pub callee_of : Typed → List ℕ → List ℕ → Reading (ℕ × ℕ)
callee_of typed object method =
    ok_or (object_named typed object) Object >>= (λ to.
    ok_or (method_named typed to method) Method >>= (λ name.
    Ok (to, name)))

-- the fuel limit and the first call, which stand behind the submitter
abbrev pub first_call_of : Typed → List (List ℕ) → Reading (ℕ × TxCall)
first_call_of typed (submitter ∷ object ∷ method ∷ fuel ∷ args) =
    callee_of typed object method >>= (λ callee.
    ok_or (number_within 1 MAX_FUEL fuel) Fuel >>= (λ limit.
    arguments_of typed callee.1 args >>= (λ values.
    Ok (limit, record { object = callee.0; method = callee.1; args = values }))))
first_call_of typed few = Err Form

-- a further call
abbrev pub further_call_of : Typed → List (List ℕ) → Reading TxCall
further_call_of typed (object ∷ method ∷ args) =
    callee_of typed object method >>= (λ callee.
    arguments_of typed callee.1 args >>= (λ values.
    Ok (record { object = callee.0; method = callee.1; args = values })))
further_call_of typed few = Err Form

-- further calls, one after the other
abbrev pub further_calls_of : Typed → List (List (List ℕ)) → Reading (List TxCall)
further_calls_of typed [] = Ok []
further_calls_of typed (words ∷ more) =
    further_call_of typed words >>= (λ call.
    further_calls_of typed more >>= (λ calls.
    Ok (call ∷ calls)))

-- the word that stands between calls
abbrev pub is_semicolon : List ℕ → Bool
is_semicolon word = bytes_eq word (codes ";")

-- the words of each call
abbrev pub calls_in : List (List ℕ) → List (List (List ℕ))
calls_in words = slice_split is_semicolon words

-- from one to MAX_CALLS calls: the first of four words at least, each further one of two at least
abbrev pub has_call_form : List (List (List ℕ)) → Bool
has_call_form [] = false
has_call_form (first ∷ further) = nat_le 4 (length first) && list_all (λ call. nat_le 2 (length call)) further && nat_lt (length further) MAX_CALLS

-- words have the form of a transaction: such calls, and no word is empty
abbrev pub has_form : List (List ℕ) → Bool
has_form words = if list_any is_empty words then false else has_call_form (calls_in words)

-- the submitter, where the words have the form of a transaction
abbrev pub submitter_of : List (List ℕ) → Reading ℕ
submitter_of [] = Err Form
submitter_of (submitter ∷ more) = if has_form (submitter ∷ more) then ok_or (number_within 0 (2 ^ 32 - 1) submitter) Form else Err Form

-- the transaction that these calls are, the first of them with the submitter and the fuel limit
abbrev pub tx_of_calls : Typed → ℕ → List (List (List ℕ)) → Reading Tx
tx_of_calls typed submitter [] = Err Form
tx_of_calls typed submitter (first ∷ further) =
    first_call_of typed first >>= (λ asked.
    further_calls_of typed further >>= (λ calls.
    Ok (record { submitter = submitter; fuel = asked.0; calls = asked.1 ∷ calls })))

-- the transaction that words spell; what is asked of them is asked in this order
abbrev pub tx_of_words : Typed → List (List ℕ) → Reading Tx
tx_of_words typed words = submitter_of words >>= (λ submitter. tx_of_calls typed submitter (calls_in words))

-- an empty line is skipped, and one that begins with `#`
abbrev pub is_skipped : List ℕ → Bool
is_skipped [] = true
is_skipped (first ∷ more) = first == 35

-- what a line says
abbrev pub line_of : Typed → List ℕ → Reading (Option Tx)
line_of typed line = if is_skipped line then Ok None else (tx_of_words typed (words line) >>= (λ tx. Ok (Some tx)))

-- each object and each method name has a number that a transaction can hold, and each method name a signature
pub record IsNumbered (typed : Typed) : Type 0 where
  pub objects : length typed.objects ≤ MAX_OBJECTS
  pub names : length typed.names ≤ 2 ^ 16
  pub signatures : length typed.names ≤ length typed.signatures
