-- How a line spells a transaction, said of the words and not of their reading.
use Rattle.std.specs.Prelude.{◌≡◌, ◌≢◌, ◌⊎◌, ◌==◌, ◌<◌, ◌≤◌, ◌^◌, ℕ, Bool, true, false, List, [], ◌∷◌, ◌++◌, length, slice_get, Some, IsSome, codes, ⊤}
use Rattle.std.specs.List.{flat_map, list_any, join_with_byte}
use Rattle.ecf_decimal.specs.Decimal.{is_numeral, number_value}
use Rattle.ecf_lang.specs.declared.tree.Ty.{Ty}
use Rattle.ecf_lang.specs.declared.tree.Ty.TheVariants.{Num, Flag, Addr}
use Rattle.ecf_lang.specs.declared.typed.Typed.{Typed}
use Rattle.ecf_lang.specs.declared.tx.Tx.{Tx}
use Rattle.ecf_lang.specs.declared.tx.TxCall.{TxCall}
use Rattle.ecf_lang.specs.declared.limits.TheConstants.{MAX_CALLS, MAX_FUEL}
use Rattle.ecf_lang.specs.Fits.{method_at}
use Rattle.ecf_lang.specs.Signatures.{params_of}
use Rattle.ecf_lines.specs.Line.{is_empty, is_semicolon, object_names}

-- there is a space in the word
abbrev pub has_space : List ℕ → Bool
has_space word = list_any (λ byte. byte == 32) word

-- the word is one digit or more, and they make this number
pub record SpellsNumber (word : List ℕ) (number : ℕ) : Type 0 where
  pub numeral : is_numeral word ≡ true
  pub value : number_value word ≡ number

-- the word stands at this place among names, and at none before
pub record IsNamed (names : List (List ℕ)) (word : List ℕ) (place : ℕ) : Type 0 where
  pub there : slice_get names place ≡ Some word
  pub first : (k : ℕ) → k < place → slice_get names k ≢ Some word

-- the word spells a value of that type
abbrev pub SpellsValue : Typed → Ty → List ℕ → ℕ → Type 0
SpellsValue typed Num word value = SpellsNumber word value × (value < 2 ^ 128)
SpellsValue typed Flag word value = ((word ≡ codes "true") × (value ≡ 1)) ⊎ ((word ≡ codes "false") × (value ≡ 0))
SpellsValue typed Addr word value = IsNamed (object_names typed) word value

-- the words spell the values, one for each parameter
abbrev pub SpellsValues : Typed → List Ty → List (List ℕ) → List ℕ → Type 0
SpellsValues typed [] [] [] = ⊤
SpellsValues typed (ty ∷ params) (word ∷ words) (value ∷ values) = SpellsValue typed ty word value × SpellsValues typed params words values
SpellsValues typed params words values = ⊥

-- the words spell a call
pub record SpellsCall (typed : Typed) (object method : List ℕ) (args : List (List ℕ)) (call : TxCall) : Type 0 where
  pub object_is : IsNamed (object_names typed) object call.object
  pub method_is : IsNamed typed.names method call.method
  pub has_method : IsSome (method_at typed call.object call.method)
  pub args_are : SpellsValues typed (params_of typed call.method) args call.args

-- the words of a further call: its object, its method and its arguments
abbrev pub SpellsFurther : Typed → List (List ℕ) → TxCall → Type 0
SpellsFurther typed (object ∷ method ∷ args) call = SpellsCall typed object method args call
SpellsFurther typed few call = ⊥

-- the words of further calls, one after the other
abbrev pub SpellFurther : Typed → List (List (List ℕ)) → List TxCall → Type 0
SpellFurther typed [] [] = ⊤
SpellFurther typed (words ∷ more) (call ∷ calls) = SpellsFurther typed words call × SpellFurther typed more calls
SpellFurther typed more calls = ⊥

-- the words of further calls, a `;` before each
abbrev pub with_semicolons : List (List (List ℕ)) → List (List ℕ)
with_semicolons further = flat_map (λ words. codes ";" ∷ words) further

-- the line spells the transaction: its words, of which none is empty or has a space, joined by single spaces
pub record SpellsTx (typed : Typed) (line : List ℕ) (tx : Tx) : Type 0 where
  pub submitter : List ℕ
  pub object : List ℕ
  pub method : List ℕ
  pub fuel : List ℕ
  pub args : List (List ℕ)
  pub further : List (List (List ℕ))
  pub call : TxCall
  pub calls : List TxCall
  pub line_is : line ≡ join_with_byte 32 ((submitter ∷ object ∷ method ∷ fuel ∷ args) ++ with_semicolons further)
  pub full : list_any is_empty ((submitter ∷ object ∷ method ∷ fuel ∷ args) ++ with_semicolons further) ≡ false
  pub apart : list_any has_space ((submitter ∷ object ∷ method ∷ fuel ∷ args) ++ with_semicolons further) ≡ false
  pub one_first : list_any is_semicolon (submitter ∷ object ∷ method ∷ fuel ∷ args) ≡ false
  pub one_each : list_any (list_any is_semicolon) further ≡ false
  pub submitter_is : SpellsNumber submitter tx.submitter
  pub submitter_fits : tx.submitter < 2 ^ 32
  pub fuel_is : SpellsNumber fuel tx.fuel
  pub some_fuel : 1 ≤ tx.fuel
  pub fuel_fits : tx.fuel ≤ MAX_FUEL
  pub call_is : SpellsCall typed object method args call
  pub calls_are : SpellFurther typed further calls
  pub few : length further < MAX_CALLS
  pub all_calls : tx.calls ≡ call ∷ calls
