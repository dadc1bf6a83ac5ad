-- What it takes for a contract in its typed form to be well formed.
use Rattle.std.specs.Prelude.{◌≡◌, ◌≢◌, ℕ, ◌<◌, ◌≤◌, List, length, map, slice_get, All, AllPairs, Some}
use Rattle.std.specs.List.{enumerate_from}
use Rattle.ecf_lang.specs.declared.limits.TheConstants.{MAX_OBJECTS, MAX_FIELDS, MAX_METHODS, MAX_PARAMETERS, MAX_LOCALS}
use Rattle.ecf_lang.specs.declared.tree.Ty.{Ty}
use Rattle.ecf_lang.specs.declared.typed.FieldKind.{FieldKind}
use Rattle.ecf_lang.specs.declared.typed.FieldKind.TheVariants as kind
use Rattle.ecf_lang.specs.declared.typed.Typed.{Typed}
use Rattle.ecf_lang.specs.declared.typed.Signature.{Signature}
use Rattle.ecf_lang.specs.declared.typed.TypedField.{TypedField}
use Rattle.ecf_lang.specs.declared.typed.TypedMethod.{TypedMethod}
use Rattle.ecf_lang.specs.declared.typed.TypedObject.{TypedObject}
use Rattle.ecf_lang.specs.Fits.{IsValue}
use Rattle.ecf_grammar.specs.Spelling.{IsName}
use Rattle.ecf_wellformed.specs.Typing.{Scope, IsMethodName, IsBlock}

-- no two are the same
abbrev pub AreDistinct : {A : Type 0} → List A → Type 0
AreDistinct all = AllPairs (λ a b. a ≢ b) all

-- a method's parameters as locals, from 0 on
abbrev pub parameters : List Ty → Scope
parameters params = enumerate_from 0 params

module _ (typed : Typed) where
  -- a plain field's initial value, if it has one, at key 0; a map's initial keys and values, no key twice
  abbrev pub AreFirst : FieldKind → List (ℕ × ℕ) → Type 0
  AreFirst (kind.Plain ty) first = (length first ≤ 1) × All (λ pair. (pair.0 ≡ 0) × IsValue typed ty pair.1) first
  AreFirst (kind.Map key value) first = AreDistinct (map (λ pair. pair.0) first) × All (λ pair. IsValue typed key pair.0 × IsValue typed value pair.1) first

  -- a field or map
  pub record IsField (field : TypedField) : Type 0 where
    pub name : IsName field.name
    pub first : AreFirst field.kind field.first

  -- a method of an object: few parameters and locals, numbered in the order of the text
  pub record IsMethod (own : TypedObject) (method : TypedMethod) : Type 0 where
    pub signature : Signature
    pub has_signature : slice_get typed.signatures method.name ≡ Some signature
    pub few_parameters : length signature.params ≤ MAX_PARAMETERS
    pub body : IsBlock typed own signature.answer (parameters signature.params) (length signature.params) method.body method.locals
    pub few_locals : method.locals ≤ MAX_LOCALS

  -- an object: few fields and maps, and few methods, no name twice among either
  pub record IsObject (own : TypedObject) : Type 0 where
    pub name : IsName own.name
    pub few_fields : length own.fields ≤ MAX_FIELDS
    pub few_methods : length own.methods ≤ MAX_METHODS
    pub field_names : AreDistinct (map (λ field. field.name) own.fields)
    pub method_names : AreDistinct (map (λ method. method.name) own.methods)
    pub fields : All IsField own.fields
    pub methods : All (IsMethod own) own.methods

  -- a contract: few objects, no name twice; and method names, each with a signature, that are methods of some object
  pub record IsWellFormed : Type 0 where
    pub few_objects : length typed.objects ≤ MAX_OBJECTS
    pub object_names : AreDistinct (map (λ object. object.name) typed.objects)
    pub objects : All IsObject typed.objects
    pub spelled : All IsName typed.names
    pub method_names : AreDistinct typed.names
    pub used : (name : ℕ) → name < length typed.names → IsMethodName typed name
    pub signatures : length typed.signatures ≡ length typed.names
