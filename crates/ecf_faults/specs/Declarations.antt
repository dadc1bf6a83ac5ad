-- The faults of a whole tree, and the numbered form of a tree that has none.
use Rattle.std.specs.Prelude.{ℕ, ◌==◌, Bool, true, false, not, ◌||◌, if◌then◌else◌, List, [], ◌∷◌, ◌++◌, ◌^◌, map, drop, Option, Some, None, is_some}
use Rattle.std.specs.List.{flat_map, filter_map, list_any}
use Rattle.ecf_lang.specs.declared.limits.TheConstants.{MAX_OBJECTS, MAX_FIELDS, MAX_METHODS, MAX_PARAMETERS}
use Rattle.ecf_lang.specs.declared.tree.Ty.{Ty}
use Rattle.ecf_lang.specs.declared.tree.Ty.TheVariants.{Num, Flag, Addr}
use Rattle.ecf_lang.specs.declared.tree.Tree.{Tree}
use Rattle.ecf_lang.specs.declared.tree.ObjectDecl.{ObjectDecl}
use Rattle.ecf_lang.specs.declared.tree.Member.{Member}
use Rattle.ecf_lang.specs.declared.tree.Member.TheVariants.{Field, Map, Method}
use Rattle.ecf_lang.specs.declared.tree.Param.{Param}
use Rattle.ecf_lang.specs.declared.tree.Block.{Block}
use Rattle.ecf_lang.specs.declared.tree.Const.{Const}
use Rattle.ecf_lang.specs.declared.tree.Const.TheVariants as const
use Rattle.ecf_lang.specs.declared.typed.FieldKind.{FieldKind}
use Rattle.ecf_lang.specs.declared.typed.FieldKind.TheVariants as kind
use Rattle.ecf_lang.specs.declared.typed.Signature.{Signature}
use Rattle.ecf_lang.specs.declared.typed.Typed.{Typed}
use Rattle.ecf_lang.specs.declared.typed.TypedObject.{TypedObject}
use Rattle.ecf_lang.specs.declared.typed.TypedField.{TypedField}
use Rattle.ecf_lang.specs.declared.typed.TypedMethod.{TypedMethod}
use Rattle.ecf_lang.specs.declared.typed.TypedBlock.{TypedBlock}
use Rattle.ecf_lang.specs.Meaning.{flag_of}
use Rattle.ecf_faults.specs.declared.What.{What}
use Rattle.ecf_faults.specs.declared.What.TheVariants as what
use Rattle.ecf_faults.specs.declared.Fault.{Fault}
use Rattle.ecf_faults.specs.Tables.{Table, declaration_of, with_next, table_of, Surroundings, Locals}
use Rattle.ecf_faults.specs.Expressions.{Report, fault, fault_if, differ, faults_for, method_number}
use Rattle.ecf_faults.specs.Statements.{Passage, local_faults, with_local, block_passage}

-- a declared name and its token
abbrev pub Declaration : Type 0
Declaration = List ℕ × ℕ

-- each declaration whose name stands in the table of those before it
abbrev pub repeat_faults : What → Table (ℕ × ℕ) → List Declaration → List Fault
repeat_faults what before [] = []
repeat_faults what before (one ∷ others) =
    fault_if (is_some (declaration_of before one.0)) one.1 what ++ repeat_faults what (with_next before one) others

-- each declaration past a limit
abbrev pub excess_faults : What → ℕ → List Declaration → List Fault
excess_faults what limit all = map (λ one. fault one.1 what) (drop limit all)

-- ---- initial values and keys

-- a name that stands for an object, or for nothing
abbrev pub name_report : ℕ → Option (ℕ × ℕ) → Report ℕ
name_report at None = record { place = at; ty = None; faults = fault at what.UnknownName ∷ []; form = 0 }
name_report at (Some (object, token)) = record { place = at; ty = Some Addr; faults = []; form = object }

abbrev pub const_report : Table (ℕ × ℕ) → Const → Report ℕ
const_report objects (const.Number at value) = record { place = at; ty = Some Num; faults = []; form = value }
const_report objects (const.Flag at value) = record { place = at; ty = Some Flag; faults = []; form = flag_of value }
const_report objects (const.Name at name) = name_report at (declaration_of objects name)

-- whether a type is there and is this one
abbrev pub is_type : Ty → Option Ty → Bool
is_type ty None = false
is_type ty (Some has) = not (differ ty has)

-- each initial key that has the value of an earlier one, both of the right type
abbrev pub key_faults : Ty → List ℕ → List (Report ℕ) → List Fault
key_faults ty earlier [] = []
key_faults ty earlier (key ∷ keys) =
    if is_type ty key.ty
    then fault_if (list_any (λ value. key.form == value) earlier) key.place what.TwoKeys ++ key_faults ty (key.form ∷ earlier) keys
    else key_faults ty earlier keys

-- ---- what members declare

abbrev pub field_kind : Member → Option (List ℕ × FieldKind)
field_kind (Field at name ty first) = Some (name, kind.Plain ty)
field_kind (Map at name key value first) = Some (name, kind.Map key value)
field_kind (Method at name params answer body) = None

abbrev pub field_declaration : Member → Option Declaration
field_declaration (Field at name ty first) = Some (name, at)
field_declaration (Map at name key value first) = Some (name, at)
field_declaration (Method at name params answer body) = None

abbrev pub method_declaration : Member → Option Declaration
method_declaration (Method at name params answer body) = Some (name, at)
method_declaration _ = None

abbrev pub signature_of : List Param → Ty → Signature
signature_of params answer = record { params = map (λ param. param.ty) params; answer = answer }

abbrev pub method_signature : Member → Option (List ℕ × Signature)
method_signature (Method at name params answer body) = Some (name, signature_of params answer)
method_signature _ = None

abbrev pub object_declaration : ObjectDecl → Declaration
object_declaration object = (object.name, object.at)

-- ---- what is declared outside of methods

-- the members of all objects of the file, in the order of the text
abbrev pub all_members : Tree → List Member
all_members tree = flat_map (λ object. object.members) tree.objects

abbrev pub object_table : Tree → Table (ℕ × ℕ)
object_table tree = table_of (map object_declaration tree.objects)

abbrev pub signature_table : Tree → Table (ℕ × Signature)
signature_table tree = table_of (filter_map method_signature (all_members tree))

abbrev pub surroundings_of : Tree → ObjectDecl → Surroundings
surroundings_of tree object = record {
  objects = object_table tree;
  signatures = signature_table tree;
  own = table_of (filter_map field_kind object.members);
  methods = table_of (filter_map method_declaration object.members);
}

-- ---- methods

-- whether two lists of types differ
abbrev pub lists_differ : List Ty → List Ty → Bool
lists_differ [] [] = false
lists_differ (a ∷ as') (b ∷ bs) = differ a b || lists_differ as' bs
lists_differ as' bs = true

-- a method whose types differ from those of the first method of its name in the file
abbrev pub signature_faults : ℕ → Signature → Option (ℕ × Signature) → List Fault
signature_faults at signature None = []
signature_faults at signature (Some (n, first)) =
    fault_if (differ signature.answer first.answer || lists_differ signature.params first.params) at what.TwoSignatures

abbrev pub no_locals : Locals
no_locals = record { visible = []; next = 0 }

-- the locals behind parameters
abbrev pub parameter_locals : Locals → List Param → Locals
parameter_locals locals [] = locals
parameter_locals locals (param ∷ params) = parameter_locals (with_local param.name param.ty locals) params

abbrev pub parameter_faults : Locals → List Param → List Fault
parameter_faults locals [] = []
parameter_faults locals (param ∷ params) =
    local_faults MAX_PARAMETERS param.at param.name locals ++ parameter_faults (with_local param.name param.ty locals) params

-- ---- members

module _ (around : Surroundings) where
  abbrev pub const_at : Const → Report ℕ
  const_at c = const_report around.objects c

  -- a method's body, behind its parameters
  abbrev pub body_passage : List Param → Ty → Block → Passage TypedBlock
  body_passage params answer body = block_passage around answer body (parameter_locals no_locals params)

  -- an initial key with its value
  abbrev pub pair_faults : Ty → Ty → Const × Const → List Fault
  pair_faults key value pair = faults_for (Some key) (const_at pair.0) ++ faults_for (Some value) (const_at pair.1)

  abbrev pub member_faults : Member → List Fault
  member_faults (Field at name ty None) = []
  member_faults (Field at name ty (Some first)) = faults_for (Some ty) (const_at first)
  member_faults (Map at name key value first) =
      flat_map (pair_faults key value) first ++ key_faults key [] (map (λ pair. const_at pair.0) first)
  member_faults (Method at name params answer body) =
      signature_faults at (signature_of params answer) (declaration_of around.signatures name)
      ++ parameter_faults no_locals params
      ++ (body_passage params answer body).faults

  abbrev pub field_form : Member → Option TypedField
  field_form (Field at name ty None) = Some (record { name = name; kind = kind.Plain ty; first = [] })
  field_form (Field at name ty (Some first)) = Some (record { name = name; kind = kind.Plain ty; first = (0, (const_at first).form) ∷ [] })
  field_form (Map at name key value first) = Some (record {
    name = name;
    kind = kind.Map key value;
    first = map (λ pair. ((const_at pair.0).form, (const_at pair.1).form)) first;
  })
  field_form (Method at name params answer body) = None

  abbrev pub method_form : Member → Option TypedMethod
  method_form (Method at name params answer body) = Some (record {
    name = method_number (declaration_of around.signatures name);
    locals = (body_passage params answer body).after.next;
    body = (body_passage params answer body).form;
  })
  method_form _ = None

-- ---- objects, and the whole tree

abbrev pub object_faults : Surroundings → List Member → List Fault
object_faults around members =
    repeat_faults what.TwoFields [] (filter_map field_declaration members)
    ++ repeat_faults what.TwoMethods [] (filter_map method_declaration members)
    ++ excess_faults what.TooManyMembers MAX_FIELDS (filter_map field_declaration members)
    ++ excess_faults what.TooManyMembers MAX_METHODS (filter_map method_declaration members)
    ++ flat_map (member_faults around) members

abbrev pub faults_of_tree : Tree → List Fault
faults_of_tree tree =
    repeat_faults what.TwoObjects [] (map object_declaration tree.objects)
    ++ excess_faults what.TooManyObjects MAX_OBJECTS (map object_declaration tree.objects)
    ++ flat_map (λ object. object_faults (surroundings_of tree object) object.members) tree.objects

abbrev pub object_form : Surroundings → ObjectDecl → TypedObject
object_form around object = record {
  name = object.name;
  fields = filter_map (field_form around) object.members;
  methods = filter_map (method_form around) object.members;
}

abbrev pub numbered_form : Tree → Typed
numbered_form tree = record {
  objects = map (λ object. object_form (surroundings_of tree object) object) tree.objects;
  names = map (λ one. one.0) (signature_table tree);
  signatures = map (λ one. one.1.1) (signature_table tree);
}
