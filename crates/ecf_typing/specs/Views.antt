-- What the tables of the check stand for.
use Rattle.std.specs.Prelude.{ℕ, map}
use Rattle.ecf_faults.specs.Tables.{Table}
use Rattle.ecf_faults.specs.Tables as spec
use Rattle.std.specs.List.{filter_map}
use Rattle.ecf_lang.specs.declared.tree.ObjectDecl.{ObjectDecl}
use Rattle.ecf_faults.specs.Tables.{table_of}
use Rattle.ecf_faults.specs.Declarations.{field_kind, method_declaration}
use Rattle.ecf_typing.specs.declared.names.NameMap.{NameMap}
use Rattle.ecf_typing.specs.declared.expression.Surroundings.{Surroundings}
use Rattle.ecf_typing.specs.declared.reference.MethodTypes.{MethodTypes}
use Rattle.ecf_lang.specs.declared.typed.Signature.{Signature}

abbrev pub contents_of : {A : Type 0} → NameMap A → Table A
contents_of names = map (λ e. (e.0.bytes.now, e.1)) names.entries.entries

-- a method's number and signature
abbrev pub signature_view : MethodTypes → ℕ × Signature
signature_view types = (types.number, record { params = map (λ param. param.ty) types.params.now; answer = types.answer })

-- the method names of a file by number, with their signatures
abbrev pub signatures_of : NameMap MethodTypes → Table (ℕ × Signature)
signatures_of names = map (λ e. (e.0, signature_view e.1)) (contents_of names)

abbrev pub view_of : Surroundings → spec.Surroundings
view_of around = record {
  objects = contents_of around.objects;
  signatures = signatures_of around.signatures;
  own = contents_of around.own;
  methods = contents_of around.methods;
}

-- what is declared outside of methods, as another object of the file sees it
abbrev pub within : spec.Surroundings → ObjectDecl → spec.Surroundings
within around object = record around {
  own = table_of (filter_map field_kind object.members);
  methods = table_of (filter_map method_declaration object.members);
}
