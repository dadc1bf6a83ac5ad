-- Which members a pass over an object looks at.
use Rattle.std.specs.Prelude.{Option}
use Rattle.ecf_lang.specs.declared.tree.Member.{Member}
use Rattle.ecf_faults.specs.Declarations.{Declaration, field_declaration, method_declaration}
use Rattle.ecf_typing.specs.declared.declaration.Sort.{Sort}
use Rattle.ecf_typing.specs.declared.declaration.Sort.TheVariants.{Fields, Methods}

-- what a member of this sort declares
abbrev pub declaration_in : Sort → Member → Option Declaration
declaration_in Fields member = field_declaration member
declaration_in Methods member = method_declaration member
