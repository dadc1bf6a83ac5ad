-- Objects, and whole files.
use Rattle.std.proofs.Common.{◌≡◌, ℕ, List, [], ◌++◌, map, Option, sym, ap, ◌∙◌}
use Rattle.std.specs.List.{filter_map, flat_map}
use Rattle.ecf_lang.specs.declared.limits.TheConstants.{MAX_OBJECTS, MAX_FIELDS, MAX_METHODS}
use Rattle.ecf_lang.specs.declared.tree.Tree.{Tree}
use Rattle.ecf_lang.specs.declared.tree.ObjectDecl.{ObjectDecl}
use Rattle.ecf_lang.specs.declared.tree.Member.{Member}
use Rattle.ecf_lang.specs.declared.typed.FieldKind.{FieldKind}
use Rattle.ecf_lang.specs.declared.typed.Signature.{Signature}
use Rattle.ecf_lang.specs.declared.typed.Typed.{Typed}
use Rattle.ecf_lang.specs.declared.typed.TypedObject.{TypedObject}
use Rattle.ecf_faults.specs.declared.What.TheVariants as what
use Rattle.ecf_faults.specs.declared.Fault.{Fault}
use Rattle.ecf_faults.specs.Tables.{Table, Surroundings, table_of}
use Rattle.ecf_faults.specs.Declarations.{Declaration, repeat_faults, excess_faults, field_kind, field_declaration, method_declaration, object_declaration, object_table, signature_table, surroundings_of, member_faults, object_faults, object_form, faults_of_tree, numbered_form}
use Rattle.ecf_faults.specs.Least.{least_with}
use Rattle.ecf_typing.specs.declared.reference.MethodTypes.{MethodTypes}
use Rattle.ecf_typing.specs.Views.{signature_view, within}
use Rattle.ecf_typing.proofs.LoopLaws.{then_more}
use Rattle.ecf_typing.proofs.ExpressionLaws.{map_map}

-- ---- surroundings

-- with the tables of an object, they are those that it sees
pub now_within : (around : Surroundings) (object : ObjectDecl) (own : Table (ℕ × FieldKind)) (methods : Table (ℕ × ℕ)) → own ≡ table_of (filter_map field_kind object.members) → methods ≡ table_of (filter_map method_declaration object.members) → record around { own = own; methods = methods } ≡ within around object
now_within around object own methods own_is methods_is =
    ap (λ (t : Table (ℕ × FieldKind)). let s : Surroundings = record around { own = t; methods = methods } in s) own_is
    ∙ ap (λ (t : Table (ℕ × ℕ)). let s : Surroundings = record around { own = table_of (filter_map field_kind object.members); methods = t } in s) methods_is

-- those of a file's tables are the file's
pub surroundings_are : (tree : Tree) (around : Surroundings) (object : ObjectDecl) → around.objects ≡ object_table tree → around.signatures ≡ signature_table tree → within around object ≡ surroundings_of tree object
surroundings_are tree around object objects signatures =
    ap (λ (t : Table (ℕ × ℕ)). let s : Surroundings = record (within around object) { objects = t } in s) objects
    ∙ ap (λ (t : Table (ℕ × Signature)). let s : Surroundings = record (within around object) { objects = object_table tree; signatures = t } in s) signatures

-- ---- objects

abbrev pub declared_faults : List Member → List Fault
declared_faults members =
    repeat_faults what.TwoFields [] (filter_map field_declaration members)
    ++ repeat_faults what.TwoMethods [] (filter_map method_declaration members)
    ++ excess_faults what.TooManyMembers MAX_FIELDS (filter_map field_declaration members)
    ++ excess_faults what.TooManyMembers MAX_METHODS (filter_map method_declaration members)

pub declared_noted : (members : List Member) (o a b c n : Option Fault) → a ≡ least_with o (repeat_faults what.TwoFields [] (filter_map field_declaration members)) → b ≡ least_with a (repeat_faults what.TwoMethods [] (filter_map method_declaration members)) → c ≡ least_with b (excess_faults what.TooManyMembers MAX_FIELDS (filter_map field_declaration members)) → n ≡ least_with c (excess_faults what.TooManyMembers MAX_METHODS (filter_map method_declaration members)) → n ≡ least_with o (declared_faults members)
declared_noted members o a b c n first second third fourth =
    let fields : List Declaration = filter_map field_declaration members in
    let methods : List Declaration = filter_map method_declaration members in
    let two : b ≡ least_with o (repeat_faults what.TwoFields [] fields ++ repeat_faults what.TwoMethods [] methods) = then_more o a b (repeat_faults what.TwoFields [] fields) (repeat_faults what.TwoMethods [] methods) first second in
    let three : c ≡ least_with o (repeat_faults what.TwoFields [] fields ++ repeat_faults what.TwoMethods [] methods ++ excess_faults what.TooManyMembers MAX_FIELDS fields) =
    then_more o b c (repeat_faults what.TwoFields [] fields ++ repeat_faults what.TwoMethods [] methods) (excess_faults what.TooManyMembers MAX_FIELDS fields) two third in
    then_more o c n (repeat_faults what.TwoFields [] fields ++ repeat_faults what.TwoMethods [] methods ++ excess_faults what.TooManyMembers MAX_FIELDS fields) (excess_faults what.TooManyMembers MAX_METHODS methods) three fourth

-- the faults among an object's names, and those of its members
pub object_noted : (around whole : Surroundings) (members : List Member) (o d n : Option Fault) → around ≡ whole → d ≡ least_with o (declared_faults members) → n ≡ least_with d (flat_map (member_faults around) members) → n ≡ least_with o (object_faults whole members)
object_noted around whole members o d n is first rest =
    then_more o d n (declared_faults members) (flat_map (member_faults whole) members) first (rest ∙ ap (λ s. least_with d (flat_map (member_faults s) members)) is)

-- ---- files

pub file_noted : (tree : Tree) (o a b n : Option Fault) → a ≡ least_with o (repeat_faults what.TwoObjects [] (map object_declaration tree.objects)) → b ≡ least_with a (excess_faults what.TooManyObjects MAX_OBJECTS (map object_declaration tree.objects)) → n ≡ least_with b (flat_map (λ object. object_faults (surroundings_of tree object) object.members) tree.objects) → n ≡ least_with o (faults_of_tree tree)
file_noted tree o a b n first second rest =
    then_more o b n (repeat_faults what.TwoObjects [] (map object_declaration tree.objects) ++ excess_faults what.TooManyObjects MAX_OBJECTS (map object_declaration tree.objects)) (flat_map (λ object. object_faults (surroundings_of tree object) object.members) tree.objects)
    (then_more o a b (repeat_faults what.TwoObjects [] (map object_declaration tree.objects)) (excess_faults what.TooManyObjects MAX_OBJECTS (map object_declaration tree.objects)) first second)
    rest

abbrev pub seen : Table MethodTypes → Table (ℕ × Signature)
seen table = map (λ e. (e.0, signature_view e.1)) table

pub file_form : (tree : Tree) (table : Table MethodTypes) (objects : List TypedObject) (names : List (List ℕ)) (signatures : List Signature) → seen table ≡ signature_table tree → objects ≡ map (λ object. object_form (surroundings_of tree object) object) tree.objects → names ≡ map (λ one. one.0) table → signatures ≡ map (λ one. (signature_view one.1).1) table → record { objects = objects; names = names; signatures = signatures } ≡ numbered_form tree
file_form tree table objects names signatures is objects_are names_are signatures_are =
    ap (λ (x : List TypedObject). let t : Typed = record { objects = x; names = names; signatures = signatures } in t) objects_are
    ∙ ap (λ (x : List (List ℕ)). let t : Typed = record { objects = map (λ object. object_form (surroundings_of tree object) object) tree.objects; names = x; signatures = signatures } in t)
    (names_are ∙ sym (map_map (λ (e : List ℕ × MethodTypes). (e.0, signature_view e.1)) (λ one. one.0) table) ∙ ap (λ t. map (λ one. one.0) t) is)
    ∙ ap (λ (x : List Signature). let t : Typed = record { objects = map (λ object. object_form (surroundings_of tree object) object) tree.objects; names = map (λ one. one.0) (signature_table tree); signatures = x } in t)
    (signatures_are ∙ sym (map_map (λ (e : List ℕ × MethodTypes). (e.0, signature_view e.1)) (λ one. one.1.1) table) ∙ ap (λ t. map (λ one. one.1.1) t) is)
