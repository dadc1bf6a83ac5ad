-- Files at a limit: what their members and locals come to without the passages of bodies; the rest computes.
use Rattle.std.proofs.Common.{◌≡◌, ℕ, ◌+◌, ◌*◌, List, [], ◌∷◌, ◌++◌, map, Some, None, refl, ap, ◌∙◌}
use Rattle.std.specs.Prelude.{codes}
use Rattle.std.specs.List.{AllByRecursion, flat_map, range_with_len, filter_map}
use Rattle.std.proofs.lemmas.List.{append-nil}
use Rattle.ecf_lang.specs.declared.limits.TheConstants.{MAX_OBJECTS, MAX_FIELDS, MAX_METHODS, MAX_LOCALS}
use Rattle.ecf_lang.specs.declared.tree.Ty.{Ty}
use Rattle.ecf_lang.specs.declared.tree.Ty.TheVariants.{Num, Flag}
use Rattle.ecf_lang.specs.declared.tree.ObjectDecl.{ObjectDecl}
use Rattle.ecf_lang.specs.declared.tree.Param.{Param}
use Rattle.ecf_lang.specs.declared.tree.Member.{Member}
use Rattle.ecf_lang.specs.declared.tree.Member.TheVariants.{Field, Map, Method}
use Rattle.ecf_lang.specs.declared.tree.Expr.TheVariants as expr
use Rattle.ecf_lang.specs.declared.tree.Stmt.{Stmt}
use Rattle.ecf_lang.specs.declared.tree.Stmt.TheVariants as stmt
use Rattle.ecf_faults.specs.declared.What.TheVariants as what
use Rattle.ecf_faults.specs.declared.Fault.{Fault}
use Rattle.ecf_faults.specs.Tables.{declaration_of, Surroundings, Locals}
use Rattle.ecf_faults.specs.Expressions.{faults_for, report_of}
use Rattle.ecf_faults.specs.Statements.{stmt_passage, sequence_of, local_faults, with_local}
use Rattle.ecf_faults.specs.Declarations.{repeat_faults, excess_faults, field_declaration, method_declaration, object_declaration, surroundings_of, signature_of, signature_faults, no_locals, parameter_locals, parameter_faults, member_faults, faults_of_tree}
use Rattle.ecf_faults.specs.Forms.{report_number, report_flag, report_name, passage_let, passage_while, passage_return, passage_rolled}
use Rattle.ecf_faults_cases.specs.Bodies.{block, object_a, with_body}
use Rattle.ecf_faults_cases.specs.Declared.{object_of, ObjectHas}
use Rattle.ecf_faults_cases.specs.Limits.{name, fields, methods, parameters, one_let, lets, ObjectLimit, MemberLimits, ParameterLimit, LocalLimit, RepeatedCount}

pub object_limit : ObjectLimit
object_limit = record { within = refl; past = refl }

-- ---- members

-- the faults of a member, but for those of its body
abbrev outside : Surroundings → Member → List Fault
outside around (Field at name ty first) = member_faults around (Field at name ty first)
outside around (Map at name key value first) = member_faults around (Map at name key value first)
outside around (Method at name params answer body) = signature_faults at (signature_of params answer) (declaration_of around.signatures name) ++ parameter_faults no_locals params

-- an empty body has no fault
empty_is_all : (around : Surroundings) (at : ℕ) (name : List ℕ) (params : List Param) (answer : Ty) → member_faults around (Method at name params answer (block [])) ≡ outside around (Method at name params answer (block []))
empty_is_all around at name params answer =
    let rest = signature_faults at (signature_of params answer) (declaration_of around.signatures name) ++ parameter_faults no_locals params in
    ap (λ p. rest ++ p.faults) (passage_rolled around answer [] (parameter_locals no_locals params)) ∙ append-nil rest

abbrev AreAll : Surroundings → List Member → Type 0
AreAll around = AllByRecursion (λ m. member_faults around m ≡ outside around m)

all_outside : (around : Surroundings) (members : List Member) → AreAll around members → flat_map (member_faults around) members ≡ flat_map (outside around) members
all_outside around [] are = refl
all_outside around (m ∷ members) are = ap (λ faults. faults ++ flat_map (member_faults around) members) are.0 ∙ ap (λ faults. outside around m ++ faults) (all_outside around members are.1)

abbrev the_object : List Member → ObjectDecl
the_object members = record { at = 1; name = codes "A"; members = members }

-- all faults of an object, from those of its members
abbrev with_members : List Member → List Fault → List Fault
with_members members faults =
    (repeat_faults what.TwoObjects [] (map object_declaration (the_object members ∷ [])) ++ excess_faults what.TooManyObjects MAX_OBJECTS (map object_declaration (the_object members ∷ [])))
    ++ ((repeat_faults what.TwoFields [] (filter_map field_declaration members) ++ repeat_faults what.TwoMethods [] (filter_map method_declaration members)
    ++ excess_faults what.TooManyMembers MAX_FIELDS (filter_map field_declaration members) ++ excess_faults what.TooManyMembers MAX_METHODS (filter_map method_declaration members) ++ faults) ++ [])

object_has : (members : List Member) (faults : List Fault) → AreAll (surroundings_of (object_of members) (the_object members)) members
    → with_members members (flat_map (outside (surroundings_of (object_of members) (the_object members))) members) ≡ faults → ObjectHas members faults
object_has members faults are is = ap (with_members members) (all_outside (surroundings_of (object_of members) (the_object members)) members are) ∙ is

fields_are : (around : Surroundings) (ns : List ℕ) → AreAll around (map (λ n. Field (3 * n + 4) (name n) Num None) ns)
fields_are around [] = tt
fields_are around (n ∷ ns) = (refl, fields_are around ns)

methods_are : (around : Surroundings) (from : ℕ) (ns : List ℕ) → AreAll around (map (λ n. Method (from + (8 * n + 1)) (name n) [] Num (block [])) ns)
methods_are around from [] = tt
methods_are around from (n ∷ ns) = (empty_is_all around (from + (8 * n + 1)) (name n) [] Num, methods_are around from ns)

both_are : (around : Surroundings) (xs ys : List Member) → AreAll around xs → AreAll around ys → AreAll around (xs ++ ys)
both_are around [] ys are more = more
both_are around (x ∷ xs) ys are more = (are.0, both_are around xs ys are.1 more)

pub member_limits : MemberLimits
member_limits = record {
  within =
      let around = surroundings_of (object_of (fields 64 ++ methods 195 64)) (the_object (fields 64 ++ methods 195 64)) in
      object_has (fields 64 ++ methods 195 64) [] (both_are around (fields 64) (methods 195 64) (fields_are around (range_with_len 0 64)) (methods_are around 195 (range_with_len 0 64))) refl;
  fields_past = refl;
  methods_past = object_has (methods 3 66) _ (methods_are (surroundings_of (object_of (methods 3 66)) (the_object (methods 3 66))) 3 (range_with_len 0 66)) refl;
}

pub repeated_count : RepeatedCount
repeated_count = record { past = refl }

-- an object of one method with so many parameters
abbrev taking : ℕ → List Member
taking count = Method 4 (codes "m") (parameters count) Num (block []) ∷ []

taking_are : (count : ℕ) → AreAll (surroundings_of (object_of (taking count)) (the_object (taking count))) (taking count)
taking_are count = (empty_is_all (surroundings_of (object_of (taking count)) (the_object (taking count))) 4 (codes "m") (parameters count) Num, tt)

pub parameter_limit : ParameterLimit
parameter_limit = record {
  within = object_has (taking 8) [] (taking_are 8) refl;
  past = object_has (taking 10) _ (taking_are 10) refl;
}

-- ---- locals

abbrev faults_of_lets : ℕ → List ℕ → Locals → List Fault
faults_of_lets from [] locals = []
faults_of_lets from (n ∷ ns) locals = local_faults MAX_LOCALS (from + (7 * n + 1)) (name n) locals ++ faults_of_lets from ns (with_local (name n) Num locals)

abbrev after_lets : List ℕ → Locals → Locals
after_lets [] locals = locals
after_lets (n ∷ ns) locals = after_lets ns (with_local (name n) Num locals)

module _ (around : Surroundings) (answer : Ty) (from : ℕ) where
  lets_faults : (ns : List ℕ) (locals : Locals) → (sequence_of (map (stmt_passage around answer) (map (one_let from) ns)) locals).faults ≡ faults_of_lets from ns locals
  lets_faults [] locals = refl
  lets_faults (n ∷ ns) locals =
      let others = sequence_of (map (stmt_passage around answer) (map (one_let from) ns)) in
      let at = from + (7 * n + 1) in
      let behind = with_local (name n) Num locals in
      ap (λ p. p.faults ++ (others p.after).faults) (passage_let around answer at (name n) Num (expr.Number (from + (7 * n + 5)) 1) locals)
      ∙ ap (λ r. (faults_for (Some Num) r ++ local_faults MAX_LOCALS at (name n) locals) ++ (others behind).faults) (report_number around locals.visible (from + (7 * n + 5)) 1)
      ∙ ap (λ faults. local_faults MAX_LOCALS at (name n) locals ++ faults) (lets_faults ns behind)

  lets_after : (ns : List ℕ) (locals : Locals) → (sequence_of (map (stmt_passage around answer) (map (one_let from) ns)) locals).after ≡ after_lets ns locals
  lets_after [] locals = refl
  lets_after (n ∷ ns) locals =
      ap (λ p. (sequence_of (map (stmt_passage around answer) (map (one_let from) ns)) p.after).after) (passage_let around answer (from + (7 * n + 1)) (name n) Num (expr.Number (from + (7 * n + 5)) 1) locals)
      ∙ lets_after ns (with_local (name n) Num locals)

abbrev around_a : List Stmt → Surroundings
around_a body = surroundings_of (with_body body) (object_a body)

abbrev with_k : Locals
with_k = parameter_locals no_locals ((record { at = 37; name = codes "k"; ty = Num }) ∷ [])

-- the faults of the file are those of the body
body_has : (body : List Stmt) → faults_of_tree (with_body body) ≡ (sequence_of (map (stmt_passage (around_a body) Num) body) with_k).faults
body_has body =
    let faults = (sequence_of (map (stmt_passage (around_a body) Num) body) with_k).faults in
    simp (passage_rolled, passage_return, report_flag) (append-nil (faults ++ []) ∙ append-nil faults)

-- while f { LETS } let x: num = 1;
abbrev ended : List ℕ → List Stmt
ended ns = stmt.While (expr.Name 45 (codes "f")) (block (map (one_let 47) ns)) ∷ stmt.Let 490 (codes "x") Num (expr.Number 494 1) ∷ []

ended_has : (around : Surroundings) (ns : List ℕ) (locals : Locals) → faults_of_lets 47 ns locals ≡ [] → faults_for (Some Flag) (report_of around locals.visible (expr.Name 45 (codes "f"))) ≡ []
    → (sequence_of (map (stmt_passage around Num) (ended ns)) locals).faults ≡ local_faults MAX_LOCALS 490 (codes "x") (record { visible = locals.visible; next = (after_lets ns locals).next })
ended_has around ns locals none flag =
    let inside = lets_faults around Num 47 ns locals in
    let behind = lets_after around Num 47 ns locals in
    simp (passage_while, passage_let, passage_rolled, report_number, inside, behind, none, flag) (append-nil _)

pub local_limit : LocalLimit
local_limit = record {
  within = body_has (lets 44 63) ∙ lets_faults (around_a (lets 44 63)) Num 44 (range_with_len 0 63) with_k;
  past = body_has (lets 44 65) ∙ lets_faults (around_a (lets 44 65)) Num 44 (range_with_len 0 65) with_k;
  ended = body_has (ended (range_with_len 0 63)) ∙ ended_has (around_a (ended (range_with_len 0 63))) (range_with_len 0 63) with_k refl
      (ap (faults_for (Some Flag)) (report_name (around_a (ended (range_with_len 0 63))) with_k.visible 45 (codes "f")));
}
