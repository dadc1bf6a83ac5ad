-- Parameters, members and objects.
use Rattle.std.proofs.Common.{◌≡◌, ℕ, ◌+◌, ◌<◌, ◌≤◌, Bool, true, false, ◌||◌, List, [], ◌∷◌, ◌++◌, map, length, take, drop, get_or, Option, Some, refl, sym, ap, ◌∙◌, arith, append_assoc}
use Rattle.std.specs.List.{cons_option, filter_map}
use Rattle.std.proofs.lemmas.List.{drop_more, take_all}
use Rattle.ecf_lang.specs.declared.limits.TheConstants.{MAX_PARAMETERS}
use Rattle.ecf_lang.specs.declared.tree.Ty.{Ty}
use Rattle.ecf_lang.specs.declared.tree.Param.{Param}
use Rattle.ecf_lang.specs.declared.tree.Block.{Block}
use Rattle.ecf_lang.specs.declared.tree.Member.{Member}
use Rattle.ecf_lang.specs.declared.tree.Member.TheVariants as tree
use Rattle.ecf_lang.specs.declared.typed.Signature.{Signature}
use Rattle.ecf_lang.specs.declared.typed.TypedBlock.{TypedBlock}
use Rattle.ecf_lang.specs.declared.tree.ObjectDecl.{ObjectDecl}
use Rattle.ecf_lang.specs.declared.typed.TypedObject.{TypedObject}
use Rattle.ecf_lang.specs.declared.typed.TypedField.{TypedField}
use Rattle.ecf_lang.specs.declared.typed.TypedMethod.{TypedMethod}
use Rattle.ecf_faults.specs.declared.Fault.{Fault}
use Rattle.ecf_faults.specs.Tables.{Locals, Surroundings, declaration_of}
use Rattle.ecf_faults.specs.Expressions.{differ, method_number}
use Rattle.ecf_faults.specs.Statements.{local_faults, with_local}
use Rattle.ecf_faults.specs.Declarations.{lists_differ, parameter_locals, parameter_faults, field_form, method_form, object_form, signature_of, signature_faults, no_locals, body_passage, member_faults}
use Rattle.ecf_faults.specs.Least.{least_with}
use Rattle.ecf_typing.proofs.LoopLaws.{first_with_both, then_more}
use Rattle.ecf_typing.proofs.DeclarationLaws.{filter_next}

abbrev pub types_of : List Param → List Ty
types_of params = map (λ param. param.ty) params

-- ---- whether types differ

pub differ_at : (as' bs : List Param) (i : ℕ) (a b : Param) → i < length as' → length as' ≡ length bs → a ≡ get_or as' i a → b ≡ get_or bs i b → lists_differ (types_of (drop i as')) (types_of (drop i bs)) ≡ (differ a.ty b.ty || lists_differ (types_of (drop (i + 1) as')) (types_of (drop (i + 1) bs)))
differ_at as' bs i a b within same at_a at_b =
    let a_is : drop i as' ≡ a ∷ drop (i + 1) as' = drop_more as' i a within ∙ ap (λ y. y ∷ drop (i + 1) as') (sym at_a) in
    let b_is : drop i bs ≡ b ∷ drop (i + 1) bs = drop_more bs i b (omega arith) ∙ ap (λ y. y ∷ drop (i + 1) bs) (sym at_b) in
    ap (λ xs. lists_differ (types_of xs) (types_of (drop i bs))) a_is ∙ ap (λ ys. lists_differ (types_of (a ∷ drop (i + 1) as')) (types_of ys)) b_is

pub lengths_differ : (as' bs : List Param) → (length as' ≡ length bs → ⊥) → lists_differ (types_of as') (types_of bs) ≡ true
lengths_differ [] [] h = absurd (h refl)
lengths_differ [] (b ∷ bs) h = refl
lengths_differ (a ∷ as') [] h = refl
lengths_differ (a ∷ as') (b ∷ bs) h = by (differ a.ty b.ty) (lengths_differ as' bs (λ same. h (omega arith)))
  where
    by : (d : Bool) → lists_differ (types_of as') (types_of bs) ≡ true → (d || lists_differ (types_of as') (types_of bs)) ≡ true
    by true e = refl
    by false e = e

-- ---- parameters

pub parameters_more : (params : List Param) (i : ℕ) (x : Param) (l l' all : Locals) (now new whole : Option Fault) → least_with now (parameter_faults l (drop i params)) ≡ whole → parameter_locals l (drop i params) ≡ all → i < length params → x ≡ get_or params i x → new ≡ least_with now (local_faults MAX_PARAMETERS x.at x.name l) → l' ≡ with_local x.name x.ty l → (least_with new (parameter_faults l' (drop (i + 1) params)) ≡ whole) × (parameter_locals l' (drop (i + 1) params) ≡ all)
parameters_more params i x l l' all now new whole faults locals within at step after =
    let dropped : drop i params ≡ x ∷ drop (i + 1) params = drop_more params i x within ∙ ap (λ y. y ∷ drop (i + 1) params) (sym at) in (
      ap (λ k. least_with new (parameter_faults k (drop (i + 1) params))) after
          ∙ ap (λ o. least_with o (parameter_faults (with_local x.name x.ty l) (drop (i + 1) params))) step
          ∙ sym (first_with_both now (local_faults MAX_PARAMETERS x.at x.name l) _)
          ∙ sym (ap (λ ps. least_with now (parameter_faults l ps)) dropped)
          ∙ faults,
      ap (λ k. parameter_locals k (drop (i + 1) params)) after ∙ sym (ap (parameter_locals l) dropped) ∙ locals,
    )

-- ---- members

pub members_more : {X D : Type 0} (f : X → Option D) (xs : List X) (i : ℕ) (x : X) (now new : List D) → now ≡ filter_map f (take i xs) → i < length xs → x ≡ get_or xs i x → new ≡ now ++ filter_map f (x ∷ []) → new ≡ filter_map f (take (i + 1) xs)
members_more f xs i x now new so_far within at step = step ∙ ap (λ ys. ys ++ filter_map f (x ∷ [])) so_far ∙ sym (filter_next f xs i x within at)

-- what a loop over all members made
pub object_made : (around : Surroundings) (object : ObjectDecl) (items : List Member) (i : ℕ) (made : TypedObject) → items ≡ object.members → made.name ≡ object.name → made.fields ≡ filter_map (field_form around) (take i items) → made.methods ≡ filter_map (method_form around) (take i items) → length items ≤ i → made ≡ object_form around object
object_made around object items i made items_are name fields methods past =
    let all : take i items ≡ object.members = take_all i items past ∙ items_are in
    ap (λ (x : List ℕ). let t : TypedObject = record made { name = x } in t) name
    ∙ ap (λ (x : List TypedField). let t : TypedObject = record made { name = object.name; fields = x } in t) (fields ∙ ap (filter_map (field_form around)) all)
    ∙ ap (λ (x : List TypedMethod). let t : TypedObject = record { name = object.name; fields = filter_map (field_form around) object.members; methods = x } in t) (methods ∙ ap (filter_map (method_form around)) all)

-- ---- one member

-- its form goes last
pub one_form : {M D : Type 0} (f : M → Option D) (m n : M) (d : D) (old new : List D) → m ≡ n → f n ≡ Some d → new ≡ old ++ d ∷ [] → new ≡ old ++ filter_map f (m ∷ [])
one_form f m n d old new is form push = push ∙ ap (λ o. old ++ cons_option o []) (sym (ap f is ∙ form))

-- how many locals a method has, and its body
abbrev pub locals_and_body : Surroundings → List Param → Ty → Block → ℕ × TypedBlock
locals_and_body around params answer body = ((body_passage around params answer body).after.next, (body_passage around params answer body).form)

pub method_made : (around : Surroundings) (m : Member) (at : ℕ) (name : List ℕ) (params : List Param) (answer : Ty) (body : Block) (types : Option (ℕ × Signature)) (number : ℕ) (made : ℕ × TypedBlock) (old new : List TypedMethod) → m ≡ tree.Method at name params answer body → types ≡ declaration_of around.signatures name → number ≡ method_number types → made ≡ locals_and_body around params answer body → new ≡ old ++ record { name = number; locals = made.0; body = made.1 } ∷ [] → new ≡ old ++ filter_map (method_form around) (m ∷ [])
method_made around m at name params answer body types number made old new is types_are number_is made_is push =
    let one : TypedMethod = record { name = number; locals = made.0; body = made.1 } in
    let form : method_form around (tree.Method at name params answer body) ≡ Some one =
    sym (ap (λ (n : ℕ). let t : TypedMethod = record { name = n; locals = made.0; body = made.1 } in Some t) (number_is ∙ ap method_number types_are)
    ∙ ap (λ (p : ℕ × TypedBlock). let t : TypedMethod = record { name = method_number (declaration_of around.signatures name); locals = p.0; body = p.1 } in Some t) made_is) in
    one_form (method_form around) m (tree.Method at name params answer body) one old new is form push

pub method_noted : (around : Surroundings) (m : Member) (at : ℕ) (name : List ℕ) (params : List Param) (answer : Ty) (body : Block) (types : Option (ℕ × Signature)) (o k n : Option Fault) → m ≡ tree.Method at name params answer body → types ≡ declaration_of around.signatures name → k ≡ least_with o (signature_faults at (signature_of params answer) types) → n ≡ least_with k (parameter_faults no_locals params ++ (body_passage around params answer body).faults) → n ≡ least_with o (member_faults around m)
method_noted around m at name params answer body types o k n is types_are first rest =
    then_more o k n (signature_faults at (signature_of params answer) types) (parameter_faults no_locals params ++ (body_passage around params answer body).faults) first rest
    ∙ ap (least_with o) (sym (append_assoc (signature_faults at (signature_of params answer) types) (parameter_faults no_locals params) (body_passage around params answer body).faults))
    ∙ ap (λ t. least_with o (signature_faults at (signature_of params answer) t ++ parameter_faults no_locals params ++ (body_passage around params answer body).faults)) types_are
    ∙ ap (λ (x : Member). least_with o (member_faults around x)) (sym is)
