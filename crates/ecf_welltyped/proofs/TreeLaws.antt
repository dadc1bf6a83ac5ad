-- The numbered form of a tree without fault whose tokens are spelled is well formed.
use Rattle.std.proofs.Common.{◌≡◌, ℕ, ◌*◌, ◌^◌, ◌<◌, ◌≤◌, true, List, [], ◌∷◌, ◌++◌, map, length, Some, is_some, refl, sym, subst, ap, ◌∙◌, arith}
use Rattle.std.specs.Prelude.{slice_get, IsSome, MatchOption, ⊤, option_map}
use Rattle.std.specs.List.{AllByRecursion, Any, flat_map, filter_map}
use Rattle.std.proofs.lemmas.List.{length-append, length-map}
use Rattle.std.proofs.lemmas.List.Elements.{All-from_recursion, filter_map-append}
use Rattle.std.proofs.lemmas.Option.{slice_get_within, slice_get-map, same_Some}
use Rattle.ecf_lang.specs.declared.limits.TheConstants.{MAX_OBJECTS, MAX_METHODS}
use Rattle.ecf_lang.specs.declared.tree.Tree.{Tree}
use Rattle.ecf_lang.specs.declared.tree.ObjectDecl.{ObjectDecl}
use Rattle.ecf_lang.specs.declared.tree.Member.{Member}
use Rattle.ecf_lang.specs.declared.typed.FieldKind.{FieldKind}
use Rattle.ecf_lang.specs.declared.typed.Signature.{Signature}
use Rattle.ecf_lang.specs.declared.typed.TypedObject.{TypedObject}
use Rattle.ecf_lang.specs.declared.typed.TypedField.{TypedField}
use Rattle.ecf_lang.specs.declared.typed.TypedMethod.{TypedMethod}
use Rattle.ecf_lang.specs.Fits.{method_of}
use Rattle.ecf_grammar.specs.Lexemes.{lexemes_of}
use Rattle.ecf_grammar.specs.Spelling.{IsName}
use Rattle.ecf_wellformed.specs.Typing.{IsMethodName}
use Rattle.ecf_wellformed.specs.WellFormed.{IsField, IsMethod, IsObject, IsWellFormed}
use Rattle.ecf_faults.specs.declared.What.TheVariants as what
use Rattle.ecf_faults.specs.Tables.{declaration_of, table_of}
use Rattle.ecf_faults.specs.Expressions.{method_number}
use Rattle.ecf_faults.specs.Declarations.{repeat_faults, excess_faults, field_kind, field_declaration, method_declaration, method_signature, object_declaration, all_members, object_table, signature_table, surroundings_of, member_faults, field_form, method_form, object_faults, faults_of_tree, object_form, numbered_form}
use Rattle.ecf_welltyped.specs.Laws.{LexemesAreSpelled, NumberedFormIsWellFormed}
use Rattle.ecf_welltyped.proofs.ListLaws.{none_front, none_behind, number_kept}
use Rattle.ecf_welltyped.proofs.SpellingLaws.{with_numbers_spelled}
use Rattle.ecf_welltyped.proofs.TableLaws.{names, Apart, pairs, weaker, declared, is_table, stands, numbered_at, no_longer, from_declarations, IsThere, some_declared, all_there, AreNew, are_new, names_apart, declared_stands}
use Rattle.ecf_welltyped.proofs.ExpressionLaws.{HasField, HasMethodName, Agrees}
use Rattle.ecf_welltyped.proofs.MemberLaws.{IsSound, member_is}
use Rattle.ecf_welltyped.proofs.FormLaws.{few_of, each_none, both, given, mapped, unmapped, ungiven, map_apart, at_get, some_at, any_here, any_there, kind_names, signature_names, as_many, form_names, form_numbers, field_at, signature_numbers, methods_found, IsFaultless, is_faultless, IsSpelledMember, IsSpelledObject, file_spelled, method_name_spelled, signatures_of_all, signatures_of_each}

module _ (tree : Tree) where
  -- the number of a method name
  abbrev number : List ℕ → ℕ
  number name = method_number (declaration_of (signature_table tree) name)

  -- the declared types of methods
  abbrev signatures : List (List ℕ × Signature)
  signatures = filter_map method_signature (all_members tree)

  abbrev form : ObjectDecl → TypedObject
  form object = object_form (surroundings_of tree object) object

  abbrev IsSoundObject : ObjectDecl → Type 0
  IsSoundObject object = IsFaultless (surroundings_of tree object) object.members

  -- ---- each method name is used

  -- the object has the method of that name
  abbrev Has : TypedObject → List ℕ × Signature → Type 0
  Has object one = IsSome (method_of object (number one.0))

  has_own : (object : ObjectDecl) → AllByRecursion (Has (form object)) (filter_map method_signature object.members)
  has_own object =
      signature_numbers (surroundings_of tree object) (λ n. IsSome (method_of (form object) n)) object.members (methods_found (filter_map (method_form (surroundings_of tree object)) object.members))

  used_in : (objects : List ObjectDecl) → AllByRecursion (λ object. AllByRecursion (λ one. Any (λ o. Has o one) (map form objects)) (filter_map method_signature object.members)) objects
  used_in [] = tt
  used_in (object ∷ objects) = (
    weaker (Has (form object)) (λ one. Any (λ o. Has o one) (form object ∷ map form objects))
        (λ one is. any_here (λ o. Has o one) (form object) (map form objects) is) (filter_map method_signature object.members) (has_own object),
    weaker (λ (other : ObjectDecl). AllByRecursion (λ one. Any (λ o. Has o one) (map form objects)) (filter_map method_signature other.members))
        (λ (other : ObjectDecl). AllByRecursion (λ one. Any (λ o. Has o one) (form object ∷ map form objects)) (filter_map method_signature other.members))
        (λ other all. weaker (λ one. Any (λ o. Has o one) (map form objects)) (λ one. Any (λ o. Has o one) (form object ∷ map form objects))
        (λ one is. any_there (λ o. Has o one) (form object) (map form objects) is) (filter_map method_signature other.members) all)
        objects (used_in objects),
  )

  all_used : AllByRecursion (λ one. IsMethodName (numbered_form tree) (number one.0)) (signature_table tree)
  all_used =
      from_declarations (λ name signature. IsMethodName (numbered_form tree) (number name)) signatures
      (signatures_of_all (λ one. IsMethodName (numbered_form tree) (number one.0)) tree.objects (used_in tree.objects))

  -- ---- there are few

  few_signatures : (objects : List ObjectDecl) → AllByRecursion IsSoundObject objects
      → length (filter_map method_signature (flat_map (λ object. object.members) objects)) ≤ MAX_METHODS * length objects
  few_signatures [] all = omega arith
  few_signatures (object ∷ objects) all =
      let own = filter_map method_signature object.members in
      let rest = filter_map method_signature (flat_map (λ object. object.members) objects) in
      omega (
        arith,
        few_signatures objects all.1,
        all.0.few_methods,
        as_many own (filter_map method_declaration object.members) (signature_names object.members),
        length-append own rest,
        ap length (filter_map-append method_signature object.members (flat_map (λ object. object.members) objects)),
      )

  module _ (few_objects : length tree.objects ≤ MAX_OBJECTS) (all : AllByRecursion IsSoundObject tree.objects) where
    small : (name : List ℕ) (n : ℕ) (s : Signature) → declaration_of (signature_table tree) name ≡ Some (n, s) → n < 2 ^ 16
    small name n s e =
        omega (arith, slice_get_within (signature_table tree) n (name, (n, s)) (stands (signature_table tree) name n s (is_table signatures) e), no_longer signatures, few_signatures tree.objects all, few_objects)

    number_is : (name : List ℕ) (n : ℕ) (s : Signature) → declaration_of (signature_table tree) name ≡ Some (n, s) → number name ≡ n
    number_is name n s e = ap method_number e ∙ number_kept (2 ^ 16) n (small name n s e)

    has_method_name : (object : ObjectDecl) (name : List ℕ) (n : ℕ) (s : Signature) → declaration_of (signature_table tree) name ≡ Some (n, s) → HasMethodName (numbered_form tree) (form object) n s
    has_method_name object name n s e = record {
      small = small name n s e;
      used = subst (IsMethodName (numbered_form tree)) (number_is name n s e)
          (declared (λ name value. IsMethodName (numbered_form tree) (number name)) (signature_table tree) name (n, s) all_used e);
      signature = slice_get-map (λ one. one.1.1) (signature_table tree) n ∙ ap (option_map (λ one. one.1.1)) (stands (signature_table tree) name n s (is_table signatures) e);
    }

    -- ---- one object

    module _ (object : ObjectDecl) (sound : IsFaultless (surroundings_of tree object) object.members) where
      has_field : (name : List ℕ) (n : ℕ) (k : FieldKind) → declaration_of (table_of (filter_map field_kind object.members)) name ≡ Some (n, k) → HasField (numbered_form tree) (form object) n k
      has_field name n k e =
          let kinds = filter_map field_kind object.members in
          let stands_at = declared_stands kinds (subst (AreNew []) (sym (kind_names object.members)) sound.new_fields) name n k e in
          let field = field_at (surroundings_of tree object) object.members n name k stands_at in
          record {
            small = omega (arith, slice_get_within kinds n (name, k) stands_at, as_many kinds (filter_map field_declaration object.members) (kind_names object.members), sound.few_fields);
            field = field.0;
            at = field.1;
            of_kind = field.2;
          }

      has_object : (name : List ℕ) (n token : ℕ) → declaration_of (object_table tree) name ≡ Some (n, token) → (n < 2 ^ 8) × (n < length (numbered_form tree).objects)
      has_object name n token e =
          let declarations = map object_declaration tree.objects in
          let within = slice_get_within (object_table tree) n (name, (n, token)) (stands (object_table tree) name n token (is_table declarations) e) in
          let less : n < length tree.objects = omega (arith, within, no_longer declarations, length-map tree.objects object_declaration) in
          (omega (arith, less, few_objects), omega (arith, less, length-map tree.objects form))

      -- the names of the object's methods, however they are listed
      own_names : AllByRecursion (λ one. IsSome (method_of (form object) (number one.0))) (filter_map method_declaration object.members)
      own_names =
          unmapped (λ one. one.0) (λ name. IsSome (method_of (form object) (number name))) (filter_map method_declaration object.members)
          (subst (AllByRecursion (λ name. IsSome (method_of (form object) (number name)))) (signature_names object.members)
          (mapped (λ one. one.0) (λ name. IsSome (method_of (form object) (number name))) (filter_map method_signature object.members) (has_own object)))

      has_own_method : (name : List ℕ) (n : ℕ) (s : Signature) → is_some (declaration_of (table_of (filter_map method_declaration object.members)) name) ≡ true → declaration_of (signature_table tree) name ≡ Some (n, s)
          → IsSome (method_of (form object) n)
      has_own_method name n s there e =
          let methods = table_of (filter_map method_declaration object.members) in
          let here = some_declared (declaration_of methods name) there in
          subst (λ m. IsSome (method_of (form object) m)) (number_is name n s e)
          (declared (λ name value. IsSome (method_of (form object) (number name))) methods name (here.0, here.1)
          (from_declarations (λ name token. IsSome (method_of (form object) (number name))) (filter_map method_declaration object.members) own_names) here.2)

      agrees : Agrees (numbered_form tree) (form object) (surroundings_of tree object)
      agrees = record { fields = has_field; objects = has_object; methods = has_method_name object; own_methods = has_own_method }

      module _ (spelled : IsSpelledObject object) (there : AllByRecursion (λ one. IsThere (signature_table tree) one.0) (filter_map method_signature object.members)) where
        member_sound : (m : Member) → IsSpelledMember m × MatchOption (method_signature m) ⊤ (λ one. IsThere (signature_table tree) one.0) × (member_faults (surroundings_of tree object) m ≡ [])
            → IsSound (numbered_form tree) (form object) (surroundings_of tree object) agrees m
        member_sound m all = member_is (numbered_form tree) (form object) (surroundings_of tree object) agrees all.0.1 all.0.2 all.1 all.2

        members_sound : AllByRecursion (IsSound (numbered_form tree) (form object) (surroundings_of tree object) agrees) object.members
        members_sound =
            let signed = ungiven method_signature (λ one. IsThere (signature_table tree) one.0) object.members there in
            weaker (λ m. IsSpelledMember m × (MatchOption (method_signature m) ⊤ (λ one. IsThere (signature_table tree) one.0) × (member_faults (surroundings_of tree object) m ≡ [])))
            (IsSound (numbered_form tree) (form object) (surroundings_of tree object) agrees) (λ m all. member_sound m (all.0, all.1.0, all.1.1)) object.members
            (both IsSpelledMember (λ m. MatchOption (method_signature m) ⊤ (λ one. IsThere (signature_table tree) one.0) × (member_faults (surroundings_of tree object) m ≡ [])) object.members spelled.members
            (both (λ m. MatchOption (method_signature m) ⊤ (λ one. IsThere (signature_table tree) one.0)) (λ m. member_faults (surroundings_of tree object) m ≡ []) object.members signed sound.each))

        -- names with one number are one name
        one_name : (a b : List ℕ) → IsThere (signature_table tree) a → IsThere (signature_table tree) b
            → number a ≡ number b → a ≡ b
        one_name a b at_a at_b same =
            let numbers : at_a.0 ≡ at_b.0 = sym (number_is a at_a.0 at_a.1 at_a.2) ∙ same ∙ number_is b at_b.0 at_b.1 at_b.2 in
            let first = stands (signature_table tree) a at_a.0 at_a.1 (is_table signatures) at_a.2 in
            let second = stands (signature_table tree) b at_b.0 at_b.1 (is_table signatures) at_b.2 in
            ap (λ (e : List ℕ × (ℕ × Signature)). e.0) (same_Some _ _ (sym first ∙ ap (slice_get (signature_table tree)) numbers ∙ second))

        names_there : AllByRecursion (IsThere (signature_table tree)) (names (filter_map method_declaration object.members))
        names_there = subst (AllByRecursion (IsThere (signature_table tree))) (signature_names object.members) (mapped (λ one. one.0) (IsThere (signature_table tree)) (filter_map method_signature object.members) there)

        is_object : IsObject (numbered_form tree) (form object)
        is_object =
            let around = surroundings_of tree object in
            let fields = filter_map (field_form around) object.members in
            let methods = filter_map (method_form around) object.members in
            let field_names = form_names around object.members in
            let method_numbers = form_numbers around object.members in
            record {
              name = spelled.name;
              few_fields = omega (arith, sym (length-map fields (λ (f : TypedField). f.name)) ∙ ap length field_names ∙ length-map (filter_map field_declaration object.members) (λ one. one.0), sound.few_fields);
              few_methods = omega (
                arith,
                sym (length-map methods (λ (m : TypedMethod). m.name)) ∙ ap length method_numbers ∙ length-map (names (filter_map method_declaration object.members)) number,
                length-map (filter_map method_declaration object.members) (λ one. one.0),
                sound.few_methods,
              );
              field_names = pairs _ (subst Apart (sym field_names) (names_apart (filter_map field_declaration object.members) sound.new_fields));
              method_names = pairs _ (subst Apart (sym method_numbers)
                  (map_apart number (IsThere (signature_table tree)) one_name (names (filter_map method_declaration object.members)) names_there
                  (names_apart (filter_map method_declaration object.members) sound.new_methods)));
              fields = All-from_recursion (IsField (numbered_form tree)) fields (given (field_form around) (IsField (numbered_form tree)) object.members
                  (weaker (IsSound (numbered_form tree) (form object) around agrees) (λ m. MatchOption (field_form around m) ⊤ (IsField (numbered_form tree))) (λ m is. is.0) object.members members_sound));
              methods = All-from_recursion (IsMethod (numbered_form tree) (form object)) methods (given (method_form around) (IsMethod (numbered_form tree) (form object)) object.members
                  (weaker (IsSound (numbered_form tree) (form object) around agrees) (λ m. MatchOption (method_form around m) ⊤ (IsMethod (numbered_form tree) (form object))) (λ m is. is.1) object.members members_sound));
            }

    -- ---- the whole tree

    objects_are : (objects : List ObjectDecl) → AllByRecursion IsSoundObject objects → AllByRecursion IsSpelledObject objects
        → AllByRecursion (λ object. AllByRecursion (λ one. IsThere (signature_table tree) one.0) (filter_map method_signature object.members)) objects
        → AllByRecursion (IsObject (numbered_form tree)) (map form objects)
    objects_are [] sound spelled there = tt
    objects_are (object ∷ objects) sound spelled there = (is_object object sound.0 spelled.0 there.0, objects_are objects sound.1 spelled.1 there.1)

    -- the number of each place among the method names is that of a method name
    is_used : (n : ℕ) → n < length (signature_table tree) → IsMethodName (numbered_form tree) n
    is_used n less =
        let entry = some_at (signature_table tree) n less in
        let here = at_get (λ one. declaration_of (signature_table tree) one.0 ≡ Some one.1) (signature_table tree) n entry.0 (is_table signatures).own entry.1 in
        let at = numbered_at (signature_table tree) n entry.0 (is_table signatures) entry.1 in
        subst (IsMethodName (numbered_form tree)) (number_is entry.0.0 entry.0.1.0 entry.0.1.1 here ∙ at)
        (at_get (λ one. IsMethodName (numbered_form tree) (number one.0)) (signature_table tree) n entry.0 all_used entry.1)

    names_spelled : AllByRecursion IsSpelledObject tree.objects → AllByRecursion IsName (names (signature_table tree))
    names_spelled spelled =
        mapped (λ one. one.0) IsName (signature_table tree)
        (from_declarations (λ name signature. IsName name) signatures
        (signatures_of_all (λ one. IsName one.0) tree.objects
        (weaker IsSpelledObject (λ object. AllByRecursion (λ one. IsName one.0) (filter_map method_signature object.members))
        (λ object is. given method_signature (λ one. IsName one.0) object.members
        (weaker IsSpelledMember (λ m. MatchOption (method_signature m) ⊤ (λ one. IsName one.0)) (λ m p. method_name_spelled p.1 p.2) object.members is.members))
        tree.objects spelled)))

    whole_is : AllByRecursion IsSpelledObject tree.objects → Apart (names (map object_declaration tree.objects)) → IsWellFormed (numbered_form tree)
    whole_is spelled apart =
        let there = signatures_of_each (λ one. IsThere (signature_table tree) one.0) tree.objects (all_there signatures) in
        record {
          few_objects = omega (arith, few_objects, length-map tree.objects form);
          object_names = pairs _ (subst Apart (declared_names tree.objects) apart);
          objects = All-from_recursion (IsObject (numbered_form tree)) _ (objects_are tree.objects all spelled there);
          spelled = All-from_recursion IsName _ (names_spelled spelled);
          method_names = pairs _ (is_table signatures).apart;
          used = λ n less. is_used n (omega (arith, less, length-map (signature_table tree) (λ one. one.0)));
          signatures = length-map (signature_table tree) (λ one. one.1.1) ∙ sym (length-map (signature_table tree) (λ one. one.0));
        }
      where
        declared_names : (objects : List ObjectDecl) → names (map object_declaration objects) ≡ map (λ (object : TypedObject). object.name) (map form objects)
        declared_names [] = refl
        declared_names (object ∷ objects) = ap (λ rest. object.name ∷ rest) (declared_names objects)

  is_well_formed : AllByRecursion IsSpelledObject tree.objects → faults_of_tree tree ≡ [] → IsWellFormed (numbered_form tree)
  is_well_formed spelled none =
      let declarations = map object_declaration tree.objects in
      let a = repeat_faults what.TwoObjects [] declarations in
      let b = excess_faults what.TooManyObjects MAX_OBJECTS declarations in
      let c = flat_map (λ object. object_faults (surroundings_of tree object) object.members) tree.objects in
      let outside = none_front (a ++ b) c none in
      let few : length tree.objects ≤ MAX_OBJECTS = omega (arith, few_of what.TooManyObjects MAX_OBJECTS declarations (none_behind a b outside), length-map tree.objects object_declaration) in
      let sound = weaker (λ object. object_faults (surroundings_of tree object) object.members ≡ []) IsSoundObject
      (λ object e. is_faultless (surroundings_of tree object) object.members e) tree.objects (each_none (λ object. object_faults (surroundings_of tree object) object.members) tree.objects (none_behind (a ++ b) c none)) in
      whole_is few sound spelled (names_apart declarations (are_new what.TwoObjects declarations (none_front a b outside)))

pub numbered_form_is_well_formed : LexemesAreSpelled → NumberedFormIsWellFormed
numbered_form_is_well_formed law source tokens tree reads spelled none =
    is_well_formed tree (file_spelled spelled (with_numbers_spelled 0 (lexemes_of source tokens) (law source tokens reads))) none
