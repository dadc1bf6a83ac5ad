-- Each form of expression, of parts that have their types where they have no fault: it has its type where it has no fault.
use Rattle.std.proofs.Common.{◌≡◌, ℕ, ◌^◌, ◌<◌, ◌==◌, Bool, true, false, not, if◌then◌else◌, List, [], ◌∷◌, ◌++◌, length, map, Option, Some, None, is_some, refl, sym, subst, ap, ◌∙◌, arith, ◌⊎◌, inl, inr}
use Rattle.std.specs.Prelude.{slice_get, IsSome}
use Rattle.std.specs.List.{AllByRecursion, flat_map}
use Rattle.std.proofs.lemmas.Bool.Decides.{nat_tests}
use Rattle.std.proofs.lemmas.List.Elements.{All-from_recursion}
use Rattle.ecf_lang.specs.declared.tree.Ty.{Ty}
use Rattle.ecf_lang.specs.declared.tree.Ty.TheVariants.{Num, Flag, Addr}
use Rattle.ecf_lang.specs.declared.tree.Op.{Op}
use Rattle.ecf_lang.specs.declared.tree.Op.TheVariants as op
use Rattle.ecf_lang.specs.declared.tree.Expr.{Expr-F}
use Rattle.ecf_lang.specs.declared.tree.CallExpr.{CallExpr-F}
use Rattle.ecf_lang.specs.declared.typed.FieldKind.{FieldKind}
use Rattle.ecf_lang.specs.declared.typed.FieldKind.TheVariants as kind
use Rattle.ecf_lang.specs.declared.typed.Signature.{Signature}
use Rattle.ecf_lang.specs.declared.typed.Typed.{Typed}
use Rattle.ecf_lang.specs.declared.typed.TypedObject.{TypedObject}
use Rattle.ecf_lang.specs.declared.typed.TypedField.{TypedField}
use Rattle.ecf_lang.specs.declared.typed.TypedExpr.{TypedExpr}
use Rattle.ecf_lang.specs.declared.typed.TypedExpr.TheVariants as expr
use Rattle.ecf_lang.specs.declared.typed.TypedCall.{TypedCall}
use Rattle.ecf_lang.specs.declared.typed.TypedCall.TheVariants as called
use Rattle.ecf_lang.specs.declared.typed.Place.TheVariants as place
use Rattle.ecf_lang.specs.Fits.{method_of}
use Rattle.ecf_grammar.specs.declared.tokens.Sign.{Sign}
use Rattle.ecf_grammar.specs.declared.tokens.Sign.TheVariants as sign
use Rattle.ecf_grammar.specs.Spells.{comparison_op, sum_op, product_op}
use Rattle.ecf_wellformed.specs.Typing.{Scope, Sees, IsMethodName, IsOfSum, IsOfProduct, IsEquality, IsOrder, PlaceHas, MapHas, HasType, Calls, HaveTypes, AreNums, AreFlags}
use Rattle.ecf_faults.specs.Tables.{Table, declaration_of, Surroundings}
use Rattle.ecf_faults.specs.Expressions.{Report, type_faults, faults_for, referent_of, referent_type, referent_faults, referent_form, map_faults, key_type, value_type, map_number, method_number, answer_type, arity_faults, parameter_types, argument_faults, call_faults, own_method, call_step, expr_step}
use Rattle.ecf_welltyped.proofs.ListLaws.{none_front, none_behind, not_so, as_required, number_kept}

-- ---- the operators of each sign

pub is_of_sum : (s : Sign) (o : Op) → sum_op s ≡ Some o → IsOfSum o
is_of_sum sign.Plus o e = subst IsOfSum (grind arith) IsOfSum.plus
is_of_sum sign.Minus o e = subst IsOfSum (grind arith) IsOfSum.minus
is_of_sum _ o e = absurd cc

pub is_of_product : (s : Sign) (o : Op) → product_op s ≡ Some o → IsOfProduct o
is_of_product sign.Star o e = subst IsOfProduct (grind arith) IsOfProduct.times
is_of_product sign.Slash o e = subst IsOfProduct (grind arith) IsOfProduct.quotient
is_of_product sign.Percent o e = subst IsOfProduct (grind arith) IsOfProduct.remainder
is_of_product _ o e = absurd cc

pub compares : (s : Sign) (o : Op) → comparison_op s ≡ Some o → IsEquality o ⊎ IsOrder o
compares sign.Equal o e = inl (subst IsEquality (grind arith) IsEquality.equal)
compares sign.NotEqual o e = inl (subst IsEquality (grind arith) IsEquality.unequal)
compares sign.Less o e = inr (subst IsOrder (grind arith) IsOrder.less)
compares sign.LessEqual o e = inr (subst IsOrder (grind arith) IsOrder.less_equal)
compares sign.Greater o e = inr (subst IsOrder (grind arith) IsOrder.greater)
compares sign.GreaterEqual o e = inr (subst IsOrder (grind arith) IsOrder.greater_equal)
compares _ o e = absurd cc

-- ---- what is declared, as the numbered form has it

module _ (typed : Typed) (own : TypedObject) where
  -- the object has a field or map of that number and kind
  pub record HasField (n : ℕ) (k : FieldKind) : Type 0 where
    pub small : n < 2 ^ 8
    pub field : TypedField
    pub at : slice_get own.fields n ≡ Some field
    pub of_kind : field.kind ≡ k

  -- the file has a method name of that number and signature
  pub record HasMethodName (n : ℕ) (s : Signature) : Type 0 where
    pub small : n < 2 ^ 16
    pub used : IsMethodName typed n
    pub signature : slice_get typed.signatures n ≡ Some s

  -- what is visible outside of methods is what the numbered form has
  pub record Agrees (around : Surroundings) : Type 0 where
    pub fields : (name : List ℕ) (n : ℕ) (k : FieldKind) → declaration_of around.own name ≡ Some (n, k) → HasField n k
    pub objects : (name : List ℕ) (n token : ℕ) → declaration_of around.objects name ≡ Some (n, token) → (n < 2 ^ 8) × (n < length typed.objects)
    pub methods : (name : List ℕ) (n : ℕ) (s : Signature) → declaration_of around.signatures name ≡ Some (n, s) → HasMethodName n s
    pub own_methods : (name : List ℕ) (n : ℕ) (s : Signature) → is_some (declaration_of around.methods name) ≡ true → declaration_of around.signatures name ≡ Some (n, s) → IsSome (method_of own n)

  -- the visible locals are those of the scope
  abbrev pub AreSeen : Scope → Table (ℕ × Ty) → Type 0
  AreSeen scope visible = (name : List ℕ) (n : ℕ) (ty : Ty) → declaration_of visible name ≡ Some (n, ty) → Sees scope n ty

  module _ (scope : Scope) where
    -- an expression without fault has its type
    abbrev pub IsTyped : Report TypedExpr → Type 0
    IsTyped r = r.faults ≡ [] → (ty : Ty) × (r.ty ≡ Some ty) × HasType typed own scope r.form ty

    -- a call without fault has the type of its answer
    abbrev pub IsTypedCall : Report TypedCall → Type 0
    IsTypedCall r = r.faults ≡ [] → (ty : Ty) × (r.ty ≡ Some ty) × Calls typed own scope r.form ty

    pub has_type : (want : Ty) (r : Report TypedExpr) → IsTyped r → faults_for (Some want) r ≡ [] → HasType typed own scope r.form want
    has_type want r is none =
        let t = is (none_front r.faults (type_faults (Some want) r.ty r.place) none) in
        let same = as_required want t.0 r.place (subst (λ o. type_faults (Some want) o r.place ≡ []) t.1 (none_behind r.faults (type_faults (Some want) r.ty r.place) none)) in
        subst (λ ty. HasType typed own scope r.form ty) (sym same) t.2

    -- ---- several parts

    are_flags : (parts : List (Report TypedExpr)) → AllByRecursion IsTyped parts → flat_map (faults_for (Some Flag)) parts ≡ [] → AreFlags typed own scope (map (λ part. part.form) parts)
    are_flags [] are none = AreFlags.no_flag
    are_flags (part ∷ parts) are none =
        AreFlags.flags (has_type Flag part are.0 (none_front (faults_for (Some Flag) part) (flat_map (faults_for (Some Flag)) parts) none))
        (are_flags parts are.1 (none_behind (faults_for (Some Flag) part) (flat_map (faults_for (Some Flag)) parts) none))

    are_nums : (Is : Op → Type 0) (parts : List (Op × Report TypedExpr)) → AllByRecursion (λ part. Is part.0 × IsTyped part.1) parts → flat_map (λ part. faults_for (Some Num) part.1) parts ≡ []
        → AreNums typed own scope (map (λ part. (part.0, part.1.form)) parts)
    are_nums Is [] are none = AreNums.no_part
    are_nums Is (part ∷ parts) are none =
        AreNums.part (has_type Num part.1 are.0.1 (none_front (faults_for (Some Num) part.1) (flat_map (λ part. faults_for (Some Num) part.1) parts) none))
        (are_nums Is parts are.1 (none_behind (faults_for (Some Num) part.1) (flat_map (λ part. faults_for (Some Num) part.1) parts) none))

    operators : (Is : Op → Type 0) (parts : List (Op × Report TypedExpr)) → AllByRecursion (λ part. Is part.0 × IsTyped part.1) parts → AllByRecursion (λ (part : Op × TypedExpr). Is part.0) (map (λ part. (part.0, part.1.form)) parts)
    operators Is [] are = tt
    operators Is (part ∷ parts) are = (are.0.0, operators Is parts are.1)

    have_types : (tys : List Ty) (args : List (Report TypedExpr)) → AllByRecursion IsTyped args → length args ≡ length tys → argument_faults tys args ≡ [] → HaveTypes typed own scope (map (λ arg. arg.form) args) tys
    have_types [] [] are as_many none = HaveTypes.no_argument
    have_types (ty ∷ tys) [] are as_many none = absurd (omega arith)
    have_types [] (arg ∷ args) are as_many none = absurd (omega arith)
    have_types (ty ∷ tys) (arg ∷ args) are as_many none =
        HaveTypes.argument (has_type ty arg are.0 (none_front (faults_for (Some ty) arg) (argument_faults tys args) none))
        (have_types tys args are.1 (omega arith) (none_behind (faults_for (Some ty) arg) (argument_faults tys args) none))

    -- ---- names

    -- a name's place and its type, by what is declared under it
    named : (local : Option (ℕ × Ty)) (field : Option (ℕ × FieldKind)) (object : Option (ℕ × ℕ)) (at : ℕ) → ((n : ℕ) (ty : Ty) → local ≡ Some (n, ty) → Sees scope n ty)
        → ((n : ℕ) (k : FieldKind) → field ≡ Some (n, k) → HasField n k) → ((n token : ℕ) → object ≡ Some (n, token) → (n < 2 ^ 8) × (n < length typed.objects))
        → referent_faults at (referent_of local field object) ≡ []
        → (ty : Ty) × (referent_type (referent_of local field object) ≡ Some ty) × HasType typed own scope (referent_form (referent_of local field object)) ty
    named (Some (n, ty)) field object at locals fields objects none = (ty, refl, HasType.name (PlaceHas.local (locals n ty refl)))
    named None (Some (n, kind.Plain ty)) object at locals fields objects none =
        let f = fields n (kind.Plain ty) refl in
        (ty, refl, subst (λ m. HasType typed own scope (expr.Name (place.Plain m)) ty) (sym (number_kept (2 ^ 8) n f.small)) (HasType.name (PlaceHas.plain f.at f.of_kind)))
    named None (Some (n, kind.Map key value)) (Some (o, token)) at locals fields objects none =
        let few = objects o token refl in
        (Addr, refl, subst (λ m. HasType typed own scope (expr.Name (place.Object m)) Addr) (sym (number_kept (2 ^ 8) o few.0)) (HasType.name (PlaceHas.object few.1)))
    named None (Some (n, kind.Map key value)) None at locals fields objects none = absurd cc
    named None None (Some (o, token)) at locals fields objects none =
        let few = objects o token refl in
        (Addr, refl, subst (λ m. HasType typed own scope (expr.Name (place.Object m)) Addr) (sym (number_kept (2 ^ 8) o few.0)) (HasType.name (PlaceHas.object few.1)))
    named None None None at locals fields objects none = absurd cc

    -- a map with a key, by what is declared under its name
    pub indexed : (field : Option (ℕ × FieldKind)) (at : ℕ) (key : Report TypedExpr) → ((n : ℕ) (k : FieldKind) → field ≡ Some (n, k) → HasField n k) → IsTyped key
        → map_faults at field ≡ [] → faults_for (key_type field) key ≡ []
        → (n : ℕ) × (key_ty : Ty) × (ty : Ty) × (value_type field ≡ Some ty) × (map_number field ≡ n) × MapHas typed own n key_ty ty × HasType typed own scope key.form key_ty
    indexed None at key fields is found none = absurd cc
    indexed (Some (n, kind.Plain ty)) at key fields is found none = absurd cc
    indexed (Some (n, kind.Map key_ty ty)) at key fields is found none =
        let f = fields n (kind.Map key_ty ty) refl in
        (n, key_ty, ty, refl, number_kept (2 ^ 8) n f.small, MapHas.map f.at f.of_kind, has_type key_ty key is none)

    -- ---- calls

    takes_as_many : (method : ℕ × Signature) (name_at : ℕ) (args : List (Report TypedExpr)) → arity_faults name_at (Some method) (length args) ≡ [] → length args ≡ length method.1.params
    takes_as_many method name_at args none =
        let same : (length args == length method.1.params) ≡ true = right (length args == length method.1.params) (not_so (not (length args == length method.1.params)) name_at _ none) in
        grind (arith, nat_tests)
      where
        right : (b : Bool) → not b ≡ false → b ≡ true
        right true e = refl
        right false e = absurd cc

    taken_types : (params : List Ty) (count : ℕ) → count ≡ length params → (if count == length params then params else []) ≡ params
    taken_types params count same = grind (arith, nat_tests)

    -- a method that is found, and arguments of the types of its parameters
    is_called : (method : Option (ℕ × Signature)) (name_at : ℕ) (args : List (Report TypedExpr)) → AllByRecursion IsTyped args → call_faults name_at method args ≡ []
        → (n : ℕ) × (s : Signature) × (method ≡ Some (n, s)) × HaveTypes typed own scope (map (λ arg. arg.form) args) s.params
    is_called None name_at args are none = absurd cc
    is_called (Some (n, s)) name_at args are none =
        let arity = none_front (arity_faults name_at (Some (n, s)) (length args)) (argument_faults (parameter_types (Some (n, s)) (length args)) args) none in
        let rest = none_behind (arity_faults name_at (Some (n, s)) (length args)) (argument_faults (parameter_types (Some (n, s)) (length args)) args) none in
        let same = takes_as_many (n, s) name_at args arity in
        (n, s, refl, have_types s.params args are same (subst (λ tys. argument_faults tys args ≡ []) (taken_types s.params (length args) same) rest))

    own_found : (there : Bool) (method : Option (ℕ × Signature)) (n : ℕ) (s : Signature) → (if there then method else None) ≡ Some (n, s) → (there ≡ true) × (method ≡ Some (n, s))
    own_found true method n s e = (refl, e)
    own_found false method n s e = absurd cc

    module _ (around : Surroundings) (agrees : Agrees around) where
      number_is : (method : Option (ℕ × Signature)) (n : ℕ) (s : Signature) → method ≡ Some (n, s) → n < 2 ^ 16 → method_number method ≡ n
      number_is method n s e small = ap method_number e ∙ number_kept (2 ^ 16) n small

      pub external_is : (at : ℕ) (target : Report TypedExpr) (name_at : ℕ) (name : List ℕ) (args : List (Report TypedExpr)) → IsTyped target → AllByRecursion IsTyped args
          → IsTypedCall (call_step around (CallExpr-F.External at target name_at name args))
      external_is at target name_at name args is are none =
          let method = declaration_of around.signatures name in
          let found = is_called method name_at args are (none_behind (faults_for (Some Addr) target) (call_faults name_at method args) none) in
          let has = agrees.methods name found.0 found.1 found.2 in
          let to = has_type Addr target is (none_front (faults_for (Some Addr) target) (call_faults name_at method args) none) in (
            found.1.answer,
            ap answer_type found.2,
            subst (λ m. Calls typed own scope (called.External target.form m (map (λ arg. arg.form) args)) found.1.answer) (sym (number_is method found.0 found.1 found.2 has.small))
                (Calls.external to has.used has.signature found.3),
          )

      pub internal_is : (at name_at : ℕ) (name : List ℕ) (args : List (Report TypedExpr)) → AllByRecursion IsTyped args
          → IsTypedCall (call_step around (CallExpr-F.Internal at name_at name args))
      internal_is at name_at name args are none =
          let method = own_method around name in
          let found = is_called method name_at args are none in
          let there = own_found (is_some (declaration_of around.methods name)) (declaration_of around.signatures name) found.0 found.1 found.2 in
          let has = agrees.methods name found.0 found.1 there.1 in (
            found.1.answer,
            ap answer_type found.2,
            subst (λ m. Calls typed own scope (called.Internal m (map (λ arg. arg.form) args)) found.1.answer) (sym (number_is method found.0 found.1 found.2 has.small))
                (Calls.internal (agrees.own_methods name found.0 found.1 there.0 there.1) has.signature found.3),
          )

      -- ---- expressions

      module _ (visible : Table (ℕ × Ty)) where
        pub number_is_typed : (at value : ℕ) → value < 2 ^ 128 → IsTyped (expr_step around visible (Expr-F.Number at value))
        number_is_typed at value small none = (Num, refl, HasType.number small)

        pub flag_is_typed : (at : ℕ) (value : Bool) → IsTyped (expr_step around visible (Expr-F.Flag at value))
        flag_is_typed at value none = (Flag, refl, HasType.flag)

        pub here_is_typed : (at : ℕ) → IsTyped (expr_step around visible (Expr-F.Here at))
        here_is_typed at none = (Addr, refl, HasType.here)

        pub name_is_typed : (at : ℕ) (name : List ℕ) → AreSeen scope visible → IsTyped (expr_step around visible (Expr-F.Name at name))
        name_is_typed at name seen none =
            named (declaration_of visible name) (declaration_of around.own name) (declaration_of around.objects name) at (seen name) (agrees.fields name) (agrees.objects name) none

        pub at_is_typed : (at : ℕ) (name : List ℕ) (key : Report TypedExpr) → IsTyped key → IsTyped (expr_step around visible (Expr-F.At at name key))
        at_is_typed at name key is none =
            let field = declaration_of around.own name in
            let has = indexed field at key (agrees.fields name) is (none_front (map_faults at field) (faults_for (key_type field) key) none) (none_behind (map_faults at field) (faults_for (key_type field) key) none) in
            (has.2, has.3, subst (λ m. HasType typed own scope (expr.At m key.form) has.2) (sym has.4) (HasType.at has.5 has.6))

        pub call_is_typed : (call : Report TypedCall) → IsTypedCall call → IsTyped (expr_step around visible (Expr-F.Call call))
        call_is_typed call is none = let c = is none in (c.0, c.1, HasType.call c.2)

        pub not_is_typed : (at : ℕ) (inner : Report TypedExpr) → IsTyped inner → IsTyped (expr_step around visible (Expr-F.Not at inner))
        not_is_typed at inner is none = (Flag, refl, HasType.not (has_type Flag inner is none))

        pub product_is_typed : (first : Report TypedExpr) (second : Op × Report TypedExpr) (rest : List (Op × Report TypedExpr)) → IsTyped first → AllByRecursion (λ part. IsOfProduct part.0 × IsTyped part.1) (second ∷ rest)
            → IsTyped (expr_step around visible (Expr-F.Product first (second ∷ rest)))
        product_is_typed first second rest is are none =
            let faults = flat_map (λ part. faults_for (Some Num) part.1) (second ∷ rest) in (
              Num,
              refl,
              HasType.product (has_type Num first is (none_front (faults_for (Some Num) first) faults none))
                  (All-from_recursion (λ (part : Op × TypedExpr). IsOfProduct part.0) (map (λ part. (part.0, part.1.form)) (second ∷ rest)) (operators IsOfProduct (second ∷ rest) are)) (are_nums IsOfProduct (second ∷ rest) are (none_behind (faults_for (Some Num) first) faults none)),
            )

        pub sum_is_typed : (first : Report TypedExpr) (second : Op × Report TypedExpr) (rest : List (Op × Report TypedExpr)) → IsTyped first → AllByRecursion (λ part. IsOfSum part.0 × IsTyped part.1) (second ∷ rest)
            → IsTyped (expr_step around visible (Expr-F.Sum first (second ∷ rest)))
        sum_is_typed first second rest is are none =
            let faults = flat_map (λ part. faults_for (Some Num) part.1) (second ∷ rest) in (
              Num,
              refl,
              HasType.sum (has_type Num first is (none_front (faults_for (Some Num) first) faults none))
                  (All-from_recursion (λ (part : Op × TypedExpr). IsOfSum part.0) (map (λ part. (part.0, part.1.form)) (second ∷ rest)) (operators IsOfSum (second ∷ rest) are)) (are_nums IsOfSum (second ∷ rest) are (none_behind (faults_for (Some Num) first) faults none)),
            )

        pub and_is_typed : (first second : Report TypedExpr) (rest : List (Report TypedExpr)) → AllByRecursion IsTyped (first ∷ second ∷ rest) → IsTyped (expr_step around visible (Expr-F.And (first ∷ second ∷ rest)))
        and_is_typed first second rest are none = (Flag, refl, HasType.and (are_flags (first ∷ second ∷ rest) are none))

        pub or_is_typed : (first second : Report TypedExpr) (rest : List (Report TypedExpr)) → AllByRecursion IsTyped (first ∷ second ∷ rest) → IsTyped (expr_step around visible (Expr-F.Or (first ∷ second ∷ rest)))
        or_is_typed first second rest are none = (Flag, refl, HasType.or (are_flags (first ∷ second ∷ rest) are none))

        -- both sides of a comparison for equality have the type of the left one
        same_is_typed : (left : Report TypedExpr) (o : Op) (right : Report TypedExpr) → IsEquality o → IsTyped left → IsTyped right → left.faults ≡ [] → faults_for left.ty right ≡ []
            → (ty : Ty) × (Some Flag ≡ Some ty) × HasType typed own scope (expr.Compare left.form o right.form) ty
        same_is_typed left o right equality l r none_left none_right =
            let t = l none_left in
            (Flag, refl, HasType.same equality t.2 (has_type t.0 right r (subst (λ ty. faults_for ty right ≡ []) t.1 none_right)))

        ordered_is_typed : (left : Report TypedExpr) (o : Op) (right : Report TypedExpr) → IsOrder o → IsTyped left → IsTyped right → faults_for (Some Num) left ++ faults_for (Some Num) right ≡ []
            → (ty : Ty) × (Some Flag ≡ Some ty) × HasType typed own scope (expr.Compare left.form o right.form) ty
        ordered_is_typed left o right order l r none =
            (Flag, refl, HasType.ordered order (has_type Num left l (none_front (faults_for (Some Num) left) (faults_for (Some Num) right) none)) (has_type Num right r (none_behind (faults_for (Some Num) left) (faults_for (Some Num) right) none)))

        pub compare_is_typed : (left : Report TypedExpr) (o : Op) (right : Report TypedExpr) → IsEquality o ⊎ IsOrder o → IsTyped left → IsTyped right → IsTyped (expr_step around visible (Expr-F.Compare left o right))
        compare_is_typed left o right (inl IsEquality.equal) l r none =
            same_is_typed left op.Eq right IsEquality.equal l r (none_front left.faults [] (none_front (faults_for None left) (faults_for left.ty right) none)) (none_behind (faults_for None left) (faults_for left.ty right) none)
        compare_is_typed left o right (inl IsEquality.unequal) l r none =
            same_is_typed left op.Ne right IsEquality.unequal l r (none_front left.faults [] (none_front (faults_for None left) (faults_for left.ty right) none)) (none_behind (faults_for None left) (faults_for left.ty right) none)
        compare_is_typed left o right (inr IsOrder.less) l r none = ordered_is_typed left op.Lt right IsOrder.less l r none
        compare_is_typed left o right (inr IsOrder.less_equal) l r none = ordered_is_typed left op.Le right IsOrder.less_equal l r none
        compare_is_typed left o right (inr IsOrder.greater) l r none = ordered_is_typed left op.Gt right IsOrder.greater l r none
        compare_is_typed left o right (inr IsOrder.greater_equal) l r none = ordered_is_typed left op.Ge right IsOrder.greater_equal l r none
