-- Each expression that is spelled has its type where it has no fault, and so has each call.
use Rattle.std.proofs.Common.{ℕ, true, false, List, [], ◌∷◌, ◌++◌, map, sym, subst}
use Rattle.std.specs.List.{AllByRecursion}
use Rattle.ecf_lang.specs.declared.tree.Ty.{Ty}
use Rattle.ecf_lang.specs.declared.tree.Op.{Op}
use Rattle.ecf_lang.specs.declared.tree.Expr.{Expr}
use Rattle.ecf_lang.specs.declared.tree.CallExpr.{CallExpr}
use Rattle.ecf_lang.specs.declared.typed.Typed.{Typed}
use Rattle.ecf_lang.specs.declared.typed.TypedObject.{TypedObject}
use Rattle.ecf_lang.specs.declared.typed.TypedExpr.{TypedExpr}
use Rattle.ecf_grammar.specs.Lexemes.{NumberedLexemes}
use Rattle.ecf_grammar.specs.Spells.{either_of, both_of, sum_of, product_of, SpellsExpr, SpellsEithers, SpellsBoth, SpellsBoths, SpellsComparison, SpellsSum, SpellsSums, SpellsProduct, SpellsProducts, SpellsUnary, SpellsAtom, SpellsTarget, SpellsInvoke, SpellsExternal, SpellsArguments, SpellsExprs, SpellsFurther}
use Rattle.ecf_wellformed.specs.Typing.{Scope, IsOfSum, IsOfProduct}
use Rattle.ecf_faults.specs.Tables.{Table, Surroundings}
use Rattle.ecf_faults.specs.Expressions.{Report, report_of, call_report_of}
use Rattle.ecf_faults.specs.Forms.{report_number, report_flag, report_here, report_name, report_at, report_call, report_not, report_product, report_sum, report_compare, report_and, report_or, report_external, report_internal}
use Rattle.ecf_welltyped.proofs.SpellingLaws.{AreSpelled, front, behind, number_spelled}
use Rattle.ecf_welltyped.proofs.ExpressionLaws.{Agrees, AreSeen, IsTyped, IsTypedCall, is_of_sum, is_of_product, compares, number_is_typed, flag_is_typed, here_is_typed, name_is_typed, at_is_typed, call_is_typed, not_is_typed, product_is_typed, sum_is_typed, and_is_typed, or_is_typed, compare_is_typed, external_is, internal_is}

module _ (typed : Typed) (own : TypedObject) (scope : Scope) (around : Surroundings) (agrees : Agrees typed own around) (visible : Table (ℕ × Ty)) (seen : AreSeen typed own scope visible) where
  -- what there is to say of an expression is that it has its type, where it has no fault
  abbrev pub IsFit : Expr → Type 0
  IsFit e = IsTyped typed own scope (report_of around visible e)

  abbrev pub IsFitCall : CallExpr → Type 0
  IsFitCall c = IsTypedCall typed own scope (call_report_of around visible c)

  pub reports : (parts : List Expr) → AllByRecursion IsFit parts → AllByRecursion (IsTyped typed own scope) (map (report_of around visible) parts)
  reports [] are = tt
  reports (part ∷ parts) are = (are.0, reports parts are.1)

  part_reports : (Is : Op → Type 0) (parts : List (Op × Expr)) → AllByRecursion (λ part. Is part.0 × IsFit part.1) parts
      → AllByRecursion (λ (part : Op × Report TypedExpr). Is part.0 × IsTyped typed own scope part.1) (map (λ part. (part.0, report_of around visible part.1)) parts)
  part_reports Is [] are = tt
  part_reports Is (part ∷ parts) are = (are.0, part_reports Is parts are.1)

  either_of_fits : (first : Expr) (rest : List Expr) → IsFit first → AllByRecursion IsFit rest → IsFit (either_of first rest)
  either_of_fits first [] is are = is
  either_of_fits first (second ∷ rest) is are =
      subst (IsTyped typed own scope) (sym (report_or around visible (first ∷ second ∷ rest)))
      (or_is_typed typed own scope around agrees visible (report_of around visible first) (report_of around visible second) (map (report_of around visible) rest) (is, reports (second ∷ rest) are))

  both_of_fits : (first : Expr) (rest : List Expr) → IsFit first → AllByRecursion IsFit rest → IsFit (both_of first rest)
  both_of_fits first [] is are = is
  both_of_fits first (second ∷ rest) is are =
      subst (IsTyped typed own scope) (sym (report_and around visible (first ∷ second ∷ rest)))
      (and_is_typed typed own scope around agrees visible (report_of around visible first) (report_of around visible second) (map (report_of around visible) rest) (is, reports (second ∷ rest) are))

  sum_of_fits : (first : Expr) (rest : List (Op × Expr)) → IsFit first → AllByRecursion (λ part. IsOfSum part.0 × IsFit part.1) rest → IsFit (sum_of first rest)
  sum_of_fits first [] is are = is
  sum_of_fits first (second ∷ rest) is are =
      subst (IsTyped typed own scope) (sym (report_sum around visible first (second ∷ rest)))
      (sum_is_typed typed own scope around agrees visible (report_of around visible first) (second.0, report_of around visible second.1) (map (λ part. (part.0, report_of around visible part.1)) rest) is (part_reports IsOfSum (second ∷ rest) are))

  product_of_fits : (first : Expr) (rest : List (Op × Expr)) → IsFit first → AllByRecursion (λ part. IsOfProduct part.0 × IsFit part.1) rest → IsFit (product_of first rest)
  product_of_fits first [] is are = is
  product_of_fits first (second ∷ rest) is are =
      subst (IsTyped typed own scope) (sym (report_product around visible first (second ∷ rest)))
      (product_is_typed typed own scope around agrees visible (report_of around visible first) (second.0, report_of around visible second.1) (map (λ part. (part.0, report_of around visible part.1)) rest) is (part_reports IsOfProduct (second ∷ rest) are))

  mutual
    pub expr_fits : {a : NumberedLexemes} {x : Expr} → SpellsExpr a x → AreSpelled a → IsFit x
    expr_fits (SpellsExpr.either {a = a} {b = b} {first = first} {rest = rest} p q) s = either_of_fits first rest (both_fits p (front a b s)) (eithers_fit q (behind a b s))

    eithers_fit : {a : NumberedLexemes} {xs : List Expr} → SpellsEithers a xs → AreSpelled a → AllByRecursion IsFit xs
    eithers_fit SpellsEithers.no_or s = tt
    eithers_fit (SpellsEithers.or {s = o} {a = a} {b = b} v p q) s = (both_fits p (front a b (behind o (a ++ b) s)), eithers_fit q (behind a b (behind o (a ++ b) s)))

    both_fits : {a : NumberedLexemes} {x : Expr} → SpellsBoth a x → AreSpelled a → IsFit x
    both_fits (SpellsBoth.both {a = a} {b = b} {first = first} {rest = rest} p q) s = both_of_fits first rest (comparison_fits p (front a b s)) (boths_fit q (behind a b s))

    boths_fit : {a : NumberedLexemes} {xs : List Expr} → SpellsBoths a xs → AreSpelled a → AllByRecursion IsFit xs
    boths_fit SpellsBoths.no_and s = tt
    boths_fit (SpellsBoths.and {s = o} {a = a} {b = b} v p q) s = (comparison_fits p (front a b (behind o (a ++ b) s)), boths_fit q (behind a b (behind o (a ++ b) s)))

    comparison_fits : {a : NumberedLexemes} {x : Expr} → SpellsComparison a x → AreSpelled a → IsFit x
    comparison_fits (SpellsComparison.uncompared p) s = sum_fits p s
    comparison_fits (SpellsComparison.compared {a = a} {s = c} {b = b} {left = left} {t = t} {o = o} {right = right} p v g q) s =
        subst (IsTyped typed own scope) (sym (report_compare around visible left o right))
        (compare_is_typed typed own scope around agrees visible (report_of around visible left) o (report_of around visible right) (compares t o g) (sum_fits p (front a (c ++ b) s)) (sum_fits q (behind c b (behind a (c ++ b) s))))

    sum_fits : {a : NumberedLexemes} {x : Expr} → SpellsSum a x → AreSpelled a → IsFit x
    sum_fits (SpellsSum.sum {a = a} {b = b} {first = first} {rest = rest} p q) s = sum_of_fits first rest (product_fits p (front a b s)) (sums_fit q (behind a b s))

    sums_fit : {a : NumberedLexemes} {xs : List (Op × Expr)} → SpellsSums a xs → AreSpelled a → AllByRecursion (λ part. IsOfSum part.0 × IsFit part.1) xs
    sums_fit SpellsSums.no_term s = tt
    sums_fit (SpellsSums.term {s = c} {a = a} {b = b} {t = t} {o = o} v g p q) s = ((is_of_sum t o g, product_fits p (front a b (behind c (a ++ b) s))), sums_fit q (behind a b (behind c (a ++ b) s)))

    product_fits : {a : NumberedLexemes} {x : Expr} → SpellsProduct a x → AreSpelled a → IsFit x
    product_fits (SpellsProduct.product {a = a} {b = b} {first = first} {rest = rest} p q) s = product_of_fits first rest (unary_fits p (front a b s)) (products_fit q (behind a b s))

    products_fit : {a : NumberedLexemes} {xs : List (Op × Expr)} → SpellsProducts a xs → AreSpelled a → AllByRecursion (λ part. IsOfProduct part.0 × IsFit part.1) xs
    products_fit SpellsProducts.no_factor s = tt
    products_fit (SpellsProducts.factor {s = c} {a = a} {b = b} {t = t} {o = o} v g p q) s = ((is_of_product t o g, unary_fits p (front a b (behind c (a ++ b) s))), products_fit q (behind a b (behind c (a ++ b) s)))

    unary_fits : {a : NumberedLexemes} {x : Expr} → SpellsUnary a x → AreSpelled a → IsFit x
    unary_fits (SpellsUnary.plain p) s = atom_fits p s
    unary_fits (SpellsUnary.negated {s = c} {a = a} {at = at} {e = e} v p) s =
        subst (IsTyped typed own scope) (sym (report_not around visible at e)) (not_is_typed typed own scope around agrees visible at (report_of around visible e) (atom_fits p (behind c a s)))

    atom_fits : {a : NumberedLexemes} {x : Expr} → SpellsAtom a x → AreSpelled a → IsFit x
    atom_fits (SpellsAtom.number {at = at} {value = value} v) s = subst (IsTyped typed own scope) (sym (report_number around visible at value)) (number_is_typed typed own scope around agrees visible at value (number_spelled v s))
    atom_fits (SpellsAtom.yes {at = at} v) s = subst (IsTyped typed own scope) (sym (report_flag around visible at true)) (flag_is_typed typed own scope around agrees visible at true)
    atom_fits (SpellsAtom.no {at = at} v) s = subst (IsTyped typed own scope) (sym (report_flag around visible at false)) (flag_is_typed typed own scope around agrees visible at false)
    atom_fits (SpellsAtom.target p) s = target_fits p s
    atom_fits (SpellsAtom.invoke {c = c} p) s = subst (IsTyped typed own scope) (sym (report_call around visible c)) (call_is_typed typed own scope around agrees visible (call_report_of around visible c) (invoke_fits p s))

    target_fits : {a : NumberedLexemes} {x : Expr} → SpellsTarget a x → AreSpelled a → IsFit x
    target_fits (SpellsTarget.here {at = at} v) s = subst (IsTyped typed own scope) (sym (report_here around visible at)) (here_is_typed typed own scope around agrees visible at)
    target_fits (SpellsTarget.name {at = at} {bytes = bytes} v) s = subst (IsTyped typed own scope) (sym (report_name around visible at bytes)) (name_is_typed typed own scope around agrees visible at bytes seen)
    target_fits (SpellsTarget.indexed {n = n} {o = o} {a = a} {c = c} {at = at} {bytes = bytes} {key = key} v w p u) s =
        subst (IsTyped typed own scope) (sym (report_at around visible at bytes key))
        (at_is_typed typed own scope around agrees visible at bytes (report_of around visible key) (expr_fits p (front a c (behind o (a ++ c) (behind n (o ++ (a ++ c)) s)))))
    target_fits (SpellsTarget.parenthesized {o = o} {a = a} {c = c} v p w) s = expr_fits p (front a c (behind o (a ++ c) s))

    pub invoke_fits : {a : NumberedLexemes} {x : CallExpr} → SpellsInvoke a x → AreSpelled a → IsFitCall x
    invoke_fits (SpellsInvoke.call {w = w} {a = a} v p) s = external_fits p (behind w a s)
    invoke_fits (SpellsInvoke.internal {w = w} {d = d} {n = n} {a = a} {at = at} {name_at = name_at} {bytes = bytes} {args = args} v u m p) s =
        subst (IsTypedCall typed own scope) (sym (report_internal around visible at name_at bytes args))
        (internal_is typed own scope around agrees at name_at bytes (map (report_of around visible) args) (reports args (arguments_fit p (behind n a (behind d (n ++ a) (behind w (d ++ (n ++ a)) s))))))

    pub external_fits : {at : ℕ} {a : NumberedLexemes} {x : CallExpr} → SpellsExternal at a x → AreSpelled a → IsFitCall x
    external_fits {at} (SpellsExternal.external {t = t} {d = d} {n = n} {a = a} {name_at = name_at} {callee = callee} {bytes = bytes} {args = args} p u m q) s =
        subst (IsTypedCall typed own scope) (sym (report_external around visible at callee name_at bytes args))
        (external_is typed own scope around agrees at (report_of around visible callee) name_at bytes (map (report_of around visible) args) (target_fits p (front t (d ++ (n ++ a)) s))
        (reports args (arguments_fit q (behind n a (behind d (n ++ a) (behind t (d ++ (n ++ a)) s))))))

    arguments_fit : {a : NumberedLexemes} {xs : List Expr} → SpellsArguments a xs → AreSpelled a → AllByRecursion IsFit xs
    arguments_fit (SpellsArguments.arguments {o = o} {a = a} {c = c} v p w) s = exprs_fit p (front a c (behind o (a ++ c) s))

    exprs_fit : {a : NumberedLexemes} {xs : List Expr} → SpellsExprs a xs → AreSpelled a → AllByRecursion IsFit xs
    exprs_fit SpellsExprs.no_expr s = tt
    exprs_fit (SpellsExprs.exprs {a = a} {b = b} p q) s = (expr_fits p (front a b s), further_fit q (behind a b s))

    further_fit : {a : NumberedLexemes} {xs : List Expr} → SpellsFurther a xs → AreSpelled a → AllByRecursion IsFit xs
    further_fit SpellsFurther.no_further s = tt
    further_fit (SpellsFurther.further {s = c} {a = a} {b = b} v p q) s = (expr_fits p (front a b (behind c (a ++ b) s)), further_fit q (behind a b (behind c (a ++ b) s)))
