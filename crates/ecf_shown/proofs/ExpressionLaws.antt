-- Each expression that is spelled is read back from what is shown of it, and so is each call.
use Rattle.std.proofs.Common.{◌≡◌, ℕ, ◌+◌, true, false, List, [], ◌∷◌, ◌++◌, map, Some, refl, sym, ap, subst, ◌∙◌, append_assoc}
use Rattle.std.specs.List.{AllByRecursion, flat_map}
use Rattle.ecf_grammar.specs.declared.tokens.Word.TheVariants as word
use Rattle.ecf_grammar.specs.declared.tokens.Sign.{Sign}
use Rattle.ecf_grammar.specs.declared.tokens.Sign.TheVariants as sign
use Rattle.ecf_grammar.specs.Spelling.{IsName}
use Rattle.ecf_grammar.specs.Lexemes.{NumberedLexemes}
use Rattle.ecf_grammar.specs.Lexemes.Lexeme.{NameOf, NumberOf, SignOf}
use Rattle.ecf_grammar.specs.Spells.{either_of, both_of, sum_of, product_of, comparison_op, sum_op, product_op, SpellsExpr, SpellsEithers, SpellsBoth, SpellsBoths, SpellsComparison, SpellsSum, SpellsSums, SpellsProduct, SpellsProducts, SpellsUnary, SpellsAtom, SpellsTarget, SpellsInvoke, SpellsExternal, SpellsArguments, SpellsExprs, SpellsFurther}
use Rattle.ecf_grammar.specs.Spells.Is.{is}
use Rattle.ecf_lang.specs.declared.tree.Op.{Op}
use Rattle.ecf_lang.specs.declared.tree.Op.TheVariants as op
use Rattle.ecf_lang.specs.declared.tree.Expr.{Expr}
use Rattle.ecf_lang.specs.declared.tree.Expr.TheVariants as expr
use Rattle.ecf_lang.specs.declared.tree.CallExpr.{CallExpr}
use Rattle.ecf_lang.specs.declared.tree.CallExpr.TheVariants as called
use Rattle.ecf_show.specs.declared.levels.TheConstants.{AND, COMPARE, SUM, PRODUCT, NOT, ATOM, TARGET}
use Rattle.ecf_show.specs.Marks.{Marks, word_mark, sign_mark, spaced, comma, joined, in_parentheses}
use Rattle.ecf_show.specs.Marks.Mark.{Space}
use Rattle.ecf_show.specs.Expressions.{Shown, ShownCall, shown, shown_call, expr_marks, op_sign, part, further_part, invoked, external_marks}
use Rattle.ecf_show.specs.Forms.{shown_number, shown_flag, shown_here, shown_name, shown_at, shown_called, shown_not, shown_product, shown_sum, shown_compare, shown_and, shown_or, shown_external, shown_internal}
use Rattle.ecf_shown.specs.Places.{expr_without, call_without}
use Rattle.ecf_shown.proofs.PlaceForms.{without_number, without_flag, without_here, without_name, without_at, without_called, without_not, without_product, without_sum, without_compare, without_and, without_or, without_external, without_internal}
use Rattle.ecf_shown.proofs.CutLaws.{IsValid}
use Rattle.ecf_shown.proofs.SayLaws.{numbered, number_behind, numbered_append, AreValid, front, behind, valid_of, Stands, stands_then, follows_then, follows_none, stands_where_follows, follows_space, follows_sign, follows_spaced, stands_word, stands_name, stands_number, stands_none, follows_enclosed, Says, GoesOn, both_alike}
use Rattle.ecf_shown.proofs.HeightLaws.{ReadsAs, whole_says, part_says}

-- ---- what is alike in its parts is alike

either_alike : (a b : Expr) (ps bs : List Expr) → expr_without a ≡ expr_without b → map expr_without ps ≡ map expr_without bs → expr_without (either_of a ps) ≡ expr_without (either_of b bs)
either_alike a b [] [] one more = one
either_alike a b [] (y ∷ ys) one more = absurd cc
either_alike a b (x ∷ xs) [] one more = absurd cc
either_alike a b (x ∷ xs) (y ∷ ys) one more = without_or (a ∷ x ∷ xs) ∙ ap (λ parts. expr.Or parts) (both_alike one more) ∙ sym (without_or (b ∷ y ∷ ys))

both_of_alike : (a b : Expr) (ps bs : List Expr) → expr_without a ≡ expr_without b → map expr_without ps ≡ map expr_without bs → expr_without (both_of a ps) ≡ expr_without (both_of b bs)
both_of_alike a b [] [] one more = one
both_of_alike a b [] (y ∷ ys) one more = absurd cc
both_of_alike a b (x ∷ xs) [] one more = absurd cc
both_of_alike a b (x ∷ xs) (y ∷ ys) one more = without_and (a ∷ x ∷ xs) ∙ ap (λ parts. expr.And parts) (both_alike one more) ∙ sym (without_and (b ∷ y ∷ ys))

-- an operator and its part, with each place 0
abbrev pub part_without : Op × Expr → Op × Expr
part_without p = (p.0, expr_without p.1)

sum_alike : (a b : Expr) (ps bs : List (Op × Expr)) → expr_without a ≡ expr_without b → map part_without ps ≡ map part_without bs → expr_without (sum_of a ps) ≡ expr_without (sum_of b bs)
sum_alike a b [] [] one more = one
sum_alike a b [] (y ∷ ys) one more = absurd cc
sum_alike a b (x ∷ xs) [] one more = absurd cc
sum_alike a b (x ∷ xs) (y ∷ ys) one more =
    without_sum a (x ∷ xs) ∙ ap (λ e. expr.Sum e (map part_without (x ∷ xs))) one ∙ ap (λ rest. expr.Sum (expr_without b) rest) more ∙ sym (without_sum b (y ∷ ys))

product_alike : (a b : Expr) (ps bs : List (Op × Expr)) → expr_without a ≡ expr_without b → map part_without ps ≡ map part_without bs → expr_without (product_of a ps) ≡ expr_without (product_of b bs)
product_alike a b [] [] one more = one
product_alike a b [] (y ∷ ys) one more = absurd cc
product_alike a b (x ∷ xs) [] one more = absurd cc
product_alike a b (x ∷ xs) (y ∷ ys) one more =
    without_product a (x ∷ xs) ∙ ap (λ e. expr.Product e (map part_without (x ∷ xs))) one ∙ ap (λ rest. expr.Product (expr_without b) rest) more ∙ sym (without_product b (y ∷ ys))

-- ---- operators

some_is : {A : Type 0} (x y : A) → Some x ≡ Some y → x ≡ y
some_is x y e = cc

sum_sign : (t : Sign) (o : Op) → sum_op t ≡ Some o → sum_op (op_sign o) ≡ Some o
sum_sign sign.Plus o e = subst (λ x. sum_op (op_sign x) ≡ Some x) (some_is op.Add o e) refl
sum_sign sign.Minus o e = subst (λ x. sum_op (op_sign x) ≡ Some x) (some_is op.Sub o e) refl
sum_sign other o e = absurd cc

product_sign : (t : Sign) (o : Op) → product_op t ≡ Some o → product_op (op_sign o) ≡ Some o
product_sign sign.Star o e = subst (λ x. product_op (op_sign x) ≡ Some x) (some_is op.Mul o e) refl
product_sign sign.Slash o e = subst (λ x. product_op (op_sign x) ≡ Some x) (some_is op.Div o e) refl
product_sign sign.Percent o e = subst (λ x. product_op (op_sign x) ≡ Some x) (some_is op.Rem o e) refl
product_sign other o e = absurd cc

comparison_sign : (t : Sign) (o : Op) → comparison_op t ≡ Some o → comparison_op (op_sign o) ≡ Some o
comparison_sign sign.Equal o e = subst (λ x. comparison_op (op_sign x) ≡ Some x) (some_is op.Eq o e) refl
comparison_sign sign.NotEqual o e = subst (λ x. comparison_op (op_sign x) ≡ Some x) (some_is op.Ne o e) refl
comparison_sign sign.Less o e = subst (λ x. comparison_op (op_sign x) ≡ Some x) (some_is op.Lt o e) refl
comparison_sign sign.LessEqual o e = subst (λ x. comparison_op (op_sign x) ≡ Some x) (some_is op.Le o e) refl
comparison_sign sign.Greater o e = subst (λ x. comparison_op (op_sign x) ≡ Some x) (some_is op.Gt o e) refl
comparison_sign sign.GreaterEqual o e = subst (λ x. comparison_op (op_sign x) ≡ Some x) (some_is op.Ge o e) refl
comparison_sign other o e = absurd cc

-- ---- what is known of expressions and calls

abbrev pub IsReadBack : Expr → Type 0
IsReadBack e = ReadsAs e (shown e)

pub expr_says : (e : Expr) → IsReadBack e → Says SpellsExpr expr_without e (expr_marks e)
expr_says e reads = whole_says e (shown e) reads

-- a call behind the word of that number
abbrev pub IsTriedBack : CallExpr → Type 0
IsTriedBack c = (at : ℕ) → Says (SpellsExternal at) call_without c (shown_call c).tried

abbrev pub IsCalledBack : CallExpr → Type 0
IsCalledBack c = Says SpellsInvoke call_without c (shown_call c).marks

-- ---- lists of parts

-- parts behind the first of a disjunction
abbrev eithers_marks : List Expr → Marks
eithers_marks parts = flat_map (λ marks. spaced sign.Or ++ marks) (map (part AND) (map shown parts))

-- those of a conjunction
abbrev boths_marks : List Expr → Marks
boths_marks parts = flat_map (λ marks. spaced sign.And ++ marks) (map (part COMPARE) (map shown parts))

-- those of a sum or product
abbrev further_marks : ℕ → List (Op × Expr) → Marks
further_marks required rest = flat_map (further_part required) (map (λ (p : Op × Expr). (p.0, shown p.1)) rest)

-- arguments behind the first
abbrev args_marks : List Expr → Marks
args_marks args = flat_map (λ marks. comma ++ marks) (map (λ (arg : Shown). arg.marks) (map shown args))

abbrev with_op : Op → Expr → Op × Expr
with_op o e = (o, e)

eithers_go_on : (parts : List Expr) → AllByRecursion IsReadBack parts → GoesOn SpellsEithers (map expr_without) parts (eithers_marks parts)
eithers_go_on [] are = record { follows = follows_none; tokens = λ at. record { again = []; spelled = SpellsEithers.no_or; alike = refl } }
eithers_go_on (e ∷ es) are =
    let one = part_says AND 6 refl e (shown e) are.0 in
    let more = eithers_go_on es are.1 in
    record {
      follows = follows_then (follows_spaced sign.Or one.stands) more.follows;
      tokens = λ at.
          let it = one.tokens (at + 1) in
          let others = more.tokens (number_behind (at + 1) (part AND (shown e))) in
          record {
            again = it.again ∷ others.again;
            spelled = subst (λ ls. SpellsEithers ((at, SignOf sign.Or) ∷ ls) (it.again ∷ others.again)) (sym (numbered_append (at + 1) (part AND (shown e)) (eithers_marks es))) (SpellsEithers.or (is at) it.spelled others.spelled);
            alike = both_alike it.alike others.alike;
          };
    }

boths_go_on : (parts : List Expr) → AllByRecursion IsReadBack parts → GoesOn SpellsBoths (map expr_without) parts (boths_marks parts)
boths_go_on [] are = record { follows = follows_none; tokens = λ at. record { again = []; spelled = SpellsBoths.no_and; alike = refl } }
boths_go_on (e ∷ es) are =
    let one = part_says COMPARE 5 refl e (shown e) are.0 in
    let more = boths_go_on es are.1 in
    record {
      follows = follows_then (follows_spaced sign.And one.stands) more.follows;
      tokens = λ at.
          let it = one.tokens (at + 1) in
          let others = more.tokens (number_behind (at + 1) (part COMPARE (shown e))) in
          record {
            again = it.again ∷ others.again;
            spelled = subst (λ ls. SpellsBoths ((at, SignOf sign.And) ∷ ls) (it.again ∷ others.again)) (sym (numbered_append (at + 1) (part COMPARE (shown e)) (boths_marks es))) (SpellsBoths.and (is at) it.spelled others.spelled);
            alike = both_alike it.alike others.alike;
          };
    }

-- the operator of a further part is one of sums, and the part is read back
abbrev IsSummand : Op × Expr → Type 0
IsSummand p = (sum_op (op_sign p.0) ≡ Some p.0) × IsReadBack p.1

sums_go_on : (rest : List (Op × Expr)) → AllByRecursion IsSummand rest → GoesOn SpellsSums (map part_without) rest (further_marks PRODUCT rest)
sums_go_on [] are = record { follows = follows_none; tokens = λ at. record { again = []; spelled = SpellsSums.no_term; alike = refl } }
sums_go_on (p ∷ ps) are =
    let one = part_says PRODUCT 3 refl p.1 (shown p.1) are.0.1 in
    let more = sums_go_on ps are.1 in
    record {
      follows = follows_then (follows_spaced (op_sign p.0) one.stands) more.follows;
      tokens = λ at.
          let it = one.tokens (at + 1) in
          let others = more.tokens (number_behind (at + 1) (part PRODUCT (shown p.1))) in
          record {
            again = (p.0, it.again) ∷ others.again;
            spelled = subst (λ ls. SpellsSums ((at, SignOf (op_sign p.0)) ∷ ls) ((p.0, it.again) ∷ others.again)) (sym (numbered_append (at + 1) (part PRODUCT (shown p.1)) (further_marks PRODUCT ps))) (SpellsSums.term (is at) are.0.0 it.spelled others.spelled);
            alike = both_alike (ap (with_op p.0) it.alike) others.alike;
          };
    }

-- the same of products
abbrev IsFactor : Op × Expr → Type 0
IsFactor p = (product_op (op_sign p.0) ≡ Some p.0) × IsReadBack p.1

products_go_on : (rest : List (Op × Expr)) → AllByRecursion IsFactor rest → GoesOn SpellsProducts (map part_without) rest (further_marks NOT rest)
products_go_on [] are = record { follows = follows_none; tokens = λ at. record { again = []; spelled = SpellsProducts.no_factor; alike = refl } }
products_go_on (p ∷ ps) are =
    let one = part_says NOT 2 refl p.1 (shown p.1) are.0.1 in
    let more = products_go_on ps are.1 in
    record {
      follows = follows_then (follows_spaced (op_sign p.0) one.stands) more.follows;
      tokens = λ at.
          let it = one.tokens (at + 1) in
          let others = more.tokens (number_behind (at + 1) (part NOT (shown p.1))) in
          record {
            again = (p.0, it.again) ∷ others.again;
            spelled = subst (λ ls. SpellsProducts ((at, SignOf (op_sign p.0)) ∷ ls) ((p.0, it.again) ∷ others.again)) (sym (numbered_append (at + 1) (part NOT (shown p.1)) (further_marks NOT ps))) (SpellsProducts.factor (is at) are.0.0 it.spelled others.spelled);
            alike = both_alike (ap (with_op p.0) it.alike) others.alike;
          };
    }

further_go_on : (args : List Expr) → AllByRecursion IsReadBack args → GoesOn SpellsFurther (map expr_without) args (args_marks args)
further_go_on [] are = record { follows = follows_none; tokens = λ at. record { again = []; spelled = SpellsFurther.no_further; alike = refl } }
further_go_on (e ∷ es) are =
    let one = expr_says e are.0 in
    let more = further_go_on es are.1 in
    record {
      follows = follows_then (follows_sign sign.Comma refl (stands_where_follows (follows_space one.stands))) more.follows;
      tokens = λ at.
          let it = one.tokens (at + 1) in
          let others = more.tokens (number_behind (at + 1) (expr_marks e)) in
          record {
            again = it.again ∷ others.again;
            spelled = subst (λ ls. SpellsFurther ((at, SignOf sign.Comma) ∷ ls) (it.again ∷ others.again)) (sym (numbered_append (at + 1) (expr_marks e) (args_marks es))) (SpellsFurther.further (is at) it.spelled others.spelled);
            alike = both_alike it.alike others.alike;
          };
    }

exprs_say : (args : List Expr) → AllByRecursion IsReadBack args → Says SpellsExprs (map expr_without) args (joined comma (map (λ (arg : Shown). arg.marks) (map shown args)))
exprs_say [] are = record { stands = stands_none; tokens = λ at. record { again = []; spelled = SpellsExprs.no_expr; alike = refl } }
exprs_say (e ∷ es) are =
    let one = expr_says e are.0 in
    let more = further_go_on es are.1 in
    record {
      stands = stands_then one.stands more.follows;
      tokens = λ at.
          let it = one.tokens at in
          let others = more.tokens (number_behind at (expr_marks e)) in
          record {
            again = it.again ∷ others.again;
            spelled = subst (λ ls. SpellsExprs ls (it.again ∷ others.again)) (sym (numbered_append at (expr_marks e) (args_marks es))) (SpellsExprs.exprs it.spelled others.spelled);
            alike = both_alike it.alike others.alike;
          };
    }

-- arguments in their parentheses
arguments_go_on : (args : List Expr) → AllByRecursion IsReadBack args → GoesOn SpellsArguments (map expr_without) args (in_parentheses (joined comma (map (λ (arg : Shown). arg.marks) (map shown args))))
arguments_go_on args are =
    let inner = exprs_say args are in
    let marks = joined comma (map (λ (arg : Shown). arg.marks) (map shown args)) in
    record {
      follows = follows_enclosed sign.OpenParen sign.CloseParen refl refl inner.stands;
      tokens = λ at. let it = inner.tokens (at + 1) in record {
        again = it.again;
        spelled = subst (λ ls. SpellsArguments ((at, SignOf sign.OpenParen) ∷ ls) it.again) (sym (numbered_append (at + 1) marks (sign_mark sign.CloseParen ∷ [])))
            (SpellsArguments.arguments (is at) it.spelled (is (number_behind (at + 1) marks)));
        alike = it.alike;
      };
    }

-- ---- forms of one or more parts

either_reads : (first : Expr) (rest : List Expr) → IsReadBack first → AllByRecursion IsReadBack rest → IsReadBack (either_of first rest)
either_reads first [] reads are = reads
either_reads first (second ∷ rest) reads are =
    let one = part_says AND 6 refl first (shown first) reads in
    let more = eithers_go_on (second ∷ rest) are in
    subst (ReadsAs (expr.Or (first ∷ second ∷ rest))) (sym (shown_or (first ∷ second ∷ rest))) (record {
      height = 7;
      level = refl;
      says = record {
        stands = stands_then one.stands more.follows;
        tokens = λ at.
            let it = one.tokens at in
            let others = more.tokens (number_behind at (part AND (shown first))) in
            record {
              again = either_of it.again others.again;
              spelled = subst (λ ls. SpellsExpr ls (either_of it.again others.again)) (sym (numbered_append at (part AND (shown first)) (eithers_marks (second ∷ rest)))) (SpellsExpr.either it.spelled others.spelled);
              alike = either_alike it.again first others.again (second ∷ rest) it.alike others.alike;
            };
      };
    })

both_reads : (first : Expr) (rest : List Expr) → IsReadBack first → AllByRecursion IsReadBack rest → IsReadBack (both_of first rest)
both_reads first [] reads are = reads
both_reads first (second ∷ rest) reads are =
    let one = part_says COMPARE 5 refl first (shown first) reads in
    let more = boths_go_on (second ∷ rest) are in
    subst (ReadsAs (expr.And (first ∷ second ∷ rest))) (sym (shown_and (first ∷ second ∷ rest))) (record {
      height = 6;
      level = refl;
      says = record {
        stands = stands_then one.stands more.follows;
        tokens = λ at.
            let it = one.tokens at in
            let others = more.tokens (number_behind at (part COMPARE (shown first))) in
            record {
              again = both_of it.again others.again;
              spelled = subst (λ ls. SpellsBoth ls (both_of it.again others.again)) (sym (numbered_append at (part COMPARE (shown first)) (boths_marks (second ∷ rest)))) (SpellsBoth.both it.spelled others.spelled);
              alike = both_of_alike it.again first others.again (second ∷ rest) it.alike others.alike;
            };
      };
    })

sum_reads : (first : Expr) (rest : List (Op × Expr)) → IsReadBack first → AllByRecursion IsSummand rest → IsReadBack (sum_of first rest)
sum_reads first [] reads are = reads
sum_reads first (second ∷ rest) reads are =
    let one = part_says PRODUCT 3 refl first (shown first) reads in
    let more = sums_go_on (second ∷ rest) are in
    subst (ReadsAs (expr.Sum first (second ∷ rest))) (sym (shown_sum first (second ∷ rest))) (record {
      height = 4;
      level = refl;
      says = record {
        stands = stands_then one.stands more.follows;
        tokens = λ at.
            let it = one.tokens at in
            let others = more.tokens (number_behind at (part PRODUCT (shown first))) in
            record {
              again = sum_of it.again others.again;
              spelled = subst (λ ls. SpellsSum ls (sum_of it.again others.again)) (sym (numbered_append at (part PRODUCT (shown first)) (further_marks PRODUCT (second ∷ rest)))) (SpellsSum.sum it.spelled others.spelled);
              alike = sum_alike it.again first others.again (second ∷ rest) it.alike others.alike;
            };
      };
    })

product_reads : (first : Expr) (rest : List (Op × Expr)) → IsReadBack first → AllByRecursion IsFactor rest → IsReadBack (product_of first rest)
product_reads first [] reads are = reads
product_reads first (second ∷ rest) reads are =
    let one = part_says NOT 2 refl first (shown first) reads in
    let more = products_go_on (second ∷ rest) are in
    subst (ReadsAs (expr.Product first (second ∷ rest))) (sym (shown_product first (second ∷ rest))) (record {
      height = 3;
      level = refl;
      says = record {
        stands = stands_then one.stands more.follows;
        tokens = λ at.
            let it = one.tokens at in
            let others = more.tokens (number_behind at (part NOT (shown first))) in
            record {
              again = product_of it.again others.again;
              spelled = subst (λ ls. SpellsProduct ls (product_of it.again others.again)) (sym (numbered_append at (part NOT (shown first)) (further_marks NOT (second ∷ rest)))) (SpellsProduct.product it.spelled others.spelled);
              alike = product_alike it.again first others.again (second ∷ rest) it.alike others.alike;
            };
      };
    })

compare_reads : (left : Expr) (o : Op) (right : Expr) → comparison_op (op_sign o) ≡ Some o → IsReadBack left → IsReadBack right → IsReadBack (expr.Compare left o right)
compare_reads left o right compares first last =
    let one = part_says SUM 4 refl left (shown left) first in
    let other = part_says SUM 4 refl right (shown right) last in
    let a = part SUM (shown left) in
    let c = part SUM (shown right) in
    let together = append_assoc a (spaced (op_sign o)) c in
    subst (ReadsAs (expr.Compare left o right)) (sym (shown_compare left o right)) (record {
      height = 5;
      level = refl;
      says = record {
        stands = subst Stands (sym together) (stands_then one.stands (follows_spaced (op_sign o) other.stands));
        tokens = λ at.
            let it = one.tokens at in
            let n = number_behind at a in
            let others = other.tokens (n + 1) in
            record {
              again = expr.Compare it.again o others.again;
              spelled = subst (λ ls. SpellsComparison ls (expr.Compare it.again o others.again)) (sym (ap (numbered at) together ∙ numbered_append at a (spaced (op_sign o) ++ c)))
                  (SpellsComparison.compared it.spelled (is n) compares others.spelled);
              alike = without_compare it.again o others.again ∙ ap (λ e. expr.Compare e o (expr_without others.again)) it.alike ∙ ap (λ e. expr.Compare (expr_without left) o e) others.alike ∙ sym (without_compare left o right);
            };
      };
    })

not_reads : (at : ℕ) (inner : Expr) → IsReadBack inner → IsReadBack (expr.Not at inner)
not_reads place inner reads =
    let one = part_says ATOM 1 refl inner (shown inner) reads in
    subst (ReadsAs (expr.Not place inner)) (sym (shown_not place inner)) (record {
      height = 2;
      level = refl;
      says = record {
        stands = stands_where_follows (follows_sign sign.Not refl one.stands);
        tokens = λ at. let it = one.tokens (at + 1) in record {
          again = expr.Not at it.again;
          spelled = SpellsUnary.negated (is at) it.spelled;
          alike = without_not at it.again ∙ ap (λ e. expr.Not 0 e) it.alike ∙ sym (without_not place inner);
        };
      };
    })

number_reads : (place value : ℕ) → IsValid (NumberOf value) → IsReadBack (expr.Number place value)
number_reads place value valid =
    subst (ReadsAs (expr.Number place value)) (sym (shown_number place value)) (record {
      height = 1;
      level = refl;
      says = record {
        stands = stands_number value valid;
        tokens = λ at. record { again = expr.Number at value; spelled = SpellsAtom.number (is at); alike = without_number at value ∙ sym (without_number place value) };
      };
    })

yes_reads : (place : ℕ) → IsReadBack (expr.Flag place true)
yes_reads place =
    subst (ReadsAs (expr.Flag place true)) (sym (shown_flag place true)) (record {
      height = 1;
      level = refl;
      says = record {
        stands = stands_word word.True follows_none;
        tokens = λ at. record { again = expr.Flag at true; spelled = SpellsAtom.yes (is at); alike = without_flag at true ∙ sym (without_flag place true) };
      };
    })

no_reads : (place : ℕ) → IsReadBack (expr.Flag place false)
no_reads place =
    subst (ReadsAs (expr.Flag place false)) (sym (shown_flag place false)) (record {
      height = 1;
      level = refl;
      says = record {
        stands = stands_word word.False follows_none;
        tokens = λ at. record { again = expr.Flag at false; spelled = SpellsAtom.no (is at); alike = without_flag at false ∙ sym (without_flag place false) };
      };
    })

here_reads : (place : ℕ) → IsReadBack (expr.Here place)
here_reads place =
    subst (ReadsAs (expr.Here place)) (sym (shown_here place)) (record {
      height = 0;
      level = refl;
      says = record {
        stands = stands_word word.Here follows_none;
        tokens = λ at. record { again = expr.Here at; spelled = SpellsTarget.here (is at); alike = without_here at ∙ sym (without_here place) };
      };
    })

name_reads : (place : ℕ) (bytes : List ℕ) → IsName bytes → IsReadBack (expr.Name place bytes)
name_reads place bytes valid =
    subst (ReadsAs (expr.Name place bytes)) (sym (shown_name place bytes)) (record {
      height = 0;
      level = refl;
      says = record {
        stands = stands_name bytes valid follows_none;
        tokens = λ at. record { again = expr.Name at bytes; spelled = SpellsTarget.name (is at); alike = without_name at bytes ∙ sym (without_name place bytes) };
      };
    })

at_reads : (place : ℕ) (bytes : List ℕ) (key : Expr) → IsName bytes → IsReadBack key → IsReadBack (expr.At place bytes key)
at_reads place bytes key valid reads =
    let inner = expr_says key reads in
    subst (ReadsAs (expr.At place bytes key)) (sym (shown_at place bytes key)) (record {
      height = 0;
      level = refl;
      says = record {
        stands = stands_name bytes valid (follows_enclosed sign.OpenBracket sign.CloseBracket refl refl inner.stands);
        tokens = λ at. let it = inner.tokens ((at + 1) + 1) in record {
          again = expr.At at bytes it.again;
          spelled = subst (λ ls. SpellsTarget ((at, NameOf bytes) ∷ (at + 1, SignOf sign.OpenBracket) ∷ ls) (expr.At at bytes it.again)) (sym (numbered_append ((at + 1) + 1) (expr_marks key) (sign_mark sign.CloseBracket ∷ [])))
              (SpellsTarget.indexed (is at) (is (at + 1)) it.spelled (is (number_behind ((at + 1) + 1) (expr_marks key))));
          alike = without_at at bytes it.again ∙ ap (λ e. expr.At 0 bytes e) it.alike ∙ sym (without_at place bytes key);
        };
      };
    })

call_reads : (c : CallExpr) → IsCalledBack c → IsReadBack (expr.Call c)
call_reads c reads =
    subst (ReadsAs (expr.Call c)) (sym (shown_called c)) (record {
      height = 1;
      level = refl;
      says = record {
        stands = reads.stands;
        tokens = λ at. let it = reads.tokens at in record {
          again = expr.Call it.again;
          spelled = SpellsAtom.invoke it.spelled;
          alike = without_called it.again ∙ ap (λ x. expr.Call x) it.alike ∙ sym (without_called c);
        };
      };
    })

-- ---- calls

external_says : (place : ℕ) (target : Expr) (name_at : ℕ) (bytes : List ℕ) (args : List Expr) → IsName bytes → IsReadBack target → AllByRecursion IsReadBack args
    → (word_at : ℕ) → Says (SpellsExternal word_at) call_without (called.External place target name_at bytes args) (external_marks (shown target) bytes (map shown args))
external_says place target name_at bytes args valid reads are word_at =
    let one = part_says TARGET 0 refl target (shown target) reads in
    let more = arguments_go_on args are in
    record {
      stands = stands_then one.stands (follows_sign sign.Dot refl (stands_name bytes valid more.follows));
      tokens = λ at.
          let it = one.tokens at in
          let n = number_behind at (part TARGET (shown target)) in
          let others = more.tokens ((n + 1) + 1) in
          record {
            again = called.External word_at it.again (n + 1) bytes others.again;
            spelled = subst (λ ls. SpellsExternal word_at ls (called.External word_at it.again (n + 1) bytes others.again)) (sym (numbered_append at (part TARGET (shown target)) (sign_mark sign.Dot ∷ invoked bytes (map shown args))))
                (SpellsExternal.external it.spelled (is n) (is (n + 1)) others.spelled);
            alike = without_external word_at it.again (n + 1) bytes others.again ∙ ap (λ e. called.External 0 e 0 bytes (map expr_without others.again)) it.alike
                ∙ ap (λ es. called.External 0 (expr_without target) 0 bytes es) others.alike ∙ sym (without_external place target name_at bytes args);
          };
    }

external_is_tried : (place : ℕ) (target : Expr) (name_at : ℕ) (bytes : List ℕ) (args : List Expr) → IsName bytes → IsReadBack target → AllByRecursion IsReadBack args
    → IsTriedBack (called.External place target name_at bytes args)
external_is_tried place target name_at bytes args valid reads are word_at =
    subst (λ (c : ShownCall). Says (SpellsExternal word_at) call_without (called.External place target name_at bytes args) c.tried) (sym (shown_external place target name_at bytes args))
    (external_says place target name_at bytes args valid reads are word_at)

-- a call behind the word `call`
abbrev ShowsCall : CallExpr → Type 0
ShowsCall c = (shown_call c).marks ≡ word_mark word.Call ∷ Space ∷ (shown_call c).tried

external_shows : (place : ℕ) (target : Expr) (name_at : ℕ) (bytes : List ℕ) (args : List Expr) → ShowsCall (called.External place target name_at bytes args)
external_shows place target name_at bytes args =
    subst (λ (c : ShownCall). c.marks ≡ word_mark word.Call ∷ Space ∷ c.tried) (sym (shown_external place target name_at bytes args)) refl

called_back : (c : CallExpr) → ShowsCall c → IsTriedBack c → IsCalledBack c
called_back c shows tried =
    subst (Says SpellsInvoke call_without c) (sym shows) (record {
      stands = stands_word word.Call (follows_space (tried 0).stands);
      tokens = λ at. let it = (tried at).tokens (at + 1) in record { again = it.again; spelled = SpellsInvoke.call (is at) it.spelled; alike = it.alike };
    })

-- what is known of a call behind a word
record IsExternalBack (c : CallExpr) : Type 0 where
  tried : IsTriedBack c
  shows : ShowsCall c

internal_reads : (place name_at : ℕ) (bytes : List ℕ) (args : List Expr) → IsName bytes → AllByRecursion IsReadBack args → IsCalledBack (called.Internal place name_at bytes args)
internal_reads place name_at bytes args valid are =
    let more = arguments_go_on args are in
    subst (λ (c : ShownCall). Says SpellsInvoke call_without (called.Internal place name_at bytes args) c.marks) (sym (shown_internal place name_at bytes args)) (record {
      stands = stands_word word.SelfWord (follows_sign sign.Dot refl (stands_name bytes valid more.follows));
      tokens = λ at. let it = more.tokens (((at + 1) + 1) + 1) in record {
        again = called.Internal at ((at + 1) + 1) bytes it.again;
        spelled = SpellsInvoke.internal (is at) (is (at + 1)) (is ((at + 1) + 1)) it.spelled;
        alike = without_internal at ((at + 1) + 1) bytes it.again ∙ ap (λ es. called.Internal 0 0 bytes es) it.alike ∙ sym (without_internal place name_at bytes args);
      };
    })

-- ---- all that is spelled

mutual
  pub expr_reads : {a : NumberedLexemes} {x : Expr} → SpellsExpr a x → AreValid a → IsReadBack x
  expr_reads (SpellsExpr.either {a = a} {b = b} {first = first} {rest = rest} p q) s = either_reads first rest (both_is_read p (front a b s)) (eithers_are_read q (behind a b s))

  eithers_are_read : {a : NumberedLexemes} {xs : List Expr} → SpellsEithers a xs → AreValid a → AllByRecursion IsReadBack xs
  eithers_are_read SpellsEithers.no_or s = tt
  eithers_are_read (SpellsEithers.or {s = o} {a = a} {b = b} v p q) s = (both_is_read p (front a b (behind o (a ++ b) s)), eithers_are_read q (behind a b (behind o (a ++ b) s)))

  both_is_read : {a : NumberedLexemes} {x : Expr} → SpellsBoth a x → AreValid a → IsReadBack x
  both_is_read (SpellsBoth.both {a = a} {b = b} {first = first} {rest = rest} p q) s = both_reads first rest (comparison_is_read p (front a b s)) (boths_are_read q (behind a b s))

  boths_are_read : {a : NumberedLexemes} {xs : List Expr} → SpellsBoths a xs → AreValid a → AllByRecursion IsReadBack xs
  boths_are_read SpellsBoths.no_and s = tt
  boths_are_read (SpellsBoths.and {s = o} {a = a} {b = b} v p q) s = (comparison_is_read p (front a b (behind o (a ++ b) s)), boths_are_read q (behind a b (behind o (a ++ b) s)))

  comparison_is_read : {a : NumberedLexemes} {x : Expr} → SpellsComparison a x → AreValid a → IsReadBack x
  comparison_is_read (SpellsComparison.uncompared p) s = sum_is_read p s
  comparison_is_read (SpellsComparison.compared {a = a} {s = c} {b = b} {left = left} {t = t} {o = o} {right = right} p v g q) s =
      compare_reads left o right (comparison_sign t o g) (sum_is_read p (front a (c ++ b) s)) (sum_is_read q (behind c b (behind a (c ++ b) s)))

  sum_is_read : {a : NumberedLexemes} {x : Expr} → SpellsSum a x → AreValid a → IsReadBack x
  sum_is_read (SpellsSum.sum {a = a} {b = b} {first = first} {rest = rest} p q) s = sum_reads first rest (product_is_read p (front a b s)) (sums_are_read q (behind a b s))

  sums_are_read : {a : NumberedLexemes} {xs : List (Op × Expr)} → SpellsSums a xs → AreValid a → AllByRecursion IsSummand xs
  sums_are_read SpellsSums.no_term s = tt
  sums_are_read (SpellsSums.term {s = c} {a = a} {b = b} {t = t} {o = o} v g p q) s = ((sum_sign t o g, product_is_read p (front a b (behind c (a ++ b) s))), sums_are_read q (behind a b (behind c (a ++ b) s)))

  product_is_read : {a : NumberedLexemes} {x : Expr} → SpellsProduct a x → AreValid a → IsReadBack x
  product_is_read (SpellsProduct.product {a = a} {b = b} {first = first} {rest = rest} p q) s = product_reads first rest (unary_is_read p (front a b s)) (products_are_read q (behind a b s))

  products_are_read : {a : NumberedLexemes} {xs : List (Op × Expr)} → SpellsProducts a xs → AreValid a → AllByRecursion IsFactor xs
  products_are_read SpellsProducts.no_factor s = tt
  products_are_read (SpellsProducts.factor {s = c} {a = a} {b = b} {t = t} {o = o} v g p q) s = ((product_sign t o g, unary_is_read p (front a b (behind c (a ++ b) s))), products_are_read q (behind a b (behind c (a ++ b) s)))

  unary_is_read : {a : NumberedLexemes} {x : Expr} → SpellsUnary a x → AreValid a → IsReadBack x
  unary_is_read (SpellsUnary.plain p) s = atom_is_read p s
  unary_is_read (SpellsUnary.negated {s = c} {a = a} {at = at} {e = e} v p) s = not_reads at e (atom_is_read p (behind c a s))

  atom_is_read : {a : NumberedLexemes} {x : Expr} → SpellsAtom a x → AreValid a → IsReadBack x
  atom_is_read (SpellsAtom.number {at = at} {value = value} v) s = number_reads at value (valid_of v s)
  atom_is_read (SpellsAtom.yes {at = at} v) s = yes_reads at
  atom_is_read (SpellsAtom.no {at = at} v) s = no_reads at
  atom_is_read (SpellsAtom.target p) s = target_is_read p s
  atom_is_read (SpellsAtom.invoke {c = c} p) s = call_reads c (invoke_reads p s)

  target_is_read : {a : NumberedLexemes} {x : Expr} → SpellsTarget a x → AreValid a → IsReadBack x
  target_is_read (SpellsTarget.here {at = at} v) s = here_reads at
  target_is_read (SpellsTarget.name {at = at} {bytes = bytes} v) s = name_reads at bytes (valid_of v s)
  target_is_read (SpellsTarget.indexed {n = n} {o = o} {a = a} {c = c} {at = at} {bytes = bytes} {key = key} v w p u) s =
      at_reads at bytes key (valid_of v (front n (o ++ (a ++ c)) s)) (expr_reads p (front a c (behind o (a ++ c) (behind n (o ++ (a ++ c)) s))))
  target_is_read (SpellsTarget.parenthesized {o = o} {a = a} {c = c} v p w) s = expr_reads p (front a c (behind o (a ++ c) s))

  pub invoke_reads : {a : NumberedLexemes} {x : CallExpr} → SpellsInvoke a x → AreValid a → IsCalledBack x
  invoke_reads (SpellsInvoke.call {w = w} {a = a} {c = c} v p) s = let it = external_is_read p (behind w a s) in called_back c it.shows it.tried
  invoke_reads (SpellsInvoke.internal {w = w} {d = d} {n = n} {a = a} {at = at} {name_at = name_at} {bytes = bytes} {args = args} v u m p) s =
      internal_reads at name_at bytes args (valid_of m (front n a (behind d (n ++ a) (behind w (d ++ (n ++ a)) s)))) (arguments_are_read p (behind n a (behind d (n ++ a) (behind w (d ++ (n ++ a)) s))))

  external_is_read : {at : ℕ} {a : NumberedLexemes} {x : CallExpr} → SpellsExternal at a x → AreValid a → IsExternalBack x
  external_is_read {at} (SpellsExternal.external {t = t} {d = d} {n = n} {a = a} {name_at = name_at} {callee = callee} {bytes = bytes} {args = args} p u m q) s = record {
    tried = external_is_tried at callee name_at bytes args (valid_of m (front n a (behind d (n ++ a) (behind t (d ++ (n ++ a)) s)))) (target_is_read p (front t (d ++ (n ++ a)) s))
        (arguments_are_read q (behind n a (behind d (n ++ a) (behind t (d ++ (n ++ a)) s))));
    shows = external_shows at callee name_at bytes args;
  }

  arguments_are_read : {a : NumberedLexemes} {xs : List Expr} → SpellsArguments a xs → AreValid a → AllByRecursion IsReadBack xs
  arguments_are_read (SpellsArguments.arguments {o = o} {a = a} {c = c} v p w) s = exprs_are_read p (front a c (behind o (a ++ c) s))

  exprs_are_read : {a : NumberedLexemes} {xs : List Expr} → SpellsExprs a xs → AreValid a → AllByRecursion IsReadBack xs
  exprs_are_read SpellsExprs.no_expr s = tt
  exprs_are_read (SpellsExprs.exprs {a = a} {b = b} p q) s = (expr_reads p (front a b s), further_are_read q (behind a b s))

  further_are_read : {a : NumberedLexemes} {xs : List Expr} → SpellsFurther a xs → AreValid a → AllByRecursion IsReadBack xs
  further_are_read SpellsFurther.no_further s = tt
  further_are_read (SpellsFurther.further {s = c} {a = a} {b = b} v p q) s = (expr_reads p (front a b (behind c (a ++ b) s)), further_are_read q (behind a b (behind c (a ++ b) s)))

pub external_reads : {at : ℕ} {a : NumberedLexemes} {x : CallExpr} → SpellsExternal at a x → AreValid a → IsTriedBack x
external_reads p s = (external_is_read p s).tried
