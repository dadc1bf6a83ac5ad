-- The readers of expressions do well.
use Rattle.std.proofs.Common.{◌≡◌, ℕ, suc, ◌+◌, ◌-◌, ◌≤◌, Bool, true, false, List, [], ◌∷◌, ◌++◌, length, Option, Some, None, sym, subst}
use Rattle.ecf_grammar.specs.declared.tokens.Kind.{Kind}
use Rattle.ecf_grammar.specs.declared.tokens.Kind.TheVariants as kind
use Rattle.ecf_grammar.specs.declared.tokens.Word.TheVariants as w
use Rattle.ecf_grammar.specs.declared.tokens.Sign.TheVariants as s
use Rattle.ecf_lang.specs.declared.tree.Op.{Op}
use Rattle.ecf_lang.specs.declared.tree.Expr.{Expr}
use Rattle.ecf_lang.specs.declared.tree.Expr.TheVariants as e
use Rattle.ecf_lang.specs.declared.tree.CallExpr.TheVariants as c
use Rattle.ecf_grammar.specs.Lexemes.{NumberedLexemes}
use Rattle.ecf_grammar.specs.Lexemes.Lexeme.{NameOf, NumberOf, WordOf, SignOf}
use Rattle.ecf_grammar.specs.Spells.{Is, either_of, both_of, sum_of, product_of, comparison_op, sum_op, product_op, SpellsExpr, SpellsEithers, SpellsBoth, SpellsBoths, SpellsComparison, SpellsSum, SpellsSums, SpellsProduct, SpellsProducts, SpellsUnary, SpellsAtom, SpellsTarget, SpellsInvoke, SpellsExternal, SpellsArguments, SpellsExprs, SpellsFurther}
use Rattle.ecf_grammar.specs.Spells.Is.{is}
use Rattle.ecf_parser.specs.Parsers.{Parser, ◌>>=◌, pure, refuse, is_sign, sign}
use Rattle.ecf_parser.specs.Descent.{arguments, index_by, target_by, target, external, internal, invoke_by, invoke, atom_by, atom, unary, product, sum, comparison_by, comparison, both, either, expr}
use Rattle.ecf_parser.proofs.ParserLaws.{append_nil, Completes, Lawful, fewer, bind, bind_less, last, nothing, refused, widen, chosen, tested, knot, knot_is}
use Rattle.ecf_parser.proofs.StepLaws.{Eaten, Operator, Named, less, of_sign, of_word, of_name, of_number, of_eat_sign, of_operator, of_each, of_chain, of_listed}
use Rattle.ecf_parser.proofs.StepLaws.Eaten.{eaten, left}
use Rattle.ecf_parser.proofs.StepLaws.Operator.{found, absent}

-- ---- the shortest of each

pub some_target : Completes SpellsTarget []
some_target k = (NameOf (97 ∷ []) ∷ [], e.Name k (97 ∷ []), SpellsTarget.name (is k))

pub some_atom : Completes SpellsAtom []
some_atom k = (NumberOf 0 ∷ [], e.Number k 0, SpellsAtom.number (is k))

pub some_expr : Completes SpellsExpr []
some_expr k = (NumberOf 0 ∷ [], e.Number k 0, SpellsExpr.either (SpellsBoth.both (SpellsComparison.uncompared (SpellsSum.sum (SpellsProduct.product (SpellsUnary.plain (SpellsAtom.number (is k))) SpellsProducts.no_factor) SpellsSums.no_term)) SpellsBoths.no_and) SpellsEithers.no_or)

pub some_invoke : Completes SpellsInvoke []
some_invoke k = (WordOf w.SelfWord ∷ SignOf s.Dot ∷ NameOf (97 ∷ []) ∷ SignOf s.OpenParen ∷ SignOf s.CloseParen ∷ [], c.Internal k (k + 1 + 1) (97 ∷ []) [], SpellsInvoke.internal (is k) (is (k + 1)) (is (k + 1 + 1)) (SpellsArguments.arguments (is (k + 1 + 1 + 1)) SpellsExprs.no_expr (is (k + 1 + 1 + 1 + 1))))

-- ---- over a reader of the expressions in brackets

module _ (N : ℕ) (i j : Parser Expr) (h : Lawful N SpellsExpr i j) where
  pub arguments_law : Lawful (suc N) SpellsArguments (arguments i) (arguments j)
  unfolding arguments
  arguments_law = bind_less (of_sign s.OpenParen) (λ o at p K le.
      bind (of_listed SpellsExpr SpellsFurther SpellsExprs s.Comma s.CloseParen SpellsFurther.no_further (λ c a b at x xs p r rs. SpellsFurther.further p r rs) SpellsExprs.no_expr (λ a b x xs r rs. SpellsExprs.exprs r rs) K i j (fewer K N (less K N p le) h)) (λ a args r.
      last (λ _. args) (of_sign s.CloseParen) (λ c at2 q. SpellsArguments.arguments p r q)))

  indexed_law : (n : NumberedLexemes) (x : ℕ × List ℕ) → Named n x → (o : NumberedLexemes) (b : Bool) → Eaten (SignOf s.OpenBracket) o b → (K : ℕ) → K ≤ suc N - length o → Lawful K (λ b y. SpellsTarget (n ++ (o ++ b)) y) (index_by i x b) (index_by j x b)
  indexed_law n x nm o true (eaten p) K le = bind (fewer K N (less K N p le) h) (λ a key r. last (λ _. e.At x.0 x.1 key) (of_sign s.CloseBracket) (λ c at q. SpellsTarget.indexed nm p r q))
  indexed_law n x nm o false left K le = nothing (subst (λ t. SpellsTarget t (e.Name x.0 x.1)) (sym (append_nil n)) (SpellsTarget.name nm))

  target_law_by : (k : Option Kind) → Lawful (suc N) SpellsTarget (target_by i k) (target_by j k)
  target_law_by (Some (kind.Word w.Here)) = last (λ at. e.Here at) (of_word w.Here) (λ a at p. SpellsTarget.here p)
  target_law_by (Some kind.Name) = bind of_name (λ n x nm. bind_less (of_eat_sign s.OpenBracket) (λ o b p K le. indexed_law n x nm o b p K le))
  target_law_by (Some (kind.Sign s.OpenParen)) = bind_less (of_sign s.OpenParen) (λ o at p K le. bind (fewer K N (less K N p le) h) (λ a inner r. last (λ _. inner) (of_sign s.CloseParen) (λ c at2 q. SpellsTarget.parenthesized p r q)))
  target_law_by _ = refused some_target

  pub target_law : Lawful (suc N) SpellsTarget (target i) (target j)
  unfolding target
  target_law = chosen (target_by i) (target_by j) target_law_by

  pub external_law : (at : ℕ) → Lawful (suc N) (SpellsExternal at) (external i at) (external j at)
  unfolding external
  external_law at = bind target_law (λ t called r. bind (of_sign s.Dot) (λ d at1 p. bind of_name (λ n x nm. last (λ args. c.External at called x.0 x.1 args) arguments_law (λ a args q. SpellsExternal.external r p nm q))))

  internal_law : (v : NumberedLexemes) (at : ℕ) → Is (WordOf w.SelfWord) v at → Lawful (suc N) (λ b y. SpellsInvoke (v ++ b) y) (internal i at) (internal j at)
  unfolding internal
  internal_law v at t = bind (of_sign s.Dot) (λ d at1 p. bind of_name (λ n x nm. last (λ args. c.Internal at x.0 x.1 args) arguments_law (λ a args q. SpellsInvoke.internal t p nm q)))

  invoke_law_by : (k : Option Kind) → Lawful (suc N) SpellsInvoke (invoke_by i k) (invoke_by j k)
  invoke_law_by (Some (kind.Word w.Call)) = bind (of_word w.Call) (λ v at p. widen (external_law at) (λ a x r. SpellsInvoke.call p r))
  invoke_law_by (Some (kind.Word w.SelfWord)) = bind (of_word w.SelfWord) internal_law
  invoke_law_by _ = refused some_invoke

  pub invoke_law : Lawful (suc N) SpellsInvoke (invoke i) (invoke j)
  unfolding invoke
  invoke_law = chosen (invoke_by i) (invoke_by j) invoke_law_by

  atom_law_by : (k : Option Kind) → Lawful (suc N) SpellsAtom (atom_by i k) (atom_by j k)
  atom_law_by (Some (kind.Number _)) = last (λ n. e.Number n.0 n.1) of_number (λ a n p. SpellsAtom.number p)
  atom_law_by (Some (kind.Word w.True)) = last (λ at. e.Flag at true) (of_word w.True) (λ a at p. SpellsAtom.yes p)
  atom_law_by (Some (kind.Word w.False)) = last (λ at. e.Flag at false) (of_word w.False) (λ a at p. SpellsAtom.no p)
  atom_law_by (Some (kind.Word w.Call)) = last (λ x. e.Call x) invoke_law (λ a x r. SpellsAtom.invoke r)
  atom_law_by (Some (kind.Word w.SelfWord)) = last (λ x. e.Call x) invoke_law (λ a x r. SpellsAtom.invoke r)
  atom_law_by _ = widen target_law (λ a x r. SpellsAtom.target r)

  pub atom_law : Lawful (suc N) SpellsAtom (atom i) (atom j)
  unfolding atom
  atom_law = chosen (atom_by i) (atom_by j) atom_law_by

  pub unary_law : Lawful (suc N) SpellsUnary (unary i) (unary j)
  unfolding unary
  unary_law = tested (is_sign s.Not) (sign s.Not >>= (λ at. atom i >>= (λ inner. pure (e.Not at inner)))) (sign s.Not >>= (λ at. atom j >>= (λ inner. pure (e.Not at inner)))) (atom i) (atom j)
      (bind (of_sign s.Not) (λ o at p. last (λ inner. e.Not at inner) atom_law (λ a inner r. SpellsUnary.negated p r)))
      (widen atom_law (λ a x r. SpellsUnary.plain r))

  pub product_law : Lawful (suc N) SpellsProduct (product i) (product j)
  unfolding product
  product_law = bind unary_law (λ a first r. last (λ rest. product_of first rest) (of_chain SpellsUnary SpellsProducts product_op SpellsProducts.no_factor (λ c a b t at o x xs p q r rs. SpellsProducts.factor p q r rs) (suc N) (unary i) (unary j) unary_law) (λ b rest rs. SpellsProduct.product r rs))

  pub sum_law : Lawful (suc N) SpellsSum (sum i) (sum j)
  unfolding sum
  sum_law = bind product_law (λ a first r. last (λ rest. sum_of first rest) (of_chain SpellsProduct SpellsSums sum_op SpellsSums.no_term (λ c a b t at o x xs p q r rs. SpellsSums.term p q r rs) (suc N) (product i) (product j) product_law) (λ b rest rs. SpellsSum.sum r rs))

  compared_law : (a : NumberedLexemes) (first : Expr) → SpellsSum a first → (v : NumberedLexemes) (o : Option Op) → Operator comparison_op v o → Lawful (suc N) (λ b y. SpellsComparison (a ++ (v ++ b)) y) (comparison_by i first o) (comparison_by j first o)
  compared_law a first r v (Some o) (found p q) = last (λ right. e.Compare first o right) sum_law (λ b right t. SpellsComparison.compared r p q t)
  compared_law a first r v None absent = nothing (subst (λ t. SpellsComparison t first) (sym (append_nil a)) (SpellsComparison.uncompared r))

  pub comparison_law : Lawful (suc N) SpellsComparison (comparison i) (comparison j)
  unfolding comparison
  comparison_law = bind sum_law (λ a first r. bind (of_operator comparison_op) (compared_law a first r))

  pub both_law : Lawful (suc N) SpellsBoth (both i) (both j)
  unfolding both
  both_law = bind comparison_law (λ a first r. last (λ rest. both_of first rest) (of_each SpellsComparison SpellsBoths s.And SpellsBoths.no_and (λ c a b at x xs p r rs. SpellsBoths.and p r rs) (suc N) (comparison i) (comparison j) comparison_law) (λ b rest rs. SpellsBoth.both r rs))

  pub either_law : Lawful (suc N) SpellsExpr (either i) (either j)
  unfolding either
  either_law = bind both_law (λ a first r. last (λ rest. either_of first rest) (of_each SpellsBoth SpellsEithers s.Or SpellsEithers.no_or (λ c a b at x xs p r rs. SpellsEithers.or p r rs) (suc N) (both i) (both j) both_law) (λ b rest rs. SpellsExpr.either r rs))

-- ---- whole expressions

expr_turn : Parser Expr → Parser Expr → Parser Expr
expr_turn _ p = either p

pub expr_law : (N : ℕ) → Lawful N SpellsExpr expr expr
unfolding expr expr_turn
expr_law N = knot {S = SpellsExpr} expr_turn some_expr (λ M i j p q _ k. either_law M p q k) N refuse refuse (refused some_expr)

-- an expression is read by the reader of expressions in brackets
pub expr_is : (ls : NumberedLexemes) → expr ls ≡ either expr ls
unfolding expr expr_turn
expr_is ls = knot_is {S = SpellsExpr} expr_turn some_expr (λ M i j p q _ k. either_law M p q k) refuse (λ M. refused some_expr) ls
