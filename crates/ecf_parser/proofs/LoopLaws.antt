-- What the loops of the code keep: the items so far, in front of what reading the rest gives.
use Rattle.std.proofs.Common.{◌≡◌, Bool, true, false, cond, List, [], ◌∷◌, ◌++◌, Option, Some, None, Ok, Err, refl, sym, ap, ◌∙◌, append_assoc}
use Rattle.ecf_grammar.specs.declared.tokens.Kind.{Kind}
use Rattle.ecf_grammar.specs.declared.tokens.Sign.{Sign}
use Rattle.ecf_grammar.specs.declared.tokens.Sign.TheVariants as s
use Rattle.ecf_lang.specs.declared.tree.Op.{Op}
use Rattle.ecf_lang.specs.declared.tree.Expr.{Expr}
use Rattle.ecf_grammar.specs.Lexemes.{NumberedLexemes}
use Rattle.ecf_grammar.specs.Spells.{either_of, both_of, sum_of, product_of, sum_op, product_op}
use Rattle.ecf_parser.specs.Parsers.{Parse, Parser, and_then, ◌>>=◌, pure, next, behind, eat_sign, op_at, operator_read, operator, each, each_turn, chain, chain_by, chain_turn, until, until_turn, front, is_sign, list_of}
use Rattle.ecf_parser.specs.Descent.{unary, product, sum, comparison, both, either, expr}
use Rattle.ecf_parser.proofs.ExpressionLaws.{expr_is}
use Rattle.ecf_parser.proofs.TakeLaws.{via, each_found, listed_none}
use Rattle.ecf_parser.proofs.TakeExpressionLaws.{unary_opens, product_opens, comparison_opens, both_opens, expr_opens}

pub front_nil : {A : Type 0} (o : Parse (List A)) → front [] o ≡ o
front_nil (Ok p) = refl
front_nil (Err e) = refl

pub front_push : {A : Type 0} (xs : List A) (x : A) (o : Parse (List A)) → front xs (and_then o (λ ys. pure (x ∷ ys))) ≡ front (xs ++ x ∷ []) o
front_push xs x (Ok p) = ap (λ t. Ok (t, p.1)) (sym (append_assoc xs (x ∷ []) p.0))
front_push xs x (Err e) = refl

pub front_nothing : {A : Type 0} (xs : List A) → xs ++ [] ≡ xs
front_nothing [] = refl
front_nothing (x ∷ xs) = ap (λ t. x ∷ t) (front_nothing xs)

pub front_one : {A : Type 0} (x : A) (o : Parse (List A)) → front (x ∷ []) o ≡ and_then o (λ xs. pure (x ∷ xs))
front_one x (Ok p) = refl
front_one x (Err e) = refl

module _ {A : Type 0} (t : Sign) (item : Parser A) (opens : (ls : NumberedLexemes) → each t item ls ≡ each_turn t item (each t item) ls) where
  pub each_more : (xs : List A) (ls mid rest : NumberedLexemes) (x : A) → eat_sign t ls ≡ Ok (true, mid) → item mid ≡ Ok (x, rest) → front xs (each t item ls) ≡ front (xs ++ x ∷ []) (each t item rest)
  unfolding each_found
  each_more xs ls mid rest x e k = ap (front xs) (opens ls ∙ via (each_found item (each t item)) e (via _ k refl)) ∙ front_push xs x (each t item rest)

  pub each_stuck : (xs : List A) (ls mid rest : NumberedLexemes) → eat_sign t ls ≡ Ok (true, mid) → item mid ≡ Err rest → front xs (each t item ls) ≡ Err rest
  unfolding each_found
  each_stuck xs ls mid rest e k = ap (front xs) (opens ls ∙ via (each_found item (each t item)) e (ap (λ o. and_then o (λ x. each t item >>= (λ xs. pure (x ∷ xs)))) k))

  pub each_over : (xs : List A) (ls mid : NumberedLexemes) → eat_sign t ls ≡ Ok (false, mid) → front xs (each t item ls) ≡ Ok (xs, mid)
  unfolding each_found
  each_over xs ls mid e = ap (front xs) (opens ls ∙ via (each_found item (each t item)) e refl) ∙ ap (λ t. Ok (t, mid)) (front_nothing xs)

module _ {A : Type 0} (table : Sign → Option Op) (item : Parser A) (opens : (ls : NumberedLexemes) → chain table item ls ≡ chain_turn table item (chain table item) ls) where
  pub chain_more : (xs : List (Op × A)) (ls rest : NumberedLexemes) (o : Op) (x : A) → op_at table (next ls) ≡ Some o → item (behind ls) ≡ Ok (x, rest) → front xs (chain table item ls) ≡ front (xs ++ (o, x) ∷ []) (chain table item rest)
  unfolding operator
  chain_more xs ls rest o x e k = ap (front xs) (opens ls ∙ via (chain_by item (chain table item)) (ap (λ p. operator_read p ls) e) (via _ k refl)) ∙ front_push xs (o, x) (chain table item rest)

  pub chain_stuck : (xs : List (Op × A)) (ls rest : NumberedLexemes) (o : Op) → op_at table (next ls) ≡ Some o → item (behind ls) ≡ Err rest → front xs (chain table item ls) ≡ Err rest
  unfolding operator
  chain_stuck xs ls rest o e k = ap (front xs) (opens ls ∙ via (chain_by item (chain table item)) (ap (λ p. operator_read p ls) e) (ap (λ z. and_then z (λ x. chain table item >>= (λ xs. pure ((o, x) ∷ xs)))) k))

  pub chain_over : (xs : List (Op × A)) (ls : NumberedLexemes) → op_at table (next ls) ≡ None → front xs (chain table item ls) ≡ Ok (xs, ls)
  unfolding operator
  chain_over xs ls e = ap (front xs) (opens ls ∙ via (chain_by item (chain table item)) (ap (λ p. operator_read p ls) e) refl) ∙ ap (λ t. Ok (t, ls)) (front_nothing xs)

  pub ops_more : (xs : List (Op × A)) (ls mid rest : NumberedLexemes) (o : Op) (x : A) → operator table ls ≡ Ok (Some o, mid) → item mid ≡ Ok (x, rest) → front xs (chain table item ls) ≡ front (xs ++ (o, x) ∷ []) (chain table item rest)
  ops_more xs ls mid rest o x e k = ap (front xs) (opens ls ∙ via (chain_by item (chain table item)) e (via _ k refl)) ∙ front_push xs (o, x) (chain table item rest)

  pub ops_stuck : (xs : List (Op × A)) (ls mid rest : NumberedLexemes) (o : Op) → operator table ls ≡ Ok (Some o, mid) → item mid ≡ Err rest → front xs (chain table item ls) ≡ Err rest
  ops_stuck xs ls mid rest o e k = ap (front xs) (opens ls ∙ via (chain_by item (chain table item)) e (ap (λ z. and_then z (λ x. chain table item >>= (λ xs. pure ((o, x) ∷ xs)))) k))

  pub ops_over : (xs : List (Op × A)) (ls mid : NumberedLexemes) → operator table ls ≡ Ok (None, mid) → front xs (chain table item ls) ≡ Ok (xs, mid)
  ops_over xs ls mid e = ap (front xs) (opens ls ∙ via (chain_by item (chain table item)) e refl) ∙ ap (λ t. Ok (t, mid)) (front_nothing xs)

module _ {A : Type 0} (test : Option Kind → Bool) (item : Parser A) (opens : (ls : NumberedLexemes) → until test item ls ≡ until_turn test item (until test item) ls) where
  pub until_more : (xs : List A) (ls rest : NumberedLexemes) (x : A) → test (next ls) ≡ false → item ls ≡ Ok (x, rest) → front xs (until test item ls) ≡ front (xs ++ x ∷ []) (until test item rest)
  until_more xs ls rest x e k = ap (front xs) (opens ls ∙ ap (λ b. cond b (Ok ([], ls)) ((item >>= (λ x. until test item >>= (λ xs. pure (x ∷ xs)))) ls)) e ∙ via _ k refl) ∙ front_push xs x (until test item rest)

  pub until_stuck : (xs : List A) (ls rest : NumberedLexemes) → test (next ls) ≡ false → item ls ≡ Err rest → front xs (until test item ls) ≡ Err rest
  until_stuck xs ls rest e k = ap (front xs) (opens ls ∙ ap (λ b. cond b (Ok ([], ls)) ((item >>= (λ x. until test item >>= (λ xs. pure (x ∷ xs)))) ls)) e ∙ ap (λ z. and_then z (λ x. until test item >>= (λ xs. pure (x ∷ xs)))) k)

  pub until_over : (xs : List A) (ls : NumberedLexemes) → test (next ls) ≡ true → front xs (until test item ls) ≡ Ok (xs, ls)
  until_over xs ls e = ap (front xs) (opens ls ∙ ap (λ b. cond b (Ok ([], ls)) ((item >>= (λ x. until test item >>= (λ xs. pure (x ∷ xs)))) ls)) e) ∙ ap (λ t. Ok (t, ls)) (front_nothing xs)

-- ---- `||`

pub ors_more : (xs : List Expr) (ls mid rest : NumberedLexemes) (x : Expr) → eat_sign s.Or ls ≡ Ok (true, mid) → both expr mid ≡ Ok (x, rest) → front xs (each s.Or (both expr) ls) ≡ front (xs ++ x ∷ []) (each s.Or (both expr) rest)
ors_more = each_more s.Or (both expr) both_opens

pub ors_stuck : (xs : List Expr) (ls mid rest : NumberedLexemes) → eat_sign s.Or ls ≡ Ok (true, mid) → both expr mid ≡ Err rest → front xs (each s.Or (both expr) ls) ≡ Err rest
ors_stuck = each_stuck s.Or (both expr) both_opens

pub ors_over : (xs : List Expr) (ls mid : NumberedLexemes) → eat_sign s.Or ls ≡ Ok (false, mid) → front xs (each s.Or (both expr) ls) ≡ Ok (xs, mid)
ors_over = each_over s.Or (both expr) both_opens

pub either_done : (ls mid : NumberedLexemes) (x : Expr) (xs : List Expr) (rest : NumberedLexemes) → both expr ls ≡ Ok (x, mid) → each s.Or (both expr) mid ≡ Ok (xs, rest) → expr ls ≡ Ok (either_of x xs, rest)
unfolding either
either_done ls mid x xs rest e k = expr_is ls ∙ via _ e (via _ k refl)

pub either_first : (ls rest : NumberedLexemes) → both expr ls ≡ Err rest → expr ls ≡ Err rest
unfolding either
either_first ls rest e = expr_is ls ∙ ap (λ o. and_then o (λ x. each s.Or (both expr) >>= (λ xs. pure (either_of x xs)))) e

pub either_rest : (ls mid : NumberedLexemes) (x : Expr) (rest : NumberedLexemes) → both expr ls ≡ Ok (x, mid) → each s.Or (both expr) mid ≡ Err rest → expr ls ≡ Err rest
unfolding either
either_rest ls mid x rest e k = expr_is ls ∙ via _ e (ap (λ o. and_then o (λ xs. pure (either_of x xs))) k)

-- ---- `&&`

pub ands_more : (xs : List Expr) (ls mid rest : NumberedLexemes) (x : Expr) → eat_sign s.And ls ≡ Ok (true, mid) → comparison expr mid ≡ Ok (x, rest) → front xs (each s.And (comparison expr) ls) ≡ front (xs ++ x ∷ []) (each s.And (comparison expr) rest)
ands_more = each_more s.And (comparison expr) comparison_opens

pub ands_stuck : (xs : List Expr) (ls mid rest : NumberedLexemes) → eat_sign s.And ls ≡ Ok (true, mid) → comparison expr mid ≡ Err rest → front xs (each s.And (comparison expr) ls) ≡ Err rest
ands_stuck = each_stuck s.And (comparison expr) comparison_opens

pub ands_over : (xs : List Expr) (ls mid : NumberedLexemes) → eat_sign s.And ls ≡ Ok (false, mid) → front xs (each s.And (comparison expr) ls) ≡ Ok (xs, mid)
ands_over = each_over s.And (comparison expr) comparison_opens

pub both_done : (ls mid : NumberedLexemes) (x : Expr) (xs : List Expr) (rest : NumberedLexemes) → comparison expr ls ≡ Ok (x, mid) → each s.And (comparison expr) mid ≡ Ok (xs, rest) → both expr ls ≡ Ok (both_of x xs, rest)
unfolding both
both_done ls mid x xs rest e k = via _ e (via _ k refl)

pub both_first : (ls rest : NumberedLexemes) → comparison expr ls ≡ Err rest → both expr ls ≡ Err rest
unfolding both
both_first ls rest e = ap (λ o. and_then o (λ x. each s.And (comparison expr) >>= (λ xs. pure (both_of x xs)))) e

pub both_rest : (ls mid : NumberedLexemes) (x : Expr) (rest : NumberedLexemes) → comparison expr ls ≡ Ok (x, mid) → each s.And (comparison expr) mid ≡ Err rest → both expr ls ≡ Err rest
unfolding both
both_rest ls mid x rest e k = via _ e (ap (λ o. and_then o (λ xs. pure (both_of x xs))) k)

-- ---- `+` and `-`

pub terms_more : (xs : List (Op × Expr)) (ls mid rest : NumberedLexemes) (o : Op) (x : Expr) → operator sum_op ls ≡ Ok (Some o, mid) → product expr mid ≡ Ok (x, rest) → front xs (chain sum_op (product expr) ls) ≡ front (xs ++ (o, x) ∷ []) (chain sum_op (product expr) rest)
terms_more = ops_more sum_op (product expr) product_opens

pub terms_stuck : (xs : List (Op × Expr)) (ls mid rest : NumberedLexemes) (o : Op) → operator sum_op ls ≡ Ok (Some o, mid) → product expr mid ≡ Err rest → front xs (chain sum_op (product expr) ls) ≡ Err rest
terms_stuck = ops_stuck sum_op (product expr) product_opens

pub terms_over : (xs : List (Op × Expr)) (ls mid : NumberedLexemes) → operator sum_op ls ≡ Ok (None, mid) → front xs (chain sum_op (product expr) ls) ≡ Ok (xs, mid)
terms_over = ops_over sum_op (product expr) product_opens

pub sum_done : (ls mid : NumberedLexemes) (x : Expr) (xs : List (Op × Expr)) (rest : NumberedLexemes) → product expr ls ≡ Ok (x, mid) → chain sum_op (product expr) mid ≡ Ok (xs, rest) → sum expr ls ≡ Ok (sum_of x xs, rest)
unfolding sum
sum_done ls mid x xs rest e k = via _ e (via _ k refl)

pub sum_first : (ls rest : NumberedLexemes) → product expr ls ≡ Err rest → sum expr ls ≡ Err rest
unfolding sum
sum_first ls rest e = ap (λ o. and_then o (λ x. chain sum_op (product expr) >>= (λ xs. pure (sum_of x xs)))) e

pub sum_rest : (ls mid : NumberedLexemes) (x : Expr) (rest : NumberedLexemes) → product expr ls ≡ Ok (x, mid) → chain sum_op (product expr) mid ≡ Err rest → sum expr ls ≡ Err rest
unfolding sum
sum_rest ls mid x rest e k = via _ e (ap (λ o. and_then o (λ xs. pure (sum_of x xs))) k)

pub terms_exit : (ls at end : NumberedLexemes) (xs : List (Op × Expr)) → front xs (chain sum_op (product expr) at) ≡ chain sum_op (product expr) ls → operator sum_op at ≡ Ok (None, end) → chain sum_op (product expr) ls ≡ Ok (xs, end)
terms_exit ls at end xs same h = sym same ∙ terms_over xs at end h

pub terms_keep : (mid at inner end : NumberedLexemes) (x : Expr) (xs ys : List (Op × Expr)) (o : Op) → front xs (chain sum_op (product expr) at) ≡ chain sum_op (product expr) mid → operator sum_op at ≡ Ok (Some o, inner) → product expr inner ≡ Ok (x, end) → ys ≡ xs ++ (o, x) ∷ [] → front ys (chain sum_op (product expr) end) ≡ chain sum_op (product expr) mid
terms_keep mid at inner end x xs ys o same h k f = ap (λ t. front t (chain sum_op (product expr) end)) f ∙ sym (terms_more xs at inner end o x h k) ∙ same

-- ---- `*`, `/` and `%`

pub factors_more : (xs : List (Op × Expr)) (ls mid rest : NumberedLexemes) (o : Op) (x : Expr) → operator product_op ls ≡ Ok (Some o, mid) → unary expr mid ≡ Ok (x, rest) → front xs (chain product_op (unary expr) ls) ≡ front (xs ++ (o, x) ∷ []) (chain product_op (unary expr) rest)
factors_more = ops_more product_op (unary expr) unary_opens

pub factors_stuck : (xs : List (Op × Expr)) (ls mid rest : NumberedLexemes) (o : Op) → operator product_op ls ≡ Ok (Some o, mid) → unary expr mid ≡ Err rest → front xs (chain product_op (unary expr) ls) ≡ Err rest
factors_stuck = ops_stuck product_op (unary expr) unary_opens

pub factors_over : (xs : List (Op × Expr)) (ls mid : NumberedLexemes) → operator product_op ls ≡ Ok (None, mid) → front xs (chain product_op (unary expr) ls) ≡ Ok (xs, mid)
factors_over = ops_over product_op (unary expr) unary_opens

pub product_done : (ls mid : NumberedLexemes) (x : Expr) (xs : List (Op × Expr)) (rest : NumberedLexemes) → unary expr ls ≡ Ok (x, mid) → chain product_op (unary expr) mid ≡ Ok (xs, rest) → product expr ls ≡ Ok (product_of x xs, rest)
unfolding product
product_done ls mid x xs rest e k = via _ e (via _ k refl)

pub product_first : (ls rest : NumberedLexemes) → unary expr ls ≡ Err rest → product expr ls ≡ Err rest
unfolding product
product_first ls rest e = ap (λ o. and_then o (λ x. chain product_op (unary expr) >>= (λ xs. pure (product_of x xs)))) e

pub product_rest : (ls mid : NumberedLexemes) (x : Expr) (rest : NumberedLexemes) → unary expr ls ≡ Ok (x, mid) → chain product_op (unary expr) mid ≡ Err rest → product expr ls ≡ Err rest
unfolding product
product_rest ls mid x rest e k = via _ e (ap (λ o. and_then o (λ xs. pure (product_of x xs))) k)

pub factors_exit : (ls at end : NumberedLexemes) (xs : List (Op × Expr)) → front xs (chain product_op (unary expr) at) ≡ chain product_op (unary expr) ls → operator product_op at ≡ Ok (None, end) → chain product_op (unary expr) ls ≡ Ok (xs, end)
factors_exit ls at end xs same h = sym same ∙ factors_over xs at end h

pub factors_keep : (mid at inner end : NumberedLexemes) (x : Expr) (xs ys : List (Op × Expr)) (o : Op) → front xs (chain product_op (unary expr) at) ≡ chain product_op (unary expr) mid → operator product_op at ≡ Ok (Some o, inner) → unary expr inner ≡ Ok (x, end) → ys ≡ xs ++ (o, x) ∷ [] → front ys (chain product_op (unary expr) end) ≡ chain product_op (unary expr) mid
factors_keep mid at inner end x xs ys o same h k f = ap (λ t. front t (chain product_op (unary expr) end)) f ∙ sym (factors_more xs at inner end o x h k) ∙ same

-- ---- commas

pub commas_more : (xs : List Expr) (ls mid rest : NumberedLexemes) (x : Expr) → eat_sign s.Comma ls ≡ Ok (true, mid) → expr mid ≡ Ok (x, rest) → front xs (each s.Comma expr ls) ≡ front (xs ++ x ∷ []) (each s.Comma expr rest)
commas_more = each_more s.Comma expr expr_opens

pub commas_stuck : (xs : List Expr) (ls mid rest : NumberedLexemes) → eat_sign s.Comma ls ≡ Ok (true, mid) → expr mid ≡ Err rest → front xs (each s.Comma expr ls) ≡ Err rest
commas_stuck = each_stuck s.Comma expr expr_opens

pub commas_over : (xs : List Expr) (ls mid : NumberedLexemes) → eat_sign s.Comma ls ≡ Ok (false, mid) → front xs (each s.Comma expr ls) ≡ Ok (xs, mid)
commas_over = each_over s.Comma expr expr_opens

pub exprs_none : (ls : NumberedLexemes) → is_sign s.CloseParen (next ls) ≡ true → list_of s.Comma s.CloseParen expr ls ≡ Ok ([], ls)
exprs_none ls h = listed_none s.Comma s.CloseParen expr ls h

listed_open : (ls : NumberedLexemes) → is_sign s.CloseParen (next ls) ≡ false → list_of s.Comma s.CloseParen expr ls ≡ and_then (expr ls) (λ x. each s.Comma expr >>= (λ xs. pure (x ∷ xs)))
unfolding list_of
listed_open ls h = ap (λ b. cond b (Ok ([], ls)) (and_then (expr ls) (λ x. each s.Comma expr >>= (λ xs. pure (x ∷ xs))))) h

pub exprs_first : (ls rest : NumberedLexemes) → is_sign s.CloseParen (next ls) ≡ false → expr ls ≡ Err rest → list_of s.Comma s.CloseParen expr ls ≡ Err rest
exprs_first ls rest h e = listed_open ls h ∙ ap (λ o. and_then o (λ x. each s.Comma expr >>= (λ xs. pure (x ∷ xs)))) e

pub exprs_some : (ls mid : NumberedLexemes) (x : Expr) → is_sign s.CloseParen (next ls) ≡ false → expr ls ≡ Ok (x, mid) → front (x ∷ []) (each s.Comma expr mid) ≡ list_of s.Comma s.CloseParen expr ls
exprs_some ls mid x h e = sym (listed_open ls h ∙ via _ e (sym (front_one x (each s.Comma expr mid))))
