-- What is spelled is read: expressions.
use Rattle.std.proofs.Common.{◌≡◌, ℕ, suc, ◌<◌, ◌≤◌, Bool, true, false, List, [], ◌∷◌, ◌++◌, Option, Some, None, Ok, refl, ◌∙◌, arith}
use Rattle.ecf_grammar.specs.declared.tokens.Kind.{Kind}
use Rattle.ecf_grammar.specs.declared.tokens.Kind.TheVariants as kind
use Rattle.ecf_grammar.specs.declared.tokens.Word.TheVariants as w
use Rattle.ecf_grammar.specs.declared.tokens.Sign.{Sign}
use Rattle.ecf_grammar.specs.declared.tokens.Sign.TheVariants as s
use Rattle.ecf_lang.specs.declared.tree.Op.{Op}
use Rattle.ecf_lang.specs.declared.tree.Expr.{Expr}
use Rattle.ecf_lang.specs.declared.tree.Expr.TheVariants as e
use Rattle.ecf_lang.specs.declared.tree.CallExpr.{CallExpr}
use Rattle.ecf_lang.specs.declared.tree.CallExpr.TheVariants as c
use Rattle.ecf_grammar.specs.Lexemes.{NumberedLexemes}
use Rattle.ecf_grammar.specs.Lexemes.Lexeme.{NameOf, NumberOf, WordOf, SignOf}
use Rattle.ecf_grammar.specs.Spells.{Is, either_of, both_of, sum_of, product_of, comparison_op, sum_op, product_op, SpellsExpr, SpellsEithers, SpellsBoth, SpellsBoths, SpellsComparison, SpellsSum, SpellsSums, SpellsProduct, SpellsProducts, SpellsUnary, SpellsAtom, SpellsTarget, SpellsInvoke, SpellsExternal, SpellsArguments, SpellsExprs, SpellsFurther}
use Rattle.ecf_grammar.specs.Spells.Is.{is}
use Rattle.ecf_parser.specs.Parsers.{◌>>=◌, pure, next, is_sign, is_word, sign, word, name, eat_sign, op_at, operator, each_turn, each, chain_turn, chain, list_of}
use Rattle.ecf_parser.specs.Descent.{arguments, target, external, internal, invoke, atom, unary, product, sum, comparison, both, either, expr}
use Rattle.ecf_parser.proofs.ParserLaws.{fewer}
use Rattle.ecf_parser.proofs.StepLaws.{each_is, chain_is}
use Rattle.ecf_parser.proofs.ExpressionLaws.{expr_law, unary_law, product_law, comparison_law, both_law, expr_is}
use Rattle.ecf_parser.proofs.TakeLaws.{via, seq, when_no, when_yes, is_sign_self, sign_is, word_is, name_is, number_is, eats_sign, leaves_sign, takes_op, leaves_op, next_is, next_assoc, each_ends, each_goes, chain_ends, chain_goes, listed_none, listed_some}

-- how tightly a lexeme behind an expression would bind it
abbrev pub tight : Option Kind → ℕ
tight (Some (kind.Sign s.Or)) = 1
tight (Some (kind.Sign s.And)) = 2
tight (Some (kind.Sign s.Equal)) = 3
tight (Some (kind.Sign s.NotEqual)) = 3
tight (Some (kind.Sign s.Less)) = 3
tight (Some (kind.Sign s.LessEqual)) = 3
tight (Some (kind.Sign s.Greater)) = 3
tight (Some (kind.Sign s.GreaterEqual)) = 3
tight (Some (kind.Sign s.Plus)) = 4
tight (Some (kind.Sign s.Minus)) = 4
tight (Some (kind.Sign s.Star)) = 5
tight (Some (kind.Sign s.Slash)) = 5
tight (Some (kind.Sign s.Percent)) = 5
tight (Some (kind.Sign s.OpenBracket)) = 6
tight _ = 0

-- nothing of that level goes on
abbrev pub Ends : ℕ → NumberedLexemes → Type 0
Ends n rest = tight (next rest) < n

pub ends_by : {t : Sign} {c : NumberedLexemes} {at : ℕ} (n : ℕ) (rest : NumberedLexemes) → Is (SignOf t) c at → tight (Some (kind.Sign t)) < n → Ends n (c ++ rest)
ends_by n rest (is at) h = h

pub ends_by2 : {t : Sign} {c : NumberedLexemes} {at : ℕ} (n : ℕ) (a rest : NumberedLexemes) → Is (SignOf t) c at → tight (Some (kind.Sign t)) < n → Ends n ((c ++ a) ++ rest)
ends_by2 n a rest (is at) h = h

pub ends_more : (n m : ℕ) (rest : NumberedLexemes) → n ≤ m → Ends n rest → Ends m rest
ends_more n m rest le h = omega arith

no_or_by : (k : Option Kind) → tight k < 1 → is_sign s.Or k ≡ false
unfolding is_sign
no_or_by (Some (kind.Sign s.Or)) h = absurd (omega arith)
no_or_by _ h = refl

no_and_by : (k : Option Kind) → tight k < 2 → is_sign s.And k ≡ false
unfolding is_sign
no_and_by (Some (kind.Sign s.And)) h = absurd (omega arith)
no_and_by _ h = refl

no_comparison_by : (k : Option Kind) → tight k < 3 → op_at comparison_op k ≡ None
no_comparison_by (Some (kind.Sign s.Equal)) h = absurd (omega arith)
no_comparison_by (Some (kind.Sign s.NotEqual)) h = absurd (omega arith)
no_comparison_by (Some (kind.Sign s.Less)) h = absurd (omega arith)
no_comparison_by (Some (kind.Sign s.LessEqual)) h = absurd (omega arith)
no_comparison_by (Some (kind.Sign s.Greater)) h = absurd (omega arith)
no_comparison_by (Some (kind.Sign s.GreaterEqual)) h = absurd (omega arith)
no_comparison_by _ h = refl

no_sum_by : (k : Option Kind) → tight k < 4 → op_at sum_op k ≡ None
no_sum_by (Some (kind.Sign s.Plus)) h = absurd (omega arith)
no_sum_by (Some (kind.Sign s.Minus)) h = absurd (omega arith)
no_sum_by _ h = refl

no_product_by : (k : Option Kind) → tight k < 5 → op_at product_op k ≡ None
no_product_by (Some (kind.Sign s.Star)) h = absurd (omega arith)
no_product_by (Some (kind.Sign s.Slash)) h = absurd (omega arith)
no_product_by (Some (kind.Sign s.Percent)) h = absurd (omega arith)
no_product_by _ h = refl

no_index_by : (k : Option Kind) → tight k < 6 → is_sign s.OpenBracket k ≡ false
unfolding is_sign
no_index_by (Some (kind.Sign s.OpenBracket)) h = absurd (omega arith)
no_index_by _ h = refl

-- the signs of a table bind as tightly as their level
comparison_tight : (t : Sign) (o : Op) → comparison_op t ≡ Some o → tight (Some (kind.Sign t)) < 4
comparison_tight s.Equal o e = omega arith
comparison_tight s.NotEqual o e = omega arith
comparison_tight s.Less o e = omega arith
comparison_tight s.LessEqual o e = omega arith
comparison_tight s.Greater o e = omega arith
comparison_tight s.GreaterEqual o e = omega arith
comparison_tight _ o e = absurd cc

sum_tight : (t : Sign) (o : Op) → sum_op t ≡ Some o → tight (Some (kind.Sign t)) < 5
sum_tight s.Plus o e = omega arith
sum_tight s.Minus o e = omega arith
sum_tight _ o e = absurd cc

product_tight : (t : Sign) (o : Op) → product_op t ≡ Some o → tight (Some (kind.Sign t)) < 6
product_tight s.Star o e = omega arith
product_tight s.Slash o e = omega arith
product_tight s.Percent o e = omega arith
product_tight _ o e = absurd cc

no_comma : is_sign s.Comma (Some (kind.Sign s.CloseParen)) ≡ false
unfolding is_sign
no_comma = refl

-- ---- what comes behind the first part of a line

eithers_end : {b : NumberedLexemes} {xs : List Expr} (rest : NumberedLexemes) → SpellsEithers b xs → Ends 1 rest → Ends 2 (b ++ rest)
eithers_end rest SpellsEithers.no_or h = ends_more 1 2 rest (omega arith) h
eithers_end rest (SpellsEithers.or {a = a} {b = b} v p q) h = ends_by2 {t = s.Or} 2 (a ++ b) rest v (omega arith)

boths_end : {b : NumberedLexemes} {xs : List Expr} (rest : NumberedLexemes) → SpellsBoths b xs → Ends 2 rest → Ends 3 (b ++ rest)
boths_end rest SpellsBoths.no_and h = ends_more 2 3 rest (omega arith) h
boths_end rest (SpellsBoths.and {a = a} {b = b} v p q) h = ends_by2 {t = s.And} 3 (a ++ b) rest v (omega arith)

sums_end : {b : NumberedLexemes} {xs : List (Op × Expr)} (rest : NumberedLexemes) → SpellsSums b xs → Ends 4 rest → Ends 5 (b ++ rest)
sums_end rest SpellsSums.no_term h = ends_more 4 5 rest (omega arith) h
sums_end rest (SpellsSums.term {a = a} {b = b} {t = t} {o = o} v e p q) h = ends_by2 5 (a ++ b) rest v (sum_tight t o e)

products_end : {b : NumberedLexemes} {xs : List (Op × Expr)} (rest : NumberedLexemes) → SpellsProducts b xs → Ends 5 rest → Ends 6 (b ++ rest)
products_end rest SpellsProducts.no_factor h = ends_more 5 6 rest (omega arith) h
products_end rest (SpellsProducts.factor {a = a} {b = b} {t = t} {o = o} v e p q) h = ends_by2 6 (a ++ b) rest v (product_tight t o e)

further_end : {b : NumberedLexemes} {xs : List Expr} (rest : NumberedLexemes) → SpellsFurther b xs → Ends 1 rest → Ends 1 (b ++ rest)
further_end rest SpellsFurther.no_further h = h
further_end rest (SpellsFurther.further {a = a} {b = b} v p q) h = ends_by2 {t = s.Comma} 1 (a ++ b) rest v (omega arith)

-- ---- what an expression begins with

module _ (test : Option Kind → Bool) (number : (v : ℕ) → test (Some (kind.Number v)) ≡ false) (name : test (Some kind.Name) ≡ false) (yes : test (Some (kind.Word w.True)) ≡ false) (no : test (Some (kind.Word w.False)) ≡ false) (here : test (Some (kind.Word w.Here)) ≡ false) (call : test (Some (kind.Word w.Call)) ≡ false) (self : test (Some (kind.Word w.SelfWord)) ≡ false) (open_ : test (Some (kind.Sign s.OpenParen)) ≡ false) where
  pub target_begins : {a : NumberedLexemes} {x : Expr} (rest : NumberedLexemes) → SpellsTarget a x → test (next (a ++ rest)) ≡ false
  target_begins rest (SpellsTarget.here (is at)) = here
  target_begins rest (SpellsTarget.name (is at)) = name
  target_begins rest (SpellsTarget.indexed (is at) _ _ _) = name
  target_begins rest (SpellsTarget.parenthesized (is at) _ _) = open_

  pub invoke_begins : {a : NumberedLexemes} {x : CallExpr} (rest : NumberedLexemes) → SpellsInvoke a x → test (next (a ++ rest)) ≡ false
  invoke_begins rest (SpellsInvoke.call (is at) _) = call
  invoke_begins rest (SpellsInvoke.internal (is at) _ _ _) = self

  pub atom_begins : {a : NumberedLexemes} {x : Expr} (rest : NumberedLexemes) → SpellsAtom a x → test (next (a ++ rest)) ≡ false
  atom_begins rest (SpellsAtom.number {value = v} (is at)) = number v
  atom_begins rest (SpellsAtom.yes (is at)) = yes
  atom_begins rest (SpellsAtom.no (is at)) = no
  atom_begins rest (SpellsAtom.target p) = target_begins rest p
  atom_begins rest (SpellsAtom.invoke p) = invoke_begins rest p

  module _ (not_ : test (Some (kind.Sign s.Not)) ≡ false) where
    unary_begins : {a : NumberedLexemes} {x : Expr} (rest : NumberedLexemes) → SpellsUnary a x → test (next (a ++ rest)) ≡ false
    unary_begins rest (SpellsUnary.plain p) = atom_begins rest p
    unary_begins rest (SpellsUnary.negated (is at) _) = not_

    product_begins : {a : NumberedLexemes} {x : Expr} (rest : NumberedLexemes) → SpellsProduct a x → test (next (a ++ rest)) ≡ false
    product_begins rest (SpellsProduct.product {a = a} {b = b} p _) = next_assoc (λ k. test k ≡ false) a b rest (unary_begins (b ++ rest) p)

    sum_begins : {a : NumberedLexemes} {x : Expr} (rest : NumberedLexemes) → SpellsSum a x → test (next (a ++ rest)) ≡ false
    sum_begins rest (SpellsSum.sum {a = a} {b = b} p _) = next_assoc (λ k. test k ≡ false) a b rest (product_begins (b ++ rest) p)

    comparison_begins : {a : NumberedLexemes} {x : Expr} (rest : NumberedLexemes) → SpellsComparison a x → test (next (a ++ rest)) ≡ false
    comparison_begins rest (SpellsComparison.uncompared p) = sum_begins rest p
    comparison_begins rest (SpellsComparison.compared {a = a} {s = v} {b = b} p _ _ _) = next_assoc (λ k. test k ≡ false) a (v ++ b) rest (sum_begins ((v ++ b) ++ rest) p)

    both_begins : {a : NumberedLexemes} {x : Expr} (rest : NumberedLexemes) → SpellsBoth a x → test (next (a ++ rest)) ≡ false
    both_begins rest (SpellsBoth.both {a = a} {b = b} p _) = next_assoc (λ k. test k ≡ false) a b rest (comparison_begins (b ++ rest) p)

    pub expr_begins : {a : NumberedLexemes} {x : Expr} (rest : NumberedLexemes) → SpellsExpr a x → test (next (a ++ rest)) ≡ false
    expr_begins rest (SpellsExpr.either {a = a} {b = b} p _) = next_assoc (λ k. test k ≡ false) a b rest (both_begins (b ++ rest) p)

not_closing : {a : NumberedLexemes} {x : Expr} (rest : NumberedLexemes) → SpellsExpr a x → is_sign s.CloseParen (next (a ++ rest)) ≡ false
unfolding is_sign
not_closing rest p = expr_begins (is_sign s.CloseParen) (λ _. refl) refl refl refl refl refl refl refl refl rest p

pub not_try : {a : NumberedLexemes} {x : Expr} (rest : NumberedLexemes) → SpellsExpr a x → is_word w.Try (next (a ++ rest)) ≡ false
unfolding is_word
not_try rest p = expr_begins (is_word w.Try) (λ _. refl) refl refl refl refl refl refl refl refl rest p

not_negated : {a : NumberedLexemes} {x : Expr} (rest : NumberedLexemes) → SpellsAtom a x → is_sign s.Not (next (a ++ rest)) ≡ false
unfolding is_sign
not_negated rest p = atom_begins (is_sign s.Not) (λ _. refl) refl refl refl refl refl refl refl rest p

-- ---- one line at a time

pub unary_opens : (ls : NumberedLexemes) → chain product_op (unary expr) ls ≡ chain_turn product_op (unary expr) (chain product_op (unary expr)) ls
unary_opens ls = chain_is SpellsUnary SpellsProducts product_op SpellsProducts.no_factor (λ c a b t at o x xs p q r rs. SpellsProducts.factor p q r rs) (unary expr) (λ M. fewer M (suc M) (omega arith) (unary_law M expr expr (expr_law M))) ls

pub product_opens : (ls : NumberedLexemes) → chain sum_op (product expr) ls ≡ chain_turn sum_op (product expr) (chain sum_op (product expr)) ls
product_opens ls = chain_is SpellsProduct SpellsSums sum_op SpellsSums.no_term (λ c a b t at o x xs p q r rs. SpellsSums.term p q r rs) (product expr) (λ M. fewer M (suc M) (omega arith) (product_law M expr expr (expr_law M))) ls

pub comparison_opens : (ls : NumberedLexemes) → each s.And (comparison expr) ls ≡ each_turn s.And (comparison expr) (each s.And (comparison expr)) ls
comparison_opens ls = each_is SpellsComparison SpellsBoths s.And SpellsBoths.no_and (λ c a b at x xs p r rs. SpellsBoths.and p r rs) (comparison expr) (λ M. fewer M (suc M) (omega arith) (comparison_law M expr expr (expr_law M))) ls

pub both_opens : (ls : NumberedLexemes) → each s.Or (both expr) ls ≡ each_turn s.Or (both expr) (each s.Or (both expr)) ls
both_opens ls = each_is SpellsBoth SpellsEithers s.Or SpellsEithers.no_or (λ c a b at x xs p r rs. SpellsEithers.or p r rs) (both expr) (λ M. fewer M (suc M) (omega arith) (both_law M expr expr (expr_law M))) ls

pub expr_opens : (ls : NumberedLexemes) → each s.Comma expr ls ≡ each_turn s.Comma expr (each s.Comma expr) ls
expr_opens ls = each_is SpellsExpr SpellsFurther s.Comma SpellsFurther.no_further (λ c a b at x xs p r rs. SpellsFurther.further p r rs) expr expr_law ls

-- ---- one line at a time

either_step : {x : Expr} {xs : List Expr} (a b rest : NumberedLexemes) → both expr (a ++ (b ++ rest)) ≡ Ok (x, b ++ rest) → each s.Or (both expr) (b ++ rest) ≡ Ok (xs, rest) → expr ((a ++ b) ++ rest) ≡ Ok (either_of x xs, rest)
unfolding either
either_step a b rest e k = expr_is ((a ++ b) ++ rest) ∙ seq _ (both expr) a b rest e (via _ k refl)

both_step : {x : Expr} {xs : List Expr} (a b rest : NumberedLexemes) → comparison expr (a ++ (b ++ rest)) ≡ Ok (x, b ++ rest) → each s.And (comparison expr) (b ++ rest) ≡ Ok (xs, rest) → both expr ((a ++ b) ++ rest) ≡ Ok (both_of x xs, rest)
unfolding both
both_step a b rest e k = seq _ (comparison expr) a b rest e (via _ k refl)

alone_step : {x : Expr} (a rest : NumberedLexemes) → sum expr (a ++ rest) ≡ Ok (x, rest) → op_at comparison_op (next rest) ≡ None → comparison expr (a ++ rest) ≡ Ok (x, rest)
unfolding comparison
alone_step a rest e h = via _ e (via _ (leaves_op comparison_op rest h) refl)

compared_step : {x y : Expr} {t : Sign} {v : NumberedLexemes} {at : ℕ} {o : Op} (a b rest : NumberedLexemes) → sum expr (a ++ ((v ++ b) ++ rest)) ≡ Ok (x, (v ++ b) ++ rest) → Is (SignOf t) v at → comparison_op t ≡ Some o → sum expr (b ++ rest) ≡ Ok (y, rest) → comparison expr ((a ++ (v ++ b)) ++ rest) ≡ Ok (e.Compare x o y, rest)
unfolding comparison
compared_step {v = v} a b rest g p q k = seq _ (sum expr) a (v ++ b) rest g (seq _ (operator comparison_op) v b rest (takes_op comparison_op p q (b ++ rest)) (via _ k refl))

sum_step : {x : Expr} {xs : List (Op × Expr)} (a b rest : NumberedLexemes) → product expr (a ++ (b ++ rest)) ≡ Ok (x, b ++ rest) → chain sum_op (product expr) (b ++ rest) ≡ Ok (xs, rest) → sum expr ((a ++ b) ++ rest) ≡ Ok (sum_of x xs, rest)
unfolding sum
sum_step a b rest e k = seq _ (product expr) a b rest e (via _ k refl)

product_step : {x : Expr} {xs : List (Op × Expr)} (a b rest : NumberedLexemes) → unary expr (a ++ (b ++ rest)) ≡ Ok (x, b ++ rest) → chain product_op (unary expr) (b ++ rest) ≡ Ok (xs, rest) → product expr ((a ++ b) ++ rest) ≡ Ok (product_of x xs, rest)
unfolding product
product_step a b rest e k = seq _ (unary expr) a b rest e (via _ k refl)

plain_step : {x : Expr} (a rest : NumberedLexemes) → SpellsAtom a x → atom expr (a ++ rest) ≡ Ok (x, rest) → unary expr (a ++ rest) ≡ Ok (x, rest)
unfolding unary
plain_step a rest p k = when_no (is_sign s.Not) (sign s.Not >>= (λ at. atom expr >>= (λ inner. pure (e.Not at inner)))) (atom expr) (a ++ rest) (not_negated rest p) k

negated_step : {x : Expr} {o : NumberedLexemes} {at : ℕ} (a rest : NumberedLexemes) → Is (SignOf s.Not) o at → atom expr (a ++ rest) ≡ Ok (x, rest) → unary expr ((o ++ a) ++ rest) ≡ Ok (e.Not at x, rest)
unfolding unary
negated_step {o = o} a rest p k = when_yes (is_sign s.Not) (sign s.Not >>= (λ at. atom expr >>= (λ inner. pure (e.Not at inner)))) (atom expr) ((o ++ a) ++ rest) (next_assoc (λ k. is_sign s.Not k ≡ true) o a rest (next_is (λ k. is_sign s.Not k ≡ true) (a ++ rest) p (is_sign_self s.Not))) (seq _ (sign s.Not) o a rest (sign_is p (a ++ rest)) (via _ k refl))

atom_target : {a : NumberedLexemes} {x : Expr} (rest : NumberedLexemes) → SpellsTarget a x → atom expr (a ++ rest) ≡ target expr (a ++ rest)
unfolding atom
atom_target rest (SpellsTarget.here (is at)) = refl
atom_target rest (SpellsTarget.name (is at)) = refl
atom_target rest (SpellsTarget.indexed (is at) _ _ _) = refl
atom_target rest (SpellsTarget.parenthesized (is at) _ _) = refl

atom_invoke : {a : NumberedLexemes} {x : CallExpr} (rest : NumberedLexemes) → SpellsInvoke a x → invoke expr (a ++ rest) ≡ Ok (x, rest) → atom expr (a ++ rest) ≡ Ok (e.Call x, rest)
unfolding atom
atom_invoke rest (SpellsInvoke.call (is at) _) k = via _ k refl
atom_invoke rest (SpellsInvoke.internal (is at) _ _ _) k = via _ k refl

number_step : {a : NumberedLexemes} {at v : ℕ} (rest : NumberedLexemes) → Is (NumberOf v) a at → atom expr (a ++ rest) ≡ Ok (e.Number at v, rest)
unfolding atom
number_step {v = v} rest (is at) = via _ (number_is {value = v} (is at) rest) refl

yes_step : {a : NumberedLexemes} {at : ℕ} (rest : NumberedLexemes) → Is (WordOf w.True) a at → atom expr (a ++ rest) ≡ Ok (e.Flag at true, rest)
unfolding atom
yes_step rest (is at) = via _ (word_is {t = w.True} (is at) rest) refl

no_step : {a : NumberedLexemes} {at : ℕ} (rest : NumberedLexemes) → Is (WordOf w.False) a at → atom expr (a ++ rest) ≡ Ok (e.Flag at false, rest)
unfolding atom
no_step rest (is at) = via _ (word_is {t = w.False} (is at) rest) refl

here_step : {a : NumberedLexemes} {at : ℕ} (rest : NumberedLexemes) → Is (WordOf w.Here) a at → target expr (a ++ rest) ≡ Ok (e.Here at, rest)
unfolding target
here_step rest (is at) = via _ (word_is {t = w.Here} (is at) rest) refl

name_step : {a : NumberedLexemes} {at : ℕ} {bytes : List ℕ} (rest : NumberedLexemes) → Is (NameOf bytes) a at → is_sign s.OpenBracket (next rest) ≡ false → target expr (a ++ rest) ≡ Ok (e.Name at bytes, rest)
unfolding target
name_step {bytes = bytes} rest (is at) h = via _ (name_is {bytes = bytes} (is at) rest) (via _ (leaves_sign s.OpenBracket rest h) refl)

indexed_step : {n o c : NumberedLexemes} {at at1 at2 : ℕ} {bytes : List ℕ} {x : Expr} (a rest : NumberedLexemes) → Is (NameOf bytes) n at → Is (SignOf s.OpenBracket) o at1 → expr (a ++ (c ++ rest)) ≡ Ok (x, c ++ rest) → Is (SignOf s.CloseBracket) c at2 → target expr ((n ++ (o ++ (a ++ c))) ++ rest) ≡ Ok (e.At at bytes x, rest)
unfolding target
indexed_step {o = o} {c = c} {bytes = bytes} a rest (is at) p k q = seq _ name ((at, NameOf bytes) ∷ []) (o ++ (a ++ c)) rest (name_is {bytes = bytes} (is at) ((o ++ (a ++ c)) ++ rest)) (seq _ (eat_sign s.OpenBracket) o (a ++ c) rest (eats_sign p ((a ++ c) ++ rest)) (seq _ expr a c rest k (via _ (sign_is q rest) refl)))

parenthesized_step : {o c : NumberedLexemes} {at1 at2 : ℕ} {x : Expr} (a rest : NumberedLexemes) → Is (SignOf s.OpenParen) o at1 → expr (a ++ (c ++ rest)) ≡ Ok (x, c ++ rest) → Is (SignOf s.CloseParen) c at2 → target expr ((o ++ (a ++ c)) ++ rest) ≡ Ok (x, rest)
unfolding target
parenthesized_step {c = c} a rest (is at) k q = seq _ (sign s.OpenParen) ((at, SignOf s.OpenParen) ∷ []) (a ++ c) rest (sign_is {t = s.OpenParen} (is at) ((a ++ c) ++ rest)) (seq _ expr a c rest k (via _ (sign_is q rest) refl))

external_step : {d n : NumberedLexemes} {at1 name_at : ℕ} {bytes : List ℕ} {x : Expr} {args : List Expr} (t a : NumberedLexemes) (at : ℕ) (rest : NumberedLexemes) → target expr (t ++ ((d ++ (n ++ a)) ++ rest)) ≡ Ok (x, (d ++ (n ++ a)) ++ rest) → Is (SignOf s.Dot) d at1 → Is (NameOf bytes) n name_at → arguments expr (a ++ rest) ≡ Ok (args, rest) → external expr at ((t ++ (d ++ (n ++ a))) ++ rest) ≡ Ok (c.External at x name_at bytes args, rest)
unfolding external
external_step {d} {n} t a at rest g p q k = seq _ (target expr) t (d ++ (n ++ a)) rest g (seq _ (sign s.Dot) d (n ++ a) rest (sign_is p ((n ++ a) ++ rest)) (seq _ name n a rest (name_is q (a ++ rest)) (via _ k refl)))

call_step : {v : NumberedLexemes} {at : ℕ} {x : CallExpr} (a rest : NumberedLexemes) → Is (WordOf w.Call) v at → external expr at (a ++ rest) ≡ Ok (x, rest) → invoke expr ((v ++ a) ++ rest) ≡ Ok (x, rest)
unfolding invoke
call_step a rest (is at) k = seq _ (word w.Call) ((at, WordOf w.Call) ∷ []) a rest (word_is {t = w.Call} (is at) (a ++ rest)) k

internal_step : {v d n : NumberedLexemes} {at at1 name_at : ℕ} {bytes : List ℕ} {args : List Expr} (a rest : NumberedLexemes) → Is (WordOf w.SelfWord) v at → Is (SignOf s.Dot) d at1 → Is (NameOf bytes) n name_at → arguments expr (a ++ rest) ≡ Ok (args, rest) → invoke expr ((v ++ (d ++ (n ++ a))) ++ rest) ≡ Ok (c.Internal at name_at bytes args, rest)
unfolding invoke internal
internal_step {d = d} {n = n} a rest (is at) p q k = seq _ (word w.SelfWord) ((at, WordOf w.SelfWord) ∷ []) (d ++ (n ++ a)) rest (word_is {t = w.SelfWord} (is at) ((d ++ (n ++ a)) ++ rest)) (seq _ (sign s.Dot) d (n ++ a) rest (sign_is p ((n ++ a) ++ rest)) (seq _ name n a rest (name_is q (a ++ rest)) (via _ k refl)))

arguments_step : {o c : NumberedLexemes} {at1 at2 : ℕ} {args : List Expr} (a rest : NumberedLexemes) → Is (SignOf s.OpenParen) o at1 → list_of s.Comma s.CloseParen expr (a ++ (c ++ rest)) ≡ Ok (args, c ++ rest) → Is (SignOf s.CloseParen) c at2 → arguments expr ((o ++ (a ++ c)) ++ rest) ≡ Ok (args, rest)
unfolding arguments
arguments_step {o} {c} a rest p k q = seq _ (sign s.OpenParen) o (a ++ c) rest (sign_is p ((a ++ c) ++ rest)) (seq _ (list_of s.Comma s.CloseParen expr) a c rest k (via _ (sign_is q rest) refl))

-- ---- whole expressions

mutual
  pub expr_reads : {a : NumberedLexemes} {x : Expr} → SpellsExpr a x → (rest : NumberedLexemes) → Ends 1 rest → expr (a ++ rest) ≡ Ok (x, rest)
  expr_reads (SpellsExpr.either {a = a} {b = b} p q) rest h = either_step a b rest (both_reads p (b ++ rest) (eithers_end rest q h)) (eithers_reads q rest h)

  eithers_reads : {b : NumberedLexemes} {xs : List Expr} → SpellsEithers b xs → (rest : NumberedLexemes) → Ends 1 rest → each s.Or (both expr) (b ++ rest) ≡ Ok (xs, rest)
  eithers_reads SpellsEithers.no_or rest h = each_ends s.Or (both expr) both_opens rest (no_or_by (next rest) h)
  eithers_reads (SpellsEithers.or {a = a} {b = b} o p q) rest h = each_goes s.Or (both expr) both_opens a b rest o (both_reads p (b ++ rest) (eithers_end rest q h)) (eithers_reads q rest h)

  both_reads : {a : NumberedLexemes} {x : Expr} → SpellsBoth a x → (rest : NumberedLexemes) → Ends 2 rest → both expr (a ++ rest) ≡ Ok (x, rest)
  both_reads (SpellsBoth.both {a = a} {b = b} p q) rest h = both_step a b rest (comparison_reads p (b ++ rest) (boths_end rest q h)) (boths_reads q rest h)

  boths_reads : {b : NumberedLexemes} {xs : List Expr} → SpellsBoths b xs → (rest : NumberedLexemes) → Ends 2 rest → each s.And (comparison expr) (b ++ rest) ≡ Ok (xs, rest)
  boths_reads SpellsBoths.no_and rest h = each_ends s.And (comparison expr) comparison_opens rest (no_and_by (next rest) h)
  boths_reads (SpellsBoths.and {a = a} {b = b} o p q) rest h = each_goes s.And (comparison expr) comparison_opens a b rest o (comparison_reads p (b ++ rest) (boths_end rest q h)) (boths_reads q rest h)

  comparison_reads : {a : NumberedLexemes} {x : Expr} → SpellsComparison a x → (rest : NumberedLexemes) → Ends 3 rest → comparison expr (a ++ rest) ≡ Ok (x, rest)
  comparison_reads (SpellsComparison.uncompared {a = a} p) rest h = alone_step a rest (sum_reads p rest (ends_more 3 4 rest (omega arith) h)) (no_comparison_by (next rest) h)
  comparison_reads (SpellsComparison.compared {a = a} {b = b} {t = t} {o = o} p v g q) rest h = compared_step a b rest (sum_reads p _ (ends_by2 4 b rest v (comparison_tight t o g))) v g (sum_reads q rest (ends_more 3 4 rest (omega arith) h))

  sum_reads : {a : NumberedLexemes} {x : Expr} → SpellsSum a x → (rest : NumberedLexemes) → Ends 4 rest → sum expr (a ++ rest) ≡ Ok (x, rest)
  sum_reads (SpellsSum.sum {a = a} {b = b} p q) rest h = sum_step a b rest (product_reads p (b ++ rest) (sums_end rest q h)) (sums_reads q rest h)

  sums_reads : {b : NumberedLexemes} {xs : List (Op × Expr)} → SpellsSums b xs → (rest : NumberedLexemes) → Ends 4 rest → chain sum_op (product expr) (b ++ rest) ≡ Ok (xs, rest)
  sums_reads SpellsSums.no_term rest h = chain_ends sum_op (product expr) product_opens rest (no_sum_by (next rest) h)
  sums_reads (SpellsSums.term {a = a} {b = b} o g p q) rest h = chain_goes sum_op (product expr) product_opens a b rest o g (product_reads p (b ++ rest) (sums_end rest q h)) (sums_reads q rest h)

  product_reads : {a : NumberedLexemes} {x : Expr} → SpellsProduct a x → (rest : NumberedLexemes) → Ends 5 rest → product expr (a ++ rest) ≡ Ok (x, rest)
  product_reads (SpellsProduct.product {a = a} {b = b} p q) rest h = product_step a b rest (unary_reads p (b ++ rest) (products_end rest q h)) (products_reads q rest h)

  products_reads : {b : NumberedLexemes} {xs : List (Op × Expr)} → SpellsProducts b xs → (rest : NumberedLexemes) → Ends 5 rest → chain product_op (unary expr) (b ++ rest) ≡ Ok (xs, rest)
  products_reads SpellsProducts.no_factor rest h = chain_ends product_op (unary expr) unary_opens rest (no_product_by (next rest) h)
  products_reads (SpellsProducts.factor {a = a} {b = b} o g p q) rest h = chain_goes product_op (unary expr) unary_opens a b rest o g (unary_reads p (b ++ rest) (products_end rest q h)) (products_reads q rest h)

  unary_reads : {a : NumberedLexemes} {x : Expr} → SpellsUnary a x → (rest : NumberedLexemes) → Ends 6 rest → unary expr (a ++ rest) ≡ Ok (x, rest)
  unary_reads (SpellsUnary.plain {a = a} p) rest h = plain_step a rest p (atom_reads p rest h)
  unary_reads (SpellsUnary.negated {a = a} o p) rest h = negated_step a rest o (atom_reads p rest h)

  atom_reads : {a : NumberedLexemes} {x : Expr} → SpellsAtom a x → (rest : NumberedLexemes) → Ends 6 rest → atom expr (a ++ rest) ≡ Ok (x, rest)
  atom_reads (SpellsAtom.number p) rest h = number_step rest p
  atom_reads (SpellsAtom.yes p) rest h = yes_step rest p
  atom_reads (SpellsAtom.no p) rest h = no_step rest p
  atom_reads (SpellsAtom.target p) rest h = atom_target rest p ∙ target_reads p rest h
  atom_reads (SpellsAtom.invoke p) rest h = atom_invoke rest p (invoke_reads p rest)

  pub target_reads : {a : NumberedLexemes} {x : Expr} → SpellsTarget a x → (rest : NumberedLexemes) → Ends 6 rest → target expr (a ++ rest) ≡ Ok (x, rest)
  target_reads (SpellsTarget.here p) rest h = here_step rest p
  target_reads (SpellsTarget.name p) rest h = name_step rest p (no_index_by (next rest) h)
  target_reads (SpellsTarget.indexed {a = a} n o p q) rest h = indexed_step a rest n o (expr_reads p _ (ends_by {t = s.CloseBracket} 1 rest q (omega arith))) q
  target_reads (SpellsTarget.parenthesized {a = a} o p q) rest h = parenthesized_step a rest o (expr_reads p _ (ends_by {t = s.CloseParen} 1 rest q (omega arith))) q

  pub invoke_reads : {a : NumberedLexemes} {x : CallExpr} → SpellsInvoke a x → (rest : NumberedLexemes) → invoke expr (a ++ rest) ≡ Ok (x, rest)
  invoke_reads (SpellsInvoke.call {a = a} v p) rest = call_step a rest v (external_reads p rest)
  invoke_reads (SpellsInvoke.internal {a = a} v d n p) rest = internal_step a rest v d n (arguments_reads p rest)

  pub external_reads : {at : ℕ} {a : NumberedLexemes} {x : CallExpr} → SpellsExternal at a x → (rest : NumberedLexemes) → external expr at (a ++ rest) ≡ Ok (x, rest)
  external_reads {at} (SpellsExternal.external {t = tt1} {n = n} {a = a} t d m p) rest = external_step tt1 a at rest (target_reads t _ (ends_by2 {t = s.Dot} 6 (n ++ a) rest d (omega arith))) d m (arguments_reads p rest)

  arguments_reads : {a : NumberedLexemes} {x : List Expr} → SpellsArguments a x → (rest : NumberedLexemes) → arguments expr (a ++ rest) ≡ Ok (x, rest)
  arguments_reads (SpellsArguments.arguments {a = a} {c = c} o p q) rest = arguments_step a rest o (exprs_reads p (c ++ rest) (ends_by {t = s.CloseParen} 1 rest q (omega arith)) (next_is (λ k. is_sign s.CloseParen k ≡ true) rest q (is_sign_self s.CloseParen)) (next_is (λ k. is_sign s.Comma k ≡ false) rest q no_comma)) q

  exprs_reads : {a : NumberedLexemes} {xs : List Expr} → SpellsExprs a xs → (rest : NumberedLexemes) → Ends 1 rest → is_sign s.CloseParen (next rest) ≡ true → is_sign s.Comma (next rest) ≡ false → list_of s.Comma s.CloseParen expr (a ++ rest) ≡ Ok (xs, rest)
  exprs_reads SpellsExprs.no_expr rest h closing more = listed_none s.Comma s.CloseParen expr rest closing
  exprs_reads (SpellsExprs.exprs {a = a} {b = b} p q) rest h closing more = listed_some s.Comma s.CloseParen expr a b rest (not_closing (b ++ rest) p) (expr_reads p (b ++ rest) (further_end rest q h)) (further_reads q rest h more)

  further_reads : {b : NumberedLexemes} {xs : List Expr} → SpellsFurther b xs → (rest : NumberedLexemes) → Ends 1 rest → is_sign s.Comma (next rest) ≡ false → each s.Comma expr (b ++ rest) ≡ Ok (xs, rest)
  further_reads SpellsFurther.no_further rest h more = each_ends s.Comma expr expr_opens rest more
  further_reads (SpellsFurther.further {a = a} {b = b} o p q) rest h more = each_goes s.Comma expr expr_opens a b rest o (expr_reads p (b ++ rest) (further_end rest q h)) (further_reads q rest h more)
