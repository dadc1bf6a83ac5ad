-- An expression that holds together tightly stands where the grammar asks for one that holds together less, and in parentheses everywhere.
use Rattle.std.proofs.Common.{◌≡◌, ℕ, zero, suc, ◌+◌, ◌-◌, ◌≤◌, Bool, [], ◌∷◌, refl, sym, subst, arith, append-nil, inl, inr}
use Rattle.std.specs.Bool.{if◌then◌else◌}
use Rattle.std.proofs.lemmas.Bool.{cases_lt, lt-ltb, le-ltb}
use Rattle.ecf_grammar.specs.declared.tokens.Sign.TheVariants as sign
use Rattle.ecf_lang.specs.declared.tree.Expr.{Expr}
use Rattle.ecf_grammar.specs.Lexemes.{NumberedLexemes}
use Rattle.ecf_grammar.specs.Lexemes.Lexeme.{SignOf}
use Rattle.ecf_grammar.specs.Spells.{SpellsExpr, SpellsEithers, SpellsBoth, SpellsBoths, SpellsComparison, SpellsSum, SpellsSums, SpellsProduct, SpellsProducts, SpellsUnary, SpellsAtom, SpellsTarget}
use Rattle.ecf_grammar.specs.Spells.Is.{is}
use Rattle.ecf_show.specs.Marks.{Marks, sign_mark, in_parentheses}
use Rattle.ecf_show.specs.Expressions.{Shown, part}
use Rattle.ecf_shown.specs.Places.{expr_without}
use Rattle.ecf_shown.proofs.SayLaws.{numbered, number_behind, numbered_append, stands_where_follows, follows_enclosed, Says}

-- The lines of the grammar for expressions by their height: a target has none, a whole expression stands highest.
abbrev pub SpellsAt : ℕ → NumberedLexemes → Expr → Type 0
SpellsAt zero ls e = SpellsTarget ls e
SpellsAt (suc zero) ls e = SpellsAtom ls e
SpellsAt (suc (suc zero)) ls e = SpellsUnary ls e
SpellsAt (suc (suc (suc zero))) ls e = SpellsProduct ls e
SpellsAt (suc (suc (suc (suc zero)))) ls e = SpellsSum ls e
SpellsAt (suc (suc (suc (suc (suc zero))))) ls e = SpellsComparison ls e
SpellsAt (suc (suc (suc (suc (suc (suc zero)))))) ls e = SpellsBoth ls e
SpellsAt (suc (suc (suc (suc (suc (suc (suc more))))))) ls e = SpellsExpr ls e

-- what one line spells, the next higher one spells
climb : (height : ℕ) (ls : NumberedLexemes) (e : Expr) → SpellsAt height ls e → SpellsAt (suc height) ls e
climb zero ls e p = SpellsAtom.target p
climb (suc zero) ls e p = SpellsUnary.plain p
climb (suc (suc zero)) ls e p = subst (λ l. SpellsProduct l e) (append-nil ls) (SpellsProduct.product {rest = []} p SpellsProducts.no_factor)
climb (suc (suc (suc zero))) ls e p = subst (λ l. SpellsSum l e) (append-nil ls) (SpellsSum.sum {rest = []} p SpellsSums.no_term)
climb (suc (suc (suc (suc zero)))) ls e p = SpellsComparison.uncompared p
climb (suc (suc (suc (suc (suc zero))))) ls e p = subst (λ l. SpellsBoth l e) (append-nil ls) (SpellsBoth.both {rest = []} p SpellsBoths.no_and)
climb (suc (suc (suc (suc (suc (suc zero)))))) ls e p = subst (λ l. SpellsExpr l e) (append-nil ls) (SpellsExpr.either {rest = []} p SpellsEithers.no_or)
climb (suc (suc (suc (suc (suc (suc (suc more))))))) ls e p = p

climb_by : (steps height : ℕ) (ls : NumberedLexemes) (e : Expr) → SpellsAt height ls e → SpellsAt (steps + height) ls e
climb_by zero height ls e p = let same : height ≡ 0 + height = omega arith in subst (λ n. SpellsAt n ls e) same p
climb_by (suc steps) height ls e p =
    let same : suc (steps + height) ≡ suc steps + height = omega arith in
    subst (λ n. SpellsAt n ls e) same (climb (steps + height) ls e (climb_by steps height ls e p))

pub climb_to : (low high : ℕ) → low ≤ high → (ls : NumberedLexemes) (e : Expr) → SpellsAt low ls e → SpellsAt high ls e
climb_to low high le ls e p = let same : (high - low) + low ≡ high = omega arith in subst (λ n. SpellsAt n ls e) same (climb_by (high - low) low ls e p)

-- ---- expressions that are read back

-- an expression is read back from what is shown of it, at the line of the grammar that its level names
pub record ReadsAs (e : Expr) (shown : Shown) : Type 0 where
  pub height : ℕ
  pub level : shown.level + height ≡ 8
  pub says : Says (SpellsAt height) expr_without e shown.marks

says_higher : (low high : ℕ) → low ≤ high → (e : Expr) (marks : Marks) → Says (SpellsAt low) expr_without e marks → Says (SpellsAt high) expr_without e marks
says_higher low high le e marks says = record {
  stands = says.stands;
  tokens = λ at. let it = says.tokens at in record { again = it.again; spelled = climb_to low high le (numbered at marks) it.again it.spelled; alike = it.alike };
}

-- an expression in parentheses is a target
pub enclosed_says : (e : Expr) (marks : Marks) → Says SpellsExpr expr_without e marks → Says SpellsTarget expr_without e (in_parentheses marks)
enclosed_says e marks says = record {
  stands = stands_where_follows (follows_enclosed sign.OpenParen sign.CloseParen refl refl says.stands);
  tokens = λ at. let it = says.tokens (at + 1) in record {
    again = it.again;
    spelled = subst (λ ls. SpellsTarget ((at, SignOf sign.OpenParen) ∷ ls) it.again) (sym (numbered_append (at + 1) marks (sign_mark sign.CloseParen ∷ [])))
        (SpellsTarget.parenthesized (is at) it.spelled (is (number_behind (at + 1) marks)));
    alike = it.alike;
  };
}

-- a whole expression
pub whole_says : (e : Expr) (shown : Shown) → ReadsAs e shown → Says SpellsExpr expr_without e shown.marks
whole_says e shown reads = says_higher reads.height (suc (suc (suc (suc (suc (suc (suc reads.height))))))) (omega arith) e shown.marks reads.says

-- a part, where this level is required
pub part_says : (required height : ℕ) → required + height ≡ 8 → (e : Expr) (shown : Shown) → ReadsAs e shown → Says (SpellsAt height) expr_without e (part required shown)
part_says required height fits e shown reads =
    elim (cases_lt shown.level required) [
      | inl low ↦
          subst (λ (b : Bool). Says (SpellsAt height) expr_without e (if b then in_parentheses shown.marks else shown.marks)) (sym (lt-ltb shown.level required low))
          (says_higher 0 height (omega arith) e (in_parentheses shown.marks) (enclosed_says e shown.marks (whole_says e shown reads)))
      | inr high ↦
          subst (λ (b : Bool). Says (SpellsAt height) expr_without e (if b then in_parentheses shown.marks else shown.marks)) (sym (le-ltb shown.level required high))
          (says_higher reads.height height (omega (arith, reads.level)) e shown.marks reads.says)
    ]
