-- How expressions and calls are written, and where parentheses stand.
use Rattle.std.specs.Prelude.{ℕ, nat_lt, Bool, true, false, if◌then◌else◌, List, [], ◌∷◌, ◌++◌, map}
use Rattle.std.specs.List.{flat_map}
use Rattle.ecf_grammar.specs.declared.tokens.Word.TheVariants as word
use Rattle.ecf_grammar.specs.declared.tokens.Sign.{Sign}
use Rattle.ecf_grammar.specs.declared.tokens.Sign.TheVariants as sign
use Rattle.ecf_lang.specs.declared.tree.Op.{Op}
use Rattle.ecf_lang.specs.declared.tree.Op.TheVariants as op
use Rattle.ecf_lang.specs.declared.tree.Expr.{Expr, Expr-F, fold-Expr}
use Rattle.ecf_lang.specs.declared.tree.CallExpr.{CallExpr, CallExpr-F, fold-CallExpr}
use Rattle.ecf_show.specs.declared.levels.TheConstants.{OR, AND, COMPARE, SUM, PRODUCT, NOT, ATOM, TARGET}
use Rattle.ecf_show.specs.Marks.{Mark, Marks, name_mark, number_mark, word_mark, sign_mark, spaced, comma, joined, in_parentheses, in_brackets}
use Rattle.ecf_show.specs.Marks.Mark.{Space}

-- an expression as it is written, and how tightly it holds together
pub record Shown : Type 0 where
  pub level : ℕ
  pub marks : Marks

-- a call as it is written, and what of it stands behind `try`
pub record ShownCall : Type 0 where
  pub marks : Marks
  pub tried : Marks

-- a part, in parentheses exactly where its level is lower than the one required
abbrev pub part : ℕ → Shown → Marks
part required e = if nat_lt e.level required then in_parentheses e.marks else e.marks

-- the sign of an operator
abbrev pub op_sign : Op → Sign
op_sign op.Add = sign.Plus
op_sign op.Sub = sign.Minus
op_sign op.Mul = sign.Star
op_sign op.Div = sign.Slash
op_sign op.Rem = sign.Percent
op_sign op.Eq = sign.Equal
op_sign op.Ne = sign.NotEqual
op_sign op.Lt = sign.Less
op_sign op.Le = sign.LessEqual
op_sign op.Gt = sign.Greater
op_sign op.Ge = sign.GreaterEqual

abbrev pub flag_mark : Bool → Mark
flag_mark true = word_mark word.True
flag_mark false = word_mark word.False

-- a further part of a sum or product, behind its operator
abbrev pub further_part : ℕ → Op × Shown → Marks
further_part required p = spaced (op_sign p.0) ++ part required p.1

-- parts of a sum or product
abbrev pub chain_marks : ℕ → Shown → List (Op × Shown) → Marks
chain_marks required first rest = part required first ++ flat_map (further_part required) rest

-- a method's name and arguments
abbrev pub invoked : List ℕ → List Shown → Marks
invoked method args = name_mark method ∷ in_parentheses (joined comma (map (λ arg. arg.marks) args))

-- a disjunction holds together least, and a name, `m[k]` and `here` most: they alone are targets without parentheses
abbrev pub level_of : Expr-F ShownCall Shown → ℕ
level_of (Expr-F.Or parts) = OR
level_of (Expr-F.And parts) = AND
level_of (Expr-F.Compare left o right) = COMPARE
level_of (Expr-F.Sum first rest) = SUM
level_of (Expr-F.Product first rest) = PRODUCT
level_of (Expr-F.Not at inner) = NOT
level_of (Expr-F.Number at value) = ATOM
level_of (Expr-F.Flag at value) = ATOM
level_of (Expr-F.Call call) = ATOM
level_of (Expr-F.Here at) = TARGET
level_of (Expr-F.Name at bytes) = TARGET
level_of (Expr-F.At at bytes key) = TARGET

-- each part has to hold together more tightly than the form around it; what is negated has to be a single part, and a target a name
abbrev pub marks_of : Expr-F ShownCall Shown → Marks
marks_of (Expr-F.Or parts) = joined (spaced sign.Or) (map (part AND) parts)
marks_of (Expr-F.And parts) = joined (spaced sign.And) (map (part COMPARE) parts)
marks_of (Expr-F.Compare left o right) = part SUM left ++ spaced (op_sign o) ++ part SUM right
marks_of (Expr-F.Sum first rest) = chain_marks PRODUCT first rest
marks_of (Expr-F.Product first rest) = chain_marks NOT first rest
marks_of (Expr-F.Not at inner) = sign_mark sign.Not ∷ part ATOM inner
marks_of (Expr-F.Number at value) = number_mark value ∷ []
marks_of (Expr-F.Flag at value) = flag_mark value ∷ []
marks_of (Expr-F.Call call) = call.marks
marks_of (Expr-F.Here at) = word_mark word.Here ∷ []
marks_of (Expr-F.Name at bytes) = name_mark bytes ∷ []
marks_of (Expr-F.At at bytes key) = name_mark bytes ∷ in_brackets key.marks

abbrev pub expr_step : Expr-F ShownCall Shown → Shown
expr_step e = record { level = level_of e; marks = marks_of e }

-- a target and what is called there
abbrev pub external_marks : Shown → List ℕ → List Shown → Marks
external_marks target method args = part TARGET target ++ sign_mark sign.Dot ∷ invoked method args

-- a method of the same object
abbrev pub internal_marks : List ℕ → List Shown → Marks
internal_marks method args = word_mark word.SelfWord ∷ sign_mark sign.Dot ∷ invoked method args

abbrev pub call_step : CallExpr-F ShownCall Shown → ShownCall
call_step (CallExpr-F.External at target name_at method args) = record {
  marks = word_mark word.Call ∷ Space ∷ external_marks target method args;
  tried = external_marks target method args;
}
call_step (CallExpr-F.Internal at name_at method args) = record {
  marks = internal_marks method args;
  tried = internal_marks method args;
}

unfoldable pub shown : Expr → Shown
shown = fold-Expr ShownCall Shown call_step expr_step

unfoldable pub shown_call : CallExpr → ShownCall
shown_call = fold-CallExpr ShownCall Shown call_step expr_step

-- an expression, with no parentheses around it
abbrev pub expr_marks : Expr → Marks
expr_marks e = (shown e).marks

-- a call
abbrev pub call_marks : CallExpr → Marks
call_marks c = (shown_call c).marks
