-- The reading of a file from its first lexeme on: a function for each line of the grammar.
use Rattle.std.specs.Prelude.{ℕ, Bool, true, false, List, [], ◌∷◌, Option, Some, None}
use Rattle.ecf_grammar.specs.declared.tokens.Kind.{Kind}
use Rattle.ecf_grammar.specs.declared.tokens.Kind.TheVariants as kind
use Rattle.ecf_grammar.specs.declared.tokens.Word.TheVariants as w
use Rattle.ecf_grammar.specs.declared.tokens.Sign.TheVariants as s
use Rattle.ecf_lang.specs.declared.tree.Ty.{Ty}
use Rattle.ecf_lang.specs.declared.tree.Ty.TheVariants as ty
use Rattle.ecf_lang.specs.declared.tree.Op.{Op}
use Rattle.ecf_lang.specs.declared.tree.Const.{Const}
use Rattle.ecf_lang.specs.declared.tree.Const.TheVariants as const
use Rattle.ecf_lang.specs.declared.tree.Param.{Param}
use Rattle.ecf_lang.specs.declared.tree.Expr.{Expr}
use Rattle.ecf_lang.specs.declared.tree.Expr.TheVariants as e
use Rattle.ecf_lang.specs.declared.tree.CallExpr.{CallExpr}
use Rattle.ecf_lang.specs.declared.tree.CallExpr.TheVariants as c
use Rattle.ecf_lang.specs.declared.tree.Stmt.{Stmt}
use Rattle.ecf_lang.specs.declared.tree.Stmt.TheVariants as st
use Rattle.ecf_lang.specs.declared.tree.Block.{Block, roll-Block}
use Rattle.ecf_lang.specs.declared.tree.Member.{Member}
use Rattle.ecf_lang.specs.declared.tree.Member.TheVariants as m
use Rattle.ecf_lang.specs.declared.tree.ObjectDecl.{ObjectDecl}
use Rattle.ecf_lang.specs.declared.tree.Tree.{Tree}
use Rattle.ecf_grammar.specs.Spells.{either_of, both_of, sum_of, product_of, comparison_op, sum_op, product_op}
use Rattle.ecf_parser.specs.Parsers.{Parser, ◌>>=◌, pure, refuse, choose, when, is_sign, is_word, sign, word, name, number, eat_sign, eat_word, operator, fix, each, chain, until, list_of}

-- ---- expressions, over the reader of those in brackets

module _ (expr : Parser Expr) where
  unfoldable pub arguments : Parser (List Expr)
  arguments = sign s.OpenParen >>= (λ _. list_of s.Comma s.CloseParen expr >>= (λ args. sign s.CloseParen >>= (λ _. pure args)))

  -- behind a name
  abbrev pub index_by : ℕ × List ℕ → Bool → Parser Expr
  index_by n true = expr >>= (λ key. sign s.CloseBracket >>= (λ _. pure (e.At n.0 n.1 key)))
  index_by n false = pure (e.Name n.0 n.1)

  abbrev pub target_by : Option Kind → Parser Expr
  target_by (Some (kind.Word w.Here)) = word w.Here >>= (λ at. pure (e.Here at))
  target_by (Some kind.Name) = name >>= (λ n. eat_sign s.OpenBracket >>= index_by n)
  target_by (Some (kind.Sign s.OpenParen)) = sign s.OpenParen >>= (λ _. expr >>= (λ inner. sign s.CloseParen >>= (λ _. pure inner)))
  target_by _ = refuse

  unfoldable pub target : Parser Expr
  target = choose target_by

  -- behind `call` and behind `try`
  unfoldable pub external : ℕ → Parser CallExpr
  external at = target >>= (λ called. sign s.Dot >>= (λ _. name >>= (λ n. arguments >>= (λ args. pure (c.External at called n.0 n.1 args)))))

  -- behind `self`
  unfoldable pub internal : ℕ → Parser CallExpr
  internal at = sign s.Dot >>= (λ _. name >>= (λ n. arguments >>= (λ args. pure (c.Internal at n.0 n.1 args))))

  abbrev pub invoke_by : Option Kind → Parser CallExpr
  invoke_by (Some (kind.Word w.Call)) = word w.Call >>= external
  invoke_by (Some (kind.Word w.SelfWord)) = word w.SelfWord >>= internal
  invoke_by _ = refuse

  unfoldable pub invoke : Parser CallExpr
  invoke = choose invoke_by

  abbrev pub atom_by : Option Kind → Parser Expr
  atom_by (Some (kind.Number _)) = number >>= (λ n. pure (e.Number n.0 n.1))
  atom_by (Some (kind.Word w.True)) = word w.True >>= (λ at. pure (e.Flag at true))
  atom_by (Some (kind.Word w.False)) = word w.False >>= (λ at. pure (e.Flag at false))
  atom_by (Some (kind.Word w.Call)) = invoke >>= (λ called. pure (e.Call called))
  atom_by (Some (kind.Word w.SelfWord)) = invoke >>= (λ called. pure (e.Call called))
  atom_by _ = target

  unfoldable pub atom : Parser Expr
  atom = choose atom_by

  unfoldable pub unary : Parser Expr
  unary = when (is_sign s.Not) (sign s.Not >>= (λ at. atom >>= (λ inner. pure (e.Not at inner)))) atom

  unfoldable pub product : Parser Expr
  product = unary >>= (λ first. chain product_op unary >>= (λ rest. pure (product_of first rest)))

  unfoldable pub sum : Parser Expr
  sum = product >>= (λ first. chain sum_op product >>= (λ rest. pure (sum_of first rest)))

  abbrev pub comparison_by : Expr → Option Op → Parser Expr
  comparison_by left None = pure left
  comparison_by left (Some o) = sum >>= (λ right. pure (e.Compare left o right))

  unfoldable pub comparison : Parser Expr
  comparison = sum >>= (λ left. operator comparison_op >>= comparison_by left)

  unfoldable pub both : Parser Expr
  both = comparison >>= (λ first. each s.And comparison >>= (λ rest. pure (both_of first rest)))

  unfoldable pub either : Parser Expr
  either = both >>= (λ first. each s.Or both >>= (λ rest. pure (either_of first rest)))

unfoldable pub expr : Parser Expr
expr = fix either

-- ---- statements, over the reader of blocks

abbrev pub type_by : Option Kind → Parser Ty
type_by (Some (kind.Word w.Num)) = word w.Num >>= (λ _. pure ty.Num)
type_by (Some (kind.Word w.Flag)) = word w.Flag >>= (λ _. pure ty.Flag)
type_by (Some (kind.Word w.Addr)) = word w.Addr >>= (λ _. pure ty.Addr)
type_by _ = refuse

unfoldable pub type_ : Parser Ty
type_ = choose type_by

unfoldable pub value : Parser Expr
value = sign s.Assign >>= (λ _. expr >>= (λ x. sign s.Semicolon >>= (λ _. pure x)))

-- behind the `=` of a `let`
unfoldable pub let_value : ℕ × List ℕ → Ty → Parser Stmt
let_value n kind = when (is_word w.Try)
    (word w.Try >>= (λ at. external expr at >>= (λ called. sign s.Semicolon >>= (λ _. pure (st.Try n.0 n.1 kind called)))))
    (expr >>= (λ x. sign s.Semicolon >>= (λ _. pure (st.Let n.0 n.1 kind x))))

unfoldable pub let_ : Parser Stmt
let_ = word w.Let >>= (λ _. name >>= (λ n. sign s.Colon >>= (λ _. type_ >>= (λ kind. sign s.Assign >>= (λ _. let_value n kind)))))

abbrev pub set_by : ℕ × List ℕ → Bool → Parser Stmt
set_by n true = expr >>= (λ key. sign s.CloseBracket >>= (λ _. value >>= (λ x. pure (st.SetAt n.0 n.1 key x))))
set_by n false = value >>= (λ x. pure (st.Set n.0 n.1 x))

unfoldable pub set : Parser Stmt
set = name >>= (λ n. eat_sign s.OpenBracket >>= set_by n)

-- an expression and the `;` behind it
unfoldable pub expr_semicolon : Parser Expr
expr_semicolon = expr >>= (λ x. sign s.Semicolon >>= (λ _. pure x))

module _ (block : Parser Block) where
  unfoldable pub arm : Parser (Expr × Block)
  arm = expr >>= (λ cond. block >>= (λ body. pure (cond, body)))

  -- behind `else`
  abbrev pub else_by : Parser (List (Expr × Block) × Option Block) → Bool → Parser (List (Expr × Block) × Option Block)
  else_by more true = arm >>= (λ a. more >>= (λ r. pure (a ∷ r.0, r.1)))
  else_by more false = block >>= (λ body. pure ([], Some body))

  abbrev pub else_turn_by : Parser (List (Expr × Block) × Option Block) → Bool → Parser (List (Expr × Block) × Option Block)
  else_turn_by more true = eat_word w.If >>= else_by more
  else_turn_by more false = pure ([], None)

  abbrev pub else_turn : Parser (List (Expr × Block) × Option Block) → Parser (List (Expr × Block) × Option Block)
  else_turn more = eat_word w.Else >>= else_turn_by more

  unfoldable pub elses : Parser (List (Expr × Block) × Option Block)
  elses = fix else_turn

  unfoldable pub if_ : Parser Stmt
  if_ = word w.If >>= (λ _. arm >>= (λ first. elses >>= (λ rest. pure (st.If (first ∷ rest.0) rest.1))))

  unfoldable pub while : Parser Stmt
  while = word w.While >>= (λ _. arm >>= (λ a. pure (st.While a.0 a.1)))

  abbrev pub stmt_by : Option Kind → Parser Stmt
  stmt_by (Some (kind.Word w.Let)) = let_
  stmt_by (Some kind.Name) = set
  stmt_by (Some (kind.Word w.If)) = if_
  stmt_by (Some (kind.Word w.While)) = while
  stmt_by (Some (kind.Word w.Return)) = word w.Return >>= (λ _. expr_semicolon >>= (λ x. pure (st.Return x)))
  stmt_by (Some (kind.Word w.Revert)) = word w.Revert >>= (λ _. expr_semicolon >>= (λ x. pure (st.Revert x)))
  stmt_by _ = invoke expr >>= (λ called. sign s.Semicolon >>= (λ _. pure (st.Do called)))

  unfoldable pub stmt : Parser Stmt
  stmt = choose stmt_by

  unfoldable pub one_block : Parser Block
  one_block = sign s.OpenBrace >>= (λ _. until (is_sign s.CloseBrace) stmt >>= (λ stmts. sign s.CloseBrace >>= (λ _. pure (roll-Block (record { stmts = stmts })))))

unfoldable pub block : Parser Block
block = fix one_block

-- ---- members, objects, files

abbrev pub const_by : Option Kind → Parser Const
const_by (Some (kind.Number _)) = number >>= (λ n. pure (const.Number n.0 n.1))
const_by (Some (kind.Word w.True)) = word w.True >>= (λ at. pure (const.Flag at true))
const_by (Some (kind.Word w.False)) = word w.False >>= (λ at. pure (const.Flag at false))
const_by _ = name >>= (λ n. pure (const.Name n.0 n.1))

unfoldable pub constant : Parser Const
constant = choose const_by

unfoldable pub entry : Parser (Const × Const)
entry = constant >>= (λ key. sign s.Colon >>= (λ _. constant >>= (λ v. pure (key, v))))

unfoldable pub param : Parser Param
param = name >>= (λ n. sign s.Colon >>= (λ _. type_ >>= (λ kind. pure (record { at = n.0; name = n.1; ty = kind }))))

abbrev pub first_by : Bool → Parser (Option Const)
first_by true = constant >>= (λ v. pure (Some v))
first_by false = pure None

unfoldable pub first : Parser (Option Const)
first = eat_sign s.Assign >>= first_by

abbrev pub entries_by : Bool → Parser (List (Const × Const))
entries_by true = sign s.OpenBrace >>= (λ _. list_of s.Comma s.CloseBrace entry >>= (λ pairs. sign s.CloseBrace >>= (λ _. pure pairs)))
entries_by false = pure []

unfoldable pub entries : Parser (List (Const × Const))
entries = eat_sign s.Assign >>= entries_by

unfoldable pub field : Parser Member
field = type_ >>= (λ kind. name >>= (λ n. first >>= (λ v. sign s.Semicolon >>= (λ _. pure (m.Field n.0 n.1 kind v)))))

unfoldable pub map : Parser Member
map = word w.Map >>= (λ _. name >>= (λ n. sign s.Colon >>= (λ _. type_ >>= (λ key. sign s.Arrow >>= (λ _. type_ >>= (λ v. entries >>= (λ pairs. sign s.Semicolon >>= (λ _. pure (m.Map n.0 n.1 key v pairs)))))))))

unfoldable pub method : Parser Member
method = word w.Method >>= (λ _. name >>= (λ n. sign s.OpenParen >>= (λ _. list_of s.Comma s.CloseParen param >>= (λ params. sign s.CloseParen >>= (λ _. sign s.Colon >>= (λ _. type_ >>= (λ answer. block >>= (λ body. pure (m.Method n.0 n.1 params answer body)))))))))

abbrev pub member_by : Option Kind → Parser Member
member_by (Some (kind.Word w.Map)) = map
member_by (Some (kind.Word w.Method)) = method
member_by _ = field

unfoldable pub member : Parser Member
member = choose member_by

unfoldable pub object : Parser ObjectDecl
object = word w.Object >>= (λ _. name >>= (λ n. sign s.OpenBrace >>= (λ _. until (is_sign s.CloseBrace) member >>= (λ members. sign s.CloseBrace >>= (λ _. pure (record { at = n.0; name = n.1; members = members }))))))

abbrev pub at_end : Option Kind → Bool
at_end None = true
at_end (Some k) = false

unfoldable pub file : Parser Tree
file = object >>= (λ first. until at_end object >>= (λ rest. pure (record { objects = first ∷ rest })))
