-- What it means that lexemes spell a contract file: a case for each line of the grammar. The parts of a line stand one behind the other.
use Rattle.std.specs.Prelude.{◌≡◌, ℕ, ◌+◌, ◌<◌, ◌≤◌, length, take, true, false, List, [], ◌∷◌, ◌++◌, ◌⊎◌, Option, Some, None}
use Rattle.ecf_grammar.specs.declared.tokens.Word.TheVariants as word
use Rattle.ecf_grammar.specs.declared.tokens.Sign.{Sign}
use Rattle.ecf_grammar.specs.declared.tokens.Sign.TheVariants as sign
use Rattle.ecf_lang.specs.declared.tree.Ty.{Ty}
use Rattle.ecf_lang.specs.declared.tree.Ty.TheVariants as ty
use Rattle.ecf_lang.specs.declared.tree.Op.{Op}
use Rattle.ecf_lang.specs.declared.tree.Op.TheVariants as op
use Rattle.ecf_lang.specs.declared.tree.Const.{Const}
use Rattle.ecf_lang.specs.declared.tree.Const.TheVariants as const
use Rattle.ecf_lang.specs.declared.tree.Param.{Param}
use Rattle.ecf_lang.specs.declared.tree.Expr.{Expr}
use Rattle.ecf_lang.specs.declared.tree.Expr.TheVariants as expr
use Rattle.ecf_lang.specs.declared.tree.CallExpr.{CallExpr}
use Rattle.ecf_lang.specs.declared.tree.CallExpr.TheVariants as called
use Rattle.ecf_lang.specs.declared.tree.Stmt.{Stmt}
use Rattle.ecf_lang.specs.declared.tree.Stmt.TheVariants as stmt
use Rattle.ecf_lang.specs.declared.tree.Block.{Block, roll-Block}
use Rattle.ecf_lang.specs.declared.tree.Member.{Member}
use Rattle.ecf_lang.specs.declared.tree.Member.TheVariants as member
use Rattle.ecf_lang.specs.declared.tree.ObjectDecl.{ObjectDecl}
use Rattle.ecf_lang.specs.declared.tree.Tree.{Tree}
use Rattle.ecf_grammar.specs.Lexemes.{Lexeme, NumberedLexemes, with_numbers}
use Rattle.ecf_lang.specs.declared.limits.TheConstants.{MAX_NESTING}
use Rattle.ecf_grammar.specs.Nesting.{nesting, IsShallow}
use Rattle.ecf_grammar.specs.Lexemes.Lexeme.{NameOf, NumberOf, WordOf, SignOf}

-- this lexeme alone, the token of that number
pub data Is (l : Lexeme) : NumberedLexemes → ℕ → Type 0 where
  is : (at : ℕ) → Is l ((at, l) ∷ []) at

-- ---- operators

-- || and && join parts, of which one alone stays as it is
abbrev pub either_of : Expr → List Expr → Expr
either_of first [] = first
either_of first (second ∷ rest) = expr.Or (first ∷ second ∷ rest)

abbrev pub both_of : Expr → List Expr → Expr
both_of first [] = first
both_of first (second ∷ rest) = expr.And (first ∷ second ∷ rest)

-- further parts with their operators behind a first one, which alone stays as it is
abbrev pub sum_of : Expr → List (Op × Expr) → Expr
sum_of first [] = first
sum_of first (second ∷ rest) = expr.Sum first (second ∷ rest)

abbrev pub product_of : Expr → List (Op × Expr) → Expr
product_of first [] = first
product_of first (second ∷ rest) = expr.Product first (second ∷ rest)

-- the signs that compare
abbrev pub comparison_op : Sign → Option Op
comparison_op sign.Equal = Some op.Eq
comparison_op sign.NotEqual = Some op.Ne
comparison_op sign.Less = Some op.Lt
comparison_op sign.LessEqual = Some op.Le
comparison_op sign.Greater = Some op.Gt
comparison_op sign.GreaterEqual = Some op.Ge
comparison_op _ = None

-- the signs of sums
abbrev pub sum_op : Sign → Option Op
sum_op sign.Plus = Some op.Add
sum_op sign.Minus = Some op.Sub
sum_op _ = None

-- the signs of products
abbrev pub product_op : Sign → Option Op
product_op sign.Star = Some op.Mul
product_op sign.Slash = Some op.Div
product_op sign.Percent = Some op.Rem
product_op _ = None

-- ---- expressions

mutual
  -- expr = both ("||" both)*
  pub data SpellsExpr : NumberedLexemes → Expr → Type 0 where
    either : {a b : NumberedLexemes} {first : Expr} {rest : List Expr} → SpellsBoth a first → SpellsEithers b rest → SpellsExpr (a ++ b) (either_of first rest)

  pub data SpellsEithers : NumberedLexemes → List Expr → Type 0 where
    no_or : SpellsEithers [] []
    or : {s a b : NumberedLexemes} {at : ℕ} {part : Expr} {rest : List Expr} → Is (SignOf sign.Or) s at → SpellsBoth a part → SpellsEithers b rest → SpellsEithers (s ++ (a ++ b)) (part ∷ rest)

  -- both = cmp ("&&" cmp)*
  pub data SpellsBoth : NumberedLexemes → Expr → Type 0 where
    both : {a b : NumberedLexemes} {first : Expr} {rest : List Expr} → SpellsComparison a first → SpellsBoths b rest → SpellsBoth (a ++ b) (both_of first rest)

  pub data SpellsBoths : NumberedLexemes → List Expr → Type 0 where
    no_and : SpellsBoths [] []
    and : {s a b : NumberedLexemes} {at : ℕ} {part : Expr} {rest : List Expr} → Is (SignOf sign.And) s at → SpellsComparison a part → SpellsBoths b rest → SpellsBoths (s ++ (a ++ b)) (part ∷ rest)

  -- cmp = sum [("==" | "!=" | "<" | "<=" | ">" | ">=") sum]
  pub data SpellsComparison : NumberedLexemes → Expr → Type 0 where
    uncompared : {a : NumberedLexemes} {e : Expr} → SpellsSum a e → SpellsComparison a e
    compared : {a s b : NumberedLexemes} {left : Expr} {t : Sign} {at : ℕ} {o : Op} {right : Expr} → SpellsSum a left → Is (SignOf t) s at → comparison_op t ≡ Some o → SpellsSum b right → SpellsComparison (a ++ (s ++ b)) (expr.Compare left o right)

  -- sum = prod (("+" | "-") prod)*
  pub data SpellsSum : NumberedLexemes → Expr → Type 0 where
    sum : {a b : NumberedLexemes} {first : Expr} {rest : List (Op × Expr)} → SpellsProduct a first → SpellsSums b rest → SpellsSum (a ++ b) (sum_of first rest)

  pub data SpellsSums : NumberedLexemes → List (Op × Expr) → Type 0 where
    no_term : SpellsSums [] []
    term : {s a b : NumberedLexemes} {t : Sign} {at : ℕ} {o : Op} {part : Expr} {rest : List (Op × Expr)} → Is (SignOf t) s at → sum_op t ≡ Some o → SpellsProduct a part → SpellsSums b rest → SpellsSums (s ++ (a ++ b)) ((o, part) ∷ rest)

  -- prod = unary (("*" | "/" | "%") unary)*
  pub data SpellsProduct : NumberedLexemes → Expr → Type 0 where
    product : {a b : NumberedLexemes} {first : Expr} {rest : List (Op × Expr)} → SpellsUnary a first → SpellsProducts b rest → SpellsProduct (a ++ b) (product_of first rest)

  pub data SpellsProducts : NumberedLexemes → List (Op × Expr) → Type 0 where
    no_factor : SpellsProducts [] []
    factor : {s a b : NumberedLexemes} {t : Sign} {at : ℕ} {o : Op} {part : Expr} {rest : List (Op × Expr)} → Is (SignOf t) s at → product_op t ≡ Some o → SpellsUnary a part → SpellsProducts b rest → SpellsProducts (s ++ (a ++ b)) ((o, part) ∷ rest)

  -- unary = ["!"] atom
  pub data SpellsUnary : NumberedLexemes → Expr → Type 0 where
    plain : {a : NumberedLexemes} {e : Expr} → SpellsAtom a e → SpellsUnary a e
    negated : {s a : NumberedLexemes} {at : ℕ} {e : Expr} → Is (SignOf sign.Not) s at → SpellsAtom a e → SpellsUnary (s ++ a) (expr.Not at e)

  -- atom = NUMBER | "true" | "false" | target | invoke
  pub data SpellsAtom : NumberedLexemes → Expr → Type 0 where
    number : {a : NumberedLexemes} {at value : ℕ} → Is (NumberOf value) a at → SpellsAtom a (expr.Number at value)
    yes : {a : NumberedLexemes} {at : ℕ} → Is (WordOf word.True) a at → SpellsAtom a (expr.Flag at true)
    no : {a : NumberedLexemes} {at : ℕ} → Is (WordOf word.False) a at → SpellsAtom a (expr.Flag at false)
    target : {a : NumberedLexemes} {e : Expr} → SpellsTarget a e → SpellsAtom a e
    invoke : {a : NumberedLexemes} {c : CallExpr} → SpellsInvoke a c → SpellsAtom a (expr.Call c)

  -- target = "here" | NAME | NAME "[" expr "]" | "(" expr ")"
  pub data SpellsTarget : NumberedLexemes → Expr → Type 0 where
    here : {a : NumberedLexemes} {at : ℕ} → Is (WordOf word.Here) a at → SpellsTarget a (expr.Here at)
    name : {a : NumberedLexemes} {at : ℕ} {bytes : List ℕ} → Is (NameOf bytes) a at → SpellsTarget a (expr.Name at bytes)
    indexed : {n o a c : NumberedLexemes} {at at1 at2 : ℕ} {bytes : List ℕ} {key : Expr} → Is (NameOf bytes) n at → Is (SignOf sign.OpenBracket) o at1 → SpellsExpr a key → Is (SignOf sign.CloseBracket) c at2 → SpellsTarget (n ++ (o ++ (a ++ c))) (expr.At at bytes key)
    parenthesized : {o a c : NumberedLexemes} {at1 at2 : ℕ} {e : Expr} → Is (SignOf sign.OpenParen) o at1 → SpellsExpr a e → Is (SignOf sign.CloseParen) c at2 → SpellsTarget (o ++ (a ++ c)) e

  -- invoke = "call" external | "self" "." NAME arguments
  pub data SpellsInvoke : NumberedLexemes → CallExpr → Type 0 where
    call : {w a : NumberedLexemes} {at : ℕ} {c : CallExpr} → Is (WordOf word.Call) w at → SpellsExternal at a c → SpellsInvoke (w ++ a) c
    internal : {w d n a : NumberedLexemes} {at at1 name_at : ℕ} {bytes : List ℕ} {args : List Expr} → Is (WordOf word.SelfWord) w at → Is (SignOf sign.Dot) d at1 → Is (NameOf bytes) n name_at → SpellsArguments a args → SpellsInvoke (w ++ (d ++ (n ++ a))) (called.Internal at name_at bytes args)

  -- external = target "." NAME arguments, behind the word with that number
  pub data SpellsExternal : ℕ → NumberedLexemes → CallExpr → Type 0 where
    external : {t d n a : NumberedLexemes} {at at1 name_at : ℕ} {callee : Expr} {bytes : List ℕ} {args : List Expr} → SpellsTarget t callee → Is (SignOf sign.Dot) d at1 → Is (NameOf bytes) n name_at → SpellsArguments a args → SpellsExternal at (t ++ (d ++ (n ++ a))) (called.External at callee name_at bytes args)

  -- "(" [list(expr)] ")"
  pub data SpellsArguments : NumberedLexemes → List Expr → Type 0 where
    arguments : {o a c : NumberedLexemes} {at1 at2 : ℕ} {args : List Expr} → Is (SignOf sign.OpenParen) o at1 → SpellsExprs a args → Is (SignOf sign.CloseParen) c at2 → SpellsArguments (o ++ (a ++ c)) args

  -- [list(expr)]
  pub data SpellsExprs : NumberedLexemes → List Expr → Type 0 where
    no_expr : SpellsExprs [] []
    exprs : {a b : NumberedLexemes} {first : Expr} {rest : List Expr} → SpellsExpr a first → SpellsFurther b rest → SpellsExprs (a ++ b) (first ∷ rest)

  -- ("," expr)*
  pub data SpellsFurther : NumberedLexemes → List Expr → Type 0 where
    no_further : SpellsFurther [] []
    further : {s a b : NumberedLexemes} {at : ℕ} {part : Expr} {rest : List Expr} → Is (SignOf sign.Comma) s at → SpellsExpr a part → SpellsFurther b rest → SpellsFurther (s ++ (a ++ b)) (part ∷ rest)

-- ---- statements

-- type = "num" | "flag" | "addr"
pub data SpellsType : NumberedLexemes → Ty → Type 0 where
  num : {a : NumberedLexemes} {at : ℕ} → Is (WordOf word.Num) a at → SpellsType a ty.Num
  flag : {a : NumberedLexemes} {at : ℕ} → Is (WordOf word.Flag) a at → SpellsType a ty.Flag
  addr : {a : NumberedLexemes} {at : ℕ} → Is (WordOf word.Addr) a at → SpellsType a ty.Addr

mutual
  -- block = "{" stmt* "}"
  pub data SpellsBlock : NumberedLexemes → Block → Type 0 where
    block : {o a c : NumberedLexemes} {at1 at2 : ℕ} {stmts : List Stmt} → Is (SignOf sign.OpenBrace) o at1 → SpellsStmts a stmts → Is (SignOf sign.CloseBrace) c at2 → SpellsBlock (o ++ (a ++ c)) (roll-Block (record { stmts = stmts }))

  pub data SpellsStmts : NumberedLexemes → List Stmt → Type 0 where
    no_stmt : SpellsStmts [] []
    stmts : {a b : NumberedLexemes} {first : Stmt} {rest : List Stmt} → SpellsStmt a first → SpellsStmts b rest → SpellsStmts (a ++ b) (first ∷ rest)

  pub data SpellsStmt : NumberedLexemes → Stmt → Type 0 where
    -- "let" NAME ":" type "=" expr ";"
    let_ : {w n s t q e c : NumberedLexemes} {at at1 at2 at3 at4 : ℕ} {bytes : List ℕ} {kind : Ty} {value : Expr} → Is (WordOf word.Let) w at1 → Is (NameOf bytes) n at → Is (SignOf sign.Colon) s at2 → SpellsType t kind → Is (SignOf sign.Assign) q at3 → SpellsExpr e value → Is (SignOf sign.Semicolon) c at4 → SpellsStmt (w ++ (n ++ (s ++ (t ++ (q ++ (e ++ c)))))) (stmt.Let at bytes kind value)
    -- "let" NAME ":" type "=" "try" external ";"
    try_ : {w n s t q y a c : NumberedLexemes} {at at1 at2 at3 at4 at5 : ℕ} {bytes : List ℕ} {kind : Ty} {invoked : CallExpr} → Is (WordOf word.Let) w at1 → Is (NameOf bytes) n at → Is (SignOf sign.Colon) s at2 → SpellsType t kind → Is (SignOf sign.Assign) q at3 → Is (WordOf word.Try) y at4 → SpellsExternal at4 a invoked → Is (SignOf sign.Semicolon) c at5 → SpellsStmt (w ++ (n ++ (s ++ (t ++ (q ++ (y ++ (a ++ c))))))) (stmt.Try at bytes kind invoked)
    -- NAME "=" expr ";"
    set : {n q e c : NumberedLexemes} {at at1 at2 : ℕ} {bytes : List ℕ} {value : Expr} → Is (NameOf bytes) n at → Is (SignOf sign.Assign) q at1 → SpellsExpr e value → Is (SignOf sign.Semicolon) c at2 → SpellsStmt (n ++ (q ++ (e ++ c))) (stmt.Set at bytes value)
    -- NAME "[" expr "]" "=" expr ";"
    set_at : {n o k d q e c : NumberedLexemes} {at at1 at2 at3 at4 : ℕ} {bytes : List ℕ} {key value : Expr} → Is (NameOf bytes) n at → Is (SignOf sign.OpenBracket) o at1 → SpellsExpr k key → Is (SignOf sign.CloseBracket) d at2 → Is (SignOf sign.Assign) q at3 → SpellsExpr e value → Is (SignOf sign.Semicolon) c at4 → SpellsStmt (n ++ (o ++ (k ++ (d ++ (q ++ (e ++ c)))))) (stmt.SetAt at bytes key value)
    -- "if" arm ("else" "if" arm)* ["else" block]
    if_ : {w a r : NumberedLexemes} {at : ℕ} {first : Expr × Block} {arms : List (Expr × Block)} {last : Option Block} → Is (WordOf word.If) w at → SpellsArm a first → SpellsElse r arms last → SpellsStmt (w ++ (a ++ r)) (stmt.If (first ∷ arms) last)
    -- "while" arm
    while : {w a : NumberedLexemes} {at : ℕ} {cond : Expr} {body : Block} → Is (WordOf word.While) w at → SpellsArm a (cond, body) → SpellsStmt (w ++ a) (stmt.While cond body)
    -- "return" expr ";"
    return : {w e c : NumberedLexemes} {at at1 : ℕ} {value : Expr} → Is (WordOf word.Return) w at → SpellsExpr e value → Is (SignOf sign.Semicolon) c at1 → SpellsStmt (w ++ (e ++ c)) (stmt.Return value)
    -- "revert" expr ";"
    revert : {w e c : NumberedLexemes} {at at1 : ℕ} {value : Expr} → Is (WordOf word.Revert) w at → SpellsExpr e value → Is (SignOf sign.Semicolon) c at1 → SpellsStmt (w ++ (e ++ c)) (stmt.Revert value)
    -- invoke ";"
    do_ : {a c : NumberedLexemes} {at : ℕ} {invoked : CallExpr} → SpellsInvoke a invoked → Is (SignOf sign.Semicolon) c at → SpellsStmt (a ++ c) (stmt.Do invoked)

  -- arm = expr block
  pub data SpellsArm : NumberedLexemes → Expr × Block → Type 0 where
    arm : {e b : NumberedLexemes} {cond : Expr} {body : Block} → SpellsExpr e cond → SpellsBlock b body → SpellsArm (e ++ b) (cond, body)

  -- ("else" "if" arm)* ["else" block]
  pub data SpellsElse : NumberedLexemes → List (Expr × Block) → Option Block → Type 0 where
    no_else : SpellsElse [] [] None
    else_ : {w b : NumberedLexemes} {at : ℕ} {body : Block} → Is (WordOf word.Else) w at → SpellsBlock b body → SpellsElse (w ++ b) [] (Some body)
    else_if : {w i a r : NumberedLexemes} {at at1 : ℕ} {first : Expr × Block} {arms : List (Expr × Block)} {last : Option Block} → Is (WordOf word.Else) w at → Is (WordOf word.If) i at1 → SpellsArm a first → SpellsElse r arms last → SpellsElse (w ++ (i ++ (a ++ r))) (first ∷ arms) last

-- ---- members, objects, files

-- const = NUMBER | "true" | "false" | NAME
pub data SpellsConst : NumberedLexemes → Const → Type 0 where
  number : {a : NumberedLexemes} {at value : ℕ} → Is (NumberOf value) a at → SpellsConst a (const.Number at value)
  yes : {a : NumberedLexemes} {at : ℕ} → Is (WordOf word.True) a at → SpellsConst a (const.Flag at true)
  no : {a : NumberedLexemes} {at : ℕ} → Is (WordOf word.False) a at → SpellsConst a (const.Flag at false)
  name : {a : NumberedLexemes} {at : ℕ} {bytes : List ℕ} → Is (NameOf bytes) a at → SpellsConst a (const.Name at bytes)

-- entry = const ":" const
pub data SpellsEntry : NumberedLexemes → Const × Const → Type 0 where
  entry : {a s b : NumberedLexemes} {at : ℕ} {key value : Const} → SpellsConst a key → Is (SignOf sign.Colon) s at → SpellsConst b value → SpellsEntry (a ++ (s ++ b)) (key, value)

-- param = NAME ":" type
pub data SpellsParam : NumberedLexemes → Param → Type 0 where
  param : {n s t : NumberedLexemes} {at at1 : ℕ} {bytes : List ℕ} {kind : Ty} → Is (NameOf bytes) n at → Is (SignOf sign.Colon) s at1 → SpellsType t kind → SpellsParam (n ++ (s ++ t)) (record { at = at; name = bytes; ty = kind })

-- any number of these, one behind the other
pub data SpellsAll {A : Type 0} (Spells : NumberedLexemes → A → Type 0) : NumberedLexemes → List A → Type 0 where
  none : SpellsAll Spells [] []
  some : {a b : NumberedLexemes} {first : A} {rest : List A} → Spells a first → SpellsAll Spells b rest → SpellsAll Spells (a ++ b) (first ∷ rest)

-- any number of these, each behind a comma
pub data SpellsMore {A : Type 0} (Spells : NumberedLexemes → A → Type 0) : NumberedLexemes → List A → Type 0 where
  none : SpellsMore Spells [] []
  more : {s a b : NumberedLexemes} {at : ℕ} {part : A} {rest : List A} → Is (SignOf sign.Comma) s at → Spells a part → SpellsMore Spells b rest → SpellsMore Spells (s ++ (a ++ b)) (part ∷ rest)

-- none, or some with commas between
pub data SpellsList {A : Type 0} (Spells : NumberedLexemes → A → Type 0) : NumberedLexemes → List A → Type 0 where
  empty : SpellsList Spells [] []
  list : {a b : NumberedLexemes} {first : A} {rest : List A} → Spells a first → SpellsMore Spells b rest → SpellsList Spells (a ++ b) (first ∷ rest)

-- ["=" const]
pub data SpellsFirst : NumberedLexemes → Option Const → Type 0 where
  no_first : SpellsFirst [] None
  first : {s a : NumberedLexemes} {at : ℕ} {value : Const} → Is (SignOf sign.Assign) s at → SpellsConst a value → SpellsFirst (s ++ a) (Some value)

-- ["=" "{" [list(entry)] "}"]
pub data SpellsEntries : NumberedLexemes → List (Const × Const) → Type 0 where
  no_entries : SpellsEntries [] []
  entries : {s o a c : NumberedLexemes} {at at1 at2 : ℕ} {pairs : List (Const × Const)} → Is (SignOf sign.Assign) s at → Is (SignOf sign.OpenBrace) o at1 → SpellsList SpellsEntry a pairs → Is (SignOf sign.CloseBrace) c at2 → SpellsEntries (s ++ (o ++ (a ++ c))) pairs

pub data SpellsMember : NumberedLexemes → Member → Type 0 where
  -- type NAME ["=" const] ";"
  field : {t n f c : NumberedLexemes} {at at1 : ℕ} {bytes : List ℕ} {kind : Ty} {value : Option Const} → SpellsType t kind → Is (NameOf bytes) n at → SpellsFirst f value → Is (SignOf sign.Semicolon) c at1 → SpellsMember (t ++ (n ++ (f ++ c))) (member.Field at bytes kind value)
  -- "map" NAME ":" type "->" type ["=" "{" [list(entry)] "}"] ";"
  map : {w n s k r v e c : NumberedLexemes} {at at1 at2 at3 at4 : ℕ} {bytes : List ℕ} {key value : Ty} {pairs : List (Const × Const)} → Is (WordOf word.Map) w at1 → Is (NameOf bytes) n at → Is (SignOf sign.Colon) s at2 → SpellsType k key → Is (SignOf sign.Arrow) r at3 → SpellsType v value → SpellsEntries e pairs → Is (SignOf sign.Semicolon) c at4 → SpellsMember (w ++ (n ++ (s ++ (k ++ (r ++ (v ++ (e ++ c))))))) (member.Map at bytes key value pairs)
  -- "method" NAME "(" [list(param)] ")" ":" type block
  method : {w n o p c s t b : NumberedLexemes} {at at1 at2 at3 at4 : ℕ} {bytes : List ℕ} {params : List Param} {answer : Ty} {body : Block} → Is (WordOf word.Method) w at1 → Is (NameOf bytes) n at → Is (SignOf sign.OpenParen) o at2 → SpellsList SpellsParam p params → Is (SignOf sign.CloseParen) c at3 → Is (SignOf sign.Colon) s at4 → SpellsType t answer → SpellsBlock b body → SpellsMember (w ++ (n ++ (o ++ (p ++ (c ++ (s ++ (t ++ b))))))) (member.Method at bytes params answer body)

-- object = "object" NAME "{" member* "}"
pub data SpellsObject : NumberedLexemes → ObjectDecl → Type 0 where
  object : {w n o m c : NumberedLexemes} {at at1 at2 at3 : ℕ} {bytes : List ℕ} {members : List Member} → Is (WordOf word.Object) w at1 → Is (NameOf bytes) n at → Is (SignOf sign.OpenBrace) o at2 → SpellsAll SpellsMember m members → Is (SignOf sign.CloseBrace) c at3 → SpellsObject (w ++ (n ++ (o ++ (m ++ c)))) (record { at = at; name = bytes; members = members })

-- file = object object*
pub data SpellsFile : NumberedLexemes → Tree → Type 0 where
  file : {a b : NumberedLexemes} {first : ObjectDecl} {rest : List ObjectDecl} → SpellsObject a first → SpellsAll SpellsObject b rest → SpellsFile (a ++ b) (record { objects = first ∷ rest })

-- the tokens, numbered from 0, spell the tree
abbrev pub Spells : List Lexeme → Tree → Type 0
Spells lexemes tree = SpellsFile (with_numbers 0 lexemes) tree

-- some lexemes complete these to a file
abbrev pub BeginsFile : List Lexeme → Type 0
BeginsFile front = (more : List Lexeme) × (tree : Tree) × Spells (front ++ more) tree

-- no file begins with the lexemes up to that token and with it; where the token is the end, the lexemes are no file
pub record EndsFiles (lexemes : List Lexeme) (token : ℕ) : Type 0 where
  pub within : token ≤ length lexemes
  pub none : token < length lexemes → ¬ BeginsFile (take (token + 1) lexemes)
  pub over : token ≡ length lexemes → (tree : Tree) → ¬ Spells lexemes tree

-- the first token out of place: those before it begin some file, with it none does, and none of these is nested too deep
pub record IsOutOfPlace (lexemes : List Lexeme) (token : ℕ) : Type 0 where
  pub before : BeginsFile (take token lexemes)
  pub with_it : EndsFiles lexemes token
  pub shallow : IsShallow lexemes (token + 1)

-- the first token that is nested too deep, with none out of place before it
pub record IsTooDeep (lexemes : List Lexeme) (token : ℕ) : Type 0 where
  pub within : token < length lexemes
  pub before : BeginsFile (take token lexemes)
  pub deep : nesting lexemes token ≡ MAX_NESTING + 1
  pub shallow : IsShallow lexemes token

-- the tokens spell the tree, and none is nested too deep
pub record IsFileOf (lexemes : List Lexeme) (tree : Tree) : Type 0 where
  pub spelled : Spells lexemes tree
  pub shallow : IsShallow lexemes (length lexemes)

-- the same lexemes spell one tree at most
abbrev pub OneTree : Type 0
OneTree = (lexemes : List Lexeme) (tree other : Tree) → Spells lexemes tree → Spells lexemes other → tree ≡ other

-- lexemes are the file of a tree, or have a first token out of place, or a first one that is nested too deep
abbrev pub SomeAnswer : Type 0
SomeAnswer = (lexemes : List Lexeme) → ((tree : Tree) × IsFileOf lexemes tree) ⊎ (((token : ℕ) × IsOutOfPlace lexemes token) ⊎ ((token : ℕ) × IsTooDeep lexemes token))

-- and no two of these, nor two such tokens
pub record OneAnswer : Type 0 where
  pub file_or_place : (lexemes : List Lexeme) (tree : Tree) (token : ℕ) → IsFileOf lexemes tree → ¬ IsOutOfPlace lexemes token
  pub file_or_deep : (lexemes : List Lexeme) (tree : Tree) (token : ℕ) → IsFileOf lexemes tree → ¬ IsTooDeep lexemes token
  pub place_or_deep : (lexemes : List Lexeme) (token other : ℕ) → IsOutOfPlace lexemes token → ¬ IsTooDeep lexemes other
  pub one_place : (lexemes : List Lexeme) (token other : ℕ) → IsOutOfPlace lexemes token → IsOutOfPlace lexemes other → token ≡ other
  pub one_deep : (lexemes : List Lexeme) (token other : ℕ) → IsTooDeep lexemes token → IsTooDeep lexemes other → token ≡ other
