-- How statements and blocks are written, behind so many open blocks.
use Rattle.std.specs.Prelude.{ℕ, ◌+◌, List, [], ◌∷◌, ◌++◌, map, Option, Some, None}
use Rattle.std.specs.List.{flat_map}
use Rattle.ecf_grammar.specs.declared.tokens.Word.TheVariants as word
use Rattle.ecf_grammar.specs.declared.tokens.Sign.TheVariants as sign
use Rattle.ecf_lang.specs.declared.tree.Ty.{Ty}
use Rattle.ecf_lang.specs.declared.tree.Ty.TheVariants as ty
use Rattle.ecf_lang.specs.declared.tree.Expr.{Expr}
use Rattle.ecf_lang.specs.declared.tree.Stmt.{Stmt, Stmt-F, fold-Stmt}
use Rattle.ecf_lang.specs.declared.tree.Block.{Block, Block-F, fold-Block}
use Rattle.ecf_show.specs.Marks.{Mark, Marks, name_mark, word_mark, sign_mark, spaced, joined, in_brackets}
use Rattle.ecf_show.specs.Marks.Mark.{Space, Line}
use Rattle.ecf_show.specs.Expressions.{shown_call, expr_marks, call_marks}

-- what is written differs by how many blocks are open
abbrev pub Layout : Type 0
Layout = ℕ → Marks

-- items, each on a line of its own
abbrev pub lines_of : ℕ → List Layout → Marks
lines_of depth items = flat_map (λ item. Line depth ∷ item depth) items

-- nothing between the braces, or a line for each item and one for the closing brace
abbrev pub braced : ℕ → List Layout → Marks
braced depth [] = sign_mark sign.OpenBrace ∷ Space ∷ sign_mark sign.CloseBrace ∷ []
braced depth (first ∷ rest) = sign_mark sign.OpenBrace ∷ lines_of (depth + 1) (first ∷ rest) ++ Line depth ∷ sign_mark sign.CloseBrace ∷ []

abbrev pub type_mark : Ty → Mark
type_mark ty.Num = word_mark word.Num
type_mark ty.Flag = word_mark word.Flag
type_mark ty.Addr = word_mark word.Addr

-- a name and its type
abbrev pub declared : List ℕ → Ty → Marks
declared bytes kind = name_mark bytes ∷ sign_mark sign.Colon ∷ Space ∷ type_mark kind ∷ []

abbrev pub semicolon : Marks
semicolon = sign_mark sign.Semicolon ∷ []

-- behind `=`, a value and the end of the statement
abbrev pub assigned : Marks → Marks
assigned value = spaced sign.Assign ++ value ++ semicolon

-- a condition, and the space between it and the block that it guards
abbrev pub condition_marks : Expr → Marks
condition_marks cond = expr_marks cond ++ Space ∷ []

-- `if` or `while`, a condition, and the block that it guards
abbrev pub arm_marks : Mark → ℕ → Expr × Layout → Marks
arm_marks first depth arm = first ∷ Space ∷ expr_marks arm.0 ++ Space ∷ arm.1 depth

-- a space, `else` and a space
abbrev pub otherwise : Marks
otherwise = Space ∷ word_mark word.Else ∷ Space ∷ []

-- the last block of an `if`, where there is one
abbrev pub last_marks : ℕ → Option Layout → Marks
last_marks depth None = []
last_marks depth (Some block) = otherwise ++ block depth

abbrev pub stmt_step : Stmt-F Layout Layout → Layout
stmt_step (Stmt-F.Let at bytes kind value) depth = word_mark word.Let ∷ Space ∷ declared bytes kind ++ assigned (expr_marks value)
stmt_step (Stmt-F.Try at bytes kind call) depth = word_mark word.Let ∷ Space ∷ declared bytes kind ++ assigned (word_mark word.Try ∷ Space ∷ (shown_call call).tried)
stmt_step (Stmt-F.Set at bytes value) depth = name_mark bytes ∷ assigned (expr_marks value)
stmt_step (Stmt-F.SetAt at bytes key value) depth = name_mark bytes ∷ in_brackets (expr_marks key) ++ assigned (expr_marks value)
stmt_step (Stmt-F.If arms last) depth = joined otherwise (map (arm_marks (word_mark word.If) depth) arms) ++ last_marks depth last
stmt_step (Stmt-F.While cond body) depth = arm_marks (word_mark word.While) depth (cond, body)
stmt_step (Stmt-F.Return value) depth = word_mark word.Return ∷ Space ∷ expr_marks value ++ semicolon
stmt_step (Stmt-F.Revert value) depth = word_mark word.Revert ∷ Space ∷ expr_marks value ++ semicolon
stmt_step (Stmt-F.Do call) depth = call_marks call ++ semicolon

abbrev pub block_step : Block-F Layout Layout → Layout
block_step block depth = braced depth block.stmts

unfoldable pub stmt_marks : Stmt → Layout
stmt_marks = fold-Stmt Layout Layout stmt_step block_step

unfoldable pub block_marks : Block → Layout
block_marks = fold-Block Layout Layout stmt_step block_step
