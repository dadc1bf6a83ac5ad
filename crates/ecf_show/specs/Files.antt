-- How fields, maps, methods, objects and whole files are written.
use Rattle.std.specs.Prelude.{ℕ, List, [], ◌∷◌, ◌++◌, map, Option, Some, None}
use Rattle.std.specs.List.{flat_map}
use Rattle.ecf_grammar.specs.declared.tokens.Word.TheVariants as word
use Rattle.ecf_grammar.specs.declared.tokens.Sign.TheVariants as sign
use Rattle.ecf_lang.specs.declared.tree.Const.{Const}
use Rattle.ecf_lang.specs.declared.tree.Const.TheVariants as const
use Rattle.ecf_lang.specs.declared.tree.Param.{Param}
use Rattle.ecf_lang.specs.declared.tree.Member.{Member}
use Rattle.ecf_lang.specs.declared.tree.Member.TheVariants as member
use Rattle.ecf_lang.specs.declared.tree.ObjectDecl.{ObjectDecl}
use Rattle.ecf_lang.specs.declared.tree.Tree.{Tree}
use Rattle.ecf_show.specs.Marks.{Mark, Marks, text_of, name_mark, number_mark, word_mark, sign_mark, spaced, comma, joined, in_parentheses}
use Rattle.ecf_show.specs.Marks.Mark.{Space, Line}
use Rattle.ecf_show.specs.Expressions.{flag_mark}
use Rattle.ecf_show.specs.Statements.{braced, type_mark, declared, semicolon, block_marks}

abbrev pub const_mark : Const → Mark
const_mark (const.Number at value) = number_mark value
const_mark (const.Flag at value) = flag_mark value
const_mark (const.Name at bytes) = name_mark bytes

-- the initial value of a field, where it has one
abbrev pub first_marks : Option Const → Marks
first_marks None = []
first_marks (Some value) = spaced sign.Assign ++ const_mark value ∷ []

-- an initial key of a map with its value
abbrev pub entry_marks : Const × Const → Marks
entry_marks entry = const_mark entry.0 ∷ sign_mark sign.Colon ∷ Space ∷ const_mark entry.1 ∷ []

-- the initial entries of a map, where it has some
abbrev pub entries_marks : List (Const × Const) → Marks
entries_marks [] = []
entries_marks (first ∷ rest) = spaced sign.Assign ++ sign_mark sign.OpenBrace ∷ Space ∷ joined comma (map entry_marks (first ∷ rest)) ++ Space ∷ sign_mark sign.CloseBrace ∷ []

abbrev pub param_marks : Param → Marks
param_marks param = declared param.name param.ty

-- a field, a map or a method, inside its object
abbrev pub member_marks : Member → Marks
member_marks (member.Field at bytes kind value) = type_mark kind ∷ Space ∷ name_mark bytes ∷ first_marks value ++ semicolon
member_marks (member.Map at bytes key value entries) =
    word_mark word.Map ∷ Space ∷ declared bytes key ++ spaced sign.Arrow ++ type_mark value ∷ entries_marks entries ++ semicolon
member_marks (member.Method at bytes params answer body) =
    word_mark word.Method ∷ Space ∷ name_mark bytes ∷ in_parentheses (joined comma (map param_marks params))
    ++ sign_mark sign.Colon ∷ Space ∷ type_mark answer ∷ Space ∷ block_marks body 1

-- an object, and the end of its last line
abbrev pub object_marks : ObjectDecl → Marks
object_marks object = word_mark word.Object ∷ Space ∷ name_mark object.name ∷ Space ∷ braced 0 (map (λ m depth. member_marks m) object.members) ++ Line 0 ∷ []

-- a file: its objects, one behind the other
abbrev pub file_marks : Tree → Marks
file_marks tree = flat_map object_marks tree.objects

-- the canonical text of a tree
abbrev pub tree_text : Tree → List ℕ
tree_text tree = text_of (file_marks tree)
