-- What follows for a text that reads as tokens, and for the tree that these spell.
use Rattle.std.specs.Prelude.{◌≡◌, ℕ, ◌^◌, ◌<◌, List, [], ⊤}
use Rattle.std.specs.List.{AllByRecursion}
use Rattle.ecf_lang.specs.declared.tree.Tree.{Tree}
use Rattle.ecf_grammar.specs.declared.tokens.Token.{Token}
use Rattle.ecf_grammar.specs.Spelling.{IsName}
use Rattle.ecf_grammar.specs.Lexemes.{Lexeme, lexemes_of}
use Rattle.ecf_grammar.specs.Lexemes.Lexeme.{NameOf, NumberOf, WordOf, SignOf}
use Rattle.ecf_grammar.specs.Reading.{Reads}
use Rattle.ecf_grammar.specs.Spells.{Spells}
use Rattle.ecf_faults.specs.Declarations.{faults_of_tree, numbered_form}
use Rattle.ecf_wellformed.specs.WellFormed.{IsWellFormed}

-- a name is spelled as one, and a number is below 2^128
abbrev pub IsSpelled : Lexeme → Type 0
IsSpelled (NameOf bytes) = IsName bytes
IsSpelled (NumberOf value) = value < 2 ^ 128
IsSpelled (WordOf w) = ⊤
IsSpelled (SignOf s) = ⊤

-- the lexemes of a text that reads as tokens are spelled so
abbrev pub LexemesAreSpelled : Type 0
LexemesAreSpelled = (source : List ℕ) (tokens : List Token) → Reads source tokens → AllByRecursion IsSpelled (lexemes_of source tokens)

-- the numbered form of a tree that the tokens of a text spell, and that has no fault, is well formed
abbrev pub NumberedFormIsWellFormed : Type 0
NumberedFormIsWellFormed =
    (source : List ℕ) (tokens : List Token) (tree : Tree) → Reads source tokens → Spells (lexemes_of source tokens) tree
    → faults_of_tree tree ≡ [] → IsWellFormed (numbered_form tree)
