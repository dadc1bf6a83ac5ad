-- What it means that a text is one of a tree, however long it is, and that what is shown is read as the same tree.
use Rattle.std.specs.Prelude.{◌≡◌, ℕ, List, []}
use Rattle.std.specs.List.{AllByRecursion}
use Rattle.ecf_lang.specs.declared.tree.Tree.{Tree}
use Rattle.ecf_grammar.specs.Reading.{Piece, IsCut, tokens_from, IsInRange}
use Rattle.ecf_grammar.specs.Lexemes.{lexemes_of}
use Rattle.ecf_grammar.specs.Spells.{Spells}
use Rattle.ecf_show.specs.Files.{tree_text}
use Rattle.ecf_shown.specs.Places.{without_places}

-- the text is cut into tokens that spell the tree; how many bytes and tokens it has and how deep it nests doesn't matter
pub record IsTextOf (text : List ℕ) (tree : Tree) : Type 0 where
  pub pieces : List Piece
  pub cut : IsCut text pieces []
  pub in_range : AllByRecursion (λ t. IsInRange t.kind) (tokens_from 0 pieces)
  pub spelled : Spells (lexemes_of text (tokens_from 0 pieces)) tree

-- two trees are the same but for the places of their tokens
abbrev pub AreAlike : Tree → Tree → Type 0
AreAlike tree other = without_places tree ≡ without_places other

-- the canonical text of a tree that some text spells is read as the same tree but for places
abbrev pub ReadsBack : Type 0
ReadsBack = (text : List ℕ) (tree : Tree) → IsTextOf text tree → (again : Tree) × IsTextOf (tree_text tree) again × AreAlike again tree

-- trees that are the same but for places have one canonical text
abbrev pub OneText : Type 0
OneText = (tree other : Tree) → AreAlike tree other → tree_text tree ≡ tree_text other
