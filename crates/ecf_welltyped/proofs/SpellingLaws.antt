-- The lexemes of a text that reads are spelled as they should be, and so are those of each part of it.
use Rattle.std.proofs.Common.{ℕ, ◌+◌, ◌^◌, ◌<◌, List, [], ◌∷◌, ◌++◌}
use Rattle.std.specs.List.{AllByRecursion}
use Rattle.ecf_grammar.specs.declared.tokens.Token.{Token}
use Rattle.ecf_grammar.specs.declared.tokens.Kind.{Kind}
use Rattle.ecf_grammar.specs.declared.tokens.Kind.TheVariants as kind
use Rattle.ecf_grammar.specs.Spelling.{IsLexeme, IsName}
use Rattle.ecf_grammar.specs.Lexemes.{Lexeme, lexeme, lexemes_of, NumberedLexemes, with_numbers}
use Rattle.ecf_grammar.specs.Lexemes.Lexeme.{NameOf, NumberOf}
use Rattle.ecf_grammar.specs.Reading.{IsInRange, IsTokenOf}
use Rattle.ecf_grammar.specs.Readings.{TokensAreSpelled}
use Rattle.ecf_grammar.specs.Spells.{Is}
use Rattle.ecf_grammar.specs.Spells.Is.{is}
use Rattle.ecf_welltyped.specs.Laws.{IsSpelled, LexemesAreSpelled}

lexeme_is_spelled : (k : Kind) (bytes : List ℕ) → IsLexeme k bytes → IsInRange k → IsSpelled (lexeme k bytes)
lexeme_is_spelled kind.Name bytes spelled range = spelled
lexeme_is_spelled (kind.Number value) bytes spelled range = range
lexeme_is_spelled (kind.Word w) bytes spelled range = tt
lexeme_is_spelled (kind.Sign s) bytes spelled range = tt

all_are_spelled : (source : List ℕ) (tokens : List Token) → AllByRecursion (IsTokenOf source) tokens → AllByRecursion (λ t. IsInRange t.kind) tokens
    → AllByRecursion IsSpelled (lexemes_of source tokens)
all_are_spelled source [] spelled range = tt
all_are_spelled source (t ∷ ts) spelled range = (lexeme_is_spelled t.kind _ spelled.0.spelled range.0, all_are_spelled source ts spelled.1 range.1)

pub lexemes_are_spelled : TokensAreSpelled → LexemesAreSpelled
lexemes_are_spelled law source tokens reads = all_are_spelled source tokens (law source tokens reads) reads.in_range

-- ---- lexemes with their numbers

abbrev pub AreSpelled : NumberedLexemes → Type 0
AreSpelled = AllByRecursion (λ l. IsSpelled l.1)

pub with_numbers_spelled : (at : ℕ) (ls : List Lexeme) → AllByRecursion IsSpelled ls → AreSpelled (with_numbers at ls)
with_numbers_spelled at [] spelled = tt
with_numbers_spelled at (l ∷ ls) spelled = (spelled.0, with_numbers_spelled (at + 1) ls spelled.1)

pub front : (a b : NumberedLexemes) → AreSpelled (a ++ b) → AreSpelled a
front [] b spelled = tt
front (l ∷ a) b spelled = (spelled.0, front a b spelled.1)

pub behind : (a b : NumberedLexemes) → AreSpelled (a ++ b) → AreSpelled b
behind [] b spelled = spelled
behind (l ∷ a) b spelled = behind a b spelled.1

pub name_spelled : {a : NumberedLexemes} {at : ℕ} {bytes : List ℕ} → Is (NameOf bytes) a at → AreSpelled a → IsName bytes
name_spelled (is at) spelled = spelled.0

pub number_spelled : {a : NumberedLexemes} {at value : ℕ} → Is (NumberOf value) a at → AreSpelled a → value < 2 ^ 128
number_spelled (is at) spelled = spelled.0
