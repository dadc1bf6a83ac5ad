-- What a fault of the parser says of the tokens.
use Rattle.std.specs.Prelude.{ℕ, ◌-◌, nat_lt, if◌then◌else◌, List}
use Rattle.ecf_grammar.specs.Lexemes.{Lexeme}
use Rattle.ecf_grammar.specs.Spells.{IsOutOfPlace, IsTooDeep}
use Rattle.ecf_parser.specs.declared.cursor.ParseFault.{ParseFault}
use Rattle.ecf_parser.specs.declared.cursor.ParseFault.TheVariants.{OutOfPlace, NoMemory as NoMemoryThere}
use Rattle.ecf_parser.specs.declared.parser.SyntaxFault.{SyntaxFault}
use Rattle.ecf_parser.specs.declared.parser.SyntaxFault.TheVariants.{At, TooDeep, NoMemory}

-- the tokens are refused for this; want of memory refuses none
abbrev pub HasSyntaxFault : List Lexeme → SyntaxFault → Type 0
HasSyntaxFault lexemes (At token) = IsOutOfPlace lexemes token
HasSyntaxFault lexemes (TooDeep token) = IsTooDeep lexemes token
HasSyntaxFault lexemes NoMemory = ⊥

-- the fault of tokens of which one is the first nested too deep, from the fault of those before it
abbrev pub first_fault : SyntaxFault → ℕ → SyntaxFault
first_fault (At token) deep = if nat_lt token deep then At token else TooDeep deep
first_fault (TooDeep token) deep = TooDeep deep
first_fault NoMemory deep = NoMemory

-- the fault of so many tokens, where their reading stops for this one and so many are left
abbrev pub fault_behind : ParseFault → ℕ → ℕ → SyntaxFault
fault_behind OutOfPlace tokens left = At (tokens - left)
fault_behind NoMemoryThere tokens left = NoMemory
