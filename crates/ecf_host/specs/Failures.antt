-- Why a command has no report, and what faults of the calls that it makes become: nothing but want of memory becomes that.
use Rattle.ecf_edge.specs.declared.shelf.Fetch.{Fetch}
use Rattle.ecf_edge.specs.declared.shelf.Fetch.TheVariants as fetch
use Rattle.ecf_lexer.specs.declared.lexer.LexFault.{LexFault}
use Rattle.ecf_lexer.specs.declared.lexer.LexFault.TheVariants as lex
use Rattle.ecf_parser.specs.declared.parser.SyntaxFault.{SyntaxFault}
use Rattle.ecf_parser.specs.declared.parser.SyntaxFault.TheVariants as syntax
use Rattle.ecf_typing.specs.declared.file.TypeFault.{TypeFault}
use Rattle.ecf_typing.specs.declared.file.TypeFault.TheVariants as typing
use Rattle.ecf_host.specs.declared.failure.Failure.{Failure}
use Rattle.ecf_host.specs.declared.failure.Failure.TheVariants.{Refused, NoMemory}
use Rattle.ecf_host.specs.declared.refusal.Refusal.{Refusal}
use Rattle.ecf_host.specs.declared.refusal.Refusal.TheVariants.{TooLong, BadByte, WideNumber, TooManyTokens, Syntax, TooDeep, Typing, Missing, ReadFault}

-- where the failure is a refusal, this holds of it
abbrev pub IfRefused : Failure → (Refusal → Type 0) → Type 0
IfRefused (Refused refusal) P = P refusal
IfRefused NoMemory P = Unit {0}

-- where the failure is want of memory, this holds
abbrev pub OnNoMemory : Failure → Type 0 → Type 0
OnNoMemory (Refused refusal) P = Unit {0}
OnNoMemory NoMemory P = P

-- a fetch of the contract file that gave none
abbrev pub failure_of_fetch : Fetch → Failure
failure_of_fetch fetch.Failed = Refused ReadFault
failure_of_fetch fetch.Missing = Refused Missing
failure_of_fetch fetch.TooLong = Refused TooLong
failure_of_fetch fetch.NoMemory = NoMemory

-- a fault of the contract's bytes
abbrev pub failure_of_lexing : LexFault → Failure
failure_of_lexing (lex.BadByte at) = Refused (BadByte at)
failure_of_lexing (lex.WideNumber at) = Refused (WideNumber at)
failure_of_lexing (lex.TooManyTokens at) = Refused (TooManyTokens at)
failure_of_lexing lex.NoMemory = NoMemory

-- a fault of the contract's tokens
abbrev pub failure_of_parsing : SyntaxFault → Failure
failure_of_parsing (syntax.At token) = Refused (Syntax token)
failure_of_parsing (syntax.TooDeep token) = Refused (TooDeep token)
failure_of_parsing syntax.NoMemory = NoMemory

-- a fault of the contract's names and types
abbrev pub failure_of_typing : TypeFault → Failure
failure_of_typing (typing.At token what) = Refused (Typing token what)
failure_of_typing typing.NoMemory = NoMemory
