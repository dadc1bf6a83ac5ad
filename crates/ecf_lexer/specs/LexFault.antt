-- What an error of the lexer says of the text.
use Rattle.std.specs.Prelude.{Option, Some, None}
use Rattle.ecf_grammar.specs.Reading.{Fault}
use Rattle.ecf_grammar.specs.Reading.Fault.{BadByte as ByteFault, WideNumber as NumberFault, TooManyTokens as CountFault}
use Rattle.ecf_lexer.specs.declared.lexer.LexFault.{LexFault}
use Rattle.ecf_lexer.specs.declared.lexer.LexFault.TheVariants.{BadByte, WideNumber, TooManyTokens, NoMemory}

-- the fault of the text that the error names; want of memory is none
abbrev pub fault_of : LexFault → Option Fault
fault_of (BadByte at) = Some (ByteFault at)
fault_of (WideNumber at) = Some (NumberFault at)
fault_of (TooManyTokens at) = Some (CountFault at)
fault_of NoMemory = None
