-- Why nothing was run, with the status and the note of each cause.
use Rattle.std.specs.Prelude.{ℕ, List, ◌++◌, codes, decimal}
use Rattle.ecf_faults.specs.declared.What.{What}
use Rattle.ecf_faults.specs.declared.What.TheVariants as what
use Rattle.ecf_host.specs.declared.refusal.Refusal.{Refusal}
use Rattle.ecf_host.specs.declared.refusal.Refusal.TheVariants.{Words, TooLong, BadByte, WideNumber, TooManyTokens, Syntax, TooDeep, Typing}
use Rattle.ecf_host.specs.declared.refusal.Refusal.TheVariants.{Missing, ReadFault}

-- the status of a refusal
abbrev pub status_of : Refusal → ℕ
status_of Words = 1
status_of TooLong = 2
status_of (BadByte at) = 2
status_of (WideNumber at) = 2
status_of (TooManyTokens at) = 2
status_of (Syntax token) = 2
status_of (TooDeep token) = 2
status_of (Typing token what) = 2
status_of Missing = 4
status_of ReadFault = 4

-- the word for a kind of fault
abbrev pub word_of : What → List ℕ
word_of what.TwoObjects = codes "TwoObjects"
word_of what.TwoFields = codes "TwoFields"
word_of what.TwoMethods = codes "TwoMethods"
word_of what.TwoLocals = codes "TwoLocals"
word_of what.TwoSignatures = codes "TwoSignatures"
word_of what.TwoKeys = codes "TwoKeys"
word_of what.TooManyObjects = codes "TooManyObjects"
word_of what.TooManyMembers = codes "TooManyMembers"
word_of what.TooManyLocals = codes "TooManyLocals"
word_of what.UnknownName = codes "UnknownName"
word_of what.Misused = codes "Misused"
word_of what.UnknownMethod = codes "UnknownMethod"
word_of what.WrongArity = codes "WrongArity"
word_of what.WrongType = codes "WrongType"

-- the note of a fault of names and types
abbrev pub type_note : ℕ → What → List ℕ
type_note token what = codes "contract token " ++ decimal token ++ codes ": type " ++ word_of what ++ codes "\n"

-- the note of a refusal
abbrev pub note_of : Refusal → List ℕ
note_of Words = codes "words refused\n"
note_of TooLong = codes "contract: too long\n"
note_of (BadByte at) = codes "contract byte " ++ decimal at ++ codes ": bad byte\n"
note_of (WideNumber at) = codes "contract byte " ++ decimal at ++ codes ": wide number\n"
note_of (TooManyTokens at) = codes "contract byte " ++ decimal at ++ codes ": too many tokens\n"
note_of (Syntax token) = codes "contract token " ++ decimal token ++ codes ": syntax\n"
note_of (TooDeep token) = codes "contract token " ++ decimal token ++ codes ": too deep\n"
note_of (Typing token what) = type_note token what
note_of Missing = codes "contract: missing\n"
note_of ReadFault = codes "contract: read fault\n"
