-- What the code answers of a line.
use Rattle.ecf_lang.specs.declared.typed.Typed.{Typed}
use Rattle.ecf_lang.specs.Fits.{Fits}
use Rattle.ecf_lines.specs.declared.saying.Saying.{Saying}
use Rattle.ecf_lines.specs.declared.saying.Saying.TheVariants.{Nothing, Asks, TakesOut}

-- a transaction fits the contract
abbrev pub SayingFits : Typed → Saying → Type 0
SayingFits typed (Asks tx) = Fits typed tx
SayingFits typed other = Unit {0}
