-- The line that says where and why reading a stream stopped.
use Rattle.std.specs.Prelude.{ℕ, List, [], ◌++◌, Option, Some, None, codes, decimal}
use Rattle.ecf_lang.specs.declared.receipt.StopCause.{StopCause}
use Rattle.ecf_lang.specs.declared.receipt.StopCause.TheVariants.{Form, Object, Method, Fuel, Arity, Arg, Long, Many, Bytes, Read}
use Rattle.ecf_lang.specs.declared.receipt.Stop.{Stop}

-- why reading a stream stopped
abbrev pub stop_word : StopCause → List ℕ
stop_word Form = codes "form"
stop_word Object = codes "object"
stop_word Method = codes "method"
stop_word Fuel = codes "fuel"
stop_word Arity = codes "arity"
stop_word Arg = codes "arg"
stop_word Long = codes "long"
stop_word Many = codes "many"
stop_word Bytes = codes "bytes"
stop_word Read = codes "read"

-- the line of a stop, where there is one
abbrev pub stop_line : Option Stop → List ℕ
stop_line None = []
stop_line (Some stop) = codes "stop " ++ decimal stop.line ++ codes " " ++ stop_word stop.cause ++ codes "\n"
