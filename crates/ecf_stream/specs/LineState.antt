-- How a reader cuts a stream into lines, in whatever pieces it comes.
use Rattle.std.specs.Prelude.{◌≡◌, ℕ, ◌+◌, ◌-◌, ◌^◌, ◌<◌, ◌≤◌, Bool, true, false, not, ◌&&◌, nat_lt, is_none, if◌then◌else◌, List, [], ◌++◌, length, Option, Some, None, All}
use Rattle.std.specs.List.{before_first}
use Rattle.ecf_lang.specs.declared.receipt.StopCause.{StopCause}
use Rattle.ecf_lang.specs.declared.receipt.StopCause.TheVariants.{Long}
use Rattle.ecf_lines.specs.Stream.{is_lf, bytes_of_line, limit_passed}
use Rattle.ecf_stream.specs.declared.line_reader.Fed.{Fed}
use Rattle.ecf_stream.specs.declared.line_reader.Fed.TheVariants as fed

-- the line at hand: its limits, the lines and bytes before it, its bytes so far, whether an LF ended it, and the limit that it passed
pub record LineState : Type 0 where
  pub most_line : ℕ
  pub most_bytes : ℕ
  pub lines : ℕ
  pub bytes : ℕ
  pub line : List ℕ
  pub is_whole : Bool
  pub over : Option Fed

-- before the first byte
abbrev pub first_line : ℕ → ℕ → LineState
first_line most_line most_bytes = record { most_line = most_line; most_bytes = most_bytes; lines = 0; bytes = 0; line = []; is_whole = false; over = None }

-- a new line behind a whole one
abbrev pub opened_by : Bool → LineState → LineState
opened_by false s = s
opened_by true s = record {
  most_line = s.most_line;
  most_bytes = s.most_bytes;
  lines = s.lines + 1;
  bytes = s.bytes + bytes_of_line true s.line;
  line = [];
  is_whole = false;
  over = s.over;
}

-- the line to which the next byte comes
abbrev pub opened : LineState → LineState
opened s = opened_by s.is_whole s

-- the bytes of a piece before its first LF
abbrev pub part_of : List ℕ → List ℕ
part_of piece = before_first is_lf piece

-- there is an LF in the piece
abbrev pub has_lf : List ℕ → Bool
has_lf piece = nat_lt (length (part_of piece)) (length piece)

-- the limit that a line passes with the next piece
abbrev pub limit_passed_with : LineState → List ℕ → Option StopCause
limit_passed_with s piece = limit_passed s.most_line s.most_bytes s.bytes (has_lf piece) (s.line ++ part_of piece)

-- the answer by that limit: how many bytes are taken, up to the LF that ends the line, or to the first byte over a limit
abbrev pub answer_by : LineState → List ℕ → Option StopCause → Fed
answer_by s piece (Some Long) = fed.Long (s.most_line + 1 - length s.line)
answer_by s piece (Some other) = fed.Bytes (s.most_bytes + 1 - (s.bytes + length s.line))
answer_by s piece None = if has_lf piece then fed.Line (length (part_of piece) + 1) else fed.More

-- the line at hand after that answer: behind a limit nothing is taken any more
abbrev pub state_by : LineState → List ℕ → Option StopCause → LineState
state_by s piece (Some Long) = record s { over = Some (fed.Long 0) }
state_by s piece (Some other) = record s { over = Some (fed.Bytes 0) }
state_by s piece None = record s { line = s.line ++ part_of piece; is_whole = has_lf piece }

-- the answer where no limit was passed before
abbrev pub answer_unless : Option Fed → LineState → List ℕ → Fed
answer_unless None s piece = answer_by (opened s) piece (limit_passed_with (opened s) piece)
answer_unless (Some over) s piece = over

-- and the line at hand then
abbrev pub state_unless : Option Fed → LineState → List ℕ → LineState
state_unless None s piece = state_by (opened s) piece (limit_passed_with (opened s) piece)
state_unless (Some over) s piece = s

-- what feeding a piece answers
abbrev pub answer_to : LineState → List ℕ → Fed
answer_to s piece = answer_unless s.over s piece

-- what feeding a piece leaves
abbrev pub state_after : LineState → List ℕ → LineState
state_after s piece = state_unless s.over s piece

-- a line without LF stands at the end of the stream
abbrev pub has_last : LineState → Bool
has_last s = is_none s.over && nat_lt 0 (length (opened s).line)

-- the line at hand has no LF in it, and it is within its limits
pub record IsWithin (s : LineState) : Type 0 where
  pub small_line : s.most_line < 2 ^ 32 - 1
  pub small_stream : s.most_bytes < 2 ^ 32 - 1
  pub lines : s.lines ≤ s.bytes
  pub line : length s.line ≤ s.most_line
  pub bytes : s.bytes + bytes_of_line s.is_whole s.line ≤ s.most_bytes
  pub plain : All (λ byte. is_lf byte ≡ false) s.line
