-- What a reader of lines holds.
use Rattle.ecf_stream.specs.declared.line_reader.LineReader.TheInside.{Inside}
use Rattle.ecf_stream.specs.LineState.{LineState}

-- the line at hand of a reader
abbrev pub line_state : Inside → LineState
line_state r = record {
  most_line = r.most_line;
  most_bytes = r.most_bytes;
  lines = r.lines;
  bytes = r.bytes;
  line = r.line.items;
  is_whole = r.is_whole;
  over = r.over;
}
