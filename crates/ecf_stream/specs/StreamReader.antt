-- What a reader of a stream holds.
use Rattle.std.specs.Prelude.{◌≡◌, ◌≤◌, slice_range, length}
use Rattle.ecf_stream.specs.declared.stream_reader.StreamReader.TheInside.{Inside}
use Rattle.ecf_stream.specs.declared.stream_reader.TheConstants.{READ_BYTES}
use Rattle.ecf_stream.specs.StreamState.{StreamState}

-- what clauses see of a reader
abbrev pub stream_state : Inside → StreamState
stream_state r = record {
  controls = r.controls;
  lines = r.lines;
  rest = slice_range r.buffer.items r.from r.to;
  txs = r.txs;
  stage = r.stage;
}

-- what wasn't looked at yet lies within the buffer
pub record HasRest (r : Inside) : Type 0 where
  pub order : r.from ≤ r.to
  pub within : r.to ≤ length r.buffer.items
  pub room : length r.buffer.items ≡ READ_BYTES
