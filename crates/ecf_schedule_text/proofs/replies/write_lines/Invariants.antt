use Rattle.std.proofs.Common.{◌≡◌, ◌++◌}
use Rattle.std.specs.Slice.Iter.{iter_rest}
use Rattle.std.specs.Iterator.Adapters.{zip_first, zip_second}
use Rattle.ecf_schedule_text.specs.Lines.{lines_by_names}
use Rattle.ecf_schedule_text.proofs.replies.write_lines.Given as goal

-- what is written and what is left to write make up the whole
abbrev pub invariant-loop-event : goal.invariant-loop-event
invariant-loop-event l =
    l.text.items ++ lines_by_names l.typed l.names (iter_rest (zip_first l.event-iterator)) (iter_rest (zip_second l.event-iterator))
    ≡ l.fn.text.items ++ lines_by_names l.typed l.names l.events l.replies
