-- The writes of the machine's run are those of the run alone, which lead to the fields after it.
use Rattle.std.proofs.Common.{◌∙◌, ap, sym}
use Rattle.ecf_heap.specs.Overlaid.{store_of}
use Rattle.ecf_lang.specs.Store.{with_writes}
use Rattle.ecf_isolate.proofs.RunLaws.{fields_are_writes}
use Rattle.ecf_isolate.proofs.alone.run_next.Goals as goal

pub returns-clause-fields : goal.returns-clause-fields
returns-clause-fields g c =
    c.in_ok-write_all.ensures
    ∙ ap (with_writes (store_of c.args.fields.now)) (c.as_slice.ensures ∙ c.in_ok-lone.ensures.writes)
    ∙ sym (fields_are_writes c.args.typed.now c.args.inv c.args.invocation.now (store_of c.args.fields.now))
