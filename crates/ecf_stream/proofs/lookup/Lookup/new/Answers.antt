use Rattle.std.proofs.Common.{map, subst}
use Rattle.ecf_stream.specs.Lookup.{FindsNames}
use Rattle.ecf_stream.proofs.lookup.Lookup.new.Goals as goal

pub returns : goal.returns
returns c = record {
  objects = subst (λ objects. FindsNames (map (λ o. o.name) objects) c.in_ok-table_of_objects.field-0) c.as_slice.ensures c.in_ok-table_of_objects.ensures;
  methods = subst (λ names. FindsNames names c.in_ok-table_of_names.field-0) c.as_slice-2.ensures c.in_ok-table_of_names.ensures;
}
