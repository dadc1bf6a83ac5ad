use Rattle.ecf_show.proofs.FileLaws.{field_written, map_written, method_written}
use Rattle.ecf_show.proofs.files.write_member.Goals as goal

pub returns-in_ok-push-in-Field-2 : goal.returns-in_ok-push-in-Field-2
returns-in_ok-push-in-Field-2 c =
    field_written _ _ _ _ _ _ _ _ _ _ _ c.in-Field.is c.in_ok-write_type-in-Field.ensures c.in_ok-push-in-Field.ensures.items c.in_ok-write_name-in-Field.ensures c.in_ok-write_first-in-Field.ensures c.in_ok-push-in-Field-2.ensures.items

pub returns-in_ok-push-in-Map : goal.returns-in_ok-push-in-Map
returns-in_ok-push-in-Map c =
    let entries = rw c.as_slice.ensures at c.in_ok-write_entries-in-Map.ensures in
    map_written _ _ _ _ _ _ _ _ _ _ _ _ _ c.in-Map.is c.in_ok-extend_from_slice-in-Map.ensures.items c.in_ok-write_declared-in-Map.ensures c.in_ok-extend_from_slice-in-Map-2.ensures.items c.in_ok-write_type-in-Map.ensures entries c.in_ok-push-in-Map.ensures.items

pub returns-in_ok-push-in-Method-2 : goal.returns-in_ok-push-in-Method-2
returns-in_ok-push-in-Method-2 c =
    let params = rw c.as_slice-in-Method.ensures at c.in_ok-write_params-in-Method.ensures in
    method_written _ _ _ _ _ _ _ _ _ _ _ _ _ _ _ _ c.in-Method.is c.in_ok-extend_from_slice-in-Method.ensures.items c.in_ok-write_name-in-Method.ensures c.in_ok-push-in-Method.ensures.items params c.in_ok-extend_from_slice-in-Method-2.ensures.items c.in_ok-write_type-in-Method.ensures c.in_ok-push-in-Method-2.ensures.items c.write_block.ensures
