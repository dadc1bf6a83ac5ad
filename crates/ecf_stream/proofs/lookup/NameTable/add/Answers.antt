use Rattle.std.proofs.Common.{ap, sym, ◌∙◌}
use Rattle.std.specs.Str.{bytes_eq}
use Rattle.std.specs.Map.{lookup}
use Rattle.indexmap.specs.IndexMap.{get_by}
use Rattle.indexmap.proofs.CallerLemmas.{insert_entry-new}
use Rattle.ecf_stream.proofs.NameLaws.{or_new, missing, lookup_push}
use Rattle.ecf_stream.proofs.lookup.NameTable.add.Goals as goal

pub returns-in_ok-insert : goal.returns-in_ok-insert
returns-in_ok-insert c =
    let key = c.in_ok-from_slice.field-0 in
    let old = c.args.self.now.numbers in
    let copied = c.in_ok-from_slice.ensures.items in
    let absent = ap (λ bs. get_by (λ name. bytes_eq bs name.items) old) copied ∙ missing _ (sym c.contains_key.ensures ∙ c.if-not-contains_key.true) in
    λ word.
    ap (lookup (λ name. bytes_eq word name.items)) (c.in_ok-insert.ensures.entries ∙ insert_entry-new _ old key c.args.number absent)
    ∙ lookup_push (λ name. bytes_eq word name.items) old.entries key c.args.number
    ∙ ap (λ bs. or_new (lookup (λ name. bytes_eq word name.items) old.entries) (bytes_eq word bs) c.args.number) copied
