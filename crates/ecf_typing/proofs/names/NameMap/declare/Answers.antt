use Rattle.std.proofs.Common.{sym, ap, ◌∙◌, map, is_some}
use Rattle.std.specs.Str.{bytes_eq}
use Rattle.indexmap.proofs.CallerLemmas.{insert_entry-new}
use Rattle.ecf_typing.specs.Views.{contents_of}
use Rattle.ecf_typing.proofs.TableLaws.{lookup_seen, map_push, missing, declare_new, declare_old}
use Rattle.ecf_typing.proofs.names.NameMap.declare.Goals as goal

pub returns-in_ok-insert : goal.returns-in_ok-insert
returns-in_ok-insert g c =
    let entries = c.args.self.now.entries.entries in
    let absent = sym c.contains_key.ensures ∙ c.if-not-contains_key.true in
    ap (map (λ e. (e.0.bytes.now, e.1))) (c.in_ok-insert.ensures.entries ∙ insert_entry-new _ c.args.self.now.entries _ c.args.a (missing _ absent))
    ∙ map_push (λ e. (e.0.bytes.now, e.1)) entries (record { bytes = c.args.name }, c.args.a)
    ∙ sym (declare_new (contents_of c.args.self.now) c.args.name.now c.args.a (ap is_some (lookup_seen (λ k. k.bytes.now) (bytes_eq c.args.name.now) entries) ∙ absent))

pub returns-else-not-contains_key : goal.returns-else-not-contains_key
returns-else-not-contains_key g c =
    let entries = c.args.self.now.entries.entries in
    sym (declare_old (contents_of c.args.self.now) c.args.name.now c.args.a (ap is_some (lookup_seen (λ k. k.bytes.now) (bytes_eq c.args.name.now) entries) ∙ sym c.contains_key.ensures ∙ c.if-not-contains_key.false))
