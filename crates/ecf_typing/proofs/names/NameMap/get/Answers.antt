use Rattle.std.proofs.Common.{sym, ◌∙◌}
use Rattle.std.specs.Str.{bytes_eq}
use Rattle.ecf_typing.proofs.TableLaws.{lookup_seen}
use Rattle.ecf_typing.proofs.names.NameMap.get.Goals as goal

pub returns : goal.returns
returns g c = let e = c.get.ensures.value in let f = c.copied.ensures in f ∙ e ∙ sym (lookup_seen (λ k. k.bytes.now) (bytes_eq c.args.name.now) c.args.self.now.entries.entries)
