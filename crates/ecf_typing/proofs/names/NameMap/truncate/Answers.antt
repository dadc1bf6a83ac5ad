use Rattle.std.proofs.Common.{ap, ◌∙◌, map}
use Rattle.ecf_typing.proofs.TableLaws.{take_map}
use Rattle.ecf_typing.proofs.names.NameMap.truncate.Goals as goal

pub returns : goal.returns
returns g c = ap (map (λ e. (e.0.bytes.now, e.1))) c.truncate.ensures.entries ∙ take_map (λ e. (e.0.bytes.now, e.1)) c.args.len c.args.self.now.entries.entries
