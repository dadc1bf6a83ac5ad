-- A store's own cells, written over none, give it.
use Rattle.std.proofs.Common.{◌∙◌, ap}
use Rattle.ecf_lang.specs.Store.{with_writes}
use Rattle.ecf_versions.proofs.PutLaws.{own_writes}
use Rattle.ecf_versions.proofs.versions.root_of.Goals as goal

pub returns : goal.returns
returns c = c.in_ok-root.ensures.cells ∙ ap (λ store. with_writes store c.args.cells.now) c.empty.ensures ∙ own_writes c.args.cells.now c.requires
