use Rattle.std.proofs.Common.{Ok}
use Rattle.ecfhost.proofs.program.run.Goals as goal

pub returns-in-Ok : goal.returns-in-Ok
returns-in-Ok g c = (Ok c.in-Ok.words, c.in-Ok.ensures, rw (c.into.ensures, ← c.as_slice.ensures.value) c.host.ensures)
