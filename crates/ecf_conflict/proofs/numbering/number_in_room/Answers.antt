use Rattle.ecf_verdicts.specs.Conflicts.{same_cell}
use Rattle.ecf_conflict.specs.Numbering.{cell_number}
use Rattle.ecf_conflict.proofs.NumberLaws.{put_in}
use Rattle.ecf_conflict.proofs.numbering.number_in_room.Goals as goal

pub returns-clause-number : goal.returns-clause-number
unfolding same_cell cell_number
returns-clause-number c = c.in-Ok.ensures.index

pub returns-clause-put : goal.returns-clause-put
unfolding same_cell cell_number
returns-clause-put c = rw c.in-Ok.ensures.keys (put_in c.args.cells.now.keys c.args.cell)
