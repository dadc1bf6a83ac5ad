use Rattle.ecf_removed.proofs.RemovalLaws as proved
use Rattle.ecf_removed.proofs.each_repeats_next.Goals as goal

pub returns : goal.returns
returns c =
    let laws = c.known_laws.ensures in
    proved.each_repeats_next (record {
      undone = laws.undone;
      ends = laws.ends;
      reads = laws.reads;
      writes = laws.writes;
      committed = laws.committed;
      members = laws.members;
      placed = laws.placed;
      blocks = laws.blocks;
    })
