use Rattle.std.proofs.Common.{arith}
use Rattle.std.proofs.lemmas.Grind.{get_or_default_zero}
use Rattle.ecf_rows.proofs.WordLaws.{put_in}
use Rattle.ecf_rows.proofs.words.put.Goals as goal

pub returns : goal.returns
returns c = put_in c.args.words.now.items c.args.i c.index_mut.result.now (grind arith) (grind (arith, get_or_default_zero))
