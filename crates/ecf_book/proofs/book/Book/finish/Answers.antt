use Rattle.ecf_book.proofs.EndLaws.{freed_all, finished, left_off}
use Rattle.ecf_book.proofs.FindLaws.{on_ok_map, on_err_map}
use Rattle.ecf_book.proofs.book.Book.finish.Goals as goal

pub place_open-requires : goal.place_open-requires
place_open-requires c = (freed_all c.finish_ends.ensures c.reclaim_frees_all.ensures c.args.self.now c.reclaim.new.self c.reclaim.result c.know_history.ensures.legal c.reclaim.ensures).legal

pub returns-clause-ok : goal.returns-clause-ok
returns-clause-ok c =
    let freed = freed_all c.finish_ends.ensures c.reclaim_frees_all.ensures c.args.self.now c.reclaim.new.self c.reclaim.result c.know_history.ensures.legal c.reclaim.ensures in
    on_ok_map c.place_open.result (finished c.args.self.now c.reclaim.new.self c.place_open.new.self c.reclaim.result c.reclaim.ensures freed) c.place_open.ensures.ok

pub returns-clause-err : goal.returns-clause-err
returns-clause-err c =
    let freed = freed_all c.finish_ends.ensures c.reclaim_frees_all.ensures c.args.self.now c.reclaim.new.self c.reclaim.result c.know_history.ensures.legal c.reclaim.ensures in
    on_err_map c.place_open.result (left_off c.args.self.now c.reclaim.new.self c.place_open.new.self c.reclaim.result c.reclaim.ensures freed) c.place_open.ensures.err
