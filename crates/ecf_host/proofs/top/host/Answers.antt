-- The words name a file: its contract was accepted, and what came of running it is what the status says; or it was refused.
use Rattle.std.proofs.Common.{Some, map, string_bytes, refl, sym, subst}
use Rattle.ecf_host.specs.Served.{IsServed}
use Rattle.ecf_host.specs.Words.{Command, run_or, tool_of}
use Rattle.ecf_host.specs.World.{world, source_state}
use Rattle.ecf_host.proofs.ServedLaws.{refused_served, run_served}
use Rattle.ecf_host.proofs.top.host.Goals as goal

pub returns-in-Ok : goal.returns-in-Ok
returns-in-Ok g c =
    let before = world g.F.Shelf g.S.Source g.K.Sink g.N.Sink c.args.shelf.now c.args.input.now c.args.out.now c.args.note.now in
    let after = world g.F.Shelf g.S.Source g.K.Sink g.N.Sink c.accept.new.shelf c.run_rounds-ran.new.input c.run_rounds-ran.new.out c.args.note.now in
    let accepted = c.in-Ok.ensures.accepted (source_state g.S.Source c.args.input.now) (source_state g.S.Source c.run_rounds-ran.new.input) in
    subst (λ file. IsServed (run_or file (tool_of (map string_bytes c.args.words.now))) before after c.status_of_run.result) c.in-Some.ensures
    (subst (IsServed (Some (Command.Run c.in-Some.file.now)) before after) (sym c.status_of_run.ensures)
    (run_served c.one_due.ensures c.has_journal.ensures c.along_places.ensures c.in-Some.file.now before after c.in-Ok.typed accepted refl c.run_rounds-ran.result c.run_rounds-ran.ensures))

pub returns-in-Err : goal.returns-in-Err
returns-in-Err g c =
    let before = world g.F.Shelf g.S.Source g.K.Sink g.N.Sink c.args.shelf.now c.args.input.now c.args.out.now c.args.note.now in
    let after = world g.F.Shelf g.S.Source g.K.Sink g.N.Sink c.accept.new.shelf c.args.input.now c.deliver.new.out c.deliver.new.note in
    subst (λ file. IsServed (run_or file (tool_of (map string_bytes c.args.words.now))) before after c.deliver.result) c.in-Some.ensures
    (refused_served c.one_due.ensures (Some (Command.Run c.in-Some.file.now)) before after c.in-Err.failure c.deliver.result (c.in-Err.ensures.refused (source_state g.S.Source c.args.input.now)) c.deliver.ensures)

pub returns-in-None : goal.returns-in-None
returns-in-None g c =
    let before = world g.F.Shelf g.S.Source g.K.Sink g.N.Sink c.args.shelf.now c.args.input.now c.args.out.now c.args.note.now in
    let after = world g.F.Shelf g.S.Source g.K.Sink g.N.Sink c.tool.new.shelf c.tool.new.input c.tool.new.out c.tool.new.note in
    subst (λ file. IsServed (run_or file (tool_of (map string_bytes c.args.words.now))) before after c.tool.result) c.in-None.ensures c.tool.ensures
