-- The words name a file, and what came of showing it was delivered; or they are refused.
use Rattle.std.proofs.Common.{None, Some, refl, subst}
use Rattle.std.specs.Option.{option_map}
use Rattle.ecf_host.specs.declared.failure.Failure.TheVariants.{Refused}
use Rattle.ecf_host.specs.declared.refusal.Refusal.TheVariants.{Words}
use Rattle.ecf_host.specs.Served.{IsServed}
use Rattle.ecf_host.specs.Words.{Command}
use Rattle.ecf_host.specs.World.{world, source_state}
use Rattle.ecf_host.proofs.ServedLaws.{refused_served, show_served}
use Rattle.ecf_host.proofs.top.tool.Goals as goal

pub returns-in-Some : goal.returns-in-Some
returns-in-Some g c =
    let before = world g.F.Shelf g.S.Source g.K.Sink g.N.Sink c.args.shelf.now c.args.input.now c.args.out.now c.args.note.now in
    let after = world g.F.Shelf g.S.Source g.K.Sink g.N.Sink c.show-shown.new.shelf c.args.input.now c.deliver.new.out c.deliver.new.note in
    subst (λ file. IsServed (option_map Command.Show file) before after c.deliver.result) c.in-Some.ensures
    (show_served c.one_due.ensures c.in-Some.file.now before after _ c.deliver.result (c.show-shown.ensures (source_state g.S.Source c.args.input.now)) c.deliver.ensures)

pub returns-in-None : goal.returns-in-None
returns-in-None g c =
    let before = world g.F.Shelf g.S.Source g.K.Sink g.N.Sink c.args.shelf.now c.args.input.now c.args.out.now c.args.note.now in
    let after = world g.F.Shelf g.S.Source g.K.Sink g.N.Sink c.args.shelf.now c.args.input.now c.deliver-in-None.new.out c.deliver-in-None.new.note in
    subst (λ file. IsServed (option_map Command.Show file) before after c.deliver-in-None.result) c.in-None.ensures
    (refused_served c.one_due.ensures None before after (Refused Words) c.deliver-in-None.result (refl, refl) c.deliver-in-None.ensures)
