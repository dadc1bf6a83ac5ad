use Rattle.std.proofs.Common.{refl, ap, sym, ◌∙◌}
use Rattle.ecf_lang.specs.Part.{begin}
use Rattle.ecf_lang.specs.Meaning.{initial_state}
use Rattle.ecf_machine.specs.declared.machine.Machine.{Machine}
use Rattle.ecf_machine.proofs.EntryLaws.{lone_ends, lone_kept}
use Rattle.ecf_machine.proofs.run_one.Goals as goal

pub returns : goal.returns
returns g c =
    let typed = c.args.typed.now in let store = g.R.CellRead.store c.args.store.now in let invocation = c.args.invocation.now in
    let machine : Machine g.row.R.Denot = record { state = c.begin.new.self; frame = c.in_ok-machine.machine.frame; locals = c.in_ok-machine.machine.locals; args = c.open_with.new.self; tasks = c.in_ok-machine.machine.tasks } in
    lone_kept typed store c.args.inv invocation _ _ _
    (lone_ends {R = g.row.R.Denot} _ machine _ store invocation c.as_slice.result _ (c.in_ok-first.ensures.same ∙ c.in_ok-outcome.ensures) refl c.as_slice.ensures
    (ap (λ args. begin invocation.object invocation.method args (initial_state invocation.own_fuel)) (sym (c.in_ok-args.ensures ∙ c.as_slice-2.ensures))
    ∙ ap (λ m. begin invocation.object invocation.method c.in_ok-args.args m.state.run) (sym c.in_ok-machine.ensures) ∙ c.in_ok-begin.ensures.begun)
    (ap (λ b. b.store) c.in_ok-begin.ensures.backing ∙ ap (λ m. m.state.backing.store) c.in_ok-machine.ensures)
    (ap (λ m. m.frame) c.in_ok-machine.ensures) (ap (λ l. l.top) c.in_ok-open_with.ensures ∙ c.as_slice-3.ensures) (ap (λ m. m.tasks) c.in_ok-machine.ensures))
    c.into_lone.ensures
