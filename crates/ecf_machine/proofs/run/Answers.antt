use Rattle.std.proofs.Common.{refl, ap, sym, ◌∙◌}
use Rattle.ecf_lang.specs.declared.limits.TheConstants.{MAX_FRAMES}
use Rattle.ecf_lang.specs.Meaning.{calls_of, initial_state}
use Rattle.ecf_machine.specs.declared.machine.Machine.{Machine}
use Rattle.ecf_machine.proofs.EntryLaws.{run_ends, run_kept}
use Rattle.ecf_machine.proofs.run.Goals as goal

pub returns : goal.returns
returns g c =
    let typed = c.args.typed.now in let store = g.R.CellRead.store c.args.store.now in let tx = c.args.tx.now in
    let machine : Machine g.row.R.Denot = record { state = c.in_ok-machine.machine.state; frame = c.in_ok-machine.machine.frame; locals = c.in_ok-machine.machine.locals; args = c.in_ok-machine.machine.args; tasks = c.push.new.self } in
    run_kept typed store tx _ _ _
    (ap (λ calls. calls_of typed store calls (initial_state tx.fuel)) (sym c.as_slice.ensures)
    ∙ run_ends {R = g.row.R.Denot} _ machine _ store tx.fuel (record { object = 0; inv = 0; room = MAX_FRAMES }) c.as_slice.result c.in_ok-outcome.ensures refl refl (rw (c.in_ok-push.ensures, c.in_ok-machine.ensures) refl))
    c.into_run.ensures
