use Rattle.std.proofs.Common.{◌≡◌, ℕ, Option, None, [], ◌∷◌, ◌++◌, unwrap_or, rules, ap, sym, subst, ◌∙◌}
use Rattle.ecf_lang.specs.Store.{Cells, find_cell, read}
use Rattle.ecf_lang.specs.Draft.{AgreesWith}
use Rattle.ecf_lang.specs.Part.{value_now}
use Rattle.ecf_progress.specs.Progress.{Progress}
use Rattle.ecf_progress.proofs.ReadLaws.{agrees_where_found, AgreesWith-push}
use Rattle.ecf_progress.proofs.state.RunState.value_now.Goals as goal

pub returns-in-Some-get-clause-value : goal.returns-in-Some-get-clause-value
returns-in-Some-get-clause-value g c =
    let store = g.R.CellRead.store c.self.inside.store.now in
    let unwritten : None ≡ find_cell c.self.inside.written.entries c.args.cell = first_of (search rules, cc) in
    sym (agrees_where_found store c.args.cell c.in-Some-get.value c.self.inside.reads c.self.invariant.1 (sym c.in-Some-get.ensures))
    ∙ ap (λ (found : Option ℕ). unwrap_or found (read store c.args.cell)) unwritten
    ∙ ap (λ (progress : Progress). value_now progress.backing.store progress.run c.args.cell) c.self.view_is

pub invariant_of-self : goal.invariant_of-self
invariant_of-self g c = (
  c.self.invariant.0,
  subst (λ (reads : Cells). AgreesWith reads (g.R.CellRead.store c.self.inside.store.now)) (sym c.in_err-push.ensures.kept) c.self.invariant.1,
  c.self.invariant.2,
)

pub invariant_of-self-2 : goal.invariant_of-self-2
invariant_of-self-2 g c =
    let pushed : c.push.new.self ≡ c.self.inside.reads ++ (c.args.cell, read (g.R.CellRead.store c.self.inside.store.now) c.args.cell) ∷ [] =
    c.in_ok-push.ensures.pushed ∙ ap (λ (value : ℕ). c.self.inside.reads ++ (c.args.cell, value) ∷ []) c.get-value.ensures in (
      c.self.invariant.0,
      subst (λ (reads : Cells). AgreesWith reads (g.R.CellRead.store c.self.inside.store.now)) (sym pushed) (AgreesWith-push (g.R.CellRead.store c.self.inside.store.now) c.self.inside.reads c.args.cell c.self.invariant.1),
      c.self.invariant.2,
    )
