use Rattle.std.proofs.Common.{◌≡◌, ℕ, None, ap, sym, ◌∙◌}
use Rattle.std.specs.Option.{option_copied_mut}
use Rattle.std.specs.BTreeMap.{BTreeMap}
use Rattle.ecf_lang.specs.declared.cell.Cell.{Cell}
use Rattle.ecf_lang.specs.Store.{find_cell}
use Rattle.ecf_progress.specs.Undo.{put_back}
use Rattle.ecf_progress.proofs.UndoLaws.{set_value_absent}
use Rattle.ecf_progress.proofs.state.put_back.Goals as goal

pub returns-in_default-get_mut : goal.returns-in_default-get_mut
returns-in_default-get_mut c =
    let written = c.args.written.now.entries in
    let absent : find_cell written c.args.cell ≡ None = sym c.get_mut.ensures.value ∙ ap option_copied_mut c.in_default-get_mut.is in
    ap (λ (map : BTreeMap Cell ℕ). map.entries) c.get_mut.follows.holds-at-none ∙ sym (set_value_absent c.args.cell written c.in-Some.value absent) ∙ ap (put_back written c.args.cell) (sym c.in-Some.is)
