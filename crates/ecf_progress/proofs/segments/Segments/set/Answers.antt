use Rattle.std.proofs.Common.{◌≡◌, ℕ, ◌-◌, List, Some, length, reverse, ap, sym, ◌∙◌}
use Rattle.std.specs.Prelude.{slice_get, slice_set}
use Rattle.ecf_progress.specs.Segments.{Lists, with_top}
use Rattle.ecf_progress.proofs.SegmentLaws.{lists_of, set_in_top}
use Rattle.ecf_progress.proofs.segments.Segments.set.Goals as goal

pub returns-in-Some : goal.returns-in-Some
returns-in-Some c =
    let last : slice_get c.self.inside.starts.items (length c.self.inside.starts.items - 1) ≡ Some c.in-Some.start.now =
    ap (λ (l : List ℕ). slice_get l (length l - 1)) (sym c.deref.ensures.value) ∙ sym c.in-Some.ensures.value in
    ap (λ (items : List ℕ). lists_of (reverse c.self.inside.starts.items) items) c.set_from.ensures
    ∙ set_in_top c.self.inside.starts.items c.self.inside.items.items c.in-Some.start.now c.args.n c.args.value last
    ∙ ap (λ (lists : Lists). with_top lists (slice_set lists.top c.args.n c.args.value)) c.self.view_is
