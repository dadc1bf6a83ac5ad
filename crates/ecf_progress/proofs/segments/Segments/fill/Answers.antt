use Rattle.std.proofs.Common.{ℕ, List, [], ◌∷◌, ◌++◌, ap, ◌∙◌}
use Rattle.ecf_progress.specs.Segments.{Lists, with_top}
use Rattle.ecf_progress.proofs.SegmentLaws.{one_zero_more}
use Rattle.ecf_progress.proofs.segments.Segments.fill.Goals as goal

pub loop-preserved : goal.loop-preserved
loop-preserved c =
    c.in_ok-push.ensures
    ∙ ap (λ (lists : Lists). with_top lists (lists.top ++ 0 ∷ [])) c.loop.invariant
    ∙ ap (λ (list : List ℕ). with_top c.args.self.now list) (one_zero_more c.args.self.now.top c.loop.counter)
