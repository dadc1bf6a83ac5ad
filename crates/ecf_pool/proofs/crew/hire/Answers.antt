use Rattle.std.proofs.Common.{rules, ℕ, ◌+◌, ◌-◌, ◌≤◌, ◌<◌, ◌^◌, false, [], ◌∷◌, ◌++◌, Some, sym, subst, arith, true≢false}
use Rattle.std.proofs.lemmas.List.Elements.{All-push, All-same}
use Rattle.ecf_pool.specs.declared.crew.Member.{Member}
use Rattle.ecf_pool.specs.Members.{IsMember}
use Rattle.ecf_pool.specs.Places.{share_of}
use Rattle.ecf_pool.proofs.ShareLaws.{halves}
use Rattle.ecf_pool.proofs.crew.hire.Goals as goal

pub halve-rest-requires-clause-share : goal.halve-rest-requires-clause-share
halve-rest-requires-clause-share g c =
    let below : c.loop-thread.thread < c.args.threads = c.loop-thread-test.true in
    let few = c.requires.few in
    (halves c.loop-thread.thread (share_of c.loop-thread.tools) (omega arith) c.loop-thread.invariant.1).0

pub loop-thread-preserved : goal.loop-thread-preserved
loop-thread-preserved g c =
    let below : c.loop-thread.thread < c.args.threads = c.loop-thread-test.true in
    let few = c.requires.few in
    let left = halves c.loop-thread.thread (share_of c.loop-thread.tools) (omega arith) c.loop-thread.invariant.1 in
    let P : Member → Type 0 = IsMember g.Q.Quit.may c.args.place.now in
    let member : Member = record { role = c.role_of.result; tools = Some c.halve-rest.result.1; gave_up = false } in (
      c.halve-rest.ensures.tools.0,
      subst (λ (s : ℕ). 2 ^ (32 - (c.loop-thread.thread + 1)) ≤ s) (sym c.halve-rest.ensures.first) left.1,
      All-same P c.push_reserved.new.self.items (c.loop-thread.members.items ++ member ∷ []) c.push_reserved.ensures.items
          (All-push P c.loop-thread.members.items member c.loop-thread.invariant.2 (record { tools = c.halve-rest.ensures.tools.1; cause = λ e. absurd (true≢false (sym e)) })),
      search rules,
      search rules,
    )
