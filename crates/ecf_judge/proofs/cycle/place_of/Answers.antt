use Rattle.std.proofs.Common.{◌<◌, ◌++◌, length, take, sym, ap, ◌∙◌, arith}
use Rattle.std.proofs.lemmas.List.{append-nil}
use Rattle.ecf_judge.proofs.WalkLaws.{from_here, from_there, from_end, until_here, until_more, from_all, until_all}
use Rattle.ecf_judge.proofs.cycle.place_of.Goals as goal

pub loop-place-preserved : goal.loop-place-preserved
loop-place-preserved c =
    let inside : c.loop-place.place < length c.args.list.now = omega arith in
    record {
      from_is = from_there c.args.i c.args.list.now c.loop-place.place inside c.if-i-list.false ∙ c.loop-place.invariant.from_is;
      until_is = until_more c.args.i c.args.list.now c.loop-place.place inside c.if-i-list.false ∙ c.loop-place.invariant.until_is;
    }

pub returns-then-i-list-clause-from : goal.returns-then-i-list-clause-from
returns-then-i-list-clause-from c =
    let inside : c.loop-place.place < length c.args.list.now = omega arith in
    sym (from_here c.args.i c.args.list.now c.loop-place.place inside c.if-i-list.true) ∙ c.loop-place.invariant.from_is

pub returns-then-i-list-clause-until : goal.returns-then-i-list-clause-until
returns-then-i-list-clause-until c =
    let inside : c.loop-place.place < length c.args.list.now = omega arith in
    sym (append-nil (take c.loop-place.place c.args.list.now)) ∙ (ap (λ l. take c.loop-place.place c.args.list.now ++ l) (sym (until_here c.args.i c.args.list.now c.loop-place.place inside c.if-i-list.true)) ∙ c.loop-place.invariant.until_is)

pub returns-clause-from : goal.returns-clause-from
returns-clause-from c = sym (from_end c.args.i c.args.list.now (length c.args.list.now) (omega arith)) ∙ from_all c.args.i c.args.list.now c.loop-place.place (omega arith) c.loop-place.invariant.from_is

pub returns-clause-until : goal.returns-clause-until
returns-clause-until c = until_all c.args.i c.args.list.now c.loop-place.place (omega arith) c.loop-place.invariant.until_is
