use Rattle.std.proofs.Common.{◌<◌, length, take, sym, ◌∙◌, arith}
use Rattle.ecf_graph.specs.Pairs.{joins}
use Rattle.ecf_online.proofs.ClosureLaws.{closure_alike, room_same}
use Rattle.ecf_online.proofs.PairLaws.{joins_next}
use Rattle.ecf_online.proofs.reach.add_pairs.Goals as goal

pub loop-at-preserved : goal.loop-at-preserved
loop-at-preserved c =
    let pairs = c.args.pairs.now in
    let at = c.loop-at.at in
    let inside : at < length pairs = omega arith in
    record {
      from = omega (arith, c.loop-at.invariant.from);
      closure = λ h. closure_alike _ _ c.add_pair.new.rows.items (λ a b. sym (joins_next pairs at (0, 0) inside a b)) (c.add_pair.ensures.closure (joins (take at pairs)) (c.loop-at.invariant.closure h));
      shaped = c.add_pair.ensures.shaped;
      words = λ b. c.add_pair.ensures.words b ∙ c.loop-at.invariant.words b;
      reaching = c.add_pair.ensures.reaching;
      reaching_words = c.add_pair.ensures.reaching_words ∙ c.loop-at.invariant.reaching_words;
    }

pub add_pair-requires-clause-room : goal.add_pair-requires-clause-room
add_pair-requires-clause-room c = room_same c.args.rows.now.items c.loop-at.rows.items c.args.reaching.now c.loop-at.reaching c.loop-at.invariant.words c.loop-at.invariant.reaching_words c.requires.room
