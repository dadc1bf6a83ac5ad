use Rattle.std.proofs.Common.{rules, ◌≡◌, ap, sym}
use Rattle.std.specs.Prelude.{codes}
use Rattle.ecf_events.specs.Line.{event_named}
use Rattle.ecf_schedule.proofs.WordLaws.{five_bytes, four_bytes, seven_bytes, six_bytes}
use Rattle.ecf_schedule.proofs.line.event_named.Goals as goal

pub returns-in-claim : goal.returns-in-claim
returns-in-claim c =
    let is : c.args.word.now ≡ codes "claim" =
    five_bytes c.args.word.now 99 108 97 105 109 c.in-claim.len_at_least c.in-claim.len_below
    (search rules) (search rules) (search rules) (search rules) (search rules) in
    ap (λ word. event_named word c.args.actor) (sym is)

pub returns-in-hand : goal.returns-in-hand
returns-in-hand c =
    let is : c.args.word.now ≡ codes "hand" =
    four_bytes c.args.word.now 104 97 110 100 c.in-hand.len_at_least c.in-hand.len_below
    (search rules) (search rules) (search rules) (search rules) in
    ap (λ word. event_named word c.args.actor) (sym is)

pub returns-in-take : goal.returns-in-take
returns-in-take c =
    let is : c.args.word.now ≡ codes "take" =
    four_bytes c.args.word.now 116 97 107 101 c.in-take.len_at_least c.in-take.len_below
    (search rules) (search rules) (search rules) (search rules) in
    ap (λ word. event_named word c.args.actor) (sym is)

pub returns-in-judge : goal.returns-in-judge
returns-in-judge c =
    let is : c.args.word.now ≡ codes "judge" =
    five_bytes c.args.word.now 106 117 100 103 101 c.in-judge.len_at_least c.in-judge.len_below
    (search rules) (search rules) (search rules) (search rules) (search rules) in
    ap (λ word. event_named word c.args.actor) (sym is)

pub returns-in-commit : goal.returns-in-commit
returns-in-commit c =
    let is : c.args.word.now ≡ codes "commit" =
    six_bytes c.args.word.now 99 111 109 109 105 116 c.in-commit.len_at_least c.in-commit.len_below
    (search rules) (search rules) (search rules) (search rules) (search rules) (search rules) in
    ap (λ word. event_named word c.args.actor) (sym is)

pub returns-in-here : goal.returns-in-here
returns-in-here c =
    let is : c.args.word.now ≡ codes "here" =
    four_bytes c.args.word.now 104 101 114 101 c.in-here.len_at_least c.in-here.len_below
    (search rules) (search rules) (search rules) (search rules) in
    ap (λ word. event_named word c.args.actor) (sym is)

pub returns-in-release : goal.returns-in-release
returns-in-release c =
    let is : c.args.word.now ≡ codes "release" =
    seven_bytes c.args.word.now 114 101 108 101 97 115 101 c.in-release.len_at_least c.in-release.len_below
    (search rules) (search rules) (search rules) (search rules) (search rules) (search rules) (search rules) in
    ap (λ word. event_named word c.args.actor) (sym is)

pub returns-in-lose : goal.returns-in-lose
returns-in-lose c =
    let is : c.args.word.now ≡ codes "lose" =
    four_bytes c.args.word.now 108 111 115 101 c.in-lose.len_at_least c.in-lose.len_below
    (search rules) (search rules) (search rules) (search rules) in
    ap (λ word. event_named word c.args.actor) (sym is)
