use Rattle.std.proofs.Common.{sym, arith}
use Rattle.ecf_typing.proofs.MemberLaws.{lengths_differ}
use Rattle.ecf_typing.proofs.member.lists_differ.Goals as goal

pub returns-then-a-b : goal.returns-then-a-b
returns-then-a-b c = sym (lengths_differ c.args.a.now c.args.b.now (λ same. omega arith))
