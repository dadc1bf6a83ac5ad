use Rattle.std.proofs.Common.{◌≡◌, length, drop}
use Rattle.ecf_faults.specs.Declarations.{lists_differ}
use Rattle.ecf_typing.proofs.MemberLaws.{types_of}
use Rattle.ecf_typing.proofs.member.lists_differ.Given as goal

-- the rest differs where the whole does
abbrev pub invariant-loop-i : goal.invariant-loop-i
invariant-loop-i l = record {
  lengths : length l.a ≡ length l.b;
  rest : lists_differ (types_of (drop l.i l.a)) (types_of (drop l.i l.b)) ≡ lists_differ (types_of l.a) (types_of l.b);
}
