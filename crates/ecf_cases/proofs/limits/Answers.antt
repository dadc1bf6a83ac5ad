use Rattle.std.proofs.Common.{refl}
use Rattle.std.specs.Prelude.{length}
use Rattle.std.proofs.lemmas.Bool.{le-ltb, lt-ltb}
use Rattle.ecf_lang.specs.declared.limits.TheConstants.{MAX_INVOCATIONS}
use Rattle.ecf_lang.specs.Meaning.{ways}
use Rattle.ecf_cases.specs.Limits.{DepthBeforeAll, DepthBeforeMethod, InvocationsBeforeMethod, MethodAtLast, InternalMethod}
use Rattle.ecf_cases.proofs.limits.Goals as goal

depth_before_all : DepthBeforeAll
unfolding ways
depth_before_all typed store to name args s = refl

depth_before_method : DepthBeforeMethod
unfolding ways
depth_before_method typed store here inv name args s = refl

invocations_before_method : InvocationsBeforeMethod
unfolding ways
invocations_before_method typed store room to name args s full = rw (le-ltb (length s.invocations) MAX_INVOCATIONS full)

method_at_last : MethodAtLast
unfolding ways
method_at_last typed store room to name args s few missing = rw (missing, lt-ltb (length s.invocations) MAX_INVOCATIONS few)

internal_method : InternalMethod
unfolding ways
internal_method typed store room here inv name args s missing = rw missing refl

pub returns : goal.returns
returns c = record {
  depth_before_all = depth_before_all;
  depth_before_method = depth_before_method;
  invocations_before_method = invocations_before_method;
  method_at_last = method_at_last;
  internal_method = internal_method;
}
