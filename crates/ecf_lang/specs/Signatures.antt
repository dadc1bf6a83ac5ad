-- What the signatures of a contract's method names say.
use Rattle.std.specs.Prelude.{ℕ, List, [], slice_get}
use Rattle.std.specs.Option.{option_map_or}
use Rattle.ecf_lang.specs.declared.tree.Ty.{Ty}
use Rattle.ecf_lang.specs.declared.typed.Typed.{Typed}
use Rattle.ecf_lang.specs.declared.typed.Signature.{Signature}

-- the types of the parameters of a method of that name; none where the name has no signature
abbrev pub params_of : Typed → ℕ → List Ty
params_of typed method = option_map_or (λ (s : Signature). s.params) (slice_get typed.signatures method) []
