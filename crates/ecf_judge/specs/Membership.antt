-- Which invocations have steps on an object, as far as a judge has to know.
use Rattle.std.specs.Prelude.{◌≡◌, ℕ, ◌==◌, if◌then◌else◌, Bool, true, List, [], ◌∷◌, slice_index_or}
use Rattle.std.specs.List.{list_all}
use Rattle.ecf_judge.specs.declared.membership.Membership.{Membership}
use Rattle.ecf_judge.specs.declared.membership.Membership.TheVariants.{Nobody, Only, Several}
use Rattle.ecf_lang.specs.declared.run.Step.{Step}
use Rattle.ecf_verdicts.specs.Traces.{trace}

-- with one step more of an invocation
unfoldable pub with_member : Membership → ℕ → Membership
with_member Nobody inv = Only inv
with_member (Only first) inv = if first == inv then Only first else Several
with_member Several inv = Several

-- with the steps of a trace
unfoldable pub membership_from : Membership → List Step → Membership
membership_from members [] = members
membership_from members (s ∷ later) = membership_from (with_member members s.inv) later

-- of a trace: no invocation, one, or several
abbrev pub membership : List Step → Membership
membership t = membership_from Nobody t

-- all steps are of one invocation
unfoldable pub are_of_one : List Step → Bool
are_of_one [] = true
are_of_one (s ∷ rest) = list_all (λ (u : Step). u.inv == s.inv) rest

-- for each object with several invocations its trace
abbrev pub TracesAre : List Step → List Membership → List (List Step) → Type 0
TracesAre steps table traces = (o : ℕ) → slice_index_or table o Nobody ≡ Several → slice_index_or traces o [] ≡ trace steps o
