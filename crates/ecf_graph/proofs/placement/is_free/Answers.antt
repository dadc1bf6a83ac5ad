use Rattle.std.proofs.Common.{not, sym, ap, ◌∙◌, inl, inr}
use Rattle.std.proofs.lemmas.Bool.{both_ways, cases_Bool}
use Rattle.ecf_graph.proofs.placement.is_free.Goals as goal

pub returns-then-contains-clause-yes : goal.returns-then-contains-clause-yes
returns-then-contains-clause-yes c e = (
  sym c.contains.ensures ∙ c.if-contains.true,
  elim (cases_Bool c.has_before.result) [
    | inl t ↦ absurd (both_ways _ (ap not t) e)
    | inr f ↦ c.has_before.ensures.no f
  ],
)

pub returns-then-contains-clause-no : goal.returns-then-contains-clause-no
returns-then-contains-clause-no c e _ = elim (cases_Bool c.has_before.result) [
  | inl t ↦ c.has_before.ensures.yes t
  | inr f ↦ absurd (both_ways _ e (ap not f))
]

pub returns-else-contains-clause-no : goal.returns-else-contains-clause-no
returns-else-contains-clause-no c _ h = absurd (both_ways _ (sym c.contains.ensures ∙ c.if-contains.false) h)
