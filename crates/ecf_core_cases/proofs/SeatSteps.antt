-- The calls of two seats.
use Rattle.std.proofs.Common.{[], ◌∷◌, refl}
use Rattle.ecf_core_cases.specs.TwoSeats.{first_claim, second_claim, TwoSeats}
use Rattle.ecf_core_cases.proofs.StepLaws.{stepping}

pub two_seats : TwoSeats
unfolding stepping
two_seats = record {
  claims = record { history = []; begins = ([], refl); said = refl; seen = refl; mine = refl };
  claims_too = record { history = first_claim ∷ []; begins = ([], refl); said = refl; seen = refl; mine = refl };
  commits = record { history = first_claim ∷ second_claim ∷ []; begins = (second_claim ∷ [], refl); said = refl; seen = refl; mine = refl };
  joined = refl;
}
