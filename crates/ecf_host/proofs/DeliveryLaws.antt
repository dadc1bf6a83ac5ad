-- How far a text was put on a sink.
use Rattle.std.proofs.Common.{◌≡◌, ℕ, List, [], Option, Some, None, Result, Ok, Err, OnOk, refl, ap, sym}
use Rattle.std.proofs.lemmas.List.{append-nil}
use Rattle.ecf_edge.specs.Sink.{Grew, GrewByPrefix, faults_after_write}
use Rattle.ecf_edge.specs.declared.sink.WriteFault.{WriteFault}
use Rattle.ecf_edge.specs.declared.sink.WriteFault.TheVariants as write
use Rattle.ecf_host.specs.Delivery.{IsPut, status_after}
use Rattle.ecf_host.specs.Delivery.IsPut.{whole, failed, no_memory}
use Rattle.ecf_host.specs.World.{SinkState}

-- nothing is a first part of every text
pub nothing_grew : (held : Option (List ℕ)) → Grew held [] held
nothing_grew None = refl
nothing_grew (Some bytes) = ap Some (sym (append-nil bytes))

pub nothing_begun : (held : Option (List ℕ)) (text : List ℕ) → GrewByPrefix held text held
nothing_begun held text = record { written = []; rest = text; whole = refl; grew = nothing_grew held }

pub nothing_put : (sink : SinkState) (text : List ℕ) (due : ℕ) → IsPut sink sink text due 6
nothing_put sink text due = no_memory (nothing_begun sink.held text) refl

-- what a write of a whole text says, as one
pub is_put : (before after : SinkState) (text : List ℕ) (due : ℕ) (result : Result (Unit {0}) WriteFault) →
    OnOk result (Grew before.held text after.held) → GrewByPrefix before.held text after.held → after.faults ≡ faults_after_write before.faults result →
    IsPut before after text due (status_after due result)
is_put before after text due (Ok done) all part counted = whole all counted
is_put before after text due (Err write.Failed) all part counted = failed part counted
is_put before after text due (Err write.NoMemory) all part counted = no_memory part counted
