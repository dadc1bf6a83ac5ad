-- In which order the transactions of a stream may be run.
use Rattle.std.specs.Prelude.{◌≡◌, ℕ, ◌<◌, ◌==◌, List, length, map, filter, filter_map, slice_get, slice_index, take, All, AllPairs, IsPermutation}
use Rattle.std.specs.List.{range_with_len}
use Rattle.ecf_lang.specs.declared.tx.Tx.{Tx}

-- the places of a list of transactions, from 0
abbrev pub places : List Tx → List ℕ
places txs = range_with_len 0 (length txs)

-- who submitted the transaction at a place
abbrev pub submitter_at : List Tx → ℕ → ℕ
submitter_at txs place = slice_index (map (λ (tx : Tx). tx.submitter) txs) place

-- of some places those of one submitter, in their order
abbrev pub of_submitter : List Tx → ℕ → List ℕ → List ℕ
of_submitter txs submitter ps = filter (λ p. submitter_at txs p == submitter) ps

-- a legal journal: the places of the transactions, each once, those of one submitter rising
pub record IsLegal (txs : List Tx) (journal : List ℕ) : Type 0 where
  pub each_once : IsPermutation (places txs) journal
  pub submitters_in_order : AllPairs (λ p q. submitter_at txs p ≡ submitter_at txs q → p < q) journal

-- a legal journal so far: of each submitter the first places, rising
pub record IsLegalSoFar (txs : List Tx) (journal : List ℕ) : Type 0 where
  pub known : All (λ p. p < length txs) journal
  pub first_ones : (submitter : ℕ) →
      of_submitter txs submitter journal ≡ take (length (of_submitter txs submitter journal)) (of_submitter txs submitter (places txs))

-- the transactions at these places, in their order
abbrev pub along : List Tx → List ℕ → List Tx
along txs journal = filter_map (λ p. slice_get txs p) journal
