-- How many rows each submitter has, in a map.
use Rattle.std.specs.Prelude.{◌≡◌, ◌==◌, ℕ, ◌+◌, List, unwrap_or, count_by, if◌then◌else◌}
use Rattle.std.specs.Ordering.{nat_cmp}
use Rattle.std.specs.BTreeMap.{get, BTreeMap}
use Rattle.ecf_lang.specs.declared.tx.Tx.{Tx}
use Rattle.ecf_schedule_text.specs.Names.{is_from}

-- how many rows a submitter has
abbrev pub count_of : BTreeMap ℕ ℕ → ℕ → ℕ
count_of counts submitter = unwrap_or (get nat_cmp counts submitter) 0

-- the new map counts one more of this submitter, and of the others what the old one does
pub record CountsOneMore (old new : BTreeMap ℕ ℕ) (submitter : ℕ) : Type 0 where
  pub counts : (q : ℕ) → count_of new q ≡ count_of old q + (if submitter == q then 1 else 0)

-- the map counts the rows of each submitter
pub record CountsRows (txs : List Tx) (numbers : BTreeMap ℕ ℕ) : Type 0 where
  pub counts : (q : ℕ) → count_of numbers q ≡ count_by (is_from q) txs
