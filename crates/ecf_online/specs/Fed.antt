-- What a monitor was fed, and how many steps it has room for.
use Rattle.std.specs.Prelude.{◌≡◌, ◌≤◌, ◌+◌, ◌*◌, ℕ, List, length, reverse, vec_len, vec_capacity}
use Rattle.indexmap.specs.IndexSet.{spare}
use Rattle.ecf_graph.specs.Rows.{is_in_row, is_member}
use Rattle.ecf_lang.specs.declared.run.Step.{Step}
use Rattle.ecf_online.specs.Watched.{HasSeen, IsWatched}
use Rattle.ecf_online.specs.declared.monitor.Monitor.{Monitor}

-- the number of steps that were fed
abbrev pub step_count : Monitor → ℕ
step_count m = m.count

-- the pairs that the steps added, in their order
abbrev pub added_pairs : Monitor → List (ℕ × ℕ)
added_pairs m = m.pairs.items

-- the monitor keeps what is to be kept of these steps, the newest first
abbrev pub Watches : List Step → Monitor → Type 0
Watches e m = IsWatched e m.cells.keys m.watches.items m.reads.items m.rows.items m.pairs.items m.count m.first

-- the monitor was fed the steps of the trace
pub record IsFed (t : List Step) (m : Monitor) : Type 0 where
  pub watched : Watches (reverse t) m
  pub seen : HasSeen (reverse t) m.seen m.above

-- there is room for so many steps more, once their invocations have rows with words
pub record HasRoom (n : ℕ) (m : Monitor) : Type 0 where
  pub cells : n ≤ spare m.cells
  pub watches : length m.cells.keys + n ≤ vec_capacity m.watches
  pub reads : vec_len m.reads + n ≤ vec_capacity m.reads
  pub pairs : 2 * (m.count + n) ≤ vec_capacity m.pairs
  pub reaching : m.width ≤ length m.reaching

-- all that is kept of the trace stayed
pub record KeepsTrace (old new : Monitor) : Type 0 where
  pub cells : new.cells.keys ≡ old.cells.keys
  pub watches : new.watches.items ≡ old.watches.items
  pub reads : new.reads.items ≡ old.reads.items
  pub pairs : new.pairs.items ≡ old.pairs.items
  pub rows : (b a : ℕ) → is_in_row new.rows.items b a ≡ is_in_row old.rows.items b a
  pub seen : (a : ℕ) → is_member new.seen a ≡ is_member old.seen a
  pub above : new.above ≡ old.above
  pub count : new.count ≡ old.count
  pub first : new.first ≡ old.first
