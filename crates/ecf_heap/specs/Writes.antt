-- What several writes may leave when they end early.
use Rattle.std.specs.Prelude.{◌≡◌, ℕ, ◌<◌, length, take}
use Rattle.ecf_lang.specs.Store.{Store, Cells, with_writes}

-- the store after the first writes, and not after all
pub record HasFirstWrites (old : Store) (writes : Cells) (new : Store) : Type 0 where
  pub count : ℕ
  pub not_all : count < length writes
  pub store : new ≡ with_writes old (take count writes)
