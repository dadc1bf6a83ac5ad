-- Writes one by one.
use Rattle.std.proofs.Common.{◌≡◌, ◌+◌, ◌∙◌, ap, sym, take, length, get_or, ℕ, zero, suc, ◌<◌, lt_irrefl, Result, Ok, Err}
use Rattle.std.specs.Result.{OnErr}
use Rattle.std.proofs.lemmas.Option.{slice_get-get_or}
use Rattle.ecf_lang.specs.declared.cell.Cell.{Cell}
use Rattle.ecf_lang.specs.Store.{Store, Cells, IsStore, set, put, with_writes}
use Rattle.ecf_stores.specs.StoreLaws.{put_keeps_store, one_more_write_is_put}

-- a store stays one where a number above 0 is set
pub set_keeps_store : (store : Store) (cell : Cell) (value : ℕ) → 0 < value → IsStore store → IsStore (set store cell value)
set_keeps_store store cell zero above is = absurd (lt_irrefl 0 above)
set_keeps_store store cell (suc n) above is = put_keeps_store store cell (suc n) is

-- one write more is a put into the store that the earlier ones left
pub one_more : (store before after : Store) (writes : Cells) (i : ℕ) (d : Cell × ℕ) → i < length writes → before ≡ with_writes store (take i writes) → after ≡ put before (get_or writes i d).0 (get_or writes i d).1
    → after ≡ with_writes store (take (i + 1) writes)
one_more store before after writes i d inside so_far one =
    one ∙ ap (λ (s : Store). put s (get_or writes i d).0 (get_or writes i d).1) so_far ∙ sym (one_more_write_is_put store writes i (get_or writes i d) (slice_get-get_or writes i d inside))

-- a fact, said of the error alone
pub on_err : {T E Q : Type 0} (result : Result T E) → Q → OnErr result Q
on_err (Ok value) fact = tt
on_err (Err error) fact = fact
