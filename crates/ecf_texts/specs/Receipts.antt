-- The texts of receipts.
use Rattle.std.specs.Prelude.{ℕ, List, ◌++◌, codes, decimal}
use Rattle.std.specs.List.{flat_map}
use Rattle.ecf_lang.specs.declared.run.Cause.{Cause}
use Rattle.ecf_lang.specs.declared.run.Cause.TheVariants.{User, Overflow, DivZero, NoMethod, Depth, Calls}
use Rattle.ecf_lang.specs.declared.typed.Typed.{Typed}
use Rattle.ecf_lang.specs.declared.receipt.Order.{Order}
use Rattle.ecf_lang.specs.declared.receipt.Receipt.{Receipt}
use Rattle.ecf_lang.specs.declared.receipt.Receipt.TheVariants.{Committed, Reverted, OutOfFuel, Vetoed, Barred}
use Rattle.ecf_texts.specs.Words.{object_name}

-- why a run reverted
abbrev pub cause_text : Cause → List ℕ
cause_text (User number) = codes "user " ++ decimal number
cause_text Overflow = codes "overflow"
cause_text DivZero = codes "divzero"
cause_text NoMethod = codes "nomethod"
cause_text Depth = codes "depth"
cause_text Calls = codes "calls"

-- each number after a space
abbrev pub numbers_text : List ℕ → List ℕ
numbers_text numbers = flat_map (λ n. codes " " ++ decimal n) numbers

-- the order named for an object, after a space
abbrev pub order_text : Typed → Order → List ℕ
order_text typed order = codes " order " ++ object_name typed order.object ++ numbers_text order.invs

-- what became of a transaction
abbrev pub receipt_text : Typed → Receipt → List ℕ
receipt_text typed (Committed answer fuel orders) =
    codes "committed " ++ decimal answer ++ codes " fuel " ++ decimal fuel ++ flat_map (order_text typed) orders
receipt_text typed (Reverted cause fuel) = codes "reverted " ++ cause_text cause ++ codes " fuel " ++ decimal fuel
receipt_text typed (OutOfFuel fuel) = codes "outoffuel fuel " ++ decimal fuel
receipt_text typed (Vetoed object at cycle fuel) =
    codes "vetoed " ++ object_name typed object ++ codes " at " ++ decimal at
    ++ codes " cycle" ++ numbers_text cycle ++ codes " fuel " ++ decimal fuel
receipt_text typed (Barred watch fuel) = codes "barred " ++ decimal watch ++ codes " fuel " ++ decimal fuel
