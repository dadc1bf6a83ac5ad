use Rattle.std.proofs.Common.{◌≡◌, ◌++◌, take}
use Rattle.std.specs.List.{flat_map}
use Rattle.ecf_texts.specs.Receipts.{order_text}
use Rattle.ecf_receipts.proofs.receipts.write_orders.Given as goal

abbrev pub invariant-loop-order : goal.invariant-loop-order
invariant-loop-order l = l.text.items ≡ l.fn.text.items ++ flat_map (order_text l.typed) (take l.order-index l.orders)
