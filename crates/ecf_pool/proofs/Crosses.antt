-- Which types cross threads: the typed forms, which reach themselves, and what holds them, up to the book, its desk and the drafts.
-- Of each plain type the check shows it, in the type's `TheSendSync`.
use denote.Param.Send.{IsSend, IsSync, sendable}
use denote.Param.SendFields.{as_row_send, as_row_sync}
use Rattle.std.proofs.Crossing.{Arc-send, Arc-sync, crosses as std_crosses}
use Rattle.std.proofs.option.Option.TheSendSync as option
use Rattle.std.specs.contracts.alloc.Global as Heap
use Rattle.std.specs.contracts.impls.GlobalAllocator.TheImpl.{ghosts}
use Rattle.std.specs.contracts.sync.Arc as Arc
use Rattle.sqlite_items.proofs.boxed.Boxed.TheSendSync as boxed
use Rattle.sqlite_items.proofs.items.Items.TheSendSync as items
use Rattle.atomic_table.proofs.shared.Seat.TheSendSync as seat
use Rattle.ecf_book.specs.contracts.book.Book as Book
use Rattle.ecf_book.specs.contracts.book.Book.TheInside as BookInside
use Rattle.ecf_core.proofs.book.LogEntry.TheSendSync as log_entry
use Rattle.ecf_rows.proofs.rows.Rows.TheSendSync as rows
use Rattle.ecf_draft.proofs.drafts.Draft.TheSendSync as draft
use Rattle.ecf_handoff.proofs.handoff.Handoff.TheSendSync as handoff
use Rattle.ecf_turnstile.proofs.turnstile.Turnstile.TheSendSync as turnstile
use Rattle.ecf_pool.specs.contracts.crew.Member as Member
use Rattle.ecf_pool.specs.contracts.turn_desk.TurnDesk as TurnDesk
use Rattle.ecf_versions.proofs.versions.Versions.TheSendSync as versions
use Rattle.ecf_lang.specs.contracts.tx.Tx as Tx
use Rattle.ecf_lang.specs.contracts.typed.Typed as Typed
use Rattle.ecf_lang.specs.contracts.typed.TypedBlock as TypedBlock
use Rattle.ecf_lang.specs.contracts.typed.TypedExpr as TypedExpr
use Rattle.ecf_lang.specs.contracts.typed.TypedMethod as TypedMethod
use Rattle.ecf_lang.specs.contracts.typed.TypedObject as TypedObject
use Rattle.ecf_lang.proofs.name.Name.TheSendSync as name
use Rattle.ecf_lang.proofs.receipt.Entry.TheSendSync as entry
use Rattle.ecf_lang.proofs.tree.Op.TheSendSync as op
use Rattle.ecf_lang.proofs.tree.Ty.TheSendSync as ty
use Rattle.ecf_lang.proofs.tx.Tx.TheSendSync as tx
use Rattle.ecf_lang.proofs.typed.Assignee.TheSendSync as assignee
use Rattle.ecf_lang.proofs.typed.Place.TheSendSync as place
use Rattle.ecf_lang.proofs.typed.Signature.TheSendSync as signature
use Rattle.ecf_lang.proofs.typed.TypedField.TheSendSync as field
use Rattle.ecf_lang.proofs.typed.TypedCall.TheLaws.TheKnot as expressions
use Rattle.ecf_lang.proofs.typed.TypedStmt.TheLaws.TheKnot as statements

ruleset sends = (name.the_send, op.the_send, op.the_field_send, ty.the_field_send, assignee.the_field_send, place.the_field_send, signature.the_send, field.the_send, boxed.the_send, items.the_send, option.the_send, option.the_field_send, sendable)

ruleset syncs = (name.the_sync, op.the_sync, op.the_field_sync, ty.the_field_sync, assignee.the_field_sync, place.the_field_sync, signature.the_sync, field.the_sync, boxed.the_sync, items.the_sync, option.the_sync, option.the_field_sync, sendable)

-- a type that reaches itself: where it is a field, and then whole
expr_send : IsSend TypedExpr.the_field.row
expr_send = search (expressions.crosses, sends) depth 20

expr_sync : IsSync TypedExpr.the_field.row
expr_sync = search (expressions.crosses, syncs) depth 20

TypedExpr-send : IsSend TypedExpr.the_row
TypedExpr-send = as_row_send TypedExpr.the_field expr_send

TypedExpr-sync : IsSync TypedExpr.the_row
TypedExpr-sync = as_row_sync TypedExpr.the_field expr_sync

back_send : IsSend TypedBlock.the_field.row → IsSend TypedBlock.the_row
back_send = as_row_send TypedBlock.the_field

back_sync : IsSync TypedBlock.the_field.row → IsSync TypedBlock.the_row
back_sync = as_row_sync TypedBlock.the_field

block_send : IsSend TypedBlock.the_field.row
block_send = search (statements.crosses, expr_send, TypedExpr-send, back_send, expressions.crosses, sends) depth 20

block_sync : IsSync TypedBlock.the_field.row
block_sync = search (statements.crosses, expr_sync, TypedExpr-sync, back_sync, expressions.crosses, syncs) depth 20

-- what holds them, one type at a time
method_send : IsSend TypedMethod.the_row
method_send = search (block_send, sendable) depth 12

method_sync : IsSync TypedMethod.the_row
method_sync = search (block_sync, sendable) depth 12

object_send : IsSend TypedObject.the_row
object_send = search (method_send, sends) depth 12

object_sync : IsSync TypedObject.the_row
object_sync = search (method_sync, syncs) depth 12

pub Typed-send : IsSend Typed.the_row
Typed-send = search (object_send, sends) depth 12

pub Typed-sync : IsSync Typed.the_row
Typed-sync = search (object_sync, syncs) depth 12

-- an `Arc` of each, at the heap
pub Arc-Typed-send : IsSend (Arc.the_row Typed.the_row Heap.the_row ghosts)
Arc-Typed-send = Arc-send Typed.the_row Typed-send Typed-sync

pub Arc-Typed-sync : IsSync (Arc.the_row Typed.the_row Heap.the_row ghosts)
Arc-Typed-sync = Arc-sync Typed.the_row Typed-send Typed-sync

pub Arc-Tx-send : IsSend (Arc.the_row Tx.the_row Heap.the_row ghosts)
Arc-Tx-send = Arc-send Tx.the_row tx.the_send tx.the_sync

pub Arc-Tx-sync : IsSync (Arc.the_row Tx.the_row Heap.the_row ghosts)
Arc-Tx-sync = Arc-sync Tx.the_row tx.the_send tx.the_sync

-- the book, with all that it holds
book_parts_send : IsSend BookInside.the_row
book_parts_send = search (Arc-Typed-send, Arc-Tx-send, versions.the_send, rows.the_send, log_entry.the_send, entry.the_send, std_crosses, sendable) depth 20

pub Book-send : IsSend Book.the_row
Book-send = search (book_parts_send, sendable) depth 12

-- the desk, and a member of a crew with its tools
pub TurnDesk-sync : IsSync TurnDesk.the_row
TurnDesk-sync = search (Book-send, turnstile.the_field_sync, std_crosses, sendable) depth 20

pub Member-send : IsSend Member.the_row
Member-send = search (Book-send, draft.the_send, seat.the_send, option.the_send, std_crosses, sendable) depth 20

-- for a call that starts threads: `search crosses depth 20`
pub ruleset crosses = (TurnDesk-sync, Member-send, draft.the_send, handoff.the_sync, Typed-sync, std_crosses, sendable)
