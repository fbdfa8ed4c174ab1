-- Believed: which replies are failures, and which hold memory.
use Rattle.std.specs.Prelude.{Bool, true, false, nat_lt, Option, Some, None, Result, Ok, Err}
use Rattle.escrow_num.specs.declared.refusal.Refusal.{Refusal}
use Rattle.escrow_num.specs.declared.refusal.Refusal.TheVariants as refusal
use Rattle.escrow_machine.specs.declared.reply.Reply.{Reply}
use Rattle.escrow_machine.specs.declared.reply.Reply.TheVariants as reply
use Rattle.escrow_num.specs.declared.failure.Failure.{Failure}
use Rattle.escrow_num.specs.declared.failure.Failure.TheVariants as failure

-- the failure in a refusal, if it is one
abbrev pub failure_of_refusal : Refusal → Option Failure
failure_of_refusal refusal.Memory = Some failure.Memory
failure_of_refusal refusal.Store = Some failure.Store
failure_of_refusal _ = None

-- the failure in a reply, if it is one
abbrev pub failure_of : Reply → Option Failure
failure_of (reply.Refused r) = failure_of_refusal r
failure_of _ = None

-- whether a reply holds memory, which a copy takes too: the lists and the text in the replies to queries do
abbrev pub holds_memory : Reply → Bool
holds_memory (reply.Rows columns rows) = true
holds_memory (reply.Table text) = true
holds_memory (reply.Bounds columns checks) = true
holds_memory (reply.Journal entries) = true
holds_memory _ = false

-- whether a reply is a refusal
abbrev pub is_refused : Reply → Bool
is_refused (reply.Refused r) = true
is_refused _ = false

-- whether a reply says that the store was written
abbrev pub tells_write : Reply → Bool
tells_write (reply.Created name) = true
tells_write (reply.Dropped name) = true
tells_write (reply.Altered name) = true
tells_write reply.Inserted = true
tells_write reply.Deleted = true
tells_write reply.Updated = true
tells_write (reply.Committed count) = nat_lt 0 count
tells_write _ = false

-- the reply to a restart: it is done, or it is refused
abbrev pub restart_reply : Result (Unit {0}) Refusal → Reply
restart_reply (Ok done) = reply.Restarted
restart_reply (Err r) = reply.Refused r
