-- Believed: which statements are served whatever memory there is and whatever the store does.
use Rattle.std.specs.Prelude.{ℕ, Bool, true, false, ◌&&◌, ◌||◌, not, option_map, unwrap_or}
use Rattle.escrow_num.specs.declared.failure.Failure.TheVariants as failure
use Rattle.escrow_num.specs.declared.refusal.Refusal.TheVariants as refusal
use Rattle.escrow_statement.specs.declared.statement.Statement.{Statement}
use Rattle.escrow_statement.specs.declared.statement.Statement.TheVariants as statement
use Rattle.escrow_schema.specs.Plan.{is_in_place}
use Rattle.escrow_machine.specs.declared.reply.Reply.{Reply}
use Rattle.escrow_machine.specs.declared.reply.Reply.TheVariants as reply
use Rattle.escrow_machine.specs.Asked.{plan_of, reserves_beside}
use Rattle.escrow_machine.specs.State.{State}
use Rattle.escrow_machine.specs.Step.{step, fails_for}

-- whether a statement asks the store, which may refuse it
abbrev pub asks_store : State → ℕ → Statement → Bool
asks_store s session asked = fails_for s session asked failure.Store

-- whether a statement is answered from rows: it asks the store, or it is an UPDATE. An UPDATE that doesn't ask the
-- store uses the amounts that are kept of a row with an open reservation
abbrev pub reads_rows : State → ℕ → Statement → Bool
reads_rows s session (statement.Update text) = true
reads_rows s session asked = asks_store s session asked

-- whether a statement needs neither memory nor the store
abbrev pub needs_nothing : State → ℕ → Statement → Bool
needs_nothing s session asked = not (fails_for s session asked failure.Memory) && not (asks_store s session asked)

-- whether a refusal needs neither: 20, 21, 27, 33, 43 and 44, and 26 unless it refuses an UPDATE
abbrev pub is_plain_refusal : Statement → Reply → Bool
is_plain_refusal asked (reply.Refused refusal.TableExists) = true
is_plain_refusal asked (reply.Refused refusal.NoSuchTable) = true
is_plain_refusal asked (reply.Refused refusal.NoSuchConstraint) = true
is_plain_refusal asked (reply.Refused refusal.TableReserved) = true
is_plain_refusal asked (reply.Refused refusal.NoSuchSavepoint) = true
is_plain_refusal asked (reply.Refused refusal.TooManySavepoints) = true
is_plain_refusal (statement.Update text) (reply.Refused refusal.TransactionOpen) = false
is_plain_refusal asked (reply.Refused refusal.TransactionOpen) = true
is_plain_refusal asked _ = false

-- whether a statement is served whatever memory there is and whatever the store does: it needs neither, or its refusal
-- needs neither
abbrev pub is_promised : State → ℕ → Statement → Bool
is_promised s session asked = needs_nothing s session asked || is_plain_refusal asked (step s session asked).0

-- whether a statement is an UPDATE that is judged before it takes memory: its plan takes none, and reserves changes of
-- a row that has an open reservation, of any session
abbrev pub is_judged_first : State → Statement → Bool
is_judged_first s (statement.Update text) =
    reserves_beside s text && unwrap_or (option_map is_in_place (plan_of s text)) false
is_judged_first s asked = false
