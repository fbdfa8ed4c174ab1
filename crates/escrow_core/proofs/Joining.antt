-- An event joins the waiting ones: its COMMIT is held back, or it is served beside them.
use Rattle.std.specs.Prelude.{◌≡◌, ◌<◌, ◌==◌, ℕ, true, false, IfSome, Option, Some, None, length}
use Rattle.std.specs.List.{list_any}
use Rattle.std.proofs.Common.{refl}
use Rattle.std.proofs.lemmas.Bool.{lt-ltb}
use Rattle.escrow_num.specs.Ascending.{IsAscending}
use Rattle.escrow_statement.specs.declared.statement.Statement.{Statement}
use Rattle.escrow_statement.specs.declared.statement.Statement.TheVariants as statement
use Rattle.escrow_journal.specs.Reservations.{own, savepoint_before}
use Rattle.escrow_machine.specs.declared.event.Event.TheVariants as event
use Rattle.escrow_machine.specs.declared.reply.Reply.{Reply}
use Rattle.escrow_machine.specs.declared.reply.Reply.TheVariants as reply
use Rattle.escrow_machine.specs.Held.{IsServedBeside, holds}
use Rattle.escrow_machine.specs.State.{State}
use Rattle.escrow_core.specs.Beside.{HeldBack, Joins, with_held}
use Rattle.escrow_core.proofs.Passing.{apart_from}

pub held_joins : (sure : Type 0) (session count place : ℕ) (held : HeldBack) (s : State) → list_any (λ entry. entry.0 == session) held.plan ≡ false
    → IsAscending savepoint_before s.savepoints → count ≡ length (own session s.reservations) → 0 < count
    → Joins sure (event.Statement session statement.Commit) place held s (reply.Committed count) (with_held held session place) s
held_joins sure session count place held s unnamed order is_count some = record {
  waiting = record { session = session; asked = statement.Commit; answer = reply.Committed count; is_held = true };
  is_event = refl;
  is_answer = refl;
  apart = apart_from session held.plan unnamed;
  in_order = order;
  is_later = refl;
  waits = λ _. let holds_some : holds s session ≡ true = rw (← is_count) (lt-ltb 0 count some) in record { is_commit = refl; holds_some = holds_some; is_answer = rw is_count refl; same = refl };
}

pub beside_joins : (sure : Type 0) (session : ℕ) (asked : Statement) (place : ℕ) (held : HeldBack) (before after : State) (answer : Option Reply) → list_any (λ entry. entry.0 == session) held.plan ≡ false
    → IsAscending savepoint_before before.savepoints → (sure → IfSome answer (λ reply. IsServedBeside session asked reply before after))
    → IfSome answer (λ reply. Joins sure (event.Statement session asked) place held before reply held after)
beside_joins sure session asked place held before after None unnamed order beside = tt
beside_joins sure session asked place held before after (Some answer) unnamed order beside = record {
  waiting = record { session = session; asked = asked; answer = answer; is_held = false };
  is_event = refl;
  is_answer = refl;
  apart = apart_from session held.plan unnamed;
  in_order = order;
  is_later = refl;
  waits = beside;
}
