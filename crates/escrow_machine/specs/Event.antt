-- Believed: when the session of an event is one that a database has.
use Rattle.escrow_num.specs.Session.{IsSession}
use Rattle.escrow_machine.specs.declared.event.Event.{Event}
use Rattle.escrow_machine.specs.declared.event.Event.TheVariants as event

-- the session of an event, if it has one, is from 1 to 64
abbrev pub HasSession : Event → Type 0
HasSession (event.Statement session asked) = IsSession session
HasSession event.Restart = Unit {0}
