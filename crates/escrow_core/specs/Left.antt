-- Believed: what a crash leaves of a list of events.
use Rattle.std.specs.Prelude.{◌≡◌, ◌⊎◌, false, IsSome, List, [], ◌∷◌, ◌++◌}
use Rattle.std.specs.List.{AllByRecursion}
use Rattle.sqlite.specs.State.{State as Store, HasCleanDisk}
use Rattle.sqlite_trees.specs.Tree.{Trees}
use Rattle.escrow_machine.specs.declared.event.Event.{Event}
use Rattle.escrow_machine.specs.declared.reply.Reply.{Reply}
use Rattle.escrow_machine.specs.Reply.{failure_of, tells_write}
use Rattle.escrow_machine.specs.State.{State}
use Rattle.escrow_machine.specs.Step.{IsRun}
use Rattle.escrow_core.specs.Serves.{AreHeldOf}

-- first replies as a crash counts them. Each is the reply that was given; or the given reply is a failure, for memory
-- or by the store, and the statement counts as served after all
abbrev pub AreCounted : List Reply → List Reply → Type 0
AreCounted [] given = Unit {0}
AreCounted (one ∷ counted) [] = ⊥
AreCounted (one ∷ counted) (answer ∷ given) = ((one ≡ answer) ⊎ IsSome (failure_of answer)) × AreCounted counted given

-- WHAT A CRASH LEAVES: the disk has a database that holds the tables and rows after some first of the events. These had
-- the replies that were given, except that an event that failed may count as served
pub record AreAfterSome (s : State) (events : List Event) (given : List Reply) (trees : Trees) : Type 0 where
  pub first : List Event
  pub rest : List Event
  pub is_events : events ≡ first ++ rest
  pub counted : List Reply
  pub are_counted : AreCounted counted given
  pub now : State
  pub ran : IsRun s first counted now
  pub held : AreHeldOf now trees

-- none of these replies says that the store was written
abbrev pub TellNoWrite : List Reply → Type 0
TellNoWrite replies = AllByRecursion (λ answer. tells_write answer ≡ false) replies

-- NO ANSWERED WRITE IS MISSING: the same, and the given replies are those that count, up to the last one that says that
-- the store was written
pub record AreAfterAnswered (s : State) (events : List Event) (given : List Reply) (trees : Trees) : Type 0 where
  pub some : AreAfterSome s events given trees
  pub sure : List Reply
  pub unsure : List Reply
  pub is_given : given ≡ sure ++ unsure
  pub as_given : (behind : List Reply) × (some.counted ≡ sure ++ behind)
  pub none_missing : TellNoWrite unsure

-- what a crash leaves after a call, if the disk has returned what was written: what it might have left before, if the
-- call has written nothing; or what the call makes
abbrev pub Lasts : Store → Store → Type 0 → (Trees → Type 0) → Type 0
Lasts old new WroteNothing Makes =
    HasCleanDisk new → (trees : Trees) → new.may_leave trees → (WroteNothing × old.may_leave trees) ⊎ Makes trees
