-- Helps: what is done at the two ends of the channel to a worker.
use Rattle.std.specs.Prelude.{◌≡◌, List, [], ◌∷◌, ◌++◌, Option, Some, None}
use Rattle.crossbeam_channel.specs.Claims.{view}
use Rattle.crossbeam_channel.specs.Ends.{sends_on, receives_on}
use Rattle.escrow_statement.specs.declared.statement.Request.{Request}
use Rattle.escrow_sessions.specs.declared.channel.Sender.{Sender}
use Rattle.escrow_sessions.specs.declared.channel.Receiver.{Receiver}
use Rattle.escrow_sessions.specs.declared.rule.Item.{Item}
use Rattle.escrow_sessions.specs.declared.rule.Item.TheVariants.{One, End}

-- what was sent, and what was received
abbrev pub sent_on : Sender → List Item
sent_on sender_end = (view sender_end.pass).sent

abbrev pub taken_on : Receiver → List Item
taken_on receiver_end = (view receiver_end.pass).taken

-- the ends of one new channel
pub record AreNew (sender_end : Sender) (receiver_end : Receiver) : Type 0 where
  pub channel : receives_on receiver_end.receiver ≡ sends_on sender_end.sender
  pub sent : sent_on sender_end ≡ []
  pub taken : taken_on receiver_end ≡ []

-- a message was sent
pub record IsSent (old : Sender) (x : Item) (new : Sender) : Type 0 where
  pub channel : sends_on new.sender ≡ sends_on old.sender
  pub sent : sent_on new ≡ sent_on old ++ x ∷ []

-- the message for a request, and the one for none
abbrev pub item_of : Option Request → Item
item_of (Some r) = One r
item_of None = End

-- a worker's end returns what it receives: a request, or none at the end
pub record IsTaken (old : Receiver) (r : Option Request) (new : Receiver) : Type 0 where
  pub channel : receives_on new.receiver ≡ receives_on old.receiver
  pub taken : taken_on new ≡ taken_on old ++ item_of r ∷ []

abbrev pub gives_taken : Receiver → Option Request → Receiver → Type 0
gives_taken = IsTaken
