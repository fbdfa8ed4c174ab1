use Rattle.std.proofs.Common.{inr}
use Rattle.std.specs.Prelude.{codes}
use Rattle.escrow_server.proofs.program.tell_unclosed.Goals as goal

pub returns-in-Some : goal.returns-in-Some
returns-in-Some g c = inr (c.in-Some.rest.now, c.say.ensures)

pub returns : goal.returns
returns g c = inr (codes "a database can't be closed\n", c.say-in-Err.ensures)
