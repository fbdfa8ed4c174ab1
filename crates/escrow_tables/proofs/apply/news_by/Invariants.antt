use Rattle.escrow_tables.specs.Inside.{stored_of}
use Rattle.escrow_tables.proofs.Changed.{read}
use Rattle.escrow_tables.proofs.Putting.{ArePutSoFar}
use Rattle.escrow_tables.proofs.apply.news_by.Given as goal

abbrev pub invariant-loop-of_row : goal.invariant-loop-of_row
invariant-loop-of_row l = ArePutSoFar (stored_of l.tables) (read l.reservations) l.initial.of_row-iterator.rest.now l.of_row-iterator.rest.now l.news.items
