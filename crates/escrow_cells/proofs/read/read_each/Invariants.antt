use Rattle.std.proofs.Common.{◌≡◌}
use Rattle.sqlite.specs.Values.{bound}
use Rattle.escrow_cells.proofs.Streaming.{IsTaking}
use Rattle.escrow_cells.proofs.read.read_each.Given as goal

abbrev pub invariant-rows : goal.invariant-rows
invariant-rows g l =
    (l.rows.conn.ghost_name ≡ l.initial.rows.conn.ghost_name)
    × IsTaking g.S.Store g.K.Sink.has_taken l.sql (bound l.params) l.fn.conn l.fn.sink l.rows.conn.now l.sink
