use Rattle.escrow_rows.proofs.Images.{image_migrated}
use Rattle.escrow_rows.proofs.Runs.{writes_as}
use Rattle.escrow_rows.proofs.store.RowStore.migrate.Goals as goal

pub returns : goal.returns
returns g c = writes_as g.S.Store c.self.inside.conn c.args.self.now c.migrate.new.conn _ _ _ c.self.view_is image_migrated c.migrate.ensures.writes
