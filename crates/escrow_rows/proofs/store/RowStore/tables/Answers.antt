use Rattle.escrow_rows.proofs.Listings.{tables_told_of}
use Rattle.escrow_rows.proofs.store.RowStore.tables.Goals as goal

pub returns-clause-told : goal.returns-clause-told
returns-clause-told g c =
    λ clean.
    tables_told_of g.S.Store c.self.inside.conn c.args.self.now c.tabs.new.conn c.self.view_is (λ v. v.items) c.in_ok-rows.rows.items c.as_slice.result.now c.listed_tables.result
    c.as_slice.ensures.value (c.in_ok-rows.ensures.is_open clean) (c.in_ok-rows.ensures.rows clean) c.listed_tables.ensures
