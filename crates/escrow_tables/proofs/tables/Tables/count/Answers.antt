use Rattle.std.proofs.Common.{◌∙◌, ap, length}
use Rattle.escrow_num.proofs.Items.{all_has}
use Rattle.escrow_schema.specs.Rows.{rows_of}
use Rattle.escrow_rows.specs.View.{rows_in}
use Rattle.sqlite.specs.Held.{state}
use Rattle.escrow_tables.specs.Inside.{HasCount, stored_of}
use Rattle.escrow_tables.proofs.Placed.{is_placed, item_at, length_kept}
use Rattle.escrow_tables.proofs.tables.Tables.count.Goals as goal

pub at-requires : goal.at-requires
at-requires g c = length_kept c.self.inside.catalog c.args.place (rw (← c.self.view_is) at c.requires)

pub returns : goal.returns
returns g c =
    let tables = c.self.inside.catalog in
    let counted = c.at.result.now in
    let rows = rows_in (stored_of tables) (state g.S.Store c.self.inside.last.value).now in
    rw (← c.self.view_is) (λ clean name at.
    let named = (is_placed tables name c.args.place counted at (item_at c.self.inside.catalog c.args.place c.at.result.now c.at.ensures.at)).named in
    all_has (HasCount rows) tables (c.self.invariant.held clean).counts counted named.has ∙ ap (λ n. length (rows_of rows n)) named.name_is)
