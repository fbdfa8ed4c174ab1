use Rattle.std.specs.Prelude.{◌≡◌, ℕ, false, Some, IsSomeAnd, List, [], length}
use Rattle.std.proofs.Common.{ap, refl, sym, subst, ◌∙◌}
use Rattle.escrow_num.specs.declared.refusal.Refusal.TheVariants as refusal
use Rattle.escrow_num.specs.declared.value.RowName.{RowName}
use Rattle.escrow_statement.specs.declared.statement.Statement.TheVariants as statement
use Rattle.escrow_bounds.specs.Counts.{Counts}
use Rattle.escrow_bounds.specs.Held.{CountsJust, of_row}
use Rattle.escrow_bounds.specs.Place.{Place}
use Rattle.escrow_bounds.specs.Bounds.{place_at}
use Rattle.escrow_schema.specs.Catalog.{place_named, table_named}
use Rattle.escrow_schema.specs.Column.{reservables}
use Rattle.escrow_schema.specs.declared.table.TableDef.{TableDef}
use Rattle.escrow_machine.specs.Asked.{named_by}
use Rattle.escrow_machine.specs.Bounds.{bounds_in, bounds_over}
use Rattle.escrow_machine.specs.State.{State, is_reserved}
use Rattle.escrow_machine.proofs.Safe.{some_at}
use Rattle.escrow_reserved.specs.Placed.{IsOfTable, amounts_named}
use Rattle.escrow_core.specs.Inside.{database_of}
use Rattle.escrow_core.specs.Database.{Database}
use Rattle.escrow_reserved.proofs.Places.{from_some, reserved_placed}
use Rattle.escrow_core.proofs.Queries.{bounds_answers, bounds_lack}
use Rattle.escrow_core.proofs.Serving.{answered, early_refused, left_by, look_answered, look_refused}
use Rattle.escrow_reserved.proofs.ShownBounds.{bounds_same, free_same}
use Rattle.escrow_core.proofs.database.Database.show_bounds.Given as given
use Rattle.escrow_core.proofs.database.Database.show_bounds.Goals as goal
use Rattle.escrow_core.proofs.database.Database.show_bounds.Goals.{After-bounds}

pub returns-in_err-place : goal.returns-in_err-place
returns-in_err-place g c = λ session.
    rw (left_by _ _ c.from_residual.ensures.1)
    (early_refused g.S.Store session (statement.ShowBounds c.args.text.now) c.args.self.now c.in_err-place.field-0.0 (sym (c.in_err-place.ensures.early session)))

-- the table of the named row
named : (g : given.Over) (c : After-bounds g) → table_named c.self.inside.tables.catalog c.args.text.now.table ≡ Some c.table-table.result.now
named g c = c.table-table.ensures.named c.args.text.now.table (rw (← c.self.view_is) at c.in_ok-place.ensures.place)

-- if the row is reserved, its place is of that table
of_table : (g : given.Over) (c : After-bounds g) → (place : Place) → place_at c.self.inside.reserved.places c.in_ok-name.name ≡ Some place → IsOfTable c.table-table.result.now place
of_table g c place at =
    let catalog = c.self.inside.tables.catalog in
    let same : c.in_ok-name.name.table ≡ c.args.text.now.table = ap (λ (n : RowName). n.table) c.in_ok-name.ensures in
    some_at (λ (t : TableDef). IsOfTable t place) (table_named catalog c.args.text.now.table) c.table-table.result.now (named g c)
    (subst (λ (n : List ℕ). IsSomeAnd (table_named catalog n) (λ (t : TableDef). IsOfTable t place)) same (c.self.invariant.keeps.of_tables c.in_ok-name.name place at))

pub row_bounds-requires-clause-of_table : goal.row_bounds-requires-clause-of_table
row_bounds-requires-clause-of_table g c =
    let at_bounds = (goal.at.row_bounds-requires-clause-of_table g c).After-bounds in
    rw c.bounds.ensures.places (λ place at. of_table g at_bounds place at)

pub returns-then-is_reserved : goal.returns-then-is_reserved
returns-then-is_reserved g c = λ session.
    let d = database_of c.self.inside.tables c.self.inside.reserved.txns in
    let text = c.args.text.now in
    let name = c.in_ok-name.name in
    let places = c.self.inside.reserved.places in
    let reservations = c.self.inside.reserved.txns.reservations in
    let at_bounds = (goal.at.returns-then-is_reserved g c).After-bounds in
    let table = c.table-table.result.now in
    let early = rw (← c.self.view_is) at (sym (c.in_ok-place.ensures.early session)) in
    let there = reserved_placed reservations places name c.self.invariant.keeps.placed (sym c.is_reserved.ensures ∙ c.if-is_reserved.true) in
    let is_name : name ≡ named_by d.state.catalog text.table text.row = rw (← c.self.view_is) at c.in_ok-name.ensures in
    rw (← c.self.view_is)
    (from_some (place_at places name) there (λ place at.
    let counts : Counts place (of_row name reservations) = subst (λ p. CountsJust p (of_row name reservations)) at (c.bounds.ensures.counted.counts name) in
    let at_now = rw (← c.bounds.ensures.places) at at in
    let of = of_table g at_bounds place at in
    let shown = c.in_ok-row_bounds.ensures place (of_row name reservations) at_now counts ∙ bounds_same table place.amounts name reservations c.table-table.ensures.table of.amounts in
    rw (shown, is_name)
    (answered g.S.Store session (statement.ShowBounds text) d _ refl early refl
    (λ clean. bounds_answers d.state session text table place.amounts early (named g at_bounds) (subst (λ (n : RowName). amounts_named d.state.rows n ≡ Some place.amounts) is_name (c.self.invariant.keeps.amounts clean name place at))))))

pub returns-in_default : goal.returns-in_default
returns-in_default g c = λ session.
    let d = c.args.self.now in
    let text = c.args.text.now in
    let early = sym (c.in_ok-place.ensures.early session) in
    look_refused g.S.Store session (statement.ShowBounds text) d c.amounts.new.self refusal.NoSuchRow c.amounts.ensures.only_reads refl early
    (λ u. bounds_lack d.state session text early (rw (c.in_default.is, c.in_ok-name.ensures) at (c.in_ok-amounts.ensures.told u)))

pub returns : goal.returns
returns g c = λ session.
    let d = c.args.self.now in
    let mid = c.amounts.new.self in
    let text = c.args.text.now in
    let table = c.table-table-2.result.now in
    let read = c.in_ok-name.name in
    let name = named_by d.state.catalog text.table text.row in
    let amounts = c.in-Some.amounts in
    let early = sym (c.in_ok-place.ensures.early session) in
    let is_name : read ≡ name = c.in_ok-name.ensures in
    let same : (database_of c.self-2.inside.tables c.self-2.inside.reserved.txns).state ≡ d.state = ap (λ (v : Database _). v.state) c.self-2.view_is ∙ c.amounts.ensures.only_reads.same in
    let placed = subst (λ (s : State). place_named s.catalog text.table ≡ Some c.in_ok-place.place) (sym same) c.in_ok-place.ensures.place in
    let named_now : table_named d.state.catalog text.table ≡ Some table = subst (λ (s : State). table_named s.catalog text.table ≡ Some table) same (c.table-table-2.ensures.named text.table placed) in
    let many : length amounts ≡ length (reservables table.columns) =
    some_at (λ (t : TableDef). length amounts ≡ length (reservables t.columns)) (table_named d.state.catalog text.table) table named_now (rw (c.in-Some.is, c.in_ok-name.ensures) at c.in_ok-amounts.ensures.many) in
    let free : is_reserved d.state name ≡ false =
    subst (λ (n : RowName). is_reserved d.state n ≡ false) is_name
    (subst (λ (v : Database _). is_reserved v.state read ≡ false) c.self.view_is (sym c.is_reserved.ensures ∙ c.if-is_reserved.false)) in
    let shown : c.in_ok-free_bounds.field-0 ≡ bounds_in d.state.reservations table name amounts =
    c.in_ok-free_bounds.ensures ∙ ap (bounds_over [] table) c.as_slice.ensures ∙ free_same table amounts name d.state.reservations c.table-table-2.ensures.table many free in
    rw shown
    (look_answered g.S.Store session (statement.ShowBounds text) d mid _ c.amounts.ensures.only_reads refl early refl
    (λ u. bounds_answers d.state session text table amounts early named_now (sym (rw (c.in-Some.is, c.in_ok-name.ensures) at (c.in_ok-amounts.ensures.told u)))))
