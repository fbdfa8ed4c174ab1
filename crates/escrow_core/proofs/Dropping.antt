-- DROP TABLE: open reservations or the catalog refuse it, or one write removes the table and its rows.
use Rattle.std.specs.Prelude.{◌≡◌, ℕ, Bool, true, false, not, bytes_eq, is_some, is_none, option_map, Option, Some, None, List}
use Rattle.std.proofs.Common.{refl, sym, ap, ◌∙◌}
use Rattle.std.proofs.lemmas.Bool.{false≢true, false_from_ne_true}
use Rattle.sqlite_trees.specs.declared.store.Store.{Ghosts}
use Rattle.escrow_num.specs.declared.refusal.Refusal.TheVariants as refusal
use Rattle.escrow_num.specs.declared.reservation.Reservation.{Reservation}
use Rattle.escrow_num.specs.declared.row.Row.{Row}
use Rattle.escrow_num.specs.declared.value.RowName.{RowName}
use Rattle.escrow_num.specs.Order.{same_row}
use Rattle.escrow_num.proofs.Orders.{row_same}
use Rattle.escrow_num.specs.Refusal.{refuse_if, first_refusal}
use Rattle.escrow_statement.specs.declared.statement.Statement.TheVariants as statement
use Rattle.escrow_schema.specs.declared.table.TableDef.{TableDef}
use Rattle.escrow_schema.specs.Catalog.{table_named}
use Rattle.escrow_machine.specs.declared.reply.Reply.TheVariants as reply
use Rattle.escrow_core.specs.Database.{Database}
use Rattle.escrow_machine.specs.Accepted.{PassesEarly}
use Rattle.escrow_schema.specs.Rows.{row_named, without_rows_of}
use Rattle.escrow_machine.specs.State.{State, is_open, is_reserved, is_table_reserved}
use Rattle.escrow_machine.specs.Step.{step}
use Rattle.escrow_machine.specs.Transition.{transition_of, after_drop}
use Rattle.escrow_machine.proofs.Accepted.{DropStands, drop_stands}
use Rattle.escrow_core.proofs.Serving.{MayWrite, accepted_step, none_applies}
use Rattle.escrow_machine.proofs.Kept.{find_filter}
use Rattle.escrow_machine.proofs.ValidDrop.{drop_orderly, drop_valid, other_table}
use Rattle.escrow_reserved.proofs.Places.{any_weaker}

is_there : (named : Option TableDef) → is_some named ≡ true → is_none named ≡ false
is_there None e = absurd (cc)
is_there (Some table) e = refl

-- the refusals that remain if the session has no open transaction and the table exists
pub left_to_reserved : (s : State) (session : ℕ) (name : List ℕ) (reserved : Bool) → is_open session s ≡ false
    → is_some (table_named s.catalog name) ≡ true → is_table_reserved s name ≡ reserved
    → first_refusal (transition_of s session (statement.Drop name)).early ≡ refuse_if reserved refusal.TableReserved
unfolding transition_of
left_to_reserved s session name true closed found is = rw (closed, is_there (table_named s.catalog name) found, is) refl
left_to_reserved s session name false closed found is = rw (closed, is_there (table_named s.catalog name) found, is) refl

-- what is known if no early refusal applies
pub stands : (s : State) (session : ℕ) (name : List ℕ) → PassesEarly s session (statement.Drop name) → DropStands s name
unfolding transition_of
stands s session name early = drop_stands s session name (none_applies s session (statement.Drop name) early refl)

dropped_step : (s : State) (session : ℕ) (name : List ℕ) → PassesEarly s session (statement.Drop name) → step s session (statement.Drop name) ≡ (reply.Dropped name, after_drop s name)
unfolding transition_of
dropped_step s session name early = accepted_step s session (statement.Drop name) (none_applies s session (statement.Drop name) early refl)

-- a reserved row does not belong to a table that is not reserved
not_its_table : (s : State) (name : List ℕ) (row : RowName) → is_table_reserved s name ≡ false → is_reserved s row ≡ true → bytes_eq row.table name ≡ false
not_its_table s name row free reserved =
    false_from_ne_true (bytes_eq row.table name) (λ same.
    false≢true (sym free ∙ any_weaker (λ (r : Reservation). same_row r.row row) (λ (r : Reservation). bytes_eq r.row.table name) s.reservations
    (λ r is. ap (λ (n : RowName). bytes_eq n.table name) (row_same r.row row is) ∙ same) reserved))

-- a row of another table is found as before
other_table_row : (rows : List Row) (name : List ℕ) (row : RowName) → bytes_eq row.table name ≡ false → row_named (without_rows_of name rows) row ≡ row_named rows row
other_table_row rows name row differs =
    find_filter (λ (r : Row). same_row r.name row) (λ (r : Row). not (bytes_eq r.name.table name)) rows
    (λ r same. ap not (ap (λ (n : RowName). bytes_eq n.table name) (row_same r.name row same) ∙ differs))

-- the write may be made
pub may_drop : {S : Type 0} (g : Ghosts S) (session : ℕ) (name : List ℕ) (d : Database S) → PassesEarly d.state session (statement.Drop name)
    → MayWrite g session (statement.Drop name) d (reply.Dropped name) (after_drop d.state name) (λ row. bytes_eq row.table name ≡ false)
may_drop g session name d early =
    let free = (stands d.state session name early).free in
    record {
      asks = refl;
      early = early;
      takes = λ _. refl;
      steps = λ _. dropped_step d.state session name early;
      same_open = refl;
      orderly = λ orderly. drop_orderly d.state name orderly free;
      valid = λ _ valid. drop_valid d.state name valid free;
      reserved_stay = λ row reserved. not_its_table d.state name row free reserved;
      tables_stay = λ row table differs named. other_table d.state.catalog name row.table differs ∙ named;
      amounts_stay = λ _ row amounts differs has. ap (option_map (λ (r : Row). r.amounts)) (other_table_row d.state.rows name row differs) ∙ has;
    }
