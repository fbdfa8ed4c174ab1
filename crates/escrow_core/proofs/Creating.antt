-- CREATE TABLE: the catalog refuses it, or one write adds the table.
use Rattle.std.specs.Prelude.{◌≡◌, ◌<◌, ◌≤◌, ℕ, bytes_eq, is_some, Some, None, List, [], ◌∷◌, length}
use Rattle.std.proofs.Common.{inl, inr, refl, sym, ap, ◌∙◌}
use Rattle.std.proofs.lemmas.Bool.{cases_Bool, le-leb, lt-leb}
use Rattle.sqlite_trees.specs.declared.store.Store.{Ghosts}
use Rattle.escrow_num.specs.declared.refusal.Refusal.TheVariants as refusal
use Rattle.escrow_num.specs.Refusal.{refuse_if}
use Rattle.escrow_statement.specs.declared.statement.CreateText.{CreateText}
use Rattle.escrow_statement.specs.declared.statement.Statement.TheVariants as statement
use Rattle.escrow_schema.specs.declared.catalog.TheConstants.Catalog.{MAX_TABLES}
use Rattle.escrow_schema.specs.declared.table.TableDef.{TableDef}
use Rattle.escrow_num.proofs.Orders.{name_same}
use Rattle.escrow_num.proofs.Put.{find_put}
use Rattle.escrow_schema.specs.Catalog.{table_before, table_named, with_table}
use Rattle.escrow_schema.proofs.CatalogLemmas.{with_table_put}
use Rattle.escrow_schema.specs.Definition.{definition_of}
use Rattle.escrow_schema.proofs.LawLemmas.{name_of_table}
use Rattle.escrow_machine.specs.declared.reply.Reply.TheVariants as reply
use Rattle.escrow_core.specs.Database.{Database}
use Rattle.escrow_machine.specs.Accepted.{IsRefusal, PassesEarly}
use Rattle.escrow_machine.specs.State.{State, is_open}
use Rattle.escrow_machine.specs.Step.{step}
use Rattle.escrow_machine.specs.Transition.{transition_of}
use Rattle.escrow_machine.proofs.Refusals.{passed, failed, none_there}
use Rattle.escrow_core.proofs.Serving.{Any, MayWrite, accepted_step, late_applies, none_applies}
use Rattle.escrow_machine.proofs.ValidCreate.{create_orderly, create_valid}

-- if no early refusal applies, the table's name is new
new_text : (s : State) (session : ℕ) (text : CreateText) → PassesEarly s session (statement.Create text) → table_named s.catalog text.table ≡ None
unfolding transition_of
new_text s session text early =
    let exists = refuse_if (is_some (table_named s.catalog text.table)) refusal.TableExists in
    let closed = passed (refuse_if (is_open session s) refusal.TransactionOpen) (exists ∷ []) early in
    none_there (table_named s.catalog text.table) (failed (is_some (table_named s.catalog text.table)) refusal.TableExists (passed exists [] closed.others).first)

pub new_table : (s : State) (session : ℕ) (text : CreateText) (table : TableDef) → PassesEarly s session (statement.Create text) → definition_of text ≡ Some table
    → table_named s.catalog table.name ≡ None
new_table s session text table early made = ap (table_named s.catalog) (name_of_table text table made) ∙ new_text s session text early

-- the database already has the greatest number of tables
pub full_refused : (s : State) (session : ℕ) (text : CreateText) (table : TableDef) → PassesEarly s session (statement.Create text) → definition_of text ≡ Some table
    → MAX_TABLES ≤ length s.catalog → IsRefusal s session (statement.Create text) refusal.TooManyTables
unfolding transition_of
full_refused s session text table early made full =
    late_applies s session (statement.Create text) refusal.TooManyTables early (rw (made, le-leb MAX_TABLES (length s.catalog) full) refl)

-- the step if there is room for the table
created_step : (s : State) (session : ℕ) (text : CreateText) (table : TableDef) → PassesEarly s session (statement.Create text) → definition_of text ≡ Some table
    → length s.catalog < MAX_TABLES → step s session (statement.Create text) ≡ (reply.Created text.table, record s { catalog = with_table table s.catalog })
unfolding transition_of
created_step s session text table early made room =
    accepted_step s session (statement.Create text) (none_applies s session (statement.Create text) early (rw (made, lt-leb MAX_TABLES (length s.catalog) room) refl)) ∙ rw made refl

-- an existing table is found after a new one is added
still_named : (catalog : List TableDef) (table other : TableDef) (name : List ℕ) → table_named catalog table.name ≡ None → table_named catalog name ≡ Some other
    → table_named (with_table table catalog) name ≡ Some other
still_named catalog table other name new named =
    elim (cases_Bool (bytes_eq table.name name)) [
      | inl same ↦ (let both : None ≡ Some other = sym new ∙ ap (table_named catalog) (name_same table.name name same) ∙ named in absurd (cc))
      | inr differs ↦ ap (λ (c : List TableDef). table_named c name) (with_table_put table catalog) ∙ find_put table_before (λ (t : TableDef). bytes_eq t.name name) table catalog differs ∙ named
    ]

-- the write may be made
pub may_create : {S : Type 0} (g : Ghosts S) (session : ℕ) (text : CreateText) (d : Database S) (table : TableDef) → PassesEarly d.state session (statement.Create text)
    → definition_of text ≡ Some table → length d.state.catalog < MAX_TABLES
    → MayWrite g session (statement.Create text) d (reply.Created text.table) (record d.state { catalog = with_table table d.state.catalog }) Any
may_create g session text d table early made room =
    let free = new_text d.state session text early in
    record {
      asks = refl;
      early = early;
      takes = λ _. refl;
      steps = λ _. created_step d.state session text table early made room;
      same_open = refl;
      orderly = λ orderly. create_orderly d.state text table orderly made free room;
      valid = λ _ valid. create_valid d.state text table valid made free room;
      reserved_stay = λ _ _. tt;
      tables_stay = λ row other _ named. still_named d.state.catalog table other row.table (new_table d.state session text table early made) named;
      amounts_stay = λ _ row amounts _ has. has;
    }
