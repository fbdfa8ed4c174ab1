-- INSERT: what its row says about its transition.
use Rattle.std.specs.Prelude.{◌≡◌, ◌<◌, Bool, ℕ, ℤ, true, find, nat_le, is_some, if◌then◌else◌, option_map, option_and_then, unwrap_or, Option, Some, None, List, [], ◌∷◌, length, bytes_eq}
use Rattle.std.proofs.Common.{inl, inr, refl, sym, ap, subst, ◌∙◌}
use Rattle.std.proofs.lemmas.Option.{option_and_then_some}
use Rattle.sqlite.specs.Held.{state}
use Rattle.sqlite.specs.State.{HasCleanDisk}
use Rattle.sqlite_trees.specs.declared.store.Store.{Ghosts}
use Rattle.std.proofs.lemmas.Bool.{cases_Bool, cond_both, cond-false, cond-true, lt-leb}
use Rattle.escrow_num.specs.declared.failure.Failure.TheVariants as failure
use Rattle.escrow_num.specs.declared.refusal.Violation.{Violation}
use Rattle.escrow_num.specs.declared.refusal.Refusal.{Refusal}
use Rattle.escrow_num.specs.declared.refusal.Refusal.TheVariants as refusal
use Rattle.escrow_num.specs.declared.row.Row.{Row}
use Rattle.escrow_num.specs.declared.value.RowName.{RowName}
use Rattle.escrow_num.specs.Order.{same_row}
use Rattle.escrow_num.specs.Refusal.{refuse_if, first_refusal}
use Rattle.escrow_num.proofs.Items.{find_has}
use Rattle.escrow_num.proofs.Orders.{name_same, row_same, same_row_itself}
use Rattle.escrow_num.proofs.Put.{find_put, put}
use Rattle.escrow_statement.specs.declared.statement.InsertText.{InsertText}
use Rattle.escrow_statement.specs.declared.statement.Statement.TheVariants as statement
use Rattle.escrow_schema.specs.declared.table.TableDef.{TableDef}
use Rattle.escrow_checks.specs.Grant.{broken}
use Rattle.escrow_schema.specs.Catalog.{table_named}
use Rattle.escrow_schema.specs.Fit.{IsRowOf, inserted_row}
use Rattle.escrow_schema.proofs.LawLemmas.{rows_of_table}
use Rattle.escrow_schema.specs.declared.table.TheConstants.TableDef.{MAX_ROWS}
use Rattle.escrow_machine.specs.declared.reply.Reply.{Reply}
use Rattle.escrow_machine.specs.declared.reply.Reply.TheVariants as reply
use Rattle.escrow_machine.specs.Asked.{new_row, insert_violation}
use Rattle.escrow_tables.specs.Calls.{with_new}
use Rattle.escrow_reserved.specs.Placed.{amounts_named}
use Rattle.escrow_core.specs.Database.{Database}
use Rattle.escrow_machine.specs.Accepted.{IsAccepted, IsRefusal, PassesEarly}
use Rattle.escrow_machine.specs.State.{State}
use Rattle.escrow_schema.specs.Rows.{row_before, row_named, rows_of, with_row, HasTable}
use Rattle.escrow_machine.specs.Step.{step}
use Rattle.escrow_machine.specs.Transition.{transition_of}
use Rattle.escrow_machine.specs.Valid.{IsValid}
use Rattle.escrow_machine.proofs.Put.{with_row_put}
use Rattle.escrow_machine.proofs.Refusals.{passed, failed, below}
use Rattle.escrow_machine.proofs.Safe.{some_from}
use Rattle.escrow_core.specs.Serving.{unless_stands}
use Rattle.escrow_core.proofs.Serving.{Any, MayWrite, accepted_step, fails, late_applies, late_first, none_applies, refused_step}
use Rattle.escrow_machine.proofs.Transitions.{inserted_valid}

-- why a row with a new name is not inserted
abbrev pub new_refusals : State → InsertText → List (Option Refusal)
new_refusals s text =
    refuse_if (nat_le MAX_ROWS (length (rows_of s.rows text.table))) refusal.TableFull ∷ option_map refusal.Check (insert_violation s text) ∷ []

-- the refusals that depend on the row, its table and the table's number of rows
abbrev pub refusals_of : TableDef → ℕ → Row → List (Option Refusal)
refusals_of table count row = refuse_if (nat_le MAX_ROWS count) refusal.TableFull ∷ option_map refusal.Check (broken table.checks row.amounts [] []) ∷ []

-- the new row belongs to the named table
pub record IsMade (s : State) (text : InsertText) (row : Row) : Type 0 where
  pub table_name : row.name.table ≡ text.table
  pub has_table : HasTable s.catalog row

made_in : (s : State) (text : InsertText) (row : Row) (table : TableDef) → table_named s.catalog text.table ≡ Some table → inserted_row table text ≡ Some row → IsMade s text row
made_in s text row table named made =
    let itself : IsRowOf table row = rows_of_table table text row made in
    let name : table.name ≡ text.table = name_same table.name text.table (find_has (λ (t : TableDef). bytes_eq t.name text.table) s.catalog table named).1 in
    let same : row.name.table ≡ text.table = itself.table_name ∙ name in
    let there : table_named s.catalog row.name.table ≡ Some table = ap (λ n. table_named s.catalog n) same ∙ named in
    record {
      table_name = same;
      has_table = some_from (λ t. IsRowOf t row) (table_named s.catalog row.name.table) table there itself;
    }

pub is_made : (s : State) (text : InsertText) (row : Row) → new_row s text ≡ Some row → IsMade s text row
is_made s text row made =
    option_and_then_some (λ (table : TableDef). inserted_row table text) (table_named s.catalog text.table) row made (made_in s text row)

-- these refusals are those of the machine
pub decided : (s : State) (text : InsertText) (row : Row) (table : TableDef) (count : ℕ) → table_named s.catalog text.table ≡ Some table → new_row s text ≡ Some row
    → count ≡ length (rows_of s.rows text.table)
    → first_refusal (new_refusals s text) ≡ first_refusal (refusals_of table count row)
decided s text row table count named made is =
    let fits : inserted_row table text ≡ Some row = rw named at made in
    rw (named, fits, is) refl

-- if the table is not full, only a check can be broken
pub unfull : (count : ℕ) (o : Option Violation) (r : Option Refusal) → count < MAX_ROWS → r ≡ option_map refusal.Check o
    → r ≡ first_refusal (refuse_if (nat_le MAX_ROWS count) refusal.TableFull ∷ option_map refusal.Check o ∷ [])
unfull count None r room is = rw (lt-leb MAX_ROWS count room) is
unfull count (Some violation) r room is = rw (lt-leb MAX_ROWS count room) is

pub made_row : (s : State) (text : InsertText) (row : Row) (table : TableDef) → table_named s.catalog text.table ≡ Some table → new_row s text ≡ Some row → IsRowOf table row
made_row s text row table named made = rows_of_table table text row (rw named at made)

-- LATE REFUSALS

late_is : (s : State) (session : ℕ) (text : InsertText) (row : Row) → new_row s text ≡ Some row
    → first_refusal (transition_of s session (statement.Insert text)).late ≡ first_refusal (refuse_if (is_some (row_named s.rows row.name)) refusal.RowExists ∷ new_refusals s text)
unfolding transition_of
late_is s session text row made =
    ap (λ (o : Option Row). first_refusal (refuse_if (is_some (option_and_then (λ (r : Row). row_named s.rows r.name) o)) refusal.RowExists ∷ new_refusals s text)) made

exists_first : (o : Option Row) (rest : List (Option Refusal)) → is_some o ≡ true → first_refusal (refuse_if (is_some o) refusal.RowExists ∷ rest) ≡ Some refusal.RowExists
exists_first o rest stands = rw stands refl

new_first : (o : Option Row) (rest : List (Option Refusal)) → o ≡ None → first_refusal (refuse_if (is_some o) refusal.RowExists ∷ rest) ≡ first_refusal rest
new_first o rest new = rw new refl

-- a row whose name exists is refused
pub row_exists : (s : State) (session : ℕ) (text : InsertText) (row : Row) → new_row s text ≡ Some row → PassesEarly s session (statement.Insert text)
    → is_some (row_named s.rows row.name) ≡ true → IsRefusal s session (statement.Insert text) refusal.RowExists
row_exists s session text row made early stands =
    late_applies s session (statement.Insert text) refusal.RowExists early
    (late_is s session text row made ∙ exists_first (row_named s.rows row.name) (new_refusals s text) stands)

-- a row with a new name is refused only for its table's room and its checks
new_late : (s : State) (session : ℕ) (text : InsertText) (row : Row) → new_row s text ≡ Some row → row_named s.rows row.name ≡ None
    → first_refusal (transition_of s session (statement.Insert text)).late ≡ first_refusal (new_refusals s text)
new_late s session text row made new =
    late_is s session text row made ∙ new_first (row_named s.rows row.name) (new_refusals s text) new

pub new_refused : (s : State) (session : ℕ) (text : InsertText) (row : Row) (r : Refusal) → new_row s text ≡ Some row → PassesEarly s session (statement.Insert text)
    → row_named s.rows row.name ≡ None → first_refusal (new_refusals s text) ≡ Some r → IsRefusal s session (statement.Insert text) r
new_refused s session text row r made early new first =
    late_applies s session (statement.Insert text) r early (new_late s session text row made new ∙ first)

pub new_accepted : (s : State) (session : ℕ) (text : InsertText) (row : Row) → new_row s text ≡ Some row → PassesEarly s session (statement.Insert text)
    → row_named s.rows row.name ≡ None → first_refusal (new_refusals s text) ≡ None → IsAccepted s session (statement.Insert text)
new_accepted s session text row made early new none =
    none_applies s session (statement.Insert text) early (new_late s session text row made new ∙ none)

-- if neither refuses it, its table has room
pub new_room : (s : State) (text : InsertText) → first_refusal (new_refusals s text) ≡ None → length (rows_of s.rows text.table) < MAX_ROWS
new_room s text none =
    let rows = length (rows_of s.rows text.table) in
    let full = refuse_if (nat_le MAX_ROWS rows) refusal.TableFull in
    below MAX_ROWS rows (failed (nat_le MAX_ROWS rows) refusal.TableFull (passed full (option_map refusal.Check (insert_violation s text) ∷ []) none).first)

-- THE STEP

pub insert_step : (s : State) (session : ℕ) (text : InsertText) (row : Row) → new_row s text ≡ Some row → IsAccepted s session (statement.Insert text)
    → step s session (statement.Insert text) ≡ (reply.Inserted, record s { rows = with_row row s.rows })
unfolding transition_of
insert_step s session text row made accepted =
    accepted_step s session (statement.Insert text) accepted
    ∙ ap (λ (o : Option Row). (reply.Inserted, record s { rows = unwrap_or (option_map (λ r. with_row r s.rows) o) s.rows })) made

-- A ROW TO INSERT, after its table's room and its checks were looked at

-- the row, its table, and the table's number of rows
pub record IsAsked {S : Type 0} (g : Ghosts S) (d : Database S) (session : ℕ) (text : InsertText) (row : Row) (table : TableDef) (count : ℕ) : Type 0 where
  pub made : new_row d.state text ≡ Some row
  pub early : PassesEarly d.state session (statement.Insert text)
  pub named : table_named d.state.catalog text.table ≡ Some table
  pub counted : HasCleanDisk (state g d.store) → count ≡ length (rows_of d.state.rows text.table)

-- the rows with it, if its name is new
new_is : (row : Row) (rows : List Row) → row_named rows row.name ≡ None → with_new row rows ≡ with_row row rows
new_is row rows new = ap (λ (o : Option Row). if is_some o then rows else with_row row rows) new

-- a new item that passes a test, which no other passes, is found
finds_put : {A : Type 0} (before : A → A → Bool) (p : A → Bool) (x : A) (xs : List A) → p x ≡ true → find p xs ≡ None → find p (put before x xs) ≡ Some x
finds_put before p x [] passes none = cond-true (p x) (Some x) None passes
finds_put before p x (z ∷ zs) passes none =
    cond_both (before x z) (x ∷ z ∷ zs) (z ∷ put before x zs) (λ ws. find p ws ≡ Some x)
    (λ _. cond-true (p x) (Some x) (find p (z ∷ zs)) passes)
    (λ _. elim (cases_Bool (p z)) [
      | inl is ↦ (let found : Some z ≡ None = sym (cond-true (p z) (Some z) (find p zs) is) ∙ none in absurd (cc))
      | inr is ↦ cond-false (p z) (Some z) (find p (put before x zs)) is ∙ finds_put before p x zs passes (sym (cond-false (p z) (Some z) (find p zs) is) ∙ none)
    ])

-- a new row is found
pub new_found : (rows : List Row) (row : Row) → row_named rows row.name ≡ None → row_named (with_new row rows) row.name ≡ Some row
new_found rows row new =
    ap (λ (rs : List Row). row_named rs row.name) (new_is row rows new ∙ with_row_put row rows)
    ∙ finds_put row_before (λ (r : Row). same_row r.name row.name) row rows (same_row_itself row.name) new

-- an existing row is found with its amounts after a new row is added
still_has : (rows : List Row) (row : Row) (name : RowName) (amounts : List ℤ) → row_named rows row.name ≡ None → amounts_named rows name ≡ Some amounts → amounts_named (with_row row rows) name ≡ Some amounts
still_has rows row name amounts new has =
    elim (cases_Bool (same_row row.name name)) [
      | inl same ↦ (let none : amounts_named rows name ≡ None = ap (option_map (λ (r : Row). r.amounts)) (ap (row_named rows) (sym (row_same row.name name same)) ∙ new) in absurd (cc))
      | inr differs ↦ ap (option_map (λ (r : Row). r.amounts)) (ap (λ (rs : List Row). row_named rs name) (with_row_put row rows) ∙ find_put row_before (λ (r : Row). same_row r.name name) row rows differs) ∙ has
    ]

known_is : (row other : Row) (rows : List Row) → row_named rows row.name ≡ Some other → with_new row rows ≡ rows
known_is row other rows stands = ap (λ (o : Option Row). if is_some o then rows else with_row row rows) stands

-- why the row is not inserted, if a row has its name
pub stands_first : (o : Option Row) (other : Refusal) (amounts : List ℤ) → Some amounts ≡ option_map (λ (r : Row). r.amounts) o → refusal.RowExists ≡ unless_stands o other
stands_first None other amounts has = absurd (cc)
stands_first (Some row) other amounts has = refl

pub other_then : (o : Option Row) (other : Refusal) → None ≡ option_map (λ (r : Row). r.amounts) o → other ≡ unless_stands o other
other_then None other lacks = refl
other_then (Some row) other lacks = absurd (cc)

-- the reply if no row may have its name
abbrev pub put_reply : Option Row → Reply
put_reply None = reply.Inserted
put_reply (Some row) = reply.Refused refusal.RowExists

pub put_none : (o : Option Row) → o ≡ None → put_reply o ≡ reply.Inserted
put_none o none = ap put_reply none

module _ {S : Type 0} (g : Ghosts S) (d : Database S) (session : ℕ) (text : InsertText) (row : Row) (table : TableDef) (count : ℕ) (asked : IsAsked g d session text row table count) where
  judged : (r : Option Refusal) → r ≡ first_refusal (refusals_of table count row) → HasCleanDisk (state g d.store) → first_refusal (new_refusals d.state text) ≡ r
  judged r is u = decided d.state text row table count asked.named asked.made (asked.counted u) ∙ sym is

  -- a row with its name exists, or it is refused for another reason
  pub row_refused : (r : Refusal) → Some r ≡ first_refusal (refusals_of table count row) → HasCleanDisk (state g d.store)
      → IsRefusal d.state session (statement.Insert text) (unless_stands (row_named d.state.rows row.name) r)
  row_refused r is u = at (row_named d.state.rows row.name) refl
    where
      at : (o : Option Row) → row_named d.state.rows row.name ≡ o → IsRefusal d.state session (statement.Insert text) (unless_stands o r)
      at None new = new_refused d.state session text row r asked.made asked.early new (judged (Some r) is u)
      at (Some other) stands = row_exists d.state session text row asked.made asked.early (ap (λ (o : Option Row). is_some o) stands)

  -- the store refused it
  pub store_refused : IsRefusal d.state session (statement.Insert text) (unless_stands (row_named d.state.rows row.name) refusal.Store)
  store_refused = at (row_named d.state.rows row.name) refl
    where
      at : (o : Option Row) → row_named d.state.rows row.name ≡ o → IsRefusal d.state session (statement.Insert text) (unless_stands o refusal.Store)
      at None new = fails d.state session (statement.Insert text) failure.Store asked.early refl
      at (Some other) stands = row_exists d.state session text row asked.made asked.early (ap (λ (o : Option Row). is_some o) stands)

  -- its table has room if neither the room nor the checks refuse it
  pub room_left : None ≡ first_refusal (refusals_of table count row) → HasCleanDisk (state g d.store) → length (rows_of d.state.rows row.name.table) < MAX_ROWS
  room_left is u = subst (λ n. length (rows_of d.state.rows n) < MAX_ROWS) (sym (is_made d.state text row asked.made).table_name) (new_room d.state text (judged None is u))

  -- the step, whether a row with its name exists or not
  put_step : None ≡ first_refusal (refusals_of table count row) → HasCleanDisk (state g d.store)
      → step d.state session (statement.Insert text) ≡ (put_reply (row_named d.state.rows row.name), record d.state { rows = with_new row d.state.rows })
  put_step is u = at (row_named d.state.rows row.name) refl
    where
      at : (o : Option Row) → row_named d.state.rows row.name ≡ o → step d.state session (statement.Insert text) ≡ (put_reply o, record d.state { rows = with_new row d.state.rows })
      at None new =
          insert_step d.state session text row asked.made (new_accepted d.state session text row asked.made asked.early new (judged None is u))
          ∙ ap (λ (rows : List Row). (reply.Inserted, record d.state { rows = rows })) (sym (new_is row d.state.rows new))
      at (Some other) stands =
          refused_step d.state session (statement.Insert text) refusal.RowExists
          (late_first d.state session (statement.Insert text) refusal.RowExists asked.early
          (late_is d.state session text row asked.made ∙ exists_first (row_named d.state.rows row.name) (new_refusals d.state text) (ap (λ (o : Option Row). is_some o) stands)))
          ∙ ap (λ (rows : List Row). (reply.Refused refusal.RowExists, record d.state { rows = rows })) (sym (known_is row other d.state.rows stands))

  put_valid : None ≡ first_refusal (refusals_of table count row) → HasCleanDisk (state g d.store) → IsValid d.state → IsValid (record d.state { rows = with_new row d.state.rows })
  put_valid is u valid = at (row_named d.state.rows row.name) refl
    where
      at : (o : Option Row) → row_named d.state.rows row.name ≡ o → IsValid (record d.state { rows = with_new row d.state.rows })
      at None new =
          subst (λ (rows : List Row). IsValid (record d.state { rows = rows })) (sym (new_is row d.state.rows new))
          (inserted_valid d.state session text row valid (new_accepted d.state session text row asked.made asked.early new (judged None is u)) asked.made)
      at (Some other) stands = subst (λ (rows : List Row). IsValid (record d.state { rows = rows })) (sym (known_is row other d.state.rows stands)) valid

  pub may_insert : None ≡ first_refusal (refusals_of table count row)
      → MayWrite g session (statement.Insert text) d (put_reply (row_named d.state.rows row.name)) (record d.state { rows = with_new row d.state.rows }) Any
  may_insert is = record {
    asks = refl;
    early = asked.early;
    takes = λ _. refl;
    steps = put_step is;
    same_open = refl;
    orderly = λ orderly. orderly;
    valid = put_valid is;
    reserved_stay = λ _ _. tt;
    tables_stay = λ other table _ named. named;
    amounts_stay = λ _ other amounts _ has. still_there (row_named d.state.rows row.name) refl other amounts has;
  }
    where
      still_there : (o : Option Row) → row_named d.state.rows row.name ≡ o → (other : RowName) (amounts : List ℤ) → amounts_named d.state.rows other ≡ Some amounts
          → amounts_named (with_new row d.state.rows) other ≡ Some amounts
      still_there None new other amounts has =
          subst (λ (rows : List Row). amounts_named rows other ≡ Some amounts) (sym (new_is row d.state.rows new)) (still_has d.state.rows row other amounts new has)
      still_there (Some standing) stands other amounts has =
          subst (λ (rows : List Row). amounts_named rows other ≡ Some amounts) (sym (known_is row standing d.state.rows stands)) has
