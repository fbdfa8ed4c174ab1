-- DELETE: how the call corresponds to the machine's step, and what it keeps.
use Rattle.std.specs.Prelude.{◌≡◌, ℕ, true, false, not, option_map, is_some, IsSome, Option, Some, None, List, [], ◌∷◌}
use Rattle.std.specs.List.{AllByRecursion, list_any}
use Rattle.std.proofs.Common.{inl, inr, refl, sym, ap, subst, ◌∙◌}
use Rattle.std.proofs.lemmas.Bool.{false_from_ne_true, false≢true, or_cases}
use Rattle.sqlite_trees.specs.declared.store.Store.{Ghosts}
use Rattle.escrow_num.specs.declared.refusal.Refusal.TheVariants as refusal
use Rattle.escrow_num.specs.declared.row.Row.{Row}
use Rattle.escrow_num.specs.declared.value.RowName.{RowName}
use Rattle.escrow_num.specs.declared.reservation.Reservation.{Reservation}
use Rattle.escrow_num.specs.Order.{same_row}
use Rattle.escrow_num.specs.Refusal.{first_refusal, refuse_if}
use Rattle.escrow_num.proofs.Items.{Has, find_none}
use Rattle.escrow_num.proofs.Orders.{row_same, same_row_itself}
use Rattle.sqlite_trees.proofs.ListLemmas.{filter_all}
use Rattle.escrow_statement.specs.declared.statement.RowText.{RowText}
use Rattle.escrow_statement.specs.declared.statement.Statement.TheVariants as statement
use Rattle.escrow_machine.specs.declared.reply.Reply.TheVariants as reply
use Rattle.escrow_machine.specs.Asked.{named_by}
use Rattle.escrow_core.specs.Database.{Database}
use Rattle.escrow_machine.specs.Accepted.{IsRefusal, PassesEarly}
use Rattle.escrow_machine.specs.State.{State, is_reserved}
use Rattle.escrow_machine.specs.Valid.{AreSafeRows, HasRow}
use Rattle.escrow_schema.specs.Rows.{row_named, without_row}
use Rattle.escrow_machine.specs.Step.{step}
use Rattle.escrow_machine.specs.Transition.{transition_of}
use Rattle.escrow_machine.proofs.LawsChanges.{other_found}
use Rattle.escrow_machine.proofs.Refusals.{lacking, standing}
use Rattle.escrow_core.proofs.Serving.{MayWrite, accepted_step, late_applies, late_first, none_applies, refused_step, tried}
use Rattle.escrow_machine.proofs.ValidDelete.{delete_valid}

-- the row does not exist
lack_late : (s : State) (session : ℕ) (text : RowText) (name : RowName) → name ≡ named_by s.catalog text.table text.row → None ≡ row_named s.rows name
    → first_refusal (transition_of s session (statement.Delete text)).late ≡ Some refusal.NoSuchRow
unfolding transition_of
lack_late s session text name is none =
    let named : RowName = named_by s.catalog text.table text.row in
    let reserved = refuse_if (is_reserved s named) refusal.RowReserved in
    lacking (row_named s.rows named) refusal.NoSuchRow (reserved ∷ []) (ap (row_named s.rows) (sym is) ∙ sym none)

pub delete_lack : (s : State) (session : ℕ) (text : RowText) (name : RowName) → name ≡ named_by s.catalog text.table text.row → PassesEarly s session (statement.Delete text)
    → None ≡ row_named s.rows name → IsRefusal s session (statement.Delete text) refusal.NoSuchRow
delete_lack s session text name is early none = late_applies s session (statement.Delete text) refusal.NoSuchRow early (lack_late s session text name is none)

-- if no row has the name, none is removed
absent_stays : (name : RowName) (rows : List Row) → row_named rows name ≡ None → without_row name rows ≡ rows
absent_stays name rows none = filter_all (λ (row : Row). not (same_row row.name name)) rows (each rows (λ row has. has))
  where
    each : (xs : List Row) → ((row : Row) → Has xs row → Has rows row) → AllByRecursion (λ (row : Row). not (same_row row.name name) ≡ true) xs
    each [] within = tt
    each (x ∷ xs) within = (ap not (find_none (λ (row : Row). same_row row.name name) rows none x (within x (inl refl))), each xs (λ row has. within row (inr has)))

-- a reserved row exists
pub reserved_stands : (s : State) (name : RowName) → AreSafeRows s.catalog s.rows s.reservations → is_reserved s name ≡ true → IsSome (row_named s.rows name)
reserved_stands s name safe reserved = go s.reservations safe.reserved_rows reserved
  where
    go : (rs : List Reservation) → AllByRecursion (HasRow s.rows) rs → list_any (λ (r : Reservation). same_row r.row name) rs ≡ true → IsSome (row_named s.rows name)
    go [] all any = absurd (false≢true any)
    go (r ∷ rs) all any = elim (or_cases (same_row r.row name) (list_any (λ (x : Reservation). same_row x.row name) rs) any) [
      | inl here ↦ subst (λ (n : RowName). IsSome (row_named s.rows n)) (row_same r.row name here) all.0
      | inr later ↦ go rs all.1 later
    ]

-- the row is reserved
pub delete_reserved : (s : State) (session : ℕ) (text : RowText) (name : RowName) → name ≡ named_by s.catalog text.table text.row → PassesEarly s session (statement.Delete text)
    → IsSome (row_named s.rows name) → is_reserved s name ≡ true → IsRefusal s session (statement.Delete text) refusal.RowReserved
unfolding transition_of
delete_reserved s session text name is early stands reserved =
    late_applies s session (statement.Delete text) refusal.RowReserved early
    (rw (standing (row_named s.rows (named_by s.catalog text.table text.row)) (subst (λ (n : RowName). IsSome (row_named s.rows n)) is stands), subst (λ (n : RowName). is_reserved s n ≡ true) is reserved) refl)

delete_step : (s : State) (session : ℕ) (text : RowText) (name : RowName) → name ≡ named_by s.catalog text.table text.row → PassesEarly s session (statement.Delete text)
    → IsSome (row_named s.rows name) → is_reserved s name ≡ false → step s session (statement.Delete text) ≡ (reply.Deleted, record s { rows = without_row name s.rows })
unfolding transition_of
delete_step s session text name is early stands free =
    accepted_step s session (statement.Delete text)
    (none_applies s session (statement.Delete text) early
    (rw (standing (row_named s.rows (named_by s.catalog text.table text.row)) (subst (λ (n : RowName). IsSome (row_named s.rows n)) is stands), subst (λ (n : RowName). is_reserved s n ≡ false) is free) refl))
    ∙ ap (λ (n : RowName). (reply.Deleted, record s { rows = without_row n s.rows })) (sym is)

-- the step for a row that is not reserved, whether it exists or not
delete_tried : (s : State) (session : ℕ) (text : RowText) (name : RowName) → name ≡ named_by s.catalog text.table text.row → PassesEarly s session (statement.Delete text)
    → is_reserved s name ≡ false → step s session (statement.Delete text) ≡ (tried (row_named s.rows name) refusal.NoSuchRow reply.Deleted, record s { rows = without_row name s.rows })
delete_tried s session text name is early free = at (row_named s.rows name) refl
  where
    at : (o : Option Row) → row_named s.rows name ≡ o → step s session (statement.Delete text) ≡ (tried o refusal.NoSuchRow reply.Deleted, record s { rows = without_row name s.rows })
    at None none =
        refused_step s session (statement.Delete text) refusal.NoSuchRow (late_first s session (statement.Delete text) refusal.NoSuchRow early (lack_late s session text name is (sym none)))
        ∙ ap (λ (rows : List Row). (reply.Refused refusal.NoSuchRow, record s { rows = rows })) (sym (absent_stays name s.rows none))
    at (Some row) found = delete_step s session text name is early (ap (λ (o : Option Row). is_some o) found) free

-- a row that is not reserved may be removed
pub may_delete : {S : Type 0} (g : Ghosts S) (session : ℕ) (text : RowText) (name : RowName) (d : Database S) → name ≡ named_by d.state.catalog text.table text.row
    → PassesEarly d.state session (statement.Delete text) → is_reserved d.state name ≡ false
    → MayWrite g session (statement.Delete text) d (tried (row_named d.state.rows name) refusal.NoSuchRow reply.Deleted) (record d.state { rows = without_row name d.state.rows }) (λ row. same_row name row ≡ false)
may_delete g session text name d is early free = record {
  asks = refl;
  early = early;
  takes = λ _. refl;
  steps = λ _. delete_tried d.state session text name is early free;
  same_open = refl;
  orderly = λ orderly. orderly;
  valid = λ _ valid. delete_valid d.state name valid free;
  reserved_stay = λ row reserved.
      false_from_ne_true (same_row name row) (λ same. absurd (false≢true (sym free ∙ subst (λ (n : RowName). is_reserved d.state n ≡ true) (sym (row_same name row same)) reserved)));
  tables_stay = λ row table _ is_named. is_named;
  amounts_stay = λ _ row amounts differs has.
      ap (option_map (λ (r : Row). r.amounts))
      (other_found d.state.rows name row (λ is. absurd (false≢true (sym differs ∙ subst (λ (n : RowName). same_row name n ≡ true) (sym is) (same_row_itself name)))))
      ∙ has;
}
