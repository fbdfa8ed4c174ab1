-- UPDATE: the database after its call, by its plan.
use Rattle.std.specs.Prelude.{◌≡◌, ◌⊎◌, ◌<◌, ◌≤◌, ◌+◌, ℕ, ℤ, Bool, true, false, not, nat_le, nat_lt, is_none, is_some, if◌then◌else◌, option_map, unwrap_or, Option, Some, None, IsSome, IsSomeAnd, List, [], ◌∷◌, ◌++◌, length, map}
use Rattle.std.specs.List.{AllByRecursion}
use Rattle.std.proofs.Common.{inl, inr, refl, sym, ap, ap₂, subst, ◌∙◌, arith}
use Rattle.std.proofs.lemmas.Bool.{false≢true}
use Rattle.sqlite.specs.Held.{state}
use Rattle.sqlite.specs.State.{HasCleanDisk}
use Rattle.sqlite_trees.specs.declared.store.Store.{Ghosts}
use Rattle.escrow_num.specs.declared.failure.Failure.{Failure}
use Rattle.escrow_num.specs.declared.failure.Failure.TheVariants as failure
use Rattle.escrow_num.specs.declared.refusal.Violation.{Violation}
use Rattle.escrow_num.specs.declared.refusal.Refusal.{Refusal}
use Rattle.escrow_num.specs.declared.refusal.Refusal.TheVariants as refusal
use Rattle.escrow_num.specs.declared.reservation.TheConstants.Reservation.{MAX_ID}
use Rattle.escrow_num.specs.declared.row.Row.{Row}
use Rattle.escrow_num.specs.declared.value.RowName.{RowName}
use Rattle.escrow_num.specs.declared.value.Value.{Value}
use Rattle.escrow_num.specs.Order.{same_row}
use Rattle.escrow_num.proofs.Items.{Has, find_none}
use Rattle.escrow_num.specs.Reservation.{deltas, changes_at}
use Rattle.escrow_num.specs.Refusal.{refuse_if, first_refusal, refusal_for}
use Rattle.escrow_num.specs.Session.{IsSession}
use Rattle.escrow_statement.specs.declared.statement.UpdateText.{UpdateText}
use Rattle.escrow_statement.specs.declared.statement.Statement.TheVariants as statement
use Rattle.escrow_checks.specs.declared.check.Check.{Check}
use Rattle.escrow_checks.specs.declared.coefficients.TheConstants.Coefficients.{MAX_LEN}
use Rattle.escrow_checks.specs.declared.spread.TheConstants.Spread.{MAX_OPEN}
use Rattle.escrow_checks.specs.Grant.{broken}
use Rattle.escrow_bounds.specs.Counts.{IsNew, TakesIn}
use Rattle.escrow_bounds.specs.Held.{of_row}
use Rattle.escrow_bounds.specs.Place.{Place, checks_of}
use Rattle.escrow_bounds.specs.Bounds.{Bounds, place_at, Becomes, OthersStay}
use Rattle.escrow_bounds.proofs.LawLemmas.{same_grant_rule}
use Rattle.escrow_schema.specs.Catalog.{table_named}
use Rattle.escrow_schema.specs.Column.{reservables}
use Rattle.escrow_schema.specs.Definition.{IsTable}
use Rattle.escrow_schema.specs.declared.plan.Plan.{Plan}
use Rattle.escrow_schema.specs.declared.plan.Plan.TheVariants as plan
use Rattle.escrow_schema.specs.declared.table.TableDef.{TableDef}
use Rattle.escrow_schema.proofs.LawLemmas.{few_reservable}
use Rattle.escrow_schema.proofs.PlanLemmas.{plans_of_whole_row}
use Rattle.escrow_journal.proofs.Free.{is_free}
use Rattle.escrow_journal.specs.declared.journal.TheConstants.Journal.{MAX_RESERVATIONS}
use Rattle.escrow_journal.specs.Reservations.{own}
use Rattle.escrow_journal.specs.Open.{grant_refusal}
use Rattle.escrow_journal.specs.Open as txn
use Rattle.escrow_schema.specs.Rows.{HasTable, replaced, row_named, with_plain, with_values}
use Rattle.escrow_machine.specs.declared.reply.Reply.{Reply}
use Rattle.escrow_machine.specs.declared.reply.Reply.TheVariants as reply
use Rattle.escrow_machine.specs.Asked.{plan_of, row_name, reservation_from, reserves_beside}
use Rattle.escrow_machine.specs.Accepted.{IsAccepted, IsRefusal, PassesEarly}
use Rattle.escrow_machine.specs.Promised.{asks_store}
use Rattle.escrow_machine.specs.Reply.{failure_of, failure_of_refusal}
use Rattle.escrow_machine.specs.State.{State, is_open, is_reserved, on_row, open_in, with_open}
use Rattle.escrow_machine.specs.Step.{refusals, step, fails_for, StepOrRefusal}
use Rattle.escrow_machine.specs.Transition.{transition_of, update_refusals, update_reply, after_update}
use Rattle.escrow_machine.specs.Valid.{IsOrderly, IsValid}
use Rattle.escrow_machine.proofs.Lengths.{find_map}
use Rattle.escrow_machine.proofs.Shapes.{HasOrder, covered, is_table_found}
use Rattle.escrow_machine.proofs.TransitionUpdate.{reserved_valid, replaced_valid, update_transition}
use Rattle.escrow_machine.proofs.ValidPlain.{same_test, values_both}
use Rattle.escrow_machine.proofs.ValidUpdate.{granted_orderly}
use Rattle.escrow_reserved.specs.Placed.{amounts_named, AreOfTables, HaveAmounts, IsOfTable}
use Rattle.escrow_core.specs.Inside.{Keeps}
use Rattle.escrow_reserved.specs.Reserved.{reason_against, reason_by}
use Rattle.escrow_core.specs.Database.{Database, IsKept}
use Rattle.escrow_core.specs.Serves.{Serves}
use Rattle.escrow_core.specs.Serving.{OnlyReads}
use Rattle.escrow_reserved.proofs.Counting.{free_of, on_row_counts, room_of}
use Rattle.escrow_reserved.proofs.Places.{becomes_some, granted_placed, made_amounts, made_tables, put_at, put_others, same_amounts, same_placed, same_tables, some_of, some_same, taken_amounts, taken_tables}
use Rattle.escrow_core.proofs.Planned.{left_to_plan, planned_in, plan_refused, plan_accepted, planned_early}
use Rattle.escrow_core.proofs.Served.{refused_serves, update_serves}
use Rattle.escrow_core.proofs.Serving.{Any, MayWrite, accepted_step, refused_step, tried, after_look, fails, look_failed, look_refused, served, served_beside, survives_itself}
use Rattle.escrow_reserved.proofs.Standing.{no_row, standing}

-- REFUSALS

-- plain values are refused inside a transaction, and if the row does not exist
pub plain_open : (s : State) (session : ℕ) (text : UpdateText) (key : Value) (values : List (Option Value)) → plan_of s text ≡ Some (plan.Plain key values)
    → is_open session s ≡ true → IsRefusal s session (statement.Update text) refusal.TransactionOpen
plain_open s session text key values is open_now = plan_refused s session text (plan.Plain key values) refusal.TransactionOpen is (rw open_now refl)

lacks_first : (s : State) (session : ℕ) (text : UpdateText) (key : Value) (values : List (Option Value)) → plan_of s text ≡ Some (plan.Plain key values)
    → is_open session s ≡ false → row_named s.rows (row_name text.table key) ≡ None → first_refusal (refusals (transition_of s session (statement.Update text))) ≡ Some refusal.NoSuchRow
lacks_first s session text key values is closed none = left_to_plan s session text (plan.Plain key values) is ∙ rw (closed, none) refl

pub plain_lacks : (s : State) (session : ℕ) (text : UpdateText) (key : Value) (values : List (Option Value)) → plan_of s text ≡ Some (plan.Plain key values)
    → is_open session s ≡ false → row_named s.rows (row_name text.table key) ≡ None → IsRefusal s session (statement.Update text) refusal.NoSuchRow
plain_lacks s session text key values is closed none = inl (lacks_first s session text key values is closed none)

plain_passes : (b : Bool) (o : Option Row) → b ≡ false → IsSome o
    → first_refusal (refuse_if b refusal.TransactionOpen ∷ refuse_if (is_none o) refusal.NoSuchRow ∷ []) ≡ None
plain_passes true o closed stands = absurd (false≢true (sym closed))
plain_passes false None closed stands = absurd (false≢true stands)
plain_passes false (Some row) closed stands = refl

plain_accepted : (s : State) (session : ℕ) (text : UpdateText) (key : Value) (values : List (Option Value)) → plan_of s text ≡ Some (plan.Plain key values)
    → is_open session s ≡ false → IsSome (row_named s.rows (row_name text.table key)) → IsAccepted s session (statement.Update text)
plain_accepted s session text key values is closed stands =
    plan_accepted s session text (plan.Plain key values) is (plain_passes (is_open session s) (row_named s.rows (row_name text.table key)) closed stands)

-- the step of a plan
update_step : (s : State) (session : ℕ) (text : UpdateText) (asked : Plan) → plan_of s text ≡ Some asked → IsAccepted s session (statement.Update text)
    → step s session (statement.Update text) ≡ (update_reply s asked, after_update s session text.table asked)
unfolding transition_of
update_step s session text asked is accepted =
    accepted_step s session (statement.Update text) accepted
    ∙ ap (λ (p : Option Plan). (unwrap_or (option_map (update_reply s) p) reply.Updated, unwrap_or (option_map (after_update s session text.table) p) s)) is

-- plain values ask the store, and may fail for the store or for memory
pub plain_asks : (s : State) (session : ℕ) (text : UpdateText) (key : Value) (values : List (Option Value)) → plan_of s text ≡ Some (plan.Plain key values)
    → asks_store s session (statement.Update text) ≡ true
plain_asks s session text key values is = rw is refl

pub plain_takes : (s : State) (session : ℕ) (text : UpdateText) (key : Value) (values : List (Option Value)) → plan_of s text ≡ Some (plan.Plain key values)
    → (f : Failure) → fails_for s session (statement.Update text) f ≡ true
plain_takes s session text key values is failure.Memory = refl
plain_takes s session text key values is failure.Store = plain_asks s session text key values is

-- they leave the amounts of each row
plain_amounts : (name row : RowName) (values : List (Option Value)) (rows : List Row) → amounts_named (with_plain name values rows) row ≡ amounts_named rows row
plain_amounts name row values rows =
    ap (option_map (λ (r : Row). r.amounts)) (find_map (λ (r : Row). same_row r.name row) (with_values name values) (same_test name row values) rows)
    ∙ at (row_named rows row)
  where
    at : (o : Option Row) → option_map (λ (r : Row). r.amounts) (option_map (with_values name values) o) ≡ option_map (λ (r : Row). r.amounts) o
    at None = refl
    at (Some r) = values_both (λ (x : Row). Some x.amounts ≡ Some r.amounts) name values r (λ _. refl) refl

-- if no row has the name, none is replaced
absent_same : (name : RowName) (values : List (Option Value)) (rows : List Row) → row_named rows name ≡ None → with_plain name values rows ≡ rows
absent_same name values rows none = go rows (find_none (λ (row : Row). same_row row.name name) rows none)
  where
    stays : (row : Row) → same_row row.name name ≡ false → with_values name values row ≡ row
    stays row other = ap (λ (b : Bool). if b then record row { plain = replaced values row.plain } else row) other

    go : (xs : List Row) → ((row : Row) → Has xs row → same_row row.name name ≡ false) → with_plain name values xs ≡ xs
    go [] others = refl
    go (x ∷ xs) others = ap₂ (λ (y : Row) (ys : List Row). y ∷ ys) (stays x (others x (inl refl))) (go xs (λ row has. others row (inr has)))

-- PLAIN VALUES, after the session's transaction was looked at

-- the plain values of a row may be replaced, if it exists
pub record MayReplace {S : Type 0} (g : Ghosts S) (d : Database S) (session : ℕ) (text : UpdateText) (key : Value) (values : List (Option Value)) : Type 0 where
  pub planned : plan_of d.state text ≡ Some (plan.Plain key values)
  pub closed : is_open session d.state ≡ false

module _ {S : Type 0} (g : Ghosts S) (d : Database S) (session : ℕ) (text : UpdateText) (key : Value) (values : List (Option Value)) (may : MayReplace g d session text key values) where
  -- the step, whether the row exists or not
  plain_step : step d.state session (statement.Update text)
      ≡ (tried (row_named d.state.rows (row_name text.table key)) refusal.NoSuchRow reply.Updated, record d.state { rows = with_plain (row_name text.table key) values d.state.rows })
  plain_step = at (row_named d.state.rows (row_name text.table key)) refl
    where
      at : (o : Option Row) → row_named d.state.rows (row_name text.table key) ≡ o
          → step d.state session (statement.Update text) ≡ (tried o refusal.NoSuchRow reply.Updated, record d.state { rows = with_plain (row_name text.table key) values d.state.rows })
      at None none =
          refused_step d.state session (statement.Update text) refusal.NoSuchRow (lacks_first d.state session text key values may.planned may.closed none)
          ∙ ap (λ (rows : List Row). (reply.Refused refusal.NoSuchRow, record d.state { rows = rows })) (sym (absent_same (row_name text.table key) values d.state.rows none))
      at (Some row) found =
          update_step d.state session text (plan.Plain key values) may.planned
          (plain_accepted d.state session text key values may.planned may.closed (ap (λ (o : Option Row). is_some o) found))

  plain_valid : IsValid d.state → IsValid (record d.state { rows = with_plain (row_name text.table key) values d.state.rows })
  plain_valid valid = at (row_named d.state.rows (row_name text.table key)) refl
    where
      at : (o : Option Row) → row_named d.state.rows (row_name text.table key) ≡ o → IsValid (record d.state { rows = with_plain (row_name text.table key) values d.state.rows })
      at None none = subst (λ (rows : List Row). IsValid (record d.state { rows = rows })) (sym (absent_same (row_name text.table key) values d.state.rows none)) valid
      at (Some row) found =
          replaced_valid d.state session text key values valid may.planned
          (plain_accepted d.state session text key values may.planned may.closed (ap (λ (o : Option Row). is_some o) found))

  -- it may write
  pub may_write : MayWrite g session (statement.Update text) d (tried (row_named d.state.rows (row_name text.table key)) refusal.NoSuchRow reply.Updated)
      (record d.state { rows = with_plain (row_name text.table key) values d.state.rows }) Any
  may_write = record {
    asks = plain_asks d.state session text key values may.planned;
    early = planned_early d.state session text (plan.Plain key values) may.planned;
    takes = plain_takes d.state session text key values may.planned;
    steps = λ _. plain_step;
    same_open = refl;
    orderly = λ orderly. orderly;
    valid = λ _ valid. plain_valid valid;
    reserved_stay = λ _ _. tt;
    tables_stay = λ row table _ named. named;
    amounts_stay = λ _ row amounts _ has. plain_amounts (row_name text.table key) row values d.state.rows ∙ has;
  }

  -- the rows then have the shapes of their tables
  pub replaced_fit : IsKept g d → HasCleanDisk (state g d.store) → AllByRecursion (HasTable d.state.catalog) (with_plain (row_name text.table key) values d.state.rows)
  replaced_fit kept u = (may_write.valid u (record { orderly = kept.orderly; safe_rows = kept.safe_rows u })).safe_rows.tables

-- A RESERVATION, by the place of its row

-- the name of the row with a key, in the named table
named_so : (table : List ℕ) (name : RowName) → name.table ≡ table → row_name table name.key ≡ name
named_so table name same = ap (λ (t : List ℕ). row_name t name.key) (sym same)

-- if the session has room for it and an id is left, the order of the state stays
reserved_orderly : (s : State) (session : ℕ) (text : UpdateText) (key : Value) (changes : List (Option ℤ)) → HasOrder s → IsSession session
    → plan_of s text ≡ Some (plan.Reserve key changes) → length (own session s.reservations) < MAX_RESERVATIONS → length (on_row (row_name text.table key) s.reservations) < MAX_OPEN
    → s.next_id ≤ MAX_ID → IsOrderly s.catalog (s.reservations ++ reservation_from s session (row_name text.table key) changes ∷ []) s.savepoints (s.next_id + 1)
reserved_orderly s session text key changes orderly of_session is room row_room more_ids =
    planned_in s text (plan.Reserve key changes) is (λ table named at.
    granted_orderly s table (reservation_from s session (row_name text.table key) changes) orderly named of_session refl more_ids
    (plans_of_whole_row table text key changes at) room row_room)

-- a plan has at most as many changes as a check may have coefficients
pub short_plan : (s : State) (text : UpdateText) (key : Value) (changes : List (Option ℤ)) → HasOrder s → plan_of s text ≡ Some (plan.Reserve key changes) → length changes ≤ MAX_LEN
short_plan s text key changes orderly is =
    planned_in s text (plan.Reserve key changes) is (λ table named at.
    let whole = plans_of_whole_row table text key changes at in
    let few = (few_reservable table (is_table_found s orderly text.table table named)).1 in
    omega (arith, whole, few))

-- a reason against it is no failure
no_failure : (full many none_left : Bool) (o : Option Violation) (r : Refusal)
    → first_refusal (refuse_if full refusal.TooManyReservations ∷ first_refusal (refuse_if many refusal.TooManyReservations ∷ refuse_if none_left refusal.NoMoreIds ∷ []) ∷ option_map refusal.Check o ∷ []) ≡ Some r
    → failure_of_refusal r ≡ None
no_failure true many none_left o r is = subst (λ (q : Refusal). failure_of_refusal q ≡ None) (some_same is) refl
no_failure false true none_left o r is = subst (λ (q : Refusal). failure_of_refusal q ≡ None) (some_same is) refl
no_failure false false true o r is = subst (λ (q : Refusal). failure_of_refusal q ≡ None) (some_same is) refl
no_failure false false false (Some violation) r is = subst (λ (q : Refusal). failure_of_refusal q ≡ None) (some_same is) refl
no_failure false false false None r is = absurd (cc)

-- the first reason against it is that by its row's amounts and its table's checks
reason_is : (s : State) (session : ℕ) (name : RowName) (table : TableDef) (amounts : List ℤ) (changes : List (Option ℤ))
    → table_named s.catalog name.table ≡ Some table → IsTable table → length amounts ≡ length (reservables table.columns) → amounts_named s.rows name ≡ Some amounts
    → first_refusal (update_refusals s session name.table (plan.Reserve name.key changes)) ≡ reason_by session table.checks amounts (deltas changes) (of_row name s.reservations) (open_in s)
reason_is s session name table amounts changes named is_table many has =
    let row = standing s.rows name amounts has in
    let full : ℕ → Option Refusal = λ n. refuse_if (nat_le MAX_OPEN n) refusal.TooManyReservations in
    let reason = grant_refusal session (open_in s) in
    let violation : List ℤ → RowName → Option Refusal = λ zs n. option_map refusal.Check (broken table.checks zs (deltas changes) (map (changes_at n) s.reservations)) in
    let same : broken table.checks amounts (deltas changes) (map (changes_at name) s.reservations) ≡ broken table.checks amounts (deltas changes) (of_row name s.reservations) =
    same_grant_rule table.checks amounts (deltas changes) name s.reservations (covered table amounts is_table many) in
    rw (row.found, named) refl ∙ ap₂ (λ (zs : List ℤ) (n : RowName). first_refusal (full (length (on_row name s.reservations)) ∷ reason ∷ violation zs n ∷ [])) row.has row.named
    ∙ ap₂ (λ (n : ℕ) (o : Option Violation). first_refusal (full n ∷ reason ∷ option_map refusal.Check o ∷ [])) (sym (on_row_counts name s.reservations)) same

-- a reply that is a refusal is the first one, if the reply of the transition is none
refused_first : (s : State) (o : Option Refusal) (done : Reply) (new : State) (r : Refusal) → ((q : Refusal) → ¬ (done ≡ reply.Refused q))
    → (unwrap_or {T = Reply × State} (option_map (λ (q : Refusal). (reply.Refused q, s)) o) (done, new)).0 ≡ reply.Refused r → o ≡ Some r
refused_first s None done new r answers refused = absurd (answers r refused)
refused_first s (Some q) done new r answers refused = cc

-- the plan reserves these changes of a row, in the table that the text names
pub record IsPlanned (s : State) (text : UpdateText) (name : RowName) (changes : List (Option ℤ)) : Type 0 where
  pub table : name.table ≡ text.table
  pub plan : plan_of s text ≡ Some (plan.Reserve name.key changes)

module _ (s : State) (session : ℕ) (text : UpdateText) (name : RowName) (changes : List (Option ℤ)) (planned : IsPlanned s text name changes) where
  passes : PassesEarly s session (statement.Update text)
  passes = planned_early s session text (plan.Reserve name.key changes) planned.plan

  -- the store is asked exactly if the row is not reserved
  beside_is : reserves_beside s text ≡ is_reserved s name
  beside_is = rw planned.plan (ap (is_reserved s) (named_so text.table name planned.table))

  pub asks_first : is_reserved s name ≡ false → asks_store s session (statement.Update text) ≡ true
  asks_first first = ap not (beside_is ∙ first)

  -- its refusals are those of its row's table
  refusals_are : first_refusal (update_refusals s session text.table (plan.Reserve name.key changes)) ≡ first_refusal (update_refusals s session name.table (plan.Reserve name.key changes))
  refusals_are = ap (λ (t : List ℕ). first_refusal (update_refusals s session t (plan.Reserve name.key changes))) (sym planned.table)

  fails_so : (f : Failure) → fails_for s session (statement.Update text) f ≡ true → IsRefusal s session (statement.Update text) (refusal_for f)
  fails_so f takes = fails s session (statement.Update text) f passes takes

  module _ (table : TableDef) (amounts : List ℤ) (orderly : HasOrder s) (named : table_named s.catalog name.table ≡ Some table)
      (many : length amounts ≡ length (reservables table.columns)) (has : amounts_named s.rows name ≡ Some amounts) where
    by_row : first_refusal (update_refusals s session text.table (plan.Reserve name.key changes)) ≡ reason_by session table.checks amounts (deltas changes) (of_row name s.reservations) (open_in s)
    by_row = refusals_are ∙ reason_is s session name table amounts changes named (is_table_found s orderly name.table table named) many has

    -- it is refused for the reason by its row
    pub row_refuses : (r : Refusal) → reason_by session table.checks amounts (deltas changes) (of_row name s.reservations) (open_in s) ≡ Some r → IsRefusal s session (statement.Update text) r
    row_refuses r first = plan_refused s session text (plan.Reserve name.key changes) r planned.plan (by_row ∙ first)

    -- it is granted if there is no such reason
    pub row_accepts : reason_by session table.checks amounts (deltas changes) (of_row name s.reservations) (open_in s) ≡ None → IsAccepted s session (statement.Update text)
    row_accepts none = plan_accepted s session text (plan.Reserve name.key changes) planned.plan (by_row ∙ none)

  module _ (place : Place) (orderly : HasOrder s) (of_table : IsSomeAnd (table_named s.catalog name.table) (λ table. IsOfTable table place))
      (has : amounts_named s.rows name ≡ Some place.amounts) where
    by_place : first_refusal (update_refusals s session text.table (plan.Reserve name.key changes)) ≡ reason_against session place name changes (open_in s)
    by_place =
        some_of (λ (table : TableDef). IsOfTable table place) (table_named s.catalog name.table) of_table (λ table named is.
        by_row table place.amounts orderly named is.amounts has
        ∙ ap (λ (checks : List Check). reason_by session checks place.amounts (deltas changes) (of_row name s.reservations) (open_in s)) (sym is.checks))

    -- it is refused for the reason by its place, or for memory
    pub place_refuses : (r : Refusal) → (reason_against session place name changes (open_in s) ≡ Some r) ⊎ (r ≡ refusal.Memory) → IsRefusal s session (statement.Update text) r
    place_refuses r why = elim why [
      | inl first ↦ plan_refused s session text (plan.Reserve name.key changes) r planned.plan (by_place ∙ first)
      | inr memory ↦ subst (λ (q : Refusal). IsRefusal s session (statement.Update text) q) (sym memory) (fails_so failure.Memory refl)
    ]

    -- if the step refuses it, it is for that reason
    pub place_tells : (r : Refusal) → (step s session (statement.Update text)).0 ≡ reply.Refused r → reason_against session place name changes (open_in s) ≡ Some r
    place_tells r refused =
        sym by_place ∙ sym (left_to_plan s session text (plan.Reserve name.key changes) planned.plan)
        ∙ refused_first s (first_refusal (refusals (transition_of s session (statement.Update text)))) (transition_of s session (statement.Update text)).reply
        (transition_of s session (statement.Update text)).next r (update_transition s session text).answers refused

    -- it is granted if there is no such reason
    pub place_accepts : reason_against session place name changes (open_in s) ≡ None → IsAccepted s session (statement.Update text)
    place_accepts none = plan_accepted s session text (plan.Reserve name.key changes) planned.plan (by_place ∙ none)

  -- a refusal by its place is not one by the store
  pub not_the_store : (place : Place) (r : Refusal) → (reason_against session place name changes (open_in s) ≡ Some r) ⊎ (r ≡ refusal.Memory) → ¬ (failure_of (reply.Refused r) ≡ Some failure.Store)
  not_the_store place r why is = elim why [
    | inl first ↦ (let none : failure_of_refusal r ≡ None =
        no_failure (nat_le MAX_OPEN (length (of_row name s.reservations))) (nat_le MAX_RESERVATIONS (length (own session s.reservations))) (nat_lt MAX_ID s.next_id)
        (broken (checks_of place.checks) place.amounts (deltas changes) (of_row name s.reservations)) r first in absurd (cc))
    | inr memory ↦ (let wanted : failure_of_refusal r ≡ Some failure.Memory = ap failure_of_refusal memory in absurd (cc))
  ]

  -- the step of an accepted reservation
  pub grant_step : IsAccepted s session (statement.Update text)
      → StepOrRefusal s session (statement.Update text) (reply.Reserved s.next_id) (with_open s (txn.open_after_grant session name changes (open_in s)))
  grant_step accepted =
      subst (λ (n : RowName). StepOrRefusal s session (statement.Update text) (reply.Reserved s.next_id) (with_open s (txn.open_after_grant session n changes (open_in s)))) (named_so text.table name planned.table)
      (update_serves s session text (plan.Reserve name.key changes) accepted planned.plan)

-- the plan stays the same if the state does
pub still_planned : (old new : State) (text : UpdateText) (name : RowName) (changes : List (Option ℤ)) → new ≡ old → IsPlanned old text name changes → IsPlanned new text name changes
still_planned old new text name changes same planned = subst (λ (s : State). IsPlanned s text name changes) (sym same) planned

module _ {S : Type 0} (g : Ghosts S) (session : ℕ) (text : UpdateText) (name : RowName) (changes : List (Option ℤ)) where
  -- by the place of a reserved row
  module _ (d : Database S) (places : Bounds) (planned : IsPlanned d.state text name changes) (keeps : Keeps g d places) (place : Place) (at : place_at places name ≡ Some place) where
    of_its_table : IsSomeAnd (table_named d.state.catalog name.table) (λ table. IsOfTable table place)
    of_its_table = keeps.of_tables name place at

    pub beside_refused : (r : Refusal) → (reason_against session place name changes (open_in d.state) ≡ Some r) ⊎ (r ≡ refusal.Memory)
        → Serves g session (statement.Update text) d (reply.Refused r) d
    beside_refused r why =
        served_beside g session (statement.Update text) d d (reply.Refused r) refl refl (passes d.state session text name changes planned) refl
        (not_the_store d.state session text name changes planned place r why)
        (λ clean. refused_serves d.state session (statement.Update text) r
        (place_refuses d.state session text name changes planned place keeps.kept.orderly of_its_table (keeps.amounts clean name place at) r why))
        (λ _. refl)

    -- if the machine refuses it, that is the reason by the place
    pub beside_tells : HasCleanDisk (state g d.store) → (r : Refusal) → (step d.state session (statement.Update text)).0 ≡ reply.Refused r
        → reason_against session place name changes (open_in d.state) ≡ Some r
    beside_tells clean r refused =
        place_tells d.state session text name changes planned place keeps.kept.orderly of_its_table (keeps.amounts clean name place at) r refused

    pub beside_granted : reason_against session place name changes (open_in d.state) ≡ None
        → Serves g session (statement.Update text) d (reply.Reserved d.state.next_id) (record { store = d.store; state = with_open d.state (txn.open_after_grant session name changes (open_in d.state)) })
    beside_granted none =
        served_beside g session (statement.Update text) d (record { store = d.store; state = with_open d.state (txn.open_after_grant session name changes (open_in d.state)) }) (reply.Reserved d.state.next_id)
        refl refl (passes d.state session text name changes planned) refl (λ is. absurd (cc))
        (λ clean. grant_step d.state session text name changes planned
        (place_accepts d.state session text name changes planned place keeps.kept.orderly of_its_table (keeps.amounts clean name place at) none))
        (λ is. absurd (false≢true is))

  -- after the amounts of its row were read
  module _ (old mid : Database S) (planned : IsPlanned old.state text name changes) (first : is_reserved old.state name ≡ false) (only_reads : OnlyReads g old mid) where
    asks : asks_store old.state session (statement.Update text) ≡ true
    asks = asks_first old.state session text name changes planned first

    early : PassesEarly old.state session (statement.Update text)
    early = passes old.state session text name changes planned

    -- a failure
    takes : (f : Failure) → fails_for old.state session (statement.Update text) f ≡ true
    takes failure.Memory = refl
    takes failure.Store = asks

    pub first_fails : (f : Failure) → Serves g session (statement.Update text) old (reply.Refused (refusal_for f)) mid
    first_fails f = look_failed g session (statement.Update text) old mid f only_reads asks early (takes f)

    -- the row does not exist
    pub first_lacks : (HasCleanDisk (state g mid.store) → None ≡ amounts_named old.state.rows name) → Serves g session (statement.Update text) old (reply.Refused refusal.NoSuchRow) mid
    first_lacks read =
        look_refused g session (statement.Update text) old mid refusal.NoSuchRow only_reads asks early
        (λ clean. plan_refused old.state session text (plan.Reserve name.key changes) refusal.NoSuchRow planned.plan
        (refusals_are old.state session text name changes planned ∙ rw (no_row old.state.rows name (read clean)) refl))

    module _ (table : TableDef) (amounts : List ℤ) (orderly : HasOrder mid.state) (named : table_named mid.state.catalog name.table ≡ Some table)
        (many : length amounts ≡ length (reservables table.columns)) (read : HasCleanDisk (state g mid.store) → amounts_named mid.state.rows name ≡ Some amounts) where
      planned_now : IsPlanned mid.state text name changes
      planned_now = still_planned old.state mid.state text name changes only_reads.same planned

      abbrev why : Option Refusal
      why = reason_by session table.checks amounts (deltas changes) (of_row name mid.state.reservations) (open_in mid.state)

      -- refused
      pub first_refused : (r : Refusal) → (why ≡ Some r) ⊎ (r ≡ refusal.Memory) → Serves g session (statement.Update text) old (reply.Refused r) mid
      first_refused r (inl is) =
          look_refused g session (statement.Update text) old mid r only_reads asks early
          (λ clean. subst (λ (s : State). IsRefusal s session (statement.Update text) r) only_reads.same
          (row_refuses mid.state session text name changes planned_now table amounts orderly named many (read clean) r is))
      first_refused r (inr is) = subst (λ (q : Refusal). Serves g session (statement.Update text) old (reply.Refused q) mid) (sym is) (first_fails failure.Memory)

      -- granted: the store stays untouched
      pub first_granted : why ≡ None
          → Serves g session (statement.Update text) old (reply.Reserved mid.state.next_id) (record { store = mid.store; state = with_open mid.state (txn.open_after_grant session name changes (open_in mid.state)) })
      first_granted none =
          let new : Database S = record { store = mid.store; state = with_open mid.state (txn.open_after_grant session name changes (open_in mid.state)) } in
          let still_first : is_reserved mid.state name ≡ false = subst (λ (s : State). is_reserved s name ≡ false) (sym only_reads.same) first in
          after_look g session (statement.Update text) old mid new (reply.Reserved mid.state.next_id) only_reads asks early
          (served g session (statement.Update text) mid new (reply.Reserved mid.state.next_id) (asks_first mid.state session text name changes planned_now still_first)
          (passes mid.state session text name changes planned_now)
          (λ clean. grant_step mid.state session text name changes planned_now (row_accepts mid.state session text name changes planned_now table amounts orderly named many (read clean) none))
          (λ is. absurd (false≢true is)) (λ usable. usable) (survives_itself (state g mid.store) _) (λ writes. absurd (false≢true writes)))

-- WHAT A GRANT KEEPS
module _ {S : Type 0} (g : Ghosts S) (session : ℕ) (text : UpdateText) (name : RowName) (changes : List (Option ℤ)) (d : Database S) (old new : Bounds)
    (planned : IsPlanned d.state text name changes) (kept : IsKept g d) (of_session : IsSession session) where
  -- if its row has a place of its table with its amounts, and all other places are those of reserved rows
  pub grant_keeps : (place : Place) → place_at old name ≡ Some place
      → ((other : RowName) → same_row name other ≡ false → is_some (place_at old other) ≡ is_reserved d.state other)
      → AreOfTables d.state.catalog old → (HasCleanDisk (state g d.store) → HaveAmounts d.state.rows old)
      → reason_against session place name changes (open_in d.state) ≡ None
      → Becomes (TakesIn (deltas changes)) (place_at old name) (place_at new name) → OthersStay name old new
      → Keeps g (record { store = d.store; state = with_open d.state (txn.open_after_grant session name changes (open_in d.state)) }) new
  grant_keeps place at others_placed of_tables amounts none becomes others =
      let s = d.state in
      let there : IsSome (place_at old name) = ap (λ (p : Option Place). is_some p) at in
      let same = named_so text.table name planned.table in
      let free = is_free session (open_in s) (free_of session (checks_of place.checks) place.amounts (deltas changes) (of_row name s.reservations) (open_in s) none) in
      let room = room_of session (checks_of place.checks) place.amounts (deltas changes) (of_row name s.reservations) (open_in s) none in
      let row_room : length (on_row (row_name text.table name.key) s.reservations) < MAX_OPEN =
      subst (λ (n : RowName). length (on_row n s.reservations) < MAX_OPEN) (sym same) (omega (arith, on_row_counts name s.reservations, room)) in
      let orderly : IsOrderly s.catalog (s.reservations ++ reservation_from s session (row_name text.table name.key) changes ∷ []) s.savepoints (s.next_id + 1) =
      reserved_orderly s session text name.key changes kept.orderly of_session planned.plan free.room row_room free.more_ids in
      let accepted : HasCleanDisk (state g d.store) → IsAccepted s session (statement.Update text) = λ clean.
      place_accepts s session text name changes planned place kept.orderly (of_tables name place at) (amounts clean name place at) none in
      record {
        kept = subst (λ (n : RowName). IsKept g (record { store = d.store; state = with_open s (txn.open_after_grant session n changes (open_in s)) })) same (record {
          orderly = orderly;
          safe_rows = λ clean.
              let valid : IsValid s = record { orderly = kept.orderly; safe_rows = kept.safe_rows clean } in
              (reserved_valid s session text name.key changes valid of_session planned.plan (accepted clean)).safe_rows;
        });
        placed = granted_placed session name changes (open_in s) old new others_placed (becomes_some (place_at old name) (place_at new name) (deltas changes) there becomes) others;
        of_tables = taken_tables s.catalog name (deltas changes) old new there becomes others of_tables;
        amounts = λ clean. taken_amounts s.rows name (deltas changes) old new there becomes others (amounts clean);
      }

-- if its row had no place and gets one of its table with its amounts
pub first_keeps : {S : Type 0} (g : Ghosts S) (session : ℕ) (text : UpdateText) (name : RowName) (changes : List (Option ℤ)) (d : Database S) (old new : Bounds)
    → IsPlanned d.state text name changes → Keeps g d old → IsSession session → (table : TableDef) (amounts : List ℤ) (place : Place)
    → table_named d.state.catalog name.table ≡ Some table → length amounts ≡ length (reservables table.columns)
    → (HasCleanDisk (state g d.store) → amounts_named d.state.rows name ≡ Some amounts) → IsNew amounts table.checks place
    → reason_by session table.checks amounts (deltas changes) (of_row name d.state.reservations) (open_in d.state) ≡ None
    → Becomes (TakesIn (deltas changes)) (Some place) (place_at new name) → OthersStay name old new
    → Keeps g (record { store = d.store; state = with_open d.state (txn.open_after_grant session name changes (open_in d.state)) }) new
first_keeps g session text name changes d old new planned keeps of_session table amounts place named many read is_new none becomes others =
    let at = put_at name place old in
    let put = put_others name place old in
    grant_keeps g session text name changes d ((name, place) ∷ old) new planned keeps.kept of_session place at
    (λ other differs. ap (λ (p : Option Place). is_some p) (put other differs) ∙ keeps.placed other)
    (made_tables d.state.catalog name table amounts place old ((name, place) ∷ old) named many at is_new put keeps.of_tables)
    (λ clean. made_amounts d.state.rows name amounts table.checks place old ((name, place) ∷ old) (read clean) at is_new put (keeps.amounts clean))
    (rw (is_new.checks_are, is_new.amounts_are) none) (rw at becomes) (λ other differs. others other differs ∙ sym (put other differs))

-- if each row has the same place as before, everything is kept
pub same_keeps : {S : Type 0} (g : Ghosts S) (d : Database S) (old new : Bounds) → Keeps g d old → ((row : RowName) → place_at new row ≡ place_at old row) → Keeps g d new
same_keeps g d old new keeps same = record {
  kept = keeps.kept;
  placed = same_placed d.state.reservations old new same keeps.placed;
  of_tables = same_tables d.state.catalog old new same keeps.of_tables;
  amounts = λ clean. same_amounts d.state.rows old new same (keeps.amounts clean);
}
