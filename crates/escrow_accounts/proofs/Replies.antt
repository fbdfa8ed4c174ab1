-- What replies tell of the book.
use Rattle.std.specs.Prelude.{◌≡◌, ℕ, ◌+◌, Bool, true, false, cond, Option, Some, None, option_map, option_and_then, unwrap_or, List, [], ◌∷◌, ◌++◌, length, map, filter, bytes_eq}
use Rattle.std.proofs.Common.{inl, inr, refl, sym, ap, subst, ◌∙◌, arith}
use Rattle.std.proofs.lemmas.List.{length-append, map-append}
use Rattle.escrow_num.specs.declared.reservation.Reservation.{Reservation}
use Rattle.escrow_num.specs.declared.reservation.Savepoint.{Savepoint}
use Rattle.escrow_num.specs.declared.row.Row.{Row}
use Rattle.escrow_num.specs.Order.{same_row}
use Rattle.escrow_statement.specs.declared.statement.Statement.{Statement}
use Rattle.escrow_statement.specs.declared.statement.Statement.TheVariants as statement
use Rattle.escrow_schema.specs.declared.plan.Plan.{Plan}
use Rattle.escrow_schema.specs.declared.plan.Plan.TheVariants as plan
use Rattle.escrow_schema.specs.declared.table.TableDef.{TableDef}
use Rattle.escrow_schema.specs.Catalog.{table_named}
use Rattle.escrow_schema.specs.Rows.{row_named}
use Rattle.escrow_journal.specs.Reservations.{own}
use Rattle.escrow_journal.specs.Savepoints.{savepoint_of, after}
use Rattle.escrow_machine.specs.declared.event.Event.{Event}
use Rattle.escrow_machine.specs.declared.event.Event.TheVariants as event
use Rattle.escrow_machine.specs.declared.reply.Reply.{Reply}
use Rattle.escrow_machine.specs.declared.reply.Reply.TheVariants as reply
use Rattle.escrow_machine.specs.Asked.{new_row, named_by, plan_of, reserved_by}
use Rattle.escrow_machine.specs.Bounds.{bounds_in}
use Rattle.escrow_machine.specs.Reply.{is_refused}
use Rattle.escrow_machine.specs.State.{State}
use Rattle.escrow_machine.specs.Step.{IsServed, IsRun}
use Rattle.escrow_machine.specs.Transition.{transition_of, update_reply}
use Rattle.escrow_accounts.specs.Book.{Move, put, taken, granted, committed, released, moves_of, after_event, book, granted_in, committed_in}
use Rattle.escrow_accounts.specs.Laws.{ids_in, commits_in, AreTold, RepliesTellTheBook}
use Rattle.escrow_accounts.proofs.Counting.{granted_append, committed_append, granted_of_taken, committed_of_taken, granted_of_committed, committed_of_committed, granted_of_released, committed_of_released}
use Rattle.escrow_accounts.proofs.Served.{served_has, event_is, event_stays}

-- ONE REPLY

ids_first : (answer : Reply) (answers : List Reply) → ids_in (answer ∷ answers) ≡ ids_in (answer ∷ []) ++ ids_in answers
ids_first (reply.Reserved id) answers = refl
ids_first _ answers = refl

commits_first : (answer : Reply) (answers : List Reply) → commits_in (answer ∷ answers) ≡ commits_in (answer ∷ []) + commits_in answers
commits_first (reply.Committed count) answers = omega arith
commits_first _ answers = omega arith

refused_ids : (answer : Reply) (answers : List Reply) → is_refused answer ≡ true → ids_in (answer ∷ answers) ≡ ids_in answers
refused_ids (reply.Reserved id) answers is = absurd (cc)
refused_ids _ answers is = refl

refused_commits : (answer : Reply) (answers : List Reply) → is_refused answer ≡ true → commits_in (answer ∷ answers) ≡ commits_in answers
refused_commits (reply.Committed count) answers is = absurd (cc)
refused_commits _ answers is = refl

-- EACH STATEMENT

abbrev Told : Reply → List Move → Type 0
Told answer moves = AreTold (answer ∷ []) moves

nothing_told : (answer : Reply) (moves : List Move) → ids_in (answer ∷ []) ≡ [] → commits_in (answer ∷ []) ≡ 0 → granted_in moves ≡ [] → committed_in moves ≡ [] → Told answer moves
nothing_told answer moves no_id no_commit no_grant none = record {
  ids = no_id ∙ sym (ap (λ (rs : List Reservation). map (λ (r : Reservation). r.id) rs) no_grant);
  commits = no_commit ∙ sym (ap (λ (rs : List Reservation). length rs) none);
}

insert_told : (o : Option Row) → Told reply.Inserted (unwrap_or (option_map (λ row. put row ∷ []) o) [])
insert_told None = nothing_told reply.Inserted [] refl refl refl refl
insert_told (Some row) = nothing_told reply.Inserted (put row ∷ []) refl refl refl refl

update_told : (s : State) (session : ℕ) (table : List ℕ) (o : Option Plan)
    → Told (unwrap_or (option_map (update_reply s) o) reply.Updated) (unwrap_or (option_map (λ r. granted r ∷ []) (option_and_then (reserved_by s session table) o)) [])
update_told s session table None = nothing_told reply.Updated [] refl refl refl refl
update_told s session table (Some (plan.Reserve key changes)) = record { ids = refl; commits = refl }
update_told s session table (Some (plan.Plain key values)) = nothing_told reply.Updated [] refl refl refl refl

back_told : (name : List ℕ) (count : ℕ) (reservations : List Reservation) (o : Option Savepoint)
    → Told (reply.RolledBackTo name count) (unwrap_or (option_map (λ p. map released (after p reservations)) o) [])
back_told name count reservations None = nothing_told (reply.RolledBackTo name count) [] refl refl refl refl
back_told name count reservations (Some p) =
    nothing_told (reply.RolledBackTo name count) (map released (after p reservations)) refl refl
    (granted_of_released (after p reservations)) (committed_of_released (after p reservations))

-- a reply that depends on a table or a row
mapped_told : {A : Type 0} (f : A → Reply) (other : Reply) (o : Option A) → ((x : A) → Told (f x) []) → Told other [] → Told (unwrap_or (option_map f o) other) []
mapped_told f other None each none = none
mapped_told f other (Some x) each none = each x

row_told : (reservations : List Reservation) (table : TableDef) (o : Option Row)
    → Told (unwrap_or (option_map (λ row. bounds_in reservations table row.name row.amounts) o) (reply.Bounds [] [])) []
row_told reservations table None = nothing_told (reply.Bounds [] []) [] refl refl refl refl
row_told reservations table (Some row) = nothing_told (bounds_in reservations table row.name row.amounts) [] refl refl refl refl

bounds_told : (reservations : List Reservation) (row : Option Row) (o : Option TableDef)
    → Told (unwrap_or (option_and_then (λ table. option_map (λ row. bounds_in reservations table row.name row.amounts) row) o) (reply.Bounds [] [])) []
bounds_told reservations row None = nothing_told (reply.Bounds [] []) [] refl refl refl refl
bounds_told reservations row (Some table) = row_told reservations table row

commit_told : (rs : List Reservation) → Told (reply.Committed (length rs)) (map committed rs)
commit_told rs = record {
  ids = sym (ap (λ (qs : List Reservation). map (λ (r : Reservation). r.id) qs) (granted_of_committed rs));
  commits = let same : length (committed_in (map committed rs)) ≡ length rs = ap (λ (qs : List Reservation). length qs) (committed_of_committed rs) in omega arith;
}

transition_told : (s : State) (session : ℕ) (asked : Statement) → Told (transition_of s session asked).reply (moves_of s (event.Statement session asked))
unfolding transition_of
transition_told s session (statement.Create text) = nothing_told (reply.Created text.table) [] refl refl refl refl
transition_told s session (statement.Drop name) =
    let rows : List Row = filter (λ (row : Row). bytes_eq row.name.table name) s.rows in
    nothing_told (reply.Dropped name) (map taken rows) refl refl (granted_of_taken rows) (committed_of_taken rows)
transition_told s session (statement.Alter text) = nothing_told (reply.Altered text.table) [] refl refl refl refl
transition_told s session (statement.Insert text) = insert_told (new_row s text)
transition_told s session (statement.Update text) = update_told s session text.table (plan_of s text)
transition_told s session (statement.Delete text) =
    let rows : List Row = filter (λ (row : Row). same_row row.name (named_by s.catalog text.table text.row)) s.rows in
    nothing_told reply.Deleted (map taken rows) refl refl (granted_of_taken rows) (committed_of_taken rows)
transition_told s session (statement.Select text) =
    mapped_told _ (reply.Rows [] []) (table_named s.catalog text.table) (λ table. nothing_told _ [] refl refl refl refl) (nothing_told (reply.Rows [] []) [] refl refl refl refl)
transition_told s session (statement.ShowTable name) =
    mapped_told _ (reply.Table []) (table_named s.catalog name) (λ table. nothing_told _ [] refl refl refl refl) (nothing_told (reply.Table []) [] refl refl refl refl)
transition_told s session (statement.ShowBounds text) =
    bounds_told s.reservations (row_named s.rows (named_by s.catalog text.table text.row)) (table_named s.catalog text.table)
transition_told s session (statement.ShowJournal table) = record { ids = refl; commits = refl }
transition_told s session (statement.Savepoint name) = nothing_told (reply.Savepoint name) [] refl refl refl refl
transition_told s session statement.Commit = commit_told (own session s.reservations)
transition_told s session statement.Rollback =
    nothing_told (reply.RolledBack (length (own session s.reservations))) (map released (own session s.reservations)) refl refl
    (granted_of_released (own session s.reservations)) (committed_of_released (own session s.reservations))
transition_told s session (statement.RollbackTo name) = back_told name _ s.reservations (savepoint_of session name s.savepoints)

event_told : (s : State) (happened : Event) (answer : Reply) (new : State) → IsServed s happened answer new → is_refused answer ≡ false → Told answer (moves_of s happened)
event_told s (event.Statement session asked) answer new served done =
    served_has (λ a _. Told a (moves_of s (event.Statement session asked))) s session asked answer new served done (transition_told s session asked)
event_told s event.Restart answer new (inl restarted) done =
    subst (λ (a : Reply). Told a (map released s.reservations)) (sym restarted.0)
    (nothing_told reply.Restarted (map released s.reservations) refl refl (granted_of_released s.reservations) (committed_of_released s.reservations))
event_told s event.Restart answer new (inr (inl is, same)) done = absurd (cc (ap is_refused is))
event_told s event.Restart answer new (inr (inr is, same)) done = absurd (cc (ap is_refused is))

-- EACH RUN

told_then : (answer : Reply) (answers : List Reply) (ms ns : List Move) → Told answer ms → AreTold answers ns → AreTold (answer ∷ answers) (ms ++ ns)
told_then answer answers ms ns first rest =
    let id : Reservation → ℕ = λ r. r.id in
    let ids : map id (granted_in (ms ++ ns)) ≡ map id (granted_in ms) ++ map id (granted_in ns) =
    ap (λ (rs : List Reservation). map id rs) (granted_append ms ns) ∙ map-append id (granted_in ms) (granted_in ns) in
    let commits : length (committed_in (ms ++ ns)) ≡ length (committed_in ms) + length (committed_in ns) =
    ap (λ (rs : List Reservation). length rs) (committed_append ms ns) ∙ length-append (committed_in ms) (committed_in ns) in
    let one : commits_in (answer ∷ []) ≡ length (committed_in ms) = first.commits in
    let two : commits_in answers ≡ length (committed_in ns) = rest.commits in
    record {
      ids = ids_first answer answers ∙ ap (λ (xs : List ℕ). xs ++ ids_in answers) first.ids ∙ ap (λ (xs : List ℕ). map id (granted_in ms) ++ xs) rest.ids ∙ sym ids;
      commits = commits_first answer answers ∙ (let both : commits_in (answer ∷ []) + commits_in answers ≡ length (committed_in (ms ++ ns)) = omega arith in both);
    }

step_told : (s : State) (happened : Event) (events : List Event) (answer : Reply) (answers : List Reply) (mid new : State) → IsServed s happened answer mid
    → IsRun mid events answers new → ((t : State) → IsRun t events answers new → AreTold answers (book t events answers)) → (b : Bool) → is_refused answer ≡ b
    → AreTold (answer ∷ answers) (cond b (book s events answers) (moves_of s happened ++ book (after_event s happened) events answers))
step_told s happened events answer answers mid new served run rest true refused =
    let later = rest s (subst (λ (t : State). IsRun t events answers new) (event_stays s happened answer mid served refused) run) in
    record { ids = refused_ids answer answers refused ∙ later.ids; commits = refused_commits answer answers refused ∙ later.commits }
step_told s happened events answer answers mid new served run rest false done =
    told_then answer answers (moves_of s happened) (book (after_event s happened) events answers) (event_told s happened answer mid served done)
    (rest (after_event s happened) (subst (λ (t : State). IsRun t events answers new) (event_is s happened answer mid served done) run))

pub replies_tell_the_book : RepliesTellTheBook
replies_tell_the_book s [] [] new run = record { ids = refl; commits = refl }
replies_tell_the_book s [] (answer ∷ answers) new run = absurd run
replies_tell_the_book s (happened ∷ events) [] new run = absurd run
replies_tell_the_book s (happened ∷ events) (answer ∷ answers) new run =
    step_told s happened events answer answers run.0 new run.1 run.2 (λ t run_t. replies_tell_the_book t events answers new run_t) (is_refused answer) refl
