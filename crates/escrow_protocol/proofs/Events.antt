-- Every event that may come preserves what is sound.
use Rattle.std.specs.Prelude.{◌≡◌, ℕ, ◌==◌, Bool, true, false, cond, not, ◌||◌, ◌&&◌, List, [], ◌∷◌, ◌++◌, filter, length, ◌<◌, None, map, Some}
use Rattle.std.specs.List.{AllByRecursion}
use Rattle.std.proofs.Common.{refl, sym, ap, subst, le_refl, ◌∙◌, inl, inr}
use Rattle.std.proofs.lemmas.Bool.{cond_both, eqb-true, eq-eqb, false_from_ne_true}
use Rattle.std.proofs.lemmas.List.{take_all}
use Rattle.escrow_num.specs.declared.reservation.Reservation.{Reservation}
use Rattle.escrow_num.specs.declared.row.Row.{Row}
use Rattle.escrow_num.specs.declared.session.End.{End}
use Rattle.escrow_num.specs.declared.session.End.TheVariants as end
use Rattle.escrow_num.specs.declared.value.RowName.{RowName}
use Rattle.escrow_num.specs.Order.{same_row}
use Rattle.escrow_num.proofs.Items.{Has, all_filter, all_has, has_all, has_filter}
use Rattle.escrow_num.specs.Session.{IsSession}
use Rattle.escrow_statement.specs.declared.statement.Statement.TheVariants as statement
use Rattle.escrow_statement.specs.declared.statement.InsertText.{InsertText}
use Rattle.escrow_statement.specs.declared.statement.UpdateText.{UpdateText}
use Rattle.escrow_schema.specs.declared.table.TableDef.{TableDef}
use Rattle.escrow_schema.specs.declared.table.TheConstants.TableDef.{MAX_ROWS}
use Rattle.escrow_schema.specs.Catalog.{table_named}
use Rattle.escrow_schema.specs.Rows.{row_named, rows_of, applied, with_row, without_row, MeetsChecks}
use Rattle.escrow_journal.specs.Reservations.{own, others}
use Rattle.escrow_machine.specs.Settle.{end_of, is_commit, settled, after_end}
use Rattle.escrow_machine.specs.State.{State, opened}
use Rattle.escrow_machine.specs.Step.{step}
use Rattle.escrow_machine.specs.Valid.{HasRow, IsValid}
use Rattle.escrow_machine.proofs.Applying.{applied_none}
use Rattle.escrow_machine.proofs.Choices.{all_append, append_all}
use Rattle.escrow_machine.proofs.Filters.{filter_all, filter_none, filter_within}
use Rattle.escrow_machine.proofs.LawsEnds.{own_stay}
use Rattle.escrow_machine.proofs.LawsSteps.{step_keeps_valid}
use Rattle.escrow_machine.proofs.Safe.{committed_rows_meet_checks}
use Rattle.escrow_machine.proofs.ValidDelete.{delete_valid}
use Rattle.escrow_machine.proofs.ValidInsert.{insert_valid}
use Rattle.escrow_machine.proofs.Settling.{settled_stays_valid}
use Rattle.escrow_protocol.specs.Protocol.{all_done, reserved, inserted, deleted, Transaction, idle, noting, written, running, holding, committed, aborted, Moment, Protocol, is_committed, amounts_in, left_with, with_transaction}
use Rattle.escrow_protocol.specs.Step.{Event, grant, write, pass, mark, back, fail, commit, abort, hold, take as take_hold, release, tell, drop, fold, insert, delete, take_over, serve, stale, crash, IsServing, May, with_one, gone_back_to, with_changes, after_fold, later, still, held_again, without_hold, crashed, after}
use Rattle.escrow_protocol.proofs.Applied.{applied_append, applied_parts, folded_meet}
use Rattle.escrow_protocol.proofs.Chosen.{chosen_valid}
use Rattle.escrow_protocol.proofs.Ends.{is_told, is_dropped, has_gone_back, has_one_mark}
use Rattle.escrow_protocol.proofs.Filtered.{filter_alike, filter_push, filter_push_none}
use Rattle.escrow_protocol.proofs.Granted.{has_one_more}
use Rattle.escrow_protocol.proofs.Placed.{all_done_append, all_done_reserved, applied_delete, applied_insert, all_inserted, found_deleted, found_inserted, has_inserted, has_row_after, has_row_before, length-rows_of, none_after, none_before, not_of_new}
use Rattle.escrow_protocol.proofs.Sound.{IsGood, AreKept, IsSound, Fits, kept_of, told, with_has, told_stays, told_more, told_less, told_of_others, fits_moved, noted_own, left_fits, left_is, noted_is, alive_is, aborted_fits, fresh_fits, others_fit, holds_fit, ending_commits, held_is, crashed_fits, crashed_is}

-- a test and its contrary
either : (b : Bool) → true ≡ (b || not b)
either true = refl
either false = refl

not_both : (b : Bool) → (b && not b) ≡ false
not_both true = refl
not_both false = refl

module _ (catalog : List TableDef) (rows : List Row) (s : Protocol) (sound : IsSound catalog rows s) where
  -- the moment can be left by a crash
  kept : AreKept s.now
  kept e t = kept_of s.now.server.reservations s.now.served s.epoch e t (s.now.transactions e t) (sound.fits e t)

  -- a moment that is sound is so if it comes later
  sound_later : (m : Moment) → IsSound catalog rows (still m s) → IsSound catalog rows (later m s)
  sound_later m new = record { now = new.now; fits = new.fits; before = ((sound.now, kept), sound.before) }

  -- ANOTHER TRANSACTION

  -- one that fits, if neither it nor the one before it is committed
  another : (epoch session : ℕ) (new : Transaction) → is_committed new ≡ false → is_committed (s.now.transactions epoch session) ≡ false
      → Fits s.now.server.reservations s.now.served s.epoch epoch session new
      → IsSound catalog rows (still (with_one epoch session new s.now) s)
  another epoch session new is was here = record {
    now = record {
      once = sound.now.once;
      placed = sound.now.placed;
      amounts = sound.now.amounts;
      meet = sound.now.meet;
      tables = sound.now.tables;
      valid = sound.now.valid;
      known = sound.now.known ∙ sym (ap (applied s.now.server.rows) (filter_alike (told (with_transaction epoch session new s.now.transactions s.now.served))
          (told (s.now.transactions s.now.served)) (told_stays s.now.served epoch session new s.now.transactions (is ∙ sym was)) s.now.server.reservations));
    };
    fits = with_has (Fits s.now.server.reservations s.now.served s.epoch) epoch session new s.now.transactions here (λ e t _. sound.fits e t);
    before = sound.before;
  }

  -- what fits of a transaction that is known
  fits_at : (epoch session : ℕ) (x : Transaction) → s.now.transactions epoch session ≡ x → Fits s.now.server.reservations s.now.served s.epoch epoch session x
  fits_at epoch session x is = subst (Fits s.now.server.reservations s.now.served s.epoch epoch session) is (sound.fits epoch session)

  write_sound : (epoch session : ℕ) (notes : List Reservation) (r : Reservation) → May s (write epoch session notes r)
      → IsSound catalog rows (after s (write epoch session notes r))
  write_sound epoch session notes r may =
      another epoch session (written notes r) refl (ap is_committed may) (fits_at epoch session (noting notes r) may)

  pass_sound : (epoch session : ℕ) (notes : List Reservation) (r : Reservation) → May s (pass epoch session notes r)
      → IsSound catalog rows (after s (pass epoch session notes r))
  pass_sound epoch session notes r may =
      let fits = fits_at epoch session (written notes r) may.0 may.2 may.1 in
      another epoch session (running (notes ++ r ∷ [])) refl (ap is_committed may.0) (may.1 ∙ sym fits.0, fits.1)

  abort_sound : (epoch session : ℕ) → May s (abort epoch session) → IsSound catalog rows (after s (abort epoch session))
  abort_sound epoch session may =
      another epoch session aborted refl (alive_is (s.now.transactions epoch session) may)
      (aborted_fits s.now.server.reservations s.now.served s.epoch epoch session (s.now.transactions epoch session) may (sound.fits epoch session))

  hold_sound : (epoch session : ℕ) (notes : List Reservation) → May s (hold epoch session notes) → IsSound catalog rows (after s (hold epoch session notes))
  hold_sound epoch session notes may =
      sound_later (with_one epoch session (holding notes) s.now)
      (another epoch session (holding notes) refl (ap is_committed may) (fits_at epoch session (running notes) may))

  release_sound : (epoch session : ℕ) (notes : List Reservation) → May s (release epoch session notes) → IsSound catalog rows (after s (release epoch session notes))
  release_sound epoch session notes may =
      let fits = fits_at epoch session (holding notes) may in
      sound_later (with_one epoch session aborted s.now) (another epoch session aborted refl (ap is_committed may) (λ somebody he. sym fits.0 ∙ he))

  stale_sound : (epoch session : ℕ) (r : Reservation) (notes : List Reservation) → May s (stale epoch session r notes)
      → IsSound catalog rows (after s (stale epoch session r notes))
  stale_sound epoch session r notes may =
      another epoch session (noting notes r) refl (noted_is notes (s.now.transactions epoch session) may.1) (λ somebody he. absurd (may.0 he))

  -- A GRANT

  grant_sound : (session : ℕ) (text : UpdateText) (r : Reservation) (notes : List Reservation) → May s (grant session text r notes)
      → IsSound catalog rows (after s (grant session text r notes))
  grant_sound session text r notes may =
      let loaded = may.0.loaded in
      let server : State = s.now.server in
      let new : State = (step server session (statement.Update text)).1 in
      let more = has_one_more server session text r.id r may.3 may.4 in
      let was : is_committed (s.now.transactions s.epoch session) ≡ false = noted_is notes (s.now.transactions s.epoch session) may.2 in
      let now_told : Reservation → Bool = told (with_transaction s.epoch session (noting notes r) s.now.transactions s.now.served) in
      let none : now_told r ≡ false = told_stays s.now.served s.epoch session (noting notes r) s.now.transactions (sym was) r
      ∙ ap (λ (t : ℕ). is_committed (s.now.transactions s.now.served t)) more.of_session
      ∙ ap (λ (e : ℕ). is_committed (s.now.transactions e session)) loaded ∙ was in
      let same : filter now_told new.reservations ≡ filter (told (s.now.transactions s.now.served)) server.reservations =
      ap (filter now_told) more.reservations ∙ filter_push_none now_told server.reservations r none
      ∙ filter_alike now_told (told (s.now.transactions s.now.served)) (told_stays s.now.served s.epoch session (noting notes r) s.now.transactions (sym was)) server.reservations in
      let stay : (t : ℕ) → ¬ (t ≡ session) → own t new.reservations ≡ own t server.reservations = λ t differs.
      ap (own t) more.reservations ∙ filter_push_none (λ (x : Reservation). x.session == t) server.reservations r
      (false_from_ne_true (r.session == t) (λ is. differs (sym (eqb-true r.session t is) ∙ more.of_session))) in
      let own_now : own session new.reservations ≡ notes ++ r ∷ [] =
      ap (own session) more.reservations ∙ filter_push (λ (x : Reservation). x.session == session) server.reservations r (eq-eqb r.session session more.of_session)
      ∙ ap (λ (xs : List Reservation). xs ++ r ∷ []) (noted_own server.reservations s.now.served s.epoch session notes (s.now.transactions s.epoch session) loaded may.2 (sound.fits s.epoch session)) in
      record {
        now = record {
          once = sound.now.once;
          placed = sound.now.placed;
          amounts = sound.now.amounts;
          meet = sound.now.meet;
          tables = more.catalog ∙ sound.now.tables;
          valid = step_keeps_valid server session (statement.Update text) sound.now.valid may.1;
          known = sound.now.known ∙ sym (ap (λ (rs : List Row). applied rs (filter now_told new.reservations)) more.rows ∙ ap (applied server.rows) same);
        };
        fits = with_has (Fits new.reservations s.now.served s.epoch) s.epoch session (noting notes r) s.now.transactions (λ somebody he. (loaded, own_now))
            (λ e t other. fits_moved server.reservations new.reservations s.now.served s.epoch session loaded stay e t (s.now.transactions e t) other (sound.fits e t));
        before = sound.before;
      }

  -- MARKS

  mark_sound : (session : ℕ) (name : List ℕ) → May s (mark session name) → IsSound catalog rows (after s (mark session name))
  mark_sound session name may =
      let new : State = (step s.now.server session (statement.Savepoint name)).1 in
      let marked = has_one_mark s.now.server session name in
      let done : Reservation → Bool = told (s.now.transactions s.now.served) in
      record {
        now = record {
          once = sound.now.once;
          placed = sound.now.placed;
          amounts = sound.now.amounts;
          meet = sound.now.meet;
          tables = marked.catalog ∙ sound.now.tables;
          valid = step_keeps_valid s.now.server session (statement.Savepoint name) sound.now.valid may.1;
          known = sound.now.known ∙ sym (ap (λ (rs : List Row). applied rs (filter done new.reservations)) marked.rows ∙ ap (λ (xs : List Reservation). applied s.now.server.rows (filter done xs)) marked.reservations);
        };
        fits = λ e t. subst (λ (xs : List Reservation). Fits xs s.now.served s.epoch e t (s.now.transactions e t)) (sym marked.reservations) (sound.fits e t);
        before = sound.before;
      }

  -- the server goes back to a mark, and the session's transaction has just the notes left that it then holds
  gone_back_sound : (session : ℕ) (name : List ℕ) (notes : List Reservation) → IsServing s → IsSession session
      → is_committed (s.now.transactions s.epoch session) ≡ false
      → own session (step s.now.server session (statement.RollbackTo name)).1.reservations ≡ notes
      → IsSound catalog rows (still (gone_back_to session name notes s) s)
  gone_back_sound session name notes serving is_session was owns =
      let loaded = serving.loaded in
      let server : State = s.now.server in
      let new : State = (step server session (statement.RollbackTo name)).1 in
      let gone = has_gone_back server session name in
      let now_told : Reservation → Bool = told (with_transaction s.epoch session (left_with notes) s.now.transactions s.now.served) in
      let left : filter now_told new.reservations ≡ filter (told (s.now.transactions s.now.served)) server.reservations =
      ap (filter now_told) gone.reservations
      ∙ filter_within now_told gone.keep server.reservations (λ r t. gone.others_stay r (told_of_others s.now.served s.epoch session (left_with notes) s.now.transactions (sym loaded) (left_is notes) r t))
      ∙ filter_alike now_told (told (s.now.transactions s.now.served)) (told_stays s.now.served s.epoch session (left_with notes) s.now.transactions (left_is notes ∙ sym was)) server.reservations in
      let stay : (t : ℕ) → ¬ (t ≡ session) → own t new.reservations ≡ own t server.reservations = λ t differs.
      ap (own t) gone.reservations ∙ filter_within (λ (r : Reservation). r.session == t) gone.keep server.reservations
      (λ r is. gone.others_stay r (false_from_ne_true (r.session == session) (λ same. differs (sym (eqb-true r.session t is) ∙ eqb-true r.session session same)))) in
      record {
        now = record {
          once = sound.now.once;
          placed = sound.now.placed;
          amounts = sound.now.amounts;
          meet = sound.now.meet;
          tables = gone.catalog ∙ sound.now.tables;
          valid = step_keeps_valid server session (statement.RollbackTo name) sound.now.valid is_session;
          known = sound.now.known ∙ sym (ap (λ (rs : List Row). applied rs (filter now_told new.reservations)) gone.rows ∙ ap (applied server.rows) left);
        };
        fits = with_has (Fits new.reservations s.now.served s.epoch) s.epoch session (left_with notes) s.now.transactions (left_fits new.reservations s.now.served s.epoch s.epoch session notes (sym loaded) owns)
            (λ e t other. fits_moved server.reservations new.reservations s.now.served s.epoch session loaded stay e t (s.now.transactions e t) other (sound.fits e t));
        before = sound.before;
      }

  back_sound : (session : ℕ) (name : List ℕ) (notes gone : List Reservation) → May s (back session name notes gone) → IsSound catalog rows (after s (back session name notes gone))
  back_sound session name notes gone may = gone_back_sound session name notes may.0 may.1 (ap is_committed may.2) may.3

  fail_sound : (session : ℕ) (name : List ℕ) (notes : List Reservation) (r : Reservation) → May s (fail session name notes r) → IsSound catalog rows (after s (fail session name notes r))
  fail_sound session name notes r may =
      let was : is_committed (s.now.transactions s.epoch session) ≡ false = elim may.2 [ inl unwritten ↦ ap is_committed unwritten | inr untested ↦ ap is_committed untested ] in
      gone_back_sound session name notes may.0 may.1 was may.3

  -- ROWS

  -- the rows of the server are those of PostgreSQL
  committed_ones : List Reservation
  committed_ones = filter (told (s.now.transactions s.now.served)) s.now.server.reservations

  -- the row of an open reservation exists
  server_row : (r : Reservation) → Has s.now.server.reservations r → HasRow s.now.rows r
  unfolding committed_ones
  server_row r h =
      has_row_before s.now.rows s.now.journal r (subst (λ (rs : List Row). HasRow rs r) (sym sound.now.known)
      (has_row_after s.now.server.rows committed_ones r (all_has (HasRow s.now.server.rows) s.now.server.reservations sound.now.valid.safe_rows.reserved_rows r h)))

  -- what is committed of the open reservations has rows, so it is of no new one
  none_of_new : (row : Row) → row_named s.now.server.rows row.name ≡ None → (r : Reservation) → Has committed_ones r → same_row row.name r.row ≡ false
  unfolding committed_ones
  none_of_new row new r h =
      not_of_new s.now.server.rows row r new
      (all_has (HasRow s.now.server.rows) s.now.server.reservations sound.now.valid.safe_rows.reserved_rows r (has_filter (told (s.now.transactions s.now.served)) s.now.server.reservations r h).0)

  insert_sound : (text : InsertText) (row : Row) → May s (insert text row) → IsSound catalog rows (after s (insert text row))
  unfolding committed_ones
  insert_sound text row may =
      let server : State = s.now.server in
      let amounts : List Row = amounts_in s.now in
      let named : table_named catalog may.table.name ≡ Some may.table = subst (λ (c : List TableDef). table_named c may.table.name ≡ Some may.table) sound.now.tables may.named in
      let amounts_new : row_named amounts row.name ≡ None = none_after s.now.rows s.now.journal row.name may.new in
      let server_new : row_named server.rows row.name ≡ None =
      none_before server.rows committed_ones row.name (ap (λ (rs : List Row). row_named rs row.name) (sym sound.now.known) ∙ amounts_new) in
      let room_in : length (rows_of amounts may.table.name) < MAX_ROWS =
      subst (λ (n : ℕ). n < MAX_ROWS) (sym (length-rows_of s.now.rows s.now.journal may.table.name)) may.room in
      let server_room : length (rows_of server.rows may.table.name) < MAX_ROWS =
      subst (λ (n : ℕ). n < MAX_ROWS) (ap (λ (rs : List Row). length (rows_of rs may.table.name)) sound.now.known ∙ length-rows_of server.rows committed_ones may.table.name) room_in in
      let valid_with : IsValid (opened catalog (with_row row amounts)) =
      insert_valid (opened catalog amounts) may.table text row sound.now.amounts named may.made amounts_new room_in may.meets in
      let moved : applied (with_row row s.now.rows) s.now.journal ≡ with_row row amounts =
      applied_insert row s.now.rows s.now.journal (λ r h. not_of_new s.now.rows row r may.new (all_has (HasRow s.now.rows) s.now.journal sound.now.placed r h)) in
      let row_meets : MeetsChecks catalog row =
      all_has (MeetsChecks catalog) (with_row row amounts) (committed_rows_meet_checks (opened catalog (with_row row amounts)) valid_with) row (has_inserted row amounts) in
      record {
        now = record {
          once = moved ∙ ap (with_row row) sound.now.once ∙ sym (all_done_append rows s.now.history (inserted row ∷ []));
          placed = has_all (HasRow (with_row row s.now.rows)) s.now.journal (λ r h. found_inserted row s.now.rows r (all_has (HasRow s.now.rows) s.now.journal sound.now.placed r h));
          amounts = subst (λ (rs : List Row). IsValid (opened catalog rs)) (sym moved) valid_with;
          meet = all_inserted (MeetsChecks catalog) row s.now.rows row_meets sound.now.meet;
          tables = sound.now.tables;
          valid = insert_valid server may.table text row sound.now.valid may.named may.made server_new server_room may.meets;
          known = moved ∙ ap (with_row row) sound.now.known ∙ sym (applied_insert row server.rows committed_ones (none_of_new row server_new));
        };
        fits = sound.fits;
        before = ((sound.now, kept), sound.before);
      }

  delete_sound : (key : RowName) → May s (delete key) → IsSound catalog rows (after s (delete key))
  unfolding committed_ones
  delete_sound key may =
      let moved : applied (without_row key s.now.rows) s.now.journal ≡ without_row key (amounts_in s.now) = applied_delete key s.now.rows s.now.journal in
      record {
        now = record {
          once = moved ∙ ap (without_row key) sound.now.once ∙ sym (all_done_append rows s.now.history (deleted key ∷ []));
          placed = has_all (HasRow (without_row key s.now.rows)) s.now.journal (λ r h. found_deleted key s.now.rows r
              (all_has (λ (x : Reservation). same_row x.row key ≡ false) s.now.journal may.1 r h) (all_has (HasRow s.now.rows) s.now.journal sound.now.placed r h));
          amounts = subst (λ (rs : List Row). IsValid (opened catalog rs)) (sym moved) (delete_valid (opened catalog (amounts_in s.now)) key sound.now.amounts refl);
          meet = all_filter (MeetsChecks catalog) (λ row. not (same_row row.name key)) s.now.rows sound.now.meet;
          tables = sound.now.tables;
          valid = delete_valid s.now.server key sound.now.valid may.0;
          known = moved ∙ ap (without_row key) sound.now.known ∙ sym (applied_delete key s.now.server.rows committed_ones);
        };
        fits = sound.fits;
        before = ((sound.now, kept), sound.before);
      }

  -- CHANGES THAT ARE COMMITTED

  -- those of a transaction, or of a hold, of which the server holds just these
  changes_sound : (epoch session : ℕ) (notes : List Reservation) → is_committed (s.now.transactions epoch session) ≡ false
      → epoch ≡ s.now.served → own session s.now.server.reservations ≡ notes
      → IsSound catalog rows (later (with_one epoch session (committed notes) (with_changes notes s.now)) s)
  changes_sound epoch session notes was of_last owns =
      let of = told_more s.now.served epoch session (committed notes) s.now.transactions of_last refl was in
      let now_told : Reservation → Bool = told (with_transaction epoch session (committed notes) s.now.transactions s.now.served) in
      let known : applied s.now.rows (s.now.journal ++ notes) ≡ applied s.now.server.rows (filter now_told s.now.server.reservations) =
      applied_append s.now.rows s.now.journal notes
      ∙ ap (λ (rs : List Row). applied rs notes) sound.now.known
      ∙ ap (applied (applied s.now.server.rows (filter (told (s.now.transactions s.now.served)) s.now.server.reservations))) (sym owns)
      ∙ applied_parts (told (s.now.transactions s.now.served)) (λ r. r.session == session) now_told (λ r. (of r).0) (λ r. (of r).1) s.now.server.reservations s.now.server.rows in
      record {
        now = record {
          once = applied_append s.now.rows s.now.journal notes ∙ ap (λ (rs : List Row). applied rs notes) sound.now.once
              ∙ sym (all_done_append rows s.now.history (map reserved notes) ∙ all_done_reserved (all_done rows s.now.history) notes);
          placed = append_all (HasRow s.now.rows) s.now.journal notes sound.now.placed (subst (AllByRecursion (HasRow s.now.rows)) owns
              (has_all (HasRow s.now.rows) (own session s.now.server.reservations) (λ r h.
              server_row r (has_filter (λ (x : Reservation). x.session == session) s.now.server.reservations r h).0)));
          amounts = subst (λ (rs : List Row). IsValid (opened catalog rs)) (sym known)
              (subst (λ (c : List TableDef). IsValid (opened c (applied s.now.server.rows (filter now_told s.now.server.reservations)))) sound.now.tables (chosen_valid s.now.server sound.now.valid now_told));
          meet = sound.now.meet;
          tables = sound.now.tables;
          valid = sound.now.valid;
          known = known;
        };
        fits = with_has (Fits s.now.server.reservations s.now.served s.epoch) epoch session (committed notes) s.now.transactions (λ somebody he. sym of_last ∙ he) (λ e t _. sound.fits e t);
        before = ((sound.now, kept), sound.before);
      }

  commit_sound : (epoch session : ℕ) (notes : List Reservation) → May s (commit epoch session notes) → IsSound catalog rows (after s (commit epoch session notes))
  commit_sound epoch session notes may =
      let fits = fits_at epoch session (running notes) may in
      changes_sound epoch session notes (ap is_committed may) fits.0 fits.1

  take_sound : (epoch session : ℕ) (notes : List Reservation) → May s (take_hold epoch session notes) → IsSound catalog rows (after s (take_hold epoch session notes))
  take_sound epoch session notes may =
      let fits = fits_at epoch session (holding notes) may in
      changes_sound epoch session notes (ap is_committed may) fits.0 fits.1

  fold_sound : (key : RowName) → IsSound catalog rows (after s (fold key))
  fold_sound key =
      let same : amounts_in (after_fold key s.now) ≡ amounts_in s.now =
      applied_parts (λ r. same_row key r.row) (λ r. not (same_row key r.row)) (λ r. true) (λ r. either (same_row key r.row)) (λ r. not_both (same_row key r.row)) s.now.journal s.now.rows
      ∙ ap (applied s.now.rows) (filter_all (λ (r : Reservation). true) s.now.journal (λ _ _. refl)) in
      record {
        now = record {
          once = same ∙ sound.now.once;
          placed = has_all (HasRow (after_fold key s.now).rows) (after_fold key s.now).journal (λ r h.
              has_row_after s.now.rows (filter (λ (x : Reservation). same_row key x.row) s.now.journal) r
              (all_has (HasRow s.now.rows) s.now.journal sound.now.placed r (has_filter (λ (x : Reservation). not (same_row key x.row)) s.now.journal r h).0));
          amounts = subst (λ (rs : List Row). IsValid (opened catalog rs)) (sym same) sound.now.amounts;
          meet = folded_meet catalog key s.now.journal s.now.rows sound.now.meet (committed_rows_meet_checks (opened catalog (amounts_in s.now)) sound.now.amounts);
          tables = sound.now.tables;
          valid = sound.now.valid;
          known = same ∙ sound.now.known;
        };
        fits = sound.fits;
        before = ((sound.now, kept), sound.before);
      }

  -- WHAT THE SERVER IS TOLD

  -- nothing is left of the session
  none_own : (session : ℕ) → own session (others session s.now.server.reservations) ≡ []
  none_own session = filter_none (λ (r : Reservation). r.session == session) (others session s.now.server.reservations) (λ r h.
      false_from_ne_true (r.session == session) (λ t. let differs = (has_filter (λ (x : Reservation). not (x.session == session)) s.now.server.reservations r h).1 in absurd (cc)))

  -- each transaction fits when those of a session are gone
  ended_fits : (session : ℕ) (reservations : List Reservation) → s.now.served ≡ s.epoch → reservations ≡ others session s.now.server.reservations
      → (e t : ℕ) → Fits reservations s.now.served s.epoch e t (with_transaction s.epoch session idle s.now.transactions e t)
  ended_fits session reservations loaded is =
      with_has (Fits reservations s.now.served s.epoch) s.epoch session idle s.now.transactions (λ _. ap (own session) is ∙ none_own session)
      (λ e t other. fits_moved s.now.server.reservations reservations s.now.served s.epoch session loaded
      (λ x differs. ap (own x) is ∙ own_stay session x s.now.server.reservations (λ same. differs (sym same))) e t (s.now.transactions e t) other (sound.fits e t))

  -- the committed ones among what is left
  told_left : (session : ℕ) (reservations : List Reservation) → s.now.served ≡ s.epoch → reservations ≡ others session s.now.server.reservations
      → let now_told = told (with_transaction s.epoch session idle s.now.transactions s.now.served) in
      filter now_told reservations ≡ filter now_told s.now.server.reservations
  told_left session reservations loaded is =
      let now_told : Reservation → Bool = told (with_transaction s.epoch session idle s.now.transactions s.now.served) in
      ap (filter now_told) is
      ∙ filter_within now_told (λ r. not (r.session == session)) s.now.server.reservations (λ r t. ap not (told_of_others s.now.served s.epoch session idle s.now.transactions (sym loaded) refl r t))

  tell_sound : (session : ℕ) (notes : List Reservation) → May s (tell session notes) → IsSound catalog rows (after s (tell session notes))
  tell_sound session notes may =
      let loaded = may.0.loaded in
      let new : State = after_end s.now.server session end.Commit in
      let end_is = is_told s.now.server session in
      let of = told_less s.now.served s.epoch session idle s.now.transactions (sym loaded) refl (ap is_committed may.1) in
      let now_told : Reservation → Bool = told (with_transaction s.epoch session idle s.now.transactions s.now.served) in
      record {
        now = record {
          once = sound.now.once;
          placed = sound.now.placed;
          amounts = sound.now.amounts;
          meet = sound.now.meet;
          tables = end_is.catalog ∙ sound.now.tables;
          valid = end_is.valid sound.now.valid;
          known = sound.now.known
              ∙ sym (applied_parts (λ r. r.session == session) now_told (told (s.now.transactions s.now.served)) (λ r. (of r).0) (λ r. (of r).1) s.now.server.reservations s.now.server.rows)
              ∙ sym (ap (λ (rs : List Row). applied rs (filter now_told new.reservations)) end_is.rows
              ∙ ap (applied (applied s.now.server.rows (own session s.now.server.reservations))) (told_left session new.reservations loaded end_is.reservations));
        };
        fits = ended_fits session new.reservations loaded end_is.reservations;
        before = sound.before;
      }

  drop_sound : (session : ℕ) → May s (drop session) → IsSound catalog rows (after s (drop session))
  drop_sound session may =
      let loaded = may.0.loaded in
      let new : State = after_end s.now.server session end.Rollback in
      let end_is = is_dropped s.now.server session in
      let was : is_committed (s.now.transactions s.epoch session) ≡ false = ap is_committed may.1 in
      let now_told : Reservation → Bool = told (with_transaction s.epoch session idle s.now.transactions s.now.served) in
      let left : filter now_told new.reservations ≡ filter (told (s.now.transactions s.now.served)) s.now.server.reservations =
      told_left session new.reservations loaded end_is.reservations
      ∙ filter_alike now_told (told (s.now.transactions s.now.served)) (told_stays s.now.served s.epoch session idle s.now.transactions (sym was)) s.now.server.reservations in
      record {
        now = record {
          once = sound.now.once;
          placed = sound.now.placed;
          amounts = sound.now.amounts;
          meet = sound.now.meet;
          tables = end_is.catalog ∙ sound.now.tables;
          valid = end_is.valid sound.now.valid;
          known = sound.now.known ∙ sym (ap (λ (rs : List Row). applied rs (filter now_told new.reservations)) end_is.rows ∙ ap (applied s.now.server.rows) left);
        };
        fits = ended_fits session new.reservations loaded end_is.reservations;
        before = sound.before;
      }

  -- OWNERS AND CRASHES

  take_over_sound : (epoch : ℕ) → May s (take_over epoch) → IsSound catalog rows (after s (take_over epoch))
  take_over_sound epoch may = record {
    now = sound.now;
    fits = λ e t. fresh_fits s.now.server.reservations s.now.served s.epoch epoch e t (s.now.transactions e t)
        (λ he. ap (λ (x : ℕ). s.now.transactions x t) he ∙ may.unused t) (sound.fits e t);
    before = sound.before;
  }

  serve_sound : (ends : List (ℕ × End)) → May s (serve ends) → IsSound catalog rows (after s (serve ends))
  serve_sound ends may =
      let last : ℕ → Transaction = s.now.transactions s.now.served in
      let ended : State = settled ends s.now.server in
      let new : ℕ → ℕ → Transaction = λ epoch session. cond (epoch == s.epoch) (held_again (last session)) (without_hold (s.now.transactions epoch session)) in
      let valid : IsValid ended = subst (λ (plan : List (ℕ × End)). IsValid (settled plan s.now.server)) (take_all (length ends) ends (le_refl (length ends)))
      (settled_stays_valid s.now.server ends (length ends) sound.now.valid) in
      let loaded : amounts_in s.now ≡ ended.rows = sound.now.known ∙ ap (applied s.now.server.rows)
      (filter_alike (told last) (λ (r : Reservation). is_commit (end_of ends r.session)) (λ r. sym (ap is_commit (may.3 r.session) ∙ ending_commits (last r.session))) s.now.server.reservations) in
      let none : filter (told (new s.epoch)) ended.reservations ≡ [] = filter_none (told (new s.epoch)) ended.reservations
      (λ r _. ap (λ (b : Bool). is_committed (cond b (held_again (last r.session)) (without_hold (s.now.transactions s.epoch r.session)))) (eq-eqb s.epoch s.epoch refl) ∙ held_is (last r.session)) in
      record {
        now = record {
          once = sound.now.once;
          placed = sound.now.placed;
          amounts = sound.now.amounts;
          meet = sound.now.meet;
          tables = sound.now.tables;
          valid = subst (λ (rs : List Row). IsValid (record ended { rows = rs })) (sym loaded) valid;
          known = sym (ap (applied (amounts_in s.now)) none ∙ applied_none (amounts_in s.now));
        };
        fits = λ e t. cond_both (e == s.epoch) (held_again (last t)) (without_hold (s.now.transactions e t)) (Fits ended.reservations s.epoch s.epoch e t)
            (λ same. holds_fit s.now.server.reservations s.now.served s.epoch e t (end_of ends) (last t) (eqb-true e s.epoch same) (may.3 t) (kept s.now.served t))
            (λ differs. others_fit ended.reservations s.epoch e t (s.now.transactions e t) (λ he. let same = eq-eqb e s.epoch he in absurd (cc)) (may.2 e t));
        before = sound.before;
      }

  crash_sound : (lost : List Moment) (left : Moment) (older : List Moment) (prepared : ℕ → ℕ → Bool) → May s (crash lost left older prepared)
      → IsSound catalog rows (after s (crash lost left older prepared))
  crash_sound lost left older prepared may =
      let Good : Moment → Type 0 = λ m. IsGood catalog rows m × AreKept m in
      let all : AllByRecursion Good (s.now ∷ s.before) = ((sound.now, kept), sound.before) in
      let stay = (all_append Good lost (left ∷ older) (subst (AllByRecursion Good) (sym may) all)).1 in
      let good = stay.0.0 in
      let new : ℕ → ℕ → Transaction = λ epoch session. crashed (prepared epoch session) (left.transactions epoch session) (s.now.transactions epoch session) in
      record {
        now = record {
          once = good.once;
          placed = good.placed;
          amounts = good.amounts;
          meet = good.meet;
          tables = good.tables;
          valid = good.valid;
          known = good.known ∙ sym (ap (applied left.server.rows) (filter_alike (told (new left.served)) (told (left.transactions left.served))
              (λ r. crashed_is (prepared left.served r.session) (left.transactions left.served r.session) (s.now.transactions left.served r.session)) left.server.reservations));
        };
        fits = λ e t. crashed_fits left.server.reservations left.served e t (prepared e t) (left.transactions e t) (s.now.transactions e t) (stay.0.1 e t);
        before = stay.1;
      }

  pub event_sound : (event : Event) → May s event → IsSound catalog rows (after s event)
  event_sound (grant session text r notes) may = grant_sound session text r notes may
  event_sound (write epoch session notes r) may = write_sound epoch session notes r may
  event_sound (pass epoch session notes r) may = pass_sound epoch session notes r may
  event_sound (mark session name) may = mark_sound session name may
  event_sound (back session name notes gone) may = back_sound session name notes gone may
  event_sound (fail session name notes r) may = fail_sound session name notes r may
  event_sound (commit epoch session notes) may = commit_sound epoch session notes may
  event_sound (abort epoch session) may = abort_sound epoch session may
  event_sound (hold epoch session notes) may = hold_sound epoch session notes may
  event_sound (take_hold epoch session notes) may = take_sound epoch session notes may
  event_sound (release epoch session notes) may = release_sound epoch session notes may
  event_sound (tell session notes) may = tell_sound session notes may
  event_sound (drop session) may = drop_sound session may
  event_sound (fold key) may = fold_sound key
  event_sound (insert text row) may = insert_sound text row may
  event_sound (delete key) may = delete_sound key may
  event_sound (take_over epoch) may = take_over_sound epoch may
  event_sound (serve ends) may = serve_sound ends may
  event_sound (stale epoch session r notes) may = stale_sound epoch session r notes may
  event_sound (crash lost left older prepared) may = crash_sound lost left older prepared may
