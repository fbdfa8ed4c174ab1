-- The laws of units and reservations.
use Rattle.std.specs.Prelude.{◌≡◌, ℕ, ◌+◌, ℤ, ◌+ℤ◌, pos, List, [], ◌∷◌, ◌++◌, map}
use Rattle.std.specs.List.{AllByRecursion}
use Rattle.std.proofs.Common.{refl, sym, ap, ◌∙◌, arith}
use Rattle.std.proofs.lemmas.Int.{ints}
use Rattle.escrow_num.specs.declared.reservation.Reservation.{Reservation}
use Rattle.escrow_num.specs.declared.value.RowName.{RowName}
use Rattle.escrow_machine.specs.declared.reply.Reply.{Reply}
use Rattle.escrow_machine.specs.Laws.{IsNoRestart}
use Rattle.escrow_machine.specs.State.{State}
use Rattle.escrow_transcript.specs.declared.entry.Entry.{Entry}
use Rattle.escrow_transcript.specs.Laws.{event_of}
use Rattle.escrow_transcript.proofs.Runs.{steps_run, events_of_sessions}
use Rattle.escrow_accounts.specs.Book.{Move, book, total, worth, balance, granted_in, committed_in, released_in, number}
use Rattle.escrow_accounts.specs.Laws.{IsGoodRun, UnitsAreAccountedFor, NoMoveIsLeftOut, ReservationsEndOnce, ChangesAreAppliedOnce, has_id, TranscriptsAreAccountedFor}
use Rattle.escrow_accounts.proofs.Counting.{balance_append}
use Rattle.escrow_accounts.proofs.Events.{run_counted}
use Rattle.escrow_accounts.proofs.Ids.{once_in}

pub units_are_accounted_for : UnitsAreAccountedFor
units_are_accounted_for s events answers new good = (run_counted s events answers new good.valid good.sessions good.run).units

pub reservations_end_once : ReservationsEndOnce
reservations_end_once s events answers new good = (run_counted s events answers new good.valid good.sessions good.run).numbers

pub changes_are_applied_once : ChangesAreAppliedOnce
changes_are_applied_once s events answers new good none id =
    let moves : List Move = book s events answers in
    let whole : number (has_id id) s.reservations + number (has_id id) (granted_in moves)
    ≡ number (has_id id) (committed_in moves) + number (has_id id) (released_in moves) + number (has_id id) new.reservations =
    reservations_end_once s events answers new good (has_id id) in
    let once = once_in id s events answers new good.valid none good.run in
    omega arith

-- a sum with and without one of its parts
left_out : (a b t u w : ℤ) → t ≡ u +ℤ (a +ℤ (w +ℤ b)) → t ≡ u +ℤ (a +ℤ b) → w ≡ pos 0
left_out a b t u w whole without = omega (arith, ints)

pub no_move_is_left_out : NoMoveIsLeftOut
no_move_is_left_out s events answers new good chosen column front rest m is without =
    left_out (balance chosen column front) (balance chosen column rest) (total chosen column new.rows) (total chosen column s.rows) (worth chosen column m)
    (units_are_accounted_for s events answers new good chosen column
    ∙ ap (λ (z : ℤ). total chosen column s.rows +ℤ z) (ap (balance chosen column) is ∙ balance_append chosen column front (m ∷ rest)))
    (without ∙ ap (λ (z : ℤ). total chosen column s.rows +ℤ z) (balance_append chosen column front rest))

-- TRANSCRIPTS

-- no entry is a restart
no_restarts : (entries : List Entry) → AllByRecursion IsNoRestart (map event_of entries)
no_restarts [] = tt
no_restarts (e ∷ entries) = (tt, no_restarts entries)

pub transcripts_are_accounted_for : TranscriptsAreAccountedFor
transcripts_are_accounted_for s entries end good =
    let run : IsGoodRun s (map event_of entries) (map (λ (e : Entry). e.reply) entries) end = record {
      valid = good.valid;
      sessions = events_of_sessions entries good.sessions;
      run = steps_run s end entries good.steps;
    } in
    record {
      units = units_are_accounted_for s (map event_of entries) (map (λ (e : Entry). e.reply) entries) end run;
      reservations = reservations_end_once s (map event_of entries) (map (λ (e : Entry). e.reply) entries) end run;
      once = changes_are_applied_once s (map event_of entries) (map (λ (e : Entry). e.reply) entries) end run (no_restarts entries);
    }
