-- SAVEPOINT: the new savepoint is the last of its session, and replaces one of the same name.
use Rattle.std.specs.Prelude.{◌≡◌, ◌<◌, ℕ, ◌==◌, Bool, not, List, length}
use Rattle.std.proofs.Common.{inl, inr, subst, le_refl, le_trans}
use Rattle.escrow_num.specs.declared.reservation.Savepoint.{Savepoint}
use Rattle.escrow_num.specs.Session.{IsSession}
use Rattle.escrow_num.proofs.Ascending.{ascending_filter}
use Rattle.escrow_num.proofs.Items.{Has, all_has, has_all, has_filter}
use Rattle.escrow_journal.specs.declared.journal.TheConstants.Journal.{MAX_SAVEPOINTS}
use Rattle.escrow_journal.specs.Reservations.{own_savepoints, savepoint_before}
use Rattle.escrow_journal.specs.Savepoints.{is_named, without_savepoint, put_savepoint}
use Rattle.escrow_machine.specs.State.{State}
use Rattle.escrow_machine.specs.Transition.{after_savepoint}
use Rattle.escrow_machine.specs.Valid.{IsOrderly, IsSavepointIn, IsValid}
use Rattle.escrow_machine.proofs.Lengths.{length-filter_filter}
use Rattle.escrow_machine.proofs.Savepoints.{IsEarlier, before_session, before_made, sessions_rise, has_put_savepoint, put_ascending, few_put, other_name}

-- SAVEPOINT keeps the order of the state, if there is room for one more
pub savepoint_orderly : (s : State) (session : ℕ) (name : List ℕ) → IsOrderly s.catalog s.reservations s.savepoints s.next_id → IsSession session
    → length (own_savepoints session (without_savepoint session name s.savepoints)) < MAX_SAVEPOINTS
    → let after = after_savepoint s session name in IsOrderly after.catalog after.reservations after.savepoints after.next_id
savepoint_orderly s session name orderly of_session room =
    let other : Savepoint → Bool = λ p. not (is_named session name p) in
    let left : List Savepoint = without_savepoint session name s.savepoints in
    let new : Savepoint = record { session = session; name = name; id = s.next_id } in
    let In : Savepoint → Type 0 = IsSavepointIn s.next_id in
    let new_in : In new = record { session = of_session; first = orderly.first_id; within = le_refl s.next_id } in
    let each_in : (q : Savepoint) → Has s.savepoints q → In q = all_has In s.savepoints orderly.savepoints_in in
    let last : (q : Savepoint) → Has left q → q.session ≡ session → IsEarlier q new = λ q h same.
    let was = other_name session name s.savepoints q h in
    record { session = same; made = (each_in q was.0).within; named = was.1 same } in
    record {
      tables = orderly.tables;
      reservations_in = orderly.reservations_in;
      reservation_order = orderly.reservation_order;
      few_reservations = orderly.few_reservations;
      few_on_rows = orderly.few_on_rows;
      savepoints_in = has_all In (put_savepoint new left) (λ q h.
          elim (has_put_savepoint new left q h) [ inl e ↦ subst In e new_in | inr k ↦ each_in q (has_filter other s.savepoints q k).0 ]);
      savepoint_order = put_ascending savepoint_before before_session sessions_rise new left (λ q h same. before_made q new (last q h same)) (ascending_filter savepoint_before other s.savepoints orderly.savepoint_order);
      few_savepoints = λ k. few_put new left k (le_trans (length-filter_filter (λ (p : Savepoint). p.session == k) other s.savepoints) (orderly.few_savepoints k)) room;
      first_id = orderly.first_id;
      last_id = orderly.last_id;
    }

-- SAVEPOINT keeps a valid state valid
pub savepoint_valid : (s : State) (session : ℕ) (name : List ℕ) → IsValid s → IsSession session
    → length (own_savepoints session (without_savepoint session name s.savepoints)) < MAX_SAVEPOINTS → IsValid (after_savepoint s session name)
savepoint_valid s session name valid of_session room =
    record { orderly = savepoint_orderly s session name valid.orderly of_session room; safe_rows = valid.safe_rows }
