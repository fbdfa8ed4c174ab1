-- What the machine's COMMIT, ROLLBACK, SAVEPOINT and ROLLBACK TO make of its state.
use Rattle.std.specs.Prelude.{◌≡◌, ℕ, ◌==◌, Bool, true, false, not, nat_le, Option, Some, None, option_map, unwrap_or, List, filter, bytes_eq}
use Rattle.std.proofs.Common.{refl, sym, ap, ◌∙◌}
use Rattle.std.proofs.lemmas.Bool.{and_parts, eqb-true, eq-eqb, false_from_ne_true}
use Rattle.escrow_num.specs.declared.reservation.Reservation.{Reservation}
use Rattle.escrow_num.specs.declared.reservation.Savepoint.{Savepoint}
use Rattle.escrow_num.specs.declared.session.End.TheVariants as end
use Rattle.escrow_num.proofs.Items.{find_has}
use Rattle.escrow_statement.specs.declared.statement.Statement.TheVariants as statement
use Rattle.escrow_journal.specs.Open.{returned_to}
use Rattle.escrow_journal.specs.Reservations.{own, others}
use Rattle.escrow_journal.specs.Savepoints.{is_after, is_named, savepoint_of}
use Rattle.escrow_schema.specs.Rows.{applied}
use Rattle.escrow_machine.specs.Settle.{after_end}
use Rattle.escrow_machine.specs.declared.reply.Reply.{Reply}
use Rattle.escrow_machine.specs.State.{State, open_in, with_open}
use Rattle.escrow_machine.specs.Step.{step}
use Rattle.escrow_machine.specs.Transition.{transition_of}
use Rattle.escrow_machine.specs.Valid.{IsValid}
use Rattle.escrow_machine.proofs.Filters.{filter_all}
use Rattle.escrow_machine.proofs.LawsSteps.{step_has}
use Rattle.escrow_machine.proofs.ValidEnds.{commit_valid, rollback_valid}

-- the session's reservations are applied, or they are not; either way they are gone
pub record IsCommitted (s : State) (session : ℕ) (new : State) : Type 0 where
  pub catalog : new.catalog ≡ s.catalog
  pub rows : new.rows ≡ applied s.rows (own session s.reservations)
  pub reservations : new.reservations ≡ others session s.reservations
  pub valid : IsValid s → IsValid new

pub record IsDropped (s : State) (session : ℕ) (new : State) : Type 0 where
  pub catalog : new.catalog ≡ s.catalog
  pub rows : new.rows ≡ s.rows
  pub reservations : new.reservations ≡ others session s.reservations
  pub valid : IsValid s → IsValid new

pub is_told : (s : State) (session : ℕ) → IsCommitted s session (after_end s session end.Commit)
unfolding transition_of
is_told s session = record { catalog = refl; rows = refl; reservations = refl; valid = commit_valid s session }

pub is_dropped : (s : State) (session : ℕ) → IsDropped s session (after_end s session end.Rollback)
unfolding transition_of
is_dropped s session = record { catalog = refl; rows = refl; reservations = refl; valid = rollback_valid s session }

-- some of the session's reservations are gone, if any; others' stay
pub record HasGoneBack (s : State) (session : ℕ) (new : State) : Type 0 where
  pub catalog : new.catalog ≡ s.catalog
  pub rows : new.rows ≡ s.rows
  pub keep : Reservation → Bool
  pub reservations : new.reservations ≡ filter keep s.reservations
  pub others_stay : (r : Reservation) → (r.session == session) ≡ false → keep r ≡ true

unchanged : (s : State) (session : ℕ) → HasGoneBack s session s
unchanged s session = record {
  catalog = refl;
  rows = refl;
  keep = λ r. true;
  reservations = sym (filter_all (λ (r : Reservation). true) s.reservations (λ _ _. refl));
  others_stay = λ _ _. refl;
}

returned : (s : State) (session : ℕ) (name : List ℕ) (o : Option Savepoint) → savepoint_of session name s.savepoints ≡ o
    → HasGoneBack s session (with_open s (unwrap_or (option_map (returned_to (open_in s)) o) (open_in s)))
returned s session name None is = unchanged s session
returned s session name (Some p) is =
    let named = (find_has (is_named session name) s.savepoints p is).1 in
    let of_session : (p.session == session) ≡ true = (and_parts (p.session == session) (bytes_eq p.name name) named).0 in
    record {
      catalog = refl;
      rows = refl;
      keep = λ r. not (is_after p r);
      reservations = refl;
      others_stay = λ r differs. ap not (false_from_ne_true (is_after p r) (λ both.
          let same : (r.session == p.session) ≡ true = (and_parts (r.session == p.session) (nat_le p.id r.id) both).0 in
          let is : (r.session == session) ≡ true = eq-eqb r.session session (eqb-true r.session p.session same ∙ eqb-true p.session session of_session) in
          absurd (cc)));
    }

back_next : (s : State) (session : ℕ) (name : List ℕ) → HasGoneBack s session (transition_of s session (statement.RollbackTo name)).next
unfolding transition_of
back_next s session name = returned s session name (savepoint_of session name s.savepoints) refl

pub has_gone_back : (s : State) (session : ℕ) (name : List ℕ) → HasGoneBack s session (step s session (statement.RollbackTo name)).1
has_gone_back s session name =
    step_has (λ (p : Reply × State). HasGoneBack s session p.1) s session (statement.RollbackTo name) (λ _ _. unchanged s session) (λ _. back_next s session name)

-- a savepoint changes no reservation
pub record HasOneMark (s : State) (new : State) : Type 0 where
  pub catalog : new.catalog ≡ s.catalog
  pub rows : new.rows ≡ s.rows
  pub reservations : new.reservations ≡ s.reservations

marked_next : (s : State) (session : ℕ) (name : List ℕ) → HasOneMark s (transition_of s session (statement.Savepoint name)).next
unfolding transition_of
marked_next s session name = record { catalog = refl; rows = refl; reservations = refl }

pub has_one_mark : (s : State) (session : ℕ) (name : List ℕ) → HasOneMark s (step s session (statement.Savepoint name)).1
has_one_mark s session name =
    step_has (λ (p : Reply × State). HasOneMark s p.1) s session (statement.Savepoint name) (λ _ _. record { catalog = refl; rows = refl; reservations = refl }) (λ _. marked_next s session name)
