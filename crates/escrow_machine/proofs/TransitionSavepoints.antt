-- The transitions of SAVEPOINT and ROLLBACK TO.
use Rattle.std.specs.Prelude.{◌≤◌, ℕ, List}
use Rattle.std.proofs.Common.{refl, le_refl}
use Rattle.escrow_statement.specs.declared.statement.Statement.TheVariants as statement
use Rattle.escrow_machine.specs.Laws.{ShowsJust}
use Rattle.escrow_machine.specs.State.{State}
use Rattle.escrow_machine.specs.Transition.{transition_of, after_savepoint}
use Rattle.escrow_machine.proofs.Accepted.{savepoint_room}
use Rattle.escrow_machine.proofs.Queries.{shows_just}
use Rattle.escrow_machine.proofs.ValidEnds.{returned_to, back_has, back_valid}
use Rattle.escrow_machine.proofs.ValidSavepoint.{savepoint_valid}
use Rattle.escrow_machine.proofs.TransitionWords.{IsTransition}

pub savepoint_transition : (s : State) (session : ℕ) (name : List ℕ) → IsTransition s session (statement.Savepoint name) (transition_of s session (statement.Savepoint name))
unfolding transition_of
savepoint_transition s session name = record {
  answers = λ r e. absurd (cc);
  succeeds = refl;
  seen = λ _. shows_just (after_savepoint s session name) s.catalog s.rows refl refl;
  ids = λ _. le_refl _;
  next = λ _ id e. absurd (cc);
  valid = λ accepted valid of_session. savepoint_valid s session name valid of_session (savepoint_room s session name accepted);
}

pub back_transition : (s : State) (session : ℕ) (name : List ℕ) → IsTransition s session (statement.RollbackTo name) (transition_of s session (statement.RollbackTo name))
unfolding transition_of
back_transition s session name =
    let Seen : State → Type 0 = λ t. ShowsJust t s.catalog s.rows in
    record {
      answers = λ r e. absurd (cc);
      succeeds = refl;
      seen = λ _. back_has Seen s session name (shows_just s s.catalog s.rows refl refl) (λ p. shows_just (returned_to s p) s.catalog s.rows refl refl);
      ids = λ _. back_has (λ (t : State). s.next_id ≤ t.next_id) s session name (le_refl _) (λ _. le_refl _);
      next = λ _ id e. absurd (cc);
      valid = λ _ valid _. back_valid s session name valid;
    }
