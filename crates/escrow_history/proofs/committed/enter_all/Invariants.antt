use Rattle.std.proofs.Common.{◌≡◌, ◌+◌, ◌≤◌, ◌++◌, List, length, vec_len}
use Rattle.std.specs.Prelude.{Result}
use Rattle.std.specs.Vec.{vec_capacity}
use Rattle.escrow_num.specs.declared.failure.Failure.{Failure}
use Rattle.escrow_transcript.specs.declared.transcript.TheConstants.Transcript.{MAX_NUMBER}
use Rattle.escrow_history.specs.declared.committed.Committed.{Committed}
use Rattle.escrow_history.specs.Commits.{commits_of, NameTheirs}
use Rattle.escrow_history.specs.Entered.{AreEntered}
use Rattle.escrow_history.proofs.committed.enter_all.Given as goal

abbrev pub invariant-loop-session : goal.invariant-loop-session
invariant-loop-session l =
    let sessions = l.session-iterator.a.rest.now in
    let replies = l.session-iterator.b.rest.now in
    record {
      each : length replies ≡ length sessions;
      room : vec_len l.entries + length sessions ≤ vec_capacity l.entries;
      capacity : vec_capacity l.entries ≡ vec_capacity l.initial.entries;
      places : vec_len l.outcomes + length sessions ≤ vec_capacity l.outcomes;
      numbers : l.before + vec_len l.entries + length sessions ≤ MAX_NUMBER;
      entered : (more : List (Result Committed Failure)) → AreEntered (l.before + vec_len l.entries) replies more → AreEntered (l.before + vec_len l.initial.entries) l.replies (l.outcomes.items ++ more);
      named : (more : List (Result Committed Failure)) → NameTheirs sessions more → NameTheirs l.sessions (l.outcomes.items ++ more);
      entries : (more : List (Result Committed Failure)) → l.entries.items ++ commits_of sessions more ≡ l.initial.entries.items ++ commits_of l.sessions (l.outcomes.items ++ more);
    }
