-- What a database and its transcript keep over calls.
use Rattle.std.specs.Prelude.{◌≡◌, ℕ, ◌+◌, ◌≤◌, ◌<◌, true, false, Option, Some, None, MatchOption, Result, Ok, Err, IsErrAnd, IsOk, OnErr, IsTrue, Bool, List, [], ◌++◌, length, Vec, vec_len}
use Rattle.std.proofs.Common.{ap, arith, inl, inr, refl, subst, sym, ◌∙◌}
use Rattle.std.proofs.lemmas.Bool.{false≢true}
use Rattle.std.proofs.lemmas.List.{length-append, length_push}
use Rattle.sqlite.specs.Held.{state}
use Rattle.sqlite.specs.State.{HasCleanDisk}
use Rattle.sqlite_trees.specs.declared.store.Store.{Ghosts}
use Rattle.escrow_num.specs.declared.failure.Failure.{Failure}
use Rattle.escrow_num.specs.declared.failure.Failure.TheVariants as failure
use Rattle.escrow_num.specs.declared.refusal.Refusal.TheVariants as refusal
use Rattle.escrow_num.specs.Refusal.{refusal_for}
use Rattle.escrow_statement.specs.declared.statement.Statement.{Statement}
use Rattle.escrow_machine.specs.declared.event.Event.{Event}
use Rattle.escrow_machine.specs.declared.reply.Reply.{Reply}
use Rattle.escrow_machine.specs.declared.reply.Reply.TheVariants as reply
use Rattle.escrow_machine.specs.Reply.{failure_of}
use Rattle.escrow_machine.specs.State.{State}
use Rattle.escrow_machine.specs.Step.{IsRun, IsStep, StepOrRefusal, may_fail}
use Rattle.escrow_machine.proofs.LawsMemory.{shown_stays}
use Rattle.escrow_core.specs.Database.{Database}
use Rattle.escrow_transcript.specs.declared.base.Base.{Base}
use Rattle.escrow_transcript.specs.declared.entry.Entry.{Entry}
use Rattle.escrow_transcript.specs.declared.transcript.TheConstants.Transcript.{MAX_ENTRIES, MAX_NUMBER}
use Rattle.escrow_transcript.specs.Image.{started}
use Rattle.escrow_transcript.specs.Legal.{IsLegal}
use Rattle.escrow_transcript.proofs.Legals.{nothing_is_legal, one_more_is_legal}
use Rattle.escrow_transcript.proofs.Numbers.{numbered_join}
use Rattle.escrow_transcript.proofs.Steps.{steps_join}
use Rattle.escrow_history.specs.declared.committed.Committed.{Committed}
use Rattle.escrow_history.specs.declared.served.Unserved.{Unserved}
use Rattle.escrow_history.specs.declared.served.Unserved.TheVariants.{Failed}
use Rattle.escrow_history.specs.Calls.{Appends, Stays, IsFailed}
use Rattle.escrow_history.specs.Commits.{Commits, NameTheirs, commits_of}
use Rattle.escrow_history.specs.Entered.{asked_by, AreEntered}
use Rattle.escrow_history.specs.Audited.{Audited, IsKept}
use Rattle.escrow_history.specs.Inside.{audited_of, IsNotKept}
use Rattle.escrow_history.proofs.Entering.{asked_each, commits_few, entered_each, entered_numbered, entered_outcomes, entered_steps}
use Rattle.escrow_history.proofs.NeverFull.{never_told}

module _ {S : Type 0} (g : Ghosts S) where
  -- a transcript begins at a base, the current state of the database
  pub begun_keeps : {Z : Type 0} (d : Database S) (base : Base) (entries : Vec Entry Z) → entries.items ≡ [] → (HasCleanDisk (state g d.store) → d.state ≡ started base.image)
      → base.before + MAX_ENTRIES ≤ MAX_NUMBER → IsKept g (audited_of d base entries)
  begun_keeps d base entries none is numbers = record {
    legal = λ clean. rw none (subst (IsLegal base []) (sym (is clean)) (nothing_is_legal base));
    few = rw none (omega arith);
    numbers = numbers;
  }

  -- nothing changed
  pub stayed_keeps : (old new : Audited S) → IsKept g old → (HasCleanDisk (state g new.store) → HasCleanDisk (state g old.store)) → Stays g old new → IsKept g new
  stayed_keeps old new kept was stays = record {
    legal = λ clean. rw (stays.base, stays.entries, stays.unchanged clean) (kept.legal (was clean));
    few = rw stays.entries kept.few;
    numbers = rw stays.base kept.numbers;
  }

  -- there is one more entry
  pub appended_keeps : (old new : Audited S) (session : ℕ) (asked : Statement) (number : ℕ) (answer : Reply) → IsKept g old → length old.entries < MAX_ENTRIES
      → (HasCleanDisk (state g new.store) → HasCleanDisk (state g old.store)) → Appends g old session asked number answer new → IsKept g new
  appended_keeps old new session asked number answer kept room was appends =
      let e : Entry = record { number = number; session = session; statement = asked; reply = answer } in
      record {
        legal = λ clean. rw (appends.base, appends.entries) (one_more_is_legal old.base old.entries old.state new.state e (kept.legal (was clean)) appends.succeeds (appends.step clean) appends.number_is);
        few = rw appends.entries (omega (arith, length_push old.entries e));
        numbers = rw appends.base kept.numbers;
      }

  -- the entries of a run are what COMMITs add to a database and its transcript
  pub commits_made : {Z : Type 0} (d after : Database S) (base : Base) (entries room more : Vec Entry Z) (sessions : List ℕ) (events : List Event) (answers told : List Reply)
      (outcomes : List (Result Committed Failure)) → events ≡ asked_by sessions → length answers ≡ length events → told ≡ answers
      → (HasCleanDisk (state g after.store) → IsRun d.state events answers after.state) → room.items ≡ entries.items
      → base.before + vec_len room ≡ base.before + length entries.items → AreEntered (base.before + vec_len room) told outcomes → NameTheirs sessions outcomes
      → more.items ≡ room.items ++ commits_of sessions outcomes → Commits g (audited_of d base entries) sessions outcomes (audited_of after base more)
  commits_made d after base entries room more sessions events answers told outcomes asked each is run same before entered named added =
      let begins = base.before + length entries.items in
      let read : AreEntered begins answers outcomes = subst (λ (n : ℕ). AreEntered n answers outcomes) before (subst (λ (rs : List Reply). AreEntered (base.before + vec_len room) rs outcomes) is entered) in
      record {
        each = entered_each begins answers outcomes read ∙ each ∙ ap length asked ∙ asked_each sessions;
        steps = λ clean. entered_steps begins d.state after.state sessions answers outcomes read (subst (λ (es : List Event). IsRun d.state es answers after.state) asked (run clean));
        told = λ clean. entered_outcomes begins d.state after.state sessions answers outcomes read (subst (λ (es : List Event). IsRun d.state es answers after.state) asked (run clean));
        named = named;
        numbered = entered_numbered begins sessions answers outcomes read;
        base = refl;
        entries = added ∙ ap (λ (es : List Entry). es ++ commits_of sessions outcomes) same;
      }

  -- there is one more entry for each COMMIT that was served
  pub committed_keeps : (old new : Audited S) (sessions : List ℕ) (outcomes : List (Result Committed Failure)) → IsKept g old → length old.entries + length sessions ≤ MAX_ENTRIES
      → (HasCleanDisk (state g new.store) → HasCleanDisk (state g old.store)) → Commits g old sessions outcomes new → IsKept g new
  committed_keeps old new sessions outcomes kept room was commits =
      let more = commits_of sessions outcomes in
      record {
        legal = λ clean.
            let legal = kept.legal (was clean) in
            rw (commits.base, commits.entries) (record {
              run = steps_join (started old.base.image) old.state new.state old.entries more legal.run (commits.steps clean);
              numbered = numbered_join old.base.before (old.base.before + length old.entries) old.entries more legal.numbered refl commits.numbered;
            });
        few = rw commits.entries (let few = commits_few sessions outcomes in omega (arith, length-append old.entries more, few));
        numbers = rw commits.base kept.numbers;
      }

module _ (s : State) (session : ℕ) (asked : Statement) (answer : Reply) (new : State) where
  -- a reply that is no failure is the machine's
  pub served_step : failure_of answer ≡ None → StepOrRefusal s session asked answer new → IsStep s session asked answer new
  served_step succeeds event =
      subst (λ (o : Option Failure). MatchOption o (IsStep s session asked answer new) (λ failure. IsTrue (may_fail s session asked failure) × (new ≡ s))) succeeds event

  -- a failure leaves the state unchanged
  failed_stays : (f : Failure) → failure_of answer ≡ Some f → StepOrRefusal s session asked answer new → new ≡ s
  failed_stays f fails event =
      let told : MatchOption (Some f) (IsStep s session asked answer new) (λ failure. IsTrue (may_fail s session asked failure) × (new ≡ s)) =
      subst (λ (o : Option Failure). MatchOption o (IsStep s session asked answer new) (λ failure. IsTrue (may_fail s session asked failure) × (new ≡ s))) fails event in
      told.1

  -- it is one that the statement may meet
  failed_may : (f : Failure) → failure_of answer ≡ Some f → StepOrRefusal s session asked answer new → IsTrue (may_fail s session asked f)
  failed_may f fails event =
      let told : MatchOption (Some f) (IsStep s session asked answer new) (λ failure. IsTrue (may_fail s session asked failure) × (new ≡ s)) =
      subst (λ (o : Option Failure). MatchOption o (IsStep s session asked answer new) (λ failure. IsTrue (may_fail s session asked failure) × (new ≡ s))) fails event in
      told.0

  -- no step gives this reply
  never_stays : answer ≡ reply.Refused refusal.TranscriptFull → StepOrRefusal s session asked answer new → new ≡ s
  never_stays full event = absurd (never_told s session asked answer new (served_step (ap failure_of full) event) full)

  -- a reply that is not kept, for a failure or for memory, leaves the state unchanged
  pub unserved_stays : (f : Failure) → IsNotKept answer f → StepOrRefusal s session asked answer new → new ≡ s
  unserved_stays f (inl (inl fails)) event = failed_stays f fails event
  unserved_stays f (inl (inr full)) event = never_stays full.0 event
  unserved_stays f (inr holds) event = shown_stays s session asked answer new event holds.0

  -- only a statement that may fail by the store is refused by it
  pub refused_by_store : (f : Failure) → IsNotKept answer f → StepOrRefusal s session asked answer new → f ≡ failure.Store → IsTrue (may_fail s session asked failure.Store)
  refused_by_store f (inl (inl fails)) event is = failed_may (failure.Store) (fails ∙ ap Some is) event
  refused_by_store f (inl (inr full)) event is = absurd (never_told s session asked answer new (served_step (ap failure_of full.0) event) full.0)
  refused_by_store f (inr holds) event is = let memory = holds.1 in absurd (cc)

-- a fact holds in particular if there is an error
pub on_err : {T E P : Type 0} (r : Result T E) → P → OnErr r P
on_err (Ok x) p = tt
on_err (Err e) p = p

-- a failure that is handed on is the store's only if it was
pub failed_by : {T : Type 0} (r : Result T Unserved) (f : Failure) → IsErrAnd r (λ u. u ≡ Failed f) → r ≡ Err (Failed failure.Store) → f ≡ failure.Store
failed_by (Ok x) f gives same = absurd gives
failed_by (Err u) f gives same = cc

-- a failure is reported as 51 or 60
pub failed_is : (f : Failure) → IsFailed (refusal_for f)
failed_is failure.Memory = inl refl
failed_is failure.Store = inr refl

-- a reply that cannot be copied holds memory
pub uncopied_holds : {A E : Type 0} (holds : Bool) (copy : Result A E) (e : E) → copy ≡ Err e → (holds ≡ false → IsOk copy) → holds ≡ true
uncopied_holds true copy e is succeeds = refl
uncopied_holds false copy e is succeeds = absurd (false≢true (subst IsOk is (succeeds refl)))
