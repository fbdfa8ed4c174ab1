-- What a database did, from one call to the next.
use Rattle.std.specs.Prelude.{◌≡◌, ◌⊎◌, ℕ, suc, false, true, IsSome, IsTrue, Option, Some, None, MatchOption, Result, List, [], ◌∷◌, ◌++◌, length}
use Rattle.std.proofs.Common.{inl, inr, refl, sym, ap, subst, arith, ◌∙◌, append_assoc}
use Rattle.std.proofs.lemmas.Bool.{cases_Bool, false≢true}
use Rattle.std.proofs.lemmas.List.{length-append}
use Rattle.sqlite.specs.Held.{state}
use Rattle.sqlite.specs.State.{HasCleanDisk, Survives}
use Rattle.sqlite.proofs.StateLemmas.{survives_then, survives_weaker}
use Rattle.escrow_rows.specs.Answers.{IsUsable}
use Rattle.sqlite_trees.specs.Tree.{Trees}
use Rattle.sqlite_trees.specs.declared.store.Store.{Ghosts}
use Rattle.escrow_num.specs.declared.failure.Failure.{Failure}
use Rattle.escrow_num.specs.declared.refusal.Refusal.{Refusal}
use Rattle.escrow_statement.specs.declared.statement.Statement.{Statement}
use Rattle.escrow_machine.specs.declared.event.Event.{Event}
use Rattle.escrow_machine.specs.declared.event.Event.TheVariants as event
use Rattle.escrow_machine.specs.declared.reply.Reply.{Reply}
use Rattle.escrow_machine.specs.declared.reply.Reply.TheVariants as reply
use Rattle.escrow_machine.specs.Reply.{failure_of, holds_memory, restart_reply, tells_write}
use Rattle.escrow_machine.specs.State.{State}
use Rattle.escrow_machine.specs.Step.{step, may_fail, IsRun, IsServed, IsStep, StepOrRefusal}
use Rattle.escrow_machine.proofs.Choices.{append_all}
use Rattle.escrow_machine.proofs.LawsSteps.{machine_never_fails}
use Rattle.escrow_core.specs.Beside.{AreAfterEvent}
use Rattle.escrow_core.specs.Database.{Database}
use Rattle.escrow_core.specs.Left.{AreAfterAnswered, AreAfterSome, AreCounted, Lasts, TellNoWrite}
use Rattle.escrow_core.specs.Serves.{AreAfter, AreHeldOf}
use Rattle.escrow_core.proofs.Batches.{runs_on}
use Rattle.escrow_core.proofs.Lasting.{lasts_survives, lasts_then, restart_quiet, step_lasts}
use Rattle.escrow_core.proofs.Leaving.{after_some_more, counted_behind, counted_more}
use Rattle.escrow_core.proofs.Served.{stepped}
use Rattle.escrow_core.proofs.Serving.{still_clean, survives_itself}
use Rattle.escrow_serve.specs.Ran.{Ran}
use Rattle.escrow_serve.specs.Shown.{IsShown, AreShown}
use Rattle.escrow_serve.proofs.ShownLemmas.{step_refused}

-- ONE EVENT

-- the reply that counts is the given one, or the given one is a failure
counts_as : (s : State) (session : ℕ) (asked : Statement) (answer : Reply) (new : State) (o : Option Failure) → failure_of answer ≡ o
    → MatchOption o (IsStep s session asked answer new) (λ f. IsTrue (may_fail s session asked f) × (new ≡ s)) → ((step s session asked).0 ≡ answer) ⊎ IsSome (failure_of answer)
counts_as s session asked answer new None is event = inl (sym (ap (λ (p : Reply × State). p.0) event.is_step))
counts_as s session asked answer new (Some f) is event = inr (rw is refl)

written_fails : (answer : Reply) → tells_write answer ≡ true → ¬ (IsSome (failure_of answer))
written_fails (reply.Refused r) written failed = absurd (false≢true written)
written_fails _ written failed = absurd (false≢true failed)

-- a reply that says that the store was written is the one that counts
written_counts : (s : State) (session : ℕ) (asked : Statement) (answer : Reply) (new : State) → tells_write answer ≡ true → StepOrRefusal s session asked answer new → (step s session asked).0 ≡ answer
written_counts s session asked answer new written event = elim (counts_as s session asked answer new (failure_of answer) refl event) [
  | inl same ↦ same
  | inr failed ↦ absurd (written_fails answer written failed)
]

event_some : (s : State) (session : ℕ) (asked : Statement) (answer : Reply) (new : State) (trees : Trees) → StepOrRefusal s session asked answer new → AreAfter s session asked trees
    → AreAfterSome s (event.Statement session asked ∷ []) (answer ∷ []) trees
event_some s session asked answer new trees served held = record {
  first = event.Statement session asked ∷ [];
  rest = [];
  is_events = refl;
  counted = (step s session asked).0 ∷ [];
  are_counted = (counts_as s session asked answer new (failure_of answer) refl served, tt);
  now = (step s session asked).1;
  ran = ((step s session asked).1, stepped s session asked (step s session asked).0 (step s session asked).1 (machine_never_fails s session asked) refl, refl);
  held = held;
}

event_answered : (s : State) (happened : Event) (answer : Reply) (new : State) (trees : Trees) → IsServed s happened answer new → AreAfterEvent s happened trees
    → AreAfterAnswered s (happened ∷ []) (answer ∷ []) trees
unfolding event_some
event_answered s (event.Statement session asked) answer new trees served held = elim (cases_Bool (tells_write answer)) [
  | inl written ↦ record {
    some = event_some s session asked answer new trees served held;
    sure = answer ∷ [];
    unsure = [];
    is_given = refl;
    as_given = ([], ap (λ (r : Reply). r ∷ []) (written_counts s session asked answer new written served));
    none_missing = tt;
  }
  | inr quiet ↦ record {
    some = event_some s session asked answer new trees served held;
    sure = [];
    unsure = answer ∷ [];
    is_given = refl;
    as_given = ((step s session asked).0 ∷ [], refl);
    none_missing = (quiet, tt);
  }
]
event_answered s event.Restart answer new trees served held = absurd held

module _ {S : Type 0} (g : Ghosts S) where
  -- nothing
  pub ran_none : (d : Database S) → Ran g d [] [] d
  ran_none d = record { as_many = refl; run = λ _. refl; lasts = λ _ trees may. inl (tt, may); usable = λ still. still; survives = survives_itself (state g d.store) _ }

  module _ (old new : Database S) where
    -- one event
    ran_event : (happened : Event) (answer : Reply) → (HasCleanDisk (state g new.store) → IsServed old.state happened answer new.state)
        → Lasts (state g old.store) (state g new.store) (tells_write answer ≡ false) (AreAfterEvent old.state happened) → (IsUsable (state g new.store) → IsUsable (state g old.store))
        → Survives (state g old.store) (state g new.store) (λ trees. IsTrue (state g old.store).is_open × AreAfterEvent old.state happened trees) → Ran g old (happened ∷ []) (answer ∷ []) new
    ran_event happened answer served lasts usable crash = record {
      as_many = refl;
      run = λ used. (new.state, served used, refl);
      lasts = λ used trees may. elim (lasts used trees may) [
        | inl kept ↦ inl ((kept.0, tt), kept.1)
        | inr made ↦ inr (event_answered old.state happened answer new.state trees (served used) made)
      ];
      usable = usable;
      survives = survives_weaker (state g old.store) (state g new.store) _ _ (λ used trees k. (k.0, (event_answered old.state happened answer new.state trees (served used) k.1).some)) crash;
    }

    pub ran_statement : (session : ℕ) (asked : Statement) (answer : Reply) → (HasCleanDisk (state g new.store) → StepOrRefusal old.state session asked answer new.state)
        → (IsUsable (state g new.store) → IsUsable (state g old.store))
        → Survives (state g old.store) (state g new.store) (λ trees. IsTrue (state g old.store).is_open × AreAfter old.state session asked trees)
        → (IsTrue (tells_write answer) → HasCleanDisk (state g new.store) → (trees : Trees) → (state g new.store).may_leave trees → AreHeldOf new.state trees)
        → Ran g old (event.Statement session asked ∷ []) (answer ∷ []) new
    ran_statement session asked answer served usable crash durable =
        ran_event (event.Statement session asked) answer served (step_lasts g session asked old new answer served crash durable) usable crash

    pub ran_restart : (outcome : Result (Unit {0}) Refusal) → (HasCleanDisk (state g new.store) → IsServed old.state event.Restart (restart_reply outcome) new.state)
        → (IsUsable (state g new.store) → IsUsable (state g old.store)) → Survives (state g old.store) (state g new.store) (λ _. ⊥)
        → Ran g old (event.Restart ∷ []) (restart_reply outcome ∷ []) new
    ran_restart outcome served usable crash =
        ran_event event.Restart (restart_reply outcome) served
        (lasts_survives (state g old.store) (state g new.store) _ _ (AreAfterEvent old.state event.Restart) (restart_quiet outcome) (λ _ trees none. absurd none) crash) usable
        (survives_weaker (state g old.store) (state g new.store) (λ _. ⊥) _ (λ _ trees none. absurd none) crash)

-- EVENTS AND MORE EVENTS

answered_more : (s : State) (events more : List Event) (given told : List Reply) (trees : Trees) → TellNoWrite told → AreAfterAnswered s events given trees
    → AreAfterAnswered s (events ++ more) (given ++ told) trees
answered_more s events more given told trees quiet it = record {
  some = record {
    first = it.some.first;
    rest = it.some.rest ++ more;
    is_events = ap (λ (es : List Event). es ++ more) it.some.is_events ∙ append_assoc it.some.first it.some.rest more;
    counted = it.some.counted;
    are_counted = counted_more it.some.counted given told it.some.are_counted;
    now = it.some.now;
    ran = it.some.ran;
    held = it.some.held;
  };
  sure = it.sure;
  unsure = it.unsure ++ told;
  is_given = ap (λ (rs : List Reply). rs ++ told) it.is_given ∙ append_assoc it.sure it.unsure told;
  as_given = it.as_given;
  none_missing = append_all (λ (answer : Reply). tells_write answer ≡ false) it.unsure told it.none_missing quiet;
}

some_behind : (s mid : State) (events more : List Event) (answers others : List Reply) (trees : Trees) → IsRun s events answers mid → AreAfterSome mid more others trees
    → AreAfterSome s (events ++ more) (answers ++ others) trees
some_behind s mid events more answers others trees ran it = record {
  first = events ++ it.first;
  rest = it.rest;
  is_events = ap (λ (es : List Event). events ++ es) it.is_events ∙ sym (append_assoc events it.first it.rest);
  counted = answers ++ it.counted;
  are_counted = counted_behind answers it.counted others it.are_counted;
  now = it.now;
  ran = runs_on s events it.first answers it.counted mid it.now ran it.ran;
  held = it.held;
}

answered_behind : (s mid : State) (events more : List Event) (answers others : List Reply) (trees : Trees) → IsRun s events answers mid → AreAfterAnswered mid more others trees
    → AreAfterAnswered s (events ++ more) (answers ++ others) trees
unfolding some_behind
answered_behind s mid events more answers others trees ran it = record {
  some = some_behind s mid events more answers others trees ran it.some;
  sure = answers ++ it.sure;
  unsure = it.unsure;
  is_given = ap (λ (rs : List Reply). answers ++ rs) it.is_given ∙ sym (append_assoc answers it.sure it.unsure);
  as_given = (it.as_given.0, ap (λ (rs : List Reply). answers ++ rs) it.as_given.1 ∙ sym (append_assoc answers it.sure it.as_given.0));
  none_missing = it.none_missing;
}

pub ran_then : {S : Type 0} (g : Ghosts S) (old mid new : Database S) (events more : List Event) (answers others : List Reply) → Ran g old events answers mid → Ran g mid more others new
    → Ran g old (events ++ more) (answers ++ others) new
ran_then g old mid new events more answers others one two =
    let was = still_clean (state g mid.store) (state g new.store) _ two.survives in
    record {
      as_many = omega (arith, one.as_many, two.as_many, length-append answers others, length-append events more);
      run = λ used. runs_on old.state events more answers others mid.state new.state (one.run (was used)) (two.run used);
      lasts =
          lasts_then (state g old.store) (state g mid.store) (state g new.store) (TellNoWrite answers) (TellNoWrite others) (TellNoWrite (answers ++ others)) _ _
          (AreAfterAnswered old.state (events ++ more) (answers ++ others)) was (append_all (λ (answer : Reply). tells_write answer ≡ false) answers others)
          (λ _ trees quiet made. answered_more old.state events more answers others trees quiet made)
          (λ used trees made. answered_behind old.state mid.state events more answers others trees (one.run (was used)) made) one.lasts two.lasts;
      usable = λ still. one.usable (two.usable still);
      survives =
          survives_then (state g old.store) (state g mid.store) (state g new.store) _ _ _
          (λ _ trees k. (k.0, after_some_more old.state events more answers others trees k.1))
          (λ used trees k. ((one.usable (was used, k.0)).1, some_behind old.state mid.state events more answers others trees (one.run (was used)) k.1))
          one.survives two.survives;
    }

-- OTHER REPLIES ARE GIVEN

-- a reply that shows something does not say that the store was written, and its refusal does not either
shown_quiet : (answer given : Reply) → IsShown answer given → tells_write given ≡ tells_write answer
shown_quiet answer given (inl same) = ap tells_write same
shown_quiet (reply.Rows columns rows) given (inr refused) = ap tells_write refused.1
shown_quiet (reply.Table text) given (inr refused) = ap tells_write refused.1
shown_quiet (reply.Bounds columns checks) given (inr refused) = ap tells_write refused.1
shown_quiet (reply.Journal entries) given (inr refused) = ap tells_write refused.1
shown_quiet _ given (inr refused) = absurd (false≢true refused.0)

quiet_shown : (answers given : List Reply) → AreShown answers given → TellNoWrite answers → TellNoWrite given
quiet_shown [] given none quiet = subst TellNoWrite (sym none) tt
quiet_shown (a ∷ answers) [] are quiet = absurd are
quiet_shown (a ∷ answers) (g ∷ given) are quiet = (shown_quiet a g are.0 ∙ quiet.0, quiet_shown answers given are.1 quiet.1)

shown_back : (answers given : List Reply) → AreShown answers given → TellNoWrite given → TellNoWrite answers
shown_back [] given none quiet = tt
shown_back (a ∷ answers) [] are quiet = absurd are
shown_back (a ∷ answers) (g ∷ given) are quiet = (sym (shown_quiet a g are.0) ∙ quiet.0, shown_back answers given are.1 quiet.1)

counts_shown : (one answer given : Reply) → IsShown answer given → (one ≡ answer) ⊎ IsSome (failure_of answer) → (one ≡ given) ⊎ IsSome (failure_of given)
counts_shown one answer given (inl same) counts = subst (λ (r : Reply). (one ≡ r) ⊎ IsSome (failure_of r)) (sym same) counts
counts_shown one answer given (inr refused) counts = inr (subst (λ (r : Reply). IsSome (failure_of r)) (sym refused.1) refl)

counted_shown : (counted answers given : List Reply) → AreShown answers given → AreCounted counted answers → AreCounted counted given
counted_shown [] answers given are counts = tt
counted_shown (c ∷ counted) [] given are counts = absurd counts
counted_shown (c ∷ counted) (a ∷ answers) [] are counts = absurd are
counted_shown (c ∷ counted) (a ∷ answers) (g ∷ given) are counts = (counts_shown c a g are.0 counts.0, counted_shown counted answers given are.1 counts.1)

shown_count : (answers given : List Reply) → AreShown answers given → length given ≡ length answers
shown_count [] given none = ap length none
shown_count (a ∷ answers) [] are = absurd are
shown_count (a ∷ answers) (g ∷ given) are = ap suc (shown_count answers given are.1)

served_shown : (s : State) (happened : Event) (answer given : Reply) (new : State) → IsShown answer given → IsServed s happened answer new → IsServed s happened given new
served_shown s happened answer given new (inl same) served = subst (λ (r : Reply). IsServed s happened r new) (sym same) served
served_shown s (event.Statement session asked) answer given new (inr refused) served =
    subst (λ (r : Reply). StepOrRefusal s session asked r new) (sym refused.1) (step_refused s session asked answer new served refused.0)
served_shown s event.Restart answer given new (inr refused) (inl done) = absurd (false≢true (ap holds_memory (sym done.0) ∙ refused.0))
served_shown s event.Restart answer given new (inr refused) (inr failed) = inr (inl refused.1, failed.1)

run_shown : (s : State) (events : List Event) (answers given : List Reply) (new : State) → AreShown answers given → IsRun s events answers new → IsRun s events given new
run_shown s [] [] given new none run = subst (λ (gs : List Reply). IsRun s [] gs new) (sym none) run
run_shown s [] (a ∷ answers) given new are run = absurd run
run_shown s (e ∷ events) [] given new are run = absurd run
run_shown s (e ∷ events) (a ∷ answers) [] new are run = absurd are
run_shown s (e ∷ events) (a ∷ answers) (g ∷ given) new are run = (run.0, served_shown s e a g run.0 are.0 run.1, run_shown run.0 events answers given new are.1 run.2)

some_shown : (s : State) (events : List Event) (answers given : List Reply) (trees : Trees) → AreShown answers given → AreAfterSome s events answers trees → AreAfterSome s events given trees
some_shown s events answers given trees are it = record {
  first = it.first;
  rest = it.rest;
  is_events = it.is_events;
  counted = it.counted;
  are_counted = counted_shown it.counted answers given are it.are_counted;
  now = it.now;
  ran = it.ran;
  held = it.held;
}

all_shown : (answers : List Reply) → AreShown answers answers
all_shown [] = refl
all_shown (a ∷ answers) = (inl refl, all_shown answers)

pub shown_both : (answers others given more : List Reply) → AreShown answers given → AreShown others more → AreShown (answers ++ others) (given ++ more)
shown_both [] others given more none are = subst (λ (rs : List Reply). AreShown others (rs ++ more)) (sym none) are
shown_both (a ∷ answers) others [] more shown are = absurd shown
shown_both (a ∷ answers) others (g ∷ given) more shown are = (shown.0, shown_both answers others given more shown.1 are)

-- what is given for the first replies, and for the others
shown_split : (sure unsure given : List Reply) → AreShown (sure ++ unsure) given → (first : List Reply) × (rest : List Reply) × (given ≡ first ++ rest) × AreShown sure first × AreShown unsure rest
shown_split [] unsure given are = ([], given, refl, refl, are)
shown_split (a ∷ sure) unsure [] are = absurd are
shown_split (a ∷ sure) unsure (g ∷ given) are =
    let parts = shown_split sure unsure given are.1 in
    (g ∷ parts.0, parts.1, ap (λ (rs : List Reply). g ∷ rs) parts.2, (are.0, parts.3), parts.4)

counted_split : (sure counted given : List Reply) → AreCounted (sure ++ counted) (sure ++ given) → AreCounted counted given
counted_split [] counted given are = are
counted_split (a ∷ sure) counted given are = counted_split sure counted given are.1

answered_shown : (s : State) (events : List Event) (answers given : List Reply) (trees : Trees) → AreShown answers given → AreAfterAnswered s events answers trees → AreAfterAnswered s events given trees
answered_shown s events answers given trees are it =
    let some = it.some in
    let behind = it.as_given.0 in
    let parts = shown_split it.sure it.unsure given (subst (λ (rs : List Reply). AreShown rs given) it.is_given are) in
    let counts : AreCounted behind it.unsure =
    counted_split it.sure behind it.unsure (subst (λ (rs : List Reply). AreCounted rs (it.sure ++ it.unsure)) it.as_given.1 (subst (AreCounted some.counted) it.is_given some.are_counted)) in
    record {
      some = record {
        first = some.first;
        rest = some.rest;
        is_events = some.is_events;
        counted = parts.0 ++ behind;
        are_counted = subst (AreCounted (parts.0 ++ behind)) (sym parts.2) (counted_behind parts.0 behind parts.1 (counted_shown behind it.unsure parts.1 parts.4 counts));
        now = some.now;
        ran = run_shown s some.first some.counted (parts.0 ++ behind) some.now
            (subst (λ (rs : List Reply). AreShown rs (parts.0 ++ behind)) (sym it.as_given.1) (shown_both it.sure behind parts.0 behind parts.3 (all_shown behind))) some.ran;
        held = some.held;
      };
      sure = parts.0;
      unsure = parts.1;
      is_given = parts.2;
      as_given = (behind, refl);
      none_missing = quiet_shown it.unsure parts.1 parts.4 it.none_missing;
    }

pub ran_shown : {S : Type 0} (g : Ghosts S) (old new : Database S) (events : List Event) (answers given : List Reply) → AreShown answers given → Ran g old events answers new → Ran g old events given new
ran_shown g old new events answers given are ran = record {
  as_many = shown_count answers given are ∙ ran.as_many;
  run = λ used. run_shown old.state events answers given new.state are (ran.run used);
  lasts = λ used trees may. elim (ran.lasts used trees may) [
    | inl kept ↦ inl (quiet_shown answers given are kept.0, kept.1)
    | inr made ↦ inr (answered_shown old.state events answers given trees are made)
  ];
  usable = ran.usable;
  survives = survives_weaker (state g old.store) (state g new.store) _ _ (λ _ trees k. (k.0, some_shown old.state events answers given trees are k.1)) ran.survives;
}
