-- A batch of events: how it grows, and how it ends.
use Rattle.std.specs.Prelude.{◌≡◌, ℕ, ◌+◌, ◌<◌, Bool, true, false, if◌then◌else◌, Option, None, option_map, unwrap_or, List, [], ◌∷◌, ◌++◌, length}
use Rattle.std.specs.List.{AllByRecursion}
use Rattle.std.proofs.Common.{refl, sym, ap, ap₂, subst, ◌∙◌}
use Rattle.std.proofs.lemmas.List.{append-nil, append_assoc, length-append}
use Rattle.escrow_num.specs.declared.failure.Failure.{Failure}
use Rattle.escrow_num.specs.declared.session.End.{End}
use Rattle.escrow_num.specs.declared.session.End.TheVariants as end
use Rattle.escrow_num.specs.Refusal.{refusal_for}
use Rattle.escrow_num.specs.Ascending.{IsAscending}
use Rattle.escrow_journal.specs.Reservations.{savepoint_before}
use Rattle.escrow_machine.specs.declared.event.Event.{Event}
use Rattle.escrow_machine.specs.declared.event.Event.TheVariants as event
use Rattle.escrow_machine.specs.declared.reply.Reply.{Reply}
use Rattle.escrow_machine.specs.declared.reply.Reply.TheVariants as reply
use Rattle.escrow_machine.specs.Held.{Waiting, Outcome, IsHeldRun, holding, events_of, answer_by, answers_by, ended_by}
use Rattle.escrow_machine.specs.State.{State}
use Rattle.escrow_machine.specs.Step.{IsServed, IsRun}
use Rattle.escrow_machine.proofs.Choices.{all_append, append_all}
use Rattle.escrow_machine.proofs.LawsHeld.{held_run, run_more}
use Rattle.escrow_core.specs.Beside.{BeginsInOrder, HeldBack, none_held, with_held, Joins, AreSettled, AreServed, AreApart, IsBatch, all_done, plan_of, places_of, refused_at, ended}
use Rattle.escrow_core.proofs.HeldOutcomes.{outcome_in, outcomes_by, found_again}
use Rattle.escrow_core.proofs.HeldReplies.{as_many_answers, as_many_events, places_below, refused_are_answers, ended_is_after}

-- WHAT WAS SERVED

-- nothing was served yet
unfoldable pub nothing_served : (sure : Type 0) (s : State) (before : List Reply) → AreServed sure s [] before before s
nothing_served sure s before = record { answers = []; as_many = refl; is_replies = sym (append-nil before); ran = λ _. refl }

-- one more event
unfoldable pub served_more : (sure later : Type 0) (s : State) (events : List Event) (before replies : List Reply) (mid : State) (happened : Event) (answer : Reply) (new : State)
    → AreServed sure s events before replies mid → (later → sure) → (later → IsServed mid happened answer new)
    → AreServed later s (events ++ happened ∷ []) before (replies ++ answer ∷ []) new
served_more sure later s events before replies mid happened answer new so_far surely step = record {
  answers = so_far.answers ++ answer ∷ [];
  as_many = length-append so_far.answers (answer ∷ []) ∙ ap (λ n. n + 1) so_far.as_many ∙ sym (length-append events (happened ∷ []));
  is_replies = ap (λ xs. xs ++ answer ∷ []) so_far.is_replies ∙ append_assoc before so_far.answers (answer ∷ []);
  ran = λ h. run_more s events so_far.answers mid happened answer new (so_far.ran (surely h)) (step h);
}

-- a run followed by another run
pub runs_on : (s : State) (events more : List Event) (answers told : List Reply) (mid new : State) → IsRun s events answers mid → IsRun mid more told new
    → IsRun s (events ++ more) (answers ++ told) new
runs_on s [] more [] told mid new run rest = subst (λ (t : State). IsRun t more told new) run rest
runs_on s [] more (a ∷ answers) told mid new run rest = absurd run
runs_on s (e ∷ events) more [] told mid new run rest = absurd run
runs_on s (e ∷ events) more (a ∷ answers) told mid new run rest = (run.0, run.1, runs_on run.0 events more answers told mid new run.2 rest)

-- no event waits
unfoldable pub nothing_waits : (sure : Type 0) (s : State) (events : List Event) (before replies : List Reply) (now : State)
    → AreServed sure s events before replies now → IsBatch sure s events before replies none_held now
nothing_waits sure s events before replies now so_far = record {
  served = events;
  told = replies;
  mid = now;
  waiting = [];
  first = so_far;
  waits = λ _. refl;
  in_order = λ _. tt;
  is_events = sym (append-nil events);
  is_replies = sym (append-nil replies);
  is_held = refl;
  apart = tt;
}

-- ONE EVENT IS ADDED TO A BATCH

-- what holds for the sessions of the plan holds for the sessions whose COMMITs are held back
holding_if : (P : ℕ → Type 0) (b : Bool) (session : ℕ) (plan : List (ℕ × End)) (sessions : List ℕ)
    → (AllByRecursion (λ entry. P entry.0) plan → AllByRecursion P sessions)
    → AllByRecursion (λ entry. P entry.0) (if b then plan ++ (session, end.Commit) ∷ [] else plan) → AllByRecursion P (if b then session ∷ sessions else sessions)
holding_if P true session plan sessions rest all =
    let parts = all_append (λ (entry : ℕ × End). P entry.0) plan ((session, end.Commit) ∷ []) all in (parts.1.0, rest parts.0)
holding_if P false session plan sessions rest all = rest all

pub holding_all : (P : ℕ → Type 0) (ws : List Waiting) → AllByRecursion (λ entry. P entry.0) (plan_of ws) → AllByRecursion P (holding ws)
holding_all P [] all = tt
holding_all P (w ∷ earlier) all = holding_if P w.is_held w.session (plan_of earlier) (holding earlier) (holding_all P earlier) all

-- one more entry belongs to another session
apart_more : (session : ℕ) (plan : List (ℕ × End)) → AreApart plan → AllByRecursion (λ entry. ¬ (entry.0 ≡ session)) plan → AreApart (plan ++ (session, end.Commit) ∷ [])
apart_more session [] apart others = (tt, tt)
apart_more session (entry ∷ plan) apart others =
    (append_all (λ later. ¬ (later.0 ≡ entry.0)) plan ((session, end.Commit) ∷ []) apart.0 ((λ same. others.0 (sym same)), tt), apart_more session plan apart.1 others.1)

pub apart_if : (b : Bool) (held : HeldBack) (session place : ℕ) → AreApart held.plan → AllByRecursion (λ entry. ¬ (entry.0 ≡ session)) held.plan
    → AreApart (if b then with_held held session place else held).plan
apart_if true held session place apart others = apart_more session held.plan apart others
apart_if false held session place apart others = apart

-- the COMMITs that are held back
pub held_if : (b : Bool) (session start n place : ℕ) (plan : List (ℕ × End)) (places : List ℕ) (held : HeldBack) → held ≡ record { plan = plan; places = places } → place ≡ start + n
    → (if b then with_held held session place else held)
    ≡ record { plan = if b then plan ++ (session, end.Commit) ∷ [] else plan; places = if b then places ++ (start + n) ∷ [] else places }
held_if true session start n place plan places held is at = rw (is, at) refl
held_if false session start n place plan places held is at = is

-- the reply if each COMMIT succeeds
done_if : (b : Bool) (answer : Reply) → unwrap_or (option_map (λ (failure : Failure). reply.Refused (refusal_for failure)) (if b then None else None)) answer ≡ answer
done_if true answer = refl
done_if false answer = refl

pub done_answer : (w : Waiting) → answer_by all_done w ≡ w.answer
done_answer w = done_if w.is_held w.answer

-- the state in which the first waiting statement was requested
pub begins_more : (w : Waiting) (ws : List Waiting) (mid now : State) → IsHeldRun mid ws now → IsAscending savepoint_before now.savepoints → BeginsInOrder mid ws → BeginsInOrder mid (w ∷ ws)
begins_more w [] mid now held order begins = subst (λ (t : State). IsAscending savepoint_before t.savepoints) held order
begins_more w (earlier ∷ ws) mid now held order begins = begins

-- the number of replies
pub as_many_replies : (told replies : List Reply) (ws : List Waiting) → replies ≡ told ++ answers_by all_done ws → length replies ≡ length told + length ws
as_many_replies told replies ws is = ap length is ∙ length-append told (answers_by all_done ws) ∙ ap (λ n. length told + n) (as_many_answers all_done ws)

unfoldable pub batch_joins : (sure later : Type 0) (s : State) (events : List Event) (before replies : List Reply) (held : HeldBack) (now : State)
    (happened : Event) (answer : Reply) (held_later : HeldBack) (new : State)
    → IsBatch sure s events before replies held now → (later → sure) → Joins later happened (length replies) held now answer held_later new
    → IsBatch later s (events ++ happened ∷ []) before (replies ++ answer ∷ []) held_later new
batch_joins sure later s events before replies held now happened answer held_later new batch surely joins =
    let w = joins.waiting in
    let ws = batch.waiting in
    let told = batch.told in
    let others : AllByRecursion (λ entry. ¬ (entry.0 ≡ w.session)) (plan_of ws) = subst (λ (h : HeldBack). AllByRecursion (λ entry. ¬ (entry.0 ≡ w.session)) h.plan) batch.is_held joins.apart in
    record {
      served = batch.served;
      told = told;
      mid = batch.mid;
      waiting = w ∷ ws;
      first = record { answers = batch.first.answers; as_many = batch.first.as_many; is_replies = batch.first.is_replies; ran = λ h. batch.first.ran (surely h) };
      in_order = λ h. begins_more w ws batch.mid now (batch.waits (surely h)) joins.in_order (batch.in_order (surely h));
      waits = λ h. (now, batch.waits (surely h), holding_all (λ session. ¬ (session ≡ w.session)) ws others, joins.waits h);
      is_events =
          ap₂ (λ (xs : List Event) (x : Event). xs ++ x ∷ []) batch.is_events joins.is_event
          ∙ append_assoc batch.served (events_of ws) (event.Statement w.session w.asked ∷ []);
      is_replies =
          ap₂ (λ (xs : List Reply) (x : Reply). xs ++ x ∷ []) batch.is_replies (joins.is_answer ∙ sym (done_answer w))
          ∙ append_assoc told (answers_by all_done ws) (answer_by all_done w ∷ []);
      is_held =
          joins.is_later
          ∙ held_if w.is_held w.session (length told) (length ws) (length replies) (plan_of ws) (places_of (length told) ws) held batch.is_held (as_many_replies told replies ws batch.is_replies);
      apart = subst (λ (h : HeldBack). AreApart h.plan) (sym joins.is_later) (apart_if w.is_held held w.session (length replies) batch.apart joins.apart);
    }

-- THE END OF A BATCH

-- each place is that of a reply
pub batch_places : (sure : Type 0) (s : State) (events : List Event) (before replies : List Reply) (held : HeldBack) (now : State)
    → IsBatch sure s events before replies held now → AllByRecursion (λ place. place < length replies) held.places
batch_places sure s events before replies held now batch =
    rw (batch.is_held, as_many_replies batch.told replies batch.waiting batch.is_replies) (places_below (length batch.told) batch.waiting)

-- the waiting events are a run, whether the COMMITs succeed or fail
pub waits_as_run : (by : Outcome) (ws : List Waiting) (mid now : State) → IsHeldRun mid ws now → BeginsInOrder mid ws
    → IsRun mid (events_of ws) (answers_by by ws) (ended_by by ws now)
waits_as_run by [] mid now held begins = held
waits_as_run by (w ∷ earlier) mid now held begins = held_run mid (w ∷ earlier) now by begins held

-- the COMMITs are written
unfoldable pub batch_ends : (sure later : Type 0) (s : State) (events : List Event) (before replies : List Reply) (held : HeldBack) (now new : State) (written : List Reply)
    → IsBatch sure s events before replies held now → (later → sure) → AreSettled later held.plan held.places now replies new written
    → AreServed later s events before written new
batch_ends sure later s events before replies held now new written batch surely settled =
    let ws = batch.waiting in
    let told = batch.told in
    let by : Outcome = outcome_in held.plan settled.outcomes in
    let found : outcomes_by by held.plan ≡ settled.outcomes = found_again held.plan settled.outcomes batch.apart settled.as_many in
    let plan : held.plan ≡ plan_of ws = ap (λ (h : HeldBack). h.plan) batch.is_held in
    let places : held.places ≡ places_of (length told) ws = ap (λ (h : HeldBack). h.places) batch.is_held in
    let outcomes : settled.outcomes ≡ outcomes_by by (plan_of ws) = sym found ∙ ap (outcomes_by by) plan in
    let written_is : written ≡ told ++ answers_by by ws =
    settled.is_later ∙ ap₂ (λ (ps : List ℕ) (os : List (Option Failure)). refused_at ps os replies) places outcomes
    ∙ ap (refused_at (places_of (length told) ws) (outcomes_by by (plan_of ws))) batch.is_replies ∙ refused_are_answers by told ws in
    let new_is : later → new ≡ ended_by by ws now = λ h.
    settled.is_after h ∙ ap₂ (λ (p : List (ℕ × End)) (os : List (Option Failure)). ended p os now) plan outcomes ∙ ended_is_after by ws now in
    record {
      answers = batch.first.answers ++ answers_by by ws;
      as_many =
          length-append batch.first.answers (answers_by by ws)
          ∙ ap₂ (λ m n. m + n) batch.first.as_many (as_many_answers by ws ∙ sym (as_many_events ws))
          ∙ sym (length-append batch.served (events_of ws)) ∙ sym (ap length batch.is_events);
      is_replies = written_is ∙ ap (λ xs. xs ++ answers_by by ws) batch.first.is_replies ∙ append_assoc before batch.first.answers (answers_by by ws);
      ran = λ h.
          rw (batch.is_events, new_is h)
          (runs_on s batch.served (events_of ws) batch.first.answers (answers_by by ws) batch.mid (ended_by by ws now) (batch.first.ran (surely h))
          (waits_as_run by ws batch.mid now (batch.waits (surely h)) (batch.in_order (surely h))));
    }
