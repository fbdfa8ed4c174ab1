-- What a crash leaves of a batch of events.
use Rattle.std.specs.Prelude.{◌≡◌, ℕ, zero, suc, ◌+◌, ◌≤◌, ◌<◌, ◌==◌, Bool, true, false, if◌then◌else◌, ◌⊎◌, MatchBool, MatchOption, IsSome, IsTrue, Option, Some, None, is_none, List, [], ◌∷◌, ◌++◌, length, take, drop, replicate}
use Rattle.std.specs.List.{AllByRecursion}
use Rattle.std.proofs.Common.{inl, inr, refl, sym, ap, ap₂, subst, eq-eqb, arith, ◌∙◌}
use Rattle.std.proofs.lemmas.Bool.{cases_Bool, cases_lt, false_from_ne_true, eqb-true, false≢true}
use Rattle.std.proofs.lemmas.List.{append-nil, append_assoc, length-append, length-map, length-replicate, length-take-le, drop_at, drop-append-le, map-append}
use Rattle.std.proofs.Math.Seq.{drop-append_seam, take-append_seam}
use Rattle.sqlite.specs.State.{State as Store, HasCleanDisk, Survives}
use Rattle.sqlite.proofs.StateLemmas.{survives_then}
use Rattle.sqlite_trees.specs.Tree.{Trees}
use Rattle.escrow_num.specs.declared.failure.Failure.{Failure}
use Rattle.escrow_num.specs.declared.failure.Failure.TheVariants as failure
use Rattle.escrow_num.specs.declared.session.End.{End}
use Rattle.escrow_num.specs.declared.session.End.TheVariants as end
use Rattle.escrow_machine.specs.declared.event.Event.{Event}
use Rattle.escrow_machine.specs.declared.event.Event.TheVariants as event
use Rattle.escrow_machine.specs.declared.reply.Reply.{Reply}
use Rattle.escrow_machine.specs.declared.reply.Reply.TheVariants as reply
use Rattle.escrow_statement.specs.declared.statement.Statement.{Statement}
use Rattle.escrow_journal.specs.Reservations.{own}
use Rattle.escrow_machine.specs.Held.{IsHeldBack, IsServedBeside, IsHeldRun, Outcome, Waiting, answer_by, answers_by, ended_by, events_of}
use Rattle.escrow_machine.specs.Reply.{failure_of, tells_write}
use Rattle.escrow_machine.specs.Settle.{after_end}
use Rattle.escrow_machine.specs.State.{State}
use Rattle.escrow_machine.specs.Step.{step, may_fail, IsRun, IsServed, IsStep, StepOrRefusal}
use Rattle.escrow_machine.proofs.Choices.{all_append, append_all}
use Rattle.escrow_machine.proofs.LawsHeld.{run_more}
use Rattle.escrow_machine.proofs.LawsSteps.{machine_never_fails}
use Rattle.escrow_rows.specs.Answers.{IsUsable}
use Rattle.escrow_core.specs.Beside.{AreAfterDone, AreAfterEvent, AreAfterOutcomes, AreAllSettled, AreApart, AreHolding, AreServed, AreSettled, HaveFailed, HeldBack, IsBatch, IsLeftBatch, Joins, ended, none_held, plan_of}
use Rattle.escrow_core.specs.Left.{AreAfterAnswered, AreAfterSome, AreCounted, Lasts, TellNoWrite}
use Rattle.escrow_core.specs.Serves.{AreHeldOf}
use Rattle.escrow_core.proofs.Batches.{batch_ends, batch_joins, nothing_served, nothing_waits, runs_on, served_more, waits_as_run}
use Rattle.escrow_core.proofs.HeldOutcomes.{found_again, others_found, outcome_in, outcomes_by}
use Rattle.escrow_core.proofs.HeldReplies.{answer_if, as_many_answers, as_many_events, ended_is_after}
use Rattle.escrow_core.proofs.Holding.{plan_holds}
use Rattle.escrow_core.proofs.Lasting.{lasts_survives, lasts_then}
use Rattle.escrow_core.proofs.Quiet.{AreKept, held_before, held_kept, kept_then, quiet_beside, quiet_served}
use Rattle.escrow_core.proofs.Served.{stepped}
use Rattle.escrow_core.proofs.Serving.{still_clean, survives_itself}

-- REPLIES THAT COUNT

pub counted_same : (answers more : List Reply) → AreCounted answers (answers ++ more)
counted_same [] more = tt
counted_same (a ∷ answers) more = (inl refl, counted_same answers more)

-- after given replies
pub counted_behind : (answers counted given : List Reply) → AreCounted counted given → AreCounted (answers ++ counted) (answers ++ given)
counted_behind [] counted given are = are
counted_behind (a ∷ answers) counted given are = (inl refl, counted_behind answers counted given are)

-- more replies were given
pub counted_more : (counted given more : List Reply) → AreCounted counted given → AreCounted counted (given ++ more)
counted_more [] given more are = tt
counted_more (c ∷ counted) [] more are = absurd are
counted_more (c ∷ counted) (a ∷ given) more are = (are.0, counted_more counted given more are.1)

-- one more reply
counted_push : (counted given : List Reply) (one answer : Reply) → length counted ≡ length given → AreCounted counted given → (one ≡ answer) ⊎ IsSome (failure_of answer)
    → AreCounted (counted ++ one ∷ []) (given ++ answer ∷ [])
counted_push [] [] one answer as_many are last = (last, tt)
counted_push [] (a ∷ given) one answer as_many are last = absurd (cc)
counted_push (c ∷ counted) [] one answer as_many are last = absurd are
counted_push (c ∷ counted) (a ∷ given) one answer as_many are last = (are.0, counted_push counted given one answer (cc) are.1 last)

-- more was requested
pub after_some_more : (s : State) (events more : List Event) (given told : List Reply) (trees : Trees) → AreAfterSome s events given trees → AreAfterSome s (events ++ more) (given ++ told) trees
after_some_more s events more given told trees it = record {
  first = it.first;
  rest = it.rest ++ more;
  is_events = ap (λ es. es ++ more) it.is_events ∙ append_assoc it.first it.rest more;
  counted = it.counted;
  are_counted = counted_more it.counted given told it.are_counted;
  now = it.now;
  ran = it.ran;
  held = it.held;
}

-- after all events
pub after_some_all : (s : State) (events : List Event) (answers : List Reply) (now latest : State) (trees : Trees) → IsRun s events answers now → AreKept now latest → AreHeldOf latest trees
    → AreAfterSome s events answers trees
after_some_all s events answers now latest trees ran kept held = record {
  first = events;
  rest = [];
  is_events = sym (append-nil events);
  counted = answers;
  are_counted = subst (AreCounted answers) (append-nil answers) (counted_same answers []);
  now = now;
  ran = ran;
  held = held_before now latest trees kept held;
}

-- WRITES THAT WERE ANSWERED

-- more was requested, and no write was answered
answered_more : (s : State) (events more : List Event) (given told : List Reply) (trees : Trees) → TellNoWrite told → AreAfterAnswered s events given trees
    → AreAfterAnswered s (events ++ more) (given ++ told) trees
unfolding after_some_more
answered_more s events more given told trees quiet it = record {
  some = after_some_more s events more given told trees it.some;
  sure = it.sure;
  unsure = it.unsure ++ told;
  is_given = ap (λ (xs : List Reply). xs ++ told) it.is_given ∙ append_assoc it.sure it.unsure told;
  as_given = it.as_given;
  none_missing = append_all (λ (answer : Reply). tells_write answer ≡ false) it.unsure told it.none_missing quiet;
}

-- after all events, none is missing
answered_all : (s : State) (events : List Event) (answers : List Reply) (now latest : State) (trees : Trees) → IsRun s events answers now → AreKept now latest → AreHeldOf latest trees
    → AreAfterAnswered s events answers trees
unfolding after_some_all
answered_all s events answers now latest trees ran kept held = record {
  some = after_some_all s events answers now latest trees ran kept held;
  sure = answers;
  unsure = [];
  is_given = sym (append-nil answers);
  as_given = ([], sym (append-nil answers));
  none_missing = tt;
}

-- COMMITS OF WHICH ONLY THE FIRST ONES COUNT

-- the outcome that counts for the COMMIT of each session: after the known outcomes, it is a failure
abbrev outcome_else : List (ℕ × End) → List (Option Failure) → Outcome
outcome_else [] outcomes session = Some failure.Store
outcome_else (entry ∷ plan) [] session = Some failure.Store
outcome_else (entry ∷ plan) (outcome ∷ outcomes) session = if entry.0 == session then outcome else outcome_else plan outcomes session

none_left : (plan : List (ℕ × End)) (by : Outcome) (s : State) → ((session : ℕ) → by session ≡ Some failure.Store) → ended plan (outcomes_by by plan) s ≡ s
none_left [] by s fails = refl
none_left (entry ∷ plan) by s fails =
    ap (λ (o : Option Failure). ended plan (outcomes_by by plan) (if is_none o then after_end s entry.0 entry.1 else s)) (fails entry.0) ∙ none_left plan by s fails

-- by session, and back to the plan
else_first : (entry : ℕ × End) (outcome : Option Failure) (plan : List (ℕ × End)) (outcomes : List (Option Failure)) → AllByRecursion (λ later. ¬ (later.0 ≡ entry.0)) plan
    → outcomes_by (outcome_else (entry ∷ plan) (outcome ∷ outcomes)) (entry ∷ plan) ≡ outcome ∷ outcomes_by (outcome_else plan outcomes) plan
else_first entry outcome plan outcomes apart =
    let same : (entry.0 == entry.0) ≡ true = eq-eqb entry.0 entry.0 refl in
    ap₂ (λ (o : Option Failure) (os : List (Option Failure)). o ∷ os) (rw same refl) (others_found entry outcome (outcome_else plan outcomes) plan apart)

ended_else : (plan : List (ℕ × End)) (outcomes : List (Option Failure)) (s : State) → AreApart plan → ended plan (outcomes_by (outcome_else plan outcomes) plan) s ≡ ended plan outcomes s
ended_else [] outcomes s apart = refl
ended_else (entry ∷ plan) [] s apart = none_left (entry ∷ plan) (outcome_else (entry ∷ plan) []) s (λ _. refl)
ended_else (entry ∷ plan) (outcome ∷ outcomes) s apart =
    ap (λ os. ended (entry ∷ plan) os s) (else_first entry outcome plan outcomes apart.0)
    ∙ ended_else plan outcomes (if is_none outcome then after_end s entry.0 entry.1 else s) apart.1

-- an outcome that does not count
abbrev Fails : Option Failure → Type 0
Fails outcome = outcome ≡ Some failure.Store

all_fail : (plan : List (ℕ × End)) (by : Outcome) → ((session : ℕ) → Fails (by session)) → AllByRecursion Fails (outcomes_by by plan)
all_fail [] by fails = tt
all_fail (entry ∷ plan) by fails = (fails entry.0, all_fail plan by fails)

past_fail : (plan : List (ℕ × End)) (outcomes : List (Option Failure)) → AreApart plan → AllByRecursion Fails (drop (length outcomes) (outcomes_by (outcome_else plan outcomes) plan))
past_fail [] [] apart = tt
past_fail [] (outcome ∷ outcomes) apart = tt
past_fail (entry ∷ plan) [] apart = all_fail (entry ∷ plan) (outcome_else (entry ∷ plan) []) (λ _. refl)
past_fail (entry ∷ plan) (outcome ∷ outcomes) apart =
    subst (λ os. AllByRecursion Fails (drop (suc (length outcomes)) os)) (sym (else_first entry outcome plan outcomes apart.0)) (past_fail plan outcomes apart.1)

-- for each of the first entries, the COMMIT counts as successful, or with its own outcome
abbrev IsAgreed : Outcome → Outcome → ℕ → Type 0
IsAgreed by became session = (by session ≡ None) ⊎ (by session ≡ became session)

-- an entry in front does not change the outcomes of other sessions
agreed_later : (entry : ℕ × End) (first second : Option Failure) (by became : Outcome) (plan : List (ℕ × End)) → AllByRecursion (λ later. ¬ (later.0 ≡ entry.0)) plan
    → (k : ℕ) → AllByRecursion (λ later. IsAgreed by became later.0) (take k plan)
    → AllByRecursion (λ later. IsAgreed (λ session. if entry.0 == session then first else by session) (λ session. if entry.0 == session then second else became session) later.0) (take k plan)
agreed_later entry first second by became plan apart zero all = tt
agreed_later entry first second by became [] apart (suc k) all = tt
agreed_later entry first second by became (later ∷ plan) apart (suc k) all =
    let other : (entry.0 == later.0) ≡ false = false_from_ne_true (entry.0 == later.0) (λ t. apart.0 (sym (eqb-true entry.0 later.0 t))) in
    (rw other all.0, agreed_later entry first second by became plan apart.1 k all.1)

agreed_first : (n more : ℕ) (plan : List (ℕ × End)) (outcomes : List (Option Failure)) → AreApart plan → length outcomes ≡ length plan → n + more ≤ length plan
    → AllByRecursion (λ entry. IsAgreed (outcome_else plan (take n outcomes ++ replicate more None)) (outcome_in plan outcomes) entry.0) (take (n + more) plan)
agreed_first zero zero plan outcomes apart as_many few = tt
agreed_first zero (suc more) [] outcomes apart as_many few = absurd (omega (arith, few))
agreed_first zero (suc more) (entry ∷ plan) [] apart as_many few = absurd (cc)
agreed_first zero (suc more) (entry ∷ plan) (outcome ∷ outcomes) apart as_many few =
    let same : (entry.0 == entry.0) ≡ true = eq-eqb entry.0 entry.0 refl in
    let counted : List (Option Failure) = take 0 (outcome ∷ outcomes) ++ replicate (suc more) None in
    let count : suc (0 + more) ≡ 0 + suc more = omega arith in
    subst (λ (k : ℕ). AllByRecursion (λ (later : ℕ × End). IsAgreed (outcome_else (entry ∷ plan) counted) (outcome_in (entry ∷ plan) (outcome ∷ outcomes)) later.0) (take k (entry ∷ plan))) count (
      rw same (inl refl),
      agreed_later entry None outcome (outcome_else plan (replicate more None)) (outcome_in plan outcomes) plan apart.0 (0 + more)
          (agreed_first zero more plan outcomes apart.1 (cc) (omega (arith, few))),
    )
agreed_first (suc n) more [] outcomes apart as_many few = absurd (omega (arith, few))
agreed_first (suc n) more (entry ∷ plan) [] apart as_many few = absurd (cc)
agreed_first (suc n) more (entry ∷ plan) (outcome ∷ outcomes) apart as_many few =
    let same : (entry.0 == entry.0) ≡ true = eq-eqb entry.0 entry.0 refl in
    let counted : List (Option Failure) = take (suc n) (outcome ∷ outcomes) ++ replicate more None in
    let count : suc (n + more) ≡ suc n + more = omega arith in
    subst (λ (k : ℕ). AllByRecursion (λ (later : ℕ × End). IsAgreed (outcome_else (entry ∷ plan) counted) (outcome_in (entry ∷ plan) (outcome ∷ outcomes)) later.0) (take k (entry ∷ plan))) count (
      rw same (inr refl),
      agreed_later entry outcome outcome (outcome_else plan (take n outcomes ++ replicate more None)) (outcome_in plan outcomes) plan apart.0 (n + more)
          (agreed_first n more plan outcomes apart.1 (cc) (omega (arith, few))),
    )

-- THE RUN ENDS WITH THE LAST COMMIT THAT COUNTS

-- the first statements of the waiting ones; the list holds the last statement first
record IsCut (by : Outcome) (mid : State) (ws : List Waiting) (k : ℕ) (new : State) : Type 0 where
  first : List Waiting
  rest : List Waiting
  is : ws ≡ rest ++ first
  many : length (plan_of first) ≡ k
  now : State
  ran : IsRun mid (events_of first) (answers_by by first) now
  kept : AreKept now new

-- a run without its last event
run_less : (s : State) (events : List Event) (answers : List Reply) (happened : Event) (answer : Reply) (new : State) → IsRun s (events ++ happened ∷ []) (answers ++ answer ∷ []) new → length events ≡ length answers
    → (t : State) × IsRun s events answers t × IsServed t happened answer new
run_less s [] [] happened answer new run as_many = (s, refl, subst (IsServed s happened answer) (sym run.2) run.1)
run_less s [] (a ∷ answers) happened answer new run as_many = absurd (cc)
run_less s (e ∷ events) [] happened answer new run as_many = absurd (cc)
run_less s (e ∷ events) (a ∷ answers) happened answer new run as_many =
    let rest = run_less run.0 events answers happened answer new run.2 (cc) in (rest.0, (run.0, run.1, rest.1), rest.2)

-- a refusal reports no write
quiet_failure : (outcome : Option Failure) (answer : Reply) → IsSome outcome → tells_write (answer_if outcome answer) ≡ false
quiet_failure None answer failed = absurd (cc)
quiet_failure (Some failure.Memory) answer failed = refl
quiet_failure (Some failure.Store) answer failed = refl

-- the last waiting statement comes after those that count, and its reply reports no write
dropped : (b : Bool) (session : ℕ) (asked : Statement) (answer : Reply) (mid now : State) (by : Outcome) (plan : List (ℕ × End)) (k : ℕ)
    → MatchBool b (IsHeldBack session asked answer mid now) (IsServedBeside session asked answer mid now)
    → k < length (if b then plan ++ (session, end.Commit) ∷ [] else plan) → AllByRecursion Fails (drop k (outcomes_by by (if b then plan ++ (session, end.Commit) ∷ [] else plan)))
    → (k ≤ length plan) × AllByRecursion Fails (drop k (outcomes_by by plan)) × (tells_write (answer_if (if b then by session else None) answer) ≡ false)
dropped true session asked answer mid now by plan k held below fails =
    let few : k ≤ length plan = omega (arith, below, length-append plan ((session, end.Commit) ∷ [])) in
    let parted : drop k (outcomes_by by (plan ++ (session, end.Commit) ∷ [])) ≡ drop k (outcomes_by by plan) ++ by session ∷ [] =
    ap (drop k) (map-append (λ (entry : ℕ × End). by entry.0) plan ((session, end.Commit) ∷ []))
    ∙ drop-append-le k (outcomes_by by plan) (by session ∷ []) (omega (arith, few, length-map plan (λ (entry : ℕ × End). by entry.0))) in
    let parts = all_append Fails (drop k (outcomes_by by plan)) (by session ∷ []) (subst (AllByRecursion Fails) parted fails) in
    (few, parts.0, rw parts.1.0 refl)
dropped false session asked answer mid now by plan k beside below fails = (omega (arith, below), fails, quiet_beside session asked answer mid now beside)

cut : (by : Outcome) (mid : State) (ws : List Waiting) (latest new : State) (k : ℕ) → IsHeldRun mid ws latest → k ≤ length (plan_of ws) → AllByRecursion Fails (drop k (outcomes_by by (plan_of ws)))
    → IsRun mid (events_of ws) (answers_by by ws) new → IsCut by mid ws k new
cut by mid [] latest new k held few fails run = record { first = []; rest = []; is = refl; many = omega (arith, few); now = new; ran = run; kept = (refl, refl) }
cut by mid (w ∷ earlier) latest new k held few fails run = elim (cases_lt k (length (plan_of (w ∷ earlier)))) [
  | inr past ↦ record { first = w ∷ earlier; rest = []; is = refl; many = omega (arith, few, past); now = new; ran = run; kept = (refl, refl) }
  | inl below ↦
      let less =
      run_less mid (events_of earlier) (answers_by by earlier) (event.Statement w.session w.asked) (answer_by by w) new run (as_many_events earlier ∙ sym (as_many_answers by earlier)) in
      let one = dropped w.is_held w.session w.asked w.answer held.0 latest by (plan_of earlier) k held.3 below fails in
      let it = cut by mid earlier held.0 less.0 k held.1 one.0 one.1 less.1 in
      record {
        first = it.first;
        rest = w ∷ it.rest;
        is = ap (λ ws. w ∷ ws) it.is;
        many = it.many;
        now = it.now;
        ran = it.ran;
        kept = kept_then it.now less.0 new it.kept (quiet_served less.0 w.session w.asked (answer_by by w) new one.2 less.2);
      }
]

-- the replies are the given ones, except for COMMITs that failed
agreed_one : (answer : Reply) (outcome became : Option Failure) → (outcome ≡ None) ⊎ (outcome ≡ became)
    → (answer_if outcome answer ≡ answer_if became answer) ⊎ IsSome (failure_of (answer_if became answer))
agreed_one answer outcome None (inl none) = inl (ap (λ (o : Option Failure). answer_if o answer) none)
agreed_one answer outcome (Some failure.Memory) (inl none) = inr refl
agreed_one answer outcome (Some failure.Store) (inl none) = inr refl
agreed_one answer outcome became (inr same) = inl (ap (λ (o : Option Failure). answer_if o answer) same)

agreed_if : (b : Bool) (session : ℕ) (answer : Reply) (by became : Outcome) (plan : List (ℕ × End))
    → AllByRecursion (λ entry. IsAgreed by became entry.0) (if b then plan ++ (session, end.Commit) ∷ [] else plan)
    → AllByRecursion (λ entry. IsAgreed by became entry.0) plan
    × ((answer_if (if b then by session else None) answer ≡ answer_if (if b then became session else None) answer) ⊎ IsSome (failure_of (answer_if (if b then became session else None) answer)))
agreed_if true session answer by became plan all =
    let parts = all_append (λ (entry : ℕ × End). IsAgreed by became entry.0) plan ((session, end.Commit) ∷ []) all in
    (parts.0, agreed_one answer (by session) (became session) parts.1.0)
agreed_if false session answer by became plan all = (all, inl refl)

agreed_answers : (by became : Outcome) (ws : List Waiting) → AllByRecursion (λ entry. IsAgreed by became entry.0) (plan_of ws) → AreCounted (answers_by by ws) (answers_by became ws)
agreed_answers by became [] all = tt
agreed_answers by became (w ∷ earlier) all =
    let parts = agreed_if w.is_held w.session w.answer by became (plan_of earlier) all in
    counted_push (answers_by by earlier) (answers_by became earlier) (answer_by by w) (answer_by became w) (as_many_answers by earlier ∙ sym (as_many_answers became earlier))
    (agreed_answers by became earlier parts.0) parts.1

events_append : (rest first : List Waiting) → events_of (rest ++ first) ≡ events_of first ++ events_of rest
events_append [] first = sym (append-nil (events_of first))
events_append (w ∷ rest) first =
    ap (λ es. es ++ event.Statement w.session w.asked ∷ []) (events_append rest first) ∙ append_assoc (events_of first) (events_of rest) (event.Statement w.session w.asked ∷ [])

answers_append : (by : Outcome) (rest first : List Waiting) → answers_by by (rest ++ first) ≡ answers_by by first ++ answers_by by rest
answers_append by [] first = sym (append-nil (answers_by by first))
answers_append by (w ∷ rest) first =
    ap (λ answers. answers ++ answer_by by w ∷ []) (answers_append by rest first) ∙ append_assoc (answers_by by first) (answers_by by rest) (answer_by by w ∷ [])

plan_if : (b : Bool) (session : ℕ) (both first rest : List (ℕ × End)) → both ≡ first ++ rest
    → (if b then both ++ (session, end.Commit) ∷ [] else both) ≡ first ++ (if b then rest ++ (session, end.Commit) ∷ [] else rest)
plan_if true session both first rest is = ap (λ plan. plan ++ (session, end.Commit) ∷ []) is ∙ append_assoc first rest ((session, end.Commit) ∷ [])
plan_if false session both first rest is = is

plan_append : (rest first : List Waiting) → plan_of (rest ++ first) ≡ plan_of first ++ plan_of rest
plan_append [] first = sym (append-nil (plan_of first))
plan_append (w ∷ rest) first = plan_if w.is_held w.session (plan_of (rest ++ first)) (plan_of first) (plan_of rest) (plan_append rest first)

-- if the COMMITs among them failed, the replies to the last statements report no write
quiet_one : (b : Bool) (session : ℕ) (asked : Statement) (answer : Reply) (mid now : State) (by : Outcome) (plan : List (ℕ × End))
    → MatchBool b (IsHeldBack session asked answer mid now) (IsServedBeside session asked answer mid now)
    → HaveFailed (outcomes_by by (if b then plan ++ (session, end.Commit) ∷ [] else plan))
    → HaveFailed (outcomes_by by plan) × (tells_write (answer_if (if b then by session else None) answer) ≡ false)
quiet_one true session asked answer mid now by plan held failed =
    let parts = all_append IsSome (outcomes_by by plan) (by session ∷ [])
    (subst HaveFailed (map-append (λ (entry : ℕ × End). by entry.0) plan ((session, end.Commit) ∷ [])) failed) in
    (parts.0, quiet_failure (by session) answer parts.1.0)
quiet_one false session asked answer mid now by plan beside failed = (failed, quiet_beside session asked answer mid now beside)

quiet_rest : (by : Outcome) (mid : State) (rest first : List Waiting) (latest : State) → IsHeldRun mid (rest ++ first) latest → HaveFailed (outcomes_by by (plan_of rest)) → TellNoWrite (answers_by by rest)
quiet_rest by mid [] first latest held failed = tt
quiet_rest by mid (w ∷ rest) first latest held failed =
    let one = quiet_one w.is_held w.session w.asked w.answer held.0 latest by (plan_of rest) held.3 failed in
    append_all (λ (answer : Reply). tells_write answer ≡ false) (answers_by by rest) (answer_by by w ∷ []) (quiet_rest by mid rest first held.0 held.1 one.0) (one.1, tt)

-- THE COMMITS ARE WRITTEN

-- as many outcomes count
so_many : (outcomes : List (Option Failure)) (n more : ℕ) → n ≤ length outcomes → length (take n outcomes ++ replicate more None) ≡ n + more
so_many outcomes n more few =
    let rest : List (Option Failure) = replicate more None in
    length-append (take n outcomes) rest ∙ ap₂ (λ a b. a + b) (length-take-le n outcomes few) (length-replicate more None)

-- the first events of a batch, up to the last COMMIT that counts
batch_cut : (sure later : Type 0) (s : State) (events : List Event) (before replies : List Reply) (held : HeldBack) (latest new : State) (written : List Reply) (trees : Trees)
    (batch : IsBatch sure s events before replies held latest) (settled : AreSettled later held.plan held.places latest replies new written) → sure
    → (left : AreAfterOutcomes held.plan settled.outcomes latest trees)
    → let co : List (Option Failure) = take left.0 settled.outcomes ++ replicate left.1 None in
    let by : Outcome = outcome_else held.plan co in
    IsCut by batch.mid batch.waiting (length co) (ended_by by batch.waiting latest)
batch_cut sure later s events before replies held latest new written trees batch settled surely left =
    let ws = batch.waiting in
    let plan = held.plan in
    let co = take left.0 settled.outcomes ++ replicate left.1 None in
    let by : Outcome = outcome_else plan co in
    let plan_is : plan ≡ plan_of ws = ap (λ (h : HeldBack). h.plan) batch.is_held in
    let fails : AllByRecursion Fails (drop (length co) (outcomes_by by (plan_of ws))) =
    subst (λ (p : List (ℕ × End)). AllByRecursion Fails (drop (length co) (outcomes_by by p))) plan_is (past_fail plan co batch.apart) in
    cut by batch.mid ws latest (ended_by by ws latest) (length co) (batch.waits surely)
    (omega (arith, so_many settled.outcomes left.0 left.1 left.2, left.3, ap length plan_is)) fails
    (waits_as_run by ws batch.mid latest (batch.waits surely) (batch.in_order surely))

-- a crash during the write leaves the tables and rows after the first events of the batch
batch_left : (sure later : Type 0) (s : State) (events : List Event) (before replies : List Reply) (held : HeldBack) (latest new : State) (written : List Reply) (trees : Trees)
    (batch : IsBatch sure s events before replies held latest) (settled : AreSettled later held.plan held.places latest replies new written) → sure
    → AreAfterOutcomes held.plan settled.outcomes latest trees
    → AreAfterSome s events (batch.first.answers ++ answers_by (outcome_in held.plan settled.outcomes) batch.waiting) trees
batch_left sure later s events before replies held latest new written trees batch settled surely left =
    let ws = batch.waiting in
    let plan = held.plan in
    let outcomes = settled.outcomes in
    let co = take left.0 outcomes ++ replicate left.1 None in
    let many : length co ≡ left.0 + left.1 = so_many outcomes left.0 left.1 left.2 in
    let by : Outcome = outcome_else plan co in
    let became : Outcome = outcome_in plan outcomes in
    let plan_is : plan ≡ plan_of ws = ap (λ (h : HeldBack). h.plan) batch.is_held in
    let after : ended_by by ws latest ≡ ended plan co latest =
    sym (ended_is_after by ws latest) ∙ ap (λ (p : List (ℕ × End)). ended p (outcomes_by by p) latest) (sym plan_is) ∙ ended_else plan co latest batch.apart in
    let it = batch_cut sure later s events before replies held latest new written trees batch settled surely left in
    let whole : plan ≡ plan_of it.first ++ plan_of it.rest = plan_is ∙ ap plan_of it.is ∙ plan_append it.rest it.first in
    let front : take (left.0 + left.1) plan ≡ plan_of it.first =
    ap₂ (λ (n : ℕ) (p : List (ℕ × End)). take n p) (sym (it.many ∙ many)) whole ∙ take-append_seam (plan_of it.first) (plan_of it.rest) in
    let agreed : AllByRecursion (λ entry. IsAgreed by became entry.0) (plan_of it.first) =
    subst (AllByRecursion (λ entry. IsAgreed by became entry.0)) front (agreed_first left.0 left.1 plan outcomes batch.apart settled.as_many left.3) in
    record {
      first = batch.served ++ events_of it.first;
      rest = events_of it.rest;
      is_events =
          batch.is_events ∙ ap (λ es. batch.served ++ es) (ap events_of it.is ∙ events_append it.rest it.first)
          ∙ sym (append_assoc batch.served (events_of it.first) (events_of it.rest));
      counted = batch.first.answers ++ answers_by by it.first;
      are_counted = counted_behind batch.first.answers (answers_by by it.first) (answers_by became ws)
          (subst (AreCounted (answers_by by it.first)) (sym (ap (answers_by became) it.is ∙ answers_append became it.rest it.first))
          (counted_more (answers_by by it.first) (answers_by became it.first) (answers_by became it.rest) (agreed_answers by became it.first agreed)));
      now = it.now;
      ran = runs_on s batch.served (events_of it.first) batch.first.answers (answers_by by it.first) batch.mid it.now (batch.first.ran surely) it.ran;
      held = held_before it.now (ended_by by ws latest) trees it.kept (subst (λ (t : State). AreHeldOf t trees) (sym after) left.4);
    }

-- the waiting statements up to the n-th COMMIT
record IsSplit (ws : List Waiting) (n : ℕ) : Type 0 where
  first : List Waiting
  rest : List Waiting
  is : ws ≡ rest ++ first
  many : length (plan_of first) ≡ n

split_if : (b : Bool) (session n : ℕ) (plan : List (ℕ × End)) → n < length (if b then plan ++ (session, end.Commit) ∷ [] else plan) → n ≤ length plan
split_if true session n plan below = omega (arith, below, length-append plan ((session, end.Commit) ∷ []))
split_if false session n plan below = omega (arith, below)

split : (ws : List Waiting) (n : ℕ) → n ≤ length (plan_of ws) → IsSplit ws n
split [] n few = record { first = []; rest = []; is = refl; many = omega (arith, few) }
split (w ∷ earlier) n few = elim (cases_lt n (length (plan_of (w ∷ earlier)))) [
  | inr past ↦ record { first = w ∷ earlier; rest = []; is = refl; many = omega (arith, few, past) }
  | inl below ↦
      let it = split earlier n (split_if w.is_held w.session n (plan_of earlier) below) in
      record { first = it.first; rest = w ∷ it.rest; is = ap (λ (xs : List Waiting). w ∷ xs) it.is; many = it.many }
]

-- the outcomes of the first entries count as they are
same_later : (entry : ℕ × End) (outcome : Option Failure) (by became : Outcome) (plan : List (ℕ × End)) → AllByRecursion (λ later. ¬ (later.0 ≡ entry.0)) plan
    → (k : ℕ) → AllByRecursion (λ later. by later.0 ≡ became later.0) (take k plan)
    → AllByRecursion (λ later. (if entry.0 == later.0 then outcome else by later.0) ≡ (if entry.0 == later.0 then outcome else became later.0)) (take k plan)
same_later entry outcome by became plan apart zero all = tt
same_later entry outcome by became [] apart (suc k) all = tt
same_later entry outcome by became (later ∷ plan) apart (suc k) all =
    let other : (entry.0 == later.0) ≡ false = false_from_ne_true (entry.0 == later.0) (λ t. apart.0 (sym (eqb-true entry.0 later.0 t))) in
    (rw other all.0, same_later entry outcome by became plan apart.1 k all.1)

same_first : (n : ℕ) (plan : List (ℕ × End)) (outcomes more : List (Option Failure)) → AreApart plan → n ≤ length outcomes → n ≤ length plan
    → AllByRecursion (λ entry. outcome_else plan (take n outcomes ++ more) entry.0 ≡ outcome_in plan outcomes entry.0) (take n plan)
same_first zero plan outcomes more apart few within = tt
same_first (suc n) [] outcomes more apart few within = tt
same_first (suc n) (entry ∷ plan) [] more apart few within = absurd (omega (arith, few))
same_first (suc n) (entry ∷ plan) (outcome ∷ outcomes) more apart few within =
    let same : (entry.0 == entry.0) ≡ true = eq-eqb entry.0 entry.0 refl in (
      rw same refl,
      same_later entry outcome (outcome_else plan (take n outcomes ++ more)) (outcome_in plan outcomes) plan apart.0 n (same_first n plan outcomes more apart.1 (omega (arith, few)) (omega (arith, within))),
    )

same_if : (b : Bool) (session : ℕ) (answer : Reply) (by became : Outcome) (plan : List (ℕ × End))
    → AllByRecursion (λ entry. by entry.0 ≡ became entry.0) (if b then plan ++ (session, end.Commit) ∷ [] else plan)
    → AllByRecursion (λ entry. by entry.0 ≡ became entry.0) plan × (answer_if (if b then by session else None) answer ≡ answer_if (if b then became session else None) answer)
same_if true session answer by became plan all =
    let parts = all_append (λ (entry : ℕ × End). by entry.0 ≡ became entry.0) plan ((session, end.Commit) ∷ []) all in
    (parts.0, ap (λ (o : Option Failure). answer_if o answer) parts.1.0)
same_if false session answer by became plan all = (all, refl)

same_answers : (by became : Outcome) (ws : List Waiting) → AllByRecursion (λ entry. by entry.0 ≡ became entry.0) (plan_of ws) → answers_by by ws ≡ answers_by became ws
same_answers by became [] all = refl
same_answers by became (w ∷ earlier) all =
    let parts = same_if w.is_held w.session w.answer by became (plan_of earlier) all in
    ap₂ (λ (xs : List Reply) (x : Reply). xs ++ x ∷ []) (same_answers by became earlier parts.0) parts.1

-- no write behind them was answered
batch_answered : (sure later : Type 0) (s : State) (events : List Event) (before replies : List Reply) (held : HeldBack) (latest new : State) (written : List Reply) (trees : Trees)
    (batch : IsBatch sure s events before replies held latest) (settled : AreSettled later held.plan held.places latest replies new written) → sure
    → AreAfterDone held.plan settled.outcomes latest trees
    → AreAfterAnswered s events (batch.first.answers ++ answers_by (outcome_in held.plan settled.outcomes) batch.waiting) trees
unfolding batch_left
batch_answered sure later s events before replies held latest new written trees batch settled surely done =
    let left = done.some in
    let ws = batch.waiting in
    let plan = held.plan in
    let outcomes = settled.outcomes in
    let answers = batch.first.answers in
    let became : Outcome = outcome_in plan outcomes in
    let by : Outcome = outcome_else plan (take left.0 outcomes ++ replicate left.1 None) in
    let it = batch_cut sure later s events before replies held latest new written trees batch settled surely left in
    let many : length (plan_of it.first) ≡ left.0 + left.1 = it.many ∙ so_many outcomes left.0 left.1 left.2 in
    let part = split it.first left.0 (omega (arith, many)) in
    let whole : ws ≡ (it.rest ++ part.rest) ++ part.first = it.is ∙ ap (λ (xs : List Waiting). it.rest ++ xs) part.is ∙ sym (append_assoc it.rest part.rest part.first) in
    let plan_is : plan ≡ plan_of part.first ++ plan_of (it.rest ++ part.rest) = ap (λ (h : HeldBack). h.plan) batch.is_held ∙ ap plan_of whole ∙ plan_append (it.rest ++ part.rest) part.first in
    let parted : outcomes ≡ outcomes_by became (plan_of part.first) ++ outcomes_by became (plan_of (it.rest ++ part.rest)) =
    sym (found_again plan outcomes batch.apart settled.as_many) ∙ ap (outcomes_by became) plan_is
    ∙ map-append (λ (entry : ℕ × End). became entry.0) (plan_of part.first) (plan_of (it.rest ++ part.rest)) in
    let count : length (outcomes_by became (plan_of part.first)) ≡ left.0 = length-map (plan_of part.first) (λ (entry : ℕ × End). became entry.0) ∙ part.many in
    let behind : drop left.0 outcomes ≡ outcomes_by became (plan_of (it.rest ++ part.rest)) =
    ap (drop left.0) parted ∙ drop_at (outcomes_by became (plan_of part.first)) (outcomes_by became (plan_of (it.rest ++ part.rest))) left.0 count in
    let front : take left.0 plan ≡ plan_of part.first =
    ap₂ (λ (n : ℕ) (p : List (ℕ × End)). take n p) (sym part.many) plan_is ∙ take-append_seam (plan_of part.first) (plan_of (it.rest ++ part.rest)) in
    let same : answers_by by part.first ≡ answers_by became part.first =
    same_answers by became part.first (subst (AllByRecursion (λ (entry : ℕ × End). by entry.0 ≡ became entry.0)) front
    (same_first left.0 plan outcomes (replicate left.1 None) batch.apart left.2 (omega (arith, left.3)))) in
    record {
      some = batch_left sure later s events before replies held latest new written trees batch settled surely left;
      sure = answers ++ answers_by became part.first;
      unsure = answers_by became (it.rest ++ part.rest);
      is_given =
          ap (λ (xs : List Reply). answers ++ xs) (ap (answers_by became) whole ∙ answers_append became (it.rest ++ part.rest) part.first)
          ∙ sym (append_assoc answers (answers_by became part.first) (answers_by became (it.rest ++ part.rest)));
      as_given = (
        answers_by by part.rest,
        ap (λ (xs : List Reply). answers ++ xs) (ap (answers_by by) part.is ∙ answers_append by part.rest part.first ∙ ap (λ (xs : List Reply). xs ++ answers_by by part.rest) same)
            ∙ sym (append_assoc answers (answers_by became part.first) (answers_by by part.rest)),
      );
      none_missing =
          quiet_rest became batch.mid (it.rest ++ part.rest) part.first latest (subst (λ (xs : List Waiting). IsHeldRun batch.mid xs latest) whole (batch.waits surely))
          (subst HaveFailed behind done.none_missing);
    }

-- if each COMMIT failed, no write was answered
all_quiet : (sure later : Type 0) (s : State) (events : List Event) (before replies : List Reply) (held : HeldBack) (latest new : State) (written : List Reply)
    (batch : IsBatch sure s events before replies held latest) (settled : AreSettled later held.plan held.places latest replies new written) → sure → HaveFailed settled.outcomes
    → TellNoWrite (answers_by (outcome_in held.plan settled.outcomes) batch.waiting)
all_quiet sure later s events before replies held latest new written batch settled surely failed =
    let became : Outcome = outcome_in held.plan settled.outcomes in
    let same : settled.outcomes ≡ outcomes_by became (plan_of batch.waiting) =
    sym (found_again held.plan settled.outcomes batch.apart settled.as_many) ∙ ap (λ (h : HeldBack). outcomes_by became h.plan) batch.is_held in
    quiet_rest became batch.mid batch.waiting [] latest (subst (λ (ws : List Waiting). IsHeldRun batch.mid ws latest) (sym (append-nil batch.waiting)) (batch.waits surely)) (subst HaveFailed same failed)

-- what was served, and what a crash leaves of it
pub record AreServedAll (first now : Store) (s : State) (events : List Event) (before replies : List Reply) (latest : State) : Type 0 where
  pub served : AreServed (HasCleanDisk now) s events before replies latest
  pub usable : IsUsable now → IsUsable first
  pub left : Survives first now (λ trees. IsTrue first.is_open × AreAfterSome s events served.answers trees)
  pub durable : Lasts first now (TellNoWrite served.answers) (AreAfterAnswered s events served.answers)

pub batch_settles : (first now new : Store) (s : State) (events : List Event) (before replies : List Reply) (held : HeldBack) (latest after : State) (written : List Reply)
    → IsLeftBatch first now s events before replies held latest → (IsUsable new → IsUsable now) → AreAllSettled now new held.plan held.places latest replies after written
    → AreServedAll first new s events before written after
unfolding batch_ends
batch_settles first now new s events before replies held latest after written it usable all =
    let batch = it.batch in
    let told = answers_by (outcome_in held.plan all.settled.outcomes) batch.waiting in
    record {
      served =
          batch_ends (HasCleanDisk now) (HasCleanDisk new) s events before replies held latest after written batch (still_clean now new _ all.left) all.settled;
      usable = λ still. it.usable (usable still);
      left =
          survives_then first now new _ _ _
          (λ clean trees k. (
            k.0,
            subst (λ (es : List Event). AreAfterSome s es (batch.first.answers ++ told) trees) (sym batch.is_events)
                (after_some_more s batch.served (events_of batch.waiting) batch.first.answers told trees k.1),
          ))
          (λ clean trees k.
          let was = still_clean now new _ all.left clean in (
            (it.usable (was, k.0)).1,
            batch_left (HasCleanDisk now) (HasCleanDisk new) s events before replies held latest after written trees batch all.settled was k.1,
          ))
          it.left all.left;
      durable = λ clean trees may.
          let was = still_clean now new _ all.left clean in
          let holds : AreHolding held.plan latest = record {
            apart = batch.apart;
            holds = subst (λ (h : HeldBack). AllByRecursion (λ (entry : ℕ × End). (entry.1 ≡ end.Commit) × (0 < length (own entry.0 latest.reservations))) h.plan) (sym batch.is_held)
                (plan_holds batch.mid batch.waiting latest (batch.waits was));
          } in
          elim (all.durable holds clean trees may) [
            | inr done ↦ inr (batch_answered (HasCleanDisk now) (HasCleanDisk new) s events before replies held latest after written trees batch all.settled was done)
            | inl kept ↦
                let quiet : TellNoWrite told = all_quiet (HasCleanDisk now) (HasCleanDisk new) s events before replies held latest after written batch all.settled was kept.0 in
                elim (it.durable was trees kept.1) [
                  | inl nothing ↦ inl (append_all (λ (answer : Reply). tells_write answer ≡ false) batch.first.answers told nothing.0 quiet, nothing.1)
                  | inr made ↦
                      inr (subst (λ (es : List Event). AreAfterAnswered s es (batch.first.answers ++ told) trees) (sym batch.is_events)
                      (answered_more s batch.served (events_of batch.waiting) batch.first.answers told trees quiet made))
                ]
          ];
    }

-- ONE MORE EVENT

-- the reply that counts is the given one, or the given one is a failure
counts_as : (s : State) (session : ℕ) (asked : Statement) (answer : Reply) (new : State) (o : Option Failure) → failure_of answer ≡ o
    → MatchOption o (IsStep s session asked answer new) (λ f. IsTrue (may_fail s session asked f) × (new ≡ s)) → ((step s session asked).0 ≡ answer) ⊎ IsSome (failure_of answer)
counts_as s session asked answer new None is event = inl (sym (ap (λ (p : Reply × State). p.0) event.is_step))
counts_as s session asked answer new (Some f) is event = inr (rw is refl)

event_left : (s : State) (events : List Event) (answers : List Reply) (mid : State) (happened : Event) (answer : Reply) (new : State) (trees : Trees) → IsRun s events answers mid
    → IsServed mid happened answer new → AreAfterEvent mid happened trees → AreAfterSome s (events ++ happened ∷ []) (answers ++ answer ∷ []) trees
event_left s events answers mid (event.Statement session asked) answer new trees ran served held = record {
  first = events ++ event.Statement session asked ∷ [];
  rest = [];
  is_events = sym (append-nil (events ++ event.Statement session asked ∷ []));
  counted = answers ++ (step mid session asked).0 ∷ [];
  are_counted = counted_push answers answers (step mid session asked).0 answer refl (subst (AreCounted answers) (append-nil answers) (counted_same answers []))
      (counts_as mid session asked answer new (failure_of answer) refl served);
  now = (step mid session asked).1;
  ran =
      run_more s events answers mid (event.Statement session asked) (step mid session asked).0 (step mid session asked).1 ran
      (stepped mid session asked (step mid session asked).0 (step mid session asked).1 (machine_never_fails mid session asked) refl);
  held = held;
}
event_left s events answers mid event.Restart answer new trees ran served held = absurd held

written_fails : (answer : Reply) → tells_write answer ≡ true → ¬ (IsSome (failure_of answer))
written_fails (reply.Refused r) written failed = absurd (false≢true written)
written_fails _ written failed = absurd (false≢true failed)

-- a reply that says that the store was written is the one that counts
written_counts : (s : State) (session : ℕ) (asked : Statement) (answer : Reply) (new : State) → tells_write answer ≡ true → StepOrRefusal s session asked answer new → (step s session asked).0 ≡ answer
written_counts s session asked answer new written event = elim (counts_as s session asked answer new (failure_of answer) refl event) [
  | inl same ↦ same
  | inr failed ↦ absurd (written_fails answer written failed)
]

event_answered : (s : State) (events : List Event) (answers : List Reply) (mid : State) (happened : Event) (answer : Reply) (new : State) (trees : Trees) → IsRun s events answers mid
    → IsServed mid happened answer new → AreAfterEvent mid happened trees → AreAfterAnswered s (events ++ happened ∷ []) (answers ++ answer ∷ []) trees
unfolding event_left
event_answered s events answers mid (event.Statement session asked) answer new trees ran served held =
    let some = event_left s events answers mid (event.Statement session asked) answer new trees ran served held in
    elim (cases_Bool (tells_write answer)) [
      | inl written ↦ record {
        some = some;
        sure = answers ++ answer ∷ [];
        unsure = [];
        is_given = sym (append-nil (answers ++ answer ∷ []));
        as_given = ([], ap (λ (r : Reply). answers ++ r ∷ []) (written_counts mid session asked answer new written served) ∙ sym (append-nil (answers ++ answer ∷ [])));
        none_missing = tt;
      }
      | inr quiet ↦ record {
        some = some;
        sure = answers;
        unsure = answer ∷ [];
        is_given = refl;
        as_given = ((step mid session asked).0 ∷ [], refl);
        none_missing = (quiet, tt);
      }
    ]
event_answered s events answers mid event.Restart answer new trees ran served held = absurd held

pub serves_more : (first mid new : Store) (s : State) (events : List Event) (before replies : List Reply) (latest : State) (happened : Event) (answer : Reply) (after : State)
    → AreServedAll first mid s events before replies latest → (IsUsable new → IsUsable mid) → (HasCleanDisk new → IsServed latest happened answer after)
    → Survives mid new (λ trees. IsTrue mid.is_open × AreAfterEvent latest happened trees)
    → Lasts mid new (tells_write answer ≡ false) (AreAfterEvent latest happened)
    → AreServedAll first new s (events ++ happened ∷ []) before (replies ++ answer ∷ []) after
unfolding served_more
serves_more first mid new s events before replies latest happened answer after it usable event survives lasts = record {
  served = served_more (HasCleanDisk mid) (HasCleanDisk new) s events before replies latest happened answer after it.served (still_clean mid new _ survives) event;
  usable = λ still. it.usable (usable still);
  left =
      survives_then first mid new _ _ _
      (λ clean trees k. (k.0, after_some_more s events (happened ∷ []) it.served.answers (answer ∷ []) trees k.1))
      (λ clean trees k.
      let was = still_clean mid new _ survives clean in
      ((it.usable (was, k.0)).1, event_left s events it.served.answers latest happened answer after trees (it.served.ran was) (event clean) k.1))
      it.left survives;
  durable =
      lasts_then first mid new (TellNoWrite it.served.answers) (tells_write answer ≡ false) (TellNoWrite (it.served.answers ++ answer ∷ [])) _ _
      (AreAfterAnswered s (events ++ happened ∷ []) (it.served.answers ++ answer ∷ [])) (still_clean mid new _ survives)
      (λ quiet one. append_all (λ (a : Reply). tells_write a ≡ false) it.served.answers (answer ∷ []) quiet (one, tt))
      (λ _ trees one made. answered_more s events (happened ∷ []) it.served.answers (answer ∷ []) trees (one, tt) made)
      (λ clean trees made.
      event_answered s events it.served.answers latest happened answer after trees (it.served.ran (still_clean mid new _ survives clean)) (event clean) made)
      it.durable lasts;
}

-- no event waits
pub none_wait : (first now : Store) (s : State) (events : List Event) (before replies : List Reply) (latest : State) → AreServedAll first now s events before replies latest
    → IsLeftBatch first now s events before replies none_held latest
unfolding nothing_waits
none_wait first now s events before replies latest it = record {
  batch = nothing_waits (HasCleanDisk now) s events before replies latest it.served;
  usable = it.usable;
  left = it.left;
  durable = it.durable;
}

-- if nothing is written, a crash leaves no more of a batch
module _ (first now new : Store) (s : State) (events : List Event) (before replies : List Reply) (held : HeldBack) (latest : State) (it : IsLeftBatch first now s events before replies held latest)
    (usable : IsUsable new → IsUsable now) (survives : Survives now new (λ trees. IsTrue now.is_open × AreHeldOf latest trees)) where
  unwritten : Survives first new (λ trees. IsTrue first.is_open × AreAfterSome s it.batch.served it.batch.first.answers trees)
  unwritten =
      survives_then first now new _ _ _ (λ clean trees k. k)
      (λ clean trees k.
      let was = still_clean now new _ survives clean in (
        (it.usable (was, k.0)).1,
        after_some_all s it.batch.served it.batch.first.answers it.batch.mid latest trees (it.batch.first.ran was)
            (held_kept it.batch.mid it.batch.waiting latest (it.batch.waits was)) k.1,
      ))
      it.left survives

  unwritten_lasts : Lasts first new (TellNoWrite it.batch.first.answers) (AreAfterAnswered s it.batch.served it.batch.first.answers)
  unwritten_lasts =
      let surely = still_clean now new _ survives in
      lasts_then first now new (TellNoWrite it.batch.first.answers) (Unit {0}) (TellNoWrite it.batch.first.answers) _ (AreHeldOf latest) (AreAfterAnswered s it.batch.served it.batch.first.answers) surely
      (λ quiet _. quiet) (λ _ trees _ made. made)
      (λ clean trees held.
      answered_all s it.batch.served it.batch.first.answers it.batch.mid latest trees (it.batch.first.ran (surely clean))
      (held_kept it.batch.mid it.batch.waiting latest (it.batch.waits (surely clean))) held)
      it.durable (lasts_survives now new (Unit {0}) _ (AreHeldOf latest) tt (λ _ trees k. k.1) survives)

  -- one more event joins the waiting ones
  pub one_joins : (happened : Event) (answer : Reply) (held_later : HeldBack) (after : State) → Joins (HasCleanDisk new) happened (length replies) held latest answer held_later after
      → IsLeftBatch first new s (events ++ happened ∷ []) before (replies ++ answer ∷ []) held_later after
  unfolding batch_joins
  one_joins happened answer held_later after joins = record {
    batch = batch_joins (HasCleanDisk now) (HasCleanDisk new) s events before replies held latest happened answer held_later after it.batch (still_clean now new _ survives) joins;
    usable = λ still. it.usable (usable still);
    left = unwritten;
    durable = unwritten_lasts;
  }

  -- no event joins
  pub still_waits : IsLeftBatch first new s events before replies held latest
  still_waits =
      let batch = it.batch in
      let surely = still_clean now new _ survives in
      record {
        batch = record {
          served = batch.served;
          told = batch.told;
          mid = batch.mid;
          waiting = batch.waiting;
          first = record { answers = batch.first.answers; as_many = batch.first.as_many; is_replies = batch.first.is_replies; ran = λ clean. batch.first.ran (surely clean) };
          waits = λ clean. batch.waits (surely clean);
          in_order = λ clean. batch.in_order (surely clean);
          is_events = batch.is_events;
          is_replies = batch.is_replies;
          is_held = batch.is_held;
          apart = batch.apart;
        };
        usable = λ still. it.usable (usable still);
        left = unwritten;
        durable = unwritten_lasts;
      }

-- nothing was served yet
pub nothing_left : (now : Store) (s : State) (before : List Reply) → IsLeftBatch now now s [] before before none_held s
unfolding nothing_served
nothing_left now s before =
    none_wait now now s [] before before s
    (record { served = nothing_served (HasCleanDisk now) s before; usable = λ usable. usable; left = survives_itself now _; durable = λ _ _ may. inl (tt, may) })

-- the answers of this call are the replies after the earlier ones
pub left_behind : (first now : Store) (s : State) (events : List Event) (before replies : List Reply) (latest : State) → AreServedAll first now s events before replies latest
    → Survives first now (λ trees. IsTrue first.is_open × AreAfterSome s events (drop (length before) replies) trees)
left_behind first now s events before replies latest it =
    subst (λ (answers : List Reply). Survives first now (λ trees. IsTrue first.is_open × AreAfterSome s events answers trees))
    (sym (ap (drop (length before)) it.served.is_replies ∙ drop-append_seam before it.served.answers)) it.left

pub lasts_behind : (first now : Store) (s : State) (events : List Event) (before replies : List Reply) (latest : State) → AreServedAll first now s events before replies latest
    → Lasts first now (TellNoWrite (drop (length before) replies)) (AreAfterAnswered s events (drop (length before) replies))
lasts_behind first now s events before replies latest it =
    subst (λ (answers : List Reply). Lasts first now (TellNoWrite answers) (AreAfterAnswered s events answers))
    (sym (ap (drop (length before)) it.served.is_replies ∙ drop-append_seam before it.served.answers)) it.durable
