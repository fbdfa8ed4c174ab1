-- What lines give to databases is a run of the machine for each.
use Rattle.std.specs.Prelude.{◌≡◌, ◌<◌, ◌==◌, ℕ, Bool, true, false, cond, IsSomeAnd, Option, Some, None, List, [], ◌∷◌, ◌++◌, length, map, slice_get, slice_set}
use Rattle.std.specs.List.{AllByRecursion}
use Rattle.std.proofs.Common.{inl, inr, refl, sym, ap, subst, ◌∙◌}
use Rattle.std.proofs.lemmas.Bool.{cases_eq, eq-eqb, ne_eqb}
use Rattle.std.proofs.lemmas.List.{length-map}
use Rattle.std.proofs.lemmas.Option.{slice_get_within}
use Rattle.escrow_num.specs.Session.{IsSession}
use Rattle.escrow_machine.specs.declared.event.Event.{Event}
use Rattle.escrow_machine.specs.declared.event.Event.TheVariants as event
use Rattle.escrow_machine.specs.declared.reply.Reply.{Reply}
use Rattle.escrow_machine.specs.Event.{HasSession}
use Rattle.escrow_machine.specs.State.{State}
use Rattle.escrow_machine.specs.Step.{IsServed, IsRun}
use Rattle.escrow_reply.specs.Text.{rendered}
use Rattle.escrow_stats.specs.Tally.{tally_of}
use Rattle.escrow_script.specs.Line.{Reading, nothing, join, restart, statement, no_line, database_name, Reads}
use Rattle.escrow_serve.specs.Output.{Sitting, begun, replies_to, Answers, Restarts, PrintsText, ServesLine, ServesLines}
use Rattle.escrow_serve.proofs.LineRanLemmas.{answers_then, events_then}
use Rattle.escrow_serve.proofs.Elements.{get_set_same, get_set_other, get_image, get_within}
use Rattle.escrow_accounts.proofs.Reached.{units_are_accounted_for}
use Rattle.escrow_serve.specs.Asked.{Given, GivesLine, GivesLines, given_at, events_at, answers_at}
use Rattle.escrow_outcomes.specs.Laws.{ScriptsAreAccountedFor}
use Rattle.escrow_outcomes.proofs.Once.{line_written}

-- RUNS

-- a run, and then another
run_then : (s mid new : State) (events more : List Event) (answers others : List Reply) → IsRun s events answers mid → IsRun mid more others new
    → IsRun s (events ++ more) (answers ++ others) new
run_then s mid new [] more [] others first rest = subst (λ (t : State). IsRun t more others new) first rest
run_then s mid new [] more (a ∷ answers) others first rest = absurd first
run_then s mid new (e ∷ events) more [] others first rest = absurd first
run_then s mid new (e ∷ events) more (a ∷ answers) others first rest = (first.0, first.1, run_then first.0 mid new events more answers others first.2 rest)

-- EACH DATABASE

-- what is given leads each database from one state to the next
abbrev Leads : List Sitting → List Given → List Sitting → Type 0
Leads sittings given new =
    (place : ℕ) (before after : Sitting) → slice_get sittings place ≡ Some before → slice_get new place ≡ Some after
    → IsRun before.state (events_at place given) (answers_at place given) after.state

-- the sessions of what is given are sessions
abbrev OfSessions : List Given → Type 0
OfSessions given = (place : ℕ) → AllByRecursion HasSession (events_at place given)

same_item : {A : Type 0} (x y : A) → Some x ≡ Some y → x ≡ y
same_item x y e = cc

leads_none : (sittings new : List Sitting) → new ≡ sittings → Leads sittings [] new
leads_none sittings new same = λ place before after found there.
    let is : Some after ≡ Some before = sym there ∙ ap (λ (xs : List Sitting). slice_get xs place) same ∙ found in
    ap (λ (x : Sitting). x.state) (same_item after before is)

-- an event of the database at a place is its, and nobody else's
at_own : (g : Given) → given_at g.place (g ∷ []) ≡ g ∷ []
at_own g = rw (eq-eqb g.place g.place refl) refl

at_other : (place : ℕ) (g : Given) → ¬ (place ≡ g.place) → given_at place (g ∷ []) ≡ []
at_other place g apart = rw (ne_eqb g.place place (λ same. apart (sym same))) refl

leads_one : (sittings : List Sitting) (g : Given) (sitting after : Sitting) (new : List Sitting) → slice_get sittings g.place ≡ Some sitting
    → IsServed sitting.state g.happened g.answer after.state → new ≡ slice_set sittings g.place after → Leads sittings (g ∷ []) new
leads_one sittings g sitting after new found served set = λ place before later at there. elim (cases_eq place g.place) [
  | inl here ↦
      let there_own : slice_get (slice_set sittings g.place after) g.place ≡ Some later =
      ap (λ (xs : List Sitting). slice_get xs g.place) (sym set) ∙ subst (λ (p : ℕ). slice_get new p ≡ Some later) here there in
      let is_after : after ≡ later = same_item after later (sym (get_set_same sittings g.place after (slice_get_within sittings g.place sitting found)) ∙ there_own) in
      let is_before : sitting ≡ before = same_item sitting before (sym found ∙ subst (λ (p : ℕ). slice_get sittings p ≡ Some before) here at) in
      let run : IsRun sitting.state (g.happened ∷ []) (g.answer ∷ []) after.state = (after.state, served, refl) in
      let run_own : IsRun sitting.state (events_at g.place (g ∷ [])) (answers_at g.place (g ∷ [])) after.state =
      subst (λ (gs : List Given). IsRun sitting.state (map (λ (x : Given). x.happened) gs) (map (λ (x : Given). x.answer) gs) after.state) (sym (at_own g)) run in
      let run_here : IsRun sitting.state (events_at place (g ∷ [])) (answers_at place (g ∷ [])) after.state =
      subst (λ (p : ℕ). IsRun sitting.state (events_at p (g ∷ [])) (answers_at p (g ∷ [])) after.state) (sym here) run_own in
      subst (λ (x : Sitting). IsRun x.state (events_at place (g ∷ [])) (answers_at place (g ∷ [])) later.state) is_before
      (subst (λ (x : Sitting). IsRun sitting.state (events_at place (g ∷ [])) (answers_at place (g ∷ [])) x.state) is_after run_here)
  | inr apart ↦
      let is : Some later ≡ Some before =
      sym there ∙ ap (λ (xs : List Sitting). slice_get xs place) set ∙ get_set_other sittings g.place place after apart ∙ at in
      let run : IsRun before.state [] [] later.state = ap (λ (x : Sitting). x.state) (same_item later before is) in
      subst (λ (gs : List Given). IsRun before.state (map (λ (x : Given). x.happened) gs) (map (λ (x : Given). x.answer) gs) later.state) (sym (at_other place g apart)) run
]

leads_then : (sittings mid new : List Sitting) (first rest : List Given) → length mid ≡ length sittings → Leads sittings first mid → Leads mid rest new
    → Leads sittings (first ++ rest) new
leads_then sittings mid new first rest many leads later = λ place before after found there.
    let within : place < length mid = subst (λ (n : ℕ). place < n) (sym many) (slice_get_within sittings place before found) in
    let between = get_within mid place within in
    let run = run_then before.state between.0.state after.state (events_at place first) (events_at place rest) (answers_at place first) (answers_at place rest)
    (leads place before between.0 found between.1) (later place between.0 after between.1 there) in
    subst (λ (es : List Event). IsRun before.state es (answers_at place (first ++ rest)) after.state) (sym (events_then place first rest))
    (subst (λ (rs : List Reply). IsRun before.state (events_at place first ++ events_at place rest) rs after.state) (sym (answers_then place first rest)) run)

all_append : {A : Type 0} (P : A → Type 0) (xs ys : List A) → AllByRecursion P xs → AllByRecursion P ys → AllByRecursion P (xs ++ ys)
all_append P [] ys first rest = rest
all_append P (x ∷ xs) ys first rest = (first.0, all_append P xs ys first.1 rest)

sessions_then : (first rest : List Given) → OfSessions first → OfSessions rest → OfSessions (first ++ rest)
sessions_then first rest one two = λ place.
    subst (AllByRecursion HasSession) (sym (events_then place first rest)) (all_append HasSession (events_at place first) (events_at place rest) (one place) (two place))

sessions_one : (g : Given) → HasSession g.happened → OfSessions (g ∷ [])
sessions_one g has = λ place. at (g.place == place)
  where
    at : (b : Bool) → AllByRecursion HasSession (map (λ (x : Given). x.happened) (cond b (g ∷ []) []))
    at true = (has, tt)
    at false = tt

-- nothing is given, and the state stays
leads_kept : (sittings : List Sitting) (place : ℕ) (sitting after : Sitting) (new : List Sitting) → slice_get sittings place ≡ Some sitting
    → after.state ≡ sitting.state → new ≡ slice_set sittings place after → Leads sittings [] new
leads_kept sittings place sitting after new found same set = λ other before later at there. elim (cases_eq other place) [
  | inl here ↦
      let there_own : slice_get (slice_set sittings place after) place ≡ Some later =
      ap (λ (xs : List Sitting). slice_get xs place) (sym set) ∙ subst (λ (p : ℕ). slice_get new p ≡ Some later) here there in
      let is_after : after ≡ later = same_item after later (sym (get_set_same sittings place after (slice_get_within sittings place sitting found)) ∙ there_own) in
      let is_before : sitting ≡ before = same_item sitting before (sym found ∙ subst (λ (p : ℕ). slice_get sittings p ≡ Some before) here at) in
      ap (λ (x : Sitting). x.state) (sym is_after) ∙ same ∙ ap (λ (x : Sitting). x.state) is_before
  | inr apart ↦
      let is : Some later ≡ Some before =
      sym there ∙ ap (λ (xs : List Sitting). slice_get xs other) set ∙ get_set_other sittings place other after apart ∙ at in
      ap (λ (x : Sitting). x.state) (same_item later before is)
]

-- ONE LINE

-- what a line gives, with what it writes and where it leads
record Played (sittings : List Sitting) (reading : Reading) (out : List ℕ) (new : List Sitting) : Type 0 where
  given : List Given
  gives : GivesLine reading given out
  leads : Leads sittings given new
  sessions : OfSessions given

text_played : (sittings : List Sitting) (place session : ℕ) (text out : List ℕ) (sitting after : Sitting) (new : List Sitting) → IsSession session
    → slice_get sittings place ≡ Some sitting → PrintsText (database_name place) sitting session text out after → new ≡ slice_set sittings place after
    → Played sittings (statement place session text) out new
text_played sittings place session text out sitting after new is_session found (inl prints) set = at prints.2
  where
    is_after : after.state ≡ prints.1
    is_after = ap (λ (x : Sitting). x.state) prints.4

    at : Answers sitting.state session text prints.0 prints.1 → Played sittings (statement place session text) out new
    at (inl served) =
        let g : Given = record { place = place; happened = event.Statement session served.0; answer = prints.0 } in
        record {
          given = g ∷ [];
          gives = inl (served.0, prints.0, served.1, refl, prints.3);
          leads = leads_one sittings g sitting after new found (subst (λ (t : State). IsServed sitting.state (event.Statement session served.0) prints.0 t) (sym is_after) served.2) set;
          sessions = sessions_one g is_session;
        }
    at (inr refused) = record {
      given = [];
      gives = inr (inl (refused.0, refused.1, refl, prints.3 ∙ ap (λ (a : Reply). rendered (database_name place) session a) refused.2));
      leads = leads_kept sittings place sitting after new found (is_after ∙ refused.3) set;
      sessions = λ _. tt;
    }
text_played sittings place session text out sitting after new is_session found (inr prints) set = record {
  given = [];
  gives = inr (inr (tally_of (replies_to session sitting.answered), prints.0, refl, prints.1));
  leads = leads_kept sittings place sitting after new found (ap (λ (x : Sitting). x.state) prints.2) set;
  sessions = λ _. tt;
}

restart_played : (sittings : List Sitting) (place : ℕ) (out : List ℕ) (sitting after : Sitting) (new : List Sitting) → slice_get sittings place ≡ Some sitting
    → Restarts (database_name place) sitting out after → new ≡ slice_set sittings place after → Played sittings (restart place) out new
restart_played sittings place out sitting after new found restarts set =
    let g : Given = record { place = place; happened = event.Restart; answer = restarts.0 } in
    let is_after : after.state ≡ restarts.1 = ap (λ (x : Sitting). x.state) restarts.4 in
    record {
      given = g ∷ [];
      gives = (restarts.0, refl, restarts.3);
      leads = leads_one sittings g sitting after new found (subst (λ (t : State). IsServed sitting.state event.Restart restarts.0 t) (sym is_after) restarts.2) set;
      sessions = sessions_one g tt;
    }

-- the database at a place is affected
played_at : (P : Sitting → Sitting → Type 0) (sittings : List Sitting) (reading : Reading) (place : ℕ) (out : List ℕ) (new : List Sitting)
    → ((sitting after : Sitting) → slice_get sittings place ≡ Some sitting → P sitting after → new ≡ slice_set sittings place after → Played sittings reading out new)
    → (o : Option Sitting) → slice_get sittings place ≡ o
    → IsSomeAnd o (λ sitting. (after : Sitting) × P sitting after × (new ≡ slice_set sittings place after)) → Played sittings reading out new
played_at P sittings reading place out new played None found served = absurd served
played_at P sittings reading place out new played (Some sitting) found served = played sitting served.0 found served.1 served.2

-- a statement's session is one
session_of : (databases sessions : ℕ) (bytes : List ℕ) (place session : ℕ) (text : List ℕ) → Reads databases sessions bytes (statement place session text) → IsSession session
session_of databases sessions bytes place session text (inl readable) = readable.1.is_session
session_of databases sessions bytes place session text (inr none) = absurd (cc (none.1))

nothing_played : (sittings : List Sitting) (reading : Reading) (out : List ℕ) (new : List Sitting) → GivesLine reading [] out → new ≡ sittings → Played sittings reading out new
nothing_played sittings reading out new gives same = record { given = []; gives = gives; leads = leads_none sittings new same; sessions = λ _. tt }

line_played : (databases sessions : ℕ) (sittings : List Sitting) (bytes : List ℕ) (reading : Reading) (out : List ℕ) (new : List Sitting) → Reads databases sessions bytes reading
    → ServesLine sittings reading out new → Played sittings reading out new
line_played databases sessions sittings bytes nothing out new reads served = nothing_played sittings nothing out new (refl, served.0) served.1
line_played databases sessions sittings bytes join out new reads served = nothing_played sittings join out new (refl, served.0) served.1
line_played databases sessions sittings bytes no_line out new reads served = nothing_played sittings no_line out new (refl, served.0) served.1
line_played databases sessions sittings bytes (restart place) out new reads served =
    played_at (λ sitting after. Restarts (database_name place) sitting out after) sittings (restart place) place out new
    (λ sitting after found restarts set. restart_played sittings place out sitting after new found restarts set) (slice_get sittings place) refl served
line_played databases sessions sittings bytes (statement place session text) out new reads served =
    played_at (λ sitting after. PrintsText (database_name place) sitting session text out after) sittings (statement place session text) place out new
    (λ sitting after found prints set. text_played sittings place session text out sitting after new (session_of databases sessions bytes place session text reads) found prints set)
    (slice_get sittings place) refl served

-- LINES

record AllPlayed (databases sessions : ℕ) (sittings : List Sitting) (lines : List (List ℕ)) (out : List ℕ) (new : List Sitting) : Type 0 where
  given : List Given
  gives : GivesLines databases sessions lines given out
  leads : Leads sittings given new
  of_sessions : OfSessions given
  many : length new ≡ length sittings

lines_played : (databases sessions : ℕ) (sittings : List Sitting) (lines : List (List ℕ)) (out : List ℕ) (new : List Sitting) → length sittings ≡ databases
    → ServesLines sessions sittings lines out new → AllPlayed databases sessions sittings lines out new
lines_played databases sessions sittings [] out new many served = record {
  given = [];
  gives = (refl, served.0);
  leads = leads_none sittings new served.1;
  of_sessions = λ _. tt;
  many = ap (λ (xs : List Sitting). length xs) served.1;
}
lines_played databases sessions sittings (line ∷ lines) out new many served =
    let reads : Reads databases sessions line served.3.0 = subst (λ (n : ℕ). Reads n sessions line served.3.0) many served.3.1 in
    let first = line_played databases sessions sittings line served.3.0 served.0 served.2 reads served.3.2 in
    let kept : length served.2 ≡ length sittings = (line_written sessions sittings line served.0 served.2 served.3).1 in
    let rest = lines_played databases sessions served.2 lines served.1 new (kept ∙ many) served.4 in
    record {
      given = first.given ++ rest.given;
      gives = (served.3.0, reads, first.given, rest.given, served.0, served.1, first.gives, rest.gives, refl, served.5);
      leads = leads_then sittings served.2 new first.given rest.given kept first.leads rest.leads;
      of_sessions = sessions_then first.given rest.given first.sessions rest.of_sessions;
      many = rest.many ∙ kept;
    }

pub scripts_are_accounted_for : ScriptsAreAccountedFor
scripts_are_accounted_for sessions lines states out new written =
    let end : List Sitting = written.0 in
    let played = lines_played (length states) sessions (map begun states) lines out end (length-map states begun) written.1 in
    let runs : (place : ℕ) (before after : State) → slice_get states place ≡ Some before → slice_get new place ≡ Some after
    → IsRun before (events_at place played.given) (answers_at place played.given) after = λ place before after found there.
    let last = get_image (λ (x : Sitting). x.state) end place after (ap (λ (xs : List State). slice_get xs place) (sym written.2) ∙ there) in
    let many : length (map begun states) ≡ length states = length-map states begun in
    let within : place < length (map begun states) = subst (λ (n : ℕ). place < n) (sym many) (slice_get_within states place before found) in
    let first = get_within (map begun states) place within in
    let from = get_image begun states place first.0 first.1 in
    let is : from.0 ≡ before = same_item from.0 before (sym from.1 ∙ found) in
    let state_is : first.0.state ≡ before = ap (λ (x : Sitting). x.state) (sym from.2) ∙ is in
    subst (λ (t : State). IsRun t (events_at place played.given) (answers_at place played.given) after) state_is
    (subst (λ (t : State). IsRun first.0.state (events_at place played.given) (answers_at place played.given) t) last.2
    (played.leads place first.0 last.0 first.1 last.1)) in
    record {
      given = played.given;
      gives = played.gives;
      runs = runs;
      units = λ place before after found there valid chosen column.
          units_are_accounted_for before (events_at place played.given) (answers_at place played.given) after
          (record { valid = valid; sessions = played.of_sessions place; run = runs place before after found there }) chosen column;
    }
