-- The replies of a batch, before and after the held COMMITs are written.
use Rattle.std.specs.Prelude.{◌≡◌, ℕ, ◌+◌, ◌<◌, Bool, true, false, if◌then◌else◌, Option, Some, None, is_none, ◌&&◌, option_map, unwrap_or, List, [], ◌∷◌, ◌++◌, length, drop, replicate, slice_get, slice_set}
use Rattle.std.specs.List.{AllByRecursion}
use Rattle.std.proofs.Common.{zero, suc, refl, sym, ap, ap₂, subst, arith, add-one, ◌∙◌}
use Rattle.std.proofs.lemmas.List.{append_assoc, length-append, length-map, length-set, map-append, set-append_left, set_at}
use Rattle.escrow_num.specs.declared.failure.Failure.{Failure}
use Rattle.escrow_num.specs.declared.session.End.{End}
use Rattle.escrow_num.specs.declared.session.End.TheVariants as end
use Rattle.escrow_num.specs.Refusal.{refusal_for}
use Rattle.escrow_machine.specs.declared.reply.Reply.{Reply}
use Rattle.escrow_machine.specs.declared.reply.Reply.TheVariants as reply
use Rattle.escrow_statement.specs.declared.statement.Statement.TheVariants as statement
use Rattle.escrow_machine.specs.Held.{Waiting, Outcome, events_of, answer_by, answers_by, ended_by}
use Rattle.escrow_machine.specs.State.{State}
use Rattle.escrow_machine.specs.Step.{step}
use Rattle.escrow_machine.proofs.Choices.{append_all}
use Rattle.escrow_core.specs.Beside.{refused_at, ended, all_done, plan_of, places_of}
use Rattle.escrow_core.proofs.HeldOutcomes.{outcomes_by, ended_more}

-- the replies, with the one at a place changed if its COMMIT failed
abbrev refused_if : ℕ → Option Failure → List Reply → List Reply
refused_if place outcome replies = unwrap_or (option_map (λ failure. slice_set replies place (reply.Refused (refusal_for failure))) outcome) replies

-- LENGTHS

pub as_many_answers : (outcome : Outcome) (ws : List Waiting) → length (answers_by outcome ws) ≡ length ws
as_many_answers outcome [] = refl
as_many_answers outcome (w ∷ earlier) =
    length-append (answers_by outcome earlier) (answer_by outcome w ∷ []) ∙ add-one (length (answers_by outcome earlier)) ∙ ap suc (as_many_answers outcome earlier)

pub as_many_events : (ws : List Waiting) → length (events_of ws) ≡ length ws
as_many_events [] = refl
as_many_events (w ∷ earlier) = length-append (events_of earlier) _ ∙ add-one (length (events_of earlier)) ∙ ap suc (as_many_events earlier)

as_many_if : (place : ℕ) (outcome : Option Failure) (replies : List Reply) → length (refused_if place outcome replies) ≡ length replies
as_many_if place None replies = refl
as_many_if place (Some failure) replies = length-set replies place (reply.Refused (refusal_for failure))

as_many_refused : (places : List ℕ) (outcomes : List (Option Failure)) (replies : List Reply) → length (refused_at places outcomes replies) ≡ length replies
as_many_refused [] outcomes replies = refl
as_many_refused (place ∷ places) [] replies = refl
as_many_refused (place ∷ places) (outcome ∷ outcomes) replies = as_many_refused places outcomes (refused_if place outcome replies) ∙ as_many_if place outcome replies

-- PLACES

-- each place is that of a reply
later_below : (start n : ℕ) (places : List ℕ) → AllByRecursion (λ place. place < start + n) places → AllByRecursion (λ place. place < start + suc n) places
later_below start n [] below = tt
later_below start n (place ∷ places) below = let h = below.0 in (omega arith, later_below start n places below.1)

places_if : (b : Bool) (start n : ℕ) (places : List ℕ) → AllByRecursion (λ place. place < start + n) places
    → AllByRecursion (λ place. place < start + suc n) (if b then places ++ (start + n) ∷ [] else places)
places_if true start n places below = append_all (λ place. place < start + suc n) places ((start + n) ∷ []) (later_below start n places below) (omega arith, tt)
places_if false start n places below = later_below start n places below

pub places_below : (start : ℕ) (ws : List Waiting) → AllByRecursion (λ place. place < start + length ws) (places_of start ws)
places_below start [] = tt
places_below start (w ∷ earlier) = places_if w.is_held start (length earlier) (places_of start earlier) (places_below start earlier)

-- there is one place for each entry of the plan
pairs_if : (b : Bool) (session place : ℕ) (plan : List (ℕ × End)) (places : List ℕ) → length places ≡ length plan
    → length (if b then places ++ place ∷ [] else places) ≡ length (if b then plan ++ (session, end.Commit) ∷ [] else plan)
pairs_if true session place plan places as_many = length-append places (place ∷ []) ∙ ap (λ n. n + 1) as_many ∙ sym (length-append plan ((session, end.Commit) ∷ []))
pairs_if false session place plan places as_many = as_many

pub pairs : (start : ℕ) (ws : List Waiting) → length (places_of start ws) ≡ length (plan_of ws)
pairs start [] = refl
pairs start (w ∷ earlier) = pairs_if w.is_held w.session (start + length earlier) (plan_of earlier) (places_of start earlier) (pairs start earlier)

-- REPLIES

-- replies after the places stay
behind_if : (place : ℕ) (outcome : Option Failure) (xs ys : List Reply) → place < length xs → refused_if place outcome (xs ++ ys) ≡ refused_if place outcome xs ++ ys
behind_if place None xs ys below = refl
behind_if place (Some failure) xs ys below = set-append_left xs ys place (reply.Refused (refusal_for failure)) below

behind_places : (places : List ℕ) (outcomes : List (Option Failure)) (xs ys : List Reply) (n : ℕ) → length xs ≡ n → AllByRecursion (λ place. place < n) places
    → refused_at places outcomes (xs ++ ys) ≡ refused_at places outcomes xs ++ ys
behind_places [] outcomes xs ys n many below = refl
behind_places (place ∷ places) [] xs ys n many below = refl
behind_places (place ∷ places) (outcome ∷ outcomes) xs ys n many below =
    ap (refused_at places outcomes) (behind_if place outcome xs ys (subst (λ m. place < m) (sym many) below.0))
    ∙ behind_places places outcomes (refused_if place outcome xs) ys n (as_many_if place outcome xs ∙ many) below.1

-- one more place
refused_more : (places : List ℕ) (outcomes : List (Option Failure)) (place : ℕ) (outcome : Option Failure) (replies : List Reply) → length outcomes ≡ length places
    → refused_at (places ++ place ∷ []) (outcomes ++ outcome ∷ []) replies ≡ refused_if place outcome (refused_at places outcomes replies)
refused_more [] [] place outcome replies as_many = refl
refused_more [] (first ∷ outcomes) place outcome replies as_many = absurd (cc)
refused_more (front ∷ places) [] place outcome replies as_many = absurd (cc)
refused_more (front ∷ places) (first ∷ outcomes) place outcome replies as_many = refused_more places outcomes place outcome (refused_if front first replies) (cc)

-- no COMMIT failed
pub none_refused : (places : List ℕ) (n : ℕ) (replies : List Reply) → refused_at places (replicate n None) replies ≡ replies
none_refused [] n replies = refl
none_refused (place ∷ places) zero replies = refl
none_refused (place ∷ places) (suc n) replies = none_refused places n replies

-- the first failed COMMIT has an index in the plan
past_one : (places : List ℕ) (n place : ℕ) (cause : Failure) (more : List (Option Failure)) (replies : List Reply) → slice_get places n ≡ Some place
    → refused_at places (replicate n None ++ Some cause ∷ more) replies ≡ refused_at (drop (suc n) places) more (slice_set replies place (reply.Refused (refusal_for cause)))
past_one [] n place cause more replies found = absurd (cc)
past_one (front ∷ places) zero place cause more replies found = let same : front ≡ place = cc in rw same refl
past_one (front ∷ places) (suc n) place cause more replies found = past_one places n place cause more replies found

pub refused_past : (places : List ℕ) (n place : ℕ) (cause : Failure) (more : List (Option Failure)) (replies : List Reply) → slice_get places n ≡ Some place
    → refused_at places (replicate n None ++ Some cause ∷ more) replies ≡ refused_at (drop (n + 1) places) more (slice_set replies place (reply.Refused (refusal_for cause)))
refused_past places n place cause more replies found = rw (add-one n) (past_one places n place cause more replies found)

-- the last reply, by the outcome of its COMMIT
abbrev pub answer_if : Option Failure → Reply → Reply
answer_if outcome answer = unwrap_or (option_map (λ failure. reply.Refused (refusal_for failure)) outcome) answer

last_if : (place : ℕ) (outcome : Option Failure) (answer : Reply) (xs : List Reply) → length xs ≡ place
    → refused_if place outcome (xs ++ answer ∷ []) ≡ xs ++ answer_if outcome answer ∷ []
last_if place None answer xs at = refl
last_if place (Some failure) answer xs at = set_at xs answer [] (reply.Refused (refusal_for failure)) place at

one_more : (b : Bool) (by : Outcome) (session place : ℕ) (answer : Reply) (plan : List (ℕ × End)) (places : List ℕ) (told done later : List Reply)
    → length (told ++ done) ≡ place → length (told ++ later) ≡ place → length (outcomes_by by plan) ≡ length places → AllByRecursion (λ p. p < place) places
    → refused_at places (outcomes_by by plan) (told ++ done) ≡ told ++ later
    → refused_at (if b then places ++ place ∷ [] else places) (outcomes_by by (if b then plan ++ (session, end.Commit) ∷ [] else plan))
    (told ++ (done ++ answer_if (if b then None else None) answer ∷ []))
    ≡ told ++ (later ++ answer_if (if b then by session else None) answer ∷ [])
one_more true by session place answer plan places told done later many many_later as_many below before =
    ap₂ (refused_at (places ++ place ∷ [])) (map-append (λ (entry : ℕ × End). by entry.0) plan ((session, end.Commit) ∷ [])) (sym (append_assoc told done (answer ∷ [])))
    ∙ refused_more places (outcomes_by by plan) place (by session) ((told ++ done) ++ answer ∷ []) as_many
    ∙ ap (refused_if place (by session)) (behind_places places (outcomes_by by plan) (told ++ done) (answer ∷ []) place many below ∙ ap (λ xs. xs ++ answer ∷ []) before)
    ∙ last_if place (by session) answer (told ++ later) many_later
    ∙ append_assoc told later (answer_if (by session) answer ∷ [])
one_more false by session place answer plan places told done later many many_later as_many below before =
    ap (refused_at places (outcomes_by by plan)) (sym (append_assoc told done (answer ∷ [])))
    ∙ behind_places places (outcomes_by by plan) (told ++ done) (answer ∷ []) place many below
    ∙ ap (λ xs. xs ++ answer ∷ []) before
    ∙ append_assoc told later (answer ∷ [])

-- after the COMMITs are written, the replies are those of their outcomes
pub refused_are_answers : (by : Outcome) (told : List Reply) (ws : List Waiting)
    → refused_at (places_of (length told) ws) (outcomes_by by (plan_of ws)) (told ++ answers_by all_done ws) ≡ told ++ answers_by by ws
refused_are_answers by told [] = refl
refused_are_answers by told (w ∷ earlier) =
    let start = length told in
    let many = λ (outcome : Outcome). length-append told (answers_by outcome earlier) ∙ ap (λ n. start + n) (as_many_answers outcome earlier) in
    one_more w.is_held by w.session (start + length earlier) w.answer (plan_of earlier) (places_of start earlier) told (answers_by all_done earlier) (answers_by by earlier)
    (many all_done) (many by) (length-map (plan_of earlier) (λ (entry : ℕ × End). by entry.0) ∙ sym (pairs start earlier)) (places_below start earlier) (refused_are_answers by told earlier)

-- THE STATE

state_more : (b : Bool) (by : Outcome) (session : ℕ) (plan : List (ℕ × End)) (s before : State) → ended plan (outcomes_by by plan) s ≡ before
    → ended (if b then plan ++ (session, end.Commit) ∷ [] else plan) (outcomes_by by (if b then plan ++ (session, end.Commit) ∷ [] else plan)) s
    ≡ (if b && is_none (by session) then (step before session statement.Commit).1 else before)
state_more true by session plan s before same =
    ap (λ os. ended (plan ++ (session, end.Commit) ∷ []) os s) (map-append (λ (entry : ℕ × End). by entry.0) plan ((session, end.Commit) ∷ []))
    ∙ ended_more plan (outcomes_by by plan) (session, end.Commit) (by session) s (length-map plan (λ (entry : ℕ × End). by entry.0))
    ∙ ap (λ t. if is_none (by session) then (step t session statement.Commit).1 else t) same
state_more false by session plan s before same = same

-- the state is that of the outcomes too
pub ended_is_after : (by : Outcome) (ws : List Waiting) (s : State) → ended (plan_of ws) (outcomes_by by (plan_of ws)) s ≡ ended_by by ws s
ended_is_after by [] s = refl
ended_is_after by (w ∷ earlier) s = state_more w.is_held by w.session (plan_of earlier) s (ended_by by earlier s) (ended_is_after by earlier s)
