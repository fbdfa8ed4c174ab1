-- What lines write is determined, unless something fails.
use Rattle.std.specs.Prelude.{◌≡◌, ◌≤◌, ℕ, IsSomeAnd, IsTrue, MatchOption, Option, Some, None, List, [], ◌∷◌, ◌++◌, length, map, slice_get, slice_set, codes}
use Rattle.std.proofs.Common.{inl, inr, refl, sym, ap, ap₂, subst, ◌∙◌}
use Rattle.std.proofs.lemmas.List.{length-map, length-set}
use Rattle.escrow_num.specs.declared.failure.Failure.{Failure}
use Rattle.escrow_num.specs.declared.refusal.Refusal.TheVariants as refusal
use Rattle.escrow_statement.specs.declared.statement.Statement.{Statement}
use Rattle.escrow_statement.specs.declared.statement.Request.{Request}
use Rattle.escrow_statement.specs.declared.statement.Request.TheVariants as request
use Rattle.escrow_sql.specs.declared.fault.ParseFault.{ParseFault}
use Rattle.escrow_sql.specs.declared.fault.ParseFault.TheVariants as fault
use Rattle.escrow_sql.specs.Parser.{Asks, IsFaultIn}
use Rattle.escrow_sql.proofs.Answered.{one_column, not_both}
use Rattle.escrow_sql.proofs.ParseLemmas.{asks_once}
use Rattle.escrow_machine.specs.declared.event.Event.TheVariants as event
use Rattle.escrow_machine.specs.declared.reply.Reply.{Reply}
use Rattle.escrow_machine.specs.declared.reply.Reply.TheVariants as reply
use Rattle.escrow_machine.specs.Reply.{failure_of}
use Rattle.escrow_machine.specs.State.{State, opened}
use Rattle.escrow_machine.specs.Step as machine
use Rattle.escrow_machine.specs.Step.{step, may_fail, IsStep, StepOrRefusal}
use Rattle.escrow_reply.specs.Text.{reply_lines, prefix_of, database_prefix, rendered, rendered_whole}
use Rattle.escrow_stats.specs.Tally.{tally_of}
use Rattle.escrow_stats.specs.Text.{totals_lines}
use Rattle.escrow_script.specs.Line.{Reading, nothing, join, restart, statement, no_line, database_name}
use Rattle.escrow_script.specs.Written.{fault_refusal}
use Rattle.escrow_script.specs.declared.limits.TheConstants.{MAX_DATABASES}
use Rattle.escrow_script.proofs.ReadingLemmas.{has_one_reading}
use Rattle.escrow_serve.specs.Output.{Sitting, begun, replies_to, answered_after, Answers, Restarts, PrintsAnswer, PrintsText, ServesLine, ServesBytes, ServesLines}
use Rattle.escrow_outcomes.specs.Failed.{AreWholeLines, ShowsFailure}
use Rattle.escrow_outcomes.specs.Laws.{OutputIsAFunction}
use Rattle.escrow_outcomes.proofs.Lines.{with_prefix_whole, shows_in_front, shows_behind, session_succeeds, restart_succeeds}

-- ONE STATEMENT

-- a reply that is no failure is the step's
step_of : (s : State) (session : ℕ) (asked : Statement) (answer : Reply) (new : State) (o : Option Failure) → o ≡ None
    → MatchOption o (IsStep s session asked answer new) (λ f. IsTrue (may_fail s session asked f) × (new ≡ s)) → (answer, new) ≡ step s session asked
step_of s session asked answer new None none served = served.is_step
step_of s session asked answer new (Some f) none served = absurd (cc)

abbrev AreSame : Reply → State → Reply → State → Type 0
AreSame a s b t = (a ≡ b) × (s ≡ t)

pair_same : (a b : Reply) (s t : State) (p q : Reply × State) → (a, s) ≡ p → (b, t) ≡ q → p ≡ q → AreSame a s b t
pair_same a b s t p q first second same =
    let pairs : (a, s) ≡ (b, t) = first ∙ same ∙ sym second in
    (ap (λ (x : Reply × State). x.0) pairs, ap (λ (x : Reply × State). x.1) pairs)

-- a text that is refused has its fault at a column, unless memory is refused
refused_at : (text : List ℕ) (f : ParseFault) (answer : Reply) → IsFaultIn text f → answer ≡ reply.Refused (fault_refusal f) → failure_of answer ≡ None
    → (column : ℕ) × (f ≡ fault.Syntax column)
refused_at text (fault.Syntax column) answer in_text is succeeds = (column, refl)
refused_at text fault.Memory answer in_text is succeeds = let failed = sym succeeds ∙ ap failure_of is in absurd (cc)

never_both : (text : List ℕ) (r : Request) (f : ParseFault) (answer : Reply) → Asks text r → IsFaultIn text f → answer ≡ reply.Refused (fault_refusal f)
    → failure_of answer ≡ None → ⊥
never_both text r f answer asks in_text is succeeds =
    let at = refused_at text f answer in_text is succeeds in
    not_both text r at.0 asks (subst (IsFaultIn text) at.1 in_text)

answer_once : (s : State) (session : ℕ) (text : List ℕ) (a b : Reply) (t u : State) → Answers s session text a t → Answers s session text b u
    → failure_of a ≡ None → failure_of b ≡ None → AreSame a t b u
answer_once s session text a b t u (inl one) (inl other) succeeds also =
    let same : request.Statement one.0 ≡ request.Statement other.0 = asks_once text (request.Statement one.0) (request.Statement other.0) one.1 other.1 in
    let asked : one.0 ≡ other.0 = cc in
    pair_same a b t u (step s session one.0) (step s session other.0)
    (step_of s session one.0 a t (failure_of a) succeeds one.2) (step_of s session other.0 b u (failure_of b) also other.2) (ap (step s session) asked)
answer_once s session text a b t u (inl one) (inr other) succeeds also = absurd (never_both text (request.Statement one.0) other.0 b one.1 other.1 other.2 also)
answer_once s session text a b t u (inr one) (inl other) succeeds also = absurd (never_both text (request.Statement other.0) one.0 a other.1 one.1 one.2 succeeds)
answer_once s session text a b t u (inr one) (inr other) succeeds also =
    let first = refused_at text one.0 a one.1 one.2 succeeds in
    let second = refused_at text other.0 b other.1 other.2 also in
    let columns : first.0 ≡ second.0 = one_column text first.0 second.0 (subst (IsFaultIn text) first.1 one.1) (subst (IsFaultIn text) second.1 other.1) in
    let faults : one.0 ≡ other.0 = first.1 ∙ ap (λ (c : ℕ). fault.Syntax c) columns ∙ sym second.1 in
    (one.2 ∙ ap (λ (f : ParseFault). reply.Refused (fault_refusal f)) faults ∙ sym other.2, one.3 ∙ sym other.3)

-- ONE LINE

abbrev Sames : List ℕ → Sitting → List ℕ → Sitting → Type 0
Sames out after other another = (out ≡ other) × (after ≡ another)

answers_against_totals : (place : ℕ) (sitting : Sitting) (session : ℕ) (text out : List ℕ) (new : Sitting) → PrintsAnswer (database_name place) sitting session text out new
    → Asks text request.Statistics → ¬ (ShowsFailure out) → ⊥
answers_against_totals place sitting session text out new prints totals none =
    against prints.2 (session_succeeds place session prints.0 out prints.3 none)
  where
    against : Answers sitting.state session text prints.0 prints.1 → failure_of prints.0 ≡ None → ⊥
    against (inl served) succeeds =
        let same : request.Statement served.0 ≡ request.Statistics = asks_once text (request.Statement served.0) request.Statistics served.1 totals in absurd (cc)
    against (inr refused) succeeds = never_both text request.Statistics refused.0 prints.0 totals refused.1 refused.2 succeeds

pub text_once : (place : ℕ) (sitting : Sitting) (session : ℕ) (text out other : List ℕ) (new another : Sitting) → PrintsText (database_name place) sitting session text out new
    → PrintsText (database_name place) sitting session text other another → ¬ (ShowsFailure out) → ¬ (ShowsFailure other) → Sames out new other another
text_once place sitting session text out other new another (inl one) (inl two) none also =
    let same = answer_once sitting.state session text one.0 two.0 one.1 two.1 one.2 two.2
    (session_succeeds place session one.0 out one.3 none) (session_succeeds place session two.0 other two.3 also) in (
      one.3 ∙ ap (λ (a : Reply). rendered (database_name place) session a) same.0 ∙ sym two.3,
      one.4 ∙ ap₂ (λ (a : Reply) (s : State). record { state = s; answered = sitting.answered ++ (session, a) ∷ [] }) same.0 same.1 ∙ sym two.4,
    )
text_once place sitting session text out other new another (inl one) (inr two) none also =
    absurd (answers_against_totals place sitting session text out new one two.0 none)
text_once place sitting session text out other new another (inr one) (inl two) none also =
    absurd (answers_against_totals place sitting session text other another two one.0 also)
text_once place sitting session text out other new another (inr one) (inr two) none also = (one.1 ∙ sym two.1, one.2 ∙ sym two.2)

restart_is : (sitting : Sitting) (answer : Reply) (after : State) → machine.IsServed sitting.state event.Restart answer after → failure_of answer ≡ None
    → AreSame answer after reply.Restarted (opened sitting.state.catalog sitting.state.rows)
restart_is sitting answer after (inl done) succeeds = done
restart_is sitting answer after (inr (inl is, same)) succeeds = let failed = sym succeeds ∙ ap failure_of is in absurd (cc)
restart_is sitting answer after (inr (inr is, same)) succeeds = let failed = sym succeeds ∙ ap failure_of is in absurd (cc)

pub restart_once : (place : ℕ) (sitting : Sitting) (out other : List ℕ) (new another : Sitting) → Restarts (database_name place) sitting out new
    → Restarts (database_name place) sitting other another → ¬ (ShowsFailure out) → ¬ (ShowsFailure other) → Sames out new other another
restart_once place sitting out other new another one two none also =
    let first = restart_is sitting one.0 one.1 one.2 (restart_succeeds place one.0 out one.3 none) in
    let second = restart_is sitting two.0 two.1 two.2 (restart_succeeds place two.0 other two.3 also) in
    let answers : one.0 ≡ two.0 = first.0 ∙ sym second.0 in
    let states : one.1 ≡ two.1 = first.1 ∙ sym second.1 in (
      one.3 ∙ ap (λ (a : Reply). rendered_whole (database_name place) a) answers ∙ sym two.3,
      one.4 ∙ ap₂ (λ (a : Reply) (s : State). record { state = s; answered = answered_after a sitting.answered }) answers states ∙ sym two.4,
    )

-- one database is affected
at_place : (P : Sitting → List ℕ → Sitting → Type 0) (sittings : List Sitting) (place : ℕ) (out other : List ℕ) (new another : List Sitting)
    → ((sitting after and_after : Sitting) → P sitting out after → P sitting other and_after → Sames out after other and_after) → (o : Option Sitting)
    → IsSomeAnd o (λ sitting. (after : Sitting) × P sitting out after × (new ≡ slice_set sittings place after))
    → IsSomeAnd o (λ sitting. (after : Sitting) × P sitting other after × (another ≡ slice_set sittings place after)) → (out ≡ other) × (new ≡ another)
at_place P sittings place out other new another once None one two = absurd one
at_place P sittings place out other new another once (Some sitting) one two =
    let same = once sitting one.0 two.0 one.1 two.1 in
    (same.0, one.2 ∙ ap (λ (after : Sitting). slice_set sittings place after) same.1 ∙ sym two.2)

reading_once : (sittings : List Sitting) (reading : Reading) (out other : List ℕ) (new another : List Sitting) → ServesLine sittings reading out new
    → ServesLine sittings reading other another → ¬ (ShowsFailure out) → ¬ (ShowsFailure other) → (out ≡ other) × (new ≡ another)
reading_once sittings nothing out other new another one two none also = (one.0 ∙ sym two.0, one.1 ∙ sym two.1)
reading_once sittings join out other new another one two none also = (one.0 ∙ sym two.0, one.1 ∙ sym two.1)
reading_once sittings no_line out other new another one two none also = (one.0 ∙ sym two.0, one.1 ∙ sym two.1)
reading_once sittings (restart place) out other new another one two none also =
    at_place (λ sitting bytes after. Restarts (database_name place) sitting bytes after) sittings place out other new another
    (λ sitting after and_after p q. restart_once place sitting out other after and_after p q none also) (slice_get sittings place) one two
reading_once sittings (statement place session text) out other new another one two none also =
    at_place (λ sitting bytes after. PrintsText (database_name place) sitting session text bytes after) sittings place out other new another
    (λ sitting after and_after p q. text_once place sitting session text out other after and_after p q none also) (slice_get sittings place) one two

line_once : (sessions : ℕ) (sittings : List Sitting) (bytes out other : List ℕ) (new another : List Sitting) → length sittings ≤ MAX_DATABASES
    → ServesBytes sessions sittings bytes out new → ServesBytes sessions sittings bytes other another → ¬ (ShowsFailure out) → ¬ (ShowsFailure other)
    → (out ≡ other) × (new ≡ another)
line_once sessions sittings bytes out other new another few one two none also =
    let readings : two.0 ≡ one.0 = has_one_reading (length sittings) sessions bytes two.0 one.0 few two.1 one.1 in
    reading_once sittings one.0 out other new another one.2 (subst (λ (r : Reading). ServesLine sittings r other another) readings two.2) none also

-- WHOLE LINES, AND AS MANY DATABASES

text_whole : (place : ℕ) (sitting : Sitting) (session : ℕ) (text out : List ℕ) (new : Sitting) → PrintsText (database_name place) sitting session text out new → AreWholeLines out
text_whole place sitting session text out new (inl prints) =
    subst AreWholeLines (sym prints.3) (with_prefix_whole (prefix_of (database_name place) session) (reply_lines prints.0))
text_whole place sitting session text out new (inr prints) =
    subst AreWholeLines (sym prints.1) (with_prefix_whole (prefix_of (database_name place) session) (totals_lines (tally_of (replies_to session sitting.answered))))

-- as many databases are left
abbrev IsWritten : List Sitting → List ℕ → List Sitting → Type 0
IsWritten sittings out new = AreWholeLines out × (length new ≡ length sittings)

written_at : (P : Sitting → Sitting → Type 0) (sittings : List Sitting) (place : ℕ) (out : List ℕ) (new : List Sitting)
    → ((sitting after : Sitting) → P sitting after → AreWholeLines out) → (o : Option Sitting)
    → IsSomeAnd o (λ sitting. (after : Sitting) × P sitting after × (new ≡ slice_set sittings place after)) → IsWritten sittings out new
written_at P sittings place out new whole None one = absurd one
written_at P sittings place out new whole (Some sitting) one =
    (whole sitting one.0 one.1, ap (λ (xs : List Sitting). length xs) one.2 ∙ length-set sittings place one.0)

reading_written : (sittings : List Sitting) (reading : Reading) (out : List ℕ) (new : List Sitting) → ServesLine sittings reading out new → IsWritten sittings out new
reading_written sittings nothing out new served = (inl served.0, ap (λ (xs : List Sitting). length xs) served.1)
reading_written sittings join out new served = (inl served.0, ap (λ (xs : List Sitting). length xs) served.1)
reading_written sittings no_line out new served = (subst AreWholeLines (sym served.0) (with_prefix_whole (codes "script> ") (reply_lines (reply.Refused refusal.Line))), ap (λ (xs : List Sitting). length xs) served.1)
reading_written sittings (restart place) out new served =
    written_at (λ sitting after. Restarts (database_name place) sitting out after) sittings place out new
    (λ sitting after restarts. subst AreWholeLines (sym restarts.3) (with_prefix_whole (database_prefix (database_name place)) (reply_lines restarts.0))) (slice_get sittings place) served
reading_written sittings (statement place session text) out new served =
    written_at (λ sitting after. PrintsText (database_name place) sitting session text out after) sittings place out new
    (λ sitting after prints. text_whole place sitting session text out after prints) (slice_get sittings place) served

pub line_written : (sessions : ℕ) (sittings : List Sitting) (bytes out : List ℕ) (new : List Sitting) → ServesBytes sessions sittings bytes out new → IsWritten sittings out new
line_written sessions sittings bytes out new served = reading_written sittings served.0 out new served.2

-- LINES

lines_once : (sessions : ℕ) (sittings : List Sitting) (lines : List (List ℕ)) (out other : List ℕ) (new another : List Sitting) → length sittings ≤ MAX_DATABASES
    → ServesLines sessions sittings lines out new → ServesLines sessions sittings lines other another → ¬ (ShowsFailure out) → ¬ (ShowsFailure other)
    → (out ≡ other) × (new ≡ another)
lines_once sessions sittings [] out other new another few one two none also = (one.0 ∙ sym two.0, one.1 ∙ sym two.1)
lines_once sessions sittings (line ∷ lines) out other new another few one two none also =
    let no_first : ¬ (ShowsFailure one.0) = λ shows. none (subst ShowsFailure (sym one.5) (shows_in_front one.0 one.1 shows)) in
    let no_other : ¬ (ShowsFailure two.0) = λ shows. also (subst ShowsFailure (sym two.5) (shows_in_front two.0 two.1 shows)) in
    let first = line_once sessions sittings line one.0 two.0 one.2 two.2 few one.3 two.3 no_first no_other in
    let written = line_written sessions sittings line one.0 one.2 one.3 in
    let and_written = line_written sessions sittings line two.0 two.2 two.3 in
    let no_rest : ¬ (ShowsFailure one.1) = λ shows. none (subst ShowsFailure (sym one.5) (shows_behind one.0 one.1 written.0 shows)) in
    let no_rest_either : ¬ (ShowsFailure two.1) = λ shows. also (subst ShowsFailure (sym two.5) (shows_behind two.0 two.1 and_written.0 shows)) in
    let few_left : length one.2 ≤ MAX_DATABASES = subst (λ (n : ℕ). n ≤ MAX_DATABASES) (sym written.1) few in
    let rest = lines_once sessions one.2 lines one.1 two.1 new another few_left one.4
    (subst (λ (mid : List Sitting). ServesLines sessions mid lines two.1 another) (sym first.1) two.4) no_rest no_rest_either in
    (one.5 ∙ ap₂ (λ (xs : List ℕ) (ys : List ℕ). xs ++ ys) first.0 rest.0 ∙ sym two.5, rest.1)

pub output_is_a_function : OutputIsAFunction
output_is_a_function sessions lines states out other new another few one two none also =
    let few_sittings : length (map begun states) ≤ MAX_DATABASES = subst (λ (n : ℕ). n ≤ MAX_DATABASES) (sym (length-map states begun)) few in
    let same = lines_once sessions (map begun states) lines out other one.0 two.0 few_sittings one.1 two.1 none also in
    (same.0, one.2 ∙ ap (λ (sittings : List Sitting). map (λ (s : Sitting). s.state) sittings) same.1 ∙ sym two.2)
