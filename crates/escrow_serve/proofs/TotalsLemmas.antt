-- Totals kept for databases, and the sittings that they belong to.
use Rattle.std.proofs.Common.{◌≡◌, ◌≢◌, ℕ, zero, suc, ◌+◌, ◌-◌, ◌^◌, ◌<◌, ◌≤◌, List, [], ◌∷◌, ◌++◌, length, get_or, map, Some, Result, Ok, Err, true, false, arith, refl, sym, ap, subst, ◌∙◌, inl, inr}
use Rattle.std.specs.Prelude.{◌==◌, filter, is_ok, slice_get, slice_set}
use Rattle.std.specs.List.{AllByRecursion}
use Rattle.std.proofs.lemmas.Bool.{cases_eq, eq-eqb, false≢true, ne_eqb, true≢false}
use Rattle.std.proofs.lemmas.List.{append-nil, length-append, length-map, map-append, get_or_default, get_or_past, get_or-set_other, get_or-set_same}
use Rattle.std.proofs.lemmas.List.Elements.{filter-append}
use Rattle.std.proofs.lemmas.List.Sums.{length-filter, count_by-le-length}
use Rattle.std.proofs.lemmas.Option.{slice_get_within}
use Rattle.escrow_num.specs.Session.{IsSession}
use Rattle.escrow_machine.specs.declared.event.Event.TheVariants as event
use Rattle.escrow_machine.specs.declared.reply.Reply.{Reply}
use Rattle.escrow_machine.specs.declared.reply.Reply.TheVariants as reply
use Rattle.escrow_num.specs.declared.refusal.Refusal.{Refusal}
use Rattle.escrow_machine.specs.Reply.{restart_reply}
use Rattle.escrow_machine.specs.State.{State}
use Rattle.escrow_machine.specs.Step as machine
use Rattle.escrow_reply.specs.Text.{rendered, rendered_whole}
use Rattle.escrow_statement.specs.declared.statement.Request.TheVariants as request
use Rattle.escrow_sql.specs.Parser.{Asks}
use Rattle.escrow_stats.specs.declared.tally.Tally.{Tally}
use Rattle.escrow_stats.specs.Tally.{tally_of}
use Rattle.escrow_stats.specs.Text.{rendered_totals}
use Rattle.escrow_serve.specs.declared.totals.Totals.{Totals}
use Rattle.escrow_script.specs.Line.{Reading, restart, statement, database_name, Reads}
use Rattle.escrow_serve.specs.Output.{Sitting, begun, replies_to, answered_after, Answers, PrintsText, ServesLine}
use Rattle.escrow_serve.specs.Totals.{AreLeft, AreNone, AreTotals, Sits, AllSit, TextServed, LineServed}
use Rattle.escrow_serve.proofs.Elements.{get_within, set_same}

-- THE REPLIES TO A SESSION

replies_joined : (session : ℕ) (before after : List (ℕ × Reply)) → replies_to session (before ++ after) ≡ replies_to session before ++ replies_to session after
replies_joined session before after =
    ap (map (λ (given : ℕ × Reply). given.1)) (filter-append (λ (given : ℕ × Reply). given.0 == session) before after)
    ∙ map-append (λ (given : ℕ × Reply). given.1) (filter (λ given. given.0 == session) before) (filter (λ given. given.0 == session) after)

-- a reply to the session adds one
replies_with : (session : ℕ) (answered : List (ℕ × Reply)) (r : Reply) → replies_to session (answered ++ (session, r) ∷ []) ≡ replies_to session answered ++ r ∷ []
replies_with session answered r =
    let one : replies_to session ((session, r) ∷ []) ≡ r ∷ [] = rw (eq-eqb session session refl) refl in
    replies_joined session answered ((session, r) ∷ []) ∙ ap (λ (l : List Reply). replies_to session answered ++ l) one

-- a reply to another session adds none
replies_without : (session other : ℕ) (answered : List (ℕ × Reply)) (r : Reply) → session ≢ other → replies_to other (answered ++ (session, r) ∷ []) ≡ replies_to other answered
replies_without session other answered r apart =
    let none : replies_to other ((session, r) ∷ []) ≡ [] = rw (ne_eqb session other apart) refl in
    replies_joined other answered ((session, r) ∷ []) ∙ ap (λ (l : List Reply). replies_to other answered ++ l) none ∙ append-nil (replies_to other answered)

-- no session has more replies than there are in all
few_replies : (session : ℕ) (answered : List (ℕ × Reply)) → length (replies_to session answered) ≤ length answered
few_replies session answered =
    omega (
      arith,
      length-map (filter (λ given. given.0 == session) answered) (λ (given : ℕ × Reply). given.1),
      length-filter (λ (given : ℕ × Reply). given.0 == session) answered,
      count_by-le-length (λ (given : ℕ × Reply). given.0 == session) answered,
    )

-- THE TOTALS OF A DATABASE

are_none : (totals : Totals) → AreNone totals → AreTotals totals [] 0
are_none totals none = record {
  each = λ session is. ap (λ (ts : List Tally). get_or ts (session - 1) (tally_of [])) none ∙ get_or_past [] (session - 1) (tally_of []) (omega arith);
  few = omega arith;
}

totals_more : (totals : Totals) (answered : List (ℕ × Reply)) (most : ℕ) → AreTotals totals answered most → AreTotals totals answered (most + 1)
totals_more totals answered most are = record { each = are.each; few = omega (arith, are.few) }

-- one more tally of no replies is that of a session that has none of its own
pub one_more_none : (ts : List Tally) (place : ℕ) (d : Tally) → get_or (ts ++ d ∷ []) place d ≡ get_or ts place d
one_more_none [] zero d = refl
one_more_none [] (suc place) d = refl
one_more_none (t ∷ ts) zero d = refl
one_more_none (t ∷ ts) (suc place) d = one_more_none ts place d

pub totals_same : (old new : Totals) → ((place : ℕ) → get_or new.tallies.items place (tally_of []) ≡ get_or old.tallies.items place (tally_of []))
    → (answered : List (ℕ × Reply)) (most : ℕ) → AreTotals old answered most → AreTotals new answered most
totals_same old new same answered most are = record { each = λ session is. same (session - 1) ∙ are.each session is; few = are.few }

-- the tally of a session
pub own_tally : (totals : Totals) (session place : ℕ) (tally d : Tally) → IsSession session → place ≡ session - 1 → place < length totals.tallies.items → tally ≡ get_or totals.tallies.items place d
    → (answered : List (ℕ × Reply)) (most : ℕ) → AreTotals totals answered most → tally ≡ tally_of (replies_to session answered)
own_tally totals session place tally d is_session is_place within found answered most are =
    found ∙ get_or_default totals.tallies.items place d (tally_of []) within
    ∙ ap (λ (n : ℕ). get_or totals.tallies.items n (tally_of [])) is_place ∙ are.each session is_session

pub no_tally : (totals : Totals) (session place : ℕ) (tally : Tally) → IsSession session → place ≡ session - 1 → length totals.tallies.items ≤ place → tally ≡ tally_of []
    → (answered : List (ℕ × Reply)) (most : ℕ) → AreTotals totals answered most → tally ≡ tally_of (replies_to session answered)
no_tally totals session place tally is_session is_place past none answered most are =
    none ∙ sym (get_or_past totals.tallies.items place (tally_of []) past)
    ∙ ap (λ (n : ℕ). get_or totals.tallies.items n (tally_of [])) is_place ∙ are.each session is_session

-- a reply to a session is counted
pub totals_with : (old new : Totals) (session place : ℕ) (r : Reply) (tally d now : Tally) → IsSession session → place ≡ session - 1 → place < length old.tallies.items → tally ≡ get_or old.tallies.items place d
    → new.tallies.items ≡ slice_set old.tallies.items place now → ((replies : List Reply) → tally ≡ tally_of replies → length replies < 2 ^ 64 - 1 → now ≡ tally_of (replies ++ r ∷ []))
    → (answered : List (ℕ × Reply)) (most : ℕ) → AreTotals old answered most → most < 2 ^ 64 - 1 → AreTotals new (answered ++ (session, r) ∷ []) (most + 1)
totals_with old new session place r tally d now is_session is_place within found set counts answered most are below =
    let is_now = counts (replies_to session answered) (own_tally old session place tally d is_session is_place within found answered most are) (omega (arith, few_replies session answered, are.few, below)) in
    record {
      each = λ other is_other. elim (cases_eq session other) [
        | inl same ↦
            let here : other - 1 ≡ place = omega (arith, is_place, same) in
            ap (λ (ts : List Tally). get_or ts (other - 1) (tally_of [])) set ∙ ap (λ (n : ℕ). get_or (slice_set old.tallies.items place now) n (tally_of [])) here
            ∙ get_or-set_same old.tallies.items place now (tally_of []) within ∙ is_now ∙ ap tally_of (sym (replies_with session answered r))
            ∙ ap (λ (n : ℕ). tally_of (replies_to n (answered ++ (session, r) ∷ []))) same
        | inr apart ↦
            let places : other - 1 ≢ place = omega (arith, is_session.0, is_other.0, apart, is_place) in
            ap (λ (ts : List Tally). get_or ts (other - 1) (tally_of [])) set ∙ get_or-set_other old.tallies.items place (other - 1) now (tally_of []) places
            ∙ are.each other is_other ∙ ap tally_of (sym (replies_without session other answered r apart))
      ];
      few = omega (arith, are.few, length-append answered ((session, r) ∷ []));
    }

-- THE SITTING OF A DATABASE

sits_more : (state : State) (totals : Totals) (sitting : Sitting) (most : ℕ) → Sits state totals sitting most → Sits state totals sitting (most + 1)
sits_more state totals sitting most sits = record { is_state = sits.is_state; are_totals = totals_more totals sitting.answered most sits.are_totals }

-- what a restart leaves
pub left_restarted : (outcome : Result (Unit {0}) Refusal) (answer : Reply) (old new : Totals) → answer ≡ restart_reply outcome → is_ok outcome ≡ true → AreNone new → AreLeft answer old new
left_restarted (Ok done) answer old new is ok none = subst (λ (r : Reply). AreLeft r old new) (sym is) none
left_restarted (Err refusal) answer old new is ok none = absurd (false≢true ok)

pub left_refused : (outcome : Result (Unit {0}) Refusal) (answer : Reply) (old new : Totals) → answer ≡ restart_reply outcome → is_ok outcome ≡ false → new ≡ old → AreLeft answer old new
left_refused (Ok done) answer old new is ok same = absurd (true≢false ok)
left_refused (Err refusal) answer old new is ok same = subst (λ (r : Reply). AreLeft r old new) (sym is) same

-- a restart
sits_restarted : (old new : State) (totals counted : Totals) (sitting : Sitting) (most : ℕ) (answer : Reply) → AreLeft answer totals counted → Sits old totals sitting most
    → Sits new counted (record { state = new; answered = answered_after answer sitting.answered }) (most + 1)
sits_restarted old new totals counted sitting most reply.Restarted left sits =
    record { is_state = refl; are_totals = record { each = (are_none counted left).each; few = omega arith } }
sits_restarted old new totals counted sitting most _ left sits =
    record { is_state = refl; are_totals = subst (λ (t : Totals). AreTotals t sitting.answered (most + 1)) (sym left) (totals_more totals sitting.answered most sits.are_totals) }

-- a text that is answered
pub text_answered : (name : List ℕ) (old new : State) (totals counted : Totals) (session : ℕ) (text : List ℕ) (answer : Reply) → Answers old session text answer new
    → ((answered : List (ℕ × Reply)) (most : ℕ) → AreTotals totals answered most → most < 2 ^ 64 - 1 → AreTotals counted (answered ++ (session, answer) ∷ []) (most + 1))
    → TextServed name old totals session text (rendered name session answer) new counted
text_answered name old new totals counted session text answer answers counts = λ sitting most sits below. (
  record { state = new; answered = sitting.answered ++ (session, answer) ∷ [] },
  inl (answer, new, subst (λ (s : State). Answers s session text answer new) (sym sits.is_state) answers, refl, refl),
  record { is_state = refl; are_totals = counts sitting.answered most sits.are_totals below },
)

-- a text that requests totals
pub text_totals : (name : List ℕ) (old new : State) (totals : Totals) (session : ℕ) (text : List ℕ) (tally : Tally) → Asks text request.Statistics → new ≡ old
    → ((answered : List (ℕ × Reply)) (most : ℕ) → AreTotals totals answered most → tally ≡ tally_of (replies_to session answered)) → TextServed name old totals session text (rendered_totals name session tally) new totals
text_totals name old new totals session text tally asks same counted = λ sitting most sits below. (
  sitting,
  inr (asks, ap (rendered_totals name session) (counted sitting.answered most sits.are_totals), refl),
  record { is_state = sits.is_state ∙ sym same; are_totals = totals_more totals sitting.answered most sits.are_totals },
)

-- THE SITTINGS OF ALL DATABASES

all_more : (states : List State) (totals : List Totals) (sittings : List Sitting) (most : ℕ) → AllSit states totals sittings most → AllSit states totals sittings (most + 1)
all_more [] [] [] most all = tt
all_more [] [] (x ∷ sittings) most all = absurd all
all_more [] (t ∷ totals) sittings most all = absurd all
all_more (s ∷ states) [] sittings most all = absurd all
all_more (s ∷ states) (t ∷ totals) [] most all = absurd all
all_more (s ∷ states) (t ∷ totals) (x ∷ sittings) most all = (sits_more s t x most all.0, all_more states totals sittings most all.1)

all_length : (states : List State) (totals : List Totals) (sittings : List Sitting) (most : ℕ) → AllSit states totals sittings most → length sittings ≡ length states
all_length [] [] [] most all = refl
all_length [] [] (x ∷ sittings) most all = absurd all
all_length [] (t ∷ totals) sittings most all = absurd all
all_length (s ∷ states) [] sittings most all = absurd all
all_length (s ∷ states) (t ∷ totals) [] most all = absurd all
all_length (s ∷ states) (t ∷ totals) (x ∷ sittings) most all = ap suc (all_length states totals sittings most all.1)

pub all_states : (states : List State) (totals : List Totals) (sittings : List Sitting) (most : ℕ) → AllSit states totals sittings most → states ≡ map (λ (x : Sitting). x.state) sittings
all_states [] [] [] most all = refl
all_states [] [] (x ∷ sittings) most all = absurd all
all_states [] (t ∷ totals) sittings most all = absurd all
all_states (s ∷ states) [] sittings most all = absurd all
all_states (s ∷ states) (t ∷ totals) [] most all = absurd all
all_states (s ∷ states) (t ∷ totals) (x ∷ sittings) most all =
    let head : s ≡ x.state = sym all.0.is_state in let tail = all_states states totals sittings most all.1 in cc

-- at the beginning of a script
pub all_begun : (states : List State) (totals : List Totals) → length totals ≡ length states → AllByRecursion AreNone totals → AllSit states totals (map begun states) 0
all_begun [] [] count none = tt
all_begun [] (t ∷ totals) count none = absurd (omega (arith, count))
all_begun (s ∷ states) [] count none = absurd (omega (arith, count))
all_begun (s ∷ states) (t ∷ totals) count none = (record { is_state = refl; are_totals = are_none t none.0 }, all_begun states totals (omega (arith, count)) none.1)

-- the sitting of one database
record IsAt (state : State) (totals : Totals) (sittings : List Sitting) (most place : ℕ) : Type 0 where
  pub sitting : Sitting
  pub found : slice_get sittings place ≡ Some sitting
  pub sits : Sits state totals sitting most

sits_at : (states : List State) (totals : List Totals) (sittings : List Sitting) (most place : ℕ) (state : State) (own : Totals) → AllSit states totals sittings most
    → slice_get states place ≡ Some state → slice_get totals place ≡ Some own → IsAt state own sittings most place
sits_at [] totals sittings most place state own all found has = absurd (omega (arith, slice_get_within [] place state found))
sits_at (s ∷ states) [] sittings most place state own all found has = absurd all
sits_at (s ∷ states) (t ∷ totals) [] most place state own all found has = absurd all
sits_at (s ∷ states) (t ∷ totals) (x ∷ sittings) most zero state own all found has =
    let is_state : s ≡ state = cc in let is_own : t ≡ own = cc in
    record { sitting = x; found = refl; sits = subst (λ (u : Totals). Sits state u x most) is_own (subst (λ (r : State). Sits r t x most) is_state all.0) }
sits_at (s ∷ states) (t ∷ totals) (x ∷ sittings) most (suc place) state own all found has =
    let behind = sits_at states totals sittings most place state own all.1 found has in
    record { sitting = behind.sitting; found = behind.found; sits = behind.sits }

-- one of the sittings changes
sits_set : (states : List State) (totals : List Totals) (sittings : List Sitting) (most place : ℕ) (state : State) (own : Totals) (sitting : Sitting) → AllSit states totals sittings most
    → Sits state own sitting (most + 1) → AllSit (slice_set states place state) (slice_set totals place own) (slice_set sittings place sitting) (most + 1)
sits_set [] [] [] most place state own sitting all sits = tt
sits_set [] [] (x ∷ sittings) most place state own sitting all sits = absurd all
sits_set [] (t ∷ totals) sittings most place state own sitting all sits = absurd all
sits_set (s ∷ states) [] sittings most place state own sitting all sits = absurd all
sits_set (s ∷ states) (t ∷ totals) [] most place state own sitting all sits = absurd all
sits_set (s ∷ states) (t ∷ totals) (x ∷ sittings) most zero state own sitting all sits = (sits, all_more states totals sittings most all.1)
sits_set (s ∷ states) (t ∷ totals) (x ∷ sittings) most (suc place) state own sitting all sits =
    (sits_more s t x most all.0, sits_set states totals sittings most place state own sitting all.1 sits)

-- A LINE

-- how a line is read
line_read : (sessions : ℕ) → (states new : List State) (totals counted : List Totals) (bytes out : List ℕ) (reading : Reading) → Reads (length states) sessions bytes reading
    → ((sittings : List Sitting) (most : ℕ) → AllSit states totals sittings most → most < 2 ^ 64 - 1 → (after : List Sitting) × ServesLine sittings reading out after × AllSit new counted after (most + 1))
    → LineServed sessions states totals bytes out new counted
line_read sessions states new totals counted bytes out reading reads serves = λ sittings most all below.
    let step = serves sittings most all below in
    let count = all_length states totals sittings most all in
    (step.0, (reading, subst (λ (n : ℕ). Reads n sessions bytes reading) (sym count) reads, step.1), step.2)

-- a line that changes nothing
pub line_of_none : (sessions : ℕ) → (states : List State) (totals : List Totals) (bytes out : List ℕ) (reading : Reading) → Reads (length states) sessions bytes reading
    → ((sittings : List Sitting) → ServesLine sittings reading out sittings) → LineServed sessions states totals bytes out states totals
line_of_none sessions states totals bytes out reading reads serves =
    line_read sessions states states totals totals bytes out reading reads (λ sittings most all below. (sittings, serves sittings, all_more states totals sittings most all))

-- the line of a statement
pub line_of_statement : (sessions : ℕ) → (states : List State) (totals : List Totals) (place session : ℕ) (bytes text name out : List ℕ) (old new : State) (own counted : Totals)
    → Reads (length states) sessions bytes (statement place session text) → slice_get states place ≡ Some old → slice_get totals place ≡ Some own → name ≡ database_name place
    → TextServed name old own session text out new counted → LineServed sessions states totals bytes out (slice_set states place new) (slice_set totals place counted)
line_of_statement sessions states totals place session bytes text name out old new own counted reads found has is_name served =
    line_read sessions states (slice_set states place new) totals (slice_set totals place counted) bytes out (statement place session text) reads (λ sittings most all below.
    let at = sits_at states totals sittings most place old own all found has in
    let step = served at.sitting most at.sits below in
    let prints = subst (λ (n : List ℕ). PrintsText n at.sitting session text out step.0) is_name step.1 in
    (slice_set sittings place step.0, rw at.found (step.0, prints, refl), sits_set states totals sittings most place new counted step.0 all step.2))

-- the line of a restart
pub line_of_restart : (sessions : ℕ) → (states : List State) (totals : List Totals) (place : ℕ) (bytes name : List ℕ) (answer : Reply) (old new : State) (own counted : Totals)
    → Reads (length states) sessions bytes (restart place) → slice_get states place ≡ Some old → slice_get totals place ≡ Some own → name ≡ database_name place
    → machine.IsServed old event.Restart answer new → AreLeft answer own counted
    → LineServed sessions states totals bytes (rendered_whole name answer) (slice_set states place new) (slice_set totals place counted)
line_of_restart sessions states totals place bytes name answer old new own counted reads found has is_name served left =
    line_read sessions states (slice_set states place new) totals (slice_set totals place counted) bytes (rendered_whole name answer) (restart place) reads (λ sittings most all below.
    let at = sits_at states totals sittings most place old own all found has in
    let after : Sitting = record { state = new; answered = answered_after answer at.sitting.answered } in
    let sits = sits_restarted old new own counted at.sitting most answer left at.sits in
    let restarted = subst (λ (s : State). machine.IsServed s event.Restart answer new) (sym at.sits.is_state) served in (
      slice_set sittings place after,
      rw at.found (after, (answer, new, restarted, ap (λ (n : List ℕ). rendered_whole n answer) is_name, refl), refl),
      sits_set states totals sittings most place new counted after all sits,
    ))

-- the line of a statement that leaves the state unchanged
pub line_unchanged : (sessions : ℕ) → (states : List State) (totals : List Totals) (place session : ℕ) (bytes text name out : List ℕ) (own counted : Totals)
    → Reads (length states) sessions bytes (statement place session text) → place < length states → slice_get totals place ≡ Some own → name ≡ database_name place
    → ((kept : State) → TextServed name kept own session text out kept counted) → LineServed sessions states totals bytes out states (slice_set totals place counted)
line_unchanged sessions states totals place session bytes text name out own counted reads within has is_name served =
    let at = get_within states place within in
    subst (λ (after : List State). LineServed sessions states totals bytes out after (slice_set totals place counted)) (set_same states place at.0 at.1)
    (line_of_statement sessions states totals place session bytes text name out at.0 at.0 own counted reads at.1 has is_name (served at.0))
