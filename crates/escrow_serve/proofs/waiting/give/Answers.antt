use Rattle.std.proofs.Common.{◌≡◌, ◌≤◌, ◌<◌, ℕ, List, [], arith, sym, ap, subst, ◌∙◌, length, vec_len}
use Rattle.std.specs.Prelude.{slice_get, slice_set, Some}
use Rattle.escrow_reply.specs.Text.{rendered}
use Rattle.escrow_serve.proofs.GaveLemmas.{Gaves, gave_asked, gave_no_line, gave_none, gave_nothing, gave_refused}
use Rattle.std.proofs.lemmas.List.{append-nil}
use Rattle.std.proofs.lemmas.Option.{slice_get_read}
use Rattle.escrow_reply.specs.declared.short.TheConstants.{MAX_FRONT}
use Rattle.escrow_script.specs.Written.{no_line_text}
use Rattle.escrow_serve.specs.Batch.{Item, AreAsked, IsWithin}
use Rattle.escrow_serve.specs.declared.waiting.Waiting.{Waiting}
use Rattle.escrow_serve.proofs.GiveLemmas.{Gives, gives_nothing, gives_no_line, gives_refused, gives_asked, gives_none}
use Rattle.escrow_serve.proofs.RunLemmas.{asked_still}
use Rattle.escrow_serve.proofs.ServeLemmas.{name_short}
use Rattle.escrow_serve.proofs.waiting.give.Goals as goal
use Rattle.escrow_serve.proofs.waiting.give.Goals.{After-next}

pub give_short-requires-clause-front : goal.give_short-requires-clause-front
give_short-requires-clause-front c =
    let place = c.in-Refused.database in
    let within : place < vec_len c.args.parts.now = subst (λ (w : Waiting). IsWithin (vec_len c.args.parts.now) w) c.in-Refused.is c.requires.within in
    subst (λ (name : List ℕ). length name ≤ MAX_FRONT) (sym c.database_name.ensures) (name_short place (omega (arith, within, c.requires.few)))

pub give_short-requires-in-Some-clause-front : goal.give_short-requires-in-Some-clause-front
give_short-requires-in-Some-clause-front c =
    let place = c.in-Asked.database in
    let within : place < vec_len c.args.parts.now = subst (λ (w : Waiting). IsWithin (vec_len c.args.parts.now) w) c.in-Asked.is c.requires.within in
    subst (λ (name : List ℕ). length name ≤ MAX_FRONT) (sym c.database_name-in-Some.ensures) (name_short place (omega (arith, within, c.requires.few)))

pub returns-in-Nothing-clause-given : goal.returns-in-Nothing-clause-given
returns-in-Nothing-clause-given c =
    let parts = c.args.parts.now in
    let totals = c.args.totals.now.items in (
      [],
      sym (append-nil c.args.replies.now.items),
      λ sessions. subst (λ (w : Waiting). Gives sessions (vec_len parts) w totals [] totals parts.items parts.items) (sym c.in-Nothing.is) (gives_nothing sessions (vec_len parts) totals parts.items parts.ok.0),
    )

pub returns-in-NoLine-clause-given : goal.returns-in-NoLine-clause-given
returns-in-NoLine-clause-given c =
    let parts = c.args.parts.now in
    let totals = c.args.totals.now.items in (
      no_line_text,
      c.push_short_line.ensures.text,
      λ sessions. subst (λ (w : Waiting). Gives sessions (vec_len parts) w totals no_line_text totals parts.items parts.items) (sym c.in-NoLine.is) (gives_no_line sessions (vec_len parts) totals parts.items parts.ok.0),
    )

pub returns-in-Refused-clause-given : goal.returns-in-Refused-clause-given
returns-in-Refused-clause-given c =
    let parts = c.args.parts.now in
    let totals = c.args.totals.now in
    let place = c.in-Refused.database in
    let given = c.give_short.ensures.given in
    let counted = c.give_short.new.totals in (
      given.0,
      given.1,
      λ sessions. subst (λ (w : Waiting). Gives sessions (vec_len parts) w totals.items given.0 (slice_set totals.items place counted) parts.items parts.items) (sym c.in-Refused.is)
          (gives_refused sessions (vec_len parts) totals.items parts.items place c.in-Refused.session c.in-Refused.refusal c.database_name.result.now given.0 c.index_mut.result.now counted
          parts.ok.0 (sym totals.ok.0 ∙ c.requires.each) c.index_mut.ensures.value c.database_name.ensures given.2),
    )

pub returns-in-Some-clause-given : goal.returns-in-Some-clause-given
returns-in-Some-clause-given c =
    let parts = c.args.parts.now in
    let totals = c.args.totals.now in
    let place = c.in-Asked.database in
    let given = c.give_short-in-Some.ensures.given in
    let counted = c.give_short-in-Some.new.totals in
    let left = c.next.new.self in (
      given.0,
      given.1,
      λ sessions. subst (λ (w : Waiting). Gives sessions (vec_len parts) w totals.items given.0 (slice_set totals.items place counted) parts.items (slice_set parts.items place left)) (sym c.in-Asked.is)
          (gives_asked sessions (vec_len parts) totals.items parts.items place c.in-Asked.session c.database_name-in-Some.result.now given.0 c.index_mut-in-Some.result.now counted c.index_mut-in-Asked.result.now left
          c.in-Some.reply parts.ok.0 (sym totals.ok.0 ∙ c.requires.each) c.index_mut-in-Some.ensures.value c.index_mut-in-Asked.ensures.value c.in-Some.ensures.some c.database_name-in-Some.ensures given.2),
    )

-- what waits in the parts is the same
asked : (c : After-next) (items : List Item) → AreAsked c.args.parts.now.items items → AreAsked (slice_set c.args.parts.now.items c.in-Asked.database c.next.new.self) items
asked c items =
    let parts = c.args.parts.now in
    let place = c.in-Asked.database in
    let within : place < vec_len parts = subst (λ (w : Waiting). IsWithin (vec_len parts) w) c.in-Asked.is c.requires.within in
    asked_still parts.items items place c.index_mut-in-Asked.result.now c.next.new.self (slice_get_read parts.items (vec_len parts) place c.index_mut-in-Asked.result.now parts.ok.0 within c.index_mut-in-Asked.ensures.value)
    (ap (λ v. v.items) c.next.ensures.events)

pub returns-in-Some-clause-asked : goal.returns-in-Some-clause-asked
returns-in-Some-clause-asked c = asked (goal.at.returns-in-Some-clause-asked c).After-next

pub returns-in-None-clause-given : goal.returns-in-None-clause-given
returns-in-None-clause-given c =
    let parts = c.args.parts.now in
    let totals = c.args.totals.now.items in
    let place = c.in-Asked.database in
    let lefts = slice_set parts.items place c.next.new.self in (
      [],
      sym (append-nil c.args.replies.now.items),
      λ sessions. subst (λ (w : Waiting). Gives sessions (vec_len parts) w totals [] totals parts.items lefts) (sym c.in-Asked.is)
          (gives_none sessions (vec_len parts) totals totals parts.items lefts place c.in-Asked.session [] c.index_mut-in-Asked.result.now parts.ok.0 c.index_mut-in-Asked.ensures.value c.in-None.ensures.none),
    )

pub returns-in-None-clause-asked : goal.returns-in-None-clause-asked
returns-in-None-clause-asked c = asked (goal.at.returns-in-None-clause-asked c).After-next

-- WHAT WAS GIVEN

pub returns-in-Nothing-clause-gave : goal.returns-in-Nothing-clause-gave
returns-in-Nothing-clause-gave c =
    let parts = c.args.parts.now in (
      [],
      sym (append-nil c.args.replies.now.items),
      λ sessions. subst (λ (w : Waiting). Gaves sessions (vec_len parts) w [] parts.items parts.items) (sym c.in-Nothing.is) (gave_nothing sessions (vec_len parts) parts.items),
    )

pub returns-in-NoLine-clause-gave : goal.returns-in-NoLine-clause-gave
returns-in-NoLine-clause-gave c =
    let parts = c.args.parts.now in (
      no_line_text,
      c.push_short_line.ensures.text,
      λ sessions. subst (λ (w : Waiting). Gaves sessions (vec_len parts) w no_line_text parts.items parts.items) (sym c.in-NoLine.is) (gave_no_line sessions (vec_len parts) parts.items),
    )

pub returns-in-Refused-clause-gave : goal.returns-in-Refused-clause-gave
returns-in-Refused-clause-gave c =
    let parts = c.args.parts.now in
    let at = c.in-Refused in
    let shown = c.give_short.ensures.shown in
    let name = c.database_name.result.now in
    let out = rendered name at.session shown.0 in (
      out,
      shown.1,
      λ sessions. subst (λ (w : Waiting). Gaves sessions (vec_len parts) w out parts.items parts.items) (sym at.is)
          (gave_refused sessions (vec_len parts) parts.items at.database at.session at.refusal name shown.0 c.database_name.ensures shown.2),
    )

-- the part of the database is there
found : (c : After-next) → slice_get c.args.parts.now.items c.in-Asked.database ≡ Some c.index_mut-in-Asked.result.now
found c =
    let parts = c.args.parts.now in
    let within : c.in-Asked.database < vec_len parts = subst (λ (w : Waiting). IsWithin (vec_len parts) w) c.in-Asked.is c.requires.within in
    slice_get_read parts.items (vec_len parts) c.in-Asked.database c.index_mut-in-Asked.result.now parts.ok.0 within c.index_mut-in-Asked.ensures.value

pub returns-in-Some-clause-gave : goal.returns-in-Some-clause-gave
returns-in-Some-clause-gave c =
    let parts = c.args.parts.now in
    let at = c.in-Asked in
    let shown = c.give_short-in-Some.ensures.shown in
    let name = c.database_name-in-Some.result.now in
    let left = c.next.new.self in
    let out = rendered name at.session shown.0 in (
      out,
      shown.1,
      λ sessions. subst (λ (w : Waiting). Gaves sessions (vec_len parts) w out parts.items (slice_set parts.items at.database left)) (sym at.is)
          (gave_asked sessions (vec_len parts) parts.items at.database at.session name c.index_mut-in-Asked.result.now left c.in-Some.reply shown.0 (found (goal.at.returns-in-Some-clause-gave c).After-next)
          c.in-Some.ensures.some c.database_name-in-Some.ensures shown.2),
    )

pub returns-in-None-clause-gave : goal.returns-in-None-clause-gave
returns-in-None-clause-gave c =
    let parts = c.args.parts.now in
    let at = c.in-Asked in
    let lefts = slice_set parts.items at.database c.next.new.self in (
      [],
      sym (append-nil c.args.replies.now.items),
      λ sessions. subst (λ (w : Waiting). Gaves sessions (vec_len parts) w [] parts.items lefts) (sym at.is)
          (gave_none sessions (vec_len parts) parts.items lefts at.database at.session [] c.index_mut-in-Asked.result.now (found (goal.at.returns-in-None-clause-gave c).After-next) c.in-None.ensures.none),
    )
