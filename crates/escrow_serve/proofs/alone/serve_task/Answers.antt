use Rattle.std.proofs.Common.{◌≡◌, ◌≤◌, ◌<◌, ◌∷◌, ℕ, List, [], length, arith, rules, refl, subst, ◌∙◌, sym, ap, ap₂, inl, inr, vec_len}
use Rattle.std.proofs.lemmas.List.{append-nil, length-map}
use Rattle.std.proofs.lemmas.Option.{slice_get_read}
use Rattle.sqlite.specs.Held.{state}
use Rattle.sqlite.specs.State.{HasCleanDisk}
use Rattle.escrow_reply.specs.Text.{rendered, rendered_whole}
use Rattle.escrow_reply.specs.declared.short.TheConstants.{MAX_FRONT}
use Rattle.escrow_script.specs.Line.{Reads, database_name, no_line, restart, statement}
use Rattle.escrow_script.specs.declared.limits.TheConstants.{MAX_DATABASES}
use Rattle.escrow_script.specs.Written.{no_line_text}
use Rattle.escrow_script.proofs.LineLemmas.{names_one, restarts_one}
use Rattle.escrow_serve.specs.Output.{state_in, states_of}
use Rattle.escrow_serve.specs.Task.{IsTask}
use Rattle.escrow_serve.specs.declared.task.Task.{Task}
use Rattle.escrow_serve.specs.declared.task.Task.TheVariants as task
use Rattle.escrow_serve.proofs.Elements.{all_after, all_back}
use Rattle.escrow_serve.proofs.GiveLemmas.{refused_line}
use Rattle.escrow_serve.proofs.ServeLemmas.{name_short, nothing_served, restarts_place, serves_place}
use Rattle.escrow_serve.proofs.TotalsLemmas.{line_of_none, line_unchanged}
use Rattle.escrow_num.specs.declared.refusal.Refusal.{Refusal}
use Rattle.escrow_num.specs.declared.refusal.Refusal.TheVariants as refusal
use Rattle.escrow_sql.specs.declared.fault.ParseFault.TheVariants as parse_fault
use Rattle.escrow_machine.specs.declared.event.Event.TheVariants as event
use Rattle.escrow_machine.specs.declared.reply.Reply.{Reply}
use Rattle.escrow_machine.specs.declared.reply.Reply.TheVariants as reply
use Rattle.escrow_stats.specs.Text.{rendered_totals}
use Rattle.escrow_serve.proofs.LineRanLemmas.{each_none, each_one, nothing_ran}
use Rattle.escrow_serve.proofs.ShownLemmas.{shown_refusal}
use Rattle.escrow_serve.proofs.alone.serve_task.Goals as goal

-- a task among this many databases
among : (sessions databases others : ℕ) (bytes : List ℕ) (asked is : Task) → databases ≡ others → asked ≡ is → IsTask sessions databases bytes asked → IsTask sessions others bytes is
among sessions databases others bytes asked is same found holds = subst (λ (n : ℕ). IsTask sessions n bytes is) same (subst (λ (t : Task). IsTask sessions databases bytes t) found holds)

-- the name of one of the databases is short
front_fits : (databases place : ℕ) (name : List ℕ) → name ≡ database_name place → databases ≤ MAX_DATABASES → place < databases → length name ≤ MAX_FRONT
front_fits databases place name is few within = subst (λ (name : List ℕ). length name ≤ MAX_FRONT) (sym is) (name_short place (omega (arith, within, few)))

pub push_short_whole-requires-clause-front : goal.push_short_whole-requires-clause-front
push_short_whole-requires-clause-front g c =
    let count = vec_len c.args.databases.now in
    let place = c.in-Restart.database in
    let asked = c.requires.asked in
    let reads = among asked.0 count count asked.1 c.args.task (task.Restart place) refl c.in-Restart.is asked.2 in
    front_fits count place c.database_name.result.now c.database_name.ensures c.requires.few (restarts_one count asked.0 asked.1 place reads)

pub give_short-requires-clause-front : goal.give_short-requires-clause-front
give_short-requires-clause-front g c =
    let count = vec_len c.args.databases.now in
    let at = c.in-Refuse in
    let is = among c.requires.asked.0 count count c.requires.asked.1 c.args.task (task.Refuse at.database at.session at.refusal) refl at.is c.requires.asked.2 in
    front_fits count at.database c.database_name-name.result.now c.database_name-name.ensures c.requires.few (names_one count c.requires.asked.0 c.requires.asked.1 at.database at.session is.0 is.2)

pub serve_statement-requires-clause-front : goal.serve_statement-requires-clause-front
serve_statement-requires-clause-front g c =
    let count = vec_len c.args.databases.now in
    let at = c.in-Statement in
    let is = among c.requires.asked.0 count count c.requires.asked.1 c.args.task (task.Statement at.database at.session at.statement) refl at.is c.requires.asked.2 in
    let name = c.database_name-name-in-Statement in
    front_fits count at.database name.result.now name.ensures c.requires.few (names_one count c.requires.asked.0 c.requires.asked.1 at.database at.session is.0 is.1)

pub show_totals-requires-clause-front : goal.show_totals-requires-clause-front
show_totals-requires-clause-front g c =
    let count = vec_len c.args.databases.now in
    let at = c.in-Statistics in
    let is = among c.requires.asked.0 count count c.requires.asked.1 c.args.task (task.Statistics at.database at.session) refl at.is c.requires.asked.2 in
    let name = c.database_name-name-in-Statistics in
    front_fits count at.database name.result.now name.ensures c.requires.few (names_one count c.requires.asked.0 c.requires.asked.1 at.database at.session is.0 is.1)

pub returns-in-Nothing-clause-served : goal.returns-in-Nothing-clause-served
returns-in-Nothing-clause-served g c =
    let databases = c.args.databases.now in (
      [],
      sym (append-nil c.args.replies.now.items),
      λ used sessions bytes is. nothing_served sessions (states_of databases.items) c.args.totals.now.items bytes
          (among sessions (vec_len databases) (length (states_of databases.items)) bytes c.args.task task.Nothing (databases.ok.0 ∙ sym (length-map databases.items state_in)) c.in-Nothing.is is),
    )

pub returns-in-NoLine-clause-served : goal.returns-in-NoLine-clause-served
returns-in-NoLine-clause-served g c =
    let databases = c.args.databases.now in (
      no_line_text,
      c.push_short_line.ensures.text,
      λ used sessions bytes is. line_of_none sessions (states_of databases.items) c.args.totals.now.items bytes no_line_text no_line
          (among sessions (vec_len databases) (length (states_of databases.items)) bytes c.args.task task.NoLine (databases.ok.0 ∙ sym (length-map databases.items state_in)) c.in-NoLine.is is)
          (λ sittings. (refl, refl)),
    )

pub returns-in-Restart-clause-served : goal.returns-in-Restart-clause-served
returns-in-Restart-clause-served g c =
    let databases = c.args.databases.now in
    let each : length c.args.totals.now.items ≡ length databases.items = search rules in
    let place = c.in-Restart.database in
    let after = c.restart-reply.new.database in (
      rendered_whole c.database_name.result.now c.restart-reply.result,
      c.push_short_whole.ensures,
      λ used sessions bytes is.
          let reads = among sessions (vec_len databases) (length databases.items) bytes c.args.task (task.Restart place) databases.ok.0 c.in-Restart.is is in
          let clean = all_after (λ d. HasCleanDisk (state g.S.Store d.store)) databases.items place after (restarts_one (length databases.items) sessions bytes place reads) used in
          restarts_place sessions databases.items c.args.totals.now.items place bytes c.database_name.result.now c.restart-reply.result c.index_mut.result.now after
          c.index_mut-in-Restart.result.now c.restart-reply.new.totals reads c.index_mut.ensures.value c.index_mut-in-Restart.ensures.value each c.database_name.ensures
          (c.restart-reply.ensures.served clean) c.restart-reply.ensures.totals,
    )

pub returns-in-Restart-clause-clean : goal.returns-in-Restart-clause-clean
returns-in-Restart-clause-clean g c = λ used.
    let databases = c.args.databases.now in
    let place = c.in-Restart.database in
    let asked = c.requires.asked in
    let within = restarts_one (length databases.items) asked.0 asked.1 place (among asked.0 (vec_len databases) (length databases.items) asked.1 c.args.task (task.Restart place) databases.ok.0 c.in-Restart.is asked.2) in
    all_back (λ d. HasCleanDisk (state g.S.Store d.store)) databases.items place c.index_mut.result.now c.restart-reply.new.database within c.index_mut.ensures.value c.restart-reply.ensures.clean used

pub returns-in-Refuse-clause-served : goal.returns-in-Refuse-clause-served
returns-in-Refuse-clause-served g c =
    let databases = c.args.databases.now in
    let totals = c.args.totals.now in
    let place = c.in-Refuse.database in
    let refused = task.Refuse place c.in-Refuse.session c.in-Refuse.refusal in
    let given = c.give_short.ensures.given in (
      given.0,
      given.1,
      λ used sessions bytes is. refused_line sessions (vec_len databases) (states_of databases.items) totals.items place c.in-Refuse.session c.in-Refuse.refusal bytes c.database_name-name.result.now given.0
          c.index_mut-in-Refuse.result.now c.give_short.new.totals (databases.ok.0 ∙ sym (length-map databases.items state_in)) (sym totals.ok.0 ∙ c.requires.each) c.index_mut-in-Refuse.ensures.value
          c.database_name-name.ensures given.2 (among sessions (vec_len databases) (vec_len databases) bytes c.args.task refused refl c.in-Refuse.is is),
    )

pub returns-in-Statement-clause-served : goal.returns-in-Statement-clause-served
returns-in-Statement-clause-served g c =
    let databases = c.args.databases.now in
    let each : length c.args.totals.now.items ≡ length databases.items = search rules in
    let place = c.in-Statement.database in
    let session = c.in-Statement.session in
    let asked = task.Statement place session c.in-Statement.statement in
    let after = c.serve_statement.new.database in
    let served = c.serve_statement.ensures.served in (
      served.0,
      served.1,
      λ used sessions bytes is.
          let reads = among sessions (vec_len databases) (length databases.items) bytes c.args.task asked databases.ok.0 c.in-Statement.is is in
          let clean = all_after (λ d. HasCleanDisk (state g.S.Store d.store)) databases.items place after (names_one (length databases.items) sessions bytes place session reads.0 reads.1) used in
          serves_place sessions databases.items c.args.totals.now.items place session bytes reads.0 c.database_name-name-in-Statement.result.now served.0
          c.index_mut-in-Statement.result.now after c.index_mut-totals.result.now c.serve_statement.new.totals reads.1 c.index_mut-in-Statement.ensures.value c.index_mut-totals.ensures.value each
          c.database_name-name-in-Statement.ensures (served.2 clean reads.0 reads.2),
    )

pub returns-in-Statement-clause-clean : goal.returns-in-Statement-clause-clean
returns-in-Statement-clause-clean g c = λ used.
    let databases = c.args.databases.now in
    let place = c.in-Statement.database in
    let session = c.in-Statement.session in
    let asked = c.requires.asked in
    let reads = among asked.0 (vec_len databases) (length databases.items) asked.1 c.args.task (task.Statement place session c.in-Statement.statement) databases.ok.0 c.in-Statement.is asked.2 in
    let within = names_one (length databases.items) asked.0 asked.1 place session reads.0 reads.1 in
    all_back (λ d. HasCleanDisk (state g.S.Store d.store)) databases.items place c.index_mut-in-Statement.result.now c.serve_statement.new.database within c.index_mut-in-Statement.ensures.value c.serve_statement.ensures.clean used

pub returns-in-Statistics-clause-served : goal.returns-in-Statistics-clause-served
returns-in-Statistics-clause-served g c =
    let databases = c.args.databases.now in
    let totals = c.args.totals.now in
    let place = c.in-Statistics.database in
    let session = c.in-Statistics.session in
    let count = databases.ok.0 ∙ sym (length-map databases.items state_in) in
    let served = c.show_totals.ensures.served in (
      served.0,
      served.1,
      λ used sessions bytes is.
          let reads = among sessions (vec_len databases) (vec_len databases) bytes c.args.task (task.Statistics place session) refl c.in-Statistics.is is in
          let within = names_one (vec_len databases) sessions bytes place session reads.0 reads.1 in
          line_unchanged sessions (states_of databases.items) totals.items place session bytes reads.0 c.database_name-name-in-Statistics.result.now served.0 c.index_mut-in-Statistics.result.now c.show_totals.new.totals
          (subst (λ (n : ℕ). Reads n sessions bytes (statement place session reads.0)) count reads.1) (omega (arith, within, count))
          (slice_get_read totals.items (vec_len databases) place c.index_mut-in-Statistics.result.now (sym (sym totals.ok.0 ∙ c.requires.each)) within c.index_mut-in-Statistics.ensures.value)
          c.database_name-name-in-Statistics.ensures (λ kept. served.2 kept reads.0 reads.2),
    )

-- WHAT THE DATABASES DID

pub returns-in-Nothing-clause-ran : goal.returns-in-Nothing-clause-ran
returns-in-Nothing-clause-ran g c =
    let databases = c.args.databases.now in (
      [],
      sym (append-nil c.args.replies.now.items),
      λ sessions bytes is. nothing_ran g.S.Store sessions databases.items bytes (among sessions (vec_len databases) (length databases.items) bytes c.args.task task.Nothing databases.ok.0 c.in-Nothing.is is),
    )

pub returns-in-NoLine-clause-ran : goal.returns-in-NoLine-clause-ran
returns-in-NoLine-clause-ran g c =
    let databases = c.args.databases.now in (
      no_line_text,
      c.push_short_line.ensures.text,
      λ sessions bytes is. (
        no_line,
        among sessions (vec_len databases) (length databases.items) bytes c.args.task task.NoLine databases.ok.0 c.in-NoLine.is is,
        [],
        (refl, refl),
        each_none g.S.Store databases.items,
      ),
    )

pub returns-in-Restart-clause-ran : goal.returns-in-Restart-clause-ran
returns-in-Restart-clause-ran g c =
    let databases = c.args.databases.now in
    let place = c.in-Restart.database in
    let answer = c.restart-reply.result in
    let old = c.index_mut.result.now in (
      rendered_whole c.database_name.result.now answer,
      c.push_short_whole.ensures,
      λ sessions bytes is.
          let reads = among sessions (vec_len databases) (length databases.items) bytes c.args.task (task.Restart place) databases.ok.0 c.in-Restart.is is in
          let within = restarts_one (length databases.items) sessions bytes place reads in
          let found = slice_get_read databases.items (length databases.items) place old refl within c.index_mut.ensures.value in (
            restart place,
            reads,
            record { place = place; happened = event.Restart; answer = answer } ∷ [],
            (answer, refl, ap (λ (name : List ℕ). rendered_whole name answer) c.database_name.ensures),
            each_one g.S.Store databases.items place event.Restart answer old c.restart-reply.new.database found c.restart-reply.ensures.ran,
          ),
    )

pub returns-in-Refuse-clause-ran : goal.returns-in-Refuse-clause-ran
returns-in-Refuse-clause-ran g c =
    let databases = c.args.databases.now in
    let at = c.in-Refuse in
    let shown = c.give_short.ensures.shown in
    let name = c.database_name-name.result.now in (
      rendered name at.session shown.0,
      shown.1,
      λ sessions bytes is.
          let asked = among sessions (vec_len databases) (length databases.items) bytes c.args.task (task.Refuse at.database at.session at.refusal) databases.ok.0 at.is is in
          let given : shown.0 ≡ reply.Refused at.refusal = shown_refusal at.refusal shown.0 shown.2 in (
            statement at.database at.session asked.0,
            asked.2,
            [],
            inr (inl (asked.1, asked.3, refl, ap₂ (λ (n : List ℕ) (r : Reply). rendered n at.session r) c.database_name-name.ensures (given ∙ ap (λ (r : Refusal). reply.Refused r) asked.4))),
            each_none g.S.Store databases.items,
          ),
    )

pub returns-in-Statement-clause-ran : goal.returns-in-Statement-clause-ran
returns-in-Statement-clause-ran g c =
    let databases = c.args.databases.now in
    let at = c.in-Statement in
    let ran = c.serve_statement.ensures.ran in
    let name = c.database_name-name-in-Statement.result.now in
    let old = c.index_mut-in-Statement.result.now in (
      rendered name at.session ran.0,
      ran.1,
      λ sessions bytes is.
          let reads = among sessions (vec_len databases) (length databases.items) bytes c.args.task (task.Statement at.database at.session at.statement) databases.ok.0 at.is is in
          let within = names_one (length databases.items) sessions bytes at.database at.session reads.0 reads.1 in
          let found = slice_get_read databases.items (length databases.items) at.database old refl within c.index_mut-in-Statement.ensures.value in (
            statement at.database at.session reads.0,
            reads.1,
            record { place = at.database; happened = event.Statement at.session at.statement; answer = ran.0 } ∷ [],
            inl (at.statement, ran.0, reads.2, refl, ap (λ (n : List ℕ). rendered n at.session ran.0) c.database_name-name-in-Statement.ensures),
            each_one g.S.Store databases.items at.database (event.Statement at.session at.statement) ran.0 old c.serve_statement.new.database found ran.2,
          ),
    )

pub returns-in-Statistics-clause-ran : goal.returns-in-Statistics-clause-ran
returns-in-Statistics-clause-ran g c =
    let databases = c.args.databases.now in
    let at = c.in-Statistics in
    let name = c.database_name-name-in-Statistics in
    let reads = λ (sessions : ℕ) (bytes : List ℕ) (is : IsTask sessions (vec_len databases) bytes c.args.task).
    among sessions (vec_len databases) (length databases.items) bytes c.args.task (task.Statistics at.database at.session) databases.ok.0 at.is is in
    elim c.show_totals.ensures.shown [
      | inl totals ↦ (
        rendered_totals name.result.now at.session totals.0,
        totals.1,
        λ sessions bytes is. let asked = reads sessions bytes is in (
          statement at.database at.session asked.0,
          asked.1,
          [],
          inr (inr (totals.0, asked.2, refl, ap (λ (n : List ℕ). rendered_totals n at.session totals.0) name.ensures)),
          each_none g.S.Store databases.items,
        ),
      )
      | inr refused ↦ (
        rendered name.result.now at.session (reply.Refused refusal.Memory),
        refused,
        λ sessions bytes is. let asked = reads sessions bytes is in (
          statement at.database at.session asked.0,
          asked.1,
          [],
          inr (inl (parse_fault.Memory, tt, refl, ap (λ (n : List ℕ). rendered n at.session (reply.Refused refusal.Memory)) name.ensures)),
          each_none g.S.Store databases.items,
        ),
      )
    ]
