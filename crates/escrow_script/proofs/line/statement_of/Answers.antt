use Rattle.std.proofs.Common.{ap, ◌∙◌}
use Rattle.escrow_script.specs.Reading.{database_place}
use Rattle.escrow_script.proofs.LineLemmas.{at_none, no_point, no_colon, no_name, no_number, no_place, this_place, statement_found}
use Rattle.escrow_script.proofs.line.statement_of.Goals as goal

pub returns-in_err-name-clause-none : goal.returns-in_err-name-clause-none
returns-in_err-name-clause-none c =
    at_none _ c.from_residual.result c.from_residual.ensures
    (no_point c.args.databases c.args.sessions c.args.content.now c.split_once.result c.requires c.split_once.ensures.cases c.in_err-name.was)

pub returns-in_err-number-clause-none : goal.returns-in_err-number-clause-none
returns-in_err-number-clause-none c =
    at_none _ c.from_residual-in_err-number.result c.from_residual-in_err-number.ensures
    (no_colon c.args.databases c.args.sessions c.args.content.now c.split_once.result c.split_once-2.result (c.in_ok-name.name, c.in_ok-name.rest) c.requires
    c.split_once.ensures.cases c.in_ok-name.was c.split_once-2.ensures.cases c.in_err-number.was)

pub returns-in_err-database-clause-none : goal.returns-in_err-database-clause-none
returns-in_err-database-clause-none c =
    at_none _ c.from_residual-in_err-database.result c.from_residual-in_err-database.ensures
    (no_name c.args.databases c.args.sessions c.args.content.now c.split_once.result (c.in_ok-name.name, c.in_ok-name.rest) c.requires
    c.split_once.ensures.cases c.in_ok-name.was
    (no_place c.args.databases c.in_ok-name.name.now c.database_place.result (c.database_place.ensures ∙ ap (database_place c.args.databases) c.as_bytes.ensures.value) c.in_err-database.was))

pub returns-in_err-session-clause-none : goal.returns-in_err-session-clause-none
returns-in_err-session-clause-none c =
    at_none _ c.from_residual-in_err-session.result c.from_residual-in_err-session.ensures
    (no_number c.args.databases c.args.sessions c.args.content.now c.split_once.result c.split_once-2.result (c.in_ok-name.name, c.in_ok-name.rest) (c.in_ok-number.number, c.in_ok-number.text) c.requires
    c.split_once.ensures.cases c.in_ok-name.was c.split_once-2.ensures.cases c.in_ok-number.was c.in_err-session.ensures.none)

pub returns-clause-some : goal.returns-clause-some
returns-clause-some c =
    statement_found c.args.databases c.args.sessions c.args.content.now c.split_once.result c.split_once-2.result (c.in_ok-name.name, c.in_ok-name.rest) (c.in_ok-number.number, c.in_ok-number.text)
    c.in_ok-database.database c.in_ok-session.session
    c.split_once.ensures.cases c.in_ok-name.was c.split_once-2.ensures.cases c.in_ok-number.was
    (this_place c.args.databases c.in_ok-name.name.now c.database_place.result c.in_ok-database.database (c.database_place.ensures ∙ ap (database_place c.args.databases) c.as_bytes.ensures.value) c.in_ok-database.was)
    c.in_ok-session.ensures.some
