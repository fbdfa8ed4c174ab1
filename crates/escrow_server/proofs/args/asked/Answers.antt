use Rattle.std.proofs.Common.{◌≡◌, ◌∙◌, ap, sym, subst, Some}
use Rattle.std.specs.Prelude.{codes}
use Rattle.clap.specs.Walk.{first_of}
use Rattle.clap.specs.Words.{found_of, rows_of}
use Rattle.clap.proofs.WalkLemmas.{first_value-rows}
use Rattle.escrow_server.specs.Args.{databases_of, mode_of, sessions_of, values_ask}
use Rattle.escrow_server.proofs.ArgsLemmas.{all_asked, no_mode, no_number, no_sessions, wrong_value}
use Rattle.escrow_server.proofs.args.asked.Goals as goal

pub returns-in_default-clause-values : goal.returns-in_default-clause-values
returns-in_default-clause-values c =
    let found = found_of c.args.matches.now in
    let name = c.get_str.ensures ∙ first_value-rows found (codes "mode") in
    wrong_value (rows_of found) c.wrong.result
    (no_mode (rows_of found) (ap mode_of (sym name) ∙ sym c.mode_of.ensures ∙ c.in_default.is)) c.wrong.ensures

pub returns-in_default-databases_of-clause-values : goal.returns-in_default-databases_of-clause-values
returns-in_default-databases_of-clause-values c =
    let found = found_of c.args.matches.now in
    let name = c.get_str.ensures ∙ first_value-rows found (codes "mode") in
    let value = c.get_str-2.ensures ∙ first_value-rows found (codes "databases") in
    wrong_value (rows_of found) c.wrong-in_default-databases_of.result
    (no_number (rows_of found) c.in-Some.mode (ap mode_of (sym name) ∙ sym c.mode_of.ensures ∙ c.in-Some.is)
    (ap databases_of (sym value) ∙ sym c.databases_of.ensures.value ∙ c.in_default-databases_of.is)) c.wrong-in_default-databases_of.ensures

pub returns-in_default-sessions_of-clause-values : goal.returns-in_default-sessions_of-clause-values
returns-in_default-sessions_of-clause-values c =
    let found = found_of c.args.matches.now in
    let name = c.get_str.ensures ∙ first_value-rows found (codes "mode") in
    let value = c.get_str-2.ensures ∙ first_value-rows found (codes "databases") in
    let wanted = c.get_str-3.ensures ∙ first_value-rows found (codes "sessions") in
    wrong_value (rows_of found) c.wrong-in_default-sessions_of.result
    (no_sessions (rows_of found) c.in-Some.mode c.in-Some-databases_of.databases (ap mode_of (sym name) ∙ sym c.mode_of.ensures ∙ c.in-Some.is)
    (ap databases_of (sym value) ∙ sym c.databases_of.ensures.value ∙ c.in-Some-databases_of.is)
    (ap (sessions_of c.in-Some.mode) (sym wanted) ∙ sym c.sessions_of.ensures ∙ c.in_default-sessions_of.is)) c.wrong-in_default-sessions_of.ensures

pub returns-in-Ok-clause-values : goal.returns-in-Ok-clause-values
returns-in-Ok-clause-values c =
    let found = found_of c.args.matches.now in
    let name = c.get_str.ensures ∙ first_value-rows found (codes "mode") in
    let value = c.get_str-2.ensures ∙ first_value-rows found (codes "databases") in
    let wanted = c.get_str-3.ensures ∙ first_value-rows found (codes "sessions") in
    let path : c.in-Ok.path ≡ first_of (codes "store") (rows_of found) = c.in-Ok.ensures ∙ c.get_str-4.ensures ∙ first_value-rows found (codes "store") in
    subst (λ p. values_ask (rows_of found) ≡ Some (record { mode = c.in-Some.mode; path = p; databases = c.in-Some-databases_of.databases; sessions = c.in-Some-sessions_of.sessions })) (sym path)
    (all_asked (rows_of found) c.in-Some.mode c.in-Some-databases_of.databases c.in-Some-sessions_of.sessions
    (ap mode_of (sym name) ∙ sym c.mode_of.ensures ∙ c.in-Some.is)
    (ap databases_of (sym value) ∙ sym c.databases_of.ensures.value ∙ c.in-Some-databases_of.is)
    (ap (sessions_of c.in-Some.mode) (sym wanted) ∙ sym c.sessions_of.ensures ∙ c.in-Some-sessions_of.is))
