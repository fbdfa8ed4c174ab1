use Rattle.std.proofs.Common.{◌≡◌, None, ap, sym, ◌∙◌, rules}
use Rattle.escrow_script.specs.Reading.{is_nothing, is_join, restart_of}
use Rattle.escrow_script.proofs.LineLemmas.{made_of_none, no_restart, restart_made, is_nothing_made, is_join_made}
use Rattle.escrow_script.proofs.line.classify_content.Goals as goal

pub returns-then-is_nothing : goal.returns-then-is_nothing
returns-then-is_nothing c =
    is_nothing_made c.args.databases c.args.sessions c.args.content.now
    (ap is_nothing (sym c.as_bytes.ensures.value) ∙ sym c.is_nothing.ensures ∙ c.if-is_nothing.true)

pub returns-then-is_join : goal.returns-then-is_join
returns-then-is_join c =
    is_join_made c.args.content.now
    (ap is_join (sym c.as_bytes-2.ensures.value) ∙ sym c.is_join.ensures ∙ c.if-is_join.true)

pub returns-in-None : goal.returns-in-None
returns-in-None c =
    let none : c.restart_of.result ≡ None = search rules in
    made_of_none c.args.databases c.args.sessions c.args.content.now
    (ap is_nothing (sym c.as_bytes.ensures.value) ∙ sym c.is_nothing.ensures ∙ c.if-is_nothing.false)
    (ap is_join (sym c.as_bytes-2.ensures.value) ∙ sym c.is_join.ensures ∙ c.if-is_join.false)
    (no_restart c.args.databases c.args.content.now c.restart_of.result c.requires
    (c.restart_of.ensures ∙ ap (restart_of c.args.databases) c.as_bytes-3.ensures.value) none)
    c.in-None.ensures.none

pub returns-in-Some : goal.returns-in-Some
returns-in-Some c =
    restart_made c.args.databases c.args.content.now c.restart_of.result c.in-Some.database
    (c.restart_of.ensures ∙ ap (restart_of c.args.databases) c.as_bytes-3.ensures.value) c.in-Some.is
