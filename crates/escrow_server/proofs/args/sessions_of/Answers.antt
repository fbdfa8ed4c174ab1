use Rattle.std.proofs.Common.{◌≡◌, ◌∙◌, ap, ap₂, sym, option_map}
use Rattle.escrow_server.specs.Args.{number_or_zero, sessions_of, some_sessions}
use Rattle.escrow_server.proofs.ArgsLemmas.{number_read}
use Rattle.escrow_server.proofs.args.sessions_of.Goals as goal

pub returns-in-Serve : goal.returns-in-Serve
returns-in-Serve c =
    let read : c.unwrap_or.result ≡ number_or_zero c.in-Some.text.now = c.unwrap_or.ensures ∙ number_read c.in-Some.text.now c.parse.result c.parse.ensures.value.0 in
    let value = ap (option_map (λ s. s.now)) c.in-Some.is in
    c.some_sessions.ensures ∙ ap some_sessions read ∙ sym (ap₂ sessions_of c.in-Serve.is value)
