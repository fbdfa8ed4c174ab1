use Rattle.std.proofs.Common.{rules, ◌≡◌, ◌∙◌, ap, sym, option_map}
use Rattle.clap.specs.Walk.{byte_or_zero}
use Rattle.clap.proofs.WalkLemmas.{byte_read}
use Rattle.escrow_server.specs.Args.{allowed, databases_of}
use Rattle.escrow_server.proofs.ArgsLemmas.{above, below, within}
use Rattle.escrow_server.proofs.args.databases_of.Goals.{else-count-ge1-via-then-count-ge1+else-count-le-MAX_DATABASES, else-count-ge1-via-else-count-ge1}
use Rattle.escrow_server.proofs.args.databases_of.Goals as goal

pub returns-then-count-le-MAX_DATABASES-clause-value : goal.returns-then-count-le-MAX_DATABASES-clause-value
returns-then-count-le-MAX_DATABASES-clause-value c =
    let count = c.unwrap_or-count.result in
    let read : count ≡ byte_or_zero c.in-Some.text.now = c.unwrap_or-count.ensures ∙ byte_read c.in-Some.text.now c.parse.result c.parse.ensures.value.0 in
    let value = ap databases_of (ap (option_map (λ s. s.now)) c.in-Some.is) in
    within count c.if-count-ge1.true c.if-count-le-MAX_DATABASES.true ∙ ap allowed read ∙ sym value

pub returns-else-count-ge1-clause-value : goal.returns-else-count-ge1-clause-value
returns-else-count-ge1-clause-value c =
    let count = c.unwrap_or-count.result in
    let read : count ≡ byte_or_zero c.in-Some.text.now = c.unwrap_or-count.ensures ∙ byte_read c.in-Some.text.now c.parse.result c.parse.ensures.value.0 in
    let value = ap databases_of (ap (option_map (λ s. s.now)) c.in-Some.is) in
    elim c.else-count-ge1.branch [
      | else-count-ge1-via-then-count-ge1+else-count-le-MAX_DATABASES w ↦ above count (search rules) (search rules) ∙ ap allowed read ∙ sym value
      | else-count-ge1-via-else-count-ge1 w ↦ below count (search rules) ∙ ap allowed read ∙ sym value
    ]
