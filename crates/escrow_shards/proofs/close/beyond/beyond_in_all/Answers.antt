use Rattle.std.proofs.lemmas.Option.{IfSome_then}
use Rattle.escrow_shards.specs.Part.{parts_of, entries_of}
use Rattle.escrow_shards.proofs.NoPass.{none_in}
use Rattle.escrow_shards.proofs.close.beyond.beyond_in_all.Goals as goal

pub returns-in-Some-clause-some : goal.returns-in-Some-clause-some
returns-in-Some-clause-some g c =
    let said = c.in-Some.ensures.some in
    (said.0, λ none. said.1 (none_in c.in-Some.session (entries_of (parts_of c.args.database c.args.parts.now)) c.args.last.now none).0)

pub returns-clause-some : goal.returns-clause-some
returns-clause-some g c =
    IfSome_then c.beyond.result c.beyond.ensures.some (λ k said.
    (said.0, λ none. said.1 (none_in k (entries_of (parts_of c.args.database c.args.parts.now)) c.args.last.now none).1))
