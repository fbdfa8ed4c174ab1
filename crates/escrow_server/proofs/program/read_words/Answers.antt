use Rattle.std.proofs.Common.{◌≡◌, map, ap, inl, inr, ◌∙◌, arith}
use Rattle.escrow_server.specs.Args.{refused_status}
use Rattle.escrow_server.specs.declared.args.ArgFault.{ArgFault}
use Rattle.escrow_script.proofs.WrittenLemmas.{appends_none}
use Rattle.escrow_server.proofs.ProgramLemmas.{not_helped, status_refused}
use Rattle.escrow_server.proofs.program.read_words.Goals as goal

pub returns-in-Ok-clause-unasked : goal.returns-in-Ok-clause-unasked
returns-in-Ok-clause-unasked g c = λ _ _. appends_none (g.W.Write.contents c.args.output.now)

pub returns-in-Err-clause-asked : goal.returns-in-Err-clause-asked
returns-in-Err-clause-asked g c = λ args asked.
    let memory : c.in-Err.fault.status ≡ 1 = ap (λ (f : ArgFault). f.status) (c.in-Err.ensures.asked args asked) in
    elim c.refuse.ensures.status [ inl one ↦ one | inr same ↦ same ∙ memory ]

pub returns-in-Err-clause-refused : goal.returns-in-Err-clause-refused
returns-in-Err-clause-refused g c = λ none.
    status_refused c.refuse.result (refused_status (map g.S.AsStr.text c.args.words.now)) c.in-Err.fault c.refuse.ensures.status (c.in-Err.ensures.refused none)

pub returns-in-Err-clause-unasked : goal.returns-in-Err-clause-unasked
returns-in-Err-clause-unasked g c = λ args asked.
    let memory : c.in-Err.fault.status ≡ 1 = ap (λ (f : ArgFault). f.status) (c.in-Err.ensures.asked args asked) in
    c.refuse.ensures.unserved (λ helped. omega (arith, memory, helped))

pub returns-in-Err-clause-unserved : goal.returns-in-Err-clause-unserved
returns-in-Err-clause-unserved g c = λ none some.
    c.refuse.ensures.unserved (not_helped (refused_status (map g.S.AsStr.text c.args.words.now)) c.in-Err.fault (c.in-Err.ensures.refused none) some)
