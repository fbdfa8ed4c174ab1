use Rattle.escrow_server.specs.Opened.{IsOpened}
use Rattle.escrow_serve.specs.Output.{states_of}
use Rattle.escrow_memory.specs.Store.{over_blocks}
use Rattle.escrow_server.proofs.FoundLemmas.{opened_empty}
use Rattle.escrow_server.proofs.ProgramLemmas.{ends_in_memory}
use Rattle.escrow_memory.proofs.Clean.{memory_is_clean}
use Rattle.escrow_server.proofs.program.at_once_in_memory.Goals as goal

pub returns-clause-memory : goal.returns-clause-memory
returns-clause-memory g c =
    let count = c.args.args.now.databases in
    let opened = c.open_in_memory-opened.result in
    let old = c.open_in_memory-opened.new.databases.items in
    let new = c.serve_at_once-served.new.databases.items in
    let served = c.serve_at_once-served.ensures in
    ends_in_memory c.args.args.now.mode c.args.args.now.sessions c.serve_at_once-served.result c.status_in_memory.result count (IsOpened over_blocks opened old) (states_of new)
    (g.R.Read.remaining c.args.client.now.reader) (g.R.Read.remaining c.serve_at_once-served.new.client.reader) (g.W.Write.contents c.args.client.now.writer) (g.W.Write.contents c.serve_at_once-served.new.client.writer)
    (opened_empty over_blocks opened old count c.open_in_memory-opened.ensures.found) c.status_in_memory.ensures.ok c.status_in_memory.ensures.err
    (λ run. absurd (let free = c.requires.mode in cc)) (λ run. absurd (let free = c.requires.mode in cc)) (λ serve. absurd (let free = c.requires.mode in cc))
    (λ serve. absurd (let free = c.requires.mode in cc)) (λ _. served.free memory_is_clean) served.unopened
