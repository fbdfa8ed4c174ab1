use Rattle.escrow_script.specs.declared.limits.TheConstants.{MAX_STREAM}
use Rattle.escrow_serve.specs.Output.{states_of}
use Rattle.escrow_serve.proofs.ServeLemmas.{all_of}
use Rattle.escrow_serve.proofs.serve.serve_lines.Goals as goal

pub returns-clause-output : goal.returns-clause-output
returns-clause-output g c = λ used.
    all_of c.args.sessions c.serve_from-served.result MAX_STREAM (g.C.Client.remaining c.args.client.now) (states_of c.args.databases.now.items) (states_of c.serve_from-served.new.databases.items)
    (g.C.Client.sent c.args.client.now) (g.C.Client.sent c.serve_from-served.new.client) (c.serve_from-served.ensures.output used)
