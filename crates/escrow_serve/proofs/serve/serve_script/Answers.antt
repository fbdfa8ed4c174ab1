use Rattle.escrow_num.specs.declared.session.TheConstants.Session.{MAX_SHARED}
use Rattle.escrow_serve.specs.Output.{states_of}
use Rattle.escrow_serve.proofs.ServeLemmas.{whole_of}
use Rattle.escrow_serve.proofs.serve.serve_script.Goals as goal

pub returns-clause-output : goal.returns-clause-output
returns-clause-output g c = λ used.
    whole_of MAX_SHARED c.serve_from-served.result (g.C.Client.remaining c.args.client.now) (states_of c.args.databases.now.items) (states_of c.serve_from-served.new.databases.items)
    (g.C.Client.sent c.args.client.now) (g.C.Client.sent c.serve_from-served.new.client) (c.serve_from-served.ensures.output used)
