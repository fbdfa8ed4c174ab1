use Rattle.std.proofs.Common.{map}
use Rattle.clap.specs.Words.{kind_of}
use Rattle.escrow_server.specs.Args.{faults_of}
use Rattle.escrow_server.proofs.ArgsFaults.{one_fault}
use Rattle.escrow_server.proofs.ArgsLemmas.{status_among}
use Rattle.escrow_server.proofs.args.read_args.Goals as goal

pub returns-in-Err-clause-refused : goal.returns-in-Err-clause-refused
returns-in-Err-clause-refused g c none =
    status_among (faults_of (map g.S.AsStr.text c.args.words.now)) (kind_of c.in-Err.error) c.fault_of.result
    (one_fault (map g.S.AsStr.text c.args.words.now)) c.fault_of.ensures.status
    c.in-Err.ensures.kinds c.fault_of.ensures.memory
