use Rattle.escrow_num.proofs.ReadLemmas.{read-spelled}
use Rattle.escrow_num.proofs.amount.Amount.read.Goals as goal

pub returns : goal.returns
returns c = read-spelled c.args.text.now c.parse.result c.and_then.result c.parse.ensures.value.0 (rw c.ok.ensures.value at c.and_then.ensures)
