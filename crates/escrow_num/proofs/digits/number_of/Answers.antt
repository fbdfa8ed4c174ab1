use Rattle.escrow_num.proofs.DigitLemmas.{grown-past, grown-whole, read-number}
use Rattle.escrow_num.proofs.digits.number_of.Goals as goal

pub returns-in_err-whole : goal.returns-in_err-whole
returns-in_err-whole c = rw c.from_residual.ensures (grown-past c.args.front.now c.args.behind.now c.in_err-whole.ensures)

pub returns-in_err-number : goal.returns-in_err-number
returns-in_err-number c =
    rw c.from_residual-in_err-number.ensures (grown-whole c.args.front.now c.args.behind.now c.in_ok-whole.whole c.in_ok-whole.ensures.1 c.in_err-number.ensures)

pub returns : goal.returns
returns c =
    read-number c.args.front.now c.args.behind.now c.in_ok-whole.whole c.in_ok-number.number c.new.result c.in_ok-whole.ensures.1 c.in_ok-number.ensures c.new.ensures
