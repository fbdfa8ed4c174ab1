use Rattle.escrow_txn.proofs.EachSession.{all_empty, empty_kept}
use Rattle.escrow_txn.proofs.journals.Journals.new.Goals as goal

pub invariant_of-result : goal.invariant_of-result
invariant_of-result c = empty_kept c.in_ok-empty_journals.field-0.items c.new.result c.in_ok-empty_journals.ensures c.new.ensures.empty

pub returns : goal.returns
returns c = all_empty c.in_ok-empty_journals.field-0.items c.new.result c.in_ok-empty_journals.ensures c.new.ensures.empty
