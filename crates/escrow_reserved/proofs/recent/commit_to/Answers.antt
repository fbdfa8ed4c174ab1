use Rattle.escrow_reserved.proofs.recent.commit_to.Goals as goal

pub commit_amounts-requires : goal.commit_amounts-requires
commit_amounts-requires c = rw c.from_ref.ensures.value (c.requires, tt)

pub returns : goal.returns
returns c = rw c.from_ref.ensures.value at c.commit_amounts.ensures
