use Rattle.std.proofs.Common.{sym, subst}
use Rattle.escrow_txn.specs.Sessions.{AreEmpty}
use Rattle.escrow_txn.specs.declared.journals.TheConstants.{KEPT}
use Rattle.escrow_txn.proofs.Empty.{emptied_empty}
use Rattle.escrow_txn.proofs.EachSession.{all_empty, empty_kept}
use Rattle.escrow_txn.proofs.journals.Journals.clear.Goals as goal

pub invariant_of-self : goal.invariant_of-self
invariant_of-self c =
    let first = c.empty_all.new.journals.items in
    let empty : AreEmpty KEPT first = subst (AreEmpty KEPT) (sym c.empty_all.ensures) (emptied_empty KEPT c.self.inside.first.items c.self.invariant.count c.self.invariant.numbered) in
    empty_kept first c.clear.new.self empty c.clear.ensures.empty

pub returns : goal.returns
returns c =
    let first = c.empty_all.new.journals.items in
    let empty : AreEmpty KEPT first = subst (AreEmpty KEPT) (sym c.empty_all.ensures) (emptied_empty KEPT c.self.inside.first.items c.self.invariant.count c.self.invariant.numbered) in
    all_empty first c.clear.new.self empty c.clear.ensures.empty
