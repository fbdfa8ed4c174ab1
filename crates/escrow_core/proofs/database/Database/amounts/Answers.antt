use Rattle.std.specs.Prelude.{option_copied}
use Rattle.std.proofs.Common.{◌∙◌, ap, sym}
use Rattle.escrow_reserved.proofs.Reading.{known_kept, read_kept}
use Rattle.escrow_core.proofs.Altering.{read_holds}
use Rattle.escrow_core.proofs.Serving.{remembered_holds}
use Rattle.escrow_core.proofs.database.Database.amounts.Goals as goal

-- the amounts are kept
pub returns-in-Some-clause-told : goal.returns-in-Some-clause-told
returns-in-Some-clause-told g c = λ u.
    let kept = c.self.inside.recent in
    let is = sym c.amounts.ensures ∙ ap option_copied c.in-Some.is in
    rw (← c.self.view_is, c.in_ok-copied.ensures) (sym (read_kept c.self.inside.tables.rows kept c.args.name.now c.in-Some.amounts.now (c.self.invariant.read (rw (← c.self.view_is) at u)) is))

pub returns-in-Some-clause-many : goal.returns-in-Some-clause-many
returns-in-Some-clause-many g c =
    let kept = c.self.inside.recent in
    let is = sym c.amounts.ensures ∙ ap option_copied c.in-Some.is in
    rw (← c.self.view_is, c.in_ok-copied.ensures) (known_kept c.self.inside.tables.catalog kept c.args.name.now c.in-Some.amounts.now c.self.invariant.known is)

-- the store was asked
pub invariant_of-self : goal.invariant_of-self
invariant_of-self g c =
    read_holds g.S.Store c.self.inside.tables c.amounts-2.new.self c.self.inside.reserved.txns c.self.inside.reserved.places c.self.inside.recent c.self.invariant c.amounts-2.ensures.reads

-- the amounts from the store are kept
pub invariant_of-self-2 : goal.invariant_of-self-2
invariant_of-self-2 g c =
    remembered_holds g.S.Store c.self.inside.tables c.amounts-2.new.self c.self.inside.reserved.txns c.self.inside.reserved.places c.self.inside.recent c.remember.new.self c.args.name.now c.in-Some-2.amounts
    c.self.invariant c.amounts-2.ensures.reads (rw c.as_slice.ensures at c.remember.ensures.only) (rw c.in-Some-2.is at c.in_ok-amounts.ensures.many) (λ clean. sym (rw c.in-Some-2.is at (c.in_ok-amounts.ensures.told clean)))
