use Rattle.std.proofs.Common.{true, false, sym, ◌∙◌}
use Rattle.escrow_core.specs.Inside.{database_of}
use Rattle.escrow_core.proofs.Dropping.{left_to_reserved}
use Rattle.escrow_core.proofs.database.Database.check_drop.Goals as goal

pub is_table_reserved-requires : goal.is_table_reserved-requires
is_table_reserved-requires g c = c.self.invariant.keeps.placed

pub returns-then-is_table_reserved-clause-early : goal.returns-then-is_table_reserved-clause-early
returns-then-is_table_reserved-clause-early g c =
    let s = (database_of c.self.inside.tables c.self.inside.reserved.txns).state in
    let closed = rw (← c.self.view_is) at (sym c.is_open.ensures ∙ c.if-is_open.false) in
    rw (← c.self.view_is) (sym (left_to_reserved s c.args.session c.args.name true closed (sym c.in-Some.ensures.there) (sym c.if-is_table_reserved.ensures)))

pub returns-clause-early : goal.returns-clause-early
returns-clause-early g c =
    let s = (database_of c.self.inside.tables c.self.inside.reserved.txns).state in
    let closed = rw (← c.self.view_is) at (sym c.is_open.ensures ∙ c.if-is_open.false) in
    rw (← c.self.view_is) (sym (left_to_reserved s c.args.session c.args.name false closed (sym c.in-Some.ensures.there) (sym c.if-is_table_reserved.ensures)))
