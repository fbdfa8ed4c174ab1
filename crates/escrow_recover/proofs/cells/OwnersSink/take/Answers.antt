use Rattle.std.proofs.Common.{rules, sym, ap, ◌∙◌, w64}
use Rattle.std.proofs.lemmas.Int.{to_z-of_z}
use Rattle.escrow_recover.specs.Inside.{is_number_of}
use Rattle.escrow_recover.proofs.Owners.{still_known}
use Rattle.escrow_recover.proofs.cells.OwnersSink.take.Goals as goal

pub returns-else-not-has_number : goal.returns-else-not-has_number
returns-else-not-has_number c =
    let number = to_z-of_z w64 c.in-Ok.id (search rules) in
    λ first rows so_far.
    still_known first c.args.self.now rows c.args.row.now c.in-Ok.id c.in-Ok.ensures.ok.1
    (ap (is_number_of c.args.self.now.tables.now) (sym number) ∙ sym c.has_number.ensures ∙ c.if-not-has_number.false) so_far
