use Rattle.std.proofs.Common.{[], ◌∙◌, refl, rules}
use Rattle.sqlite_value.specs.declared.value.Value.TheVariants.{Int}
use Rattle.escrow_cells.specs.Step.{kept}
use Rattle.escrow_cells.proofs.Inside.{bound_kept}
use Rattle.escrow_cells.proofs.Reading.{place_counted}
use Rattle.escrow_cells.proofs.ReadTexts.{selecting, place_select}
use Rattle.escrow_cells.proofs.read.count_cells.Goals as goal

pub read_each-requires : goal.read_each-requires
read_each-requires g c = selecting place_select

pub returns-clause-count : goal.returns-clause-count
returns-clause-count g c clean store =
    let counted = c.in_ok-read_each.ensures.taken clean store.tables (record { rows = 0 }) [] refl in
    counted.2 ∙ place_counted (Int c.args.table) (kept c.args.key) (Int c.args.place) _ _ _ counted.0 counted.1 (search (rules, bound_kept)) store
