-- A row is inserted among the rows in their order.
use Rattle.std.specs.Prelude.{◌≡◌, cond, List, [], ◌∷◌}
use Rattle.std.proofs.Common.{ap, refl}
use Rattle.escrow_num.specs.declared.row.Row.{Row}
use Rattle.escrow_num.proofs.Put.{put}
use Rattle.escrow_schema.specs.Rows.{with_row, row_before}

pub with_row_put : (row : Row) (rows : List Row) → with_row row rows ≡ put row_before row rows
with_row_put row [] = refl
with_row_put row (other ∷ rest) = ap (λ zs. cond (row_before row other) (row ∷ other ∷ rest) (other ∷ zs)) (with_row_put row rest)
