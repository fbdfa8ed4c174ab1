-- Believed: the numbers of the formats of stores.
use Rattle.std.specs.Prelude.{ℤ}
use Rattle.escrow_cells.specs.declared.formats.Format.{Format}
use Rattle.escrow_cells.specs.declared.formats.Format.TheVariants.{V1, Known}
use Rattle.escrow_cells.specs.declared.formats.TheConstants.{FORMAT, FORMAT_1}

-- the number of a format, as META has it
abbrev pub format_number : Format → ℤ
format_number V1 = FORMAT_1
format_number Known = FORMAT
