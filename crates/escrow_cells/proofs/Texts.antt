use Rattle.std.proofs.Common.{◌≡◌, Ok, refl}
use Rattle.sqlite_resolve.specs.Compile.{table_defined_by}
use Rattle.sqlite_tied.specs.Compute.{everything}
use Rattle.escrow_cells.specs.Tables.{meta, meta_text, tab, tab_text, cell, cell_text}

pub meta_is : table_defined_by meta_text ≡ Ok meta
unfolding everything
meta_is = refl

pub tab_is : table_defined_by tab_text ≡ Ok (record tab { tree = 0 })
unfolding everything
tab_is = refl

pub cell_is : table_defined_by cell_text ≡ Ok (record cell { tree = 0 })
unfolding everything
cell_is = refl
