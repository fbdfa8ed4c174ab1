use Rattle.std.proofs.Common.{◌≡◌, ap, length, ◌∙◌, rules}
use Rattle.escrow_schema.specs.Fit.{amounts_of}
use Rattle.escrow_schema.proofs.FitLemmas.{as_many_amounts}
use Rattle.escrow_rows.proofs.keyed_row.KeyedRow.amounts.Goals as goal

pub returns-clause-many : goal.returns-clause-many
returns-clause-many c =
    let columns = c.args.columns.now in
    let values = c.args.self.now.values in
    let is : c.from_vec.result ≡ amounts_of columns values = search rules in
    let long : length columns ≡ length values = search rules in
    ap length is ∙ as_many_amounts columns values long
