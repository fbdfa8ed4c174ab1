-- One token of lookahead is enough for the whole grammar, as it is read.
use Rattle.std.proofs.Common.{◌≡◌, true, refl}
use Rattle.escrow_sql.specs.Predictive.{is_predictive}
use Rattle.escrow_sql.specs.Statement.{number, sign, signed_number, literal, where_part, change, assigned, assign, update, columns, insert, row, delete, select, comparison, term, signed_term, sum, test_part, condition, constraint, check, mark, size, digits, type_text, column, item, create, drop, table_change, alter, table_statement, row_statement, work, back, ending}
use Rattle.escrow_sql.specs.Factored.{factored_show, factored_body, factored_request}

pub factored-is_predictive : is_predictive factored_request ≡ true
unfolding number sign signed_number literal where_part change assigned assign update columns insert row delete select comparison term signed_term sum test_part condition constraint check mark size digits type_text column item create drop table_change alter table_statement row_statement work back ending factored_show factored_body factored_request
factored-is_predictive = refl
