-- A table of one row, which the machine makes, and reservations of it.
use Rattle.std.specs.Prelude.{ℕ, ℤ, pos, neg_ℤ, ◌*ℤ◌, ◌≤ℤ◌, Some, None, List, [], ◌∷◌, codes, true, false}
use Rattle.std.specs.List.{AllByRecursion}
use Rattle.std.proofs.Common.{arith}
use Rattle.std.proofs.lemmas.Int.{ints}
use Rattle.escrow_num.specs.Decimal.{units_at}
use Rattle.escrow_num.specs.Scale.{unit_at}
use Rattle.escrow_num.specs.Session.{IsSession}
use Rattle.escrow_num.specs.declared.reservation.Reservation.{Reservation}
use Rattle.escrow_num.specs.declared.row.Row.{Row}
use Rattle.escrow_num.specs.declared.value.Value.TheVariants as value
use Rattle.escrow_statement.specs.declared.statement.CreateText.{CreateText}
use Rattle.escrow_statement.specs.declared.statement.InsertText.{InsertText}
use Rattle.escrow_statement.specs.declared.statement.UpdateText.{UpdateText}
use Rattle.escrow_statement.specs.declared.statement.Statement.TheVariants as statement
use Rattle.escrow_statement.specs.declared.statement.Item.TheVariants as item
use Rattle.escrow_statement.specs.declared.statement.ColumnMark.TheVariants as mark
use Rattle.escrow_statement.specs.declared.statement.TypeText.TheVariants as type
use Rattle.escrow_statement.specs.declared.statement.Literal.TheVariants as literal
use Rattle.escrow_statement.specs.declared.statement.Assigned.TheVariants as assigned
use Rattle.escrow_checks.specs.WrittenName.{is_written_name}
use Rattle.escrow_checks.specs.Scales.{factor}
use Rattle.escrow_schema.specs.declared.column.ColumnType.TheVariants as kind
use Rattle.escrow_schema.specs.declared.table.TableDef.{TableDef}
use Rattle.escrow_schema.specs.Rows.{MeetsChecks}
use Rattle.escrow_machine.specs.State.{State, empty, opened}
use Rattle.escrow_machine.specs.Step.{step}
use Rattle.escrow_machine.specs.Transition.{transition_of}
use Rattle.escrow_machine.specs.Valid.{IsValid}
use Rattle.escrow_machine.proofs.LawsSteps.{step_keeps_valid}
use Rattle.escrow_machine.proofs.ValidEmpty.{empty_valid, opened_valid}

-- CREATE TABLE T (K INTEGER PRIMARY KEY, N NUMBER(1) RESERVABLE)
abbrev pub table_text : CreateText
table_text = record {
  table = codes "T";
  items = item.Column (record { name = codes "K"; kind = type.Integer; marks = mark.PrimaryKey ∷ [] })
      ∷ item.Column (record { name = codes "N"; kind = type.Number (Some (record { digits = pos 1; scale = None })); marks = mark.Reservable ∷ [] })
      ∷ [];
}

-- INSERT INTO T VALUES (1, z). The least amount of its type is -9
abbrev pub row_text : ℤ → InsertText
row_text z = record { table = codes "T"; columns = None; values = literal.Number (pos 1000000) ∷ literal.Number (z *ℤ pos 1000000) ∷ [] }

-- the row that it makes
abbrev pub first_row : ℤ → Row
first_row z = record { name = record { table = codes "T"; key = value.Number (pos 1) }; amounts = z ∷ []; plain = [] }

-- INSERT INTO T VALUES (2, 0), and its row
abbrev pub second_text : InsertText
second_text = record { table = codes "T"; columns = None; values = literal.Number (pos 2000000) ∷ literal.Number (pos 0) ∷ [] }

abbrev pub second_row : Row
second_row = record { name = record { table = codes "T"; key = value.Number (pos 2) }; amounts = pos 0 ∷ []; plain = [] }

-- the table that the text defines
abbrev pub the_table : TableDef
the_table = record {
  name = codes "T";
  columns = (record { name = codes "K"; kind = kind.Number 15 0; reservable = false }) ∷ (record { name = codes "N"; kind = kind.Number 1 0; reservable = true }) ∷ [];
  key = 0;
  checks = (record { name = codes "RANGE_N"; coeffs = pos 1 ∷ []; scale = 0; span = record { lo = Some (neg_ℤ (pos 9)); hi = Some (pos 9) } }) ∷ [];
}

-- UPDATE T SET N = N + z WHERE K = 1
abbrev pub plus : ℤ → UpdateText
plus z = record {
  table = codes "T";
  assigns = record { column = codes "N"; value = assigned.Change (codes "N") (z *ℤ pos 1000000) } ∷ [];
  row = record { column = codes "K"; literal = literal.Number (pos 1000000) };
}

-- what it reserves
abbrev pub reserved : ℕ → ℕ → ℤ → Reservation
reserved id session z = record { id = id; session = session; row = record { table = codes "T"; key = value.Number (pos 1) }; changes = Some z ∷ [] }

abbrev pub five : ℤ
five = pos 5

abbrev pub minus_four : ℤ
minus_four = neg_ℤ (pos 4)

abbrev pub minus_five : ℤ
minus_five = neg_ℤ (pos 5)

abbrev pub minus_nine : ℤ
minus_nine = neg_ℤ (pos 9)

-- the database with this table and this row
abbrev pub stocked : ℤ → State
stocked z = (step (step empty 1 (statement.Create table_text)).1 1 (statement.Insert (row_text z))).1

pub one_is_session : IsSession 1
one_is_session = (omega arith, omega arith)

pub two_is_session : IsSession 2
two_is_session = (omega arith, omega arith)

pub three_is_session : IsSession 3
three_is_session = (omega arith, omega arith)

pub stocked_valid : (z : ℤ) → IsValid (opened (stocked z).catalog (stocked z).rows)
stocked_valid z =
    let created = step_keeps_valid empty 1 (statement.Create table_text) empty_valid one_is_session in
    opened_valid (stocked z) (step_keeps_valid (step empty 1 (statement.Create table_text)).1 1 (statement.Insert (row_text z)) created one_is_session)

-- with -14 the row breaks the check of its range
abbrev pub at_minus_14 : List Row
at_minus_14 = (record { name = record { table = codes "T"; key = value.Number (pos 1) }; amounts = neg_ℤ (pos 14) ∷ []; plain = [] }) ∷ []

pub too_low : ¬ (AllByRecursion (MeetsChecks (stocked minus_nine).catalog) at_minus_14)
unfolding transition_of is_written_name factor units_at unit_at
too_low met = let low : neg_ℤ (pos 9) ≤ℤ neg_ℤ (pos 14) = met.0.0.0 in absurd (omega (arith, ints, low))

pub still_too_low : ¬ (AllByRecursion (MeetsChecks (stocked minus_four).catalog) at_minus_14)
unfolding transition_of is_written_name factor units_at unit_at
still_too_low met = let low : neg_ℤ (pos 9) ≤ℤ neg_ℤ (pos 14) = met.0.0.0 in absurd (omega (arith, ints, low))
