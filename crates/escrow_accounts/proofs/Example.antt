-- A run with a move of each kind.
use Rattle.std.specs.Prelude.{ℕ, ℤ, pos, Some, None, List, [], ◌∷◌, codes}
use Rattle.std.proofs.Common.{refl, arith}
use Rattle.escrow_num.specs.Decimal.{units_at}
use Rattle.escrow_num.specs.Scale.{unit_at}
use Rattle.escrow_num.specs.Session.{IsSession}
use Rattle.escrow_statement.specs.declared.statement.CreateText.{CreateText}
use Rattle.escrow_statement.specs.declared.statement.InsertText.{InsertText}
use Rattle.escrow_statement.specs.declared.statement.RowText.{RowText}
use Rattle.escrow_statement.specs.declared.statement.UpdateText.{UpdateText}
use Rattle.escrow_statement.specs.declared.statement.WhereText.{WhereText}
use Rattle.escrow_statement.specs.declared.statement.Statement.{Statement}
use Rattle.escrow_statement.specs.declared.statement.Statement.TheVariants as statement
use Rattle.escrow_statement.specs.declared.statement.Item.TheVariants as item
use Rattle.escrow_statement.specs.declared.statement.ColumnMark.TheVariants as mark
use Rattle.escrow_statement.specs.declared.statement.TypeText.TheVariants as type
use Rattle.escrow_statement.specs.declared.statement.Literal.TheVariants as literal
use Rattle.escrow_statement.specs.declared.statement.Assigned.TheVariants as assigned
use Rattle.escrow_checks.specs.WrittenName.{is_written_name}
use Rattle.escrow_checks.specs.Scales.{factor}
use Rattle.escrow_machine.specs.declared.event.Event.{Event}
use Rattle.escrow_machine.specs.declared.event.Event.TheVariants as event
use Rattle.escrow_machine.specs.declared.reply.Reply.{Reply}
use Rattle.escrow_machine.specs.declared.reply.Reply.TheVariants as reply
use Rattle.escrow_machine.specs.State.{State, empty}
use Rattle.escrow_machine.specs.Step.{step, IsRun}
use Rattle.escrow_machine.specs.Transition.{transition_of}
use Rattle.escrow_accounts.specs.Laws.{EachMoveComes}

-- CREATE TABLE T (K INTEGER PRIMARY KEY, N NUMBER(1) RESERVABLE)
abbrev table_text : CreateText
table_text = record {
  table = codes "T";
  items = item.Column (record { name = codes "K"; kind = type.Integer; marks = mark.PrimaryKey ∷ [] })
      ∷ item.Column (record { name = codes "N"; kind = type.Number (Some (record { digits = pos 1; scale = None })); marks = mark.Reservable ∷ [] })
      ∷ [];
}

-- INSERT INTO T VALUES (1, 5)
abbrev row_text : InsertText
row_text = record { table = codes "T"; columns = None; values = literal.Number (pos 1000000) ∷ literal.Number (pos 5000000) ∷ [] }

-- WHERE K = 1
abbrev where_text : WhereText
where_text = record { column = codes "K"; literal = literal.Number (pos 1000000) }

-- UPDATE T SET N = N + 3 WHERE K = 1, or N + 1
abbrev plus : ℤ → UpdateText
plus millionths = record {
  table = codes "T";
  assigns = record { column = codes "N"; value = assigned.Change (codes "N") millionths } ∷ [];
  row = where_text;
}

abbrev by_one : Statement → Event
by_one asked = event.Statement 1 asked

abbrev events : List Event
events =
    by_one (statement.Create table_text) ∷ by_one (statement.Insert row_text) ∷ by_one (statement.Update (plus (pos 3000000))) ∷ by_one statement.Commit
    ∷ by_one (statement.Update (plus (pos 1000000))) ∷ by_one statement.Rollback ∷ by_one (statement.Delete (record { table = codes "T"; row = where_text })) ∷ []

abbrev answers : List Reply
answers =
    reply.Created (codes "T") ∷ reply.Inserted ∷ reply.Reserved 1 ∷ reply.Committed 1 ∷ reply.Reserved 2 ∷ reply.RolledBack 1 ∷ reply.Deleted ∷ []

one_is_session : IsSession 1
one_is_session = (omega arith, omega arith)

-- the state after a statement of session 1
abbrev then : State → Statement → State
then s asked = (step s 1 asked).1

abbrev stocked : State
stocked = then (then empty (statement.Create table_text)) (statement.Insert row_text)

abbrev risen : State
risen = then (then stocked (statement.Update (plus (pos 3000000)))) statement.Commit

abbrev back : State
back = then (then risen (statement.Update (plus (pos 1000000)))) statement.Rollback

pub each_move_comes : EachMoveComes
unfolding transition_of is_written_name factor units_at unit_at
each_move_comes =
    let run : IsRun empty events answers (then back (statement.Delete (record { table = codes "T"; row = where_text }))) = (
      _,
      record { is_step = refl },
      (
        _,
        record { is_step = refl },
        (
          _,
          record { is_step = refl },
          (_, record { is_step = refl }, (_, record { is_step = refl }, (_, record { is_step = refl }, (_, record { is_step = refl }, refl)))),
        ),
      ),
    ) in (
      events,
      answers,
      _,
      (one_is_session, (one_is_session, (one_is_session, (one_is_session, (one_is_session, (one_is_session, (one_is_session, tt))))))),
      run,
      refl,
    )
