use Rattle.std.specs.Prelude.{bytes_eq, not, length}
use Rattle.std.proofs.Common.{◌∙◌, ap, arith}
use Rattle.std.proofs.lemmas.Result.{on_err_weaker}
use Rattle.escrow_num.specs.declared.reservation.Savepoint.{Savepoint}
use Rattle.escrow_journal.proofs.Filters.{filter_whole, filter_within, fewer_others}
use Rattle.escrow_journal.proofs.lists.make_room.Goals as goal

-- if the call is refused, nothing was removed
pub returns-clause-unchanged : goal.returns-clause-unchanged
returns-clause-unchanged c =
    let is_other = λ (p : Savepoint). not (bytes_eq p.name c.args.name) in
    let within = filter_within is_other c.args.savepoints.now.items in
    let kept = ap length c.drop_named.ensures.items in
    let whole = filter_whole is_other c.args.savepoints.now.items (omega arith) in
    on_err_weaker c.reserve.result (λ _. c.reserve.ensures.items ∙ c.drop_named.ensures.items ∙ whole) c.reserve.ensures.err

-- if there was one, it was removed
pub returns-clause-again : goal.returns-clause-again
returns-clause-again c = λ found.
    let fewer = fewer_others (λ (p : Savepoint). bytes_eq p.name c.args.name) c.args.savepoints.now.items found in
    let kept = ap length c.drop_named.ensures.items in
    absurd (omega arith)
