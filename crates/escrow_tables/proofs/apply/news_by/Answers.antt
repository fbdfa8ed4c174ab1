use Rattle.std.proofs.Common.{◌≡◌, map, rules, sym}
use Rattle.std.proofs.lemmas.Fn.{always_returns_same}
use Rattle.escrow_num.specs.Order.{same_row}
use Rattle.escrow_tables.specs.Inside.{stored_of}
use Rattle.escrow_tables.specs.RowChanges.{row_of}
use Rattle.escrow_tables.specs.declared.changed_rows.RowChange.{RowChange}
use Rattle.escrow_tables.proofs.Changed.{read}
use Rattle.escrow_tables.proofs.RowChanges.{in_order, sorted_changes}
use Rattle.escrow_tables.proofs.Putting.{all_put, all_told, none_put, row_put_more}
use Rattle.escrow_tables.proofs.apply.news_by.Goals as goal
use Rattle.escrow_tables.proofs.apply.news_by.Goals.{After-into_iter-of_row-iterator}

-- the changes that the loop goes over are the sorted ones
sorted : (c : After-into_iter-of_row-iterator) → c.into_iter-of_row-iterator.result.rest.now ≡ c.put_in_order.new.changes.items
sorted c = search rules

pub loop-of_row-init : goal.loop-of_row-init
loop-of_row-init c = rw (sorted c, c.new-news.ensures.items) (none_put (stored_of c.args.tables.now) (read c.args.reservations.now) c.put_in_order.new.changes.items (in_order c.put_in_order.new.changes.items c.in_ok-put_in_order.ensures.order))

pub loop-of_row-preserved : goal.loop-of_row-preserved
loop-of_row-preserved c =
    let made = c.in_ok-new_of.ensures in
    let step = c.in-Some.ensures.steps in
    let ends = step.2 (λ (a b : RowChange). same_row (row_of a) (row_of b)) (always_returns_same _ (λ a r. r ≡ same_row (row_of a.0.now) (row_of a.1.0.now)) _ (λ a r q k. search rules)) in
    rw c.in_ok-push.ensures.items
    (row_put_more (stored_of c.args.tables.now) (read c.args.reservations.now) c.into_iter-of_row-iterator.result.rest.now c.loop-of_row.of_row-iterator.rest.now c.next.new.self.rest.now c.loop-of_row.news.items c.in_ok-new_of.field-0
    c.in-Some.of_row.now step.1 step.0 ends.1
    (rw (sorted (goal.at.loop-of_row-preserved c).After-into_iter-of_row-iterator) (sorted_changes (read c.args.reservations.now) c.in_ok-changes.changes.items c.put_in_order.new.changes.items (sym c.in_ok-changes.ensures.reservations) c.in_ok-put_in_order.ensures.stable))
    made.stands made.row made.amounts c.loop-of_row.invariant)

pub returns-clause-puts : goal.returns-clause-puts
returns-clause-puts c =
    all_put (stored_of c.args.tables.now) (read c.args.reservations.now) c.in_ok-changes.changes.items c.put_in_order.new.changes.items c.loop-of_row.of_row-iterator.rest.now c.loop-of_row.news.items
    c.in_ok-changes.ensures.reservations c.in_ok-put_in_order.ensures.same c.in-None.ensures.steps.0 (rw (sorted (goal.at.returns-clause-puts c).After-into_iter-of_row-iterator) at c.loop-of_row.invariant)

pub returns-clause-told : goal.returns-clause-told
returns-clause-told c =
    all_told (stored_of c.args.tables.now) (read c.args.reservations.now) c.in_ok-changes.changes.items c.put_in_order.new.changes.items c.loop-of_row.of_row-iterator.rest.now c.loop-of_row.news.items
    c.in_ok-changes.ensures.reservations c.in_ok-put_in_order.ensures.same c.in-None.ensures.steps.0 (rw (sorted (goal.at.returns-clause-told c).After-into_iter-of_row-iterator) at c.loop-of_row.invariant)
    (map (λ amounts. amounts.now) c.args.before.now) c.in_ok-changes.ensures.before
