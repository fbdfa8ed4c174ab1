use Rattle.std.specs.Ordering.{is_lt}
use Rattle.std.proofs.lemmas.Fn.{always_returns_same}
use Rattle.std.proofs.lemmas.Result.{on_ok_weaker}
use Rattle.std.proofs.Common.{◌≡◌, rules}
use Rattle.std.proofs.lemmas.List.Sorted.{ranks_by}
use Rattle.escrow_tables.specs.RowChanges.{by_row, row_of}
use Rattle.escrow_tables.proofs.RowChanges.{names_total}
use Rattle.escrow_tables.proofs.changed_rows.put_in_order.Goals as goal

pub returns-clause-order : goal.returns-clause-order
returns-clause-order c =
    on_ok_weaker c.sort_by.result
    (λ sorted. sorted (λ a b. is_lt (by_row a b)) (ranks_by names_total row_of)
    (always_returns_same _ (λ a r. is_lt r ≡ is_lt (by_row a.0.now a.1.0.now)) _ (λ a r q k. search rules)))
    c.sort_by.ensures.sorted

pub returns-clause-stable : goal.returns-clause-stable
returns-clause-stable c =
    c.sort_by.ensures.stable (λ a b. is_lt (by_row a b)) (ranks_by names_total row_of)
    (always_returns_same _ (λ a r. is_lt r ≡ is_lt (by_row a.0.now a.1.0.now)) _ (λ a r q k. search rules))
