use Rattle.std.proofs.Common.{◌≡◌, rules}
use Rattle.std.specs.Ordering.{is_lt}
use Rattle.std.proofs.lemmas.Cmp.{nat_list_cmp_total}
use Rattle.std.proofs.lemmas.Fn.{always_returns_same}
use Rattle.std.proofs.lemmas.List.Sorted.{ranks_by}
use Rattle.std.proofs.lemmas.Result.{on_ok_weaker}
use Rattle.escrow_schema.specs.declared.stored.StoredTable.{StoredTable}
use Rattle.escrow_recover.specs.Tabs.{by_name}
use Rattle.escrow_recover.proofs.tables.put_in_order.Goals as goal

pub returns-clause-order : goal.returns-clause-order
returns-clause-order c =
    on_ok_weaker c.sort_by.result
    (λ sorted. sorted (λ a b. is_lt (by_name a b)) (ranks_by nat_list_cmp_total (λ (s : StoredTable). s.table.name))
    (always_returns_same _ (λ a r. is_lt r ≡ is_lt (by_name a.0.now a.1.0.now)) _ (λ a r q k. search rules)))
    c.sort_by.ensures.sorted
