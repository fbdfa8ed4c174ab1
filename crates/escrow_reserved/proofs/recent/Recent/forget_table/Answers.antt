use Rattle.std.specs.Prelude.{◌≡◌, ℤ, List, filter}
use Rattle.std.proofs.Common.{rules}
use Rattle.indexmap.proofs.CallerLemmas.{filter-RetainsPairs}
use Rattle.escrow_num.specs.declared.value.RowName.{RowName}
use Rattle.escrow_reserved.proofs.Reading.{of_others, others_stay, table_gone}
use Rattle.escrow_reserved.proofs.recent.Recent.forget_table.Given as given
use Rattle.escrow_reserved.proofs.recent.Recent.forget_table.Goals as goal
use Rattle.escrow_reserved.proofs.recent.Recent.forget_table.Goals.{After-retain}

-- the rows of other tables stay
left : (c : After-retain) → c.retain.new.self.entries ≡ filter (of_others c.args.table) c.self.inside.rows.entries
left c = filter-RetainsPairs _ (of_others c.args.table) _ (λ k v b w g call. search rules) _ _ c.retain.ensures.filtered

pub returns-clause-gone : goal.returns-clause-gone
returns-clause-gone c = table_gone c.args.table c.self.inside.rows.entries c.retain.new.self.entries (left (goal.at.returns-clause-gone c).After-retain)

pub returns-clause-others : goal.returns-clause-others
returns-clause-others c = rw (← c.self.view_is) (others_stay c.args.table c.self.inside.rows.entries c.retain.new.self.entries (left (goal.at.returns-clause-others c).After-retain))
