use Rattle.std.proofs.Common.{◌≡◌, ◌++◌, length}
use Rattle.std.specs.Vec.Iter.{into_iter_items, into_iter_len}
use Rattle.sqlite.specs.Held.{state}
use Rattle.escrow_rows.specs.Answers.{OnlyReads}
use Rattle.escrow_recover.specs.Stored.{stored_of}
use Rattle.escrow_recover.proofs.TableCounts.{HaveTheirRows}
use Rattle.escrow_recover.proofs.whole.count_all.Given as goal

abbrev pub invariant-loop-stored : goal.invariant-loop-stored
invariant-loop-stored g l = record {
  rest : l.yielded ++ into_iter_items l.stored-iterator ≡ into_iter_items l.initial.stored-iterator;
  long : into_iter_len l.stored-iterator ≡ length (into_iter_items l.stored-iterator);
  so_far : stored_of l.counted.items ≡ l.yielded;
  only_reads : OnlyReads (state g.S.Store l.initial.store) (state g.S.Store l.store);
  counts : HaveTheirRows (state g.S.Store l.initial.store) (state g.S.Store l.store) l.counted.items;
}
