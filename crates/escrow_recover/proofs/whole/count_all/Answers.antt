use Rattle.std.proofs.Common.{◌≡◌, ◌∷◌, [], ◌++◌, length, ap, ◌∙◌, append_assoc, arith}
use Rattle.std.specs.Vec.Iter.{into_iter_items}
use Rattle.std.proofs.lemmas.List.{map_push}
use Rattle.sqlite.specs.Held.{state}
use Rattle.escrow_rows.proofs.Looking.{only_reads_then}
use Rattle.escrow_schema.specs.declared.counted_table.CountedTable.{CountedTable}
use Rattle.escrow_recover.specs.Stored.{stored_of}
use Rattle.escrow_recover.proofs.TableCounts.{counts_more, none_have}
use Rattle.escrow_recover.proofs.Tab.{passed_on}
use Rattle.escrow_recover.proofs.whole.count_all.Goals as goal

pub returns-in_err-rows-clause-foreign : goal.returns-in_err-rows-clause-foreign
returns-in_err-rows-clause-foreign g c = λ usable same.
    let at = c.loop-stored in
    let rest : into_iter_items at.stored-iterator ≡ c.in-Some.stored ∷ into_iter_items c.next.new.self = c.in-Some.ensures.steps.0 in
    let whole : at.yielded ++ c.in-Some.stored ∷ into_iter_items c.next.new.self ≡ c.args.tables.items = rw (← rest) (at.invariant.rest ∙ c.into_iter-stored-iterator.ensures.into_iter_gives.0) in
    none_have (state g.S.Store c.args.store.now) (state g.S.Store at.store) (state g.S.Store c.count_rows.new.store) c.args.tables.items at.yielded (into_iter_items c.next.new.self) c.in-Some.stored
    at.invariant.only_reads c.count_rows.ensures.only_reads whole usable
    (c.count_rows.ensures.foreign usable (passed_on c.from_residual-in_err-rows.result c.count_rows.result _ _ c.from_residual-in_err-rows.ensures.1 c.in_err-rows.was same))

pub loop-stored-preserved : goal.loop-stored-preserved
loop-stored-preserved g c =
    let at = c.loop-stored in
    let s = c.in-Some.stored in
    let counted : CountedTable = record { stored = s; rows = c.in_ok-rows.rows } in
    let steps : into_iter_items at.stored-iterator ≡ s ∷ into_iter_items c.next.new.self = c.in-Some.ensures.steps.0 in
    let added : c.push.new.self.items ≡ at.counted.items ++ counted ∷ [] = c.in_ok-push.ensures.items in
    record {
      rest = append_assoc at.yielded (s ∷ []) _ ∙ rw (← steps) at.invariant.rest;
      long =
          let was = at.invariant.long in
          let gone = c.in-Some.ensures.steps.1 in
          let short = ap length steps in
          omega arith;
      so_far = ap stored_of added ∙ map_push (λ (k : CountedTable). k.stored) at.counted.items counted ∙ ap (λ xs. xs ++ s ∷ []) at.invariant.so_far;
      only_reads = only_reads_then _ _ _ at.invariant.only_reads c.count_rows.ensures.only_reads;
      counts = rw added (counts_more (state g.S.Store c.args.store.now) (state g.S.Store at.store) (state g.S.Store c.count_rows.new.store) at.counted.items counted
          at.invariant.only_reads c.count_rows.ensures.only_reads at.invariant.counts c.in_ok-rows.ensures.found);
    }
