use Rattle.std.proofs.Common.{refl, true}
use Rattle.sqlite.specs.Held.{state}
use Rattle.escrow_rows.proofs.RowsRead.{all_taken}
use Rattle.escrow_recover.specs.Counting.{HasTaken}
use Rattle.escrow_recover.proofs.Counting.{none_read, no_rows_found, rows_found}
use Rattle.escrow_recover.proofs.rows.count_rows.Goals as goal

pub returns-in-Some-clause-found : goal.returns-in-Some-clause-found
returns-in-Some-clause-found g c = λ clean.
    let told = rw c.in-Some.is at c.in_ok-counter.ensures.read clean in (
      told.0,
      λ store.
          let read = told.1 store in
          rows_found c.args.table.now (state g.S.Store c.args.store.now).now c.requires read.0 read.1 (record { alloc = c.args.alloc; table = c.new.result; rows = 0; sound = true }) c.in-Some.counter
          c.new.ensures refl refl (all_taken HasTaken _ _ _ _ _ read.2) c.if-branch.true,
    )

pub returns-in_default-clause-foreign : goal.returns-in_default-clause-foreign
returns-in_default-clause-foreign g c = λ usable _ store.
    let told = rw c.in-Some.is at c.in_ok-counter.ensures.read usable.0 in
    let read = told.1 store in
    no_rows_found c.args.table.now (state g.S.Store c.args.store.now).now c.requires read.0 read.1 (record { alloc = c.args.alloc; table = c.new.result; rows = 0; sound = true }) c.in-Some.counter
    c.new.ensures refl refl (all_taken HasTaken _ _ _ _ _ read.2) c.if-branch.false

pub returns-in_default-2-clause-foreign : goal.returns-in_default-2-clause-foreign
returns-in_default-2-clause-foreign g c = λ usable _ store.
    let told = rw c.in_default.is at c.in_ok-counter.ensures.read usable.0 in
    let read = told.1 store in
    none_read c.args.table.now (state g.S.Store c.args.store.now).now c.requires read.0 read.1 read.2
