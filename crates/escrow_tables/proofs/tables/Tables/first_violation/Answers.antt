use Rattle.std.proofs.Common.{◌≡◌, Option, None, Result, Ok, ap, sym, ◌∙◌, refl, arith}
use Rattle.std.proofs.lemmas.Option.{same_Some}
use Rattle.sqlite.specs.Held.{state}
use Rattle.escrow_num.specs.declared.failure.Failure.{Failure}
use Rattle.escrow_num.specs.declared.refusal.Violation.{Violation}
use Rattle.escrow_tables.specs.Judged.{by_amounts, first_violation}
use Rattle.escrow_tables.specs.declared.judged.RowsJudged.{RowsJudged}
use Rattle.escrow_tables.specs.Spanned.{HasReservables}
use Rattle.escrow_schema.proofs.RuleLemmas.{key_stands}
use Rattle.escrow_tables.proofs.AtPlace.{named_at, rows_told}
use Rattle.escrow_tables.proofs.JudgedRows.{judged_told}
use Rattle.escrow_tables.proofs.Named.{IsNamed, named_is_table}
use Rattle.escrow_tables.proofs.Placed.{item_at}
use Rattle.escrow_tables.proofs.tables.Tables.first_violation.Given as given
use Rattle.escrow_tables.proofs.tables.Tables.first_violation.Goals as goal
use Rattle.escrow_tables.proofs.tables.Tables.first_violation.Goals.{After-at, After-columns_to_read-span}

-- the table at the place is the one with the name
named : (g : given.Over) (c : After-at g) → IsNamed c.self.inside.catalog c.args.name c.at.result.now
named g c = named_at c.self.inside.catalog c.args.name c.args.place c.at.result.now (rw (← c.self.view_is) at c.requires.place) (item_at c.self.inside.catalog c.args.place c.at.result.now c.at.ensures.at)

own : (g : given.Over) (c : After-at g) → c.at.result.now.stored.table ≡ g.J.RowJudge.table c.args.judge.now
own g c = same_Some c.at.result.now.stored.table (g.J.RowJudge.table c.args.judge.now) (sym (named g c).in_catalog ∙ rw (← c.self.view_is) at c.requires.table)

-- the span of its columns has all RESERVABLE ones
spanned : (g : given.Over) (c : After-columns_to_read-span g) → HasReservables c.at.result.now.stored.table.columns c.columns_to_read-span.result
spanned g c = rw c.as_slice.ensures at c.columns_to_read-span.ensures.has

pub columns_to_read-span-requires : goal.columns_to_read-span-requires
columns_to_read-span-requires g c =
    let after = (goal.at.columns_to_read-span-requires g c).After-at in
    let some = key_stands c.at.result.now.stored.table (named_is_table c.self.inside.catalog c.args.name c.at.result.now c.self.invariant.listed.is_catalog (named g after)) in
    rw c.as_slice.ensures (omega (arith, some))

pub new-requires-clause-defined : goal.new-requires-clause-defined
new-requires-clause-defined g c =
    let after = (goal.at.new-requires-clause-defined g c).After-at in named_is_table c.self.inside.catalog c.args.name c.at.result.now c.self.invariant.listed.is_catalog (named g after)

pub new-requires-clause-own : goal.new-requires-clause-own
new-requires-clause-own g c = own g (goal.at.new-requires-clause-own g c).After-at

pub new-requires-clause-span : goal.new-requires-clause-span
new-requires-clause-span g c = spanned g (goal.at.new-requires-clause-span g c).After-columns_to_read-span

pub read_spans-requires-clause-table : goal.read_spans-requires-clause-table
read_spans-requires-clause-table g c =
    let after = (goal.at.read_spans-requires-clause-table g c).After-at in named_is_table c.self.inside.catalog c.args.name c.at.result.now c.self.invariant.listed.is_catalog (named g after)

pub read_spans-requires-clause-within : goal.read_spans-requires-clause-within
read_spans-requires-clause-within g c = (spanned g (goal.at.read_spans-requires-clause-within g c).After-columns_to_read-span).within

pub read_spans-requires-clause-few : goal.read_spans-requires-clause-few
read_spans-requires-clause-few g c = (spanned g (goal.at.read_spans-requires-clause-few g c).After-columns_to_read-span).few

pub returns-clause-told : goal.returns-clause-told
returns-clause-told g c =
    let after = (goal.at.returns-clause-told g c).After-at in
    let span = (goal.at.returns-clause-told g c).After-columns_to_read-span in
    let tables = c.self.inside.catalog in
    let counted = c.at.result.now in
    let table = g.J.RowJudge.table in
    let violation = g.J.RowJudge.violation in
    let old = state g.S.Store c.self.inside.store in
    let is_table = named_is_table tables c.args.name counted c.self.invariant.listed.is_catalog (named g after) in
    let fresh : RowsJudged g.row.J.Denot = record { alloc = c.args.alloc; judged = c.new.result; found = None } in
    let found : Result (Option Violation) Failure = Ok c.in_ok-taker.taker.found in
    let judge : c.new.result.0 ≡ c.args.judge.now = ap (λ j. j.0) c.new.ensures in
    rw (← c.self.view_is, ← judge) (λ clean.
    let read = c.in_ok-taker.ensures.taken clean in
    rows_told tables c.args.name counted (named g after) (first_violation (by_amounts (violation c.new.result.0))) old (state g.S.Store c.read_spans.new.self) (state g.S.Store c.self.inside.last.value) found
    c.self.invariant c.read_spans.ensures.only_reads.usable clean
    (read.0, judged_told table violation counted.stored old.now c.columns_to_read-span.result fresh c.in_ok-taker.taker is_table (own g after ∙ ap table (sym judge)) (sym (ap (λ j. j.1) c.new.ensures)) (spanned g span) refl read.1))
