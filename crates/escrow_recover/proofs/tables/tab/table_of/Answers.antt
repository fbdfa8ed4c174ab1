use Rattle.std.proofs.Common.{◌≡◌, ◌∙◌, pos, rules, sym, subst, true, w64}
use Rattle.std.specs.Prelude.{ℤ, int_lt}
use Rattle.std.proofs.lemmas.Bool.{not-true}
use Rattle.std.proofs.lemmas.Int.{to_z-of_z}
use Rattle.escrow_recover.proofs.Tab.{named, not_below, numbered, same_texts, tab_parts}
use Rattle.escrow_recover.proofs.tables.tab.table_of.Goals as goal
use Rattle.escrow_recover.proofs.tables.tab.table_of.Goals.{then-tab-lt1-via-then-tab-lt1, then-tab-lt1-via-else-tab-lt1+then-ne}

pub returns-in_default-clause-foreign : goal.returns-in_default-clause-foreign
returns-in_default-clause-foreign c = λ told. tab_parts c.args.row.now (c.tab_of.ensures.none c.in_default.is)

pub returns-then-tab-lt1-clause-foreign : goal.returns-then-tab-lt1-clause-foreign
returns-then-tab-lt1-clause-foreign c = λ told tab.
    let read = c.in-Some.tab in
    let row_is = c.in-Some.ensures.some in
    let table = c.in_ok-table.ensures.table in
    elim c.then-tab-lt1.branch [
      | then-tab-lt1-via-then-tab-lt1 w ↦
          not_below read.id (subst (λ (n : ℤ). int_lt n (pos 1) ≡ true) (to_z-of_z w64 read.id (search rules)) w.if-tab-lt1.true)
          (numbered c.args.row.now read.id read.name.now read.text.now row_is tab)
      | then-tab-lt1-via-else-tab-lt1+then-ne w ↦
          same_texts read.name.now w.as_str.result.now
          (named c.args.row.now read.id read.name.now read.text.now row_is c.in_ok-table.table table.0 table.1 tab ∙ sym w.as_str.ensures)
          (not-true _ (sym w.ne.ensures ∙ w.if-ne.true))
    ]
