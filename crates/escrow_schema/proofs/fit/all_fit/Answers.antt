use Rattle.std.proofs.Common.{ap, sym, ◌∙◌}
use Rattle.std.specs.Prelude.{is_some}
use Rattle.escrow_schema.proofs.AskedLemmas.{list_values, no_list}
use Rattle.escrow_schema.proofs.fit.all_fit.Goals as goal

pub returns-then-is_list : goal.returns-then-is_list
returns-then-is_list c =
    let text = c.args.text.now in
    c.each_fits.ensures ∙ ap is_some (sym (list_values c.args.columns.now text.columns text.values (sym c.is_list.ensures ∙ c.if-is_list.true)))

pub returns-else-is_list : goal.returns-else-is_list
returns-else-is_list c =
    let text = c.args.text.now in
    c.if-is_list.false ∙ ap is_some (sym (no_list c.args.columns.now text.columns text.values (sym c.is_list.ensures ∙ c.if-is_list.false)))
