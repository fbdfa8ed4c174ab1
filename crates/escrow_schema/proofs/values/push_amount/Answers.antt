use Rattle.std.proofs.Common.{◌≡◌, Some, None, ap, append-nil, refl, ◌∙◌, sym}
use Rattle.std.specs.Prelude.{option_copied, slice_get}
use Rattle.escrow_schema.proofs.ValuesLemmas.{item_from, none_from}
use Rattle.escrow_schema.proofs.values.push_amount.Goals as goal

pub returns-in_ok-push : goal.returns-in_ok-push
returns-in_ok-push c =
    let at : slice_get c.args.row.now.amounts c.args.place ≡ Some c.in-Some.amount.now = sym c.get.ensures ∙ ap option_copied c.in-Some.is in
    rw (item_from c.args.row.now.amounts c.args.place c.in-Some.amount.now at) c.in_ok-push.ensures.items

pub returns-in_default : goal.returns-in_default
returns-in_default c =
    let at : slice_get c.args.row.now.amounts c.args.place ≡ None = sym c.get.ensures ∙ ap option_copied c.in_default.is in
    rw (none_from c.args.row.now.amounts c.args.place at, append-nil) refl
