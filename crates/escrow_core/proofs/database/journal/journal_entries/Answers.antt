use Rattle.std.proofs.Common.{◌≡◌, ◌<◌, ◌≤◌, sym, ◌∙◌, ap, length, get_or, arith}
use Rattle.std.specs.Prelude.{map}
use Rattle.std.proofs.lemmas.List.{length-map, get_or-map, take_all}
use Rattle.escrow_reserved.proofs.Journals.{entries_more}
use Rattle.escrow_core.proofs.database.journal.journal_entries.Goals as goal

pub loop-r-preserved : goal.loop-r-preserved
loop-r-preserved g c =
    let items = c.deref-r-items.result.now in
    let i = c.loop-r.r-index in
    let r = c.r-item.result in
    let all = map (λ x. x.now) items in
    let at : r.now ≡ get_or all i r.now = ap (λ x. x.now) c.r-item.is ∙ sym (get_or-map (λ x. x.now) items i r r.now c.loop-r-test.true) in
    let below : i < length all = omega (arith, length-map items (λ x. x.now), c.loop-r-test.true) in
    rw (c.in_ok-push_entry.ensures, c.loop-r.invariant) (sym (entries_more c.args.tables.now.catalog c.args.table all i r.now below at))

pub returns : goal.returns
returns g c =
    let items = c.deref-r-items.result.now in
    let all = map (λ x. x.now) items in
    let past : length all ≤ c.loop-r.r-index = omega (arith, length-map items (λ x. x.now), c.loop-r-test.false) in
    let is : all ≡ c.args.reserved.now.txns.reservations = ap (map (λ x. x.now)) c.deref-r-items.ensures.value ∙ c.in_ok-all_in_order.ensures ∙ ap (λ o. o.reservations) c.txns.ensures in
    rw (take_all c.loop-r.r-index all past, is) at c.loop-r.invariant
