use Rattle.std.proofs.Common.{◌≡◌, ◌≤◌, ℤ, List, map, length, ap, sym, ◌∙◌, arith}
use Rattle.std.proofs.lemmas.List.{take_all}
use Rattle.escrow_checks.specs.Form.{all_changed, changed}
use Rattle.escrow_checks.proofs.FormLemmas.{length-all_changed}
use Rattle.escrow_tables.specs.RowChanges.{added_by}
use Rattle.escrow_tables.proofs.RowChanges.{added_more}
use Rattle.escrow_tables.proofs.apply.new_amounts.Goals as goal

pub loop-change-init : goal.loop-change-init
loop-change-init c = c.in_ok-after.ensures

pub loop-change-preserved : goal.loop-change-preserved
loop-change-preserved c =
    let change = c.change-item.result in
    let more = added_more c.args.before.now c.args.changes.now c.loop-change.change-index change c.loop-change-test.true c.change-item.is in
    rw (c.in_ok-add_changes.ensures, c.as_slice.ensures) (ap (λ (amounts : List ℤ). changed amounts (added_by change)) c.loop-change.invariant ∙ sym more)

pub returns : goal.returns
returns c =
    let before = c.args.before.now in
    let changes = c.args.changes.now in
    let past : length changes ≤ c.loop-change.change-index = omega (arith, c.loop-change-test.false) in
    let all : c.loop-change.after ≡ all_changed before (map added_by changes) =
    c.loop-change.invariant ∙ ap (λ cs. all_changed before (map added_by cs)) (take_all c.loop-change.change-index changes past) in
    let long : length before ≡ length c.loop-change.after = sym (ap length all ∙ length-all_changed before (map added_by changes)) in
    rw c.as_slice-2.ensures at c.in_ok-differing.ensures long ∙ all
