use Rattle.std.proofs.Common.{◌≡◌, ◌<◌, pos, length, take, sym, ◌∙◌, arith}
use Rattle.std.proofs.lemmas.Int.{ints}
use Rattle.std.proofs.lemmas.List.{length-set}
use Rattle.escrow_checks.proofs.FormLemmas.{form-none}
use Rattle.escrow_checks.proofs.Listing.{listed_past, listed_more, listed_all}
use Rattle.escrow_checks.proofs.sparse.Sparse.of.Goals as goal
use Rattle.escrow_checks.proofs.sparse.Sparse.of.Goals.{then-get-ne0, else-get-ne0}

pub loop-column-init : goal.loop-column-init
loop-column-init c = record { few = omega arith; long = omega arith; listed = λ coeffs few. sym (form-none coeffs) }

pub loop-column-preserved : goal.loop-column-preserved
loop-column-preserved c =
    let i = c.loop-column.column in
    let count = c.loop-column.count in
    let columns = c.loop-column.columns in
    let amounts = c.args.amounts.now in
    let amount = c.index-amounts-column.result in
    let is = c.index-amounts-column.is in
    let before = c.loop-column.invariant in
    let below : i < length amounts = omega arith in
    elim c.if-get-ne0.branch [
      | then-get-ne0 w ↦
          let room : count < length columns = omega arith in
          rw (w.columns-is, w.count-is) (record {
            few = omega arith;
            long = length-set columns count _ ∙ before.long;
            listed = listed_more amounts columns count i below room before.listed;
          })
      | else-get-ne0 w ↦
          let none : amount ≡ pos 0 = omega (arith, ints, w.if-get-ne0.false) in
          rw (w.columns-is, w.count-is) (record { few = omega arith; long = before.long; listed = listed_past amounts (take count columns) i amount below is none before.listed })
    ]

pub invariant_of-result : goal.invariant_of-result
invariant_of-result c =
    let before = c.loop-column.invariant in
    (omega arith, before.long, listed_all c.args.amounts.now (take c.loop-column.count c.loop-column.columns) c.loop-column.column (omega arith) before.listed)
