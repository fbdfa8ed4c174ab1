use Rattle.std.proofs.Common.{◌∙◌, ◌++◌, ◌+◌, ◌∷◌, [], ℤ, List, drop, length, length-append, append_assoc, ap, sym, arith}
use Rattle.escrow_schema.specs.Fit.{amounts_of}
use Rattle.escrow_rows.proofs.ReadCells.{amount_passed, amount_taken, reservable_passed, reservable_taken}
use Rattle.escrow_rows.proofs.read.read_amounts.Goals as goal
use Rattle.escrow_rows.proofs.read.read_amounts.Goals.{then-column+in_ok-push_amount, else-column}

pub loop-i-preserved : goal.loop-i-preserved
loop-i-preserved c =
    let columns = c.args.columns.now in
    let cells = c.args.cells.now in
    let i = c.loop-i.i in
    let column = c.index-columns-i.result in
    let within = c.loop-i-test.true in
    let here = c.index-columns-i.is in
    let so_far = c.loop-i.amounts in
    let long = c.loop-i.invariant.long in
    elim c.if-column.branch [
      | then-column+in_ok-push_amount w ↦
          let pushed = w.in_ok-push_amount.ensures in
          let amount = pushed.0 in
          let taken = reservable_taken columns cells c.args.before i column within here long w.if-column.true in
          let many = ap length taken in
          rw w.amounts-is (rw pushed.2 (record {
            long = long;
            told = λ values shown.
                append_assoc so_far (amount ∷ []) (amounts_of (drop (i + 1) columns) (drop (i + 1) values))
                ∙ ap (λ (rest : List ℤ). so_far ++ rest) (sym (amount_taken columns cells c.args.before i column within here long w.index-cells-i.result amount w.if-column.true w.index-cells-i.is pushed.1 values shown))
                ∙ c.loop-i.invariant.told values shown;
            many = omega (arith, many, length-append so_far (amount ∷ []), c.loop-i.invariant.many);
          }))
      | else-column w ↦
          let passed = ap length (reservable_passed columns cells c.args.before i column within here long w.if-column.false) in
          rw w.amounts-is (record {
            long = long;
            told = λ values shown. ap (λ (rest : List ℤ). so_far ++ rest) (sym (amount_passed columns cells c.args.before i column within here long w.if-column.false values shown)) ∙ c.loop-i.invariant.told values shown;
            many = omega (arith, passed, c.loop-i.invariant.many);
          })
    ]
