use Rattle.std.specs.Prelude.{◌≡◌, ◌+◌, ◌-◌}
use Rattle.std.proofs.Common.{arith, sym, ◌∙◌}
use Rattle.escrow_core.proofs.Altering.{free_judged, new_covered}
use Rattle.escrow_core.proofs.database.added.AddedJudgeRowJudge.violation.Goals as goal

pub first_violation-requires : goal.first_violation-requires
first_violation-requires c =
    let added = c.self.inside.added.now in
    let many = rw (← c.self.view_is) at c.requires.amounts in
    let count : added.first + added.count - added.first ≡ added.count = omega arith in
    rw (c.as_slice-checks.ensures, count) (new_covered added c.args.amounts.now c.self.invariant.table many)

pub returns : goal.returns
returns c =
    let added = c.self.inside.added.now in
    let count : added.first + added.count - added.first ≡ added.count = omega arith in
    let is = rw (c.as_slice-checks.ensures, count) at c.first_violation.ensures in
    rw (← c.self.view_is)
    (is ∙ sym (free_judged added c.self.inside.reserved.now c.self.inside.addition.now c.args.name.now c.args.amounts.now c.self.invariant (sym c.is_reserved.ensures ∙ c.if-is_reserved.false)))
