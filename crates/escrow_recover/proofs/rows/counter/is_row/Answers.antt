use Rattle.std.proofs.Common.{◌≡◌, Ok, ap, sym, ◌∙◌, rules, subst}
use Rattle.std.specs.List.{AllByRecursion}
use Rattle.escrow_num.specs.declared.row.Row.{Row}
use Rattle.escrow_checks.specs.Grant.{Meets}
use Rattle.escrow_recover.proofs.RowsMade.{none_has, made_is, made_has}
use Rattle.escrow_recover.proofs.rows.counter.is_row.Goals as goal

pub returns-in_default : goal.returns-in_default
returns-in_default c =
    let unfit = rw c.as_slice.ensures at c.in_ok-made.ensures.none (ap Ok c.in_default.is) in
    (λ e. absurd (cc), λ has. absurd (none_has c.args.table.now c.args.row.now c.requires unfit has.0 has.1))

pub returns-then-not-is_same : goal.returns-then-not-is_same
returns-then-not-is_same c =
    let made = rw (c.in-Some.is, c.as_slice.ensures) at c.in_ok-made.ensures.some in (
      λ e. absurd (cc),
      λ has.
          let same = made_is c.args.table.now c.args.row.now c.requires c.in-Some.made has.0 made.0 has.1 in
          let key : c.in-Some.made.name.key ≡ c.args.row.now.key = ap (λ (r : Row). r.name.key) same ∙ has.1.key_is in
          let yes = c.is_same.ensures.same.1 key in
          absurd (cc),
    )

pub returns : goal.returns
returns c =
    let table = c.args.table.now in
    let row = c.in-Some.made in
    let made = rw (c.in-Some.is, c.as_slice.ensures) at c.in_ok-made.ensures.some in
    let test = rw (c.as_slice-2.ensures, c.as_slice-3.ensures) at c.meets_all.ensures in (
      λ yes. (row, made_has table c.args.row.now c.requires row made (c.is_same.ensures.same.0 (search rules)) (test.0 yes)),
      λ has.
          let same = made_is table c.args.row.now c.requires row has.0 made.0 has.1 in
          test.1 (subst (λ (r : Row). AllByRecursion (λ check. Meets check r.amounts) table.checks) (sym same) has.1.meets),
    )
