use Rattle.std.specs.Prelude.{◌≡◌, ◌≤◌, Bool, Option, ℕ, Some, None, false, if◌then◌else◌, nat_eq}
use Rattle.std.proofs.Common.{◌∙◌, ap, arith, refl, subst, sym}
use Rattle.std.specs.List.{AllByRecursion}
use Rattle.std.specs.Option.{option_eq}
use Rattle.std.proofs.lemmas.Bool.{cond_both, ne_eqb}
use Rattle.std.proofs.lemmas.List.{take_all}
use Rattle.escrow_serve.specs.Left.{LeavesItsRows}
use Rattle.escrow_serve.proofs.Elements.{all_more}
use Rattle.escrow_serve.proofs.serve.see_left.Goals as goal

-- no id is 0
never_zero : (found : Option ℕ) (b : Bool) (id : ℕ) → found ≡ (if b then Some id else None) → 1 ≤ id → option_eq nat_eq found (Some 0) ≡ false
never_zero found b id is first =
    ap (λ o. option_eq nat_eq o (Some 0)) is ∙ cond_both b (Some id) None (λ o. option_eq nat_eq o (Some 0) ≡ false) (λ _. ne_eqb id 0 (λ zero. omega (arith, zero, first))) (λ _. refl)

pub prove-unreachable-requires : goal.prove-unreachable-requires
prove-unreachable-requires g c =
    let never = never_zero c.next_id.result _ c.database-item.result.state.next_id c.next_id.ensures.value c.next_id.ensures.kept.orderly.first_id in
    absurd (cc)

pub loop-database-preserved : goal.loop-database-preserved
loop-database-preserved g c =
    all_more (LeavesItsRows g.S.Store) c.args.databases.now c.loop-database.database-index c.database-item.result c.loop-database-test.true (sym c.database-item.is)
    c.next_id.ensures.left c.loop-database.invariant

pub returns : goal.returns
returns g c =
    subst (AllByRecursion (LeavesItsRows g.S.Store)) (take_all c.loop-database.database-index c.args.databases.now (omega (arith, c.loop-database-test.false))) c.loop-database.invariant
