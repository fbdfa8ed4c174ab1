-- What the grant rule gives: with the new reservation, each choice of the open ones meets the checks.
use Rattle.std.specs.Prelude.{◌≡◌, ℤ, List, None}
use Rattle.std.specs.List.{AllByRecursion}
use Rattle.std.proofs.Common.{refl, subst}
use Rattle.std.proofs.lemmas.List.Elements.{recursion_from_All, All-from_recursion}
use Rattle.escrow_checks.specs.declared.check.Check.{Check}
use Rattle.escrow_checks.specs.Form.{changed, all_changed}
use Rattle.escrow_checks.specs.Grant.{Meets, AlwaysMeets, broken}
use Rattle.escrow_checks.specs.Sublists.{sublists}
use Rattle.escrow_checks.proofs.LawsLemmas.{granted_where_all_always_met}
use Rattle.escrow_machine.proofs.Choices.{IsChoice, all_choices, choices_all}
use Rattle.escrow_num.proofs.Items.{all_has, has_all}

-- if a new reservation breaks no check, it and any choice of the others meet all checks
pub granted_meets : (checks : List Check) (amounts changes : List ℤ) (reservations chosen : List (List ℤ)) → broken checks amounts changes reservations ≡ None
    → IsChoice reservations chosen → AllByRecursion (λ check. Meets check (all_changed (changed amounts changes) chosen)) checks
granted_meets checks amounts changes reservations chosen granted choice =
    let Always : Check → Type 0 = λ check. AlwaysMeets check (changed amounts changes) reservations in
    let always : AllByRecursion Always checks = recursion_from_All Always checks ((granted_where_all_always_met checks amounts changes reservations).0 granted) in
    has_all (λ check. Meets check (all_changed (changed amounts changes) chosen)) checks (λ check h.
    let Met : List (List ℤ) → Type 0 = λ c. Meets check (all_changed (changed amounts changes) c) in
    all_choices Met reservations (recursion_from_All Met (sublists reservations) (all_has Always checks always check h)) chosen choice)

-- a reservation also breaks nothing at other amounts and beside other open ones, if each choice of these
-- comes to the amounts of some choice before
pub moved_grant : (checks : List Check) (amounts moved changes : List ℤ) (reservations left : List (List ℤ)) → broken checks amounts changes reservations ≡ None
    → ((chosen : List (List ℤ)) → IsChoice left chosen
    → (whole : List (List ℤ)) × IsChoice reservations whole × (all_changed (changed amounts changes) whole ≡ all_changed (changed moved changes) chosen))
    → broken checks moved changes left ≡ None
moved_grant checks amounts moved changes reservations left granted choices =
    let Always : Check → Type 0 = λ check. AlwaysMeets check (changed moved changes) left in
    (granted_where_all_always_met checks moved changes left).1
    (All-from_recursion Always checks (has_all Always checks (λ check h.
    let Met : List (List ℤ) → Type 0 = λ c. Meets check (all_changed (changed moved changes) c) in
    All-from_recursion Met (sublists left) (choices_all Met left (λ chosen choice.
    let was = choices chosen choice in
    subst (λ (zs : List ℤ). Meets check zs) was.2
    (all_has (λ k. Meets k (all_changed (changed amounts changes) was.0)) checks
    (granted_meets checks amounts changes reservations was.0 granted was.1) check h))))))

-- a reservation that breaks nothing breaks nothing beside fewer open ones
pub fewer_grant : (checks : List Check) (amounts changes : List ℤ) (reservations fewer : List (List ℤ)) → broken checks amounts changes reservations ≡ None
    → ((chosen : List (List ℤ)) → IsChoice fewer chosen → IsChoice reservations chosen) → broken checks amounts changes fewer ≡ None
fewer_grant checks amounts changes reservations fewer granted choices =
    moved_grant checks amounts amounts changes reservations fewer granted (λ chosen choice. (chosen, choices chosen choice, refl))
