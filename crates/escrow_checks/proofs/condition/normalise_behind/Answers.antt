use Rattle.std.proofs.Common.{◌≡◌, ◌<◌, ◌∙◌, sym, ap, arith, List, length, map, get_or, Result, Ok, Err}
use Rattle.std.proofs.lemmas.List.{length-map, get_or-map}
use Rattle.escrow_statement.specs.declared.statement.CheckText.{CheckText}
use Rattle.std.specs.Result.{IsErrOf, IsErrAnd}
use Rattle.escrow_checks.specs.declared.fault.CheckFault.{CheckFault}
use Rattle.escrow_checks.proofs.FoundLemmas.{text_more, text_none, text_all}
use Rattle.escrow_checks.proofs.condition.normalise_behind.Goals as goal

-- `?` returns the fault of a call
passed_on : {X Y : Type 0} (r : Result X CheckFault) (call : Result Y CheckFault) (why : CheckFault)
    → IsErrAnd r (λ e. e ≡ why) → call ≡ Err why → IsErrOf r CheckFault.Definition → IsErrOf call CheckFault.Definition
passed_on (Ok x) call why is was refused = absurd is
passed_on (Err e) call why is was refused = was ∙ ap Err (sym is) ∙ (cc)

pub returns-in_err-add_checks-clause-definition : goal.returns-in_err-add_checks-clause-definition
returns-in_err-add_checks-clause-definition c = λ refused.
    let texts : List CheckText = map (λ text. text.now) c.args.texts.now in
    let at : c.loop-text.text-index < length texts = omega (arith, length-map c.args.texts.now (λ text. text.now)) in
    let is : c.text-item.result.now ≡ get_or texts c.loop-text.text-index c.text-item.result.now = ap (λ r. r.now) c.text-item.is ∙ sym (get_or-map (λ text. text.now) c.args.texts.now c.loop-text.text-index c.text-item.result c.text-item.result.now c.loop-text-test.true) in
    let defined = passed_on c.from_residual-in_err-add_checks.result c.add_checks.result _ c.from_residual-in_err-add_checks.ensures.1 c.in_err-add_checks.was refused in
    text_none c.args.columns.now c.args.scales.now c.args.declared.now texts c.loop-text.text-index c.text-item.result.now c.loop-text.checks at is c.loop-text.invariant.rest (c.add_checks.ensures.definition defined)

pub loop-text-preserved : goal.loop-text-preserved
loop-text-preserved c =
    let texts : List CheckText = map (λ text. text.now) c.args.texts.now in
    let at : c.loop-text.text-index < length texts = omega (arith, length-map c.args.texts.now (λ text. text.now)) in
    let is : c.text-item.result.now ≡ get_or texts c.loop-text.text-index c.text-item.result.now = ap (λ r. r.now) c.text-item.is ∙ sym (get_or-map (λ text. text.now) c.args.texts.now c.loop-text.text-index c.text-item.result c.text-item.result.now c.loop-text-test.true) in
    let given = c.in_ok-add_checks.ensures in
    record {
      rest =
          c.loop-text.invariant.rest
          ∙ text_more c.args.columns.now c.args.scales.now texts c.loop-text.text-index c.text-item.result.now c.loop-text.checks c.add_checks.new.checks at is given.ok given.counted;
      within = given.within;
    }

pub returns-clause-ok : goal.returns-clause-ok
returns-clause-ok c =
    text_all c.args.columns.now c.args.scales.now c.args.declared.now (map (λ text. text.now) c.args.texts.now) c.loop-text.text-index c.loop-text.checks
    (omega (arith, length-map c.args.texts.now (λ text. text.now))) c.loop-text.invariant.within c.loop-text.invariant.rest
