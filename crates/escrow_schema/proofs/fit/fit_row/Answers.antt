use Rattle.std.proofs.Common.{◌≡◌, true, sym, ◌∙◌, subst}
use Rattle.std.specs.Prelude.{is_some}
use Rattle.std.proofs.lemmas.Bool.{false≢true}
use Rattle.escrow_schema.specs.Asked.{asked_values}
use Rattle.escrow_schema.specs.Fit.{inserted_row}
use Rattle.escrow_schema.proofs.AskedLemmas.{row_there}
use Rattle.escrow_schema.proofs.RuleLemmas.{key_stands}
use Rattle.escrow_schema.proofs.fit.fit_row.Goals as goal

there : (c : goal.In-Err) → is_some (inserted_row c.args.table.now c.args.text.now) ≡ true
there c =
    row_there c.args.table.now c.args.text.now (key_stands c.args.table.now c.requires)
    (subst (λ columns. is_some (asked_values columns c.args.text.now) ≡ true) c.typed_columns.ensures.value (sym c.all_fit.ensures ∙ c.if-not-all_fit.false))

pub returns-in-Err-clause-bad : goal.returns-in-Err-clause-bad
returns-in-Err-clause-bad c = (λ e. absurd (cc), λ none. absurd (false≢true (subst (λ o. is_some o ≡ true) none (there c))))

pub returns-in-Err-clause-memory : goal.returns-in-Err-clause-memory
returns-in-Err-clause-memory c = λ _. there c
