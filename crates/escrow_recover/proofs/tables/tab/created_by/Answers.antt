use Rattle.std.proofs.Common.{◌∙◌, sym}
use Rattle.std.proofs.lemmas.Option.{none-some}
use Rattle.escrow_recover.proofs.tables.tab.created_by.Goals as goal

pub returns-in-Ok-clause-foreign : goal.returns-in-Ok-clause-foreign
returns-in-Ok-clause-foreign c = λ told table defines.
    none-some table (sym (c.defined_in.ensures.foreign told defines.0 (c.in-Ok.ensures.only _ defines.1)) ∙ defines.2)

pub returns-in-Err-Syntax-clause-foreign : goal.returns-in-Err-Syntax-clause-foreign
returns-in-Err-Syntax-clause-foreign c = λ told table defines.
    let memory = c.in-Err-Syntax.ensures.only _ defines.1 in
    let is = c.in-Err-Syntax.field-0-is in
    absurd (cc)
