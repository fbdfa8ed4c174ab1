use Rattle.std.proofs.Common.{◌≡◌, Err, ap, sym, ◌∙◌, subst}
use Rattle.std.proofs.lemmas.Bool.{false≢true}
use Rattle.sqlite.specs.Held.{state}
use Rattle.escrow_recover.specs.declared.unverified.Unverified.TheVariants.{ForeignStore}
use Rattle.escrow_recover.proofs.WholeTables.{AreEachWhole, none_whole, whole_catalog}
use Rattle.escrow_recover.proofs.format_1.verify_format_1.Goals as goal

pub returns-in-Ok-clause-store : goal.returns-in-Ok-clause-store
returns-in-Ok-clause-store g c = λ clean.
    let told = c.in-Ok.ensures.store clean in
    let each = subst AreEachWhole c.deref.ensures.value (c.are_whole.ensures.0 c.if-are_whole.true) in
    rw c.of.ensures (told.0, told.1, record { store = told.2; whole = whole_catalog c.in-Ok.tables.items each }, told.3)

pub returns-in-Ok-2-clause-foreign : goal.returns-in-Ok-2-clause-foreign
returns-in-Ok-2-clause-foreign g c = λ usable same.
    let told = c.in-Ok.ensures.store usable.0 in
    none_whole c.in-Ok.tables.items told.1 (state g.S.Store c.args.store.now).now told.2
    (λ each. false≢true (sym c.if-are_whole.false ∙ c.are_whole.ensures.1 (subst AreEachWhole (sym c.deref.ensures.value) each)))

pub returns-in-Err-clause-foreign : goal.returns-in-Err-clause-foreign
returns-in-Err-clause-foreign g c = λ usable same tables rows is.
    let why : c.in-Err.why ≡ ForeignStore = cc in c.verify_format.ensures.foreign usable (c.in-Err.is ∙ ap Err why) tables rows is.store
