use Rattle.std.proofs.Common.{rules, ◌≡◌, sym, ap, ◌∙◌, w64, to_z, of_z}
use Rattle.std.proofs.lemmas.Int.{to_z-of_z}
use Rattle.sqlite.specs.Held.{state}
use Rattle.escrow_cells.specs.Formats.{format_number}
use Rattle.escrow_recover.specs.declared.format.Meta.TheVariants.{Format}
use Rattle.escrow_recover.proofs.Metas.{format_told, none_told, other_format}
use Rattle.escrow_recover.proofs.format.check_meta.Goals as goal

pub returns-in_default : goal.returns-in_default
returns-in_default g c = record {
  known = λ clean. tt;
  foreign = λ usable same has is.
      c.in_default.not-Format (format_number c.args.known) (none_told (state g.S.Store c.args.store.now).now (format_number c.args.known) c.metas.new.sink ((c.in_ok-metas.ensures.rows usable.0).1 has) is);
  other = λ usable same is.
      c.in_default.not-Format is.number (none_told (state g.S.Store c.args.store.now).now is.number c.metas.new.sink ((c.in_ok-metas.ensures.rows usable.0).1 is.has.schema.tables) is.has.format_is);
  version = λ usable same. absurd (cc);
  only_reads = c.metas.ensures.only_reads;
}

pub returns-then-number-wanted-clause-known : goal.returns-then-number-wanted-clause-known
returns-then-number-wanted-clause-known g c = λ clean.
    let read = c.in_ok-metas.ensures.rows clean in
    let number : c.in-Format.number ≡ format_number c.args.known =
    sym (to_z-of_z w64 c.in-Format.number (search rules)) ∙ ap (to_z w64) c.if-number-wanted.true ∙ to_z-of_z w64 c.number-wanted.result (search rules) ∙ c.number-wanted.ensures in
    (read.0, λ has. format_told (state g.S.Store c.args.store.now).now (format_number c.args.known) c.metas.new.sink (c.in-Format.is ∙ ap Format number) (read.1 has))

pub returns-else-number-wanted-clause-version : goal.returns-else-number-wanted-clause-version
returns-else-number-wanted-clause-version g c = λ usable same has.
    let db = (state g.S.Store c.args.store.now).now in
    other_format db c.in-Format.number (format_number c.args.known) has (λ number. c.if-number-wanted.false (ap (of_z w64) (number ∙ sym c.number-wanted.ensures))) (format_told db c.in-Format.number c.metas.new.sink c.in-Format.is ((c.in_ok-metas.ensures.rows usable.0).1 has.tables))
