use Rattle.std.proofs.Common.{◌≡◌, true, arith, ◌∙◌}
use Rattle.escrow_num.specs.Name.{spells_name}
use Rattle.escrow_num.proofs.NameLemmas.{name_kept}
use Rattle.escrow_num.proofs.name.Name.new.Goals as goal

pub in_upper_case-requires : goal.in_upper_case-requires
in_upper_case-requires c = rw (name_kept c.args.text.now (cc)) (record { spelled = cc; short = omega (arith, c.if-text-gt-MAX_LEN.false) })

pub returns : goal.returns
returns c =
    let spelled : spells_name c.args.text.now ≡ true = cc in
    (record { spelled = spelled; short = omega (arith, c.if-text-gt-MAX_LEN.false) }, c.in_upper_case.ensures ∙ name_kept c.args.text.now spelled)
