use Rattle.std.proofs.Common.{◌≡◌}
use Rattle.std.specs.List.{prefix_len}
use Rattle.escrow_script.specs.Line.{is_blank}
use Rattle.escrow_script.proofs.LineLemmas.{boundary_after_blanks}
use Rattle.escrow_script.proofs.line.after_blanks.Goals as goal

pub range_from-requires : goal.range_from-requires
range_from-requires c above =
    let counted : c.blanks.result ≡ prefix_len is_blank c.args.line.now = cc in
    boundary_after_blanks c.args.line.now c.blanks.result c.utf8.line counted
