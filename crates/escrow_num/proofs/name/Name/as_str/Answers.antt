use Rattle.escrow_num.proofs.Spelling.{name_is_text}
use Rattle.escrow_num.proofs.name.Name.as_str.Goals as goal

pub unreachable-requires : goal.unreachable-requires
unreachable-requires c = c.in-Err.ensures.cases.0 (name_is_text c.as_bytes.result.now c.as_bytes.ensures.within.spelled)
