use Rattle.std.proofs.Common.{arith}
use Rattle.escrow_sql.proofs.NameLemmas.{cut_name}
use Rattle.escrow_sql.proofs.lexer.name.read_name.Goals as goal

pub name-sort-requires : goal.name-sort-requires
name-sort-requires c = cut_name c.args.bytes.now c.name_len-len.result c.name_len-len.ensures c.requires (omega arith)
