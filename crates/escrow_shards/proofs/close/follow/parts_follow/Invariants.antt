use Rattle.escrow_shards.proofs.Following.{Left, Told}
use Rattle.escrow_shards.proofs.close.follow.parts_follow.Given as goal

abbrev pub invariant-loop-part : goal.invariant-loop-part
invariant-loop-part g l = Left l.database l.parts l.first l.last l.count l.part-index l.number l.base × Told g.S.Store l.database l.parts l.part-index
