use Rattle.std.proofs.Common.{arith, ◌∙◌, ap, drop}
use Rattle.escrow_script.proofs.ScriptLemmas.{shorter_part}
use Rattle.escrow_script.proofs.unread.Unread.skip.Goals as goal

pub returns-then-count-self : goal.returns-then-count-self
returns-then-count-self c =
    shorter_part c.self.inside.chunk.items c.self.inside.from c.self.inside.to c.args.count (omega arith) ∙ ap (drop c.args.count) c.self.view_is
