use Rattle.std.specs.Prelude.{[], ◌∷◌}
use Rattle.escrow_num.specs.declared.session.End.TheVariants.{Commit}
use Rattle.escrow_tests.proofs.Placed.{one_less}
use Rattle.escrow_tests.proofs.tests.bounds.commit_first.Goals as goal

pub remove-requires : goal.remove-requires
remove-requires c = (c.requires.0, c.args.second.now ∷ [], [], c.requires.1, c.requires.3)

pub returns : goal.returns
returns c = one_less Commit c.args.bounds.now c.remove.new.self c.args.row.now c.args.first.now c.args.second.now c.remove.ensures.gives c.requires
