use Rattle.escrow_server.proofs.program.at_once_over_files.Goals as goal

-- the lines about migrated stores come first
pub returns-clause-quiet : goal.returns-clause-quiet
returns-clause-quiet g c = λ ended. (g.F.Write.contents c.open_over_files-opened.new.errors, c.open_over_files-opened.ensures.told, c.close_over_files.ensures.quiet ended)

pub returns-clause-said : goal.returns-clause-said
returns-clause-said g c = λ failed. (g.F.Write.contents c.open_over_files-opened.new.errors, c.open_over_files-opened.ensures.told, c.close_over_files.ensures.said failed)
