use Rattle.std.proofs.Common.{◌≡◌, ap, ◌∙◌}
use Rattle.std.specs.Prelude.{string_bytes}
use Rattle.std.proofs.lemmas.Result.{IfOk-weaker}
use Rattle.escrow_server.specs.Files.{file_of}
use Rattle.escrow_server.specs.Program.{migrated_line}
use Rattle.escrow_server.proofs.program.migrated_line.Goals as goal

pub returns : goal.returns
returns c =
    IfOk-weaker c.format.result _ (λ line. string_bytes line ≡ migrated_line (file_of c.args.path.now c.args.place)) (λ line wrote. wrote ∙ ap migrated_line c.in_ok-file.ensures) c.format.ensures.ok
