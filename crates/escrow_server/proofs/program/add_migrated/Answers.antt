use Rattle.std.proofs.Common.{◌∙◌}
use Rattle.std.specs.Prelude.{string_bytes}
use Rattle.escrow_server.proofs.ProgramLemmas.{lines_pushed}
use Rattle.escrow_server.proofs.program.add_migrated.Goals as goal

pub returns : goal.returns
returns c =
    lines_pushed c.push_str.result c.args.path.now (string_bytes c.args.text.now) (string_bytes c.push_str.new.self) c.as_str.result.now c.args.place c.requires
    (c.as_str.ensures.value ∙ c.in_ok-line.ensures) c.push_str.ensures.bytes
