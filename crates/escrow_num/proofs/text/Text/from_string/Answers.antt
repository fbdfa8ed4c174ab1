use Rattle.std.proofs.lemmas.Str.{IsUtf8-string_bytes}
use Rattle.escrow_num.proofs.text.Text.from_string.Goals as goal

pub invariant_of-result : goal.invariant_of-result
invariant_of-result c = IsUtf8-string_bytes c.args.text
