use Rattle.std.proofs.Common.{◌≡◌, List, ℕ, false, sym, ◌∙◌, ap}
use Rattle.std.specs.Prelude.{◌==◌}
use Rattle.std.specs.List.{list_any}
use Rattle.escrow_reply.proofs.Quotes.{doubled_without}
use Rattle.escrow_reply.proofs.values.push_inner.Goals as goal

pub returns-else-contains : goal.returns-else-contains
returns-else-contains c =
    let none : list_any (λ y. y == 39) c.args.text.now ≡ false = sym (c.if-contains.ensures.value ∙ ap (list_any (λ y. y == 39)) c.as_bytes.ensures.value) in
    rw (doubled_without c.args.text.now none) c.push_text.ensures.text
