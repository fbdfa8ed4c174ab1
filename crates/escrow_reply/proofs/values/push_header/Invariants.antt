use Rattle.std.proofs.Common.{◌≡◌, ◌++◌, drop, flat_map}
use Rattle.escrow_machine.specs.declared.reply.Heading.{Heading}
use Rattle.escrow_reply.specs.Text.{bar}
use Rattle.escrow_reply.proofs.values.push_header.Given as goal

abbrev pub invariant-loop-heading : goal.invariant-loop-heading
invariant-loop-heading l = l.line.items ++ flat_map (λ (heading : Heading). bar ++ heading.name) (drop l.heading-index l.others)
    ≡ l.initial.line.items ++ flat_map (λ (heading : Heading). bar ++ heading.name) l.others
