use Rattle.std.proofs.Common.{refl, arith}
use Rattle.escrow_memory.proofs.Cuts.{place_at}
use Rattle.escrow_memory.proofs.entries.Entries.seek_near.Goals as goal

pub returns-then-passes_before-clause-place : goal.returns-then-passes_before-clause-place
returns-then-passes_before-clause-place g c = place_at _ _ _ c.requires c.in-Some.ensures.fails (c.passes_before.ensures c.if-passes_before.true)

pub returns-clause-place : goal.returns-clause-place
returns-clause-place g c =
    let passed = c.in_default.ensures.passes refl in
    place_at _ _ _ c.requires c.in_ok-found.ensures.fails (omega (arith, passed, c.saturating_add-next.ensures))
