use Rattle.std.proofs.Common.{◌≡◌, true, false, refl}
use Rattle.escrow_sql.proofs.TextLemmas.{copied}
use Rattle.escrow_sql.proofs.written.copy_undoubled.Goals as goal
use Rattle.escrow_sql.proofs.written.copy_undoubled.Goals.{else-behind-via-then-behind+else-c-eq39, else-behind-via-else-behind}

pub loop-c-preserved : goal.loop-c-preserved
loop-c-preserved c =
    copied c.loop-c.behind _ c.in-Some.c _ _ _ _ c.args.raw.now
    (elim c.else-behind.branch [ else-behind-via-then-behind+else-c-eq39 w ↦ (λ h. w.if-c-eq39.false) | else-behind-via-else-behind w ↦ (λ h. let e : false ≡ true = cc in absurd (cc)) ])
    refl c.loop-c.invariant c.in-Some.ensures.steps.0 c.in_ok-push.ensures.bytes
