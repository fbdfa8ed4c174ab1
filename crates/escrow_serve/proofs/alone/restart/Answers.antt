use Rattle.std.proofs.Common.{◌≡◌, false, subst, sym}
use Rattle.escrow_core.proofs.Serving.{still_clean}
use Rattle.escrow_machine.specs.declared.reply.Reply.{Reply}
use Rattle.escrow_machine.specs.Reply.{holds_memory}
use Rattle.escrow_serve.proofs.ServeLemmas.{restart_short}
use Rattle.escrow_machine.specs.declared.event.Event.TheVariants as event
use Rattle.std.specs.Prelude.{[], ◌∷◌}
use Rattle.escrow_serve.specs.Ran.{Ran}
use Rattle.escrow_serve.proofs.RanLemmas.{ran_restart}
use Rattle.escrow_serve.proofs.alone.restart.Goals as goal

pub returns-clause-clean : goal.returns-clause-clean
returns-clause-clean g c = λ clean. still_clean _ _ _ c.restart-outcome.ensures.crash clean

pub returns-clause-short : goal.returns-clause-short
returns-clause-short g c = subst (λ (r : Reply). holds_memory r ≡ false) (sym c.to_restart.ensures) (restart_short c.restart-outcome.result)

pub returns-clause-ran : goal.returns-clause-ran
returns-clause-ran g c =
    let old = c.args.database.now in
    let new = c.restart-outcome.new.self in
    subst (λ (r : Reply). Ran g.S.Store old (event.Restart ∷ []) (r ∷ []) new) (sym c.to_restart.ensures)
    (ran_restart g.S.Store old new c.restart-outcome.result c.restart-outcome.ensures.event c.restart-outcome.ensures.usable c.restart-outcome.ensures.crash)
