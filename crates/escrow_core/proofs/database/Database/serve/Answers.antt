use Rattle.std.proofs.Common.{inl, inr, subst, sym}
use Rattle.std.specs.Prelude.{◌≡◌, false}
use Rattle.sqlite.proofs.StateLemmas.{survives_weaker}
use Rattle.escrow_machine.specs.declared.reply.Reply.{Reply}
use Rattle.escrow_machine.specs.Reply.{tells_write}
use Rattle.escrow_core.proofs.Lasting.{restart_quiet, step_lasts}
use Rattle.escrow_core.proofs.database.Database.serve.Goals as goal

pub returns-in-Statement-clause-crash : goal.returns-in-Statement-clause-crash
returns-in-Statement-clause-crash g c = rw c.in-Statement.is c.step.ensures.crash

pub returns-in-Restart-clause-crash : goal.returns-in-Restart-clause-crash
returns-in-Restart-clause-crash g c = survives_weaker _ _ _ _ (λ _ trees none. absurd none) c.restart.ensures.crash

pub returns-in-Statement-clause-durable : goal.returns-in-Statement-clause-durable
returns-in-Statement-clause-durable g c =
    rw c.in-Statement.is
    (step_lasts g.S.Store c.in-Statement.session c.in-Statement.statement c.args.self.now c.step.new.self c.step.result c.step.ensures.event c.step.ensures.crash c.step.ensures.durable)

pub returns-in-Restart-clause-durable : goal.returns-in-Restart-clause-durable
returns-in-Restart-clause-durable g c = λ clean trees may.
    elim (c.restart.ensures.crash.crash clean trees may) [
      | inl before ↦ inl (subst (λ (answer : Reply). tells_write answer ≡ false) (sym c.to_restart.ensures) (restart_quiet c.restart.result), before)
      | inr none ↦ absurd none
    ]
