use Rattle.sqlite.specs.Held.{state}
use Rattle.escrow_tables.proofs.Verifying.{meet_again}
use Rattle.escrow_tables.proofs.tables.Tables.verify.Goals as goal
use Rattle.escrow_tables.proofs.tables.Tables.verify.Goals.{in-Ok, in-Err-Memory, in-Err}

pub returns-clause-meet : goal.returns-clause-meet
returns-clause-meet g c = λ clean.
    elim c.match-verify.branch [
      | in-Ok w ↦
          rw w.result-is (meet_again (state g.S.Store c.self.inside.store) (state g.S.Store c.verify.new.store) (state g.S.Store c.self.inside.last.value) c.self.inside.catalog w.in-Ok.field-0 c.self.invariant
          w.in-Ok.ensures.only_reads w.in-Ok.ensures.listed w.in-Ok.ensures.store clean)
      | in-Err-Memory w ↦ rw w.result-is tt
      | in-Err w ↦ rw w.result-is tt
    ]
