use Rattle.std.proofs.Common.{◌≡◌, ℕ, List, Option, Some, inl, subst, sym}
use Rattle.escrow_server.specs.Program.{IsQuiet}
use Rattle.escrow_server.proofs.ProgramLemmas.{is_quiet}
use Rattle.escrow_server.proofs.program.run_in_turn.Goals.{in-None, in-Some}
use Rattle.escrow_server.proofs.program.run_in_turn.Goals as goal

-- in memory there is no migrated store; over files the path is the one that is asked for
pub returns-clause-quiet : goal.returns-clause-quiet
returns-clause-quiet g c = λ ended.
    let contents = g.F.Write.contents in
    let old = contents c.args.errors.now in
    let from = c.from.ensures in
    elim c.match-args.branch [
      | in-None w ↦
          let status = w.status-is in
          let zero : w.in_turn_in_memory-status.result ≡ 0 = cc in
          subst (λ errors. IsQuiet c.args.args.now.path old (contents errors)) (sym w.errors-is)
          (is_quiet c.args.args.now.path old (contents w.in_turn_in_memory-status.new.errors) (inl (w.in_turn_in_memory-status.ensures.silent zero)))
      | in-Some w ↦
          let status = w.status-is in
          let zero : w.in_turn_over_files-status.result ≡ 0 = cc in
          let is = w.in-Some.is in
          let value = w.as_str.ensures.value in
          let path : c.args.args.now.path ≡ Some w.as_str.result.now = cc in
          subst (λ errors. IsQuiet c.args.args.now.path old (contents errors)) (sym w.errors-is)
          (subst (λ (p : Option (List ℕ)). IsQuiet p old (contents w.in_turn_over_files-status.new.errors)) (sym path) (w.in_turn_over_files-status.ensures.quiet zero))
    ]
