use Rattle.std.proofs.Common.{ap}
use Rattle.escrow_num.specs.declared.session.TheConstants.Session.{MAX_SHARED}
use Rattle.escrow_server.proofs.RanLemmas.{all_ran, on_ok}
use Rattle.escrow_server.proofs.opened.serve_in_turn.Goals.{in-Run+in_ok-serve_script-in-Run, in-Serve+in_ok-serve_lines-in-Serve}
use Rattle.escrow_server.proofs.opened.serve_in_turn.Goals as goal

pub returns-clause-ran : goal.returns-clause-ran
returns-clause-ran g c = λ mode. on_ok c.args.opened (elim c.match-args.branch [
  | in-Run+in_ok-serve_script-in-Run w ↦
      all_ran g.S.Store MAX_SHARED (g.R.Read.remaining c.args.client.now.reader) c.args.databases.now.items w.serve_script.new.databases.items c.match-args.databases.items
      (g.W.Write.contents c.args.client.now.writer) (g.W.Write.contents w.serve_script.new.client.writer) (g.W.Write.contents c.match-args.client.writer) w.serve_script.result
      w.in_ok-serve_script-in-Run.field-0 w.in_ok-serve_script-in-Run.was (ap (λ v. v.items) w.databases-is) (ap (λ v. g.W.Write.contents v.writer) w.client-is) w.serve_script.ensures.ran
  | in-Serve+in_ok-serve_lines-in-Serve w ↦ absurd (cc)
])

pub returns-clause-lines_ran : goal.returns-clause-lines_ran
returns-clause-lines_ran g c = λ mode. on_ok c.args.opened (elim c.match-args.branch [
  | in-Run+in_ok-serve_script-in-Run w ↦ absurd (cc)
  | in-Serve+in_ok-serve_lines-in-Serve w ↦
      all_ran g.S.Store c.args.args.now.sessions (g.R.Read.remaining c.args.client.now.reader) c.args.databases.now.items w.serve_lines.new.databases.items c.match-args.databases.items
      (g.W.Write.contents c.args.client.now.writer) (g.W.Write.contents w.serve_lines.new.client.writer) (g.W.Write.contents c.match-args.client.writer) w.serve_lines.result
      w.in_ok-serve_lines-in-Serve.field-0 w.in_ok-serve_lines-in-Serve.was (ap (λ v. v.items) w.databases-is) (ap (λ v. g.W.Write.contents v.writer) w.client-is) w.serve_lines.ensures.ran
])
