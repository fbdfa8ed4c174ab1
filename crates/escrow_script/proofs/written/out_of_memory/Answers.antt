use Rattle.std.proofs.Common.{ℕ, List, length, sym, subst, arith}
use Rattle.std.specs.Io.KnownBytes.{Appends}
use Rattle.std.proofs.Math.ListN.{drop_of_length-le}
use Rattle.std.proofs.lemmas.List.{take_all}
use Rattle.escrow_script.proofs.WrittenLemmas.{leaves_some}
use Rattle.escrow_script.proofs.written.out_of_memory.Goals as goal

pub returns-in-Ok : goal.returns-in-Ok
returns-in-Ok g c =
    let sent = g.C.Client.sent in
    let items = c.args.replies.now.items in (
      length items,
      subst (λ (bytes : List ℕ). Appends (sent c.args.client.now) (sent c.write_gathered.new.client) bytes) (sym (take_all (length items) items (omega arith))) c.in-Ok.ensures.ok,
      drop_of_length-le items (omega arith),
    )

pub returns-in-Err : goal.returns-in-Err
returns-in-Err g c =
    let wrote = c.in-Err.ensures in
    (wrote.err.0, wrote.err.2, leaves_some c.in-Err.fault c.args.replies.now.items wrote.err.0 wrote.kind wrote.err.1)
