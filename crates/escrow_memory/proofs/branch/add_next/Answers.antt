use Rattle.std.proofs.Common.{◌≡◌, ◌+◌, [], sym, refl, arith, append-nil}
use Rattle.std.proofs.lemmas.List.{nil_from_length}
use Rattle.escrow_memory.specs.Rows.{next_rows}
use Rattle.escrow_memory.proofs.Splicing.{flat_map_parts}
use Rattle.escrow_memory.proofs.branch.add_next.Goals as goal
use Rattle.escrow_memory.proofs.branch.add_next.Goals.{in_default-via-in-Some+else-len-gt0, in_default-via-in_default}

-- a second part that is not inserted has no rows
pub returns-in_default-clause-rows : goal.returns-in_default-clause-rows
returns-in_default-clause-rows g c =
    let rows = g.N.Node.rows in
    let none : next_rows rows c.args.next ≡ [] =
    elim c.in_default.branch [
      | in_default-via-in-Some+else-len-gt0 w ↦ rw w.in-Some.is (nil_from_length (rows w.in-Some.node) (omega arith))
      | in_default-via-in_default w ↦ rw w.in_default.is refl
    ]
    in
    rw (none, append-nil) (sym (flat_map_parts (λ child. rows child.node.value) (c.args.place + 1) c.args.children.now.items))
