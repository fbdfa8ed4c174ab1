-- Each edit splices the slots, and thereby their rows.
use Rattle.std.proofs.Common.{◌≡◌, ◌+◌, ◌<◌, ◌++◌, ◌∷◌, [], length, take, drop, sym, arith, add-one, add-zero, take-append-drop}
use Rattle.std.proofs.lemmas.List.{length-map}
use Rattle.sqlite_value.specs.Order.{Row}
use Rattle.escrow_memory.specs.declared.slot.Slot.{Slot}
use Rattle.escrow_memory.specs.Slot.{slot_row}
use Rattle.escrow_memory.proofs.LeafLemmas.{IsBehind, set_spliced, rows_spliced, row_spliced, within_spliced}
use Rattle.escrow_memory.proofs.leaf.Leaf.edited.Goals as goal
use Rattle.escrow_memory.proofs.leaf.Leaf.edited.Goals.{Joined-cut-eq1, Joined-cut-eq1-2, then-cut-eq1, else-cut-eq1, then-cut-eq1-2, else-cut-eq1-2+in_ok-insert}

-- the slots if there is no new entry
taken_out : (c : Joined-cut-eq1) → c.if-cut-eq1.slots.items ≡ take c.args.at c.args.self.slots.items ++ drop (c.args.at + c.args.cut) c.args.self.slots.items
taken_out c =
    elim c.if-cut-eq1.branch [
      | then-cut-eq1 w ↦ rw (w.slots-is, w.if-cut-eq1.true, add-one) w.remove.ensures.items
      | else-cut-eq1 w ↦ let none : c.args.cut ≡ 0 = omega arith in rw (w.slots-is, none, add-zero) (sym (take-append-drop c.args.at c.args.self.slots.items))
    ]

pub returns-in_default : goal.returns-in_default
returns-in_default c =
    rw (taken_out (goal.at.returns-in_default c).Joined-cut-eq1, c.in_default.is) (rows_spliced (slot_row c.args.self.bytes.items) c.args.at c.args.cut [] c.args.self.slots.items)

-- the slots if there is a new entry
put_in : (c : Joined-cut-eq1-2) → c.if-cut-eq1-2.slots.items ≡ take c.args.at c.args.self.slots.items ++ c.in_ok-slot.slot ∷ drop (c.args.at + c.args.cut) c.args.self.slots.items
put_in c =
    elim c.if-cut-eq1-2.branch [
      | then-cut-eq1-2 w ↦
          let inside : c.args.at < length c.args.self.slots.items = omega (arith, length-map {A = Slot} {B = Row}) in
          rw (w.slots-is, w.if-cut-eq1-2.true) (set_spliced c.args.self.slots.items c.args.at c.in_ok-slot.slot inside)
      | else-cut-eq1-2+in_ok-insert w ↦ let none : c.args.cut ≡ 0 = omega arith in rw (w.slots-is, none, add-zero) w.in_ok-insert.ensures.items
    ]

-- the new slot is after the old bytes
behind : (c : Joined-cut-eq1-2) → IsBehind c.args.self.bytes.items c.in-Some.entry.now c.in_ok-slot.slot
behind c = rw c.in_ok-slot.ensures.ok at c.in_ok-slot.ensures.slot

pub invariant_of-result-2 : goal.invariant_of-result-2
invariant_of-result-2 c = record {
  within = rw (put_in c, c.in_ok-slot.ensures.ok) (within_spliced _ _ _ _ c.args.self.within (behind c) c.args.at c.args.cut);
}

pub returns : goal.returns
returns c =
    let joined = (goal.at.returns c).Joined-cut-eq1-2 in
    rw (put_in joined, c.in_ok-slot.ensures.ok, c.in-Some.is) (row_spliced _ _ _ _ c.args.self.within (behind joined) c.args.at c.args.cut)
