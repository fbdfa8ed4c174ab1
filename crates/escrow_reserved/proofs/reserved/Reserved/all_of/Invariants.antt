use Rattle.std.proofs.Common.{◌≡◌, map, take}
use Rattle.std.specs.Prelude.{flat_map}
use Rattle.escrow_journal.specs.Reservations.{own}
use Rattle.escrow_reserved.proofs.reserved.Reserved.all_of.Given as goal

abbrev pub invariant-loop-session : goal.invariant-loop-session
invariant-loop-session l = map (λ r. r.now) l.all.items ≡ flat_map (λ entry. own entry.0 l.self.txns.reservations) (take l.session-index l.plan)
