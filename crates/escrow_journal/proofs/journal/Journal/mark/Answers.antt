use Rattle.std.specs.Prelude.{◌≡◌, List, length, filter, not, IsSome, IsTrue}
use Rattle.std.proofs.Common.{ap, sym, subst, ◌∙◌, arith}
use Rattle.escrow_num.specs.declared.reservation.Savepoint.{Savepoint}
use Rattle.escrow_journal.specs.Inside.{journal_of}
use Rattle.escrow_journal.specs.Journal.{Journal, IsJournal, is_full_beside, marked}
use Rattle.escrow_journal.specs.Savepoints.{savepoint_of}
use Rattle.escrow_journal.proofs.Kept.{full_beside, room_beside, room_again, named_found, marked_is, mark_kept}
use Rattle.escrow_journal.proofs.Named.{has_name}
use Rattle.escrow_journal.proofs.Outcomes.{on_ok}
use Rattle.escrow_journal.proofs.journal.Journal.mark.Goals as goal

pub returns-then-count_others-ge-MAX_SAVEPOINTS-clause-room : goal.returns-then-count_others-ge-MAX_SAVEPOINTS-clause-room
returns-then-count_others-ge-MAX_SAVEPOINTS-clause-room c = λ _.
    let name = c.args.name in
    let count = c.count_others.ensures ∙ ap (λ (ps : List Savepoint). length (filter (λ p. not (has_name name p)) ps)) c.deref.ensures in
    subst (λ (log : Journal). IsTrue (is_full_beside name log)) c.self.view_is
    (full_beside name (journal_of c.self.inside) c.count_others.result c.self.invariant count c.if-count_others-ge-MAX_SAVEPOINTS.true)

pub returns-then-count_others-ge-MAX_SAVEPOINTS-clause-again : goal.returns-then-count_others-ge-MAX_SAVEPOINTS-clause-again
returns-then-count_others-ge-MAX_SAVEPOINTS-clause-again c = λ here.
    let name = c.args.name in
    let count = c.count_others.ensures ∙ ap (λ (ps : List Savepoint). length (filter (λ p. not (has_name name p)) ps)) c.deref.ensures in
    let stands = subst (λ (log : Journal). IsSome (savepoint_of log.session name log.savepoints)) (sym c.self.view_is) here in
    let room = room_again name (journal_of c.self.inside) c.count_others.result c.self.invariant count stands in
    absurd (omega arith)

pub returns-then-is_err-clause-refused : goal.returns-then-is_err-clause-refused
returns-then-is_err-clause-refused c = λ full.
    let name = c.args.name in
    let count = c.count_others.ensures ∙ ap (λ (ps : List Savepoint). length (filter (λ p. not (has_name name p)) ps)) c.deref.ensures in
    let beside = subst (λ (log : Journal). IsTrue (is_full_beside name log)) (sym c.self.view_is) full in
    absurd (room_beside name (journal_of c.self.inside) c.count_others.result c.self.invariant count c.if-count_others-ge-MAX_SAVEPOINTS.false beside)

pub returns-then-is_err-clause-again : goal.returns-then-is_err-clause-again
returns-then-is_err-clause-again c = λ here.
    let name = c.args.name in
    let stands = subst (λ (log : Journal). IsSome (savepoint_of log.session name log.savepoints)) (sym c.self.view_is) here in
    sym c.if-is_err.ensures.negation ∙ c.make_room.ensures.again (named_found name (journal_of c.self.inside) c.self.invariant stands)

-- the journal's own list, with the new savepoint at the end
made : (c : goal.After-push_reserved) → record (journal_of c.self.inside) { savepoints = c.push_reserved.new.self.items } ≡ marked c.args.name c.args.id (journal_of c.self.inside)
made c =
    let name = c.args.name in
    let without = on_ok c.make_room.result (c.make_room.new.savepoints.items ≡ filter (λ (p : Savepoint). not (has_name name p)) c.self.inside.savepoints.items)
    (sym c.if-is_err.ensures.value) c.make_room.ensures.without in
    marked_is name c.args.id (journal_of c.self.inside) c.self.invariant c.make_room.new.savepoints.items c.push_reserved.new.self.items without c.push_reserved.ensures.items

-- there was room for it
room : (c : goal.After-push_reserved) → IsTrue (is_full_beside c.args.name (journal_of c.self.inside)) → ⊥
room c =
    let name = c.args.name in
    let count = c.count_others.ensures ∙ ap (λ (ps : List Savepoint). length (filter (λ p. not (has_name name p)) ps)) c.deref.ensures in
    room_beside name (journal_of c.self.inside) c.count_others.result c.self.invariant count c.if-count_others-ge-MAX_SAVEPOINTS.false

pub invariant_of-self-2 : goal.invariant_of-self-2
invariant_of-self-2 c = subst IsJournal (sym (made c)) (mark_kept c.args.name c.args.id (journal_of c.self.inside) c.self.invariant (room c))

pub returns-clause-marked : goal.returns-clause-marked
returns-clause-marked c = made c ∙ ap (λ (log : Journal). marked c.args.name c.args.id log) c.self.view_is

pub returns-clause-refused : goal.returns-clause-refused
returns-clause-refused c = λ full. absurd (room c (subst (λ (log : Journal). IsTrue (is_full_beside c.args.name log)) (sym c.self.view_is) full))

pub returns-clause-valid : goal.returns-clause-valid
returns-clause-valid c = invariant_of-self-2 c
