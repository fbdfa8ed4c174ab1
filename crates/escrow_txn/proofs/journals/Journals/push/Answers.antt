use Rattle.std.specs.Prelude.{◌≡◌, ◌<◌, ◌≤◌, ◌++◌, ℕ, List, Some, None, Option, unwrap_or, option_copied, option_map, length, map, flat_map}
use Rattle.std.specs.List.{AllByRecursion, list_any}
use Rattle.std.proofs.Common.{refl, sym, ap, ap₂, subst, ◌∙◌, set, get_or, arith}
use Rattle.std.proofs.lemmas.Result.{on_err_weaker, on_ok_weaker}
use Rattle.escrow_journal.specs.Journal.{Journal, IsJournal, empty_journal, pushed, marked, later, cut_journal, is_full, is_full_beside}
use Rattle.escrow_txn.specs.Sessions.{AreKept, AreSessions, all_of, journal_at, other_at, with_journal}
use Rattle.escrow_num.specs.declared.reservation.Reservation.{Reservation}
use Rattle.std.specs.Prelude.{IsTrue}
use Rattle.escrow_journal.specs.Reservations.{reservation_before}
use Rattle.escrow_txn.proofs.EachSession.{all_sessions, is_kept, kept_set, kept_valid, session_stays}
use Rattle.escrow_txn.specs.declared.journals.TheConstants.{KEPT}
use Rattle.escrow_txn.proofs.EachSession.{is_other, other_after, other_is, other_set, other_stays}
use Rattle.escrow_txn.proofs.journals.Journals.push.Goals as goal

pub push-requires-clause-own : goal.push-requires-clause-own
push-requires-clause-own c =
    let first = c.self.inside.first.items in
    let within : c.place_of-place.result < length first = omega (arith, c.if-place-len.true, c.len.ensures) in
    sym (is_kept first c.self.inside.others c.args.r.session c.place_of-place.result c.index_mut.result.now c.self.invariant c.place_of-place.ensures.place within c.index_mut.ensures.value).number

pub push-requires-clause-above : goal.push-requires-clause-above
push-requires-clause-above c =
    let first = c.self.inside.first.items in
    let within : c.place_of-place.result < length first = omega (arith, c.if-place-len.true, c.len.ensures) in
    let k = is_kept first c.self.inside.others c.args.r.session c.place_of-place.result c.index_mut.result.now c.self.invariant c.place_of-place.ensures.place within c.index_mut.ensures.value in
    subst (λ (l : Journal). AllByRecursion (λ (earlier : Reservation). IsTrue (reservation_before earlier c.args.r)) l.reservations) k.at (rw (← c.self.view_is) at c.requires)

pub invariant_of-self : goal.invariant_of-self
invariant_of-self c =
    let first = c.self.inside.first.items in
    let within : c.place_of-place.result < length first = omega (arith, c.if-place-len.true, c.len.ensures) in
    let k = is_kept first c.self.inside.others c.args.r.session c.place_of-place.result c.index_mut.result.now c.self.invariant c.place_of-place.ensures.place within c.index_mut.ensures.value in
    kept_valid first c.self.inside.others c.args.r.session c.place_of-place.result c.push.new.self c.self.invariant c.place_of-place.ensures.place c.push.ensures.valid
    (session_stays c.push.result c.push.new.self c.index_mut.result.now (pushed c.args.r c.index_mut.result.now) refl c.push.ensures.pushed c.push.ensures.unchanged ∙ k.number)

pub returns-then-place-len-clause-pushed : goal.returns-then-place-len-clause-pushed
returns-then-place-len-clause-pushed c =
    let first = c.self.inside.first.items in
    let others = c.self.inside.others in
    let session = c.args.r.session in
    let within : c.place_of-place.result < length first = omega (arith, c.if-place-len.true, c.len.ensures) in
    let k = is_kept first others session c.place_of-place.result c.index_mut.result.now c.self.invariant c.place_of-place.ensures.place within c.index_mut.ensures.value in
    let set_is = kept_set first others session c.place_of-place.result c.push.new.self c.place_of-place.ensures.place within in
    rw (← c.self.view_is)
    (on_ok_weaker {P = c.push.new.self ≡ pushed c.args.r c.index_mut.result.now}
    {Q = all_of (set first c.place_of-place.result c.push.new.self) others ≡ with_journal (all_of first others) session (pushed c.args.r (journal_at (all_of first others) session))} c.push.result
    (λ is. set_is ∙ ap (with_journal (all_of first others) session) (is ∙ ap (pushed c.args.r) (sym k.at))) c.push.ensures.pushed)

pub returns-then-place-len-clause-unchanged : goal.returns-then-place-len-clause-unchanged
returns-then-place-len-clause-unchanged c =
    let first = c.self.inside.first.items in
    let others = c.self.inside.others in
    let within : c.place_of-place.result < length first = omega (arith, c.if-place-len.true, c.len.ensures) in
    let k = is_kept first others c.args.r.session c.place_of-place.result c.index_mut.result.now c.self.invariant c.place_of-place.ensures.place within c.index_mut.ensures.value in
    rw (← c.self.view_is)
    (on_err_weaker {P = c.push.new.self ≡ c.index_mut.result.now} {Q = all_of (set first c.place_of-place.result c.push.new.self) others ≡ all_of first others} c.push.result
    (λ is. ap (λ (l : Journal). all_of (set first c.place_of-place.result l) others) is ∙ ap (λ (ls : List Journal). all_of ls others) k.same) c.push.ensures.unchanged)

pub returns-then-place-len-clause-valid : goal.returns-then-place-len-clause-valid
returns-then-place-len-clause-valid c =
    let first = c.self.inside.first.items in
    let within : c.place_of-place.result < length first = omega (arith, c.if-place-len.true, c.len.ensures) in
    let k = is_kept first c.self.inside.others c.args.r.session c.place_of-place.result c.index_mut.result.now c.self.invariant c.place_of-place.ensures.place within c.index_mut.ensures.value in
    all_sessions (set first c.place_of-place.result c.push.new.self) c.self.inside.others
    (kept_valid first c.self.inside.others c.args.r.session c.place_of-place.result c.push.new.self c.self.invariant c.place_of-place.ensures.place c.push.ensures.valid
    (session_stays c.push.result c.push.new.self c.index_mut.result.now (pushed c.args.r c.index_mut.result.now) refl c.push.ensures.pushed c.push.ensures.unchanged ∙ k.number))

pub push_other-requires-clause-own : goal.push_other-requires-clause-own
push_other-requires-clause-own c = λ session journal found. (c.self.invariant.others_are session journal found).number

pub push_other-requires-clause-above : goal.push_other-requires-clause-above
push_other-requires-clause-above c =
    let first = c.self.inside.first.items in
    let others = c.self.inside.others in
    let session = c.args.r.session in
    let behind : length first ≤ c.place_of-place.result = omega (arith, c.if-place-len.false, c.len.ensures) in
    let last : KEPT < session = omega (arith, behind, c.self.invariant.count, c.place_of-place.ensures.place) in
    let at = other_is first others session c.place_of-place.result c.self.invariant c.place_of-place.ensures.within c.place_of-place.ensures.place behind in
    subst (λ (l : Journal). AllByRecursion (λ (earlier : Reservation). IsTrue (reservation_before earlier c.args.r)) l.reservations) at (rw (← c.self.view_is) at c.requires)

pub invariant_of-self-else-place-len : goal.invariant_of-self-else-place-len
invariant_of-self-else-place-len c =
    let first = c.self.inside.first.items in
    let others = c.self.inside.others in
    let session = c.args.r.session in
    let behind : length first ≤ c.place_of-place.result = omega (arith, c.if-place-len.false, c.len.ensures) in
    let last : KEPT < session = omega (arith, behind, c.self.invariant.count, c.place_of-place.ensures.place) in
    let at = other_is first others session c.place_of-place.result c.self.invariant c.place_of-place.ensures.within c.place_of-place.ensures.place behind in
    other_after c.push_other.result first others c.push_other.new.others session (pushed c.args.r (other_at others session)) c.self.invariant last (is_other others c.self.invariant.others_are session)
    c.push_other.ensures.pushed c.push_other.ensures.valid c.push_other.ensures.unchanged

pub returns-else-place-len-clause-pushed : goal.returns-else-place-len-clause-pushed
returns-else-place-len-clause-pushed c =
    let first = c.self.inside.first.items in
    let others = c.self.inside.others in
    let session = c.args.r.session in
    let behind : length first ≤ c.place_of-place.result = omega (arith, c.if-place-len.false, c.len.ensures) in
    let last : KEPT < session = omega (arith, behind, c.self.invariant.count, c.place_of-place.ensures.place) in
    let at = other_is first others session c.place_of-place.result c.self.invariant c.place_of-place.ensures.within c.place_of-place.ensures.place behind in
    rw (← c.self.view_is)
    (on_ok_weaker c.push_other.result
    (λ puts. other_set first others c.push_other.new.others session c.place_of-place.result (Some (pushed c.args.r (other_at others session))) (pushed c.args.r (journal_at (all_of first others) session))
    c.self.invariant c.place_of-place.ensures.within c.place_of-place.ensures.place behind puts (ap (pushed c.args.r) (sym at))) c.push_other.ensures.pushed)

pub returns-else-place-len-clause-unchanged : goal.returns-else-place-len-clause-unchanged
returns-else-place-len-clause-unchanged c =
    rw (← c.self.view_is) (on_err_weaker c.push_other.result (λ same. other_stays c.self.inside.first.items c.self.inside.others c.push_other.new.others same) c.push_other.ensures.unchanged)

pub returns-else-place-len-clause-room : goal.returns-else-place-len-clause-room
returns-else-place-len-clause-room c =
    let first = c.self.inside.first.items in
    let others = c.self.inside.others in
    let session = c.args.r.session in
    let behind : length first ≤ c.place_of-place.result = omega (arith, c.if-place-len.false, c.len.ensures) in
    let last : KEPT < session = omega (arith, behind, c.self.invariant.count, c.place_of-place.ensures.place) in
    let at = other_is first others session c.place_of-place.result c.self.invariant c.place_of-place.ensures.within c.place_of-place.ensures.place behind in
    rw (← c.self.view_is) (λ many. subst (λ (l : Journal). IsTrue (is_full l)) (sym at) (c.push_other.ensures.room many))

pub returns-else-place-len-clause-valid : goal.returns-else-place-len-clause-valid
returns-else-place-len-clause-valid c =
    let first = c.self.inside.first.items in
    let others = c.self.inside.others in
    let session = c.args.r.session in
    let behind : length first ≤ c.place_of-place.result = omega (arith, c.if-place-len.false, c.len.ensures) in
    let last : KEPT < session = omega (arith, behind, c.self.invariant.count, c.place_of-place.ensures.place) in
    let at = other_is first others session c.place_of-place.result c.self.invariant c.place_of-place.ensures.within c.place_of-place.ensures.place behind in
    all_sessions first c.push_other.new.others
    (other_after c.push_other.result first others c.push_other.new.others session (pushed c.args.r (other_at others session)) c.self.invariant last (is_other others c.self.invariant.others_are session)
    c.push_other.ensures.pushed c.push_other.ensures.valid c.push_other.ensures.unchanged)
