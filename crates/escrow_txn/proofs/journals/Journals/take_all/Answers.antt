use Rattle.std.specs.Prelude.{◌≡◌, ◌<◌, ◌≤◌, ◌++◌, ℕ, List, Some, None, Option, unwrap_or, option_copied, option_map, length, map, flat_map}
use Rattle.std.specs.List.{AllByRecursion, list_any}
use Rattle.std.proofs.Common.{refl, sym, ap, ap₂, subst, ◌∙◌, set, get_or, arith}
use Rattle.std.proofs.lemmas.Result.{on_err_weaker, on_ok_weaker}
use Rattle.escrow_journal.specs.Journal.{Journal, IsJournal, empty_journal, pushed, marked, later, cut_journal, is_full, is_full_beside}
use Rattle.escrow_txn.specs.Sessions.{AreKept, AreSessions, all_of, journal_at, other_at, with_journal}
use Rattle.escrow_txn.proofs.EachSession.{all_sessions, is_kept, kept_set, kept_valid, session_stays}
use Rattle.escrow_txn.specs.declared.journals.TheConstants.{KEPT}
use Rattle.escrow_txn.proofs.EachSession.{other_is, other_set, taken_valid}
use Rattle.escrow_txn.proofs.journals.Journals.take_all.Goals as goal

pub invariant_of-self : goal.invariant_of-self
invariant_of-self c =
    let first = c.self.inside.first.items in
    let within : c.place_of-place.result < length first = omega (arith, c.if-place-len.true, c.len.ensures) in
    let k = is_kept first c.self.inside.others c.args.session c.place_of-place.result c.index_mut.result.now c.self.invariant c.place_of-place.ensures.place within c.index_mut.ensures.value in
    kept_valid first c.self.inside.others c.args.session c.place_of-place.result c.take_all.new.self c.self.invariant c.place_of-place.ensures.place c.take_all.ensures.valid
    (ap (λ (l : Journal). l.session) c.take_all.ensures.none ∙ k.number)

pub returns-then-place-len-clause-none : goal.returns-then-place-len-clause-none
returns-then-place-len-clause-none c =
    let first = c.self.inside.first.items in
    let others = c.self.inside.others in
    let session = c.args.session in
    let within : c.place_of-place.result < length first = omega (arith, c.if-place-len.true, c.len.ensures) in
    let k = is_kept first others session c.place_of-place.result c.index_mut.result.now c.self.invariant c.place_of-place.ensures.place within c.index_mut.ensures.value in
    rw (← c.self.view_is)
    (kept_set first others session c.place_of-place.result c.take_all.new.self c.place_of-place.ensures.place within
    ∙ ap (with_journal (all_of first others) session) (c.take_all.ensures.none ∙ ap empty_journal k.number))

pub returns-then-place-len-clause-valid : goal.returns-then-place-len-clause-valid
returns-then-place-len-clause-valid c =
    let first = c.self.inside.first.items in
    let within : c.place_of-place.result < length first = omega (arith, c.if-place-len.true, c.len.ensures) in
    let k = is_kept first c.self.inside.others c.args.session c.place_of-place.result c.index_mut.result.now c.self.invariant c.place_of-place.ensures.place within c.index_mut.ensures.value in
    all_sessions (set first c.place_of-place.result c.take_all.new.self) c.self.inside.others
    (kept_valid first c.self.inside.others c.args.session c.place_of-place.result c.take_all.new.self c.self.invariant c.place_of-place.ensures.place c.take_all.ensures.valid
    (ap (λ (l : Journal). l.session) c.take_all.ensures.none ∙ k.number))

pub invariant_of-self-else-place-len : goal.invariant_of-self-else-place-len
invariant_of-self-else-place-len c = taken_valid c.self.inside.first.items c.self.inside.others c.take_other.new.others c.args.session c.self.invariant c.take_other.ensures.none

pub returns-else-place-len-clause-all : goal.returns-else-place-len-clause-all
returns-else-place-len-clause-all c =
    let first = c.self.inside.first.items in
    let others = c.self.inside.others in
    let session = c.args.session in
    let behind : length first ≤ c.place_of-place.result = omega (arith, c.if-place-len.false, c.len.ensures) in
    let last : KEPT < session = omega (arith, behind, c.self.invariant.count, c.place_of-place.ensures.place) in
    let at = other_is first others session c.place_of-place.result c.self.invariant c.place_of-place.ensures.within c.place_of-place.ensures.place behind in
    rw (← c.self.view_is) (c.take_other.ensures.all ∙ ap (λ (l : Journal). l.reservations) (sym at))

pub returns-else-place-len-clause-none : goal.returns-else-place-len-clause-none
returns-else-place-len-clause-none c =
    let first = c.self.inside.first.items in
    let others = c.self.inside.others in
    let session = c.args.session in
    let behind : length first ≤ c.place_of-place.result = omega (arith, c.if-place-len.false, c.len.ensures) in
    let last : KEPT < session = omega (arith, behind, c.self.invariant.count, c.place_of-place.ensures.place) in
    let at = other_is first others session c.place_of-place.result c.self.invariant c.place_of-place.ensures.within c.place_of-place.ensures.place behind in
    rw (← c.self.view_is)
    (other_set first others c.take_other.new.others session c.place_of-place.result None (empty_journal session) c.self.invariant c.place_of-place.ensures.within c.place_of-place.ensures.place behind
    c.take_other.ensures.none refl)

pub returns-else-place-len-clause-valid : goal.returns-else-place-len-clause-valid
returns-else-place-len-clause-valid c =
    all_sessions c.self.inside.first.items c.take_other.new.others (taken_valid c.self.inside.first.items c.self.inside.others c.take_other.new.others c.args.session c.self.invariant c.take_other.ensures.none)
