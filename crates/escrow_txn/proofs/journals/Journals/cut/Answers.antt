use Rattle.std.specs.Prelude.{◌≡◌, ◌<◌, ◌≤◌, ◌++◌, ℕ, List, Some, None, Option, unwrap_or, option_copied, option_map, length, map, flat_map}
use Rattle.std.specs.List.{AllByRecursion, list_any}
use Rattle.std.proofs.Common.{refl, sym, ap, ap₂, subst, ◌∙◌, set, get_or, arith}
use Rattle.std.proofs.lemmas.Result.{on_err_weaker, on_ok_weaker}
use Rattle.escrow_journal.specs.Journal.{Journal, IsJournal, empty_journal, pushed, marked, later, cut_journal, is_full, is_full_beside}
use Rattle.escrow_txn.specs.Sessions.{AreKept, AreSessions, all_of, journal_at, other_at, with_journal}
use Rattle.escrow_txn.proofs.EachSession.{all_sessions, cut_session, is_kept, kept_set, kept_valid, session_stays}
use Rattle.escrow_txn.specs.declared.journals.TheConstants.{KEPT}
use Rattle.escrow_txn.proofs.EachSession.{cut_set, cut_valid, other_is}
use Rattle.escrow_txn.proofs.journals.Journals.cut.Goals as goal

pub invariant_of-self : goal.invariant_of-self
invariant_of-self c =
    let first = c.self.inside.first.items in
    let within : c.place_of-place.result < length first = omega (arith, c.if-place-len.true, c.len.ensures) in
    let k = is_kept first c.self.inside.others c.args.session c.place_of-place.result c.index_mut.result.now c.self.invariant c.place_of-place.ensures.place within c.index_mut.ensures.value in
    kept_valid first c.self.inside.others c.args.session c.place_of-place.result c.cut.new.self c.self.invariant c.place_of-place.ensures.place c.cut.ensures.valid
    (ap (λ (l : Journal). l.session) c.cut.ensures.cut ∙ cut_session c.args.name c.index_mut.result.now ∙ k.number)

pub returns-then-place-len-clause-cut : goal.returns-then-place-len-clause-cut
returns-then-place-len-clause-cut c =
    let first = c.self.inside.first.items in
    let others = c.self.inside.others in
    let session = c.args.session in
    let within : c.place_of-place.result < length first = omega (arith, c.if-place-len.true, c.len.ensures) in
    let k = is_kept first others session c.place_of-place.result c.index_mut.result.now c.self.invariant c.place_of-place.ensures.place within c.index_mut.ensures.value in
    rw (← c.self.view_is)
    (kept_set first others session c.place_of-place.result c.cut.new.self c.place_of-place.ensures.place within
    ∙ ap (with_journal (all_of first others) session) (c.cut.ensures.cut ∙ ap (cut_journal c.args.name) (sym k.at)))

pub returns-then-place-len-clause-valid : goal.returns-then-place-len-clause-valid
returns-then-place-len-clause-valid c =
    let first = c.self.inside.first.items in
    let within : c.place_of-place.result < length first = omega (arith, c.if-place-len.true, c.len.ensures) in
    let k = is_kept first c.self.inside.others c.args.session c.place_of-place.result c.index_mut.result.now c.self.invariant c.place_of-place.ensures.place within c.index_mut.ensures.value in
    all_sessions (set first c.place_of-place.result c.cut.new.self) c.self.inside.others
    (kept_valid first c.self.inside.others c.args.session c.place_of-place.result c.cut.new.self c.self.invariant c.place_of-place.ensures.place c.cut.ensures.valid
    (ap (λ (l : Journal). l.session) c.cut.ensures.cut ∙ cut_session c.args.name c.index_mut.result.now ∙ k.number))

pub invariant_of-self-else-place-len : goal.invariant_of-self-else-place-len
invariant_of-self-else-place-len c =
    let first = c.self.inside.first.items in
    let others = c.self.inside.others in
    let session = c.args.session in
    let behind : length first ≤ c.place_of-place.result = omega (arith, c.if-place-len.false, c.len.ensures) in
    let last : KEPT < session = omega (arith, behind, c.self.invariant.count, c.place_of-place.ensures.place) in
    let at = other_is first others session c.place_of-place.result c.self.invariant c.place_of-place.ensures.within c.place_of-place.ensures.place behind in
    cut_valid first others c.cut_other.new.others session c.args.name c.self.invariant last c.cut_other.ensures.cut c.cut_other.ensures.valid

pub returns-else-place-len-clause-count : goal.returns-else-place-len-clause-count
returns-else-place-len-clause-count c =
    let first = c.self.inside.first.items in
    let others = c.self.inside.others in
    let session = c.args.session in
    let behind : length first ≤ c.place_of-place.result = omega (arith, c.if-place-len.false, c.len.ensures) in
    let last : KEPT < session = omega (arith, behind, c.self.invariant.count, c.place_of-place.ensures.place) in
    let at = other_is first others session c.place_of-place.result c.self.invariant c.place_of-place.ensures.within c.place_of-place.ensures.place behind in
    rw (← c.self.view_is) (c.cut_other.ensures.count ∙ ap (λ (l : Journal). option_map length (later c.args.name l)) (sym at))

pub returns-else-place-len-clause-cut : goal.returns-else-place-len-clause-cut
returns-else-place-len-clause-cut c =
    let first = c.self.inside.first.items in
    let others = c.self.inside.others in
    let session = c.args.session in
    let behind : length first ≤ c.place_of-place.result = omega (arith, c.if-place-len.false, c.len.ensures) in
    let last : KEPT < session = omega (arith, behind, c.self.invariant.count, c.place_of-place.ensures.place) in
    let at = other_is first others session c.place_of-place.result c.self.invariant c.place_of-place.ensures.within c.place_of-place.ensures.place behind in
    rw (← c.self.view_is)
    (cut_set first others c.cut_other.new.others session c.place_of-place.result c.args.name c.self.invariant c.place_of-place.ensures.within c.place_of-place.ensures.place behind c.cut_other.ensures.cut)

pub returns-else-place-len-clause-valid : goal.returns-else-place-len-clause-valid
returns-else-place-len-clause-valid c =
    let first = c.self.inside.first.items in
    let others = c.self.inside.others in
    let session = c.args.session in
    let behind : length first ≤ c.place_of-place.result = omega (arith, c.if-place-len.false, c.len.ensures) in
    let last : KEPT < session = omega (arith, behind, c.self.invariant.count, c.place_of-place.ensures.place) in
    let at = other_is first others session c.place_of-place.result c.self.invariant c.place_of-place.ensures.within c.place_of-place.ensures.place behind in
    all_sessions first c.cut_other.new.others (cut_valid first others c.cut_other.new.others session c.args.name c.self.invariant last c.cut_other.ensures.cut c.cut_other.ensures.valid)
