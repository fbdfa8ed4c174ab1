use Rattle.std.specs.Prelude.{◌≡◌, ◌<◌, ◌≤◌, Option, length, unwrap_or}
use Rattle.std.specs.BTreeMap.{get}
use Rattle.std.specs.Ordering.{nat_cmp}
use Rattle.std.proofs.Common.{ap, sym, ◌∙◌, arith}
use Rattle.escrow_journal.specs.Journal.{Journal, empty_journal}
use Rattle.escrow_txn.specs.declared.journals.TheConstants.{KEPT}
use Rattle.escrow_txn.proofs.EachSession.{all_sessions, is_kept, other_is}
use Rattle.escrow_txn.proofs.journals.Journals.get.Goals as goal

pub returns-then-place-len-clause-found : goal.returns-then-place-len-clause-found
returns-then-place-len-clause-found c =
    let first = c.self.inside.first.items in
    let within : c.place_of-place.result < length first = omega (arith, c.if-place-len.true, c.len.ensures) in
    let k = is_kept first c.self.inside.others c.args.session c.place_of-place.result c.index.result.now c.self.invariant c.place_of-place.ensures.place within c.index.ensures in
    rw (← c.self.view_is) (sym k.at)

pub returns-then-place-len-clause-valid : goal.returns-then-place-len-clause-valid
returns-then-place-len-clause-valid c = rw (← c.self.view_is) (all_sessions c.self.inside.first.items c.self.inside.others c.self.invariant)

pub returns-else-place-len-clause-found : goal.returns-else-place-len-clause-found
returns-else-place-len-clause-found c =
    let first = c.self.inside.first.items in
    let others = c.self.inside.others in
    let session = c.args.session in
    let behind : length first ≤ c.place_of-place.result = omega (arith, c.if-place-len.false, c.len.ensures) in
    let last : KEPT < session = omega (arith, behind, c.self.invariant.count, c.place_of-place.ensures.place) in
    let at = other_is first others session c.place_of-place.result c.self.invariant c.place_of-place.ensures.within c.place_of-place.ensures.place behind in
    rw (← c.self.view_is) (ap (λ (o : Option Journal). unwrap_or o (empty_journal session)) (c.get-else-place-len.ensures.value ∙ ap (λ n. get nat_cmp others n) c.get.ensures.value) ∙ sym at)

pub returns-else-place-len-clause-valid : goal.returns-else-place-len-clause-valid
returns-else-place-len-clause-valid c = rw (← c.self.view_is) (all_sessions c.self.inside.first.items c.self.inside.others c.self.invariant)
