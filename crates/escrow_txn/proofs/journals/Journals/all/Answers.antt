use Rattle.std.specs.Borrow.{Bor}
use Rattle.std.specs.Prelude.{◌≡◌, ◌++◌, List, flat_map, map}
use Rattle.std.specs.List.{AllByRecursion}
use Rattle.std.specs.Map.{values_of}
use Rattle.std.proofs.Common.{refl, ap, ap₂, sym, subst, ◌∙◌}
use Rattle.std.proofs.lemmas.List.{map-append}
use Rattle.escrow_num.specs.declared.reservation.Reservation.{Reservation}
use Rattle.escrow_journal.specs.Journal.{Journal, IsJournal}
use Rattle.escrow_txn.proofs.EachSession.{held_by, held_valid}
use Rattle.escrow_txn.proofs.journals.Journals.all.Goals as goal

abbrev shown : List (Bor Journal) → List Journal
shown references = map (λ (l : Bor Journal). l.now) references

-- references to those that are kept, then to the others
joined : (all front back : List (Bor Journal)) (first others : List Journal) → all ≡ front ++ back → shown front ≡ first → shown back ≡ others → shown all ≡ first ++ others
joined all front back first others is kept rest = ap shown is ∙ map-append (λ (l : Bor Journal). l.now) front back ∙ ap₂ (λ (xs ys : List Journal). xs ++ ys) kept rest

pub returns-clause-reservations : goal.returns-clause-reservations
returns-clause-reservations c =
    let all = joined c.extend_from_slice.new.self.items c.in_ok-all.all.items c.deref-2.result.now c.self.inside.first.items (values_of c.self.inside.others.entries)
    c.in_ok-extend_from_slice.ensures.items (c.in_ok-all.ensures ∙ c.deref.ensures.value) (ap shown c.deref-2.ensures.value ∙ c.in_ok-other_references.ensures.all) in
    rw (← c.self.view_is)
    (ap (λ (ls : List Journal). flat_map (λ (l : Journal). l.reservations) ls) all
    ∙ held_by (λ (l : Journal). l.reservations) c.self.inside.first.items c.self.inside.others (λ k. refl) c.self.invariant c.other_references.ensures.ordered)

pub returns-clause-valid : goal.returns-clause-valid
returns-clause-valid c =
    let all = joined c.extend_from_slice.new.self.items c.in_ok-all.all.items c.deref-2.result.now c.self.inside.first.items (values_of c.self.inside.others.entries)
    c.in_ok-extend_from_slice.ensures.items (c.in_ok-all.ensures ∙ c.deref.ensures.value) (ap shown c.deref-2.ensures.value ∙ c.in_ok-other_references.ensures.all) in
    subst (AllByRecursion IsJournal) (sym all) (held_valid c.self.inside.first.items c.self.inside.others c.self.invariant c.other_references.ensures.ordered)
