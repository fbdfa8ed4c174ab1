use Rattle.std.specs.Borrow.{Bor}
use Rattle.std.specs.Prelude.{◌≡◌, ◌++◌, IfOk, List, length, map}
use Rattle.std.specs.List.{AllByRecursion}
use Rattle.std.proofs.Common.{refl, rules, ap, ap₂, subst, ◌∙◌, get_or, [], ◌∷◌, arith}
use Rattle.std.proofs.lemmas.List.{map-append}
use Rattle.escrow_num.specs.declared.reservation.Reservation.{Reservation}
use Rattle.escrow_journal.specs.Journal.{Journal, IsJournal}
use Rattle.escrow_txn.specs.Joined.{by_id}
use Rattle.escrow_txn.proofs.Merging.{read, one_merged, merged_order, halves_merged}
use Rattle.escrow_txn.proofs.Sessions.{reservations_of}
use Rattle.escrow_txn.proofs.merge.+merged.Goals as goal

-- the journals that references refer to
abbrev shown : List (Bor Journal) → List Journal
shown journals = map (λ (l : Bor Journal). l.now) journals

one_shown : (journals : List (Bor Journal)) (journal : Bor Journal) → length journals ≡ 1 → journal ≡ get_or journals 0 journal → AllByRecursion IsJournal (shown journals)
    → journal.now.reservations ≡ by_id (reservations_of (shown journals))
one_shown [] journal one is each = absurd (omega (arith, one))
one_shown (l ∷ []) journal one is each = one_merged (l.now ∷ []) journal.now refl (ap (λ (k : Bor Journal). k.now) is) each
one_shown (l ∷ m ∷ journals) journal one is each = absurd (omega (arith, one))

all_front : (xs ys : List Journal) → AllByRecursion IsJournal (xs ++ ys) → AllByRecursion IsJournal xs
all_front [] ys all = tt
all_front (x ∷ xs) ys all = (all.0, all_front xs ys all.1)

all_back : (xs ys : List Journal) → AllByRecursion IsJournal (xs ++ ys) → AllByRecursion IsJournal ys
all_back [] ys all = all
all_back (x ∷ xs) ys all = all_back xs ys all.1

pub merged-requires : goal.merged-requires
merged-requires t c =
    let split = ap shown c.split_at.ensures.by_index.0 ∙ map-append (λ (l : Bor Journal). l.now) c.split_at.result.0.now c.split_at.result.1.now in
    (search rules, all_front (shown c.split_at.result.0.now) (shown c.split_at.result.1.now) (subst (AllByRecursion IsJournal) split c.requires))

pub merged-requires-in_default : goal.merged-requires-in_default
merged-requires-in_default t c =
    let split = ap shown c.split_at.ensures.by_index.0 ∙ map-append (λ (l : Bor Journal). l.now) c.split_at.result.0.now c.split_at.result.1.now in
    (search rules, all_back (shown c.split_at.result.0.now) (shown c.split_at.result.1.now) (subst (AllByRecursion IsJournal) split c.requires))

pub returns-in-len1 : goal.returns-in-len1
returns-in-len1 t c =
    let journal = c.journal-item.result in
    let all = c.all.ensures ∙ one_shown c.args.journals.now journal (omega arith) c.journal-item.is c.requires in
    subst (λ rs. IfOk c.references.result (λ merged. read merged.items ≡ rs)) all c.references.ensures

pub merge-requires-clause-front : goal.merge-requires-clause-front
merge-requires-clause-front t c =
    merged_order c.deref.result.now (reservations_of (shown c.split_at.result.0.now)) (ap read c.deref.ensures.value ∙ c.in_ok-merged-in_default.ensures)

pub merge-requires-clause-back : goal.merge-requires-clause-back
merge-requires-clause-back t c =
    merged_order c.deref-in_default.result.now (reservations_of (shown c.split_at.result.1.now))
    (ap read c.deref-in_default.ensures.value ∙ c.in_ok-merged-in_default-2.ensures)

pub returns-in_ok-merged-in_default-2 : goal.returns-in_ok-merged-in_default-2
returns-in_ok-merged-in_default-2 t c =
    let front = ap read c.deref.ensures.value ∙ c.in_ok-merged-in_default.ensures in
    let back = ap read c.deref-in_default.ensures.value ∙ c.in_ok-merged-in_default-2.ensures in
    let split = ap shown c.split_at.ensures.by_index.0 ∙ map-append (λ (l : Bor Journal). l.now) c.split_at.result.0.now c.split_at.result.1.now in
    let all = ap₂ (λ xs ys. by_id (xs ++ ys)) front back
    ∙ halves_merged (shown c.args.journals.now) (shown c.split_at.result.0.now) (shown c.split_at.result.1.now) split in
    subst (λ rs. IfOk c.merge.result (λ merged. read merged.items ≡ rs)) all c.merge.ensures
