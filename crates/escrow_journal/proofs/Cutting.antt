-- What comes after a savepoint, and what remains after a return to it.
use Rattle.std.specs.Prelude.{◌≡◌, ℕ, ◌+◌, ◌≤◌, List, length, take, drop, position, Option, Some, None, option_map, unwrap_or}
use Rattle.std.proofs.Common.{sym, ap, ap₂, ◌∙◌, get_or}
use Rattle.std.proofs.lemmas.List.Quantifiers.{position-Some}
use Rattle.escrow_num.specs.declared.reservation.Reservation.{Reservation}
use Rattle.escrow_num.specs.declared.reservation.Savepoint.{Savepoint}
use Rattle.escrow_num.proofs.Items.{all_at}
use Rattle.escrow_num.proofs.Orders.{name_same}
use Rattle.escrow_journal.specs.Inside.{first_of, IsLeft}
use Rattle.escrow_journal.specs.Journal.{Journal, IsJournal, later, cut_journal, cut_at}
use Rattle.escrow_journal.specs.Savepoints.{savepoint_of, through, after}
use Rattle.escrow_journal.proofs.Filters.{place_inside}
use Rattle.escrow_journal.proofs.Named.{has_name, found_is, none_is, through_is}
use Rattle.escrow_journal.proofs.Ordered.{first_from, after_is, not_after_is}

-- no savepoint has the name
pub none_left : (name : List ℕ) (journal : Journal) → IsJournal journal → position (has_name name) journal.savepoints ≡ None → IsLeft name journal None
none_left name journal valid at =
    let none = none_is journal.session name journal.savepoints valid.savepoints_own at in
    record {
      later = ap (λ (o : Option Savepoint). option_map (λ p. after p journal.reservations) o) none;
      cut = ap (λ (o : Option Savepoint). unwrap_or (option_map (cut_at journal) o) journal) none;
      within = tt;
    }

-- a savepoint has the name
module _ (name : List ℕ) (journal : Journal) (place : ℕ) (p : Savepoint) (valid : IsJournal journal) (at : position (has_name name) journal.savepoints ≡ Some place)
    (is : p ≡ get_or journal.savepoints place p) where
  found : savepoint_of journal.session name journal.savepoints ≡ Some p
  found = found_is journal.session name journal.savepoints place p valid.savepoints_own at is

  own : p.session ≡ journal.session
  own = all_at (λ (q : Savepoint). q.session ≡ journal.session) journal.savepoints place p (place_inside (has_name name) journal.savepoints place at).1 is valid.savepoints_own

  named : p.name ≡ name
  named = name_same p.name name (ap (has_name name) is ∙ (position-Some (has_name name) journal.savepoints place p at).1)

  later_is : (n : ℕ) → n ≡ first_from p.id journal.reservations → later name journal ≡ Some (drop n journal.reservations)
  later_is n first =
      ap (λ (o : Option Savepoint). option_map (λ q. after q journal.reservations) o) found
      ∙ ap (λ (rs : List Reservation). Some rs) (after_is p journal.session journal.reservations own valid.reservations_own valid.reservation_order)
      ∙ ap (λ k. Some (drop k journal.reservations)) (sym first)

  cut_is : (n : ℕ) → n ≡ first_from p.id journal.reservations → first_of (place + 1) n journal ≡ cut_journal name journal
  cut_is n first =
      let front = ap (λ k. take k journal.reservations) first ∙ sym (not_after_is p journal.session journal.reservations own valid.reservations_own valid.reservation_order) in
      let inside = (place_inside (has_name name) journal.savepoints place at).0 in
      let marks = ap (λ k. take (k + 1) journal.savepoints) (sym inside) ∙ sym (through_is journal.session name journal.savepoints valid.savepoints_own)
      ∙ ap (λ text. through journal.session text journal.savepoints) (sym named) in
      ap₂ (λ rs ps. record journal { reservations = rs; savepoints = ps }) front marks
      ∙ ap (λ (o : Option Savepoint). unwrap_or (option_map (cut_at journal) o) journal) (sym found)

  pub some_left : (n : ℕ) → n ≡ first_from p.id journal.reservations → n ≤ length journal.reservations → IsLeft name journal (Some (place + 1, n))
  some_left n first within = record { later = later_is n first; cut = sym (cut_is n first); within = within }
