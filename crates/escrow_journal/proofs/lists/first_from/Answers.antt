use Rattle.std.specs.Prelude.{nat_le, not, length, unwrap_or, Option, ℕ}
use Rattle.std.proofs.Common.{◌∙◌, ap, arith}
use Rattle.std.proofs.lemmas.List.Sums.{prefix_len-le-length}
use Rattle.escrow_num.specs.declared.reservation.Reservation.{Reservation}
use Rattle.escrow_journal.proofs.Filters.{place_is}
use Rattle.escrow_journal.proofs.lists.first_from.Goals as goal

pub returns-clause-place : goal.returns-clause-place
returns-clause-place c =
    c.unwrap_or.ensures
    ∙ ap (λ (o : Option ℕ). unwrap_or o (length c.args.reservations.now)) c.place_from.ensures
    ∙ place_is (λ (r : Reservation). nat_le c.args.id r.id) c.args.reservations.now

pub returns-clause-within : goal.returns-clause-within
returns-clause-within c =
    let within = prefix_len-le-length (λ (r : Reservation). not (nat_le c.args.id r.id)) c.args.reservations.now in
    let place = returns-clause-place c in
    omega arith
