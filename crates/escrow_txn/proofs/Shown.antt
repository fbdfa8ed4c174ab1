-- The journal that a session has, or that it has none.
use Rattle.std.specs.Borrow.{Bor}
use Rattle.std.specs.Prelude.{◌≡◌, ℕ, Option, Some, None, IfSome, List, [], option_copied, option_map, unwrap_or}
use Rattle.std.proofs.Common.{ap, sym, subst}
use Rattle.escrow_num.specs.declared.reservation.Reservation.{Reservation}
use Rattle.escrow_num.specs.declared.reservation.Savepoint.{Savepoint}
use Rattle.escrow_journal.specs.Journal.{Journal, empty_journal}

-- what a session has is its journal; one that has none holds nothing
pub record IsShown (shown : Option (Bor Journal)) (log : Journal) : Type 0 where
  pub reservations : unwrap_or (option_map (λ journal. journal.now.reservations) shown) [] ≡ log.reservations
  pub savepoints : unwrap_or (option_map (λ journal. journal.now.savepoints) shown) [] ≡ log.savepoints
  pub is : IfSome shown (λ journal. journal.now ≡ log)

pub shown_is : (shown : Option (Bor Journal)) (session : ℕ) (log : Journal) → unwrap_or (option_copied shown) (empty_journal session) ≡ log → IsShown shown log
shown_is None session log is = record { reservations = ap (λ (l : Journal). l.reservations) is; savepoints = ap (λ (l : Journal). l.savepoints) is; is = tt }
shown_is (Some journal) session log is = record { reservations = ap (λ (l : Journal). l.reservations) is; savepoints = ap (λ (l : Journal). l.savepoints) is; is = is }

pub shown_weaker : (P : Journal → Type 0) (shown : Option (Bor Journal)) (log : Journal) → P log → IfSome shown (λ journal. journal.now ≡ log) → IfSome shown (λ journal. P journal.now)
shown_weaker P None log holds is = tt
shown_weaker P (Some journal) log holds is = subst P (sym is) holds
