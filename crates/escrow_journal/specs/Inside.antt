-- Helps: what the fields of a journal hold, and what remains of them.
use Rattle.std.specs.Prelude.{◌≡◌, ℕ, ◌≤◌, Option, IfSome, option_map, unwrap_or, List, length, take, drop}
use Rattle.escrow_journal.specs.declared.journal.Journal.TheInside.{Inside}
use Rattle.escrow_journal.specs.Journal.{Journal, later, cut_journal}

-- the journal that the fields hold
abbrev pub journal_of : Inside → Journal
journal_of j = record { session = j.session; reservations = j.reservations.items; savepoints = j.savepoints.items }

-- a journal with only its first savepoints and its first reservations
abbrev pub first_of : ℕ → ℕ → Journal → Journal
first_of savepoints reservations log =
    record log { reservations = take reservations log.reservations; savepoints = take savepoints log.savepoints }

-- how many savepoints and reservations remain when a journal goes back to the savepoint of a name, if there is one: the
-- first ones; the other reservations are those after it
pub record IsLeft (name : List ℕ) (log : Journal) (left : Option (ℕ × ℕ)) : Type 0 where
  pub later : later name log ≡ option_map (λ n. drop n.1 log.reservations) left
  pub cut : cut_journal name log ≡ unwrap_or (option_map (λ n. first_of n.0 n.1 log) left) log
  pub within : IfSome left (λ n. n.1 ≤ length log.reservations)
