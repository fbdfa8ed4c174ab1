-- Helps: what remains after the transactions of several sessions have ended.
use Rattle.std.specs.Prelude.{◌≡◌, ℕ, List, [], ◌∷◌}
use Rattle.escrow_num.specs.declared.session.End.{End}
use Rattle.escrow_bounds.specs.Ended.{AreEnded}
use Rattle.escrow_bounds.specs.Bounds.{Bounds}
use Rattle.escrow_journal.specs.Open.{Open, open_after_end}
use Rattle.escrow_journal.specs.Reservations.{own}

-- what is open after the transactions of a plan have ended, one after another
abbrev pub all_ended : List (ℕ × End) → Open → Open
all_ended [] o = o
all_ended (entry ∷ plan) o = all_ended plan (open_after_end entry.0 o)

-- the places after that: in each place, the reservations of one session after another have ended
abbrev pub AreAllEnded : List (ℕ × End) → Open → Bounds → Bounds → Type 0
AreAllEnded [] o old new = new ≡ old
AreAllEnded (entry ∷ plan) o old new =
    (mid : Bounds) × AreEnded entry.1 (own entry.0 o.reservations) old mid
    × AreAllEnded plan (open_after_end entry.0 o) mid new
