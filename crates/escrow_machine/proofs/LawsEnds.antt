-- The ends of transactions commute, and keep a valid state valid in any order.
use Rattle.std.specs.Prelude.{◌≡◌, ℕ, ℤ, ◌==◌, not, List, [], ◌∷◌, map, take}
use Rattle.std.proofs.Common.{refl, sym, ap, ap₂, ◌∙◌}
use Rattle.std.proofs.lemmas.Bool.{false_from_ne_true, eqb-true}
use Rattle.escrow_num.specs.declared.reservation.Savepoint.{Savepoint}
use Rattle.escrow_num.specs.declared.reservation.Reservation.{Reservation}
use Rattle.escrow_num.specs.declared.row.Row.{Row}
use Rattle.escrow_num.specs.declared.session.End.{End}
use Rattle.escrow_num.specs.declared.session.End.TheVariants as end
use Rattle.escrow_checks.specs.Form.{changed, all_changed}
use Rattle.escrow_machine.specs.Settle.{after_end, after_ends}
use Rattle.escrow_journal.specs.Reservations.{own, others}
use Rattle.escrow_machine.specs.State.{State}
use Rattle.escrow_schema.specs.Rows.{changes_to, applied}
use Rattle.escrow_machine.specs.Transition.{transition_of}
use Rattle.escrow_machine.specs.Valid.{IsValid}
use Rattle.escrow_machine.proofs.Changes.{all_changed_later}
use Rattle.escrow_machine.proofs.Filters.{filters_commute, filter_within}
use Rattle.escrow_machine.proofs.ValidEnds.{commit_valid, rollback_valid}

-- the end of one session's transaction leaves the reservations of another
pub own_stay : (a b : ℕ) (reservations : List Reservation) → ¬ (a ≡ b) → own b (others a reservations) ≡ own b reservations
own_stay a b reservations differ =
    filter_within (λ (r : Reservation). r.session == b) (λ (r : Reservation). not (r.session == a)) reservations
    (λ r t. ap not (false_from_ne_true (r.session == a) (λ u. differ (sym (eqb-true r.session a u) ∙ eqb-true r.session b t))))

-- increments commute
all_changed_comm : (amounts : List ℤ) (xs ys : List (List ℤ)) → all_changed (all_changed amounts xs) ys ≡ all_changed (all_changed amounts ys) xs
all_changed_comm amounts [] ys = refl
all_changed_comm amounts (x ∷ xs) ys =
    all_changed_comm (changed amounts x) xs ys ∙ ap (λ (zs : List ℤ). all_changed zs xs) (all_changed_later amounts x ys)

applied_comm : (rows : List Row) (xs ys : List Reservation) → applied (applied rows xs) ys ≡ applied (applied rows ys) xs
applied_comm [] xs ys = refl
applied_comm (row ∷ rows) xs ys =
    ap₂ (λ (first : Row) (rest : List Row). first ∷ rest)
    (ap (λ (amounts : List ℤ). record row { amounts = amounts }) (all_changed_comm row.amounts (map (changes_to row) xs) (map (changes_to row) ys)))
    (applied_comm rows xs ys)

-- states with equal parts are equal
pub same_state : (s : State) (rows later : List Row) (reservations still : List Reservation) (savepoints left : List Savepoint)
    → rows ≡ later → reservations ≡ still → savepoints ≡ left
    → (record s { rows = rows; reservations = reservations; savepoints = savepoints }) ≡ (record s { rows = later; reservations = still; savepoints = left })
same_state s rows later reservations still savepoints left e f g = rw (e, f, g) refl

-- the rows after two COMMITs
both_commit : (rows : List Row) (a b : ℕ) (reservations : List Reservation) → ¬ (a ≡ b)
    → applied (applied rows (own a reservations)) (own b (others a reservations)) ≡ applied (applied rows (own b reservations)) (own a (others b reservations))
both_commit rows a b reservations differ =
    ap (applied (applied rows (own a reservations))) (own_stay a b reservations differ)
    ∙ applied_comm rows (own a reservations) (own b reservations)
    ∙ sym (ap (applied (applied rows (own b reservations))) (own_stay b a reservations (λ e. differ (sym e))))

-- the ends of two sessions' transactions give the same state in either order
pub transactions_commute : (s : State) (a b : ℕ) (x y : End) → ¬ (a ≡ b) → after_end (after_end s a x) b y ≡ after_end (after_end s b y) a x
unfolding transition_of
transactions_commute s a b end.Commit end.Commit differ =
    same_state s _ _ _ _ _ _ (both_commit s.rows a b s.reservations differ)
    (filters_commute (λ (r : Reservation). not (r.session == b)) (λ (r : Reservation). not (r.session == a)) s.reservations)
    (filters_commute (λ (p : Savepoint). not (p.session == b)) (λ (p : Savepoint). not (p.session == a)) s.savepoints)
transactions_commute s a b end.Commit end.Rollback differ =
    same_state s _ _ _ _ _ _ (sym (ap (applied s.rows) (own_stay b a s.reservations (λ e. differ (sym e)))))
    (filters_commute (λ (r : Reservation). not (r.session == b)) (λ (r : Reservation). not (r.session == a)) s.reservations)
    (filters_commute (λ (p : Savepoint). not (p.session == b)) (λ (p : Savepoint). not (p.session == a)) s.savepoints)
transactions_commute s a b end.Rollback end.Commit differ =
    same_state s _ _ _ _ _ _ (ap (applied s.rows) (own_stay a b s.reservations differ))
    (filters_commute (λ (r : Reservation). not (r.session == b)) (λ (r : Reservation). not (r.session == a)) s.reservations)
    (filters_commute (λ (p : Savepoint). not (p.session == b)) (λ (p : Savepoint). not (p.session == a)) s.savepoints)
transactions_commute s a b end.Rollback end.Rollback differ =
    same_state s _ _ _ _ _ _ refl
    (filters_commute (λ (r : Reservation). not (r.session == b)) (λ (r : Reservation). not (r.session == a)) s.reservations)
    (filters_commute (λ (p : Savepoint). not (p.session == b)) (λ (p : Savepoint). not (p.session == a)) s.savepoints)

-- an end keeps a valid state valid
end_valid : (s : State) (session : ℕ) (x : End) → IsValid s → IsValid (after_end s session x)
unfolding transition_of
end_valid s session end.Commit valid = commit_valid s session valid
end_valid s session end.Rollback valid = rollback_valid s session valid

ends_valid : (s : State) (ends : List (ℕ × End)) → IsValid s → IsValid (after_ends s ends)
ends_valid s [] valid = valid
ends_valid s (ending ∷ ends) valid = ends_valid (after_end s ending.0 ending.1) ends (end_valid s ending.0 ending.1 valid)

-- any ends in any order keep it valid too
pub any_order_of_ends : (s : State) (ends : List (ℕ × End)) (n : ℕ) → IsValid s → IsValid (after_ends s (take n ends))
any_order_of_ends s ends n valid = ends_valid s (take n ends) valid
