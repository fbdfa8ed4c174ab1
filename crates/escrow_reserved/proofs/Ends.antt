-- The transactions of several sessions end one after another.
use Rattle.std.specs.Prelude.{◌≡◌, ℕ, ◌+◌, ◌<◌, List, [], ◌∷◌, ◌++◌, length, take, flat_map, not, ◌==◌}
use Rattle.std.specs.List.{AllByRecursion}
use Rattle.std.proofs.Common.{refl, sym, ap, subst, get_or, ◌∙◌}
use Rattle.std.proofs.lemmas.List.{take_more}
use Rattle.std.proofs.lemmas.List.Filters.{length-filter_both}
use Rattle.std.proofs.lemmas.Grind.{flat_map-append}
use Rattle.std.proofs.Common.{append-nil}
use Rattle.escrow_num.specs.declared.reservation.Reservation.{Reservation}
use Rattle.escrow_num.specs.declared.session.End.{End}
use Rattle.escrow_bounds.specs.Ended.{AreEnded}
use Rattle.escrow_bounds.specs.Bounds.{Bounds}
use Rattle.escrow_journal.specs.Open.{Open, open_after_end}
use Rattle.escrow_journal.specs.Reservations.{own, others}
use Rattle.escrow_machine.proofs.Choices.{append_all}
use Rattle.escrow_reserved.specs.Ends.{AreAllEnded, all_ended}

-- a list up to one more entry
pub up_to : {A : Type 0} (plan : List A) (i : ℕ) (entry : A) → i < length plan → entry ≡ get_or plan i entry → take (i + 1) plan ≡ take i plan ++ entry ∷ []
up_to plan i entry below is = take_more plan i entry below ∙ ap (λ e. take i plan ++ e ∷ []) (sym is)

-- the reservations of one more session
pub all_more : (plan : List (ℕ × End)) (reservations : List Reservation) (i : ℕ) (entry : ℕ × End) → i < length plan → entry ≡ get_or plan i entry
    → flat_map (λ (e : ℕ × End). own e.0 reservations) (take i plan) ++ own entry.0 reservations ≡ flat_map (λ (e : ℕ × End). own e.0 reservations) (take (i + 1) plan)
all_more plan reservations i entry below is =
    ap (λ rs. flat_map (λ (e : ℕ × End). own e.0 reservations) (take i plan) ++ rs) (sym (append-nil (own entry.0 reservations)))
    ∙ sym (flat_map-append (λ (e : ℕ × End). own e.0 reservations) (take i plan) (entry ∷ []))
    ∙ ap (flat_map (λ (e : ℕ × End). own e.0 reservations)) (sym (up_to plan i entry below is))

-- what holds for each session's reservations holds for those of all
pub all_own : (P : Reservation → Type 0) (plan : List (ℕ × End)) (reservations : List Reservation)
    → ((session : ℕ) → AllByRecursion P (own session reservations)) → AllByRecursion P (flat_map (λ (e : ℕ × End). own e.0 reservations) plan)
all_own P [] reservations each = tt
all_own P (entry ∷ plan) reservations each =
    append_all P (own entry.0 reservations) (flat_map (λ (e : ℕ × End). own e.0 reservations) plan) (each entry.0) (all_own P plan reservations each)

-- one more transaction has ended
ended_push : (plan : List (ℕ × End)) (entry : ℕ × End) (o : Open) → all_ended (plan ++ entry ∷ []) o ≡ open_after_end entry.0 (all_ended plan o)
ended_push [] entry o = refl
ended_push (first ∷ plan) entry o = ended_push plan entry (open_after_end first.0 o)

pub ended_more : (plan : List (ℕ × End)) (i : ℕ) (entry : ℕ × End) (o mid : Open) → i < length plan → entry ≡ get_or plan i entry
    → mid ≡ all_ended (take i plan) o → open_after_end entry.0 mid ≡ all_ended (take (i + 1) plan) o
ended_more plan i entry o mid below is so_far =
    ap (open_after_end entry.0) so_far ∙ sym (ended_push (take i plan) entry o) ∙ ap (λ (p : List (ℕ × End)). all_ended p o) (sym (up_to plan i entry below is))

places_push : (plan : List (ℕ × End)) (entry : ℕ × End) (o : Open) (old mid new : Bounds) → AreAllEnded plan o old mid
    → AreEnded entry.1 (own entry.0 (all_ended plan o).reservations) mid new → AreAllEnded (plan ++ entry ∷ []) o old new
places_push [] entry o old mid new same last = (new, subst (λ (p : Bounds). AreEnded entry.1 (own entry.0 o.reservations) p new) same last, refl)
places_push (first ∷ plan) entry o old mid new are last = (are.0, are.1, places_push plan entry (open_after_end first.0 o) are.0 mid new are.2 last)

pub places_more : (plan : List (ℕ × End)) (i : ℕ) (entry : ℕ × End) (o left : Open) (old mid new : Bounds) → i < length plan → entry ≡ get_or plan i entry
    → left ≡ all_ended (take i plan) o → AreAllEnded (take i plan) o old mid → AreEnded entry.1 (own entry.0 left.reservations) mid new → AreAllEnded (take (i + 1) plan) o old new
places_more plan i entry o left old mid new below is so_far are last =
    subst (λ (p : List (ℕ × End)). AreAllEnded p o old new) (sym (up_to plan i entry below is))
    (places_push (take i plan) entry o old mid new are (subst (λ (it : Open). AreEnded entry.1 (own entry.0 it.reservations) mid new) so_far last))

-- a session's reservations and the others are all
pub own_and_others : (session : ℕ) (reservations : List Reservation) → length (own session reservations) + length (others session reservations) ≡ length reservations
own_and_others session reservations = length-filter_both (λ (r : Reservation). r.session == session) (λ (r : Reservation). not (r.session == session)) (λ _. refl) reservations
