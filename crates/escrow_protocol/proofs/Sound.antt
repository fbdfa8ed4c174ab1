-- What every event of the protocol preserves, and what another transaction at an epoch and a session changes of it.
use Rattle.std.specs.Prelude.{◌≡◌, ◌⊎◌, ℕ, ◌==◌, Bool, true, false, cond, ◌||◌, ◌&&◌, Option, Some, is_none, List, [], ◌∷◌, ◌++◌, filter, ◌<◌}
use Rattle.std.specs.List.{AllByRecursion}
use Rattle.std.proofs.Common.{inl, inr, refl, sym, ap, subst, arith, ◌∙◌}
use Rattle.std.proofs.lemmas.Bool.{and_parts, and_from, cond_both, eqb-true, eq-eqb, false_from_ne_true}
use Rattle.std.proofs.lemmas.Bool.Decides.{eqb_tells}
use Rattle.escrow_num.specs.declared.reservation.Reservation.{Reservation}
use Rattle.escrow_num.specs.declared.row.Row.{Row}
use Rattle.escrow_num.specs.declared.session.End.{End}
use Rattle.escrow_num.proofs.Items.{has_filter}
use Rattle.escrow_schema.specs.declared.table.TableDef.{TableDef}
use Rattle.escrow_schema.specs.Rows.{applied, MeetsChecks}
use Rattle.escrow_journal.specs.Reservations.{own}
use Rattle.escrow_machine.specs.Settle.{is_commit}
use Rattle.escrow_machine.specs.State.{opened}
use Rattle.escrow_machine.specs.Valid.{HasRow, IsValid}
use Rattle.escrow_machine.proofs.Filters.{filters_commute, filter_none, filter_within}
use Rattle.escrow_protocol.specs.Protocol.{all_done, Transaction, idle, noting, written, running, holding, committed, aborted, Moment, Protocol, noted, is_committed, may_abort, holds_lock, amounts_in, left_with, with_transaction}
use Rattle.escrow_protocol.specs.Step.{held_again, without_hold, crashed, ending}

-- whether a reservation of the server is of a committed transaction, among these transactions of its owner
abbrev pub told : (ℕ → Transaction) → Reservation → Bool
told of r = is_committed (of r.session)

-- a moment says what its committed transactions say, and the server knows it. Its rows meet their checks, with and
-- without the journal
pub record IsGood (catalog : List TableDef) (rows : List Row) (m : Moment) : Type 0 where
  pub once : amounts_in m ≡ all_done rows m.history
  pub placed : AllByRecursion (HasRow m.rows) m.journal
  pub amounts : IsValid (opened catalog (amounts_in m))
  pub meet : AllByRecursion (MeetsChecks catalog) m.rows
  pub tables : m.server.catalog ≡ catalog
  pub valid : IsValid m.server
  pub known : amounts_in m ≡ applied m.server.rows (filter (told (m.transactions m.served)) m.server.reservations)

-- what the server holds of a transaction, if a crash may leave it
abbrev pub Kept : List Reservation → ℕ → ℕ → ℕ → Transaction → Type 0
Kept reserved served e t idle = e ≡ served → own t reserved ≡ []
Kept reserved served e t (running notes) = (e ≡ served) × (own t reserved ≡ notes)
Kept reserved served e t (holding notes) = (e ≡ served) × (own t reserved ≡ notes)
Kept reserved served e t _ = Unit {0}

abbrev pub AreKept : Moment → Type 0
AreKept m = (e t : ℕ) → Kept m.server.reservations m.served e t (m.transactions e t)

-- what it holds of a transaction, under the epoch that PostgreSQL shows
abbrev pub Fits : List Reservation → ℕ → ℕ → ℕ → ℕ → Transaction → Type 0
Fits reserved served epoch e t idle = e ≡ served → own t reserved ≡ []
Fits reserved served epoch e t (noting notes r) = 0 < epoch → e ≡ epoch → (served ≡ epoch) × (own t reserved ≡ notes ++ r ∷ [])
Fits reserved served epoch e t (written notes r) = 0 < epoch → e ≡ epoch → (served ≡ epoch) × (own t reserved ≡ notes ++ r ∷ [])
Fits reserved served epoch e t (running notes) = (e ≡ served) × (own t reserved ≡ notes)
Fits reserved served epoch e t (holding notes) = (e ≡ served) × (own t reserved ≡ notes)
Fits reserved served epoch e t (committed notes) = 0 < epoch → e ≡ epoch → served ≡ epoch
Fits reserved served epoch e t aborted = 0 < epoch → e ≡ epoch → served ≡ epoch

pub kept_of : (reserved : List Reservation) (served epoch e t : ℕ) (x : Transaction) → Fits reserved served epoch e t x → Kept reserved served e t x
kept_of reserved served epoch e t idle fits = fits
kept_of reserved served epoch e t (noting notes r) fits = tt
kept_of reserved served epoch e t (written notes r) fits = tt
kept_of reserved served epoch e t (running notes) fits = fits
kept_of reserved served epoch e t (holding notes) fits = fits
kept_of reserved served epoch e t (committed notes) fits = tt
kept_of reserved served epoch e t aborted fits = tt

-- what every event preserves
pub record IsSound (catalog : List TableDef) (rows : List Row) (s : Protocol) : Type 0 where
  pub now : IsGood catalog rows s.now
  pub fits : (e t : ℕ) → Fits s.now.server.reservations s.now.served s.epoch e t (s.now.transactions e t)
  pub before : AllByRecursion (λ m. IsGood catalog rows m × AreKept m) s.before

-- ANOTHER TRANSACTION AT AN EPOCH AND A SESSION

-- what holds for it, and for the others, holds for all
pub with_has : (P : ℕ → ℕ → Transaction → Type 0) (epoch session : ℕ) (new : Transaction) (transactions : ℕ → ℕ → Transaction)
    → P epoch session new → ((e t : ℕ) → ¬ ((e ≡ epoch) × (t ≡ session)) → P e t (transactions e t))
    → (e t : ℕ) → P e t (with_transaction epoch session new transactions e t)
with_has P epoch session new transactions here there e t =
    cond_both ((e == epoch) && (t == session)) new (transactions e t) (P e t)
    (λ both. let parts = and_parts (e == epoch) (t == session) both in
    subst (λ (x : ℕ). P x t new) (sym (eqb-true e epoch parts.0)) (subst (λ (y : ℕ). P epoch y new) (sym (eqb-true t session parts.1)) here))
    (λ differ. there e t (λ same. let both = and_from (e == epoch) (t == session) (eq-eqb e epoch same.0) (eq-eqb t session same.1) in absurd (cc)))

-- if both or neither of two transactions are committed, one in place of the other changes nothing
pub told_stays : (served epoch session : ℕ) (new : Transaction) (transactions : ℕ → ℕ → Transaction)
    → is_committed new ≡ is_committed (transactions epoch session)
    → (r : Reservation) → told (with_transaction epoch session new transactions served) r ≡ told (transactions served) r
told_stays served epoch session new transactions same r =
    with_has (λ e t x. is_committed x ≡ is_committed (transactions e t)) epoch session new transactions same (λ _ _ _. refl) served r.session

-- a reservation is of the session, or is of another one, where nothing changes
told_at : (served epoch session : ℕ) (new : Transaction) (transactions : ℕ → ℕ → Transaction) → epoch ≡ served → (r : Reservation)
    → (((r.session == session) ≡ true) × (told (with_transaction epoch session new transactions served) r ≡ is_committed new)
    × (told (transactions served) r ≡ is_committed (transactions epoch session)))
    ⊎ (((r.session == session) ≡ false) × (told (with_transaction epoch session new transactions served) r ≡ told (transactions served) r))
told_at served epoch session new transactions of r =
    elim (eqb_tells r.session session) [
      | inl same ↦
          let here : ((served == epoch) && (r.session == session)) ≡ true = and_from (served == epoch) (r.session == session) (eq-eqb served epoch (sym of)) same.0 in
          inl (
            same.0,
            ap (λ (b : Bool). is_committed (cond b new (transactions served r.session))) here,
            subst (λ (e : ℕ). is_committed (transactions e r.session) ≡ is_committed (transactions epoch session)) of
                (ap (λ (t : ℕ). is_committed (transactions epoch t)) same.1),
          )
      | inr differ ↦
          let there : ((served == epoch) && (r.session == session)) ≡ false =
          false_from_ne_true ((served == epoch) && (r.session == session)) (λ both. let parts = and_parts (served == epoch) (r.session == session) both in differ.1 (eqb-true r.session session parts.1)) in
          inr (differ.0, ap (λ (b : Bool). is_committed (cond b new (transactions served r.session))) there)
    ]

-- those of one more committed transaction
or_first : (a b c : Bool) → c ≡ a → b ≡ false → c ≡ (a || b)
or_first true b c e f = e
or_first false b c e f = e ∙ sym f

and_second : (a b : Bool) → b ≡ false → (a && b) ≡ false
and_second true b f = f
and_second false b f = refl

here_more : (now was is : Bool) → is ≡ true → now ≡ true → was ≡ false → (now ≡ (was || is)) × ((was && is) ≡ false)
here_more now was is e f g = (rw (e, f, g) refl, rw (e, g) refl)

there_more : (now was is : Bool) → is ≡ false → now ≡ was → (now ≡ (was || is)) × ((was && is) ≡ false)
there_more now was is e f = (or_first was is now f e, and_second was is e)

pub told_more : (served epoch session : ℕ) (new : Transaction) (transactions : ℕ → ℕ → Transaction) → epoch ≡ served
    → is_committed new ≡ true → is_committed (transactions epoch session) ≡ false
    → (r : Reservation) → (told (with_transaction epoch session new transactions served) r ≡ (told (transactions served) r || (r.session == session)))
    × ((told (transactions served) r && (r.session == session)) ≡ false)
told_more served epoch session new transactions of is was r =
    elim (told_at served epoch session new transactions of r) [
      | inl same ↦ here_more (told (with_transaction epoch session new transactions served) r) (told (transactions served) r) (r.session == session) same.0 (same.1 ∙ is) (same.2 ∙ was)
      | inr differ ↦ there_more (told (with_transaction epoch session new transactions served) r) (told (transactions served) r) (r.session == session) differ.0 differ.1
    ]

-- those of one committed transaction less
here_less : (now was is : Bool) → is ≡ true → now ≡ false → was ≡ true → (was ≡ (is || now)) × ((is && now) ≡ false)
here_less now was is e f g = (rw (e, g) refl, rw (e, f) refl)

there_less : (now was is : Bool) → is ≡ false → now ≡ was → (was ≡ (is || now)) × ((is && now) ≡ false)
there_less now was is e f = (rw (e, f) refl, rw e refl)

pub told_less : (served epoch session : ℕ) (new : Transaction) (transactions : ℕ → ℕ → Transaction) → epoch ≡ served
    → is_committed new ≡ false → is_committed (transactions epoch session) ≡ true
    → (r : Reservation) → (told (transactions served) r ≡ ((r.session == session) || told (with_transaction epoch session new transactions served) r))
    × (((r.session == session) && told (with_transaction epoch session new transactions served) r) ≡ false)
told_less served epoch session new transactions of is was r =
    elim (told_at served epoch session new transactions of r) [
      | inl same ↦ here_less (told (with_transaction epoch session new transactions served) r) (told (transactions served) r) (r.session == session) same.0 (same.1 ∙ is) (same.2 ∙ was)
      | inr differ ↦ there_less (told (with_transaction epoch session new transactions served) r) (told (transactions served) r) (r.session == session) differ.0 differ.1
    ]

-- none of a session whose transaction isn't committed is of a committed one
pub told_of_others : (served epoch session : ℕ) (new : Transaction) (transactions : ℕ → ℕ → Transaction) → epoch ≡ served
    → is_committed new ≡ false → (r : Reservation) → told (with_transaction epoch session new transactions served) r ≡ true → (r.session == session) ≡ false
told_of_others served epoch session new transactions of is r t =
    elim (told_at served epoch session new transactions of r) [ inl same ↦ absurd (cc) | inr differ ↦ differ.0 ]

-- WHAT FITS

-- if only what is open of one session changes, the transactions of others fit as before
pub fits_moved : (reserved more : List Reservation) (served epoch session : ℕ) → served ≡ epoch
    → ((t : ℕ) → ¬ (t ≡ session) → own t more ≡ own t reserved)
    → (e t : ℕ) (x : Transaction) → ¬ ((e ≡ epoch) × (t ≡ session)) → Fits reserved served epoch e t x → Fits more served epoch e t x
fits_moved reserved more served epoch session loaded stay e t idle other fits =
    λ he. stay t (λ ht. other (he ∙ loaded, ht)) ∙ fits he
fits_moved reserved more served epoch session loaded stay e t (noting notes r) other fits =
    λ somebody he. ((fits somebody he).0, stay t (λ ht. other (he, ht)) ∙ (fits somebody he).1)
fits_moved reserved more served epoch session loaded stay e t (written notes r) other fits =
    λ somebody he. ((fits somebody he).0, stay t (λ ht. other (he, ht)) ∙ (fits somebody he).1)
fits_moved reserved more served epoch session loaded stay e t (running notes) other fits =
    (fits.0, stay t (λ ht. other (fits.0 ∙ loaded, ht)) ∙ fits.1)
fits_moved reserved more served epoch session loaded stay e t (holding notes) other fits =
    (fits.0, stay t (λ ht. other (fits.0 ∙ loaded, ht)) ∙ fits.1)
fits_moved reserved more served epoch session loaded stay e t (committed notes) other fits = fits
fits_moved reserved more served epoch session loaded stay e t aborted other fits = fits

-- a transaction that may be granted more has noted all that is open of its session
pub noted_own : (reserved : List Reservation) (served epoch t : ℕ) (notes : List Reservation) (x : Transaction) → served ≡ epoch
    → noted x ≡ Some notes → Fits reserved served epoch epoch t x → own t reserved ≡ notes
noted_own reserved served epoch t notes idle loaded is fits = let none : [] ≡ notes = cc in fits (sym loaded) ∙ none
noted_own reserved served epoch t notes (noting earlier r) loaded is fits = absurd (cc)
noted_own reserved served epoch t notes (written earlier r) loaded is fits = absurd (cc)
noted_own reserved served epoch t notes (running earlier) loaded is fits = let same : earlier ≡ notes = cc in fits.1 ∙ same
noted_own reserved served epoch t notes (holding earlier) loaded is fits = absurd (cc)
noted_own reserved served epoch t notes (committed earlier) loaded is fits = absurd (cc)
noted_own reserved served epoch t notes aborted loaded is fits = absurd (cc)

-- one that has taken back notes fits if the server holds just those that are left
pub left_fits : (reserved : List Reservation) (served epoch e t : ℕ) (notes : List Reservation) → e ≡ served → own t reserved ≡ notes
    → Fits reserved served epoch e t (left_with notes)
left_fits reserved served epoch e t [] of_last owns = λ _. owns
left_fits reserved served epoch e t (first ∷ notes) of_last owns = (of_last, owns)

pub left_is : (notes : List Reservation) → is_committed (left_with notes) ≡ false
left_is [] = refl
left_is (first ∷ notes) = refl

-- it is not committed, and nor is one that is alive
pub noted_is : (notes : List Reservation) (x : Transaction) → noted x ≡ Some notes → is_committed x ≡ false
noted_is notes idle is = refl
noted_is notes (noting earlier r) is = refl
noted_is notes (written earlier r) is = refl
noted_is notes (running earlier) is = refl
noted_is notes (holding earlier) is = refl
noted_is notes (committed earlier) is = absurd (cc)
noted_is notes aborted is = refl

pub alive_is : (x : Transaction) → may_abort x ≡ true → is_committed x ≡ false
alive_is idle is = refl
alive_is (noting earlier r) is = refl
alive_is (written earlier r) is = refl
alive_is (running earlier) is = refl
alive_is (holding earlier) is = refl
alive_is (committed earlier) is = absurd (cc)
alive_is aborted is = refl

-- one that was alive fits when it is aborted
pub aborted_fits : (reserved : List Reservation) (served epoch e t : ℕ) (x : Transaction) → may_abort x ≡ true
    → Fits reserved served epoch e t x → Fits reserved served epoch e t aborted
aborted_fits reserved served epoch e t idle is fits = absurd (cc)
aborted_fits reserved served epoch e t (noting notes r) is fits = λ somebody he. (fits somebody he).0
aborted_fits reserved served epoch e t (written notes r) is fits = λ somebody he. (fits somebody he).0
aborted_fits reserved served epoch e t (running notes) is fits = λ somebody he. sym fits.0 ∙ he
aborted_fits reserved served epoch e t (holding notes) is fits = absurd (cc)
aborted_fits reserved served epoch e t (committed notes) is fits = absurd (cc)
aborted_fits reserved served epoch e t aborted is fits = absurd (cc)

-- if an epoch is unused, each transaction fits when PostgreSQL shows it
pub fresh_fits : (reserved : List Reservation) (served epoch new e t : ℕ) (x : Transaction) → (e ≡ new → x ≡ idle)
    → Fits reserved served epoch e t x → Fits reserved served new e t x
fresh_fits reserved served epoch new e t idle unused fits = fits
fresh_fits reserved served epoch new e t (noting notes r) unused fits = λ somebody he. let is = unused he in absurd (cc)
fresh_fits reserved served epoch new e t (written notes r) unused fits = λ somebody he. let is = unused he in absurd (cc)
fresh_fits reserved served epoch new e t (running notes) unused fits = fits
fresh_fits reserved served epoch new e t (holding notes) unused fits = fits
fresh_fits reserved served epoch new e t (committed notes) unused fits = λ somebody he. let is = unused he in absurd (cc)
fresh_fits reserved served epoch new e t aborted unused fits = λ somebody he. let is = unused he in absurd (cc)

-- when a new owner has loaded, the transactions of other epochs fit if none holds the lock of a journal
pub others_fit : (reserved : List Reservation) (epoch e t : ℕ) (x : Transaction) → ¬ (e ≡ epoch) → holds_lock x ≡ false
    → Fits reserved epoch epoch e t (without_hold x)
others_fit reserved epoch e t idle differs free = λ he. absurd (differs he)
others_fit reserved epoch e t (noting notes r) differs free = λ somebody he. absurd (differs he)
others_fit reserved epoch e t (written notes r) differs free = absurd (cc)
others_fit reserved epoch e t (running notes) differs free = absurd (cc)
others_fit reserved epoch e t (holding notes) differs free = λ somebody he. refl
others_fit reserved epoch e t (committed notes) differs free = λ somebody he. refl
others_fit reserved epoch e t aborted differs free = λ somebody he. refl

-- its own are the holds, of which it still holds all
still_own : (reserved : List Reservation) (keep : Reservation → Bool) (t : ℕ) → ((r : Reservation) → (r.session == t) ≡ true → keep r ≡ true)
    → own t (filter keep reserved) ≡ own t reserved
still_own reserved keep t all = filter_within (λ (r : Reservation). r.session == t) keep reserved all

gone_own : (reserved : List Reservation) (keep : Reservation → Bool) (t : ℕ) → ((r : Reservation) → (r.session == t) ≡ true → keep r ≡ false)
    → own t (filter keep reserved) ≡ []
gone_own reserved keep t none =
    filter_none (λ (r : Reservation). r.session == t) (filter keep reserved) (λ r h. false_from_ne_true (r.session == t) (λ e.
    let fails = none r e in let passes = (has_filter keep reserved r h).1 in absurd (cc)))

-- how the transaction of a reservation's session ends
ends_at : (end_at : ℕ → Option End) (t : ℕ) (r : Reservation) → (r.session == t) ≡ true → is_none (end_at r.session) ≡ is_none (end_at t)
ends_at end_at t r e = ap (λ (x : ℕ). is_none (end_at x)) (eqb-true r.session t e)

pub holds_fit : (reserved : List Reservation) (served epoch e t : ℕ) (end_at : ℕ → Option End) (x : Transaction) → e ≡ epoch
    → end_at t ≡ ending x → Kept reserved served served t x → Fits (filter (λ (r : Reservation). is_none (end_at r.session)) reserved) epoch epoch e t (held_again x)
holds_fit reserved served epoch e t end_at idle he ends kept =
    let keep : Reservation → Bool = λ r. is_none (end_at r.session) in
    λ _. filters_commute (λ (r : Reservation). r.session == t) keep reserved ∙ ap (filter keep) (kept refl)
holds_fit reserved served epoch e t end_at (noting notes r) he ends kept =
    λ _. gone_own reserved (λ (x : Reservation). is_none (end_at x.session)) t (λ x same. ends_at end_at t x same ∙ ap is_none ends)
holds_fit reserved served epoch e t end_at (written notes r) he ends kept =
    λ _. gone_own reserved (λ (x : Reservation). is_none (end_at x.session)) t (λ x same. ends_at end_at t x same ∙ ap is_none ends)
holds_fit reserved served epoch e t end_at (running notes) he ends kept =
    λ _. gone_own reserved (λ (x : Reservation). is_none (end_at x.session)) t (λ x same. ends_at end_at t x same ∙ ap is_none ends)
holds_fit reserved served epoch e t end_at (holding notes) he ends kept =
    (he, still_own reserved (λ (x : Reservation). is_none (end_at x.session)) t (λ x same. ends_at end_at t x same ∙ ap is_none ends) ∙ kept.1)
holds_fit reserved served epoch e t end_at (committed notes) he ends kept =
    λ _. gone_own reserved (λ (x : Reservation). is_none (end_at x.session)) t (λ x same. ends_at end_at t x same ∙ ap is_none ends)
holds_fit reserved served epoch e t end_at aborted he ends kept =
    λ _. gone_own reserved (λ (x : Reservation). is_none (end_at x.session)) t (λ x same. ends_at end_at t x same ∙ ap is_none ends)

-- a plan of ends commits what is committed, and no transaction of a new owner is
pub ending_commits : (x : Transaction) → is_commit (ending x) ≡ is_committed x
ending_commits idle = refl
ending_commits (noting notes r) = refl
ending_commits (written notes r) = refl
ending_commits (running notes) = refl
ending_commits (holding notes) = refl
ending_commits (committed notes) = refl
ending_commits aborted = refl

pub held_is : (x : Transaction) → is_committed (held_again x) ≡ false
held_is idle = refl
held_is (noting notes r) = refl
held_is (written notes r) = refl
held_is (running notes) = refl
held_is (holding notes) = refl
held_is (committed notes) = refl
held_is aborted = refl

-- after a crash each transaction fits, since the epoch is nobody's. Those that are committed are those of the moment
pub crashed_fits : (reserved : List Reservation) (served e t : ℕ) (prepared : Bool) (x since : Transaction) → Kept reserved served e t x
    → Fits reserved served 0 e t (crashed prepared x since)
crashed_fits reserved served e t prepared idle idle kept = kept
crashed_fits reserved served e t prepared idle (noting notes r) kept = λ somebody he. absurd (omega arith)
crashed_fits reserved served e t prepared idle (written notes r) kept = λ somebody he. absurd (omega arith)
crashed_fits reserved served e t prepared idle (running notes) kept = λ somebody he. absurd (omega arith)
crashed_fits reserved served e t prepared idle (holding notes) kept = λ somebody he. absurd (omega arith)
crashed_fits reserved served e t prepared idle (committed notes) kept = λ somebody he. absurd (omega arith)
crashed_fits reserved served e t prepared idle aborted kept = λ somebody he. absurd (omega arith)
crashed_fits reserved served e t prepared (noting notes r) since kept = λ somebody he. absurd (omega arith)
crashed_fits reserved served e t prepared (written notes r) since kept = λ somebody he. absurd (omega arith)
crashed_fits reserved served e t true (running notes) since kept = kept
crashed_fits reserved served e t false (running notes) since kept = λ somebody he. absurd (omega arith)
crashed_fits reserved served e t prepared (holding notes) since kept = kept
crashed_fits reserved served e t prepared (committed notes) since kept = λ somebody he. absurd (omega arith)
crashed_fits reserved served e t prepared aborted since kept = λ somebody he. absurd (omega arith)

pub crashed_is : (prepared : Bool) (x since : Transaction) → is_committed (crashed prepared x since) ≡ is_committed x
crashed_is prepared idle idle = refl
crashed_is prepared idle (noting notes r) = refl
crashed_is prepared idle (written notes r) = refl
crashed_is prepared idle (running notes) = refl
crashed_is prepared idle (holding notes) = refl
crashed_is prepared idle (committed notes) = refl
crashed_is prepared idle aborted = refl
crashed_is prepared (noting notes r) since = refl
crashed_is prepared (written notes r) since = refl
crashed_is true (running notes) since = refl
crashed_is false (running notes) since = refl
crashed_is prepared (holding notes) since = refl
crashed_is prepared (committed notes) since = refl
crashed_is prepared aborted since = refl
