-- The refusals of the table and of a journal.
use Rattle.std.specs.Prelude.{◌≡◌, ◌⊎◌, ℕ, ◌<◌, Bool, true, false, nat_le, List, length, Option, Some, None, Result, Ok, Err, IfErr, IfSome, IsErrAnd, IsErrOf, IsTrue}
use Rattle.std.proofs.Common.{inl, inr, refl, ap, sym, subst, ◌∙◌, arith}
use Rattle.std.proofs.lemmas.Bool.{leb-true}
use Rattle.escrow_num.specs.declared.refusal.Refusal.{Refusal}
use Rattle.escrow_num.specs.declared.refusal.Refusal.TheVariants as refusal
use Rattle.escrow_num.specs.Refusal.{refuse_if}
use Rattle.escrow_journal.specs.Journal.{Journal, is_full, is_full_beside}
use Rattle.escrow_journal.specs.declared.journal.TheConstants.Journal.{MAX_RESERVATIONS, MAX_SAVEPOINTS}
use Rattle.escrow_txn.specs.Joined.{opened}
use Rattle.escrow_journal.specs.Open.{grant_refusal, savepoint_refusal}
use Rattle.escrow_journal.proofs.Free.{is_free}
use Rattle.escrow_txn.proofs.Marks.{other_names_is}
use Rattle.escrow_txn.proofs.Places.{IsAt}
use Rattle.escrow_txn.proofs.Sessions.{own_is}

-- a call has this refusal if a test holds
pub refused_if : {T : Type 0} (test : Bool) (r : Refusal) (result : Result T Refusal) → (IsTrue test → result ≡ Err r)
    → IfSome (refuse_if test r) (λ e. result ≡ Err e)
refused_if true r result refused = refused refl
refused_if false r result refused = tt

-- beside the refusal for memory, it is the only one
pub only_if : {T : Type 0} (test : Bool) (r : Refusal) (result : Result T Refusal) → IfErr result (λ e. (e ≡ r) ⊎ (e ≡ refusal.Memory))
    → (IsErrOf result r → IsTrue test) → IfErr result (λ e. (refuse_if test r ≡ Some e) ⊎ (e ≡ refusal.Memory))
only_if test r (Ok x) only room = tt
only_if test r (Err e) (inl is) room = inl (subst (λ b. refuse_if b r ≡ Some e) (sym (room (ap Err is))) (ap Some (sym is)))
only_if test r (Err e) (inr memory) room = inr memory

-- a session's savepoint is refused for the reason of its journal
pub savepoint_refusal_is : (session next : ℕ) (name : List ℕ) (journals : List Journal) (i : ℕ) (log : Journal) → IsAt session journals i log
    → refuse_if (is_full_beside name log) refusal.TooManySavepoints ≡ savepoint_refusal session name (opened journals next)
savepoint_refusal_is session next name journals i log at =
    ap (λ ps. refuse_if (nat_le MAX_SAVEPOINTS (length ps)) refusal.TooManySavepoints) (sym (other_names_is session name journals i log at))

-- if a session may have one more reservation, its journal has room
pub has_room : (session next : ℕ) (journals : List Journal) (i : ℕ) (log : Journal) → IsAt session journals i log
    → grant_refusal session (opened journals next) ≡ None → length log.reservations < MAX_RESERVATIONS
has_room session next journals i log at none =
    subst (λ rs. length rs < MAX_RESERVATIONS) (own_is session journals i log at) (is_free session (opened journals next) none).room

-- a reservation is then refused only for memory
pub only_memory : {T : Type 0} (log : Journal) (result : Result T Refusal) → length log.reservations < MAX_RESERVATIONS
    → IfErr result (λ e. (e ≡ refusal.TooManyReservations) ⊎ (e ≡ refusal.Memory)) → (IsErrOf result refusal.TooManyReservations → IsTrue (is_full log))
    → IfErr result (λ e. e ≡ refusal.Memory)
only_memory log (Ok x) room only full = tt
only_memory log (Err e) room (inl many) full = absurd (let most = leb-true MAX_RESERVATIONS (length log.reservations) (full (ap Err many)) in omega arith)
only_memory log (Err e) room (inr memory) full = memory

-- the caller returns that refusal
pub memory_on : {T U : Type 0} (call : Result U Refusal) (result : Result T Refusal) (e : Refusal) (why : Option Refusal) → call ≡ Err e
    → IfErr call (λ r. r ≡ refusal.Memory) → IsErrAnd result (λ r. r ≡ e) → IfErr result (λ r. (why ≡ Some r) ⊎ (r ≡ refusal.Memory))
memory_on (Ok x) result e why was memory is = absurd (cc)
memory_on (Err x) (Ok y) e why was memory is = absurd is
memory_on (Err x) (Err y) e why was memory is = let same : x ≡ e = cc in inr (is ∙ sym same ∙ memory)
