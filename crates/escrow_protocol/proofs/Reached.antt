-- What holds in every state to which events lead: the laws.
use Rattle.std.specs.Prelude.{◌≡◌, Bool, true, false, ◌||◌, ◌&&◌, List, [], ◌∷◌, filter}
use Rattle.std.specs.List.{AllByRecursion}
use Rattle.std.proofs.Common.{inl, inr, refl, sym, ap, subst, ◌∙◌}
use Rattle.escrow_num.specs.declared.reservation.Reservation.{Reservation}
use Rattle.escrow_num.specs.declared.row.Row.{Row}
use Rattle.escrow_num.specs.Order.{same_row}
use Rattle.escrow_num.proofs.Items.{all_has, has_filter}
use Rattle.escrow_schema.specs.declared.table.TableDef.{TableDef}
use Rattle.escrow_schema.specs.Rows.{row_named, applied, MeetsChecks}
use Rattle.escrow_machine.specs.State.{opened}
use Rattle.escrow_machine.specs.Valid.{IsValid}
use Rattle.escrow_machine.proofs.Applying.{applied_none}
use Rattle.escrow_machine.proofs.Safe.{committed_rows_meet_checks}
use Rattle.escrow_protocol.specs.Protocol.{Transaction, idle, noting, written, running, holding, committed, aborted, Protocol, installed, is_committed, may_commit, transaction_of, amounts_in}
use Rattle.escrow_protocol.specs.Step.{Event, IsRun, after}
use Rattle.escrow_protocol.specs.Laws.{IsReached, EachChangeOnce, ServerKnows, WhatIsOpenIsReserved, ServerIsValid, WhatIsOpenIsGrantedAgain, may_go, NoCheckBreaks, NoFoldIsRefused, LoadsMayComeLater}
use Rattle.escrow_protocol.proofs.Again.{granted_again}
use Rattle.escrow_protocol.proofs.Applied.{applied_parts, folded_meet, folded_row, row_untouched}
use Rattle.escrow_protocol.proofs.Chosen.{chosen_meet}
use Rattle.escrow_protocol.proofs.Events.{event_sound}
use Rattle.escrow_protocol.proofs.Sound.{IsSound, Fits, told}

-- the first state is sound
installed_sound : (catalog : List TableDef) (rows : List Row) → IsValid (opened catalog rows) → IsSound catalog rows (installed catalog rows)
installed_sound catalog rows valid = record {
  now = record {
    once = applied_none rows;
    placed = tt;
    amounts = subst (λ (rs : List Row). IsValid (opened catalog rs)) (sym (applied_none rows)) valid;
    meet = committed_rows_meet_checks (opened catalog rows) valid;
    tables = refl;
    valid = valid;
    known = refl;
  };
  fits = λ e t he. refl;
  before = tt;
}

-- so is each state to which events lead
run_sound : (catalog : List TableDef) (rows : List Row) (s : Protocol) (events : List Event) (new : Protocol) → IsSound catalog rows s → IsRun s events new → IsSound catalog rows new
run_sound catalog rows s [] new sound run = subst (IsSound catalog rows) (sym run) sound
run_sound catalog rows s (event ∷ events) new sound run =
    run_sound catalog rows (after s event) events new (event_sound catalog rows s sound event run.0) run.1

reached_sound : (catalog : List TableDef) (rows : List Row) (s : Protocol) → IsReached catalog rows s → IsSound catalog rows s
reached_sound catalog rows s reached =
    run_sound catalog rows (installed catalog rows) reached.events s (installed_sound catalog rows reached.valid) reached.run

pub each_change_once : EachChangeOnce
each_change_once catalog rows s reached = (reached_sound catalog rows s reached).now.once

pub server_knows : ServerKnows
server_knows catalog rows s reached = (reached_sound catalog rows s reached).now.known

pub server_is_valid : ServerIsValid
server_is_valid catalog rows s reached = (reached_sound catalog rows s reached).now.valid

pub what_is_open_is_granted_again : WhatIsOpenIsGrantedAgain
what_is_open_is_granted_again catalog rows s reached first rest r kept is =
    granted_again s.now.server (reached_sound catalog rows s reached).now.valid first rest r is kept

pub what_is_open_is_reserved : WhatIsOpenIsReserved
what_is_open_is_reserved catalog rows s reached epoch session notes is =
    let fits = (reached_sound catalog rows s reached).fits epoch session in
    elim is [
      | inl runs ↦ subst (Fits s.now.server.reservations s.now.served s.epoch epoch session) runs fits
      | inr holds ↦ subst (Fits s.now.server.reservations s.now.served s.epoch epoch session) holds fits
    ]

-- no transaction is both committed and one that may commit
apart : (x : Transaction) (b : Bool) → (is_committed x && (b && may_commit x)) ≡ false
apart idle b = refl
apart (noting notes r) b = refl
apart (written notes r) b = refl
apart (running notes) b = refl
apart (holding notes) b = refl
apart (committed notes) true = refl
apart (committed notes) false = refl
apart aborted b = refl

pub no_check_breaks : NoCheckBreaks
no_check_breaks catalog rows s reached chosen =
    let sound = reached_sound catalog rows s reached in
    let done : Reservation → Bool = told (s.now.transactions s.now.served) in
    let goes : Reservation → Bool = λ r. chosen r.session && may_commit (transaction_of s.now r) in
    let both : Reservation → Bool = λ r. done r || goes r in
    let same : applied (amounts_in s.now) (may_go chosen s.now) ≡ applied s.now.server.rows (filter both s.now.server.reservations) =
    ap (λ (rs : List Row). applied rs (may_go chosen s.now)) sound.now.known
    ∙ applied_parts done goes both (λ _. refl) (λ r. apart (transaction_of s.now r) (chosen r.session)) s.now.server.reservations s.now.server.rows in
    subst (AllByRecursion (MeetsChecks catalog)) (sym same)
    (subst (λ (c : List TableDef). AllByRecursion (MeetsChecks c) (applied s.now.server.rows (filter both s.now.server.reservations))) sound.now.tables (chosen_meet s.now.server sound.now.valid both))

pub no_fold_is_refused : NoFoldIsRefused
no_fold_is_refused catalog rows s reached key =
    let sound = reached_sound catalog rows s reached in
    (sound.now.meet, folded_meet catalog key s.now.journal s.now.rows sound.now.meet (committed_rows_meet_checks (opened catalog (amounts_in s.now)) sound.now.amounts))

pub loads_may_come_later : LoadsMayComeLater
loads_may_come_later catalog rows s reached key free =
    let sound = reached_sound catalog rows s reached in
    let done : Reservation → Bool = told (s.now.transactions s.now.served) in
    folded_row s.now.rows key s.now.journal
    ∙ ap (λ (rs : List Row). row_named rs key) sound.now.known
    ∙ row_untouched s.now.server.rows key (filter done s.now.server.reservations)
    (λ r h. all_has (λ (x : Reservation). same_row key x.row ≡ false) s.now.server.reservations free r (has_filter done s.now.server.reservations r h).0)
