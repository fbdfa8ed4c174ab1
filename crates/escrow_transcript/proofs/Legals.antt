-- The laws of transcripts.
use Rattle.std.specs.Prelude.{◌≡◌, false, nat_lt, [], List, length}
use Rattle.std.proofs.Common.{refl, sym, subst, arith}
use Rattle.std.proofs.lemmas.Bool.{ltb-false, or_parts}
use Rattle.std.proofs.lemmas.List.{nil_from_length}
use Rattle.escrow_num.specs.declared.reservation.Reservation.{Reservation}
use Rattle.escrow_num.specs.declared.reservation.Savepoint.{Savepoint}
use Rattle.escrow_machine.specs.State.{State, has_open}
use Rattle.escrow_machine.proofs.LawsSteps.{run_keeps_valid}
use Rattle.escrow_transcript.specs.Image.{image_of, started}
use Rattle.escrow_transcript.specs.Laws.{ImagesAreWhole, NothingIsLegal, OneMoreIsLegal, LegalsJoin, LegalsPart, NumbersTellPlaces, LegalsAreRuns, EndsAreValid, CallsTellAll}
use Rattle.escrow_transcript.proofs.Numbers.{numbered_join, numbered_more, numbered_front, number_at}
use Rattle.escrow_transcript.proofs.Runs.{steps_run, events_of_sessions, steps_same}
use Rattle.escrow_transcript.proofs.Steps.{steps_join, steps_more, steps_part}

-- a list without an item is empty
none_in : {A : Type 0} (xs : List A) → nat_lt 0 (length xs) ≡ false → xs ≡ []
none_in {A} xs none = nil_from_length xs (omega (arith, ltb-false 0 (length xs) none))

-- if nothing is open, the image is the whole state
pub started_image : (s : State) → has_open s ≡ false → started (image_of s) ≡ s
started_image s closed =
    let none = or_parts (nat_lt 0 (length s.reservations)) (nat_lt 0 (length s.savepoints)) closed in
    subst (λ (l : List Reservation). started (image_of s) ≡ record s { reservations = l; savepoints = s.savepoints }) (sym (none_in s.reservations none.0))
    (subst (λ (l : List Savepoint). started (image_of s) ≡ record s { reservations = []; savepoints = l }) (sym (none_in s.savepoints none.1)) refl)

pub images_are_whole : ImagesAreWhole
images_are_whole = record { of_states = started_image; of_starts = λ _. refl }

pub nothing_is_legal : NothingIsLegal
nothing_is_legal base = record { run = refl; numbered = tt }

pub one_more_is_legal : OneMoreIsLegal
one_more_is_legal base entries mid end e legal succeeds done number = record {
  run = steps_more (started base.image) mid end entries e legal.run succeeds done;
  numbered = numbered_more base.before entries e legal.numbered number;
}

pub legals_join : LegalsJoin
legals_join base next entries more end first number rest = record {
  run = steps_join (started base.image) (started next.image) end entries more first.run rest.run;
  numbered = numbered_join base.before next.before entries more first.numbered number rest.numbered;
}

pub legals_part : LegalsPart
legals_part base front rest end legal =
    let parts = steps_part (started base.image) end front rest legal.run in
    (parts.0, (record { run = parts.1.0; numbered = numbered_front base.before front rest legal.numbered }, parts.1.1))

pub numbers_tell_places : NumbersTellPlaces
numbers_tell_places base entries end i e legal = number_at base.before entries i e legal.numbered

pub legals_are_runs : LegalsAreRuns
legals_are_runs base entries end legal = steps_run (started base.image) end entries legal.run

pub ends_are_valid : EndsAreValid
ends_are_valid base entries end legal valid sessions =
    run_keeps_valid (started base.image) _ _ end valid (events_of_sessions entries sessions) (legals_are_runs base entries end legal)

pub calls_tell_all : CallsTellAll
calls_tell_all base entries others end other first second =
    steps_same (started base.image) end other base.before entries others first.run first.numbered second.run second.numbered
