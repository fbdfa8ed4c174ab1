-- The COMMITs of a plan as they are written, up to one that fails, and on from there.
use Rattle.std.specs.Prelude.{◌≡◌, ℕ, zero, suc, ◌+◌, ◌-◌, ◌<◌, ◌≤◌, IsSome, IsTrue, Option, Some, None, List, [], ◌∷◌, ◌++◌, length, take, drop, replicate, slice_get, slice_set}
use Rattle.std.specs.List.{AllByRecursion}
use Rattle.std.proofs.Common.{inl, inr, refl, sym, ap, subst, arith, le_refl, min, ◌∙◌}
use Rattle.std.proofs.lemmas.List.{append_assoc, drop-drop, length-append, length-drop, length-replicate, length-take, length-take-le, replicate-append-replicate, take-append-le, take_all, take_min}
use Rattle.std.proofs.lemmas.Option.{slice_get_within}
use Rattle.std.proofs.Math.Seq.{drop-append-add, take-append-add, take-append_seam}
use Rattle.sqlite.specs.State.{State as Store, HasCleanDisk, Survives}
use Rattle.sqlite.proofs.StateLemmas.{survives_then}
use Rattle.sqlite_trees.specs.Tree.{Trees}
use Rattle.escrow_num.specs.declared.failure.Failure.{Failure}
use Rattle.escrow_num.specs.declared.reservation.Reservation.{Reservation}
use Rattle.escrow_num.specs.declared.session.End.{End}
use Rattle.escrow_num.specs.declared.session.End.TheVariants as end
use Rattle.escrow_num.specs.Refusal.{refusal_for}
use Rattle.escrow_journal.specs.Reservations.{own, others}
use Rattle.escrow_machine.specs.declared.reply.Reply.{Reply}
use Rattle.escrow_machine.specs.declared.reply.Reply.TheVariants as reply
use Rattle.escrow_machine.specs.Settle.{after_end, after_ends, committed_by, settled}
use Rattle.escrow_machine.specs.State.{State}
use Rattle.escrow_machine.proofs.Choices.{append_all}
use Rattle.escrow_machine.proofs.LawsEnds.{own_stay}
use Rattle.escrow_machine.proofs.Settling.{settled_is_the_run}
use Rattle.escrow_rows.specs.Answers.{IsUsable}
use Rattle.escrow_core.specs.Beside.{AreAfterDone, AreAfterOutcomes, AreAllSettled, AreHolding, AreSettled, HaveFailed, refused_at, ended}
use Rattle.escrow_core.specs.Left.{Lasts}
use Rattle.escrow_core.specs.Serves.{AreAfterAtLeast, AreAfterEnds, AreHeldOf}
use Rattle.escrow_core.proofs.HeldOutcomes.{all_ended, ended_past}
use Rattle.escrow_core.proofs.HeldReplies.{none_refused, refused_past}
use Rattle.escrow_core.proofs.Lasting.{drop_both, end_left, none_by}
use Rattle.escrow_core.proofs.Parts.{commits_of, some_take}
use Rattle.escrow_core.proofs.Serving.{still_clean, survives_itself}

-- the part of the plan that remains, with the places of its replies
pub record SettlesSoFar (sure : Type 0) (plan : List (ℕ × End)) (places : List ℕ) (before : State) (replies : List Reply) (rest : List (ℕ × End)) (left : List ℕ) (now : State) (later : List Reply) : Type 0 where
  pub outcomes : List (Option Failure)
  pub as_many : length outcomes + length rest ≡ length plan
  pub is_later : (more : List (Option Failure)) → refused_at places (outcomes ++ more) replies ≡ refused_at left more later
  pub is_now : sure → (more : List (Option Failure)) → ended plan (outcomes ++ more) before ≡ ended rest more now

settling_begins : (sure : Type 0) (plan : List (ℕ × End)) (places : List ℕ) (before : State) (replies : List Reply)
    → SettlesSoFar sure plan places before replies plan places before replies
settling_begins sure plan places before replies = record { outcomes = []; as_many = omega arith; is_later = λ more. refl; is_now = λ _ more. refl }

-- the outcomes of the remaining entries up to one that fails
abbrev stopped_at : ℕ → Failure → List (Option Failure)
stopped_at place cause = replicate place None ++ Some cause ∷ []

stopped_more : (outcomes : List (Option Failure)) (place : ℕ) (cause : Failure) (more : List (Option Failure))
    → (outcomes ++ stopped_at place cause) ++ more ≡ outcomes ++ (replicate place None ++ Some cause ∷ more)
stopped_more outcomes place cause more =
    append_assoc outcomes (stopped_at place cause) more ∙ ap (λ xs. outcomes ++ xs) (append_assoc (replicate place None) (Some cause ∷ []) more)

length_stopped : (place : ℕ) (cause : Failure) → length (stopped_at place cause) ≡ place + 1
length_stopped place cause = length-append (replicate place None) (Some cause ∷ []) ∙ ap (λ n. n + 1) (length-replicate place None)

-- the entry at an index fails
settling_stops : (sure later : Type 0) (plan : List (ℕ × End)) (places : List ℕ) (before : State) (replies : List Reply) (rest : List (ℕ × End)) (left : List ℕ) (mid : State) (told : List Reply)
    (place at : ℕ) (cause : Failure) (new : State) → SettlesSoFar sure plan places before replies rest left mid told → (later → sure) → length rest ≡ length left → slice_get left place ≡ Some at
    → (later → (entry : ℕ × End) × (slice_get rest place ≡ Some entry) × (new ≡ after_ends mid (take place rest)))
    → SettlesSoFar later plan places before replies (drop (place + 1) rest) (drop (place + 1) left) new (slice_set told at (reply.Refused (refusal_for cause)))
settling_stops sure later plan places before replies rest left mid told place at cause new so_far surely as_long found stopped =
    let outcomes = so_far.outcomes in
    let below : place < length left = slice_get_within left place at found in
    let many : length (outcomes ++ stopped_at place cause) ≡ length outcomes + (place + 1) =
    length-append outcomes (stopped_at place cause) ∙ ap (λ n. length outcomes + n) (length_stopped place cause) in
    let fewer : length (drop (place + 1) rest) ≡ length rest - (place + 1) = length-drop (place + 1) rest in
    record {
      outcomes = outcomes ++ stopped_at place cause;
      as_many = omega (arith, many, fewer, below, as_long, so_far.as_many);
      is_later = λ more.
          ap (λ os. refused_at places os replies) (stopped_more outcomes place cause more)
          ∙ so_far.is_later (replicate place None ++ Some cause ∷ more) ∙ refused_past left place at cause more told found;
      is_now = λ h more.
          let stop = stopped h in
          ap (λ os. ended plan os before) (stopped_more outcomes place cause more)
          ∙ so_far.is_now (surely h) (replicate place None ++ Some cause ∷ more) ∙ ended_past rest place stop.0 cause more mid stop.1
          ∙ ap (ended (drop (place + 1) rest) more) (sym stop.2);
    }

-- none of the remaining entries fails
settling_ends : (sure later : Type 0) (plan : List (ℕ × End)) (places : List ℕ) (before : State) (replies : List Reply) (rest : List (ℕ × End)) (left : List ℕ) (mid : State) (told : List Reply) (new : State)
    → SettlesSoFar sure plan places before replies rest left mid told → (later → sure) → (later → new ≡ after_ends mid rest)
    → AreSettled later plan places before replies new told
settling_ends sure later plan places before replies rest left mid told new so_far surely all =
    let done : List (Option Failure) = replicate (length rest) None in
    record {
      outcomes = so_far.outcomes ++ done;
      as_many = length-append so_far.outcomes done ∙ ap (λ n. length so_far.outcomes + n) (length-replicate (length rest) None) ∙ so_far.as_many;
      is_later = sym (so_far.is_later done ∙ none_refused left (length rest) told);
      is_after = λ h. all h ∙ sym (so_far.is_now (surely h) done ∙ all_ended rest mid);
    }

-- WHAT A CRASH LEAVES

done_first : (rest : List (ℕ × End)) (n : ℕ) (s : State) → ended rest (replicate n None) s ≡ after_ends s (take n rest)
done_first [] zero s = refl
done_first [] (suc n) s = refl
done_first (entry ∷ rest) zero s = refl
done_first (entry ∷ rest) (suc n) s = done_first rest n (after_end s entry.0 entry.1)

-- the state after the first entries of the remaining part
rest_left : (sure : Type 0) (plan : List (ℕ × End)) (places : List ℕ) (before : State) (replies : List Reply) (rest : List (ℕ × End)) (left : List ℕ) (mid : State) (told : List Reply) (more : List (Option Failure))
    (trees : Trees) (so_far : SettlesSoFar sure plan places before replies rest left mid told) → sure → AreAfterEnds rest mid trees → AreAfterOutcomes plan (so_far.outcomes ++ more) before trees
rest_left sure plan places before replies rest left mid told more trees so_far surely ends =
    let outcomes = so_far.outcomes in
    let few = some_take rest ends.0 in
    let same : settled (take ends.0 rest) mid ≡ ended plan (take (length outcomes) (outcomes ++ more) ++ replicate few.0 None) before =
    settled_is_the_run mid (take ends.0 rest) ∙ ap (after_ends mid) (sym few.2) ∙ sym (done_first rest few.0 mid) ∙ sym (so_far.is_now surely (replicate few.0 None))
    ∙ ap (λ os. ended plan (os ++ replicate few.0 None) before) (sym (take-append_seam outcomes more)) in (
      length outcomes,
      few.0,
      omega (arith, length-append outcomes more),
      omega (arith, few.1, so_far.as_many),
      subst (λ (t : State). AreHeldOf t trees) same ends.1,
    )

-- what a crash could leave before, it can leave after more outcomes are known
still_left : (plan : List (ℕ × End)) (outcomes more : List (Option Failure)) (s : State) (trees : Trees) → AreAfterOutcomes plan outcomes s trees → AreAfterOutcomes plan (outcomes ++ more) s trees
still_left plan outcomes more s trees left = (
  left.0,
  left.1,
  omega (arith, left.2, length-append outcomes more),
  left.3,
  subst (λ (os : List (Option Failure)). AreHeldOf (ended plan (os ++ replicate left.1 None) s) trees) (sym (take-append-le left.0 outcomes more left.2)) left.4,
)

-- COMMITS THAT WERE DONE

-- the COMMITs of a plan still hold reservations after the first entries
others_hold : (a : ℕ) (plan : List (ℕ × End)) (reservations : List Reservation) → AllByRecursion (λ later. ¬ (later.0 ≡ a)) plan
    → AllByRecursion (λ entry. (entry.1 ≡ end.Commit) × (0 < length (own entry.0 reservations))) plan
    → AllByRecursion (λ entry. (entry.1 ≡ end.Commit) × (0 < length (own entry.0 (others a reservations)))) plan
others_hold a [] reservations apart holds = tt
others_hold a (entry ∷ plan) reservations apart holds =
    let same = own_stay a entry.0 reservations (λ is. apart.0 (sym is)) in
    ((holds.0.0, subst (λ (rs : List Reservation). 0 < length rs) (sym same) holds.0.1), others_hold a plan reservations apart.1 holds.1)

holding_next : (entry : ℕ × End) (plan : List (ℕ × End)) (s : State) → AreHolding (entry ∷ plan) s → AreHolding plan (after_end s entry.0 entry.1)
holding_next entry plan s it = record {
  apart = it.apart.1;
  holds = subst (λ (rs : List Reservation). AllByRecursion (λ (later : ℕ × End). (later.1 ≡ end.Commit) × (0 < length (own later.0 rs))) plan) (sym (end_left s entry.0 entry.1))
      (others_hold entry.0 plan s.reservations it.apart.0 it.holds.1);
}

holding_past : (plan : List (ℕ × End)) (n : ℕ) (s : State) → AreHolding plan s → AreHolding (drop n plan) (after_ends s (take n plan))
holding_past plan zero s it = it
holding_past [] (suc n) s it = it
holding_past (entry ∷ plan) (suc n) s it = holding_past plan n (after_end s entry.0 entry.1) (holding_next entry plan s it)

holding_tail : (plan : List (ℕ × End)) (s : State) → AreHolding plan s → AreHolding (drop 1 plan) s
holding_tail [] s it = it
holding_tail (entry ∷ plan) s it = record { apart = it.apart.1; holds = it.holds.1 }

-- if they committed no reservation, none was done
nothing_done : (plan : List (ℕ × End)) (s : State) (n : ℕ) → AreHolding plan s → n ≤ length plan → committed_by (take n plan) s.reservations ≡ [] → n ≡ 0
nothing_done plan s zero it few none = refl
nothing_done [] s (suc n) it few none = absurd (omega (arith, few))
nothing_done (entry ∷ plan) s (suc n) it few none =
    let first = it.holds.0 in
    let zero_done : commits_of ((entry.0, end.Commit) ∷ take n plan) s.reservations ≡ 0 =
    subst (λ (x : End). commits_of ((entry.0, x) ∷ take n plan) s.reservations ≡ 0) first.0 (none_by (take (suc n) (entry ∷ plan)) s.reservations none) in
    absurd (omega (arith, zero_done, first.1))

-- the outcomes behind those that were done
failed_behind : (place : ℕ) (cause : Failure) → HaveFailed (drop place (stopped_at place cause))
failed_behind zero cause = (refl, tt)
failed_behind (suc place) cause = failed_behind place cause

done_before : (place : ℕ) (cause : Failure) → take place (stopped_at place cause) ≡ replicate place None
done_before zero cause = refl
done_before (suc place) cause = ap (λ (os : List (Option Failure)). None ∷ os) (done_before place cause)

failed_none : (n : ℕ) → HaveFailed (drop n (replicate n None))
failed_none zero = tt
failed_none (suc n) = failed_none n

-- what a crash leaves after at least some first entries of the remaining part
rest_done : (sure : Type 0) (plan : List (ℕ × End)) (places : List ℕ) (before : State) (replies : List Reply) (rest : List (ℕ × End)) (left : List ℕ) (mid : State) (told : List Reply) (more : List (Option Failure))
    (least : ℕ) (trees : Trees) (so_far : SettlesSoFar sure plan places before replies rest left mid told) → sure → least ≤ length rest → take least more ≡ replicate least None → HaveFailed (drop least more)
    → AreAfterAtLeast least rest mid trees → AreAfterDone plan (so_far.outcomes ++ more) before trees
rest_done sure plan places before replies rest left mid told more least trees so_far surely few done failed ends =
    let outcomes = so_far.outcomes in
    let k = min ends.0 (length rest) in
    let past : least ≤ k = omega (arith, ends.1, few) in
    let many : least ≤ length more = omega (arith, length-take least more, ap length done, length-replicate {A = Option Failure} least None) in
    let parts : replicate k None ≡ replicate least None ++ replicate (k - least) None =
    ap (λ (n : ℕ). replicate {A = Option Failure} n None) (omega (arith, past)) ∙ sym (replicate-append-replicate least (k - least) None) in
    let front : take (length outcomes + least) (outcomes ++ more) ≡ outcomes ++ replicate least None = take-append-add outcomes more least ∙ ap (λ os. outcomes ++ os) done in
    let counts : outcomes ++ replicate k None ≡ take (length outcomes + least) (outcomes ++ more) ++ replicate (k - least) None =
    ap (λ os. outcomes ++ os) parts ∙ sym (append_assoc outcomes (replicate least None) (replicate (k - least) None)) ∙ ap (λ os. os ++ replicate (k - least) None) (sym front) in
    let same : settled (take ends.0 rest) mid ≡ ended plan (take (length outcomes + least) (outcomes ++ more) ++ replicate (k - least) None) before =
    settled_is_the_run mid (take ends.0 rest) ∙ ap (after_ends mid) (sym (take_min ends.0 rest)) ∙ sym (done_first rest k mid) ∙ sym (so_far.is_now surely (replicate k None))
    ∙ ap (λ os. ended plan os before) counts in
    let behind : drop least more ≡ drop (length outcomes + least) (outcomes ++ more) = sym (drop-append-add outcomes more least) in
    record {
      some = (
        length outcomes + least,
        k - least,
        omega (arith, length-append outcomes more, many),
        omega (arith, so_far.as_many, past),
        subst (λ (t : State). AreHeldOf t trees) same ends.2,
      );
      none_missing = subst HaveFailed behind failed;
    }

-- the same after more COMMITs failed
done_more : (plan : List (ℕ × End)) (outcomes more : List (Option Failure)) (s : State) (trees : Trees) → HaveFailed more → AreAfterDone plan outcomes s trees → AreAfterDone plan (outcomes ++ more) s trees
unfolding still_left
done_more plan outcomes more s trees failed it = record {
  some = still_left plan outcomes more s trees it.some;
  none_missing = drop_both IsSome it.some.0 outcomes more it.none_missing failed;
}

-- what is settled so far, and what a crash leaves of it
pub record IsLeftSoFar (first now : Store) (plan : List (ℕ × End)) (places : List ℕ) (before : State) (replies : List Reply) (rest : List (ℕ × End)) (left : List ℕ) (latest : State) (told : List Reply) : Type 0 where
  pub so_far : SettlesSoFar (HasCleanDisk now) plan places before replies rest left latest told
  pub usable : IsUsable now → IsUsable first
  pub leaves : Survives first now (λ trees. IsTrue first.is_open × AreAfterOutcomes plan so_far.outcomes before trees)
  pub holding : AreHolding plan before → HasCleanDisk now → AreHolding rest latest
  pub durable : AreHolding plan before → Lasts first now (HaveFailed so_far.outcomes) (AreAfterDone plan so_far.outcomes before)

pub left_begins : (now : Store) (plan : List (ℕ × End)) (places : List ℕ) (before : State) (replies : List Reply) → IsLeftSoFar now now plan places before replies plan places before replies
unfolding settling_begins
left_begins now plan places before replies = record {
  so_far = settling_begins (HasCleanDisk now) plan places before replies;
  usable = λ usable. usable;
  leaves = survives_itself now _;
  holding = λ holds _. holds;
  durable = λ _ _ _ may. inl (tt, may);
}

module _ (first now new : Store) (plan : List (ℕ × End)) (places : List ℕ) (before : State) (replies : List Reply) (rest : List (ℕ × End)) (left : List ℕ) (mid : State) (told : List Reply)
    (it : IsLeftSoFar first now plan places before replies rest left mid told) (usable : IsUsable new → IsUsable now)
    (survives : Survives now new (λ trees. IsTrue now.is_open × AreAfterEnds rest mid trees)) where
  -- the same with more outcomes of the remaining part
  leaves_more : (more : List (Option Failure)) → Survives first new (λ trees. IsTrue first.is_open × AreAfterOutcomes plan (it.so_far.outcomes ++ more) before trees)
  leaves_more more =
      survives_then first now new _ _ _
      (λ clean trees k. (k.0, still_left plan it.so_far.outcomes more before trees k.1))
      (λ clean trees k.
      let was = still_clean now new _ survives clean in
      ((it.usable (was, k.0)).1, rest_left (HasCleanDisk now) plan places before replies rest left mid told more trees it.so_far was k.1))
      it.leaves survives

  -- what was done is not missing
  lasts_more : (more : List (Option Failure)) (least : ℕ) → least ≤ length rest → take least more ≡ replicate least None → HaveFailed (drop least more) → (least ≡ 0 → HaveFailed more)
      → Lasts now new (committed_by (take least rest) mid.reservations ≡ []) (AreAfterAtLeast (length (take least rest)) rest mid)
      → AreHolding plan before → Lasts first new (HaveFailed (it.so_far.outcomes ++ more)) (AreAfterDone plan (it.so_far.outcomes ++ more) before)
  lasts_more more least few done behind none made holds clean trees may =
      let was = still_clean now new _ survives clean in
      let outcomes = it.so_far.outcomes in
      elim (made clean trees may) [
        | inr ends ↦
            inr (rest_done (HasCleanDisk now) plan places before replies rest left mid told more least trees it.so_far was few done behind (ends.0, omega (arith, ends.1, length-take-le least rest few), ends.2))
        | inl kept ↦
            let failed : HaveFailed more = none (nothing_done rest mid least (it.holding holds was) few kept.0) in
            elim (it.durable holds was trees kept.1) [
              | inl nothing ↦ inl (append_all IsSome outcomes more nothing.0 failed, nothing.1)
              | inr made_before ↦ inr (done_more plan outcomes more before trees failed made_before)
            ]
      ]

  pub left_stops : (place at : ℕ) (cause : Failure) (latest : State) → length rest ≡ length left → slice_get left place ≡ Some at
      → (HasCleanDisk new → (entry : ℕ × End) × (slice_get rest place ≡ Some entry) × (latest ≡ after_ends mid (take place rest)))
      → Lasts now new (committed_by (take place rest) mid.reservations ≡ []) (AreAfterAtLeast (length (take place rest)) rest mid)
      → IsLeftSoFar first new plan places before replies (drop (place + 1) rest) (drop (place + 1) left) latest (slice_set told at (reply.Refused (refusal_for cause)))
  unfolding settling_stops
  left_stops place at cause latest as_long found stopped made = record {
    so_far =
        settling_stops (HasCleanDisk now) (HasCleanDisk new) plan places before replies rest left mid told place at cause latest it.so_far (still_clean now new _ survives) as_long found stopped;
    usable = λ still. it.usable (usable still);
    leaves = leaves_more (stopped_at place cause);
    holding = λ holds clean.
        let behind = holding_tail (drop place rest) (after_ends mid (take place rest)) (holding_past rest place mid (it.holding holds (still_clean now new _ survives clean))) in
        subst (AreHolding (drop (place + 1) rest)) (sym (stopped clean).2)
        (subst (λ (xs : List (ℕ × End)). AreHolding xs (after_ends mid (take place rest))) (drop-drop 1 place rest) behind);
    durable =
        lasts_more (stopped_at place cause) place (omega (arith, slice_get_within left place at found, as_long)) (done_before place cause) (failed_behind place cause)
        (λ first. subst (λ (n : ℕ). HaveFailed (stopped_at n cause)) (sym first) (refl, tt)) made;
  }

  pub left_ends : (latest : State) → (HasCleanDisk new → latest ≡ after_ends mid rest)
      → Lasts now new (committed_by rest mid.reservations ≡ []) (AreAfterAtLeast (length rest) rest mid) → AreAllSettled first new plan places before replies latest told
  unfolding settling_ends
  left_ends latest all made = record {
    settled = settling_ends (HasCleanDisk now) (HasCleanDisk new) plan places before replies rest left mid told latest it.so_far (still_clean now new _ survives) all;
    left = leaves_more (replicate (length rest) None);
    durable =
        lasts_more (replicate (length rest) None) (length rest) (le_refl (length rest)) (take_all (length rest) (replicate (length rest) None) (omega (arith, length-replicate {A = Option Failure} (length rest) None))) (failed_none (length rest))
        (λ none. subst (λ (n : ℕ). HaveFailed (replicate n None)) (sym none) tt)
        (subst (λ (xs : List (ℕ × End)). Lasts now new (committed_by xs mid.reservations ≡ []) (AreAfterAtLeast (length xs) rest mid)) (sym (take_all (length rest) rest (le_refl (length rest)))) made);
  }
