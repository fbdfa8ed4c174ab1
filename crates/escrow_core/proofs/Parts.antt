-- A plan of ends, settled part by part.
use Rattle.std.specs.Prelude.{◌≡◌, ℕ, zero, suc, ◌+◌, ◌-◌, ◌^◌, ◌<◌, ◌≤◌, ◌==◌, ◌||◌, Bool, false, IfErr, IfOk, IsTrue, OnOk, Result, Ok, Err, List, [], ◌∷◌, ◌++◌, length, take, slice_get}
use Rattle.std.specs.List.{list_any}
use Rattle.std.proofs.Common.{inl, inr, refl, sym, ap, ap₂, subst, append-nil, arith, drop, eq-eqb, get_or, le_refl, ◌∙◌}
use Rattle.std.proofs.lemmas.Bool.{eqb-true, false_from_ne_true, false≢true}
use Rattle.std.proofs.Math.Seq.{take-add}
use Rattle.std.proofs.lemmas.List.{drop_all, drop_more, drop-drop, length-drop, length-take, length-take-le, take_all, take_more, take-append-drop, take-take}
use Rattle.std.proofs.lemmas.List.Folds.{list_any-append}
use Rattle.sqlite.specs.Held.{state}
use Rattle.sqlite.specs.State.{State as Store, HasCleanDisk, Survives}
use Rattle.sqlite.proofs.StateLemmas.{survives_then}
use Rattle.sqlite_trees.specs.Tree.{Trees}
use Rattle.sqlite_trees.specs.declared.store.Store.{Ghosts}
use Rattle.escrow_num.specs.declared.failure.Failure.{Failure}
use Rattle.escrow_num.specs.declared.reservation.Reservation.{Reservation}
use Rattle.escrow_num.specs.declared.session.End.{End}
use Rattle.escrow_num.specs.declared.session.End.TheVariants as end
use Rattle.escrow_journal.specs.Reservations.{own, others}
use Rattle.escrow_machine.specs.declared.settled.Settled.{Settled}
use Rattle.escrow_machine.specs.declared.settled.Stop.{Stop}
use Rattle.escrow_machine.specs.Settle.{AreCounts, IsStop, committed_by, settled, after_ends, after_end}
use Rattle.escrow_machine.specs.State.{State}
use Rattle.escrow_machine.specs.Walked.{counted_end}
use Rattle.escrow_machine.proofs.Shapes.{HasOrder, few_reservations}
use Rattle.escrow_machine.proofs.Settling.{CountsSoFar, counts_end, counts_next, settled_is_the_run}
use Rattle.escrow_rows.specs.Answers.{IsUsable}
use Rattle.escrow_core.specs.Ends.{AreCommits, Settles, left_after}
use Rattle.escrow_core.specs.Database.{Database}
use Rattle.escrow_core.specs.Serves.{AreAfterAtLeast, AreAfterEnds, AreHeldOf, done_of}
use Rattle.escrow_core.proofs.Serving.{still_clean}
use Rattle.escrow_core.proofs.Together.{neither}

-- PLACES OF A PLAN

-- a part of a plan, from an index on
pub record IsPart {A : Type 0} (plan : List A) (i : ℕ) (part : List A) : Type 0 where
  pub n : ℕ
  pub is : part ≡ take n (drop i plan)
  pub few : n ≤ length (drop i plan)

part_len : {A : Type 0} (plan : List A) (i : ℕ) (part : List A) (p : IsPart plan i part) → length part ≡ p.n
part_len plan i part p = ap length p.is ∙ length-take-le p.n (drop i plan) p.few

-- a part that is taken from the remaining entries
pub part_of : {A : Type 0} (plan : List A) (i n : ℕ) → n ≤ length (take (length plan - i) (drop i plan)) → IsPart plan i (take n (take (length plan - i) (drop i plan)))
part_of plan i n few =
    let all : take (length plan - i) (drop i plan) ≡ drop i plan = take_all (length plan - i) (drop i plan) (omega (arith, length-drop i plan)) in
    record {
      n = n;
      is = ap (take n) all;
      few = subst (λ xs. n ≤ length xs) all few;
    }

pub part_within : {A : Type 0} (plan : List A) (i : ℕ) (part : List A) → IsPart plan i part → i ≤ length plan → i + length part ≤ length plan
part_within plan i part p within = omega (arith, part_len plan i part p, p.few, length-drop i plan, within)

-- the first entries of a part, after the entries before it
pub part_take : {A : Type 0} (plan : List A) (i : ℕ) (part : List A) (m : ℕ) (p : IsPart plan i part) → m ≤ length part → take (i + m) plan ≡ take i plan ++ take m part
part_take plan i part m p few =
    take-add i m plan
    ∙ ap (λ xs. take i plan ++ xs) (sym (ap (take m) p.is ∙ take-take m p.n (drop i plan) (omega (arith, few, part_len plan i part p))))

pub part_all : {A : Type 0} (plan : List A) (i : ℕ) (part : List A) → IsPart plan i part → take (i + length part) plan ≡ take i plan ++ part
part_all plan i part p = part_take plan i part (length part) p (omega arith) ∙ ap (λ xs. take i plan ++ xs) (take_all (length part) part (omega arith))

-- some first entries of a part
pub some_take : {A : Type 0} (part : List A) (m : ℕ) → (k : ℕ) × (k ≤ length part) × (take k part ≡ take m part)
some_take [] zero = (0, omega arith, refl)
some_take [] (suc m) = (0, omega arith, refl)
some_take (x ∷ part) zero = (0, omega arith, refl)
some_take (x ∷ part) (suc m) = let rest = some_take part m in (suc rest.0, omega (arith, rest.1), ap (λ xs. x ∷ xs) rest.2)

-- one more COMMIT, of a session that has none in the plan
commits_push : (plan : List (ℕ × End)) (entry : ℕ × End) → AreCommits plan → entry.1 ≡ end.Commit → list_any (λ (e : ℕ × End). e.0 == entry.0) plan ≡ false → AreCommits (plan ++ entry ∷ [])
commits_push [] entry commits is none = (is, refl, tt)
commits_push (first ∷ plan) entry commits is none =
    let both = neither (first.0 == entry.0) (list_any (λ (e : ℕ × End). e.0 == entry.0) plan) none in
    let other : (entry.0 == first.0) ≡ false = false_from_ne_true (entry.0 == first.0) (λ t. false≢true (sym both.0 ∙ eq-eqb first.0 entry.0 (sym (eqb-true entry.0 first.0 t)))) in (
      commits.0,
      list_any-append (λ (later : ℕ × End). later.0 == first.0) plan (entry ∷ []) ∙ ap₂ (λ (a b : Bool). a || (b || false)) commits.1 other,
      commits_push plan entry commits.2 is both.1,
    )

pub commits_more : (plan : List (ℕ × End)) (i : ℕ) (entry : ℕ × End) → i < length plan → entry ≡ get_or plan i entry → entry.1 ≡ end.Commit
    → list_any (λ (e : ℕ × End). e.0 == entry.0) (take i plan) ≡ false → AreCommits (take i plan) → AreCommits (take (i + 1) plan)
commits_more plan i entry below at is none commits =
    subst AreCommits (sym (take_more plan i entry below ∙ ap (λ (e : ℕ × End). take i plan ++ e ∷ []) (sym at))) (commits_push (take i plan) entry commits is none)

-- the first entry of a plan of COMMITs is a COMMIT
pub first_commits : (plan : List (ℕ × End)) (entry : ℕ × End) → 0 < length plan → entry ≡ get_or plan 0 entry → AreCommits plan → entry.1 ≡ end.Commit
first_commits [] entry some at commits = absurd (omega (arith, some))
first_commits (first ∷ plan) entry some at commits = ap (λ (e : ℕ × End). e.1) at ∙ commits.0

-- STATES

-- the remaining reservations after one more entry
left_push : (plan : List (ℕ × End)) (entry : ℕ × End) (reservations : List Reservation) → left_after (plan ++ entry ∷ []) reservations ≡ others entry.0 (left_after plan reservations)
left_push [] entry reservations = refl
left_push (first ∷ plan) entry reservations = left_push plan entry (others first.0 reservations)

pub left_more : (plan : List (ℕ × End)) (i : ℕ) (entry : ℕ × End) (all reservations left : List Reservation) → i < length plan → entry ≡ get_or plan i entry
    → reservations ≡ left_after (take i plan) all → left ≡ others entry.0 reservations → left ≡ left_after (take (i + 1) plan) all
left_more plan i entry all reservations left below at so_far is =
    is ∙ ap (others entry.0) so_far ∙ sym (left_push (take i plan) entry all)
    ∙ ap (λ (p : List (ℕ × End)). left_after p all) (sym (take_more plan i entry below ∙ ap (λ (e : ℕ × End). take i plan ++ e ∷ []) (sym at)))

pub ends_append : (s : State) (first second : List (ℕ × End)) → after_ends s (first ++ second) ≡ after_ends (after_ends s first) second
ends_append s [] second = refl
ends_append s (entry ∷ first) second = ends_append (after_end s entry.0 entry.1) first second

-- the state after the first entries of a part
within_part : (plan : List (ℕ × End)) (i m : ℕ) (part : List (ℕ × End)) (s mid : State) → IsPart plan i part → m ≤ length part → mid ≡ after_ends s (take i plan)
    → after_ends mid (take m part) ≡ after_ends s (take (i + m) plan)
within_part plan i m part s mid p few before =
    ap (λ (t : State). after_ends t (take m part)) before
    ∙ sym (ends_append s (take i plan) (take m part))
    ∙ ap (after_ends s) (sym (part_take plan i part m p few))

-- the state after all entries of a part
pub part_done : (plan : List (ℕ × End)) (i : ℕ) (part : List (ℕ × End)) (s mid new : State) → IsPart plan i part → mid ≡ after_ends s (take i plan)
    → new ≡ after_ends mid part → new ≡ after_ends s (take (i + length part) plan)
part_done plan i part s mid new p before done =
    done ∙ ap (after_ends mid) (sym (take_all (length part) part (omega arith))) ∙ within_part plan i (length part) part s mid p (omega arith) before

-- an entry of a part
get_part : {A : Type 0} (plan : List A) (i n : ℕ) → slice_get (drop i plan) n ≡ slice_get plan (i + n)
get_part plan zero n = let same : n ≡ 0 + n = omega arith in ap (slice_get plan) same
get_part [] (suc i) n = refl
get_part (x ∷ plan) (suc i) n = let same : suc (i + n) ≡ suc i + n = omega arith in get_part plan i n ∙ ap (slice_get (x ∷ plan)) same

get_taken : {A : Type 0} (xs : List A) (n k : ℕ) → k < n → slice_get (take n xs) k ≡ slice_get xs k
get_taken [] zero k below = absurd (omega (arith, below))
get_taken [] (suc n) k below = refl
get_taken (x ∷ xs) zero k below = absurd (omega (arith, below))
get_taken (x ∷ xs) (suc n) zero below = refl
get_taken (x ∷ xs) (suc n) (suc k) below = get_taken xs n k (omega (arith, below))

-- the plan stops where its part stops
pub part_stops : (plan : List (ℕ × End)) (i : ℕ) (part : List (ℕ × End)) (cause : Failure) (stop : Stop) (s mid new : State) → IsPart plan i part → mid ≡ after_ends s (take i plan)
    → stop.place < length part → IsStop part mid stop new → IsStop plan s (record { place = i + stop.place; cause = cause }) new
part_stops plan i part cause stop s mid new p before within it = record {
  done =
      it.done ∙ settled_is_the_run mid (take stop.place part)
      ∙ within_part plan i stop.place part s mid p (omega (arith, within)) before
      ∙ sym (settled_is_the_run s (take (i + stop.place) plan));
  session = it.session;
  entry =
      sym (get_part plan i stop.place) ∙ sym (get_taken (drop i plan) p.n stop.place (omega (arith, within, part_len plan i part p)))
      ∙ ap (λ (xs : List (ℕ × End)). slice_get xs stop.place) (sym p.is) ∙ it.entry;
  holds = it.holds;
}

-- within a part, a crash leaves the state after some first entries of the plan
pub part_survives : (a b c : Store) (plan : List (ℕ × End)) (i : ℕ) (part : List (ℕ × End)) (s mid : State) → IsPart plan i part
    → (HasCleanDisk b → mid ≡ after_ends s (take i plan)) → (IsUsable b → IsUsable a)
    → Survives a b (λ trees. IsTrue a.is_open × AreAfterEnds plan s trees)
    → Survives b c (λ trees. IsTrue b.is_open × AreAfterEnds part mid trees)
    → Survives a c (λ trees. IsTrue a.is_open × AreAfterEnds plan s trees)
part_survives a b c plan i part s mid p before usable one two =
    survives_then a b c (λ trees. IsTrue a.is_open × AreAfterEnds plan s trees) (λ trees. IsTrue b.is_open × AreAfterEnds part mid trees) (λ trees. IsTrue a.is_open × AreAfterEnds plan s trees)
    (λ clean trees h. h)
    (λ clean trees k.
    let mid_clean = still_clean b c _ two clean in
    let left : AreAfterEnds part mid trees = k.1 in
    let few = some_take part left.0 in
    let same : settled (take left.0 part) mid ≡ settled (take (i + few.0) plan) s =
    settled_is_the_run mid (take left.0 part) ∙ ap (after_ends mid) (sym few.2) ∙ within_part plan i few.0 part s mid p few.1 (before mid_clean)
    ∙ sym (settled_is_the_run s (take (i + few.0) plan)) in
    ((usable (mid_clean, k.0)).1, (i + few.0, subst (λ (t : State). AreHeldOf t trees) same left.1)))
    one two

-- all entries are some first entries of the plan
pub after_all : (plan : List (ℕ × End)) (s : State) (trees : Trees) → AreHeldOf (after_ends s plan) trees → AreAfterEnds plan s trees
after_all plan s trees held =
    (length plan, subst (λ (t : State). AreHeldOf t trees) (sym (settled_is_the_run s (take (length plan) plan) ∙ ap (after_ends s) (take_all (length plan) plan (omega arith)))) held)

pub all_at_least : (plan : List (ℕ × End)) (s : State) (least : ℕ) (trees : Trees) → least ≤ length plan → AreHeldOf (after_ends s plan) trees → AreAfterAtLeast least plan s trees
all_at_least plan s least trees few held =
    (length plan, few, subst (λ (t : State). AreHeldOf t trees) (sym (settled_is_the_run s (take (length plan) plan) ∙ ap (after_ends s) (take_all (length plan) plan (omega arith)))) held)

-- what a successful call implies
on_ok : {A E : Type 0} {P Q : Type 0} (r : Result A E) → (P → Q) → OnOk r P → OnOk r Q
on_ok (Ok x) then holds = then holds
on_ok (Err e) then holds = tt

-- no more entries were done than there are
done_within : (plan : List (ℕ × End)) (r : Result Settled Stop) → length (done_of plan r) ≤ length plan
done_within plan (Ok done) = le_refl (length plan)
done_within plan (Err stop) = omega (arith, length-take stop.place plan)

-- a plan is settled after a write of the whole plan was refused, if the store is still open
pub settles_after : {S : Type 0} (g : Ghosts S) (plan : List (ℕ × End)) (old mid new : Database S) (r : Result Settled Stop) → mid.state ≡ old.state → (HasCleanDisk (state g mid.store) → IsTrue (state g mid.store).is_open)
    → (IsUsable (state g mid.store) → IsUsable (state g old.store))
    → Survives (state g old.store) (state g mid.store) (λ trees. IsTrue (state g old.store).is_open × AreHeldOf (after_ends old.state plan) trees)
    → Settles g plan mid r new → Settles g plan old r new
settles_after g plan old mid new r same opened usable survives it = record {
  ok = λ clean. subst (λ (t : State). OnOk r (new.state ≡ after_ends t plan)) same (it.ok clean);
  counts = subst (λ (t : State). IfOk r (λ done. AreCounts plan t.reservations done)) same it.counts;
  left = subst (λ (t : State). OnOk r (new.state.reservations ≡ left_after plan t.reservations)) same it.left;
  stays = λ clean. on_ok r (λ stays _. stays (opened (still_clean (state g mid.store) (state g new.store) _ it.crash clean))) (it.stays clean);
  stop = λ clean. subst (λ (t : State). IfErr r (λ stop. IsStop plan t stop new.state)) same (it.stop clean);
  within = it.within;
  usable = λ still. usable (it.usable still);
  crash =
      survives_then (state g old.store) (state g mid.store) (state g new.store) _ _ (λ trees. IsTrue (state g old.store).is_open × AreAfterEnds plan old.state trees)
      (λ clean trees k. (k.0, after_all plan old.state trees k.1))
      (λ clean trees k. ((usable (still_clean (state g mid.store) (state g new.store) _ it.crash clean, k.0)).1, subst (λ (t : State). AreAfterEnds plan t trees) same k.1))
      survives it.crash;
  durable = λ clean trees may.
      elim (it.durable clean trees may) [
        | inr made ↦ inr (made.0, made.1, subst (λ (t : State). AreHeldOf (settled (take made.0 plan) t) trees) same made.2)
        | inl kept ↦
            let none : committed_by (done_of plan r) old.state.reservations ≡ [] = subst (λ (t : State). committed_by (done_of plan r) t.reservations ≡ []) same kept.0 in
            elim (survives.crash (still_clean (state g mid.store) (state g new.store) _ it.crash clean) trees kept.1) [
              | inl before ↦ inl (none, before)
              | inr made ↦ inr (all_at_least plan old.state (length (done_of plan r)) trees (done_within plan r) made.1)
            ]
      ];
}

-- COUNTS

-- how many reservations an end applies, and how many it drops
abbrev applied_of : End → ℕ → ℕ
applied_of end.Commit n = n
applied_of end.Rollback n = 0

abbrev dropped_of : End → ℕ → ℕ
dropped_of end.Commit n = 0
dropped_of end.Rollback n = n

-- the numbers for the transactions of a plan, one after another
abbrev pub commits_of : List (ℕ × End) → List Reservation → ℕ
commits_of [] reservations = 0
commits_of (entry ∷ plan) reservations = applied_of entry.1 (length (own entry.0 reservations)) + commits_of plan (others entry.0 reservations)

abbrev pub releases_of : List (ℕ × End) → List Reservation → ℕ
releases_of [] reservations = 0
releases_of (entry ∷ plan) reservations = dropped_of entry.1 (length (own entry.0 reservations)) + releases_of plan (others entry.0 reservations)

-- the counts with these added
abbrev pub more_by : List (ℕ × End) → List Reservation → Settled → Settled
more_by plan reservations done = record { committed = done.committed + commits_of plan reservations; released = done.released + releases_of plan reservations }

more_first : (entry : ℕ × End) (plan : List (ℕ × End)) (reservations : List Reservation) (done : Settled)
    → more_by plan (others entry.0 reservations) (counted_end entry.1 (length (own entry.0 reservations)) done) ≡ more_by (entry ∷ plan) reservations done
more_first (a, end.Commit) plan reservations done =
    ap₂ (λ (x y : ℕ). let both : Settled = record { committed = x; released = y } in both) (omega arith) (omega arith)
more_first (a, end.Rollback) plan reservations done =
    ap₂ (λ (x y : ℕ). let both : Settled = record { committed = x; released = y } in both) (omega arith) (omega arith)

-- the entry at an index
head_at : {A : Type 0} (plan : List A) (i : ℕ) (entry : A) (rest : List A) → drop i plan ≡ entry ∷ rest
    → (i < length plan) × (entry ≡ get_or plan i entry) × (drop (i + 1) plan ≡ rest)
head_at plan i entry rest is =
    let long : length (drop i plan) ≡ suc (length rest) = ap length is in
    let below : i < length plan = omega (arith, long, length-drop i plan) in
    let both : get_or plan i entry ∷ drop (i + 1) plan ≡ entry ∷ rest = sym (drop_more plan i entry below) ∙ is in
    (below, cc, cc)

-- a part of the plan is counted
counts_by : (plan : List (ℕ × End)) (all : List Reservation) (part later : List (ℕ × End)) (i : ℕ) (reservations : List Reservation) (done : Settled) → drop i plan ≡ part ++ later
    → CountsSoFar plan all (drop i plan) reservations done → CountsSoFar plan all later (left_after part reservations) (more_by part reservations done)
counts_by plan all [] later i reservations done is so_far =
    let same : done ≡ more_by [] reservations done = ap₂ (λ (x y : ℕ). let both : Settled = record { committed = x; released = y } in both) (omega arith) (omega arith) in
    subst (CountsSoFar plan all later reservations) same (subst (λ (rest : List (ℕ × End)). CountsSoFar plan all rest reservations done) is so_far)
counts_by plan all (entry ∷ part) later i reservations done is so_far =
    let at = head_at plan i entry (part ++ later) is in
    let next = counts_next plan all i entry reservations (others entry.0 reservations) done (length (own entry.0 reservations)) at.0 at.1 refl refl so_far in
    subst (CountsSoFar plan all later (left_after part (others entry.0 reservations))) (more_first entry part reservations done)
    (counts_by plan all part later (i + 1) (others entry.0 reservations) (counted_end entry.1 (length (own entry.0 reservations)) done) at.2 next)

-- the counts of a whole plan
none_yet : Settled
none_yet = record { committed = 0; released = 0 }

whole : (plan : List (ℕ × End)) (reservations : List Reservation)
    → CountsSoFar plan reservations (drop (length plan) plan) (left_after plan reservations) (record { committed = 0 + commits_of plan reservations; released = 0 + releases_of plan reservations })
whole plan reservations =
    let first : CountsSoFar plan reservations plan reservations (record { committed = 0; released = 0 }) = record { committed = omega arith; released = omega arith; few = omega arith } in
    counts_by plan reservations plan (drop (length plan) plan) 0 reservations (record { committed = 0; released = 0 })
    (sym (ap (λ xs. plan ++ xs) (drop_all (length plan) plan (omega arith)) ∙ append-nil plan)) first

-- the number of reservations that a plan commits
pub commits_number : (plan : List (ℕ × End)) (reservations : List Reservation) → length (committed_by plan reservations) ≡ commits_of plan reservations
commits_number plan reservations =
    let all = counts_end plan reservations (length plan) (left_after plan reservations) _ (omega arith) (whole plan reservations) in
    omega (arith, all.committed)

counts_are : (plan : List (ℕ × End)) (reservations : List Reservation) (done : Settled) → AreCounts plan reservations done
    → (done.committed ≡ commits_of plan reservations) × (done.released ≡ releases_of plan reservations)
counts_are plan reservations done counts =
    let all = counts_end plan reservations (length plan) (left_after plan reservations) _ (omega arith) (whole plan reservations) in
    (omega (arith, counts.committed, all.committed), omega (arith, counts.released, all.released))

-- COMMITs drop no reservation, and apply those that do not remain
commits_drop : (plan : List (ℕ × End)) (reservations : List Reservation) → AreCommits plan → releases_of plan reservations ≡ 0
commits_drop [] reservations commits = refl
commits_drop (entry ∷ plan) reservations commits =
    let none : dropped_of entry.1 (length (own entry.0 reservations)) ≡ 0 = ap (λ (e : End). dropped_of e (length (own entry.0 reservations))) commits.0 in
    omega (arith, none, commits_drop plan (others entry.0 reservations) commits.2)

pub commits_counts : (plan : List (ℕ × End)) (reservations left : List Reservation) (count : ℕ) → AreCommits plan → left ≡ left_after plan reservations → count + length left ≡ length reservations
    → AreCounts plan reservations (record { committed = count; released = 0 })
commits_counts plan reservations left count commits is_left is =
    let so_far = whole plan reservations in
    let all = counts_end plan reservations (length plan) (left_after plan reservations) _ (omega arith) so_far in
    let none = commits_drop plan reservations commits in
    let same : length left ≡ length (left_after plan reservations) = ap length is_left in
    record {
      committed = omega (arith, all.committed, so_far.few, none, same, is);
      released = omega (arith, all.released, none);
    }

-- one more part is counted
pub part_counts : (plan : List (ℕ × End)) (all : List Reservation) (i : ℕ) (part : List (ℕ × End)) (reservations left : List Reservation) (done more new : Settled) → IsPart plan i part
    → AreCounts part reservations more → left ≡ left_after part reservations → new.committed ≡ done.committed + more.committed → new.released ≡ done.released + more.released
    → CountsSoFar plan all (drop i plan) reservations done → CountsSoFar plan all (drop (i + length part) plan) left new
part_counts plan all i part reservations left done more new p counts is_left committed released so_far =
    let are = counts_are part reservations more counts in
    let n = part_len plan i part p in
    let rest : drop i plan ≡ part ++ drop (i + length part) plan =
    sym (take-append-drop p.n (drop i plan)) ∙ ap₂ (λ xs ys. xs ++ ys) (sym p.is) (drop-drop p.n i plan ∙ ap (λ m. drop (i + m) plan) (sym n)) in
    let next = counts_by plan all part (drop (i + length part) plan) i reservations done rest so_far in
    subst (λ (rs : List Reservation). CountsSoFar plan all (drop (i + length part) plan) rs new) (sym is_left)
    (record {
      committed = omega (arith, committed, are.0, next.committed);
      released = omega (arith, released, are.1, next.released);
      few = omega (arith, committed, released, are.0, are.1, next.few);
    })

-- the counts stay within the limit of open reservations
pub part_fits : (s : State) (plan rest : List (ℕ × End)) (reservations : List Reservation) (done : Settled) → HasOrder s → CountsSoFar plan s.reservations rest reservations done
    → done.committed + done.released < 2 ^ 32
part_fits s plan rest reservations done orderly so_far = omega (arith, so_far.few, few_reservations s orderly)
