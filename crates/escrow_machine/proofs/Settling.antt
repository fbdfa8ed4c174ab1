-- The state after a plan of ends, entry by entry.
use Rattle.std.specs.Prelude.{◌≡◌, ℕ, ◌+◌, ◌<◌, ◌≤◌, ◌^◌, ℤ, Bool, true, false, cond, not, ◌==◌, ◌||◌, ◌&&◌, Option, Some, option_map, is_none, List, [], ◌∷◌, ◌++◌, map, filter, find, length, take, slice_get}
use Rattle.std.proofs.Common.{refl, sym, ap, ap₂, subst, arith, drop, get_or, ◌∙◌}
use Rattle.std.proofs.lemmas.List.{drop_all, drop_more, take_all, take_more}
use Rattle.std.proofs.lemmas.List.Filters.{length-filter_both}
use Rattle.std.proofs.lemmas.Option.{slice_get-get_or}
use Rattle.escrow_num.specs.declared.reservation.Reservation.{Reservation}
use Rattle.escrow_num.specs.declared.reservation.Savepoint.{Savepoint}
use Rattle.escrow_num.specs.declared.row.Row.{Row}
use Rattle.escrow_num.specs.declared.session.End.{End}
use Rattle.escrow_num.specs.declared.session.End.TheVariants as end
use Rattle.escrow_checks.specs.Form.{changed, all_changed}
use Rattle.escrow_journal.specs.Reservations.{own, others, other_savepoints}
use Rattle.escrow_machine.specs.declared.settled.Settled.{Settled}
use Rattle.escrow_machine.specs.declared.settled.Stop.{Stop}
use Rattle.escrow_machine.specs.Walked.{counted_end}
use Rattle.escrow_machine.specs.Settle.{end_of, is_commit, is_rollback, committed_by, released_by, settled, AreCounts, IsStop, after_end, after_ends}
use Rattle.escrow_machine.specs.State.{State}
use Rattle.escrow_schema.specs.Rows.{changes_to, applied}
use Rattle.escrow_machine.specs.Transition.{transition_of, after_rollback}
use Rattle.escrow_machine.specs.Valid.{IsValid}
use Rattle.escrow_machine.proofs.Applying.{applied_none}
use Rattle.escrow_machine.proofs.Changes.{all_changed_later}
use Rattle.escrow_machine.proofs.Filters.{filter_kept, filter_all, filter_none}
use Rattle.escrow_machine.proofs.LawsEnds.{any_order_of_ends, same_state}
use Rattle.escrow_machine.proofs.Shapes.{HasOrder, few_reservations}

-- a reservation counted under one of two kinds is one more of both kinds together
count_one : (r : Reservation) (a b c : Bool) (part other whole : List Reservation) → c ≡ (a || b) → (a && b) ≡ false
    → length part + length other ≡ length whole → length (cond a (r ∷ part) part) + length (cond b (r ∷ other) other) ≡ length (cond c (r ∷ whole) whole)
count_one r true true c part other whole either both rest = absurd (cc)
count_one r true false c part other whole either both rest = rw either (omega (arith, rest))
count_one r false true c part other whole either both rest = rw either (omega (arith, rest))
count_one r false false c part other whole either both rest = rw either rest

-- FILTERS OF A LIST

-- tests that agree keep the same items
filter_alike : {A : Type 0} (p q : A → Bool) → ((x : A) → p x ≡ q x) → (xs : List A) → filter p xs ≡ filter q xs
filter_alike p q same [] = refl
filter_alike {A} p q same (x ∷ xs) = ap₂ (λ (b : Bool) (rest : List A). cond b (x ∷ rest) rest) (same x) (filter_alike p q same xs)

-- filtering by two tests in turn keeps the items that pass both
both_kept : {A : Type 0} (a b c : Bool) (x : A) (part whole : List A) → c ≡ (a && b) → part ≡ whole
    → cond a (cond b (x ∷ part) part) part ≡ cond c (x ∷ whole) whole
both_kept true b c x part whole e same = rw (e, same) refl
both_kept false b c x part whole e same = rw (e, same) refl

filter_twice : {A : Type 0} (p q both : A → Bool) → ((x : A) → both x ≡ (p x && q x)) → (xs : List A) → filter q (filter p xs) ≡ filter both xs
filter_twice p q both same [] = refl
filter_twice p q both same (x ∷ xs) =
    filter_kept q (p x) x (filter p xs)
    ∙ both_kept (p x) (q x) (both x) x (filter q (filter p xs)) (filter both xs) (same x) (filter_twice p q both same xs)

-- the changes of the items that pass one of two tests, in two parts, are those of the items that pass either
parts_kept : {A : Type 0} (f : A → List ℤ) (x : A) (a b c : Bool) (first second whole : List A) → c ≡ (a || b) → (a && b) ≡ false
    → ((amounts : List ℤ) → all_changed (all_changed amounts (map f first)) (map f second) ≡ all_changed amounts (map f whole))
    → (amounts : List ℤ) → all_changed (all_changed amounts (map f (cond a (x ∷ first) first))) (map f (cond b (x ∷ second) second)) ≡ all_changed amounts (map f (cond c (x ∷ whole) whole))
parts_kept f x true true c first second whole either apart rest amounts = absurd (cc)
parts_kept f x true false c first second whole either apart rest amounts = rw either (rest (changed amounts (f x)))
parts_kept f x false true c first second whole either apart rest amounts =
    rw either (ap (λ (zs : List ℤ). all_changed zs (map f second)) (sym (all_changed_later amounts (f x) (map f first))) ∙ rest (changed amounts (f x)))
parts_kept f x false false c first second whole either apart rest amounts = rw either (rest amounts)

changes_parts : {A : Type 0} (f : A → List ℤ) (a b c : A → Bool) → ((x : A) → c x ≡ (a x || b x)) → ((x : A) → (a x && b x) ≡ false)
    → (xs : List A) (amounts : List ℤ) → all_changed (all_changed amounts (map f (filter a xs))) (map f (filter b xs)) ≡ all_changed amounts (map f (filter c xs))
changes_parts f a b c either apart [] amounts = refl
changes_parts f a b c either apart (x ∷ xs) amounts =
    parts_kept f x (a x) (b x) (c x) (filter a xs) (filter b xs) (filter c xs) (either x) (apart x) (changes_parts f a b c either apart xs) amounts

applied_parts : (a b c : Reservation → Bool) → ((r : Reservation) → c r ≡ (a r || b r)) → ((r : Reservation) → (a r && b r) ≡ false)
    → (reservations : List Reservation) (rows : List Row) → applied (applied rows (filter a reservations)) (filter b reservations) ≡ applied rows (filter c reservations)
applied_parts a b c either apart reservations [] = refl
applied_parts a b c either apart reservations (row ∷ rows) =
    ap₂ (λ (amounts : List ℤ) (rest : List Row). (record row { amounts = amounts }) ∷ rest)
    (changes_parts (changes_to row) a b c either apart reservations row.amounts) (applied_parts a b c either apart reservations rows)

-- the two parts have as many items as the whole
length_parts : (a b c : Reservation → Bool) → ((r : Reservation) → c r ≡ (a r || b r)) → ((r : Reservation) → (a r && b r) ≡ false)
    → (reservations : List Reservation) → length (filter a reservations) + length (filter b reservations) ≡ length (filter c reservations)
length_parts a b c either apart [] = refl
length_parts a b c either apart (r ∷ rest) =
    count_one r (a r) (b r) (c r) (filter a rest) (filter b rest) (filter c rest) (either r) (apart r) (length_parts a b c either apart rest)

-- A PLAN'S FIRST ENTRY

-- how the plan ends a session's transaction: by its first entry, or by a later one
abbrev first_end : Bool → ℕ → End → Option (ℕ × End) → Option End
first_end is_first a x later = option_map (λ (entry : ℕ × End). entry.1) (cond is_first (Some (a, x)) later)

-- a test that it passes, and one that it fails
first_passes : (test : Option End → Bool) (x : End) → test (Some x) ≡ true → (t : Bool) (a : ℕ) (later : Option (ℕ × End))
    → test (first_end t a x later) ≡ (t || (not t && test (option_map (λ (entry : ℕ × End). entry.1) later)))
first_passes test x passes true a later = passes
first_passes test x passes false a later = refl

first_fails : (test : Option End → Bool) (x : End) → test (Some x) ≡ false → (t : Bool) (a : ℕ) (later : Option (ℕ × End))
    → test (first_end t a x later) ≡ (not t && test (option_map (λ (entry : ℕ × End). entry.1) later))
first_fails test x fails true a later = fails
first_fails test x fails false a later = refl

-- a test, or the other one without it, but not both
apart : (t b : Bool) → (t && (not t && b)) ≡ false
apart true b = refl
apart false b = refl

module _ (a : ℕ) (plan : List (ℕ × End)) where
  -- the later entry of a session in the plan
  abbrev later : ℕ → Option (ℕ × End)
  later session = find (λ (entry : ℕ × End). session == entry.0) plan

  -- the first entry leaves the reservations of others, and the later entries leave what remains of those
  open_first : (x : End) (reservations : List Reservation)
      → filter (λ (r : Reservation). is_none (end_of ((a, x) ∷ plan) r.session)) reservations ≡ filter (λ (r : Reservation). is_none (end_of plan r.session)) (others a reservations)
  open_first x reservations =
      sym (filter_twice (λ (r : Reservation). not (r.session == a)) (λ (r : Reservation). is_none (end_of plan r.session))
      (λ (r : Reservation). is_none (end_of ((a, x) ∷ plan) r.session)) (λ r. first_fails is_none x refl (r.session == a) a (later r.session)) reservations)

  savepoints_first : (x : End) (savepoints : List Savepoint)
      → filter (λ (p : Savepoint). is_none (end_of ((a, x) ∷ plan) p.session)) savepoints ≡ filter (λ (p : Savepoint). is_none (end_of plan p.session)) (other_savepoints a savepoints)
  savepoints_first x savepoints =
      sym (filter_twice (λ (p : Savepoint). not (p.session == a)) (λ (p : Savepoint). is_none (end_of plan p.session))
      (λ (p : Savepoint). is_none (end_of ((a, x) ∷ plan) p.session)) (λ p. first_fails is_none x refl (p.session == a) a (later p.session)) savepoints)

  -- what a test lets pass of the other entries
  passed_later : (test : Option End → Bool) (reservations : List Reservation)
      → filter (λ (r : Reservation). test (end_of plan r.session)) (others a reservations) ≡ filter (λ (r : Reservation). not (r.session == a) && test (end_of plan r.session)) reservations
  passed_later test reservations =
      filter_twice (λ (r : Reservation). not (r.session == a)) (λ (r : Reservation). test (end_of plan r.session))
      (λ (r : Reservation). not (r.session == a) && test (end_of plan r.session)) (λ _. refl) reservations

  -- a first entry that rolls back commits nothing, and one that commits releases nothing
  committed_past : (reservations : List Reservation) → committed_by ((a, end.Rollback) ∷ plan) reservations ≡ committed_by plan (others a reservations)
  committed_past reservations =
      filter_alike (λ (r : Reservation). is_commit (end_of ((a, end.Rollback) ∷ plan) r.session)) (λ (r : Reservation). not (r.session == a) && is_commit (end_of plan r.session))
      (λ r. first_fails is_commit end.Rollback refl (r.session == a) a (later r.session)) reservations
      ∙ sym (passed_later is_commit reservations)

  released_past : (reservations : List Reservation) → released_by ((a, end.Commit) ∷ plan) reservations ≡ released_by plan (others a reservations)
  released_past reservations =
      filter_alike (λ (r : Reservation). is_rollback (end_of ((a, end.Commit) ∷ plan) r.session)) (λ (r : Reservation). not (r.session == a) && is_rollback (end_of plan r.session))
      (λ r. first_fails is_rollback end.Commit refl (r.session == a) a (later r.session)) reservations
      ∙ sym (passed_later is_rollback reservations)

  -- the rows after a plan whose first entry commits
  rows_first : (rows : List Row) (reservations : List Reservation)
      → applied rows (committed_by ((a, end.Commit) ∷ plan) reservations) ≡ applied (applied rows (own a reservations)) (committed_by plan (others a reservations))
  rows_first rows reservations =
      sym (ap (applied (applied rows (own a reservations))) (passed_later is_commit reservations)
      ∙ applied_parts (λ (r : Reservation). r.session == a) (λ (r : Reservation). not (r.session == a) && is_commit (end_of plan r.session))
      (λ (r : Reservation). is_commit (end_of ((a, end.Commit) ∷ plan) r.session))
      (λ r. first_passes is_commit end.Commit refl (r.session == a) a (later r.session)) (λ r. apart (r.session == a) (is_commit (end_of plan r.session))) reservations rows)

  -- a plan is its first entry followed by the rest
  settled_first : (s : State) (x : End) → settled ((a, x) ∷ plan) s ≡ settled plan (after_end s a x)
  unfolding transition_of
  settled_first s end.Commit =
      same_state s _ _ _ _ _ _ (rows_first s.rows s.reservations) (open_first end.Commit s.reservations) (savepoints_first end.Commit s.savepoints)
  settled_first s end.Rollback =
      same_state s _ _ _ _ _ _ (ap (applied s.rows) (committed_past s.reservations)) (open_first end.Rollback s.reservations) (savepoints_first end.Rollback s.savepoints)

  -- the counts of the first entry and of the rest add up to those of the plan
  counted_first : (test : Option End → Bool) (x : End) → test (Some x) ≡ true → (reservations : List Reservation)
      → length (own a reservations) + length (filter (λ (r : Reservation). test (end_of plan r.session)) (others a reservations))
      ≡ length (filter (λ (r : Reservation). test (end_of ((a, x) ∷ plan) r.session)) reservations)
  counted_first test x passes reservations =
      ap (λ (rs : List Reservation). length (own a reservations) + length rs) (passed_later test reservations)
      ∙ length_parts (λ (r : Reservation). r.session == a) (λ (r : Reservation). not (r.session == a) && test (end_of plan r.session))
      (λ (r : Reservation). test (end_of ((a, x) ∷ plan) r.session))
      (λ r. first_passes test x passes (r.session == a) a (later r.session)) (λ r. apart (r.session == a) (test (end_of plan r.session))) reservations

-- THE LOOP OVER A PLAN

-- the counts so far and those of the rest of the plan add up to those of the whole plan;
-- each reservation that was open is counted or still open
pub record CountsSoFar (whole : List (ℕ × End)) (all : List Reservation) (rest : List (ℕ × End)) (reservations : List Reservation) (done : Settled) : Type 0 where
  pub committed : done.committed + length (committed_by rest reservations) ≡ length (committed_by whole all)
  pub released : done.released + length (released_by rest reservations) ≡ length (released_by whole all)
  pub few : done.committed + done.released + length reservations ≡ length all

own_and_others : (a : ℕ) (reservations : List Reservation) → length (own a reservations) + length (others a reservations) ≡ length reservations
own_and_others a reservations = length-filter_both (λ (r : Reservation). r.session == a) (λ (r : Reservation). not (r.session == a)) (λ _. refl) reservations

-- one more transaction is counted
counts_more : (whole : List (ℕ × End)) (all : List Reservation) (a : ℕ) (x : End) (rest : List (ℕ × End)) (reservations : List Reservation) (done : Settled) (count : ℕ)
    → count ≡ length (own a reservations) → CountsSoFar whole all ((a, x) ∷ rest) reservations done → CountsSoFar whole all rest (others a reservations) (counted_end x count done)
counts_more whole all a end.Commit rest reservations done count is so_far =
    let counted = so_far.committed in
    let few = so_far.few in
    let parts = counted_first a rest is_commit end.Commit refl reservations in
    let both = own_and_others a reservations in
    record {
      committed = omega (arith, counted, parts, is);
      released = ap (λ (rs : List Reservation). done.released + length rs) (sym (released_past a rest reservations)) ∙ so_far.released;
      few = omega (arith, few, both, is);
    }
counts_more whole all a end.Rollback rest reservations done count is so_far =
    let counted = so_far.released in
    let few = so_far.few in
    let parts = counted_first a rest is_rollback end.Rollback refl reservations in
    let both = own_and_others a reservations in
    record {
      committed = ap (λ (rs : List Reservation). done.committed + length rs) (sym (committed_past a rest reservations)) ∙ so_far.committed;
      released = omega (arith, counted, parts, is);
      few = omega (arith, few, both, is);
    }

pub counts_next : (plan : List (ℕ × End)) (all : List Reservation) (i : ℕ) (entry : ℕ × End) (reservations left : List Reservation) (done : Settled) (count : ℕ)
    → i < length plan → entry ≡ get_or plan i entry → count ≡ length (own entry.0 reservations) → left ≡ others entry.0 reservations
    → CountsSoFar plan all (drop i plan) reservations done → CountsSoFar plan all (drop (i + 1) plan) left (counted_end entry.1 count done)
counts_next plan all i entry reservations left done count below is_entry is_count is_left so_far =
    let at : drop i plan ≡ entry ∷ drop (i + 1) plan = drop_more plan i entry below ∙ ap (λ (e : ℕ × End). e ∷ drop (i + 1) plan) (sym is_entry) in
    let before : CountsSoFar plan all (entry ∷ drop (i + 1) plan) reservations done = subst (λ (rest : List (ℕ × End)). CountsSoFar plan all rest reservations done) at so_far in
    subst (λ (rs : List Reservation). CountsSoFar plan all (drop (i + 1) plan) rs (counted_end entry.1 count done)) (sym is_left)
    (counts_more plan all entry.0 entry.1 (drop (i + 1) plan) reservations done count is_count before)

-- at the end, all are counted
pub counts_end : (plan : List (ℕ × End)) (all : List Reservation) (i : ℕ) (reservations : List Reservation) (done : Settled) → length plan ≤ i
    → CountsSoFar plan all (drop i plan) reservations done → AreCounts plan all done
counts_end plan all i reservations done past so_far =
    let none : drop i plan ≡ [] = drop_all i plan past in
    let last : CountsSoFar plan all [] reservations done = subst (λ (rest : List (ℕ × End)). CountsSoFar plan all rest reservations done) none so_far in
    let no_commits : committed_by [] reservations ≡ [] = filter_none (λ (r : Reservation). false) reservations (λ _ _. refl) in
    let no_releases : released_by [] reservations ≡ [] = filter_none (λ (r : Reservation). false) reservations (λ _ _. refl) in
    let committed : done.committed + length (committed_by [] reservations) ≡ length (committed_by plan all) = last.committed in
    let released : done.released + length (released_by [] reservations) ≡ length (released_by plan all) = last.released in
    record {
      committed = omega (arith, rw no_commits at committed);
      released = omega (arith, rw no_releases at released);
    }

-- the counts stay within the limit of open reservations
pub counts_fit : (s : State) (whole rest : List (ℕ × End)) (reservations : List Reservation) (done : Settled) (a count : ℕ) → HasOrder s
    → CountsSoFar whole s.reservations rest reservations done → count ≡ length (own a reservations) → done.committed + done.released + count < 2 ^ 32
counts_fit s whole rest reservations done a count orderly so_far is =
    let few = so_far.few in
    let most = few_reservations s orderly in
    let both = own_and_others a reservations in
    omega (arith, few, most, both, is)

-- WHOLE PLANS

-- a ROLLBACK ends a transaction
pub rolled_back : (s : State) (session : ℕ) → after_rollback s session ≡ after_end s session end.Rollback
unfolding transition_of
rolled_back s session = refl

-- one more end
pub ends_more : (s : State) (ends : List (ℕ × End)) (ending : ℕ × End) → after_ends s (ends ++ ending ∷ []) ≡ after_end (after_ends s ends) ending.0 ending.1
ends_more s [] ending = refl
ends_more s (first ∷ ends) ending = ends_more (after_end s first.0 first.1) ends ending

-- an empty plan leaves the state unchanged
settled_none : (s : State) → settled [] s ≡ s
settled_none s =
    same_state s _ _ _ _ _ _
    (ap (applied s.rows) (filter_none (λ (r : Reservation). false) s.reservations (λ _ _. refl)) ∙ applied_none s.rows)
    (filter_all (λ (r : Reservation). true) s.reservations (λ _ _. refl))
    (filter_all (λ (p : Savepoint). true) s.savepoints (λ _ _. refl))

pub settled_is_the_run : (s : State) (plan : List (ℕ × End)) → settled plan s ≡ after_ends s plan
settled_is_the_run s [] = settled_none s
settled_is_the_run s (entry ∷ plan) = settled_first entry.0 plan s entry.1 ∙ settled_is_the_run (after_end s entry.0 entry.1) plan

pub settled_stays_valid : (s : State) (plan : List (ℕ × End)) (n : ℕ) → IsValid s → IsValid (settled (take n plan) s)
settled_stays_valid s plan n valid = subst IsValid (sym (settled_is_the_run s (take n plan))) (any_order_of_ends s plan n valid)

pub settled_in_any_order : (s : State) (plan other : List (ℕ × End)) → ((session : ℕ) → end_of plan session ≡ end_of other session) → settled plan s ≡ settled other s
settled_in_any_order s plan other alike =
    same_state s _ _ _ _ _ _
    (ap (applied s.rows) (filter_alike (λ (r : Reservation). is_commit (end_of plan r.session)) (λ (r : Reservation). is_commit (end_of other r.session)) (λ r. ap is_commit (alike r.session)) s.reservations))
    (filter_alike (λ (r : Reservation). is_none (end_of plan r.session)) (λ (r : Reservation). is_none (end_of other r.session)) (λ r. ap is_none (alike r.session)) s.reservations)
    (filter_alike (λ (p : Savepoint). is_none (end_of plan p.session)) (λ (p : Savepoint). is_none (end_of other p.session)) (λ p. ap is_none (alike p.session)) s.savepoints)

-- the state after one more entry
pub ends_next : (plan : List (ℕ × End)) (i : ℕ) (entry : ℕ × End) (s mid new : State) → i < length plan → entry ≡ get_or plan i entry
    → mid ≡ after_ends s (take i plan) → new ≡ after_end mid entry.0 entry.1 → new ≡ after_ends s (take (i + 1) plan)
ends_next plan i entry s mid new below is_entry before ended =
    let more : take (i + 1) plan ≡ take i plan ++ entry ∷ [] = take_more plan i entry below ∙ ap (λ (e : ℕ × End). take i plan ++ e ∷ []) (sym is_entry) in
    ended ∙ ap (λ (t : State). after_end t entry.0 entry.1) before ∙ sym (ends_more s (take i plan) entry) ∙ ap (after_ends s) (sym more)

-- the state after the last entry
pub ends_all : (plan : List (ℕ × End)) (i : ℕ) (s new : State) → length plan ≤ i → new ≡ after_ends s (take i plan) → new ≡ settled plan s
ends_all plan i s new past ended = ended ∙ ap (after_ends s) (take_all i plan past) ∙ sym (settled_is_the_run s plan)

-- a plan that stops at an entry
pub stops : (plan : List (ℕ × End)) (stop : Stop) (entry : ℕ × End) (s mid new : State) → stop.place < length plan → entry ≡ get_or plan stop.place entry
    → mid ≡ after_ends s (take stop.place plan) → new ≡ mid → entry.1 ≡ end.Commit → 0 < length (own entry.0 mid.reservations) → IsStop plan s stop new
stops plan stop entry s mid new below is_entry before same commits holds =
    let found : slice_get plan stop.place ≡ Some entry = slice_get-get_or plan stop.place entry below ∙ ap (λ (e : ℕ × End). Some e) (sym is_entry) in
    record {
      done = same ∙ before ∙ sym (settled_is_the_run s (take stop.place plan));
      session = entry.0;
      entry = found ∙ ap (λ (x : End). Some (entry.0, x)) commits;
      holds = subst (λ (t : State). 0 < length (own entry.0 t.reservations)) (sym same) holds;
    }
