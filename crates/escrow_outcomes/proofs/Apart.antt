-- The lines of one database write what they would write without the others.
use Rattle.std.specs.Prelude.{◌≡◌, ◌≤◌, ◌<◌, ◌==◌, ℕ, zero, suc, Bool, true, false, cond, IsSomeAnd, Option, Some, None, List, [], ◌∷◌, ◌++◌, length, map, slice_get, slice_set}
use Rattle.std.specs.List.{AllByRecursion}
use Rattle.std.proofs.Common.{inl, inr, refl, sym, ap, ap₂, subst, ◌∙◌}
use Rattle.std.proofs.lemmas.Bool.{eqb-true, eq-eqb}
use Rattle.std.proofs.lemmas.Option.{slice_get_within}
use Rattle.escrow_machine.specs.State.{State}
use Rattle.escrow_script.specs.Line.{Reading, nothing, join, restart, statement, no_line, database_name, Reads}
use Rattle.escrow_script.specs.declared.limits.TheConstants.{MAX_DATABASES}
use Rattle.escrow_script.proofs.ReadingLemmas.{has_one_reading}
use Rattle.escrow_serve.specs.Output.{Sitting, begun, Restarts, PrintsText, ServesLine, ServesLines}
use Rattle.escrow_serve.proofs.Elements.{get_set_same, get_set_other, set_same}
use Rattle.escrow_outcomes.specs.Apart.{Served, bytes_of, output_of, AreServed, is_of, lines_at}
use Rattle.escrow_outcomes.specs.Failed.{ShowsFailure}
use Rattle.escrow_outcomes.specs.Laws.{CutsAreOutputs, DatabasesStandAlone, OthersMakeNoDifference}
use Rattle.escrow_outcomes.proofs.Once.{text_once, restart_once}

-- LISTS

same_item : {A : Type 0} (x y : A) → Some x ≡ Some y → x ≡ y
same_item x y e = cc

get_map : {A B : Type 0} (f : A → B) (xs : List A) (place : ℕ) (x : A) → slice_get xs place ≡ Some x → slice_get (map f xs) place ≡ Some (f x)
get_map f [] place x found = cc
get_map f (y ∷ xs) zero x found = ap (λ o. Some (f o)) (same_item y x found)
get_map f (y ∷ xs) (suc place) x found = get_map f xs place x found

map_set : {A B : Type 0} (f : A → B) (xs : List A) (place : ℕ) (x : A) → map f (slice_set xs place x) ≡ slice_set (map f xs) place (f x)
map_set f [] place x = refl
map_set f (y ∷ xs) zero x = refl
map_set f (y ∷ xs) (suc place) x = ap (λ ys. f y ∷ ys) (map_set f xs place x)

set_twice : {A : Type 0} (xs : List A) (place : ℕ) (x y : A) → slice_set (slice_set xs place x) place y ≡ slice_set xs place y
set_twice [] place x y = refl
set_twice (z ∷ xs) zero x y = refl
set_twice (z ∷ xs) (suc place) x y = ap (λ ys. z ∷ ys) (set_twice xs place x y)

states_begun : (states : List State) → map (λ (x : Sitting). x.state) (map begun states) ≡ states
states_begun [] = refl
states_begun (s ∷ states) = ap (λ ys. s ∷ ys) (states_begun states)

-- CUTS

cut_lines : (sessions : ℕ) (sittings : List Sitting) (lines : List (List ℕ)) (out : List ℕ) (new : List Sitting) → ServesLines sessions sittings lines out new
    → (served : List Served) × (bytes_of served ≡ lines) × (output_of served ≡ out) × AreServed sessions sittings served new
cut_lines sessions sittings [] out new run = ([], refl, sym run.0, run.1)
cut_lines sessions sittings (line ∷ lines) out new run =
    let rest = cut_lines sessions run.2 lines run.1 new run.4 in
    let l : Served = record { bytes = line; reading = run.3.0; wrote = run.0 } in
    (l ∷ rest.0, ap (λ (ls : List (List ℕ)). line ∷ ls) rest.1, ap (λ (o : List ℕ). run.0 ++ o) rest.2 ∙ sym run.5, (run.2, run.3.1, run.3.2, rest.3))

whole_lines : (sessions : ℕ) (sittings : List Sitting) (served : List Served) (new : List Sitting) → AreServed sessions sittings served new
    → ServesLines sessions sittings (bytes_of served) (output_of served) new
whole_lines sessions sittings [] new run = (refl, run)
whole_lines sessions sittings (l ∷ served) new run =
    (l.wrote, output_of served, run.0, (l.reading, run.1, run.2), whole_lines sessions run.0 served new run.3, refl)

pub cuts_are_outputs : CutsAreOutputs
cuts_are_outputs = record {
  cut = λ sessions lines states out new written.
      let found = cut_lines sessions (map begun states) lines out written.0 written.1 in
      record { served = found.0; are_lines = found.1; are_output = found.2; serves = (written.0, found.3, written.2) };
  whole = λ sessions states served new run. (run.0, whole_lines sessions (map begun states) served run.0 run.1, run.2);
}

-- ONE LINE OF ONE DATABASE

-- what a line makes of the sitting of its database
abbrev Does : Reading → Sitting → List ℕ → Sitting → Type 0
Does nothing sitting wrote after = ⊥
Does join sitting wrote after = ⊥
Does no_line sitting wrote after = ⊥
Does (restart at) sitting wrote after = Restarts (database_name at) sitting wrote after
Does (statement at session text) sitting wrote after = PrintsText (database_name at) sitting session text wrote after

-- it is of the database among any that include it
reads_anywhere : (place databases others sessions : ℕ) (bytes : List ℕ) (reading : Reading) → is_of place reading ≡ true → place < others
    → Reads databases sessions bytes reading → Reads others sessions bytes reading
reads_anywhere place databases others sessions bytes nothing own within reads = absurd (cc)
reads_anywhere place databases others sessions bytes join own within reads = absurd (cc)
reads_anywhere place databases others sessions bytes no_line own within reads = absurd (cc)
reads_anywhere place databases others sessions bytes (restart at) own within (inl good) =
    let here : at ≡ place = eqb-true at place own in
    inl (
      good.0,
      record {
        within = subst (λ (p : ℕ). p < others) (sym here) within;
        front = good.1.front;
        back = good.1.back;
        apart = good.1.apart;
        front_blank = good.1.front_blank;
        back_blank = good.1.back_blank;
        parts = good.1.parts;
      },
    )
reads_anywhere place databases others sessions bytes (restart at) own within (inr bad) = absurd (cc (bad.1))
reads_anywhere place databases others sessions bytes (statement at session text) own within (inl good) =
    let here : at ≡ place = eqb-true at place own in
    inl (
      good.0,
      record {
        within = subst (λ (p : ℕ). p < others) (sym here) within;
        is_session = good.1.is_session;
        among = good.1.among;
        parts = good.1.parts;
      },
    )
reads_anywhere place databases others sessions bytes (statement at session text) own within (inr bad) = absurd (cc (bad.1))

-- where it leads the databases
abbrev LeadsOwn : ℕ → List Sitting → Reading → Sitting → List ℕ → List Sitting → Type 0
LeadsOwn place sittings reading sitting wrote new = (after : Sitting) × Does reading sitting wrote after × (new ≡ slice_set sittings place after)

own_at : (P : Sitting → List ℕ → Sitting → Type 0) (place at : ℕ) (sittings : List Sitting) (sitting : Sitting) (wrote : List ℕ) (new : List Sitting) → at ≡ place
    → slice_get sittings place ≡ Some sitting
    → IsSomeAnd (slice_get sittings at) (λ found. (after : Sitting) × P found wrote after × (new ≡ slice_set sittings at after))
    → (after : Sitting) × P sitting wrote after × (new ≡ slice_set sittings place after)
own_at P place at sittings sitting wrote new here found line =
    let there : slice_get sittings at ≡ Some sitting = ap (λ (p : ℕ). slice_get sittings p) here ∙ found in
    let led = subst (λ (o : Option Sitting). IsSomeAnd o (λ s. (after : Sitting) × P s wrote after × (new ≡ slice_set sittings at after))) there line in
    (led.0, led.1, led.2 ∙ ap (λ (p : ℕ). slice_set sittings p led.0) here)

own_leads : (place : ℕ) (sittings : List Sitting) (reading : Reading) (sitting : Sitting) (wrote : List ℕ) (new : List Sitting) → is_of place reading ≡ true
    → slice_get sittings place ≡ Some sitting → ServesLine sittings reading wrote new → LeadsOwn place sittings reading sitting wrote new
own_leads place sittings nothing sitting wrote new own found line = absurd (cc)
own_leads place sittings join sitting wrote new own found line = absurd (cc)
own_leads place sittings no_line sitting wrote new own found line = absurd (cc)
own_leads place sittings (restart at) sitting wrote new own found line =
    own_at (λ s o after. Restarts (database_name at) s o after) place at sittings sitting wrote new (eqb-true at place own) found line
own_leads place sittings (statement at session text) sitting wrote new own found line =
    own_at (λ s o after. PrintsText (database_name at) s session text o after) place at sittings sitting wrote new (eqb-true at place own) found line

at_own : (P : Sitting → List ℕ → Sitting → Type 0) (place at : ℕ) (sittings : List Sitting) (sitting after : Sitting) (wrote : List ℕ) → at ≡ place
    → slice_get sittings place ≡ Some sitting → P sitting wrote after
    → IsSomeAnd (slice_get sittings at) (λ found. (new : Sitting) × P found wrote new × (slice_set sittings place after ≡ slice_set sittings at new))
at_own P place at sittings sitting after wrote here found does =
    let there : slice_get sittings at ≡ Some sitting = ap (λ (p : ℕ). slice_get sittings p) here ∙ found in
    let set : slice_set sittings place after ≡ slice_set sittings at after = ap (λ (p : ℕ). slice_set sittings p after) (sym here) in
    subst (λ (o : Option Sitting). IsSomeAnd o (λ s. (new : Sitting) × P s wrote new × (slice_set sittings place after ≡ slice_set sittings at new))) (sym there) (after, does, set)

leads_own : (place : ℕ) (sittings : List Sitting) (reading : Reading) (sitting after : Sitting) (wrote : List ℕ) → is_of place reading ≡ true
    → slice_get sittings place ≡ Some sitting → Does reading sitting wrote after → ServesLine sittings reading wrote (slice_set sittings place after)
leads_own place sittings nothing sitting after wrote own found does = absurd does
leads_own place sittings join sitting after wrote own found does = absurd does
leads_own place sittings no_line sitting after wrote own found does = absurd does
leads_own place sittings (restart at) sitting after wrote own found does =
    at_own (λ s o new. Restarts (database_name at) s o new) place at sittings sitting after wrote (eqb-true at place own) found does
leads_own place sittings (statement at session text) sitting after wrote own found does =
    at_own (λ s o new. PrintsText (database_name at) s session text o new) place at sittings sitting after wrote (eqb-true at place own) found does

-- a line of another database, or of none, leaves this one
other_at : (P : Sitting → Sitting → Type 0) (place at : ℕ) (sittings new : List Sitting) (o : Option Sitting) → (at == place) ≡ false
    → IsSomeAnd o (λ s. (after : Sitting) × P s after × (new ≡ slice_set sittings at after)) → slice_get new place ≡ slice_get sittings place
other_at P place at sittings new None apart line = absurd line
other_at P place at sittings new (Some s) apart line =
    let differ : ¬ (place ≡ at) = λ same. let yes : (at == place) ≡ true = eq-eqb at place (sym same) in absurd (cc) in
    ap (λ (xs : List Sitting). slice_get xs place) line.2 ∙ get_set_other sittings at place line.0 differ

other_stays : (place : ℕ) (sittings : List Sitting) (reading : Reading) (wrote : List ℕ) (new : List Sitting) → is_of place reading ≡ false
    → ServesLine sittings reading wrote new → slice_get new place ≡ slice_get sittings place
other_stays place sittings nothing wrote new other line = ap (λ (xs : List Sitting). slice_get xs place) line.1
other_stays place sittings join wrote new other line = ap (λ (xs : List Sitting). slice_get xs place) line.1
other_stays place sittings no_line wrote new other line = ap (λ (xs : List Sitting). slice_get xs place) line.1
other_stays place sittings (restart at) wrote new other line =
    other_at (λ s after. Restarts (database_name at) s wrote after) place at sittings new (slice_get sittings at) other line
other_stays place sittings (statement at session text) wrote new other line =
    other_at (λ s after. PrintsText (database_name at) s session text wrote after) place at sittings new (slice_get sittings at) other line

-- THE LINES OF ONE DATABASE

-- they are read as its lines among any databases that include it
record IsOwn (place sessions : ℕ) (l : Served) : Type 0 where
  own : is_of place l.reading ≡ true
  reads : (databases : ℕ) → place < databases → Reads databases sessions l.bytes l.reading

abbrev RunsOwn : ℕ → ℕ → Sitting → List Served → Sitting → Type 0
RunsOwn place sessions sitting [] after = after ≡ sitting
RunsOwn place sessions sitting (l ∷ served) after =
    (mid : Sitting) × IsOwn place sessions l × Does l.reading sitting l.wrote mid × RunsOwn place sessions mid served after

-- the lines of all databases run those of each
abbrev FoundOwn : ℕ → ℕ → Sitting → List Served → List Sitting → Type 0
FoundOwn place sessions sitting own new = (after : Sitting) × (slice_get new place ≡ Some after) × RunsOwn place sessions sitting own after

own_run : (sessions place : ℕ) (sittings : List Sitting) (served : List Served) (new : List Sitting) (sitting : Sitting) → slice_get sittings place ≡ Some sitting
    → AreServed sessions sittings served new → FoundOwn place sessions sitting (lines_at place served) new
own_run sessions place sittings [] new sitting found run = (sitting, ap (λ (xs : List Sitting). slice_get xs place) run ∙ found, refl)
own_run sessions place sittings (l ∷ served) new sitting found run =
    at (λ next there. own_run sessions place run.0 served new next there run.3) (is_of place l.reading) refl
  where
    at : ((next : Sitting) → slice_get run.0 place ≡ Some next → FoundOwn place sessions next (lines_at place served) new) → (b : Bool) → is_of place l.reading ≡ b
        → FoundOwn place sessions sitting (cond b (l ∷ lines_at place served) (lines_at place served)) new
    at rest true own =
        let led = own_leads place sittings l.reading sitting l.wrote run.0 own found run.2 in
        let there : slice_get run.0 place ≡ Some led.0 =
        ap (λ (xs : List Sitting). slice_get xs place) led.2 ∙ get_set_same sittings place led.0 (slice_get_within sittings place sitting found) in
        let later = rest led.0 there in
        let is_own : IsOwn place sessions l = record {
          own = own;
          reads = λ databases within. reads_anywhere place (length sittings) databases sessions l.bytes l.reading own within run.1;
        } in
        (later.0, later.1, (led.0, is_own, led.1, later.2))
    at rest false other = rest sitting (other_stays place sittings l.reading l.wrote run.0 other run.2 ∙ found)

-- they run among any databases that include it, and leave the others
run_own : (place sessions : ℕ) (sittings : List Sitting) (sitting : Sitting) (own : List Served) (after : Sitting) → slice_get sittings place ≡ Some sitting
    → RunsOwn place sessions sitting own after → AreServed sessions sittings own (slice_set sittings place after)
run_own place sessions sittings sitting [] after found run =
    ap (λ (x : Sitting). slice_set sittings place x) run ∙ set_same sittings place sitting found
run_own place sessions sittings sitting (l ∷ own) after found run =
    let within = slice_get_within sittings place sitting found in
    let mid : List Sitting = slice_set sittings place run.0 in
    let rest = run_own place sessions mid run.0 own after (get_set_same sittings place run.0 within) run.3 in (
      mid,
      run.1.reads (length sittings) within,
      leads_own place sittings l.reading sitting run.0 l.wrote run.1.own found run.2,
      subst (AreServed sessions mid own) (set_twice sittings place run.0 after) rest,
    )

pub databases_stand_alone : DatabasesStandAlone
databases_stand_alone sessions place states others served new before after run found there found_other =
    let own = own_run sessions place (map begun states) served run.0 (begun before) (get_map begun states place before found) run.1 in
    let first = get_map begun others place before found_other in
    let end : slice_get new place ≡ Some own.0.state =
    ap (λ (xs : List State). slice_get xs place) run.2 ∙ get_map (λ (x : Sitting). x.state) run.0 place own.0 own.1 in
    let is : own.0.state ≡ after = same_item own.0.state after (sym end ∙ there) in
    let set : map (λ (x : Sitting). x.state) (slice_set (map begun others) place own.0) ≡ slice_set others place after =
    map_set (λ (x : Sitting). x.state) (map begun others) place own.0 ∙ ap₂ (λ (xs : List State) (s : State). slice_set xs place s) (states_begun others) is in
    (slice_set (map begun others) place own.0, run_own place sessions (map begun others) (begun before) (lines_at place served) own.0 first own.2, sym set)

-- TWO SCRIPTS

does_once : (reading : Reading) (sitting : Sitting) (wrote other : List ℕ) (new another : Sitting) → Does reading sitting wrote new → Does reading sitting other another
    → ¬ (ShowsFailure wrote) → ¬ (ShowsFailure other) → (wrote ≡ other) × (new ≡ another)
does_once nothing sitting wrote other new another one two none also = absurd one
does_once join sitting wrote other new another one two none also = absurd one
does_once no_line sitting wrote other new another one two none also = absurd one
does_once (restart at) sitting wrote other new another one two none also = restart_once at sitting wrote other new another one two none also
does_once (statement at session text) sitting wrote other new another one two none also = text_once at sitting session text wrote other new another one two none also

same_line : (l m : Served) → l.bytes ≡ m.bytes → l.reading ≡ m.reading → l.wrote ≡ m.wrote → l ≡ m
same_line l m bytes reading wrote =
    ap (λ (x : List ℕ). record { bytes = x; reading = l.reading; wrote = l.wrote }) bytes
    ∙ ap (λ (x : Reading). record { bytes = m.bytes; reading = x; wrote = l.wrote }) reading
    ∙ ap (λ (x : List ℕ). record { bytes = m.bytes; reading = m.reading; wrote = x }) wrote

abbrev ShowNone : List Served → Type 0
ShowNone served = AllByRecursion (λ l. ¬ (ShowsFailure l.wrote)) served

own_once : (place sessions databases : ℕ) (sitting : Sitting) (own more : List Served) (new another : Sitting) → place < databases → databases ≤ MAX_DATABASES
    → RunsOwn place sessions sitting own new → RunsOwn place sessions sitting more another → bytes_of own ≡ bytes_of more → ShowNone own → ShowNone more
    → (own ≡ more) × (new ≡ another)
own_once place sessions databases sitting [] [] new another within few one two same none also = (refl, one ∙ sym two)
own_once place sessions databases sitting [] (m ∷ more) new another within few one two same none also = absurd (cc)
own_once place sessions databases sitting (l ∷ own) [] new another within few one two same none also = absurd (cc)
own_once place sessions databases sitting (l ∷ own) (m ∷ more) new another within few one two same none also =
    let bytes : l.bytes ≡ m.bytes = cc in
    let others : bytes_of own ≡ bytes_of more = cc in
    let reads : Reads databases sessions l.bytes m.reading = subst (λ (x : List ℕ). Reads databases sessions x m.reading) (sym bytes) (two.1.reads databases within) in
    let reading : l.reading ≡ m.reading = has_one_reading databases sessions l.bytes l.reading m.reading few (one.1.reads databases within) reads in
    let first = does_once l.reading sitting l.wrote m.wrote one.0 two.0 one.2 (subst (λ (r : Reading). Does r sitting m.wrote two.0) (sym reading) two.2) none.0 also.0 in
    let run : RunsOwn place sessions one.0 more another = subst (λ (s : Sitting). RunsOwn place sessions s more another) (sym first.1) two.3 in
    let rest = own_once place sessions databases one.0 own more new another within few one.3 run others none.1 also.1 in
    (ap₂ (λ (x : Served) (xs : List Served). x ∷ xs) (same_line l m bytes reading first.0) rest.0, rest.1)

state_found : (place : ℕ) (end : List Sitting) (new : List State) (after : Sitting) → new ≡ map (λ (x : Sitting). x.state) end → slice_get end place ≡ Some after
    → slice_get new place ≡ Some after.state
state_found place end new after is found = ap (λ (xs : List State). slice_get xs place) is ∙ get_map (λ (x : Sitting). x.state) end place after found

pub others_make_no_difference : OthersMakeNoDifference
others_make_no_difference sessions place states others served more new another before few one two found there same none also =
    let own = own_run sessions place (map begun states) served one.0 (begun before) (get_map begun states place before found) one.1 in
    let other = own_run sessions place (map begun others) more two.0 (begun before) (get_map begun others place before there) two.1 in
    let once = own_once place sessions (length states) (begun before) (lines_at place served) (lines_at place more) own.0 other.0
    (slice_get_within states place before found) few own.2 other.2 same none also in (
      once.0,
      state_found place one.0 new own.0 one.2 own.1 ∙ ap (λ (x : Sitting). Some x.state) once.1 ∙ sym (state_found place two.0 another other.0 two.2 other.1),
    )
