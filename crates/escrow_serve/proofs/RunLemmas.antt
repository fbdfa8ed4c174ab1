-- Waiting lines, what they request of each database, and the remaining replies.
use Rattle.std.proofs.Common.{◌≡◌, ◌≢◌, ℕ, ◌+◌, ◌<◌, ◌≤◌, List, [], ◌∷◌, ◌++◌, length, Some, arith, refl, sym, ap, subst, ◌∙◌, append_assoc, inl, inr}
use Rattle.std.specs.Prelude.{reverse, slice_get, slice_set}
use Rattle.std.specs.List.{AllByRecursion}
use Rattle.std.proofs.lemmas.Bool.{cases_eq, eq-eqb, ne_eqb}
use Rattle.std.proofs.lemmas.List.{append-nil, length-map, length-set, reverse-append, reverse-reverse}
use Rattle.std.proofs.lemmas.Option.{slice_get_within}
use Rattle.sqlite.specs.Held.{state}
use Rattle.sqlite.specs.State.{HasCleanDisk}
use Rattle.sqlite_trees.specs.declared.store.Store.{Ghosts}
use Rattle.sqlite_trees.proofs.ListLemmas.{all-slice_get}
use Rattle.escrow_statement.specs.declared.statement.Statement.{Statement}
use Rattle.escrow_core.specs.Database.{Database}
use Rattle.escrow_machine.specs.declared.event.Event.{Event}
use Rattle.escrow_machine.specs.declared.event.Event.TheVariants as event
use Rattle.escrow_machine.specs.declared.reply.Reply.{Reply}
use Rattle.escrow_machine.specs.State.{State}
use Rattle.escrow_machine.specs.Step.{StepOrRefusal, IsRun}
use Rattle.escrow_serve.specs.Output.{state_in, states_of, HaveCleanDisks}
use Rattle.escrow_serve.specs.Batch.{Item, behind, event_at, events_at, AreAsked, HasRun, HaveRun, Runs}
use Rattle.escrow_serve.specs.Ran.{Ran}
use Rattle.escrow_serve.specs.declared.part.Part.{Part}
use Rattle.escrow_serve.specs.declared.task.Task.{Task}
use Rattle.escrow_serve.specs.declared.task.Task.TheVariants as task
use Rattle.escrow_serve.proofs.Elements.{get_image, get_set_same, get_set_other, get_within, same_elements}

-- WHAT LINES REQUEST

events_behind : (place : ℕ) (items : List Item) (bytes : List ℕ) (asked : Task) → events_at place (behind items bytes asked) ≡ events_at place items ++ event_at place asked
events_behind place [] bytes asked = append-nil (event_at place asked)
events_behind place (item ∷ items) bytes asked =
    ap (λ (es : List Event). event_at place item.task ++ es) (events_behind place items bytes asked) ∙ sym (append_assoc (event_at place item.task) (events_at place items) (event_at place asked))

-- a line that requests no statement waits too
pub asked_nothing : (parts : List Part) (items : List Item) (bytes : List ℕ) (asked : Task) → ((place : ℕ) → event_at place asked ≡ []) → AreAsked parts items → AreAsked parts (behind items bytes asked)
asked_nothing parts items bytes asked none are = λ place part found.
    are place part found ∙ sym (events_behind place items bytes asked ∙ ap (λ (es : List Event). events_at place items ++ es) (none place) ∙ append-nil (events_at place items))

pub own_event : (place session : ℕ) (asked : Statement) → event_at place (task.Statement place session asked) ≡ event.Statement session asked ∷ []
own_event place session asked = rw (eq-eqb place place refl) refl

pub other_event : (place other session : ℕ) (asked : Statement) → other ≢ place → event_at other (task.Statement place session asked) ≡ []
other_event place other session asked apart = rw (ne_eqb place other (λ same. apart (sym same))) refl

-- the part that was set has these events, and the others keep theirs
asked_set : (parts : List Part) (items others : List Item) (place : ℕ) (after : Part) → place < length parts → after.events.items ≡ events_at place others
    → ((other : ℕ) → other ≢ place → events_at other others ≡ events_at other items) → AreAsked parts items → AreAsked (slice_set parts place after) others
asked_set parts items others place after within own same are = λ other part found. elim (cases_eq other place) [
  | inl here ↦
      let is : after ≡ part = let e = sym (get_set_same parts place after within) ∙ subst (λ (p : ℕ). slice_get (slice_set parts place after) p ≡ Some part) here found in cc in
      subst (λ (p : Part). p.events.items ≡ events_at other others) is (own ∙ ap (λ (p : ℕ). events_at p others) (sym here))
  | inr apart ↦ are other part (sym (get_set_other parts place other after apart) ∙ found) ∙ sym (same other apart)
]

-- a statement waits too
pub asked_more : (parts : List Part) (items : List Item) (bytes : List ℕ) (place session : ℕ) (asked : Statement) (old after : Part) → slice_get parts place ≡ Some old
    → after.events.items ≡ old.events.items ++ event.Statement session asked ∷ [] → AreAsked parts items → AreAsked (slice_set parts place after) (behind items bytes (task.Statement place session asked))
asked_more parts items bytes place session asked old after found more are =
    asked_set parts items (behind items bytes (task.Statement place session asked)) place after (slice_get_within parts place old found)
    (more ∙ ap (λ (es : List Event). es ++ event.Statement session asked ∷ []) (are place old found)
    ∙ sym (events_behind place items bytes (task.Statement place session asked) ∙ ap (λ (es : List Event). events_at place items ++ es) (own_event place session asked)))
    (λ other apart. events_behind other items bytes (task.Statement place session asked)
    ∙ ap (λ (es : List Event). events_at other items ++ es) (other_event place other session asked apart) ∙ append-nil (events_at other items)) are

-- no statement is added, and the same lines wait
pub asked_still : (parts : List Part) (items : List Item) (place : ℕ) (old after : Part) → slice_get parts place ≡ Some old → after.events.items ≡ old.events.items
    → AreAsked parts items → AreAsked (slice_set parts place after) items
asked_still parts items place old after found same are =
    asked_set parts items items place after (slice_get_within parts place old found) (same ∙ are place old found) (λ other apart. refl) are

-- no line waits
pub asked_none : (parts : List Part) → AllByRecursion (λ (part : Part). part.events.items ≡ []) parts → AreAsked parts []
asked_none parts all = λ place part found. all-slice_get (λ (p : Part). p.events.items ≡ []) parts place part found all

-- THE DATABASES SERVE THE REQUESTS

-- a part was run, and its answers are kept, the last one first
pub part_ran : {S : Type 0} (g : Ghosts S) (old new : Database S) (part : Part) (left : List Event) (answers kept : List Reply) → left ≡ [] → kept ≡ reverse answers
    → Ran g old part.events.items answers new → (left ≡ []) × Ran g old part.events.items (reverse kept) new
part_ran g old new part left answers kept none is ran =
    (none, subst (λ (rs : List Reply). Ran g old part.events.items rs new) (sym (ap reverse is ∙ reverse-reverse answers)) ran)

-- the parts before a place were run, and the later ones were not
pub record RunUpTo {S : Type 0} (g : Ghosts S) (olds news : List (Database S)) (parts afters : List Part) (count : ℕ) : Type 0 where
  pub databases : length news ≡ length olds
  pub same_parts : length afters ≡ length parts
  pub ran : (place : ℕ) (old new : Database S) (part after : Part) → place < count → slice_get olds place ≡ Some old → slice_get news place ≡ Some new
      → slice_get parts place ≡ Some part → slice_get afters place ≡ Some after → HasRun g old part new after
  pub waits : (place : ℕ) → count ≤ place → (slice_get news place ≡ slice_get olds place) × (slice_get afters place ≡ slice_get parts place)

pub run_none : {S : Type 0} (g : Ghosts S) (olds : List (Database S)) (parts : List Part) → RunUpTo g olds olds parts parts 0
run_none g olds parts = record {
  databases = refl;
  same_parts = refl;
  ran = λ place old new part after below f1 f2 f3 f4. absurd (omega (arith, below));
  waits = λ place from. (refl, refl);
}

pub run_more : {S : Type 0} (g : Ghosts S) (olds news : List (Database S)) (parts afters : List Part) (count : ℕ) (old new : Database S) (part after : Part)
    → slice_get news count ≡ Some old → slice_get afters count ≡ Some part → HasRun g old part new after → RunUpTo g olds news parts afters count
    → RunUpTo g olds (slice_set news count new) parts (slice_set afters count after) (count + 1)
run_more {S} g olds news parts afters count old new part after found has run up = record {
  databases = length-set news count new ∙ up.databases;
  same_parts = length-set afters count after ∙ up.same_parts;
  ran = λ place was now asked left below f1 f2 f3 f4. elim (cases_eq place count) [
    | inl here ↦
        let waits = up.waits count (omega arith) in
        let is_was : old ≡ was = let e = sym found ∙ waits.0 ∙ subst (λ (p : ℕ). slice_get olds p ≡ Some was) here f1 in cc in
        let is_asked : part ≡ asked = let e = sym has ∙ waits.1 ∙ subst (λ (p : ℕ). slice_get parts p ≡ Some asked) here f3 in cc in
        let is_now : new ≡ now =
        let e = sym (get_set_same news count new (slice_get_within news count old found)) ∙ subst (λ (p : ℕ). slice_get (slice_set news count new) p ≡ Some now) here f2 in cc in
        let is_left : after ≡ left =
        let e = sym (get_set_same afters count after (slice_get_within afters count part has)) ∙ subst (λ (p : ℕ). slice_get (slice_set afters count after) p ≡ Some left) here f4 in cc in
        subst (λ (d : Database S). HasRun g d asked now left) is_was (subst (λ (p : Part). HasRun g old p now left) is_asked
        (subst (λ (d : Database S). HasRun g old part d left) is_now (subst (λ (p : Part). HasRun g old part new p) is_left run)))
    | inr apart ↦ up.ran place was now asked left (omega (arith, below, apart)) f1 (sym (get_set_other news count place new apart) ∙ f2) f3
        (sym (get_set_other afters count place after apart) ∙ f4)
  ];
  waits = λ place from.
      let apart : place ≢ count = omega (arith, from) in
      let waits = up.waits place (omega (arith, from)) in
      (get_set_other news count place new apart ∙ waits.0, get_set_other afters count place after apart ∙ waits.1);
}

pub run_all : {S : Type 0} (g : Ghosts S) (olds news : List (Database S)) (parts afters : List Part) (count : ℕ) → length olds ≤ count → RunUpTo g olds news parts afters count → HaveRun g olds parts news afters
run_all g olds news parts afters count all up = λ place old new part after f1. up.ran place old new part after (omega (arith, slice_get_within olds place old f1)) f1

-- no line waits then
pub emptied : {S : Type 0} (g : Ghosts S) (olds news : List (Database S)) (parts afters : List Part) → length news ≡ length olds → length parts ≡ length olds → length afters ≡ length parts
    → HaveRun g olds parts news afters → AreAsked afters []
emptied g olds news parts afters count parted same ran = λ place after found.
    let within = slice_get_within afters place after found in
    let old = get_within olds place (omega (arith, within)) in
    let new = get_within news place (omega (arith, within)) in
    let part = get_within parts place (omega (arith, within)) in
    (ran place old.0 new.0 part.0 after old.1 new.1 part.1 found).0

-- each line has its reply
pub runs_all : {S : Type 0} (g : Ghosts S) (olds news : List (Database S)) (parts afters : List Part) (items : List Item) → length news ≡ length olds → length parts ≡ length olds
    → length afters ≡ length parts → AreAsked parts items → HaveRun g olds parts news afters → HaveCleanDisks g news → Runs (states_of olds) (states_of news) items afters
runs_all {S} g olds news parts afters items count parted same asked ran clean = record {
  count = length-map news state_in ∙ count ∙ sym (length-map olds state_in);
  parted = same ∙ parted ∙ sym (length-map olds state_in);
  each = λ place before after part f1 f2 f3.
      let old = get_image state_in olds place before f1 in
      let new = get_image state_in news place after f2 in
      let was = get_within parts place (omega (arith, slice_get_within afters place part f3, same)) in
      let run = (ran place old.0 new.0 was.0 part old.1 new.1 was.1 f3).1.run (all-slice_get (λ (d : Database S). HasCleanDisk (state g d.store)) news place new.0 new.1 clean) in
      subst (λ (s : State). IsRun s (events_at place items) (reverse part.answers.items) after) old.2
      (subst (λ (s : State). IsRun old.0.state (events_at place items) (reverse part.answers.items) s) new.2
      (subst (λ (es : List Event). IsRun old.0.state es (reverse part.answers.items) new.0.state) (asked place was.0 was.1) run));
}

-- THE REMAINING REPLIES

-- a line that requests no statement has no reply from a database
pub runs_without : (states new : List State) (item : Item) (items : List Item) (parts : List Part) → ((place : ℕ) → event_at place item.task ≡ []) → Runs states new (item ∷ items) parts
    → Runs states new items parts
runs_without states new item items parts none runs = record {
  count = runs.count;
  parted = runs.parted;
  each = λ place before after part f1 f2 f3.
      subst (λ (es : List Event). IsRun before (es ++ events_at place items) (reverse part.answers.items) after) (none place) (runs.each place before after part f1 f2 f3);
}

-- the reply to a statement is the last of its part
pub record Answered (states new : List State) (place session : ℕ) (asked : Statement) (items : List Item) (answer : Reply) (parts : List Part) : Type 0 where
  pub before : State
  pub mid : State
  pub found : slice_get states place ≡ Some before
  pub step : StepOrRefusal before session asked answer mid
  pub runs : Runs (slice_set states place mid) new items parts

runs_set : (states new : List State) (place session : ℕ) (asked : Statement) (bytes : List ℕ) (items : List Item) (parts : List Part) (left : Part) (mid end : State)
    → place < length states → slice_get new place ≡ Some end → IsRun mid (events_at place items) (reverse left.answers.items) end
    → Runs states new (record { bytes = bytes; task = task.Statement place session asked } ∷ items) parts → Runs (slice_set states place mid) new items (slice_set parts place left)
runs_set states new place session asked bytes items parts left mid end within ends run runs = record {
  count = runs.count ∙ sym (length-set states place mid);
  parted = length-set parts place left ∙ runs.parted ∙ sym (length-set states place mid);
  each = λ other before after part f1 f2 f3. elim (cases_eq other place) [
    | inl here ↦
        let is_before : mid ≡ before = let e = sym (get_set_same states place mid within) ∙ subst (λ (p : ℕ). slice_get (slice_set states place mid) p ≡ Some before) here f1 in cc in
        let is_after : end ≡ after = let e = sym ends ∙ subst (λ (p : ℕ). slice_get new p ≡ Some after) here f2 in cc in
        let is_part : left ≡ part =
        let e = sym (get_set_same parts place left (omega (arith, within, runs.parted))) ∙ subst (λ (p : ℕ). slice_get (slice_set parts place left) p ≡ Some part) here f3 in cc in
        subst (λ (p : ℕ). IsRun before (events_at p items) (reverse part.answers.items) after) (sym here)
        (subst (λ (s : State). IsRun s (events_at place items) (reverse part.answers.items) after) is_before
        (subst (λ (s : State). IsRun mid (events_at place items) (reverse part.answers.items) s) is_after
        (subst (λ (p : Part). IsRun mid (events_at place items) (reverse p.answers.items) end) is_part run)))
    | inr apart ↦
        subst (λ (es : List Event). IsRun before (es ++ events_at other items) (reverse part.answers.items) after) (other_event place other session asked apart)
        (runs.each other before after part (sym (get_set_other states place other mid apart) ∙ f1) f2 (sym (get_set_other parts place other left apart) ∙ f3))
  ];
}

pub runs_next : (states new : List State) (place session : ℕ) (asked : Statement) (bytes : List ℕ) (items : List Item) (parts : List Part) (old left : Part) (answer : Reply)
    → slice_get parts place ≡ Some old → old.answers.items ≡ left.answers.items ++ answer ∷ []
    → Runs states new (record { bytes = bytes; task = task.Statement place session asked } ∷ items) parts → Answered states new place session asked items answer (slice_set parts place left)
runs_next states new place session asked bytes items parts old left answer has popped runs =
    let within = slice_get_within parts place old has in
    let before = get_within states place (omega (arith, within, runs.parted)) in
    let end = get_within new place (omega (arith, within, runs.parted, runs.count)) in
    let answers : reverse old.answers.items ≡ answer ∷ reverse left.answers.items = ap reverse popped ∙ reverse-append left.answers.items (answer ∷ []) in
    let run = subst (λ (es : List Event). IsRun before.0 (es ++ events_at place items) (answer ∷ reverse left.answers.items) end.0) (own_event place session asked)
    (subst (λ (rs : List Reply). IsRun before.0 (event_at place (task.Statement place session asked) ++ events_at place items) rs end.0) answers
    (runs.each place before.0 end.0 old before.1 end.1 has)) in
    record {
      before = before.0;
      mid = run.0;
      found = before.1;
      step = run.1;
      runs = runs_set states new place session asked bytes items parts left run.0 end.0 (omega (arith, within, runs.parted)) end.1 run.2 runs;
    }

-- there is such a reply
pub runs_some : (states new : List State) (place session : ℕ) (asked : Statement) (bytes : List ℕ) (items : List Item) (parts : List Part) (old : Part)
    → slice_get parts place ≡ Some old → old.answers.items ≡ [] → Runs states new (record { bytes = bytes; task = task.Statement place session asked } ∷ items) parts → ⊥
runs_some states new place session asked bytes items parts old has none runs =
    let within = slice_get_within parts place old has in
    let before = get_within states place (omega (arith, within, runs.parted)) in
    let end = get_within new place (omega (arith, within, runs.parted, runs.count)) in
    subst (λ (es : List Event). IsRun before.0 (es ++ events_at place items) [] end.0) (own_event place session asked)
    (subst (λ (rs : List Reply). IsRun before.0 (event_at place (task.Statement place session asked) ++ events_at place items) rs end.0) (ap reverse none)
    (runs.each place before.0 end.0 old before.1 end.1 has))

unasked : (before after : State) (answers : List Reply) → IsRun before [] answers after → before ≡ after
unasked before after [] run = sym run
unasked before after (answer ∷ answers) run = absurd run

-- after the last line, the states are those after all events
pub runs_end : (states new : List State) (parts : List Part) → Runs states new [] parts → states ≡ new
runs_end states new parts runs = same_elements states new (sym runs.count) (λ place before after f1 f2.
    let part = get_within parts place (omega (arith, slice_get_within states place before f1, runs.parted)) in
    unasked before after (reverse part.0.answers.items) (runs.each place before after part.0 f1 f2 part.1))
