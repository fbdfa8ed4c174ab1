-- Waiting lines and the replies of parts that were given for them.
use Rattle.std.specs.Prelude.{◌≡◌, ℕ, suc, ◌+◌, ◌<◌, Some, List, [], ◌∷◌, ◌++◌, length, map, reverse, slice_get, slice_set}
use Rattle.std.specs.List.{AllByRecursion}
use Rattle.std.proofs.Common.{inl, inr, refl, sym, ap, ap₂, subst, arith, ◌∙◌, append_assoc}
use Rattle.std.proofs.lemmas.Bool.{cases_eq}
use Rattle.std.proofs.lemmas.List.{append-nil, length-append, length-reverse, length-set, map-append, nil_from_length, reverse-append}
use Rattle.std.proofs.lemmas.Option.{slice_get_within}
use Rattle.sqlite_trees.specs.declared.store.Store.{Ghosts}
use Rattle.escrow_num.specs.declared.refusal.Refusal.{Refusal}
use Rattle.escrow_statement.specs.declared.statement.Statement.{Statement}
use Rattle.escrow_machine.specs.declared.event.Event.{Event}
use Rattle.escrow_machine.specs.declared.event.Event.TheVariants as event
use Rattle.escrow_machine.specs.declared.reply.Reply.{Reply}
use Rattle.escrow_machine.specs.declared.reply.Reply.TheVariants as reply
use Rattle.escrow_core.specs.Database.{Database}
use Rattle.escrow_reply.specs.Text.{rendered}
use Rattle.escrow_script.specs.Line.{Reading, nothing, join, no_line, statement, database_name, Reads}
use Rattle.escrow_script.specs.Written.{fault_refusal, no_line_text}
use Rattle.escrow_serve.specs.Asked as given_by
use Rattle.escrow_serve.specs.Asked.{Given, GivesLine, GivesLines, answers_at, given_at}
use Rattle.escrow_serve.specs.Batch.{Item, waiting_of, event_at, events_at, AreAsked, AreReady, Gave, HaveRun, IsItem, MayWait}
use Rattle.escrow_serve.specs.Ran.{LinesRan, Ran}
use Rattle.escrow_serve.specs.Shown.{AreShown, IsShown}
use Rattle.escrow_serve.specs.Task.{IsTask}
use Rattle.escrow_serve.specs.declared.part.Part.{Part}
use Rattle.escrow_serve.specs.declared.task.Task.{Task}
use Rattle.escrow_serve.specs.declared.task.Task.TheVariants as task
use Rattle.escrow_serve.specs.declared.waiting.Waiting.{Waiting}
use Rattle.escrow_serve.specs.declared.waiting.Waiting.TheVariants as waiting
use Rattle.escrow_serve.proofs.Elements.{get_set_same, get_set_other, get_within}
use Rattle.escrow_serve.proofs.LineRanLemmas.{answers_then, events_then, gives_then, own_given, other_given, same_item}
use Rattle.escrow_serve.proofs.RanLemmas.{ran_shown, shown_both}
use Rattle.escrow_serve.proofs.RunLemmas.{own_event, other_event}
use Rattle.escrow_serve.proofs.ShownLemmas.{shown_refusal}

-- the reply to a waiting line is given for it
abbrev pub Gaves : ℕ → ℕ → Waiting → List ℕ → List Part → List Part → Type 0
Gaves sessions databases waits out parts lefts =
    (item : Item) (items : List Item) → waits ≡ waiting_of item.task → IsItem sessions databases item → AreReady parts (item ∷ items)
    → Gave sessions databases (item ∷ []) out parts lefts × AreReady lefts items

-- ONE LINE

pub gives_one : (databases sessions : ℕ) (bytes : List ℕ) (reading : Reading) (given : List Given) (out : List ℕ) → Reads databases sessions bytes reading → GivesLine reading given out
    → GivesLines databases sessions (bytes ∷ []) given out
gives_one databases sessions bytes reading given out reads gives =
    (reading, reads, given, [], out, [], gives, (refl, refl), sym (append-nil given), sym (append-nil out))

-- no part's replies are taken
told_none : (parts : List Part) (place : ℕ) (part left : Part) → slice_get parts place ≡ Some part → slice_get parts place ≡ Some left
    → (replies : List Reply) × (reverse part.answers.items ≡ replies ++ reverse left.answers.items) × AreShown replies []
told_none parts place part left f1 f2 =
    let same : part ≡ left = same_item part left (sym f1 ∙ f2) in
    ([], ap (λ (p : Part). reverse p.answers.items) same, refl)

-- a line that asks nothing of a database
unasked : (sessions databases : ℕ) (parts : List Part) (bytes : List ℕ) (is : Task) (items : List Item) (reading : Reading) (out : List ℕ) → ((place : ℕ) → event_at place is ≡ [])
    → Reads databases sessions bytes reading → GivesLine reading [] out → AreReady parts (record { bytes = bytes; task = is } ∷ items)
    → Gave sessions databases (record { bytes = bytes; task = is } ∷ []) out parts parts × AreReady parts items
unasked sessions databases parts bytes is items reading out none reads gives ready = (
  record {
    count = refl;
    given = [];
    gives = gives_one databases sessions bytes reading [] out reads gives;
    asked = λ place. sym (ap (λ (es : List Event). es ++ []) (none place));
    told = λ place part left f1 f2. told_none parts place part left f1 f2;
  },
  λ place part found. ready place part found ∙ ap (λ (es : List Event). length (es ++ events_at place items)) (none place),
)

nothing_gave : (sessions databases : ℕ) (parts : List Part) (bytes : List ℕ) (is : Task) (items : List Item) → waiting.Nothing ≡ waiting_of is → IsTask sessions databases bytes is → MayWait is
    → AreReady parts (record { bytes = bytes; task = is } ∷ items) → Gave sessions databases (record { bytes = bytes; task = is } ∷ []) [] parts parts × AreReady parts items
nothing_gave sessions databases parts bytes task.Nothing items same (inl reads) may ready = unasked sessions databases parts bytes task.Nothing items nothing [] (λ place. refl) reads (refl, refl) ready
nothing_gave sessions databases parts bytes task.Nothing items same (inr reads) may ready = unasked sessions databases parts bytes task.Nothing items join [] (λ place. refl) reads (refl, refl) ready
nothing_gave sessions databases parts bytes (task.Restart place) items same is may ready = absurd may
nothing_gave sessions databases parts bytes (task.Statistics place session) items same is may ready = absurd may
nothing_gave sessions databases parts bytes task.NoLine items same is may ready = cc
nothing_gave sessions databases parts bytes (task.Refuse place session refusal) items same is may ready = cc
nothing_gave sessions databases parts bytes (task.Statement place session asked) items same is may ready = cc

pub gave_nothing : (sessions databases : ℕ) (parts : List Part) → Gaves sessions databases waiting.Nothing [] parts parts
gave_nothing sessions databases parts item items same is ready = nothing_gave sessions databases parts item.bytes item.task items same is.0 is.1 ready

no_line_gave : (sessions databases : ℕ) (parts : List Part) (bytes : List ℕ) (is : Task) (items : List Item) → waiting.NoLine ≡ waiting_of is → IsTask sessions databases bytes is
    → AreReady parts (record { bytes = bytes; task = is } ∷ items) → Gave sessions databases (record { bytes = bytes; task = is } ∷ []) no_line_text parts parts × AreReady parts items
no_line_gave sessions databases parts bytes task.NoLine items same is ready = unasked sessions databases parts bytes task.NoLine items no_line no_line_text (λ place. refl) is (refl, refl) ready
no_line_gave sessions databases parts bytes _ items same is ready = cc

pub gave_no_line : (sessions databases : ℕ) (parts : List Part) → Gaves sessions databases waiting.NoLine no_line_text parts parts
gave_no_line sessions databases parts item items same is ready = no_line_gave sessions databases parts item.bytes item.task items same is.0 ready

refused_gave : (sessions databases : ℕ) (parts : List Part) (place session : ℕ) (refusal : Refusal) (name bytes : List ℕ) (given : Reply) (is : Task) (items : List Item) → name ≡ database_name place
    → IsShown (reply.Refused refusal) given → waiting.Refused place session refusal ≡ waiting_of is → IsTask sessions databases bytes is → AreReady parts (record { bytes = bytes; task = is } ∷ items)
    → Gave sessions databases (record { bytes = bytes; task = is } ∷ []) (rendered name session given) parts parts × AreReady parts items
refused_gave sessions databases parts place session refusal name bytes given (task.Refuse place' session' refusal') items is_name shown same is ready =
    let is_place : place' ≡ place = cc in
    let is_session : session' ≡ session = cc in
    let is_refusal : refusal' ≡ refusal = cc in
    let is_given : given ≡ reply.Refused refusal = shown_refusal refusal given shown in
    let told : given ≡ reply.Refused (fault_refusal is.1) = is_given ∙ ap reply.Refused (sym is_refusal ∙ is.4) in
    let wrote : rendered name session given ≡ rendered (database_name place') session' (reply.Refused (fault_refusal is.1)) =
    ap₂ (λ (n : List ℕ) (r : Reply). rendered n session r) (is_name ∙ ap database_name (sym is_place)) told ∙ ap (λ (s : ℕ). rendered (database_name place') s (reply.Refused (fault_refusal is.1))) (sym is_session) in
    unasked sessions databases parts bytes (task.Refuse place' session' refusal') items (statement place' session' is.0) (rendered name session given) (λ other. refl) is.2 (inr (inl (is.1, is.3, refl, wrote))) ready
refused_gave sessions databases parts place session refusal name bytes given _ items is_name shown same is ready = cc

pub gave_refused : (sessions databases : ℕ) (parts : List Part) (place session : ℕ) (refusal : Refusal) (name : List ℕ) (given : Reply) → name ≡ database_name place → IsShown (reply.Refused refusal) given
    → Gaves sessions databases (waiting.Refused place session refusal) (rendered name session given) parts parts
gave_refused sessions databases parts place session refusal name given is_name shown item items same is ready =
    refused_gave sessions databases parts place session refusal name item.bytes given item.task items is_name shown same is.0 ready

-- A STATEMENT

module _ (sessions databases : ℕ) (parts : List Part) (place session : ℕ) (asked : Statement) (bytes : List ℕ) (items : List Item) (old left : Part) (answer given : Reply)
    (found : slice_get parts place ≡ Some old) (popped : old.answers.items ≡ left.answers.items ++ answer ∷ []) (shown : IsShown answer given) where
  one : List Given
  one = record { place = place; happened = event.Statement session asked; answer = given } ∷ []

  line : Item
  line = record { bytes = bytes; task = task.Statement place session asked }

  within : place < length parts
  within = slice_get_within parts place old found

  is_asked : (other : ℕ) → given_by.events_at other one ≡ events_at other (line ∷ [])
  unfolding one line
  is_asked other = elim (cases_eq other place) [
    | inl here ↦
        subst (λ (p : ℕ). given_by.events_at p one ≡ events_at p (line ∷ [])) (sym here)
        ((own_given place (event.Statement session asked) given).0 ∙ sym (ap (λ (es : List Event). es ++ []) (own_event place session asked)))
    | inr apart ↦ (other_given place other (event.Statement session asked) given apart).0 ∙ sym (ap (λ (es : List Event). es ++ []) (other_event place other session asked apart))
  ]

  is_told : (other : ℕ) (part after : Part) → slice_get parts other ≡ Some part → slice_get (slice_set parts place left) other ≡ Some after
      → (replies : List Reply) × (reverse part.answers.items ≡ replies ++ reverse after.answers.items) × AreShown replies (answers_at other one)
  unfolding one within
  is_told other part after f1 f2 = elim (cases_eq other place) [
    | inl here ↦
        let is_part : part ≡ old = same_item part old (sym f1 ∙ subst (λ (p : ℕ). slice_get parts p ≡ Some old) (sym here) found) in
        let is_after : after ≡ left = same_item after left (sym f2 ∙ subst (λ (p : ℕ). slice_get (slice_set parts place left) p ≡ Some left) (sym here) (get_set_same parts place left within)) in
        let answers : reverse old.answers.items ≡ answer ∷ reverse left.answers.items = ap reverse popped ∙ reverse-append left.answers.items (answer ∷ []) in (
          answer ∷ [],
          ap (λ (p : Part). reverse p.answers.items) is_part ∙ answers ∙ ap (λ (p : Part). answer ∷ reverse p.answers.items) (sym is_after),
          subst (λ (p : ℕ). AreShown (answer ∷ []) (answers_at p one)) (sym here)
              (subst (λ (rs : List Reply). AreShown (answer ∷ []) rs) (sym (own_given place (event.Statement session asked) given).1) (shown, refl)),
        )
    | inr apart ↦
        let same : part ≡ after = same_item part after (sym f1 ∙ sym (get_set_other parts place other left apart) ∙ f2) in (
          [],
          ap (λ (p : Part). reverse p.answers.items) same,
          (other_given place other (event.Statement session asked) given apart).1,
        )
  ]

  is_ready : AreReady parts (line ∷ items) → AreReady (slice_set parts place left) items
  unfolding line within
  is_ready ready other part f = elim (cases_eq other place) [
    | inl here ↦
        let is_part : part ≡ left = same_item part left (sym f ∙ subst (λ (p : ℕ). slice_get (slice_set parts place left) p ≡ Some left) (sym here) (get_set_same parts place left within)) in
        let count : length old.answers.items ≡ length left.answers.items + 1 = ap length popped ∙ length-append left.answers.items (answer ∷ []) in
        let all : length old.answers.items ≡ suc (length (events_at place items)) =
        ready place old found ∙ ap (λ (es : List Event). length (es ++ events_at place items)) (own_event place session asked) in
        ap (λ (p : Part). length p.answers.items) is_part ∙ omega (arith, count, all) ∙ ap (λ (p : ℕ). length (events_at p items)) (sym here)
    | inr apart ↦
        ready other part (sym (get_set_other parts place other left apart) ∙ f) ∙ ap (λ (es : List Event). length (es ++ events_at other items)) (other_event place other session asked apart)
  ]

statement_gave : (sessions databases : ℕ) (parts : List Part) (place session : ℕ) (name bytes : List ℕ) (old left : Part) (answer given : Reply) (is : Task) (items : List Item)
    → slice_get parts place ≡ Some old → old.answers.items ≡ left.answers.items ++ answer ∷ [] → name ≡ database_name place → IsShown answer given → waiting.Asked place session ≡ waiting_of is
    → IsTask sessions databases bytes is → AreReady parts (record { bytes = bytes; task = is } ∷ items)
    → Gave sessions databases (record { bytes = bytes; task = is } ∷ []) (rendered name session given) parts (slice_set parts place left) × AreReady (slice_set parts place left) items
unfolding one line
statement_gave sessions databases parts place session name bytes old left answer given (task.Statement place' session' asked) items found popped is_name shown same is ready =
    let is_place : place ≡ place' = cc in
    let is_session : session ≡ session' = cc in
    let here = subst (λ (p : ℕ). slice_get parts p ≡ Some old) is_place found in
    let wrote : rendered name session given ≡ rendered (database_name place') session' given =
    ap₂ (λ (n : List ℕ) (s : ℕ). rendered n s given) (is_name ∙ ap database_name is_place) is_session in
    subst (λ (p : ℕ). Gave sessions databases (record { bytes = bytes; task = task.Statement place' session' asked } ∷ []) (rendered name session given) parts (slice_set parts p left)
    × AreReady (slice_set parts p left) items) (sym is_place) (
      record {
        count = length-set parts place' left;
        given = one sessions databases parts place' session' asked bytes items old left answer given here popped shown;
        gives = gives_one databases sessions bytes (statement place' session' is.0) _ (rendered name session given) is.1 (inl (asked, given, is.2, refl, wrote));
        asked = is_asked sessions databases parts place' session' asked bytes items old left answer given here popped shown;
        told = is_told sessions databases parts place' session' asked bytes items old left answer given here popped shown;
      },
      is_ready sessions databases parts place' session' asked bytes items old left answer given here popped shown ready,
    )
statement_gave sessions databases parts place session name bytes old left answer given _ items found popped is_name shown same is ready = cc

pub gave_asked : (sessions databases : ℕ) (parts : List Part) (place session : ℕ) (name : List ℕ) (old left : Part) (answer given : Reply) → slice_get parts place ≡ Some old
    → old.answers.items ≡ left.answers.items ++ answer ∷ [] → name ≡ database_name place → IsShown answer given
    → Gaves sessions databases (waiting.Asked place session) (rendered name session given) parts (slice_set parts place left)
gave_asked sessions databases parts place session name old left answer given found popped is_name shown item items same is ready =
    statement_gave sessions databases parts place session name item.bytes old left answer given item.task items found popped is_name shown same is.0 ready

-- there is such a reply
none_gave : (parts : List Part) (place session : ℕ) (bytes : List ℕ) (old : Part) (is : Task) (items : List Item) → slice_get parts place ≡ Some old → old.answers.items ≡ []
    → waiting.Asked place session ≡ waiting_of is → AreReady parts (record { bytes = bytes; task = is } ∷ items) → ⊥
none_gave parts place session bytes old (task.Statement place' session' asked) items found none same ready =
    let is_place : place ≡ place' = cc in
    let here = subst (λ (p : ℕ). slice_get parts p ≡ Some old) is_place found in
    let all : length old.answers.items ≡ suc (length (events_at place' items)) =
    ready place' old here ∙ ap (λ (es : List Event). length (es ++ events_at place' items)) (own_event place' session' asked) in
    omega (arith, all, ap length none)
none_gave parts place session bytes old _ items found none same ready = cc

pub gave_none : (sessions databases : ℕ) (parts lefts : List Part) (place session : ℕ) (out : List ℕ) (old : Part) → slice_get parts place ≡ Some old → old.answers.items ≡ []
    → Gaves sessions databases (waiting.Asked place session) out parts lefts
gave_none sessions databases parts lefts place session out old found none item items same is ready = absurd (none_gave parts place session item.bytes old item.task items found none same ready)

-- ALL WAITING LINES

events_both : (place : ℕ) (items more : List Item) → events_at place (items ++ more) ≡ events_at place items ++ events_at place more
events_both place [] more = refl
events_both place (item ∷ items) more =
    ap (λ (es : List Event). event_at place item.task ++ es) (events_both place items more) ∙ sym (append_assoc (event_at place item.task) (events_at place items) (events_at place more))

-- lines, and then one more
gave_then : (sessions databases : ℕ) (done : List Item) (item : Item) (out first : List ℕ) (parts mids lefts : List Part) → Gave sessions databases done out parts mids
    → Gave sessions databases (item ∷ []) first mids lefts → Gave sessions databases (done ++ item ∷ []) (out ++ first) parts lefts
gave_then sessions databases done item out first parts mids lefts one two = record {
  count = two.count ∙ one.count;
  given = one.given ++ two.given;
  gives = subst (λ (ls : List (List ℕ)). GivesLines databases sessions ls (one.given ++ two.given) (out ++ first)) (sym (map-append (λ (i : Item). i.bytes) done (item ∷ [])))
      (gives_then databases sessions (map (λ (i : Item). i.bytes) done) (item.bytes ∷ []) one.given two.given out first one.gives two.gives);
  asked = λ place.
      events_then place one.given two.given
      ∙ ap₂ (λ (xs ys : List Event). xs ++ ys) (one.asked place) (two.asked place)
      ∙ sym (events_both place done (item ∷ []));
  told = λ place part left f1 f2.
      let mid = get_within mids place (omega (arith, slice_get_within parts place part f1, one.count)) in
      let here = one.told place part mid.0 f1 mid.1 in
      let there = two.told place mid.0 left mid.1 f2 in (
        here.0 ++ there.0,
        here.1 ∙ ap (λ (rs : List Reply). here.0 ++ rs) there.1 ∙ sym (append_assoc here.0 there.0 (reverse left.answers.items)),
        subst (AreShown (here.0 ++ there.0)) (sym (answers_then place one.given two.given)) (shown_both here.0 there.0 (answers_at place one.given) (answers_at place two.given) here.2 there.2),
      );
}

-- some lines have got their replies, and the others wait
pub record GaveSome (sessions databases : ℕ) (items : List Item) (waits : List Waiting) (parts lefts : List Part) (out : List ℕ) : Type 0 where
  pub done : List Item
  pub rest : List Item
  pub whole : items ≡ done ++ rest
  pub are_waiting : waits ≡ map (λ (i : Item). waiting_of i.task) rest
  pub are : AllByRecursion (IsItem sessions databases) rest
  pub gave : Gave sessions databases done out parts lefts
  pub ready : AreReady lefts rest

pub gave_begun : (sessions databases : ℕ) (items : List Item) (waits : List Waiting) (parts : List Part) → waits ≡ map (λ (i : Item). waiting_of i.task) items → AllByRecursion (IsItem sessions databases) items
    → AreReady parts items → GaveSome sessions databases items waits parts parts []
gave_begun sessions databases items waits parts is are ready = record {
  done = [];
  rest = items;
  whole = refl;
  are_waiting = is;
  are = are;
  gave = record {
    count = refl;
    given = [];
    gives = (refl, refl);
    asked = λ place. refl;
    told = λ place part left f1 f2. told_none parts place part left f1 f2;
  };
  ready = ready;
}

gave_step : (sessions databases : ℕ) (items done rest : List Item) (waiting : Waiting) (waits : List Waiting) (parts mids lefts : List Part) (out first : List ℕ) → items ≡ done ++ rest
    → waiting ∷ waits ≡ map (λ (i : Item). waiting_of i.task) rest → AllByRecursion (IsItem sessions databases) rest → Gave sessions databases done out parts mids → AreReady mids rest
    → Gaves sessions databases waiting first mids lefts → GaveSome sessions databases items waits parts lefts (out ++ first)
gave_step sessions databases items done [] waiting waits parts mids lefts out first whole is are gave ready gives = cc
gave_step sessions databases items done (item ∷ rest) waiting waits parts mids lefts out first whole is are gave ready gives =
    let head : waiting ≡ waiting_of item.task = cc in
    let tail : waits ≡ map (λ (i : Item). waiting_of i.task) rest = cc in
    let next = gives item rest head are.0 ready in
    record {
      done = done ++ item ∷ [];
      rest = rest;
      whole = whole ∙ sym (append_assoc done (item ∷ []) rest);
      are_waiting = tail;
      are = are.1;
      gave = gave_then sessions databases done item out first parts mids lefts gave next.0;
      ready = next.1;
    }

pub gave_more : (sessions databases : ℕ) (items : List Item) (waiting : Waiting) (all waits : List Waiting) (parts mids lefts : List Part) (out first : List ℕ) → all ≡ waiting ∷ waits
    → Gaves sessions databases waiting first mids lefts → GaveSome sessions databases items all parts mids out → GaveSome sessions databases items waits parts lefts (out ++ first)
gave_more sessions databases items waiting all waits parts mids lefts out first is gives so_far =
    gave_step sessions databases items so_far.done so_far.rest waiting waits parts mids lefts out first so_far.whole (sym is ∙ so_far.are_waiting) so_far.are so_far.gave so_far.ready gives

none_waiting : (items : List Item) → [] ≡ map (λ (i : Item). waiting_of i.task) items → items ≡ []
none_waiting [] is = refl
none_waiting (item ∷ items) is = cc

pub gave_all : (sessions databases : ℕ) (items : List Item) (waits : List Waiting) (parts lefts : List Part) (out : List ℕ) → waits ≡ [] → GaveSome sessions databases items waits parts lefts out
    → Gave sessions databases items out parts lefts × AreReady lefts []
gave_all sessions databases items waits parts lefts out none it =
    let over : it.rest ≡ [] = none_waiting it.rest (sym none ∙ it.are_waiting) in
    let all : it.done ≡ items = sym (it.whole ∙ ap (λ (is : List Item). it.done ++ is) over ∙ append-nil it.done) in
    (subst (λ (is : List Item). Gave sessions databases is out parts lefts) all it.gave, subst (AreReady lefts) over it.ready)

-- THE DATABASES OF A BATCH

-- each line has a reply
pub ready_all : {S : Type 0} (g : Ghosts S) (olds news : List (Database S)) (parts afters : List Part) (items : List Item) → length news ≡ length olds → length parts ≡ length olds
    → length afters ≡ length parts → AreAsked parts items → HaveRun g olds parts news afters → AreReady afters items
ready_all g olds news parts afters items count parted same asked ran = λ place after found.
    let within = slice_get_within afters place after found in
    let old = get_within olds place (omega (arith, within, same, parted)) in
    let new = get_within news place (omega (arith, within, same, parted, count)) in
    let part = get_within parts place (omega (arith, within, same)) in
    let one = (ran place old.0 new.0 part.0 after old.1 new.1 part.1 found).1 in
    sym (length-reverse after.answers.items) ∙ one.as_many ∙ ap length (asked place part.0 part.1)

-- each database has served what the lines gave it
pub batch_ran : {S : Type 0} (g : Ghosts S) (sessions databases : ℕ) (olds news : List (Database S)) (parts afters lefts : List Part) (items : List Item) (out : List ℕ) → databases ≡ length olds
    → length parts ≡ length olds → length afters ≡ length parts → AreAsked parts items → HaveRun g olds parts news afters → Gave sessions databases items out afters lefts × AreReady lefts []
    → LinesRan g sessions olds (map (λ item. item.bytes) items) out news
batch_ran {S} g sessions databases olds news parts afters lefts items out count parted same asked ran (gave, over) = (
  gave.given,
  subst (λ (n : ℕ). GivesLines n sessions (map (λ item. item.bytes) items) gave.given out) count gave.gives,
  λ place old new f1 f2.
      let within = slice_get_within olds place old f1 in
      let part = get_within parts place (omega (arith, within, parted)) in
      let after = get_within afters place (omega (arith, within, parted, same)) in
      let left = get_within lefts place (omega (arith, within, parted, same, gave.count)) in
      let one = (ran place old new part.0 after.0 f1 f2 part.1 after.1).1 in
      let told = gave.told place after.0 left.0 after.1 left.1 in
      let none : left.0.answers.items ≡ [] = nil_from_length left.0.answers.items (over place left.0 left.1) in
      let all : reverse after.0.answers.items ≡ told.0 = told.1 ∙ ap (λ (rs : List Reply). told.0 ++ reverse rs) none ∙ append-nil told.0 in
      let events : part.0.events.items ≡ given_by.events_at place gave.given = asked place part.0 part.1 ∙ sym (gave.asked place) in
      ran_shown g old new (given_by.events_at place gave.given) told.0 (answers_at place gave.given) told.2
      (subst (λ (es : List Event). Ran g old es told.0 new) events (subst (λ (rs : List Reply). Ran g old part.0.events.items rs new) all one)),
)
