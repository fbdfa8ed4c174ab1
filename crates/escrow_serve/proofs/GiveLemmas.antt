-- The reply to a waiting line.
use Rattle.std.proofs.Common.{◌≡◌, ℕ, ◌<◌, List, [], ◌∷◌, ◌++◌, length, map, arith, refl, sym, ap, subst, ◌∙◌, append_assoc, inl, inr}
use Rattle.std.specs.Prelude.{slice_set, slice_index_or}
use Rattle.std.specs.List.{AllByRecursion}
use Rattle.std.proofs.lemmas.List.{append-nil, map_push}
use Rattle.std.proofs.lemmas.Option.{slice_get_read}
use Rattle.escrow_num.specs.declared.refusal.Refusal.{Refusal}
use Rattle.escrow_machine.specs.declared.reply.Reply.{Reply}
use Rattle.escrow_machine.specs.declared.reply.Reply.TheVariants as reply
use Rattle.escrow_machine.specs.State.{State}
use Rattle.escrow_script.specs.Line.{statement, no_line, database_name, Reads}
use Rattle.escrow_script.specs.Written.{no_line_text}
use Rattle.escrow_script.proofs.LineLemmas.{names_one}
use Rattle.escrow_serve.specs.Output.{Answers}
use Rattle.escrow_serve.specs.Task.{IsTask}
use Rattle.escrow_serve.specs.Batch.{Item, waiting_of, IsItem, MayWait, Runs}
use Rattle.escrow_serve.specs.Totals.{LineServed, LinesServed, TextServed}
use Rattle.escrow_serve.specs.declared.part.Part.{Part}
use Rattle.escrow_serve.specs.declared.task.Task.{Task}
use Rattle.escrow_serve.specs.declared.task.Task.TheVariants as task
use Rattle.escrow_serve.specs.declared.totals.Totals.{Totals}
use Rattle.escrow_serve.specs.declared.waiting.Waiting.{Waiting}
use Rattle.escrow_serve.specs.declared.waiting.Waiting.TheVariants as waiting
use Rattle.escrow_serve.proofs.LinesLemmas.{lines_more, lines_none}
use Rattle.escrow_serve.proofs.RunLemmas.{runs_end, runs_next, runs_some, runs_without}
use Rattle.escrow_serve.proofs.ServeLemmas.{nothing_served}
use Rattle.escrow_serve.proofs.TotalsLemmas.{line_of_none, line_of_statement, line_unchanged}

-- the reply given to a waiting line serves the line
abbrev pub Gives : ℕ → ℕ → Waiting → List Totals → List ℕ → List Totals → List Part → List Part → Type 0
Gives sessions databases waits totals out counted parts left =
    (states new : List State) (item : Item) (items : List Item) → waits ≡ waiting_of item.task → IsItem sessions databases item → Runs states new (item ∷ items) parts
    → (mid : List State) × LineServed sessions states totals item.bytes out mid counted × Runs mid new items left

-- the answer to a text in a database, whatever its state
abbrev pub Answered : List ℕ → Totals → ℕ → Reply → List ℕ → Totals → Type 0
Answered name own session answer out counted = (old new : State) (text : List ℕ) → Answers old session text answer new → TextServed name old own session text out new counted

reads_among : (sessions : ℕ) → (databases : ℕ) (states : List State) (bytes : List ℕ) (reading : _) → databases ≡ length states → Reads databases sessions bytes reading → Reads (length states) sessions bytes reading
reads_among sessions databases states bytes reading same reads = subst (λ (n : ℕ). Reads n sessions bytes reading) same reads

-- NO REQUEST

nothing_given : (sessions : ℕ) → (databases : ℕ) (totals : List Totals) (parts : List Part) (states new : List State) (bytes : List ℕ) (asked : Task) (items : List Item) → databases ≡ length states
    → waiting.Nothing ≡ waiting_of asked → IsTask sessions databases bytes asked → MayWait asked → Runs states new (record { bytes = bytes; task = asked } ∷ items) parts
    → (mid : List State) × LineServed sessions states totals bytes [] mid totals × Runs mid new items parts
nothing_given sessions databases totals parts states new bytes task.Nothing items count same is may runs = (
  states,
  nothing_served sessions states totals bytes (subst (λ (n : ℕ). IsTask sessions n bytes task.Nothing) count is),
  runs_without states new (record { bytes = bytes; task = task.Nothing }) items parts (λ place. refl) runs,
)
nothing_given sessions databases totals parts states new bytes (task.Restart place) items count same is may runs = absurd may
nothing_given sessions databases totals parts states new bytes (task.Statistics place session) items count same is may runs = absurd may
nothing_given sessions databases totals parts states new bytes task.NoLine items count same is may runs = cc
nothing_given sessions databases totals parts states new bytes (task.Refuse place session refusal) items count same is may runs = cc
nothing_given sessions databases totals parts states new bytes (task.Statement place session asked) items count same is may runs = cc

pub gives_nothing : (sessions : ℕ) → (databases : ℕ) (totals : List Totals) (parts : List Part) → databases ≡ length parts → Gives sessions databases waiting.Nothing totals [] totals parts parts
gives_nothing sessions databases totals parts count states new item items same is runs =
    nothing_given sessions databases totals parts states new item.bytes item.task items (count ∙ runs.parted) same is.0 is.1 runs

-- NOT A LINE

no_line_given : (sessions : ℕ) → (databases : ℕ) (totals : List Totals) (parts : List Part) (states new : List State) (bytes : List ℕ) (asked : Task) (items : List Item) → databases ≡ length states
    → waiting.NoLine ≡ waiting_of asked → IsTask sessions databases bytes asked → Runs states new (record { bytes = bytes; task = asked } ∷ items) parts
    → (mid : List State) × LineServed sessions states totals bytes no_line_text mid totals × Runs mid new items parts
no_line_given sessions databases totals parts states new bytes task.NoLine items count same is runs = (
  states,
  line_of_none sessions states totals bytes no_line_text no_line (subst (λ (n : ℕ). Reads n sessions bytes no_line) count is) (λ sittings. (refl, refl)),
  runs_without states new (record { bytes = bytes; task = task.NoLine }) items parts (λ place. refl) runs,
)
no_line_given sessions databases totals parts states new bytes _ items count same is runs = cc

pub gives_no_line : (sessions : ℕ) → (databases : ℕ) (totals : List Totals) (parts : List Part) → databases ≡ length parts → Gives sessions databases waiting.NoLine totals no_line_text totals parts parts
gives_no_line sessions databases totals parts count states new item items same is runs =
    no_line_given sessions databases totals parts states new item.bytes item.task items (count ∙ runs.parted) same is.0 runs

-- A REFUSED TEXT

-- its line
pub refused_line : (sessions : ℕ) → (databases : ℕ) (states : List State) (totals : List Totals) (place session : ℕ) (refusal : Refusal) (bytes name out : List ℕ) (own counted : Totals) → databases ≡ length states
    → length totals ≡ databases → own ≡ slice_index_or totals place own → name ≡ database_name place → Answered name own session (reply.Refused refusal) out counted
    → IsTask sessions databases bytes (task.Refuse place session refusal) → LineServed sessions states totals bytes out states (slice_set totals place counted)
refused_line sessions databases states totals place session refusal bytes name out own counted count each is_own is_name answered is =
    let within = names_one databases sessions bytes place session is.0 is.2 in
    line_unchanged sessions states totals place session bytes is.0 name out own counted (subst (λ (n : ℕ). Reads n sessions bytes (statement place session is.0)) count is.2) (omega (arith, within, count))
    (slice_get_read totals databases place own (sym each) within is_own) is_name
    (λ kept. answered kept kept is.0 (inr (is.1, is.3, ap reply.Refused is.4, refl)))

refused_given : (sessions : ℕ) → (databases : ℕ) (totals : List Totals) (parts : List Part) (states new : List State) (place session : ℕ) (refusal : Refusal) (bytes name out : List ℕ) (own counted : Totals)
    (asked : Task) (items : List Item) → databases ≡ length states → length totals ≡ databases → own ≡ slice_index_or totals place own → name ≡ database_name place
    → Answered name own session (reply.Refused refusal) out counted → waiting.Refused place session refusal ≡ waiting_of asked → IsTask sessions databases bytes asked
    → Runs states new (record { bytes = bytes; task = asked } ∷ items) parts → (mid : List State) × LineServed sessions states totals bytes out mid (slice_set totals place counted) × Runs mid new items parts
refused_given sessions databases totals parts states new place session refusal bytes name out own counted (task.Refuse place' session' refusal') items count each is_own is_name answered same is runs =
    let is_place : place' ≡ place = cc in
    let is_session : session' ≡ session = cc in
    let is_refusal : refusal' ≡ refusal = cc in
    let here = subst (λ (p : ℕ). IsTask sessions databases bytes (task.Refuse p session refusal)) is_place
    (subst (λ (s : ℕ). IsTask sessions databases bytes (task.Refuse place' s refusal)) is_session (subst (λ (r : Refusal). IsTask sessions databases bytes (task.Refuse place' session' r)) is_refusal is)) in (
      states,
      refused_line sessions databases states totals place session refusal bytes name out own counted count each is_own is_name answered here,
      runs_without states new (record { bytes = bytes; task = task.Refuse place' session' refusal' }) items parts (λ place. refl) runs,
    )
refused_given sessions databases totals parts states new place session refusal bytes name out own counted _ items count each is_own is_name answered same is runs = cc

pub gives_refused : (sessions : ℕ) → (databases : ℕ) (totals : List Totals) (parts : List Part) (place session : ℕ) (refusal : Refusal) (name out : List ℕ) (own counted : Totals) → databases ≡ length parts
    → length totals ≡ databases → own ≡ slice_index_or totals place own → name ≡ database_name place → Answered name own session (reply.Refused refusal) out counted
    → Gives sessions databases (waiting.Refused place session refusal) totals out (slice_set totals place counted) parts parts
gives_refused sessions databases totals parts place session refusal name out own counted count each is_own is_name answered states new item items same is runs =
    refused_given sessions databases totals parts states new place session refusal item.bytes name out own counted item.task items (count ∙ runs.parted) each is_own is_name answered same is.0 runs

-- A STATEMENT

asked_given : (sessions : ℕ) → (databases : ℕ) (totals : List Totals) (parts : List Part) (states new : List State) (place session : ℕ) (bytes name out : List ℕ) (own counted : Totals) (old left : Part) (answer : Reply)
    (asked : Task) (items : List Item) → databases ≡ length states → databases ≡ length parts → length totals ≡ databases → own ≡ slice_index_or totals place own → old ≡ slice_index_or parts place old
    → old.answers.items ≡ left.answers.items ++ answer ∷ [] → name ≡ database_name place → Answered name own session answer out counted → waiting.Asked place session ≡ waiting_of asked
    → IsTask sessions databases bytes asked → Runs states new (record { bytes = bytes; task = asked } ∷ items) parts
    → (mid : List State) × LineServed sessions states totals bytes out mid (slice_set totals place counted) × Runs mid new items (slice_set parts place left)
asked_given sessions databases totals parts states new place session bytes name out own counted old left answer (task.Statement place' session' asked) items count parted each is_own is_old popped is_name answered same is runs =
    let is_place : place' ≡ place = cc in
    let is_session : session' ≡ session = cc in
    let here = subst (λ (p : ℕ). IsTask sessions databases bytes (task.Statement p session asked)) is_place (subst (λ (s : ℕ). IsTask sessions databases bytes (task.Statement place' s asked)) is_session is) in
    let running = subst (λ (p : ℕ). Runs states new (record { bytes = bytes; task = task.Statement p session asked } ∷ items) parts) is_place
    (subst (λ (s : ℕ). Runs states new (record { bytes = bytes; task = task.Statement place' s asked } ∷ items) parts) is_session runs) in
    let within = names_one databases sessions bytes place session here.0 here.1 in
    let next = runs_next states new place session asked bytes items parts old left answer (slice_get_read parts databases place old parted within is_old) popped running in (
      slice_set states place next.mid,
      line_of_statement sessions states totals place session bytes here.0 name out next.before next.mid own counted (subst (λ (n : ℕ). Reads n sessions bytes (statement place session here.0)) count here.1) next.found
          (slice_get_read totals databases place own (sym each) within is_own) is_name (answered next.before next.mid here.0 (inl (asked, here.2, next.step))),
      next.runs,
    )
asked_given sessions databases totals parts states new place session bytes name out own counted old left answer _ items count parted each is_own is_old popped is_name answered same is runs = cc

pub gives_asked : (sessions : ℕ) → (databases : ℕ) (totals : List Totals) (parts : List Part) (place session : ℕ) (name out : List ℕ) (own counted : Totals) (old left : Part) (answer : Reply) → databases ≡ length parts
    → length totals ≡ databases → own ≡ slice_index_or totals place own → old ≡ slice_index_or parts place old → old.answers.items ≡ left.answers.items ++ answer ∷ [] → name ≡ database_name place
    → Answered name own session answer out counted → Gives sessions databases (waiting.Asked place session) totals out (slice_set totals place counted) parts (slice_set parts place left)
gives_asked sessions databases totals parts place session name out own counted old left answer parted each is_own is_old popped is_name answered states new item items same is runs =
    asked_given sessions databases totals parts states new place session item.bytes name out own counted old left answer item.task items (parted ∙ runs.parted) parted each is_own is_old popped is_name answered same is.0 runs

-- each line has its reply
none_given : (sessions : ℕ) → (databases : ℕ) (parts : List Part) (states new : List State) (place session : ℕ) (bytes : List ℕ) (old : Part) (asked : Task) (items : List Item) → databases ≡ length parts
    → old ≡ slice_index_or parts place old → old.answers.items ≡ [] → waiting.Asked place session ≡ waiting_of asked → IsTask sessions databases bytes asked
    → Runs states new (record { bytes = bytes; task = asked } ∷ items) parts → ⊥
none_given sessions databases parts states new place session bytes old (task.Statement place' session' asked) items parted is_old none same is runs =
    let is_place : place' ≡ place = cc in
    let within = names_one databases sessions bytes place' session' is.0 is.1 in
    let running = subst (λ (p : ℕ). Runs states new (record { bytes = bytes; task = task.Statement p session' asked } ∷ items) parts) is_place runs in
    runs_some states new place session' asked bytes items parts old (slice_get_read parts databases place old parted (subst (λ (p : ℕ). p < databases) is_place within) is_old) none running
none_given sessions databases parts states new place session bytes old _ items parted is_old none same is runs = cc

pub gives_none : (sessions : ℕ) → (databases : ℕ) (totals counted : List Totals) (parts lefts : List Part) (place session : ℕ) (out : List ℕ) (old : Part) → databases ≡ length parts → old ≡ slice_index_or parts place old
    → old.answers.items ≡ [] → Gives sessions databases (waiting.Asked place session) totals out counted parts lefts
gives_none sessions databases totals counted parts lefts place session out old parted is_old none states new item items same is runs =
    absurd (none_given sessions databases parts states new place session item.bytes old item.task items parted is_old none same is.0 runs)

-- ALL WAITING LINES

-- some lines have got their replies, and the others wait
pub record Given (sessions : ℕ) (databases : ℕ) (states new : List State) (totals counted : List Totals) (items : List Item) (left : List Waiting) (parts : List Part) (out : List ℕ) : Type 0 where
  pub done : List Item
  pub rest : List Item
  pub mid : List State
  pub whole : items ≡ done ++ rest
  pub waits : left ≡ map (λ (i : Item). waiting_of i.task) rest
  pub are : AllByRecursion (IsItem sessions databases) rest
  pub served : LinesServed sessions states totals (map (λ (i : Item). i.bytes) done) out mid counted
  pub runs : Runs mid new rest parts

pub given_none : (sessions : ℕ) → (databases : ℕ) (states new : List State) (totals : List Totals) (items : List Item) (waits : List Waiting) (parts : List Part) → waits ≡ map (λ (i : Item). waiting_of i.task) items
    → AllByRecursion (IsItem sessions databases) items → Runs states new items parts → Given sessions databases states new totals totals items waits parts []
given_none sessions databases states new totals items waits parts is are runs = record {
  done = [];
  rest = items;
  mid = states;
  whole = refl;
  waits = is;
  are = are;
  served = lines_none sessions states totals;
  runs = runs;
}

given_step : (sessions : ℕ) → (databases : ℕ) (states new mid : List State) (totals between counted : List Totals) (items done rest : List Item) (waiting : Waiting) (waits : List Waiting) (parts left : List Part) (out first : List ℕ)
    → items ≡ done ++ rest → waiting ∷ waits ≡ map (λ (i : Item). waiting_of i.task) rest → AllByRecursion (IsItem sessions databases) rest
    → LinesServed sessions states totals (map (λ (i : Item). i.bytes) done) out mid between → Runs mid new rest parts → Gives sessions databases waiting between first counted parts left
    → Given sessions databases states new totals counted items waits left (out ++ first)
given_step sessions databases states new mid totals between counted items done [] waiting waits parts left out first whole is are served runs gives = cc
given_step sessions databases states new mid totals between counted items done (item ∷ rest) waiting waits parts left out first whole is are served runs gives =
    let head : waiting ≡ waiting_of item.task = cc in
    let tail : waits ≡ map (λ (i : Item). waiting_of i.task) rest = cc in
    let given = gives mid new item rest head are.0 runs in
    record {
      done = done ++ item ∷ [];
      rest = rest;
      mid = given.0;
      whole = whole ∙ sym (append_assoc done (item ∷ []) rest);
      waits = tail;
      are = are.1;
      served = subst (λ (ls : List (List ℕ)). LinesServed sessions states totals ls (out ++ first) given.0 counted) (sym (map_push (λ (i : Item). i.bytes) done item))
          (lines_more sessions states mid given.0 totals between counted (map (λ (i : Item). i.bytes) done) item.bytes out first served given.1);
      runs = given.2;
    }

pub given_more : (sessions : ℕ) → (databases : ℕ) (states new : List State) (totals between counted : List Totals) (items : List Item) (waiting : Waiting) (all waits : List Waiting) (parts left : List Part) (out first : List ℕ)
    → all ≡ waiting ∷ waits → Gives sessions databases waiting between first counted parts left → Given sessions databases states new totals between items all parts out
    → Given sessions databases states new totals counted items waits left (out ++ first)
given_more sessions databases states new totals between counted items waiting all waits parts left out first is gives so_far =
    given_step sessions databases states new so_far.mid totals between counted items so_far.done so_far.rest waiting waits parts left out first so_far.whole (sym is ∙ so_far.waits) so_far.are so_far.served so_far.runs gives

none_left : (items : List Item) → [] ≡ map (λ (i : Item). waiting_of i.task) items → items ≡ []
none_left [] is = refl
none_left (item ∷ items) is = cc

pub given_all : (sessions : ℕ) → (databases : ℕ) (states new : List State) (totals counted : List Totals) (items : List Item) (waits : List Waiting) (parts : List Part) (out : List ℕ) → waits ≡ []
    → Given sessions databases states new totals counted items waits parts out → LinesServed sessions states totals (map (λ (i : Item). i.bytes) items) out new counted
given_all sessions databases states new totals counted items waits parts out none given =
    let over : given.rest ≡ [] = none_left given.rest (sym none ∙ given.waits) in
    let all : given.done ≡ items = sym (given.whole ∙ ap (λ (is : List Item). given.done ++ is) over ∙ append-nil given.done) in
    let end : given.mid ≡ new = runs_end given.mid new parts (subst (λ (is : List Item). Runs given.mid new is parts) over given.runs) in
    subst (λ (is : List Item). LinesServed sessions states totals (map (λ (i : Item). i.bytes) is) out new counted) all
    (subst (λ (s : List State). LinesServed sessions states totals (map (λ (i : Item). i.bytes) given.done) out s counted) end given.served)
