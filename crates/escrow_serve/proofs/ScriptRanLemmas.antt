-- What the lines of a script gave each database, from the first line to the last that was served.
use Rattle.std.specs.Prelude.{◌≡◌, ℕ, ◌+◌, ◌<◌, ◌≤◌, Bool, true, false, Option, Some, None, Result, Ok, Err, IfSome, IsOk, IsErrAnd, List, [], ◌∷◌, ◌++◌, length, map, take, drop}
use Rattle.std.specs.Io.KnownBytes.{Appends}
use Rattle.std.proofs.Common.{refl, sym, ap, subst, ◌∙◌, append_assoc}
use Rattle.std.proofs.lemmas.Bool.{false≢true}
use Rattle.std.proofs.lemmas.List.{append-nil, take-append-drop}
use Rattle.std.proofs.lemmas.Option.{slice_get_within}
use Rattle.sqlite_trees.specs.declared.store.Store.{Ghosts}
use Rattle.escrow_machine.specs.declared.event.Event.{Event}
use Rattle.escrow_machine.specs.declared.reply.Reply.{Reply}
use Rattle.escrow_core.specs.Database.{Database}
use Rattle.escrow_script.specs.declared.fault.ServeFault.{ServeFault}
use Rattle.escrow_script.specs.declared.limits.TheConstants.{MAX_LINE}
use Rattle.escrow_script.specs.Line.{lines_of}
use Rattle.escrow_script.specs.Script.{TakesLine, left}
use Rattle.escrow_script.specs.Written.{Leaves}
use Rattle.escrow_script.proofs.TakenLemmas.{kept_line, Rests, rests_at_start}
use Rattle.escrow_script.proofs.WrittenLemmas.{appends_more, appends_none}
use Rattle.escrow_serve.specs.Asked.{Given, GivesLines, events_at, answers_at}
use Rattle.escrow_serve.specs.Batch.{GathersLines, Item, TakesLines}
use Rattle.escrow_serve.specs.Ran.{Ran, EachRan, LeftBy, LineRan, LinesRan, ScriptRan}
use Rattle.escrow_serve.specs.Task.{IsTask}
use Rattle.escrow_serve.specs.declared.part.Part.{Part}
use Rattle.escrow_serve.specs.declared.task.Task.{Task}
use Rattle.escrow_serve.specs.declared.waiting.Waiting.{Waiting}
use Rattle.escrow_serve.proofs.Elements.{get_within}
use Rattle.escrow_serve.proofs.LineRanLemmas.{answers_then, each_none, events_then, gives_then}
use Rattle.escrow_serve.proofs.LinesLemmas.{nexts_of, AreKept}
use Rattle.escrow_serve.proofs.RanLemmas.{ran_then}

-- EACH DATABASE

each_ran_then : {S : Type 0} (g : Ghosts S) (olds mids news : List (Database S)) (given more : List Given) → length mids ≡ length olds → EachRan g olds given mids → EachRan g mids more news
    → EachRan g olds (given ++ more) news
each_ran_then g olds mids news given more count one two = λ place old new found there.
    let mid = get_within mids place (subst (λ (n : ℕ). place < n) (sym count) (slice_get_within olds place old found)) in
    subst (λ (es : List Event). Ran g old es (answers_at place (given ++ more)) new) (sym (events_then place given more))
    (subst (λ (rs : List Reply). Ran g old (events_at place given ++ events_at place more) rs new) (sym (answers_then place given more))
    (ran_then g old mid.0 new (events_at place given) (events_at place more) (answers_at place given) (answers_at place more) (one place old mid.0 found mid.1) (two place mid.0 new mid.1 there)))

-- WHAT LINES GIVE

-- what the kept part of lines gives, the lines give
pub gives_kept : (databases sessions : ℕ) (lines kept : List (List ℕ)) (given : List Given) (out : List ℕ) → AreKept lines kept → GivesLines databases sessions kept given out
    → GivesLines databases sessions lines given out
gives_kept databases sessions [] [] given out are gives = gives
gives_kept databases sessions [] (k ∷ kept) given out are gives = absurd are
gives_kept databases sessions (l ∷ lines) [] given out are gives = absurd are
gives_kept databases sessions (l ∷ lines) (k ∷ kept) given out are h =
    (h.0, kept_line databases sessions l k h.0 are.0 h.1, h.2, h.3, h.4, h.5, h.6, gives_kept databases sessions lines kept h.3 h.5 are.1 h.7, h.8, h.9)

-- LINES RAN

lines_ran_none : {S : Type 0} (g : Ghosts S) (sessions : ℕ) (databases : List (Database S)) → LinesRan g sessions databases [] [] databases
lines_ran_none g sessions databases = ([], (refl, refl), each_none g databases)

pub line_ran : {S : Type 0} (g : Ghosts S) (sessions : ℕ) (olds news : List (Database S)) (line out : List ℕ) → LineRan g sessions olds line out news → LinesRan g sessions olds (line ∷ []) out news
line_ran g sessions olds news line out h =
    (h.2, (h.0, h.1, h.2, [], out, [], h.3, (refl, refl), sym (append-nil h.2), sym (append-nil out)), h.4)

lines_ran_kept : {S : Type 0} (g : Ghosts S) (sessions : ℕ) (olds news : List (Database S)) (lines kept : List (List ℕ)) (out : List ℕ) → AreKept lines kept → LinesRan g sessions olds kept out news
    → LinesRan g sessions olds lines out news
lines_ran_kept g sessions olds news lines kept out are h = (h.0, gives_kept (length olds) sessions lines kept h.0 out are h.1, h.2)

lines_ran_then : {S : Type 0} (g : Ghosts S) (sessions : ℕ) (olds mids news : List (Database S)) (lines more : List (List ℕ)) (out first : List ℕ) → length mids ≡ length olds
    → LinesRan g sessions olds lines out mids → LinesRan g sessions mids more first news → LinesRan g sessions olds (lines ++ more) (out ++ first) news
lines_ran_then g sessions olds mids news lines more out first count one two =
    let gives = subst (λ (n : ℕ). GivesLines n sessions more two.0 first) count two.1 in
    (one.0 ++ two.0, gives_then (length olds) sessions lines more one.0 two.0 out first one.1 gives, each_ran_then g olds mids news one.0 two.0 count one.2 two.2)

-- the lines that waited were served, if there is no other line
pub hand_ran : {S : Type 0} (g : Ghosts S) (sessions databases : ℕ) (first unread rest : List ℕ) (waits : List Waiting) (parts : List Part) (olds news : List (Database S)) (out : List ℕ)
    → (so_far : GathersLines sessions databases first unread rest waits parts None) → LinesRan g sessions olds (map (λ (i : Item). i.bytes) so_far.items) out news
    → LinesRan g sessions olds (first ∷ so_far.lines) out news
hand_ran g sessions databases first unread rest waits parts olds news out so_far ran =
    let all : first ∷ so_far.lines ≡ map (λ (i : Item). i.bytes) so_far.items =
    so_far.whole ∙ ap (λ (ls : List (List ℕ)). map (λ (i : Item). i.bytes) so_far.items ++ ls) so_far.is_last ∙ append-nil (map (λ (i : Item). i.bytes) so_far.items) in
    subst (λ (ls : List (List ℕ)). LinesRan g sessions olds ls out news) (sym all) ran

-- and then the one that may not wait with them
pub hand_ran_and_one : {S : Type 0} (g : Ghosts S) (sessions databases : ℕ) (first unread rest : List ℕ) (waits : List Waiting) (parts : List Part) (asked : Task) (olds mids news : List (Database S)) (out more : List ℕ)
    → (so_far : GathersLines sessions databases first unread rest waits parts (Some asked)) → length mids ≡ length olds → LinesRan g sessions olds (map (λ (i : Item). i.bytes) so_far.items) out mids
    → ((bytes : List ℕ) → IsTask sessions databases bytes asked → LineRan g sessions mids bytes more news) → LinesRan g sessions olds (first ∷ so_far.lines) (out ++ more) news
hand_ran_and_one g sessions databases first unread rest waits parts asked olds mids news out more so_far count ran one =
    let last = so_far.is_last in
    let all : first ∷ so_far.lines ≡ map (λ (i : Item). i.bytes) so_far.items ++ last.0 ∷ [] =
    so_far.whole ∙ ap (λ (ls : List (List ℕ)). map (λ (i : Item). i.bytes) so_far.items ++ ls) last.1 in
    subst (λ (ls : List (List ℕ)). LinesRan g sessions olds ls (out ++ more) news) (sym all)
    (lines_ran_then g sessions olds mids news (map (λ (i : Item). i.bytes) so_far.items) (last.0 ∷ []) out more count ran (line_ran g sessions mids news last.0 more (one last.0 last.2)))

-- A SCRIPT

-- Some lines of a script were served, each database by itself. Their output was written, except for what is gathered.
pub record Played (sessions : ℕ) {S : Type 0} (g : Ghosts S) (olds news : List (Database S)) (script rest old_bytes new_bytes : Option (List ℕ)) (gathered : List ℕ) : Type 0 where
  pub served : List (List ℕ)
  pub written : List ℕ
  pub ran : LinesRan g sessions olds served (written ++ gathered) news
  pub count : length news ≡ length olds
  pub appends : Appends old_bytes new_bytes written
  pub rests : Rests served script rest

-- nothing is read, and nothing is gathered
pub played_begun : (sessions : ℕ) {S : Type 0} (g : Ghosts S) (databases : List (Database S)) (script bytes : Option (List ℕ)) (unread gathered : List ℕ) → unread ≡ [] → gathered ≡ []
    → Played sessions g databases databases script (left unread script) bytes bytes gathered
played_begun sessions g databases script bytes unread gathered none_unread none_gathered = record {
  served = [];
  written = [];
  ran = subst (λ (o : List ℕ). LinesRan g sessions databases [] o databases) (sym none_gathered) (lines_ran_none g sessions databases);
  count = refl;
  appends = appends_none bytes;
  rests = subst (λ (u : List ℕ). Rests [] script (left u script)) (sym none_unread) (rests_at_start script);
}

-- lines that were taken in order are served, and their output is gathered
played_more : (sessions : ℕ) {S : Type 0} (g : Ghosts S) (olds mids news : List (Database S)) (script rest new_rest old_bytes new_bytes : Option (List ℕ)) (kept : List (List ℕ)) (gathered first : List ℕ)
    → TakesLines kept rest new_rest → LinesRan g sessions mids kept first news → length news ≡ length mids → Played sessions g olds mids script rest old_bytes new_bytes gathered
    → Played sessions g olds news script new_rest old_bytes new_bytes (gathered ++ first)
played_more sessions g olds mids news script rest new_rest old_bytes new_bytes kept gathered first taken ran count played =
    let next = nexts_of script rest new_rest kept played.served taken played.rests in
    let whole = lines_ran_then g sessions olds mids news played.served next.lines (played.written ++ gathered) first played.count played.ran
    (lines_ran_kept g sessions mids news next.lines kept first next.are_kept ran) in
    record {
      served = played.served ++ next.lines;
      written = played.written;
      ran = subst (λ (o : List ℕ). LinesRan g sessions olds (played.served ++ next.lines) o news) (append_assoc played.written gathered first) whole;
      count = count ∙ played.count;
      appends = played.appends;
      rests = next.rests;
    }

-- so they are after a line that was taken with them
pub played_turn : (sessions : ℕ) {S : Type 0} (g : Ghosts S) (found : Bool) (kept first : List ℕ) (lines : List (List ℕ)) (olds mids news : List (Database S))
    (script rest mid_rest new_rest old_bytes new_bytes now_bytes : Option (List ℕ)) (gathered held all : List ℕ) → found ≡ true → length kept ≤ MAX_LINE + 1 → TakesLine found rest mid_rest kept
    → TakesLines lines mid_rest new_rest → LinesRan g sessions mids (kept ∷ lines) first news → length news ≡ length mids → now_bytes ≡ new_bytes → held ≡ gathered → all ≡ held ++ first
    → Played sessions g olds mids script rest old_bytes new_bytes gathered → Played sessions g olds news script new_rest old_bytes now_bytes all
played_turn sessions g found kept first lines olds mids news script rest mid_rest new_rest old_bytes new_bytes now_bytes gathered held all is_true short taken more ran count is_now is_held is_all played =
    let takes : TakesLines (kept ∷ lines) rest new_rest = (mid_rest, short, subst (λ (f : Bool). TakesLine f rest mid_rest kept) is_true taken, more) in
    let whole : all ≡ gathered ++ first = is_all ∙ ap (λ (l : List ℕ). l ++ first) is_held in
    subst (λ (b : Option (List ℕ)). Played sessions g olds news script new_rest old_bytes b all) (sym is_now)
    (subst (λ (a : List ℕ). Played sessions g olds news script new_rest old_bytes new_bytes a) (sym whole)
    (played_more sessions g olds mids news script rest new_rest old_bytes new_bytes (kept ∷ lines) gathered first takes ran count played))

-- a prefix of the gathered output is written
played_in_front : (sessions : ℕ) {S : Type 0} (g : Ghosts S) (olds news : List (Database S)) (script rest old_bytes mid_bytes new_bytes : Option (List ℕ)) (front back : List ℕ)
    → Played sessions g olds news script rest old_bytes mid_bytes (front ++ back) → Appends mid_bytes new_bytes front → Played sessions g olds news script rest old_bytes new_bytes back
played_in_front sessions g olds news script rest old_bytes mid_bytes new_bytes front back played wrote = record {
  served = played.served;
  written = played.written ++ front;
  ran = subst (λ (o : List ℕ). LinesRan g sessions olds played.served o news) (sym (append_assoc played.written front back)) played.ran;
  count = played.count;
  appends = appends_more old_bytes mid_bytes new_bytes played.written front played.appends wrote;
  rests = played.rests;
}

-- all of it is written
pub played_written : (sessions : ℕ) {S : Type 0} (g : Ghosts S) (olds news : List (Database S)) (script rest old_bytes mid_bytes new_bytes : Option (List ℕ)) (gathered left_over : List ℕ)
    → Played sessions g olds news script rest old_bytes mid_bytes gathered → Appends mid_bytes new_bytes gathered → left_over ≡ []
    → Played sessions g olds news script rest old_bytes new_bytes left_over
played_written sessions g olds news script rest old_bytes mid_bytes new_bytes gathered left_over played wrote none =
    let whole : gathered ≡ gathered ++ left_over = sym (append-nil gathered) ∙ ap (λ (l : List ℕ). gathered ++ l) (sym none) in
    played_in_front sessions g olds news script rest old_bytes mid_bytes new_bytes gathered left_over
    (subst (λ (l : List ℕ). Played sessions g olds news script rest old_bytes mid_bytes l) whole played) wrote

-- THE END OF A SCRIPT

left_at_end : (result : Result (Unit {0}) ServeFault) → IsOk result → LeftBy result [] []
left_at_end (Ok done) is = (refl, refl)
left_at_end (Err fault) is = absurd (false≢true is)

left_at : (result : Result (Unit {0}) ServeFault) (why : ServeFault) (unserved : List (List ℕ)) (unwritten : List ℕ) → IsErrAnd result (λ e. e ≡ why) → Leaves why unwritten → LeftBy result unserved unwritten
left_at (Ok done) why unserved unwritten is leaves = absurd is
left_at (Err fault) why unserved unwritten is leaves = subst (λ (f : ServeFault). Leaves f unwritten) (sym is) leaves

-- a fault
ran_to_fault : (sessions : ℕ) {S : Type 0} (g : Ghosts S) (olds news : List (Database S)) (script rest old_bytes new_bytes : Option (List ℕ)) (gathered : List ℕ) (result : Result (Unit {0}) ServeFault)
    (why : ServeFault) → IsErrAnd result (λ e. e ≡ why) → Leaves why gathered → Played sessions g olds news script rest old_bytes new_bytes gathered
    → IfSome script (λ bytes. ScriptRan g sessions bytes olds news old_bytes new_bytes (LeftBy result))
ran_to_fault sessions g olds news None rest old_bytes new_bytes gathered result why failed leaves played = tt
ran_to_fault sessions g olds news (Some bytes) None old_bytes new_bytes gathered result why failed leaves played = absurd played.rests
ran_to_fault sessions g olds news (Some bytes) (Some rest) old_bytes new_bytes gathered result why failed leaves played = record {
  served = played.served;
  unserved = lines_of rest;
  written = played.written;
  unwritten = gathered;
  lines = played.rests;
  ran = played.ran;
  as_many = played.count;
  appends = played.appends;
  left = left_at result why (lines_of rest) gathered failed leaves;
}

-- a fault before the first line
pub ran_to_no_line : (sessions : ℕ) {S : Type 0} (g : Ghosts S) (databases : List (Database S)) (script bytes : Option (List ℕ)) (result : Result (Unit {0}) ServeFault) (why : ServeFault)
    → IsErrAnd result (λ e. e ≡ why) → Leaves why [] → IfSome script (λ lines. ScriptRan g sessions lines databases databases bytes bytes (LeftBy result))
ran_to_no_line sessions g databases script bytes result why failed leaves =
    ran_to_fault sessions g databases databases script (left [] script) bytes bytes [] result why failed leaves (played_begun sessions g databases script bytes [] [] refl refl)

-- a fault after a prefix of the gathered output was written
pub ran_to_write : (sessions : ℕ) {S : Type 0} (g : Ghosts S) (olds news : List (Database S)) (script rest old_bytes mid_bytes new_bytes : Option (List ℕ)) (gathered : List ℕ) (len : ℕ)
    (result : Result (Unit {0}) ServeFault) (why : ServeFault) → IsErrAnd result (λ e. e ≡ why) → Leaves why (drop len gathered) → Played sessions g olds news script rest old_bytes mid_bytes gathered
    → Appends mid_bytes new_bytes (take len gathered) → IfSome script (λ bytes. ScriptRan g sessions bytes olds news old_bytes new_bytes (LeftBy result))
ran_to_write sessions g olds news script rest old_bytes mid_bytes new_bytes gathered len result why failed leaves played wrote =
    let parted = subst (λ (l : List ℕ). Played sessions g olds news script rest old_bytes mid_bytes l) (sym (take-append-drop len gathered)) played in
    ran_to_fault sessions g olds news script rest old_bytes new_bytes (drop len gathered) result why failed leaves
    (played_in_front sessions g olds news script rest old_bytes mid_bytes new_bytes (take len gathered) (drop len gathered) parted wrote)

-- all of its lines were served, and all output was written
pub ran_to_end : (sessions : ℕ) {S : Type 0} (g : Ghosts S) (olds news : List (Database S)) (script rest more old_bytes new_bytes now_bytes : Option (List ℕ)) (found : Bool) (kept gathered : List ℕ)
    (result : Result (Unit {0}) ServeFault) → IsOk result → found ≡ false → TakesLine found rest more kept → gathered ≡ [] → now_bytes ≡ new_bytes
    → Played sessions g olds news script rest old_bytes new_bytes gathered → IfSome script (λ bytes. ScriptRan g sessions bytes olds news old_bytes now_bytes (LeftBy result))
ran_to_end sessions g olds news None rest more old_bytes new_bytes now_bytes found kept gathered result is_ok is_false taken none is_now played = tt
ran_to_end sessions g olds news (Some bytes) None more old_bytes new_bytes now_bytes found kept gathered result is_ok is_false taken none is_now played = absurd played.rests
ran_to_end sessions g olds news (Some bytes) (Some rest) None old_bytes new_bytes now_bytes found kept gathered result is_ok is_false taken none is_now played = absurd taken
ran_to_end sessions g olds news (Some bytes) (Some rest) (Some more) old_bytes new_bytes now_bytes found kept gathered result is_ok is_false taken none is_now played =
    let over = subst (λ (f : Bool). TakesLine f (Some rest) (Some more) kept) is_false taken in
    record {
      served = played.served;
      unserved = [];
      written = played.written;
      unwritten = [];
      lines = played.rests ∙ ap (λ (ls : List (List ℕ)). played.served ++ ls) over.0;
      ran = subst (λ (l : List ℕ). LinesRan g sessions olds played.served (played.written ++ l) news) none played.ran;
      as_many = played.count;
      appends = subst (λ (b : Option (List ℕ)). Appends old_bytes b played.written) (sym is_now) played.appends;
      left = left_at_end result is_ok;
    }
