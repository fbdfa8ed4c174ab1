-- Lines that are served one by one.
use Rattle.std.proofs.Common.{◌≡◌, ◌⊎◌, ℕ, ◌+◌, ◌-◌, ◌^◌, ◌<◌, ◌≤◌, List, [], ◌∷◌, ◌++◌, length, map, take, drop, Option, Some, None, arith, refl, sym, ap, subst, ◌∙◌, append_assoc, inl, inr, lit<, lit≤}
use Rattle.std.specs.Prelude.{◌==◌, slice_get, slice_index_or, slice_set, option_map, codes, decimal, IfSome, OnOk, Bool, true, false, Result, Ok, Err}
use Rattle.std.specs.Io.KnownBytes.{Appends, IsAtEnd}
use Rattle.std.specs.List.{AllByRecursion}
use Rattle.std.proofs.lemmas.Bool.{cases_Bool}
use Rattle.std.proofs.lemmas.Fmt.{length-decimal-le}
use Rattle.std.proofs.lemmas.List.{append-nil, nil_from_length, take-append-drop, length-append, length-map, map-set}
use Rattle.std.proofs.lemmas.Option.{slice_get-get_or, slice_get-map, IfSome_then}
use Rattle.sqlite_trees.specs.declared.store.Store.{Ghosts}
use Rattle.escrow_num.specs.declared.refusal.Refusal.{Refusal}
use Rattle.escrow_machine.specs.declared.reply.Reply.{Reply}
use Rattle.escrow_machine.specs.Reply.{holds_memory, restart_reply}
use Rattle.escrow_core.specs.Database.{Database}
use Rattle.escrow_machine.specs.State.{State}
use Rattle.escrow_script.specs.declared.fault.ServeFault.{ServeFault}
use Rattle.escrow_machine.specs.Step as machine
use Rattle.escrow_machine.specs.declared.event.Event.TheVariants as event
use Rattle.escrow_script.specs.Line.{Reading, nothing, join, restart, statement, database_name, Reads, lines_of}
use Rattle.escrow_reply.specs.Text.{rendered_whole}
use Rattle.escrow_reply.specs.declared.short.TheConstants.{MAX_FRONT}
use Rattle.escrow_script.specs.Written.{Leaves}
use Rattle.escrow_serve.specs.Output.{Sitting, begun, state_in, states_of, HaveCleanDisks, ServesLines, WritesLines, ServesAll, ServesWhole, StopsWithin}
use Rattle.escrow_script.proofs.LineLemmas.{names_one, restarts_one}
use Rattle.escrow_script.proofs.TakenLemmas.{Rests, rests_at_start, within_limit}
use Rattle.escrow_script.proofs.WrittenLemmas.{appends_more, appends_none}
use Rattle.escrow_serve.specs.declared.totals.Totals.{Totals}
use Rattle.escrow_serve.specs.Batch.{TakesLines}
use Rattle.escrow_serve.specs.Totals.{AreLeft, AreNone, AllSit, TextServed, LineServed, LinesServed}
use Rattle.escrow_serve.proofs.LinesLemmas.{kept_count, nexts_of, serves_behind, serves_kept}
use Rattle.escrow_serve.proofs.TotalsLemmas.{all_begun, all_states, line_of_none, line_of_statement, line_of_restart}
use Rattle.escrow_script.specs.declared.limits.Limit.{Limit}
use Rattle.escrow_script.specs.declared.limits.Limit.TheVariants as limit
use Rattle.escrow_script.specs.declared.limits.TheConstants.{MAX_DATABASES, MAX_LINE, MAX_SCRIPT}
use Rattle.escrow_script.specs.Script.{most_bytes, HasEnded, TakesLine, Spends, left}

-- databases, as contracts show them
abbrev pub Databases : Type 0 → Type 0
Databases S = List (Database S)

-- The progress of a script: some of its lines were served, with these states and totals. Their output was written,
-- except for what is buffered. There were no more lines than bytes read.
pub record Stood (sessions : ℕ) (states new : List State) (totals : List Totals) (script rest old_bytes new_bytes : Option (List ℕ)) (gathered : List ℕ) (budget : ℕ) : Type 0 where
  pub served : List (List ℕ)
  pub written : List ℕ
  pub sittings : List Sitting
  pub serves : ServesLines sessions (map begun states) served (written ++ gathered) sittings
  pub sit : AllSit new totals sittings (length served)
  pub few : length served + budget ≤ 2 ^ 64 - 1
  pub appends : Appends old_bytes new_bytes written
  pub rests : Rests served script rest

-- no line is served: the states are those at the beginning
states_begun : (states : List State) → states ≡ map (λ (sitting : Sitting). sitting.state) (map begun states)
states_begun [] = refl
states_begun (s ∷ states) = ap (λ (ss : List State). s ∷ ss) (states_begun states)

-- a fault before the first line
pub stopped_unserved : (sessions : ℕ) → (why : ServeFault) (states : List State) (script : List ℕ) (old_bytes new_bytes : Option (List ℕ)) → Leaves why [] → Appends old_bytes new_bytes []
    → StopsWithin sessions why script states states old_bytes new_bytes
stopped_unserved sessions why states script old_bytes new_bytes leaves wrote = record {
  served = [];
  unserved = lines_of script;
  written = [];
  unwritten = [];
  lines = refl;
  serves = (map begun states, (refl, refl), states_begun states);
  appends = wrote;
  leaves = leaves;
}

pub stopped_at_start : (sessions : ℕ) → (why : ServeFault) (states : List State) (script bytes : Option (List ℕ)) → Leaves why [] → IfSome script (λ s. StopsWithin sessions why s states states bytes bytes)
stopped_at_start sessions why states None bytes leaves = tt
stopped_at_start sessions why states (Some script) bytes leaves = stopped_unserved sessions why states script bytes bytes leaves (appends_none bytes)

-- nothing is read, and nothing is buffered
stood_begun : (sessions : ℕ) → (states : List State) (totals : List Totals) (script bytes : Option (List ℕ)) (unread gathered : List ℕ) (left_bytes : ℕ) → length totals ≡ length states → AllByRecursion AreNone totals
    → unread ≡ [] → gathered ≡ [] → left_bytes ≤ 2 ^ 64 - 1 → Stood sessions states states totals script (left unread script) bytes bytes gathered (left_bytes + length unread)
stood_begun sessions states totals script bytes unread gathered left_bytes count are_none none_unread none_gathered all = record {
  served = [];
  written = [];
  sittings = map begun states;
  serves = (none_gathered, refl);
  sit = all_begun states totals count are_none;
  few = omega (arith, all, ap length none_unread);
  appends = appends_none bytes;
  rests = subst (λ (u : List ℕ). Rests [] script (left u script)) (sym none_unread) (rests_at_start script);
}

-- A batch of lines: the kept bytes of each line, the databases and totals before and after, and the lines' output, if
-- the stores can be used afterwards.
pub record Turn (sessions : ℕ) {S : Type 0} (g : Ghosts S) (mid new : Databases S) (totals counted : List Totals) (rest new_rest : Option (List ℕ)) (first : List ℕ) (budget less : ℕ) : Type 0 where
  pub lines : List (List ℕ)
  pub taken : TakesLines lines rest new_rest
  pub step : HaveCleanDisks g new → LinesServed sessions (states_of mid) totals lines first (states_of new) counted
  pub clean : HaveCleanDisks g new → HaveCleanDisks g mid
  pub spent : length lines + less ≤ budget

pub turn_of : (sessions : ℕ) → {S : Type 0} (g : Ghosts S) (found : Bool) (kept first : List ℕ) (lines : List (List ℕ)) (mid new : Databases S) (totals counted : List Totals) (rest mid_rest new_rest : Option (List ℕ))
    (budget between less : ℕ) → found ≡ true → length kept ≤ MAX_LINE + 1 → TakesLine found rest mid_rest kept → (found ≡ true → between < budget) → TakesLines lines mid_rest new_rest
    → length lines + less ≤ between → (HaveCleanDisks g new → LinesServed sessions (states_of mid) totals (kept ∷ lines) first (states_of new) counted) → (HaveCleanDisks g new → HaveCleanDisks g mid)
    → Turn sessions g mid new totals counted rest new_rest first budget less
turn_of sessions g found kept first lines mid new totals counted rest mid_rest new_rest budget between less is_true short taken spent more fewer step clean = record {
  lines = kept ∷ lines;
  taken = (mid_rest, short, subst (λ (f : Bool). TakesLine f rest mid_rest kept) is_true taken, more);
  step = step;
  clean = clean;
  spent = omega (arith, spent is_true, fewer);
}

-- The progress of a script in databases, in terms of their states, if their stores can be used.
pub record Stands (sessions : ℕ) {S : Type 0} (g : Ghosts S) (old new : Databases S) (totals : List Totals) (script rest old_bytes new_bytes : Option (List ℕ)) (gathered : List ℕ) (budget : ℕ) : Type 0 where
  pub stood : HaveCleanDisks g new → Stood sessions (states_of old) (states_of new) totals script rest old_bytes new_bytes gathered budget
  pub clean : HaveCleanDisks g new → HaveCleanDisks g old

pub stands_begun : (sessions : ℕ) → {S : Type 0} (g : Ghosts S) (databases : Databases S) (totals : List Totals) (script bytes : Option (List ℕ)) (unread gathered : List ℕ) (left_bytes : ℕ)
    → length totals ≡ length databases → AllByRecursion AreNone totals → unread ≡ [] → gathered ≡ [] → left_bytes ≤ 2 ^ 64 - 1
    → Stands sessions g databases databases totals script (left unread script) bytes bytes gathered (left_bytes + length unread)
stands_begun sessions g databases totals script bytes unread gathered left_bytes count are_none none_unread none_gathered all =
    let each : length totals ≡ length (states_of databases) = count ∙ sym (length-map databases state_in) in
    record { stood = λ _. stood_begun sessions (states_of databases) totals script bytes unread gathered left_bytes each are_none none_unread none_gathered all; clean = λ used. used }

-- lines that were taken in order are served, and their output is buffered
pub turn_stood : (sessions : ℕ) → (states mid new : List State) (totals counted : List Totals) (script rest new_rest old_bytes new_bytes : Option (List ℕ)) (lines : List (List ℕ)) (gathered first : List ℕ) (budget less : ℕ)
    → TakesLines lines rest new_rest → LinesServed sessions mid totals lines first new counted → length lines + less ≤ budget
    → Stood sessions states mid totals script rest old_bytes new_bytes gathered budget → Stood sessions states new counted script new_rest old_bytes new_bytes (gathered ++ first) less
turn_stood sessions states mid new totals counted script rest new_rest old_bytes new_bytes lines gathered first budget less taken step spent stood =
    let next = nexts_of script rest new_rest lines stood.served taken stood.rests in
    let served = step stood.sittings (length stood.served) stood.sit (omega (arith, stood.few, spent)) in
    let here = serves_kept sessions stood.sittings served.0 next.lines lines first next.are_kept served.1 in
    let whole = serves_behind sessions (map begun states) stood.sittings served.0 stood.served next.lines (stood.written ++ gathered) first stood.serves here in
    let count : length stood.served + length lines ≡ length (stood.served ++ next.lines) = omega (arith, length-append stood.served next.lines, kept_count next.lines lines next.are_kept) in
    record {
      served = stood.served ++ next.lines;
      written = stood.written;
      sittings = served.0;
      serves = subst (λ (o : List ℕ). ServesLines sessions (map begun states) (stood.served ++ next.lines) o served.0) (append_assoc stood.written gathered first) whole;
      sit = subst (λ (n : ℕ). AllSit new counted served.0 n) count served.2;
      few = omega (arith, stood.few, spent, count);
      appends = stood.appends;
      rests = next.rests;
    }

pub turn_served : (sessions : ℕ) → {S : Type 0} (g : Ghosts S) (old mid new : Databases S) (totals counted : List Totals) (script rest new_rest old_bytes new_bytes now_bytes : Option (List ℕ)) (gathered held first all : List ℕ) (budget less : ℕ)
    → Turn sessions g mid new totals counted rest new_rest first budget less → now_bytes ≡ new_bytes → held ≡ gathered → all ≡ held ++ first
    → Stands sessions g old mid totals script rest old_bytes new_bytes gathered budget → Stands sessions g old new counted script new_rest old_bytes now_bytes all less
turn_served sessions g old mid new totals counted script rest new_rest old_bytes new_bytes now_bytes gathered held first all budget less turn is_now is_held is_all stands =
    let whole : all ≡ gathered ++ first = is_all ∙ ap (λ (l : List ℕ). l ++ first) is_held in
    subst (λ (b : Option (List ℕ)). Stands sessions g old new counted script new_rest old_bytes b all less) (sym is_now)
    (subst (λ (a : List ℕ). Stands sessions g old new counted script new_rest old_bytes new_bytes a less) (sym whole)
    (record {
      stood = λ used. turn_stood sessions (states_of old) (states_of mid) (states_of new) totals counted script rest new_rest old_bytes new_bytes turn.lines gathered first budget less turn.taken
          (turn.step used) turn.spent (stands.stood (turn.clean used));
      clean = λ used. stands.clean (turn.clean used);
    }))

-- the buffered output is written
stood_written : (sessions : ℕ) → (states new : List State) (totals : List Totals) (script rest old_bytes mid_bytes new_bytes : Option (List ℕ)) (gathered left_over : List ℕ) (budget : ℕ)
    → Stood sessions states new totals script rest old_bytes mid_bytes gathered budget → Appends mid_bytes new_bytes gathered → left_over ≡ []
    → Stood sessions states new totals script rest old_bytes new_bytes left_over budget
stood_written sessions states new totals script rest old_bytes mid_bytes new_bytes gathered left_over budget stood wrote none =
    let whole : stood.written ++ gathered ≡ (stood.written ++ gathered) ++ left_over = sym (append-nil (stood.written ++ gathered)) ∙ ap (λ (l : List ℕ). (stood.written ++ gathered) ++ l) (sym none) in
    record {
      served = stood.served;
      written = stood.written ++ gathered;
      sittings = stood.sittings;
      serves = subst (λ (o : List ℕ). ServesLines sessions (map begun states) stood.served o stood.sittings) whole stood.serves;
      sit = stood.sit;
      few = stood.few;
      appends = appends_more old_bytes mid_bytes new_bytes stood.written gathered stood.appends wrote;
      rests = stood.rests;
    }

pub stands_written : (sessions : ℕ) → {S : Type 0} (g : Ghosts S) (old new : Databases S) (totals : List Totals) (script rest old_bytes mid_bytes new_bytes : Option (List ℕ)) (gathered left_over : List ℕ) (budget : ℕ)
    → Stands sessions g old new totals script rest old_bytes mid_bytes gathered budget → Appends mid_bytes new_bytes gathered → left_over ≡ []
    → Stands sessions g old new totals script rest old_bytes new_bytes left_over budget
stands_written sessions g old new totals script rest old_bytes mid_bytes new_bytes gathered left_over budget stands wrote none = record {
  stood = λ used. stood_written sessions (states_of old) (states_of new) totals script rest old_bytes mid_bytes new_bytes gathered left_over budget (stands.stood used) wrote none;
  clean = stands.clean;
}

-- the output of lines from some states to others
writes_stood : (sessions : ℕ) → (states new : List State) (totals : List Totals) (sittings : List Sitting) (lines : List (List ℕ)) (out : List ℕ) (most : ℕ)
    → ServesLines sessions (map begun states) lines out sittings → AllSit new totals sittings most → WritesLines sessions states lines out new
writes_stood sessions states new totals sittings lines out most serves sit = (sittings, serves, all_states new totals sittings most sit)

-- a fault that occurs before the buffered output is written
pub stopped : (sessions : ℕ) → (why : ServeFault) (states new : List State) (totals : List Totals) (script rest old_bytes new_bytes : Option (List ℕ)) (gathered : List ℕ) (budget : ℕ) → Leaves why gathered
    → Stood sessions states new totals script rest old_bytes new_bytes gathered budget → IfSome script (λ bytes. StopsWithin sessions why bytes states new old_bytes new_bytes)
stopped sessions why states new totals None rest old_bytes new_bytes gathered budget leaves stood = tt
stopped sessions why states new totals (Some bytes) None old_bytes new_bytes gathered budget leaves stood = absurd stood.rests
stopped sessions why states new totals (Some bytes) (Some rest) old_bytes new_bytes gathered budget leaves stood = record {
  served = stood.served;
  unserved = lines_of rest;
  written = stood.written;
  unwritten = gathered;
  lines = stood.rests;
  serves = writes_stood sessions states new totals stood.sittings stood.served (stood.written ++ gathered) (length stood.served) stood.serves stood.sit;
  appends = stood.appends;
  leaves = leaves;
}

-- a prefix of the buffered output is written
stood_in_front : (sessions : ℕ) → (states new : List State) (totals : List Totals) (script rest old_bytes mid_bytes new_bytes : Option (List ℕ)) (front back : List ℕ) (budget : ℕ)
    → Stood sessions states new totals script rest old_bytes mid_bytes (front ++ back) budget → Appends mid_bytes new_bytes front → Stood sessions states new totals script rest old_bytes new_bytes back budget
stood_in_front sessions states new totals script rest old_bytes mid_bytes new_bytes front back budget stood wrote = record {
  served = stood.served;
  written = stood.written ++ front;
  sittings = stood.sittings;
  serves = subst (λ (o : List ℕ). ServesLines sessions (map begun states) stood.served o stood.sittings) (sym (append_assoc stood.written front back)) stood.serves;
  sit = stood.sit;
  few = stood.few;
  appends = appends_more old_bytes mid_bytes new_bytes stood.written front stood.appends wrote;
  rests = stood.rests;
}

-- a fault of the writer, which took a prefix of the buffered output
pub stopped_writing : (sessions : ℕ) → (why : ServeFault) (states new : List State) (totals : List Totals) (script rest old_bytes mid_bytes new_bytes : Option (List ℕ)) (gathered : List ℕ) (len budget : ℕ)
    → Leaves why (drop len gathered) → Stood sessions states new totals script rest old_bytes mid_bytes gathered budget → Appends mid_bytes new_bytes (take len gathered)
    → IfSome script (λ bytes. StopsWithin sessions why bytes states new old_bytes new_bytes)
stopped_writing sessions why states new totals script rest old_bytes mid_bytes new_bytes gathered len budget leaves stood wrote =
    let whole : gathered ≡ take len gathered ++ drop len gathered = sym (take-append-drop len gathered) in
    let parted = subst (λ (g : List ℕ). Stood sessions states new totals script rest old_bytes mid_bytes g budget) whole stood in
    stopped sessions why states new totals script rest old_bytes new_bytes (drop len gathered) budget leaves
    (stood_in_front sessions states new totals script rest old_bytes mid_bytes new_bytes (take len gathered) (drop len gathered) budget parted wrote)

-- all of its lines are served
stood_at_end : (sessions : ℕ) → (states new : List State) (totals : List Totals) (bytes : List ℕ) (rest more remaining old_bytes new_bytes : Option (List ℕ)) (kept : List ℕ) (most now budget : ℕ)
    → Stood sessions states new totals (Some bytes) rest old_bytes new_bytes [] budget → TakesLine false rest more kept → Spends (Some bytes) remaining most now → IsAtEnd remaining
    → (length bytes ≤ most) × ServesAll sessions bytes states new old_bytes new_bytes
stood_at_end sessions states new totals bytes None more remaining old_bytes new_bytes kept most now budget stood taken spends at_end = absurd stood.rests
stood_at_end sessions states new totals bytes (Some rest) None remaining old_bytes new_bytes kept most now budget stood taken spends at_end = absurd taken
stood_at_end sessions states new totals bytes (Some rest) (Some more) remaining old_bytes new_bytes kept most now budget stood taken spends at_end =
    let all : stood.served ≡ lines_of bytes = sym (stood.rests ∙ ap (λ (ls : List (List ℕ)). stood.served ++ ls) taken.0 ∙ append-nil stood.served) in (
      within_limit bytes remaining most now spends at_end,
      record {
        out = stood.written;
        output = subst (λ (ls : List (List ℕ)). WritesLines sessions states ls stood.written new) all
            (subst (λ (o : List ℕ). WritesLines sessions states stood.served o new) (append-nil stood.written)
            (writes_stood sessions states new totals stood.sittings stood.served (stood.written ++ []) (length stood.served) stood.serves stood.sit));
        appends = stood.appends;
      },
    )

pub finished : (sessions : ℕ) → (states new : List State) (totals : List Totals) (script rest remaining old_bytes new_bytes : Option (List ℕ)) (found : Bool) (kept unread : List ℕ) (most now budget : ℕ) → found ≡ false
    → TakesLine found rest (left unread remaining) kept → Stood sessions states new totals script rest old_bytes new_bytes [] budget → Spends script remaining most now → IfSome script (λ bytes. IsAtEnd remaining)
    → IfSome script (λ bytes. (length bytes ≤ most) × ServesAll sessions bytes states new old_bytes new_bytes)
finished sessions states new totals None rest remaining old_bytes new_bytes found kept unread most now budget is_false taken stood spends at_end = tt
finished sessions states new totals (Some bytes) rest remaining old_bytes new_bytes found kept unread most now budget is_false taken stood spends at_end =
    let none = subst (λ (f : Bool). TakesLine f rest (left unread remaining) kept) is_false taken in
    stood_at_end sessions states new totals bytes rest (left unread remaining) remaining old_bytes new_bytes kept most now budget stood none spends at_end

-- if the reader is at its end and the lines in hand were taken, nothing remains
pub still_ended : (old new : Bool) (unread rest : List ℕ) (remaining : Option (List ℕ)) (count : ℕ) → new ≡ old → count + length rest ≤ length unread → (old ≡ true → HasEnded unread remaining)
    → new ≡ true → HasEnded rest remaining
still_ended old new unread rest remaining count same fewer ended is_true =
    let over = ended (sym same ∙ is_true) in
    (nil_from_length rest (omega (arith, fewer, ap length over.0)), over.1)

-- a limit does not exceed the greatest count
pub most_bytes_fit : (l : Limit) → most_bytes l ≤ 2 ^ 64 - 1
most_bytes_fit limit.Script = lit≤ tt
most_bytes_fit limit.Stream = lit≤ tt

-- the part of a script that was served, within its limit, is the whole script
pub whole_of : (sessions : ℕ) → {X Z : Type 0} (r : Result X Z) (script : Option (List ℕ)) (states new : List State) (old_bytes new_bytes : Option (List ℕ))
    → OnOk r (IfSome script (λ bytes. (length bytes ≤ MAX_SCRIPT) × ServesAll sessions bytes states new old_bytes new_bytes))
    → OnOk r (IfSome script (λ bytes. ServesWhole sessions bytes states new old_bytes new_bytes))
whole_of sessions (Ok x) script states new old_bytes new_bytes serves = IfSome_then script serves (λ bytes all. record {
  limit = all.0;
  out = all.1.out;
  output = all.1.output;
  appends = all.1.appends;
})
whole_of sessions (Err z) script states new old_bytes new_bytes serves = tt

-- without a limit that is reached, the whole script was served
pub all_of : (sessions : ℕ) → {X Z : Type 0} (r : Result X Z) (most : ℕ) (script : Option (List ℕ)) (states new : List State) (old_bytes new_bytes : Option (List ℕ))
    → OnOk r (IfSome script (λ bytes. (length bytes ≤ most) × ServesAll sessions bytes states new old_bytes new_bytes))
    → OnOk r (IfSome script (λ bytes. ServesAll sessions bytes states new old_bytes new_bytes))
all_of sessions (Ok x) most script states new old_bytes new_bytes serves = IfSome_then script serves (λ bytes all. all.1)
all_of sessions (Err z) most script states new old_bytes new_bytes serves = tt

-- a line is read among databases as it is among their states
pub reads_states : (sessions : ℕ) → {S : Type 0} (databases : Databases S) (bytes : List ℕ) (reading : Reading) → Reads (length databases) sessions bytes reading → Reads (length (states_of databases)) sessions bytes reading
reads_states sessions databases bytes reading reads = subst (λ (n : ℕ). Reads n sessions bytes reading) (sym (length-map databases state_in)) reads

-- if a line requests nothing, nothing is written
pub nothing_served : (sessions : ℕ) → (states : List State) (totals : List Totals) (bytes : List ℕ) → Reads (length states) sessions bytes nothing ⊎ Reads (length states) sessions bytes join → LineServed sessions states totals bytes [] states totals
nothing_served sessions states totals bytes (inl reads) = line_of_none sessions states totals bytes [] nothing reads (λ sittings. (refl, refl))
nothing_served sessions states totals bytes (inr reads) = line_of_none sessions states totals bytes [] join reads (λ sittings. (refl, refl))

-- the state of one database, and the states after it changes
state_at : {S : Type 0} (databases : Databases S) (place : ℕ) (database : Database S) → slice_get databases place ≡ Some database
    → slice_get (states_of databases) place ≡ Some (state_in database)
state_at databases place database found = slice_get-map state_in databases place ∙ ap (option_map state_in) found

-- the database at its place answers a statement's line
pub serves_place : (sessions : ℕ) → {S : Type 0} (databases : Databases S) (totals : List Totals) (place session : ℕ) (bytes text name out : List ℕ) (old after : Database S) (own counted : Totals)
    → Reads (length databases) sessions bytes (statement place session text) → old ≡ slice_index_or databases place old → own ≡ slice_index_or totals place own → length totals ≡ length databases
    → name ≡ database_name place → TextServed name old.state own session text out after.state counted
    → LineServed sessions (states_of databases) totals bytes out (states_of (slice_set databases place after)) (slice_set totals place counted)
serves_place sessions databases totals place session bytes text name out old after own counted reads is_old is_own each is_name served =
    let within = names_one (length databases) sessions bytes place session text reads in
    let found : slice_get databases place ≡ Some old = slice_get-get_or databases place old within ∙ ap Some (sym is_old) in
    let has : slice_get totals place ≡ Some own = slice_get-get_or totals place own (omega (arith, within, each)) ∙ ap Some (sym is_own) in
    subst (λ (states : List State). LineServed sessions (states_of databases) totals bytes out states (slice_set totals place counted)) (sym (map-set state_in databases place after))
    (line_of_statement sessions (states_of databases) totals place session bytes text name out old.state after.state own counted (reads_states sessions databases bytes (statement place session text) reads)
    (state_at databases place old found) has is_name served)

-- so does it answer a restart's line
pub restarts_place : (sessions : ℕ) → {S : Type 0} (databases : Databases S) (totals : List Totals) (place : ℕ) (bytes name : List ℕ) (answer : Reply) (old after : Database S) (own counted : Totals)
    → Reads (length databases) sessions bytes (restart place) → old ≡ slice_index_or databases place old → own ≡ slice_index_or totals place own → length totals ≡ length databases
    → name ≡ database_name place → machine.IsServed old.state event.Restart answer after.state → AreLeft answer own counted
    → LineServed sessions (states_of databases) totals bytes (rendered_whole name answer) (states_of (slice_set databases place after)) (slice_set totals place counted)
restarts_place sessions databases totals place bytes name answer old after own counted reads is_old is_own each is_name served is_counted =
    let within = restarts_one (length databases) sessions bytes place reads in
    let found : slice_get databases place ≡ Some old = slice_get-get_or databases place old within ∙ ap Some (sym is_old) in
    let has : slice_get totals place ≡ Some own = slice_get-get_or totals place own (omega (arith, within, each)) ∙ ap Some (sym is_own) in
    subst (λ (states : List State). LineServed sessions (states_of databases) totals bytes (rendered_whole name answer) states (slice_set totals place counted)) (sym (map-set state_in databases place after))
    (line_of_restart sessions (states_of databases) totals place bytes name answer old.state after.state own counted (reads_states sessions databases bytes (restart place) reads)
    (state_at databases place old found) has is_name served is_counted)

-- a database's name is short enough as the prefix of a short reply
pub name_short : (place : ℕ) → place < MAX_DATABASES → length (database_name place) ≤ MAX_FRONT
name_short place within = elim (cases_Bool (place == 0)) [
  | inl e ↦ rw e (lit≤ tt)
  | inr e ↦ rw e (let digits = length-decimal-le 2 (place + 1) (lit< tt) (omega arith) (omega arith) in omega (arith, length-append (codes "bank") (decimal (place + 1))))
]

-- the reply to a restart is short
pub restart_short : (outcome : Result (Unit {0}) Refusal) → holds_memory (restart_reply outcome) ≡ false
restart_short (Ok done) = refl
restart_short (Err refusal) = refl
