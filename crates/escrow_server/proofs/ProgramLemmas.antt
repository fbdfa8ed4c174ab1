-- What is written before the program ends.
use Rattle.std.proofs.Common.{◌≡◌, ◌≢◌, ◌⊎◌, ℕ, ◌+◌, ◌<◌, List, [], ◌∷◌, ◌++◌, length, map, take, Option, Some, None, true, false, if◌then◌else◌, arith, refl, sym, ap, ap₂, subst, ◌∙◌, inl, inr}
use Rattle.std.specs.Prelude.{Result, Ok, Err, OnOk, OnErr, IfErr, IfSome, is_ok}
use Rattle.std.specs.Io.KnownBytes.{Appends, IsAtEnd, Keeps}
use Rattle.std.proofs.Math.Seq.{take-append-add}
use Rattle.std.proofs.lemmas.Grind.{flat_map-append}
use Rattle.std.specs.List.{flat_map}
use Rattle.std.proofs.lemmas.List.{append-nil, map-append, take_all, take-append-le}
use Rattle.std.proofs.lemmas.Bool.{true≢false}
use Rattle.std.proofs.lemmas.Option.{IfSome_then}
use Rattle.escrow_num.specs.declared.session.TheConstants.Session.{MAX_SHARED}
use Rattle.escrow_machine.specs.State.{State}
use Rattle.escrow_server.specs.declared.args.ArgFault.{ArgFault}
use Rattle.escrow_server.specs.declared.args.Mode.{Mode}
use Rattle.escrow_server.specs.declared.args.Mode.TheVariants as mode
use Rattle.escrow_server.specs.declared.fault.RunFault.{RunFault}
use Rattle.escrow_server.specs.declared.fault.RunFault.TheVariants as run_fault
use Rattle.escrow_server.specs.Args.{no_memory}
use Rattle.escrow_server.specs.Free.{RunsFree}
use Rattle.escrow_serve.specs.Output.{ServesAll, ServesWhole, StopsWithin}
use Rattle.escrow_server.specs.Files.{file_of}
use Rattle.escrow_server.specs.Program.{empty_states, migrated_line, run_status, AreLinesOf, EndsFree, EndsInMemory, EndsInTurn, EndsOverFiles, IsQuiet, SaysReason, SaysWhy, Stops, TellsOfMigrated, TellsOfStoresAlone, WritesPrefix, WritesNothing}
use Rattle.escrow_script.proofs.WrittenLemmas.{appends_more, appends_none}

-- all of the bytes were written, or fewer of them
abbrev pub Writes : {X Z : Type 0} → Option (List ℕ) → Option (List ℕ) → List ℕ → Result X Z → Type 0
Writes old new bytes (Ok x) = Appends old new bytes
Writes old new bytes (Err z) = (len : ℕ) × (len < length bytes) × Appends old new (take len bytes)

pub writes_of : {X Z : Type 0} (old new : Option (List ℕ)) (bytes : List ℕ) (r : Result X Z) → OnOk r (Appends old new bytes)
    → OnErr r ((len : ℕ) × (len < length bytes) × Appends old new (take len bytes)) → Writes old new bytes r
writes_of old new bytes (Ok x) ok err = ok
writes_of old new bytes (Err z) ok err = err

-- a prefix was written, whether the call succeeded or not
pub front_of : {X Z : Type 0} (old new : Option (List ℕ)) (bytes : List ℕ) (r : Result X Z) → Writes old new bytes r → WritesPrefix old new bytes
front_of old new bytes (Ok x) wrote = (length bytes, subst (λ (b : List ℕ). Appends old new b) (sym (take_all (length bytes) bytes (omega arith))) wrote)
front_of old new bytes (Err z) wrote = (wrote.0, wrote.2)

-- a prefix of the first part is a prefix of the whole
pub front_first : {X Z : Type 0} (old new : Option (List ℕ)) (first second : List ℕ) (r : Result X Z) → Writes old new first r → is_ok r ≡ false → WritesPrefix old new (first ++ second)
front_first old new first second (Ok x) wrote failed = absurd (true≢false failed)
front_first old new first second (Err z) wrote failed =
    (wrote.0, subst (λ (b : List ℕ). Appends old new b) (sym (take-append-le wrote.0 first second (omega (arith, wrote.1)))) wrote.2)

-- the first part followed by a prefix of the second is a prefix of the whole
pub front_second : {X Z : Type 0} (old mid new : Option (List ℕ)) (first second : List ℕ) (r : Result X Z) → Writes old mid first r → is_ok r ≡ true
    → WritesPrefix mid new second → WritesPrefix old new (first ++ second)
front_second old mid new first second (Ok x) wrote went more =
    (length first + more.0, subst (λ (b : List ℕ). Appends old new b) (sym (take-append-add first second more.0)) (appends_more old mid new first (take more.0 second) wrote more.1))
front_second old mid new first second (Err z) wrote went more = absurd (true≢false (sym went))

-- LINES ABOUT MIGRATED STORES

-- there are none
tells_none : (path bytes : Option (List ℕ)) → TellsOfMigrated path bytes bytes
tells_none None bytes = appends_none bytes
tells_none (Some path) bytes = ([], inl ([], refl), (0, appends_none bytes))

-- without such lines, only a reason is written
pub says_why : (path old new : Option (List ℕ)) → SaysReason old new → SaysWhy path old new
says_why path old new says = (old, tells_none path old, says)

-- or nothing is written
pub is_quiet : (path old new : Option (List ℕ)) → TellsOfStoresAlone old new → IsQuiet path old new
is_quiet path old new tells = (old, tells_none path old, tells)

lines_more : (path lines more : List ℕ) (place : ℕ) → AreLinesOf path lines → more ≡ migrated_line (file_of path place) → AreLinesOf path (lines ++ more)
lines_more path lines more place are is =
    let one : more ≡ flat_map migrated_line (map (file_of path) (place ∷ [])) = is ∙ sym (append-nil (migrated_line (file_of path place))) in
    let all = ap (flat_map migrated_line) (map-append (file_of path) are.0 (place ∷ [])) ∙ flat_map-append migrated_line (map (file_of path) are.0) (map (file_of path) (place ∷ [])) in
    (are.0 ++ place ∷ [], ap₂ (λ (a b : List ℕ). a ++ b) are.1 one ∙ sym all)

-- one more line, if there was room for it
pub lines_pushed : {X Z : Type 0} (pushed : Result X Z) (path old new more : List ℕ) (place : ℕ) → AreLinesOf path old → more ≡ migrated_line (file_of path place)
    → new ≡ (if is_ok pushed then old ++ more else old) → OnOk pushed (AreLinesOf path new)
lines_pushed (Ok x) path old new more place are is same = subst (AreLinesOf path) (sym same) (lines_more path old more place are is)
lines_pushed (Err z) path old new more place are is same = tt

-- WORDS THAT ASK FOR NO SCRIPT

-- the exit status if the words are refused
pub status_refused : (status expected : ℕ) (fault : ArgFault) → (status ≡ 1) ⊎ (status ≡ fault.status) → (fault ≡ no_memory) ⊎ (fault.status ≡ expected)
    → (status ≡ 1) ⊎ (status ≡ expected)
status_refused status expected fault (inl one) is = inl one
status_refused status expected fault (inr same) (inl memory) = inl (same ∙ ap (λ (f : ArgFault). f.status) memory)
status_refused status expected fault (inr same) (inr is) = inr (same ∙ is)

-- words that do not ask for help get none
pub not_helped : (expected : ℕ) (fault : ArgFault) → (fault ≡ no_memory) ⊎ (fault.status ≡ expected) → expected ≢ 0 → fault.status ≢ 0
not_helped expected fault (inl memory) some = λ helped. let one : fault.status ≡ 1 = ap (λ (f : ArgFault). f.status) memory in omega (arith, one, helped)
not_helped expected fault (inr is) some = λ helped. some (sym is ∙ helped)

-- HOW A RUN ENDS

-- in memory, one line after another
at_stop : (Serves : ℕ → List ℕ → List State → List State → Option (List ℕ) → Option (List ℕ) → Type 0) (sessions : ℕ) (why : RunFault) (status count : ℕ) (starts : List State → Type 0) (new : List State) (script rest old_bytes new_bytes : Option (List ℕ))
    → ((old : List State) → starts old → old ≡ empty_states count) → status ≡ run_status why → IfSome script (λ s. Stops sessions why starts new s rest old_bytes new_bytes)
    → IfSome script (λ s. EndsInTurn Serves sessions count status s rest old_bytes new_bytes)
at_stop Serves sessions (run_fault.Unopened database place cause) status count starts new script rest old_bytes new_bytes are_empty is stops =
    IfSome_then script stops (λ s kept. inr (inr (is, kept.0, kept.1)))
at_stop Serves sessions (run_fault.Unserved why) status count starts new script rest old_bytes new_bytes are_empty is stops =
    IfSome_then script stops (λ s from. inr (inl (is, why, new, subst (λ (ss : List State). StopsWithin sessions why s ss new old_bytes new_bytes) (are_empty from.0 from.1) from.2)))
at_stop Serves sessions (run_fault.Unjoined why) status count starts new script rest old_bytes new_bytes are_empty is stops =
    IfSome_then script stops (λ s never. absurd never)

ends_in_turn : {X : Type 0} (Serves : ℕ → List ℕ → List State → List State → Option (List ℕ) → Option (List ℕ) → Type 0) (sessions : ℕ) (served : Result X RunFault) (status count : ℕ) (starts : List State → Type 0) (new : List State) (script rest old_bytes new_bytes : Option (List ℕ))
    → ((old : List State) → starts old → old ≡ empty_states count) → OnOk served (status ≡ 0) → IfErr served (λ why. status ≡ run_status why)
    → OnOk served (IfSome script (λ s. (from : List State) × starts from × Serves sessions s from new old_bytes new_bytes))
    → IfErr served (λ why. IfSome script (λ s. Stops sessions why starts new s rest old_bytes new_bytes))
    → IfSome script (λ s. EndsInTurn Serves sessions count status s rest old_bytes new_bytes)
ends_in_turn Serves sessions (Ok x) status count starts new script rest old_bytes new_bytes are_empty ok err serves stops =
    IfSome_then script serves (λ s from. inl (ok, new, subst (λ (ss : List State). Serves sessions s ss new old_bytes new_bytes) (are_empty from.0 from.1) from.2))
ends_in_turn Serves sessions (Err why) status count starts new script rest old_bytes new_bytes are_empty ok err serves stops =
    at_stop Serves sessions why status count starts new script rest old_bytes new_bytes are_empty err stops

at_free_stop : (why : RunFault) (status count : ℕ) (script rest old_bytes new_bytes : Option (List ℕ)) → status ≡ run_status why
    → (run_status why ≡ 3 → Keeps script rest × WritesNothing old_bytes new_bytes) → IfSome script (λ s. EndsFree count status s rest old_bytes new_bytes)
at_free_stop why status count None rest old_bytes new_bytes is unopened = tt
at_free_stop (run_fault.Unopened database place cause) status count (Some script) rest old_bytes new_bytes is unopened = let kept = unopened refl in inr (inr (is, kept.0, kept.1))
at_free_stop (run_fault.Unserved why) status count (Some script) rest old_bytes new_bytes is unopened = inr (inl is)
at_free_stop (run_fault.Unjoined why) status count (Some script) rest old_bytes new_bytes is unopened = inr (inl is)

ends_free : {X : Type 0} (served : Result X RunFault) (status count : ℕ) (starts : List State → Type 0) (script rest old_bytes new_bytes : Option (List ℕ))
    → ((old : List State) → starts old → old ≡ empty_states count) → OnOk served (status ≡ 0) → IfErr served (λ why. status ≡ run_status why)
    → OnOk served (IfSome script (λ s. (from : List State) × starts from × RunsFree s from old_bytes new_bytes))
    → IfErr served (λ why. run_status why ≡ 3 → Keeps script rest × WritesNothing old_bytes new_bytes)
    → IfSome script (λ s. EndsFree count status s rest old_bytes new_bytes)
ends_free (Ok x) status count starts script rest old_bytes new_bytes are_empty ok err runs unopened =
    IfSome_then script runs (λ s from. inl (ok, subst (λ (ss : List State). RunsFree s ss old_bytes new_bytes) (are_empty from.0 from.1) from.2))
ends_free (Err why) status count starts script rest old_bytes new_bytes are_empty ok err runs unopened =
    at_free_stop why status count script rest old_bytes new_bytes err unopened

-- in memory, in the mode that was asked for
pub ends_in_memory : {X : Type 0} (asked : Mode) (sessions : ℕ) (served : Result X RunFault) (status count : ℕ) (starts : List State → Type 0) (new : List State) (script rest old_bytes new_bytes : Option (List ℕ))
    → ((old : List State) → starts old → old ≡ empty_states count) → OnOk served (status ≡ 0) → IfErr served (λ why. status ≡ run_status why)
    → (asked ≡ mode.Run → OnOk served (IfSome script (λ s. (from : List State) × starts from × ServesWhole MAX_SHARED s from new old_bytes new_bytes)))
    → (asked ≡ mode.Run → IfErr served (λ why. IfSome script (λ s. Stops MAX_SHARED why starts new s rest old_bytes new_bytes)))
    → (asked ≡ mode.Serve → OnOk served (IfSome script (λ s. (from : List State) × starts from × ServesAll sessions s from new old_bytes new_bytes)))
    → (asked ≡ mode.Serve → IfErr served (λ why. IfSome script (λ s. Stops sessions why starts new s rest old_bytes new_bytes)))
    → (asked ≡ mode.Free → OnOk served (IfSome script (λ s. (from : List State) × starts from × RunsFree s from old_bytes new_bytes)))
    → IfErr served (λ why. run_status why ≡ 3 → Keeps script rest × WritesNothing old_bytes new_bytes)
    → IfSome script (λ s. EndsInMemory asked sessions count status s rest old_bytes new_bytes)
ends_in_memory mode.Run sessions served status count starts new script rest old_bytes new_bytes are_empty ok err serves stops lines cut runs unopened =
    ends_in_turn ServesWhole MAX_SHARED served status count starts new script rest old_bytes new_bytes are_empty ok err (serves refl) (stops refl)
ends_in_memory mode.Serve sessions served status count starts new script rest old_bytes new_bytes are_empty ok err serves stops lines cut runs unopened =
    ends_in_turn ServesAll sessions served status count starts new script rest old_bytes new_bytes are_empty ok err (lines refl) (cut refl)
ends_in_memory mode.Free sessions served status count starts new script rest old_bytes new_bytes are_empty ok err serves stops lines cut runs unopened =
    ends_free served status count starts script rest old_bytes new_bytes are_empty ok err (runs refl) unopened

-- over files
at_file_stop : (why : RunFault) (status : ℕ) (script rest old_bytes new_bytes : Option (List ℕ)) → status ≡ run_status why
    → (run_status why ≡ 3 → Keeps script rest × WritesNothing old_bytes new_bytes) → IfSome script (λ s. EndsOverFiles status s rest old_bytes new_bytes)
at_file_stop why status None rest old_bytes new_bytes is unopened = tt
at_file_stop (run_fault.Unopened database place cause) status (Some script) rest old_bytes new_bytes is unopened = let kept = unopened refl in inr (inr (is, kept.0, kept.1))
at_file_stop (run_fault.Unserved why) status (Some script) rest old_bytes new_bytes is unopened = inr (inl is)
at_file_stop (run_fault.Unjoined why) status (Some script) rest old_bytes new_bytes is unopened = inr (inl is)

pub ends_over_files : {X : Type 0} (served : Result X RunFault) (status : ℕ) (script rest old_bytes new_bytes : Option (List ℕ))
    → OnOk served (status ≡ 0) → IfErr served (λ why. status ≡ run_status why) → OnOk served (IfSome script (λ _. IsAtEnd rest))
    → IfErr served (λ why. run_status why ≡ 3 → Keeps script rest × WritesNothing old_bytes new_bytes)
    → IfSome script (λ s. EndsOverFiles status s rest old_bytes new_bytes)
ends_over_files (Ok x) status script rest old_bytes new_bytes ok err end unopened = IfSome_then script end (λ s at_end. inl (ok, at_end))
ends_over_files (Err why) status script rest old_bytes new_bytes ok err end unopened = at_file_stop why status script rest old_bytes new_bytes err unopened
