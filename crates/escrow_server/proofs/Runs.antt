-- Histories are runs of the machine if disks always return what was written.
use Rattle.std.proofs.Common.{◌≡◌, ℕ, zero, suc, ◌+◌, Some, List, [], ◌∷◌, slice_get, refl, sym, ap, subst, ◌∙◌, arith}
use Rattle.std.specs.List.{AllByRecursion}
use Rattle.std.specs.Prelude.{Option, IfSome}
use Rattle.std.proofs.lemmas.List.{length-map}
use Rattle.std.proofs.lemmas.Option.{IfSome_then}
use Rattle.sqlite_trees.specs.declared.store.Store.{Ghosts}
use Rattle.escrow_machine.specs.State.{State}
use Rattle.escrow_transcript.specs.declared.entry.Entry.{Entry}
use Rattle.escrow_transcript.specs.Legal.{AreNumbered, AreSteps}
use Rattle.escrow_core.specs.Database.{Database}
use Rattle.escrow_shards.specs.Closed.{Closed, WasClean, all_entries}
use Rattle.escrow_shards.specs.Part.{Part}
use Rattle.escrow_free.specs.FreeOutput.{ServesFree}
use Rattle.escrow_free.specs.Histories.{histories, AreHistories}
use Rattle.escrow_free.proofs.Closing.{history_at, long_histories}
use Rattle.escrow_server.specs.Free.{AreRuns, HoldCleanDisks, RunsFree, RunsFrom}
use Rattle.escrow_serve.specs.Output.{state_in, states_of}

-- what holds for everything holds for the items of a list
everywhere : {A : Type 0} (P : A → Type 0) (xs : List A) → ((x : A) → P x) → AllByRecursion P xs
everywhere P [] each = tt
everywhere P (x ∷ xs) each = (each x, everywhere P xs each)

-- the state at an index is that of the database there
state_at : {S : Type 0} (databases : List (Database S)) (place : ℕ) (s : State) → slice_get (states_of databases) place ≡ Some s
    → (d : Database S) × (slice_get databases place ≡ Some d) × (d.state ≡ s)
state_at [] place s at = absurd (cc)
state_at (d ∷ databases) zero s at = let same : d.state ≡ s = cc in (d, refl, same)
state_at (d ∷ databases) (suc place) s at = state_at databases place s at

pub was_clean : {S : Type 0} (g : Ghosts S) (place : ℕ) (parts : List (Part S)) (c : Closed S) → HoldCleanDisks g → WasClean g place parts c
was_clean g place parts c clean = record {
  at_opening = clean c.opening.store;
  at_parts = everywhere _ _ (λ p. clean p.store);
  at_close = clean c.history.store;
}

run_of : {S : Type 0} (g : Ghosts S) (databases : List (Database S)) (parts : List (Part S)) (closed : List (Closed S)) (place : ℕ) (s : State) (entries : List Entry)
    → HoldCleanDisks g → AreHistories g databases parts closed → slice_get (states_of databases) place ≡ Some s → slice_get (histories parts closed) place ≡ Some entries → RunsFrom s entries
run_of g databases parts closed place s entries clean are at there =
    let found = state_at databases place s at in
    let history = history_at 0 parts closed place entries there in
    let c = history.closing in
    let is = are.each place found.0 c found.1 history.there in
    let run = is.whole.run (was_clean g place parts c clean) in
    let all : all_entries place parts c ≡ entries = ap (λ n. all_entries n parts c) (let e : place ≡ 0 + place = omega arith in e) ∙ sym history.same in
    let end = c.history.state in
    let from = subst (λ (t : State). AreSteps t (all_entries place parts c) end) (is.began.unchanged ∙ found.2) run.run in
    (end, subst (λ (es : List Entry). AreSteps s es end) all from, subst (AreNumbered 0) all run.numbered)

pub are_runs : {S : Type 0} (g : Ghosts S) (databases : List (Database S)) (parts : List (Part S)) (closed : List (Closed S)) → HoldCleanDisks g → AreHistories g databases parts closed
    → AreRuns (states_of databases) (histories parts closed)
are_runs g databases parts closed clean are = record {
  count = long_histories 0 parts closed ∙ are.count ∙ sym (length-map databases state_in);
  each = λ place s entries at there. run_of g databases parts closed place s entries clean are at there;
}

-- the output is therefore that of such runs
pub runs_free : {S : Type 0} (g : Ghosts S) (databases : List (Database S)) (parts : List (Part S)) (closed : List (Closed S)) (script old_bytes new_bytes : Option (List ℕ))
    → HoldCleanDisks g → AreHistories g databases parts closed → IfSome script (λ bytes. ServesFree bytes (histories parts closed) old_bytes new_bytes)
    → IfSome script (λ bytes. RunsFree bytes (states_of databases) old_bytes new_bytes)
runs_free g databases parts closed script old_bytes new_bytes clean are serves =
    IfSome_then script serves (λ bytes free. (histories parts closed, are_runs g databases parts closed clean are, free))
