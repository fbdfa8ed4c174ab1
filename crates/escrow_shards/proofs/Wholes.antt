-- Consecutive parts and a last transcript are one run.
use Rattle.std.proofs.Common.{ℕ, ◌+◌, List, [], ◌∷◌, ◌++◌, sym, subst, append_assoc}
use Rattle.std.specs.List.{AllByRecursion}
use Rattle.sqlite.specs.Held.{state}
use Rattle.sqlite.specs.State.{HasCleanDisk}
use Rattle.sqlite_trees.specs.declared.store.Store.{Ghosts}
use Rattle.sqlite_trees.proofs.ListLemmas.{all_of}
use Rattle.escrow_machine.specs.State.{State}
use Rattle.escrow_transcript.specs.declared.base.Base.{Base}
use Rattle.escrow_transcript.specs.declared.entry.Entry.{Entry}
use Rattle.escrow_transcript.specs.Legal.{AreSteps, AreNumbered, IsLegal}
use Rattle.escrow_transcript.proofs.Legals.{legals_join}
use Rattle.escrow_shards.specs.Closed.{Closed, Follow, WasClean, IsOneRun, IsWhole, all_entries}
use Rattle.escrow_shards.specs.Found.{IsSettled}
use Rattle.escrow_shards.specs.Laws.{IsAlwaysClean, CloseHasNoPremise}
use Rattle.escrow_shards.specs.Part.{Part, IsSound, parts_of, entries_of}

-- consecutive sound parts, each handed out with a clean disk, are legal together with a last transcript
pub joined : {S : Type 0} (g : Ghosts S) (number : ℕ) (base : Base) (ps : List (Part S)) (count : ℕ) (last : Base) (entries : List Entry) (end : State)
    → Follow number base ps count last → AllByRecursion (IsSound g) ps → AllByRecursion (λ (p : Part S). HasCleanDisk (state g p.store)) ps
    → IsLegal last entries end → IsLegal base (entries_of ps ++ entries) end
joined g number base [] count last entries end follow sound clean legal = subst (λ (b : Base). IsLegal b entries end) (sym follow.1) legal
joined g number base (p ∷ ps) count last entries end follow sound clean legal =
    let rest = joined g (number + 1) p.end ps count last entries end follow.1.1 sound.1 clean.1 legal in
    let whole : IsLegal p.base (p.entries ++ (entries_of ps ++ entries)) end =
    legals_join p.base p.end p.entries (entries_of ps ++ entries) end (sound.0.legal clean.0) sound.0.counts rest in
    subst (λ (b : Base). IsLegal b ((p.entries ++ entries_of ps) ++ entries) end) follow.1.0
    (subst (λ (es : List Entry). IsLegal p.base es end) (sym (append_assoc p.entries (entries_of ps) entries)) whole)

-- all entries of a database are one run from the state at its opening
pub one_run : {S : Type 0} (g : Ghosts S) (d : ℕ) (parts : List (Part S)) (c : Closed S) → IsSettled g d parts c
    → WasClean g d parts c → IsOneRun d parts c
one_run {S} g d parts c settled clean =
    let legal : IsLegal c.opening.base (all_entries d parts c) c.history.state =
    joined g 0 c.opening.base (parts_of d parts) c.parts c.history.base c.history.entries c.history.state settled.whole
    settled.sound clean.at_parts (settled.kept.legal clean.at_close) in
    record {
      run = subst (λ (s : State). AreSteps s (all_entries d parts c) c.history.state) (sym (settled.begun.whole clean.at_opening)) legal.run;
      numbered = subst (λ (n : ℕ). AreNumbered n (all_entries d parts c)) settled.begun.first legal.numbered;
    }

pub whole_from : {S : Type 0} (g : Ghosts S) (d : ℕ) (parts : List (Part S)) (c : Closed S) → IsSettled g d parts c → IsWhole g d parts c
whole_from g d parts c settled = record { whole = settled.whole; run = one_run g d parts c settled }

-- a store that is always clean was clean at each moment
pub close_has_no_premise : {S : Type 0} (g : Ghosts S) → IsAlwaysClean g → CloseHasNoPremise g
close_has_no_premise {S} g always d parts c = record {
  at_opening = always c.opening.store;
  at_parts = all_of (λ (p : Part S). HasCleanDisk (state g p.store)) (λ p. always p.store) (parts_of d parts);
  at_close = always c.history.store;
}
