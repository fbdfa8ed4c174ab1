-- COMMITs that share a write, if the database is watched.
use Rattle.std.proofs.Common.{◌≡◌, ℕ, ◌+◌, ◌-◌, ◌≤◌, List, [], ◌∷◌, ◌++◌, length, take, drop, sym, ap, subst, ◌∙◌, append_assoc, arith}
use Rattle.std.specs.Prelude.{Result}
use Rattle.std.proofs.lemmas.List.{drop_at, length-append, take_rest}
use Rattle.sqlite.specs.Held.{state}
use Rattle.sqlite.specs.State.{HasCleanDisk}
use Rattle.sqlite_trees.specs.declared.store.Store.{Ghosts}
use Rattle.escrow_num.specs.declared.failure.Failure.{Failure}
use Rattle.escrow_machine.specs.State.{State}
use Rattle.escrow_transcript.specs.declared.base.Base.{Base}
use Rattle.escrow_transcript.specs.declared.entry.Entry.{Entry}
use Rattle.escrow_transcript.specs.declared.transcript.TheConstants.Transcript.{MAX_NUMBER}
use Rattle.escrow_transcript.specs.Image.{started}
use Rattle.escrow_transcript.specs.Legal.{AreNumbered, IsLegal}
use Rattle.escrow_transcript.proofs.Legals.{legals_part}
use Rattle.escrow_transcript.proofs.Numbers.{numbered_join}
use Rattle.escrow_transcript.proofs.Steps.{steps_join}
use Rattle.escrow_history.specs.declared.committed.Committed.{Committed}
use Rattle.escrow_history.specs.Commits.{Commits, commits_of}
use Rattle.escrow_history.specs.Audited.{Audited, IsKept}
use Rattle.escrow_stats.specs.Watching.{Board, IsLegalFrom, IsPrefix}
use Rattle.escrow_shards.specs.Shown.{doubts_of, IsShown}

-- if a transcript is legal, so is the part before any of its entries
pub legal_front : (base : Base) (front rest all : List Entry) (e : Entry) (end : State) → front ++ e ∷ rest ≡ all → IsLegal base all end → IsLegalFrom base (front ++ e ∷ [])
legal_front base front rest all e end is legal =
    let whole : (front ++ e ∷ []) ++ rest ≡ all = append_assoc front (e ∷ []) rest ∙ is in
    let part = legals_part base (front ++ e ∷ []) rest end (subst (λ (es : List Entry). IsLegal base es end) (sym whole) legal) in
    (part.0, part.1.0)

-- the entries after the old ones are the added ones
pub part_is : (all front more : List Entry) (before : ℕ) → all ≡ front ++ more → length front ≡ before → take (length all - before) (drop before all) ≡ more
part_is all front more before is long = take_rest all before ∙ ap (drop before) is ∙ drop_at front more before long

pub within_all : (all front more : List Entry) (before : ℕ) → all ≡ front ++ more → length front ≡ before → before ≤ length all
within_all all front more before is long = let n = ap length is ∙ length-append front more in omega (arith, n, long)

module _ {S : Type 0} (g : Ghosts S) (old new : Audited S) (b : Board) (sessions : List ℕ) (outcomes : List (Result Committed Failure))
    (shown : IsShown g old b) (commits : Commits g old sessions outcomes new) (clean : HasCleanDisk (state g new.store) → HasCleanDisk (state g old.store)) where
  -- the added entries
  abbrev pub more : List Entry
  more = commits_of sessions outcomes

  pub more_numbered : AreNumbered (length b.entries) more
  more_numbered = subst (λ (n : ℕ). AreNumbered n more) (sym shown.long) commits.numbered

  pub more_few : IsKept g new → length b.entries + length more ≤ MAX_NUMBER
  more_few kept =
      let long = shown.long in
      let base = ap (λ (x : Base). x.before) commits.base in
      let entries = ap length commits.entries ∙ length-append old.entries more in
      let few = kept.few in
      let numbers = kept.numbers in
      omega (arith, long, base, entries, few, numbers)

  pub more_legal : HasCleanDisk (state g new.store) → IsLegal b.base (b.entries ++ more) new.state
  more_legal now =
      let legal = shown.legal (clean now) in
      record {
        run = steps_join (started b.base.image) old.state new.state b.entries more legal.run (commits.steps now);
        numbered = numbered_join b.base.before (length b.entries) b.entries more legal.numbered
            (let first = shown.first in omega (arith, first)) more_numbered;
      }

  -- all of them were shown
  pub all_shown : (after : Board) → after.base ≡ b.base → after.entries ≡ b.entries ++ more → IsPrefix after.shown after.entries → after.doubts ≤ doubts_of g new.store
      → IsShown g new after
  all_shown after base entries begins fewer = record {
    first = ap (λ (x : Base). x.before) base ∙ shown.first;
    legal = λ now.
        subst (λ (x : Base). IsLegal x after.entries new.state) (sym base)
        (subst (λ (es : List Entry). IsLegal b.base es new.state) (sym entries) (more_legal now));
    long =
        (let a = ap length entries ∙ length-append b.entries more in
        let e = ap length commits.entries ∙ length-append old.entries more in
        let n = ap (λ (x : Base). x.before) commits.base in
        let l = shown.long in
        omega (arith, a, e, n, l));
    ends = (
      shown.ends.0,
      entries ∙ ap (λ (es : List Entry). es ++ more) shown.ends.1 ∙ append_assoc shown.ends.0 old.entries more
          ∙ ap (λ (es : List Entry). shown.ends.0 ++ es) (sym commits.entries),
    );
    begins = begins;
    fewer = fewer;
  }
