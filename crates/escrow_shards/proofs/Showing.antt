-- What the lock of a watched database keeps.
use Rattle.std.proofs.Common.{◌≡◌, ℕ, zero, suc, ◌+◌, ◌-◌, ◌≤◌, Bool, true, false, List, [], ◌∷◌, ◌++◌, length, refl, sym, ap, subst, ◌∙◌, append_assoc, arith}
use Rattle.std.specs.Prelude.{Result, Ok, Err, Some, IfOk, OnErr, get_or}
use Rattle.std.specs.List.{slice_get}
use Rattle.std.proofs.lemmas.Option.{get_or_from_slice_get}
use Rattle.std.proofs.lemmas.List.{append-nil, length-append}
use Rattle.sqlite.specs.Held.{Held, state}
use Rattle.sqlite.specs.State.{HasCleanDisk}
use Rattle.sqlite_trees.specs.declared.store.Store.{Ghosts}
use Rattle.sqlite_trees.specs.View.{doubt}
use Rattle.escrow_num.specs.declared.refusal.Refusal.{Refusal}
use Rattle.escrow_statement.specs.declared.statement.Statement.{Statement}
use Rattle.escrow_machine.specs.declared.reply.Reply.{Reply}
use Rattle.escrow_machine.specs.State.{State}
use Rattle.escrow_transcript.specs.declared.base.Base.{Base}
use Rattle.escrow_transcript.specs.declared.entry.Entry.{Entry}
use Rattle.escrow_transcript.specs.Legal.{IsLegal}
use Rattle.escrow_transcript.proofs.Legals.{one_more_is_legal}
use Rattle.escrow_history.specs.Audited.{Audited}
use Rattle.escrow_history.specs.Calls.{Appends, Stays}
use Rattle.escrow_stats.specs.Watching.{Board, IsPrefix}
use Rattle.escrow_shards.specs.Part.{Part}
use Rattle.escrow_shards.specs.Shown.{doubts_of, EndsWith, IsShown}

doubt_few : (clean : Bool) → doubt clean ≤ 1
unfolding doubt
doubt_few true = omega arith
doubt_few false = omega arith

last_of : (front : List Entry) (e d : Entry) → get_or (front ++ e ∷ []) (length front) d ≡ e
last_of [] e d = refl
last_of (x ∷ front) e d = last_of front e d

-- the last entry is the one that was added
pub last_is : (all front : List Entry) (e x : Entry) → all ≡ front ++ e ∷ [] → slice_get all (length all - 1) ≡ Some x → x ≡ e
last_is all front e x is found =
    let place : length all - 1 ≡ length front = (let n = ap length is ∙ length-append front (e ∷ []) in omega (arith, n)) in
    sym (get_or_from_slice_get all (length all - 1) x e found) ∙ ap (λ (i : ℕ). get_or all i e) place ∙ ap (λ (es : List Entry). get_or es (length front) e) is ∙ last_of front e e

module _ {S : Type 0} (g : Ghosts S) where
  -- if a clean disk was clean before, there is no less doubt than before
  pub doubts_rise : (old new : Held S) → (HasCleanDisk (state g new) → HasCleanDisk (state g old)) → doubts_of g old ≤ doubts_of g new
  doubts_rise old new clean = go (doubts_of g new) (doubts_of g old) (doubt_few (state g old).is_clean) clean
    where
      go : (n m : ℕ) → m ≤ 1 → (n ≡ 0 → m ≡ 0) → m ≤ n
      go zero m few none = let is = none refl in omega (arith, is)
      go (suc n) m few none = omega (arith, few)

  pub more_doubts : (old new : Held S) (b : Board) → (HasCleanDisk (state g new) → HasCleanDisk (state g old)) → b.doubts ≤ doubts_of g old → b.doubts ≤ doubts_of g new
  more_doubts old new b clean fewer = let rise = doubts_rise old new clean in omega (arith, rise, fewer)

  -- nothing was served
  pub stays_shown : (old new : Audited S) (b : Board) → IsShown g old b → Stays g old new → (HasCleanDisk (state g new.store) → HasCleanDisk (state g old.store)) → IsShown g new b
  stays_shown old new b shown stays clean = record {
    first = shown.first;
    legal = λ now. subst (λ (s : State). IsLegal b.base b.entries s) (sym (stays.unchanged now)) (shown.legal (clean now));
    long = shown.long ∙ ap (λ (x : Base). x.before + length old.entries) (sym stays.base) ∙ ap (λ (es : List Entry). new.base.before + length es) (sym stays.entries);
    ends = subst (λ (es : List Entry). EndsWith b.entries es) (sym stays.entries) shown.ends;
    begins = shown.begins;
    fewer = more_doubts old.store new.store b clean shown.fewer;
  }

  module _ (old new : Audited S) (b : Board) (session : ℕ) (asked : Statement) (number : ℕ) (answer : Reply) (shown : IsShown g old b)
      (appends : Appends g old session asked number answer new) (clean : HasCleanDisk (state g new.store) → HasCleanDisk (state g old.store)) where
    -- the entry that was added
    abbrev pub added : Entry
    added = record { number = number; session = session; statement = asked; reply = answer }

    pub next_number : number ≡ length b.entries + 1
    next_number = appends.number_is ∙ ap (λ (n : ℕ). n + 1) (sym shown.long)

    pub legal_more : HasCleanDisk (state g new.store) → IsLegal b.base (b.entries ++ added ∷ []) new.state
    legal_more now =
        one_more_is_legal b.base b.entries old.state new.state added (shown.legal (clean now)) appends.succeeds (appends.step now)
        (let a = next_number in let z = shown.first in omega (arith, a, z))

    -- one statement was served
    pub more_shown : (after : Board) → after.base ≡ b.base → after.entries ≡ b.entries ++ added ∷ [] → IsPrefix after.shown after.entries → after.doubts ≤ doubts_of g new.store
        → IsShown g new after
    more_shown after base entries begins fewer = record {
      first = ap (λ (x : Base). x.before) base ∙ shown.first;
      legal = λ now.
          subst (λ (x : Base). IsLegal x after.entries new.state) (sym base)
          (subst (λ (es : List Entry). IsLegal b.base es new.state) (sym entries) (legal_more now));
      long =
          (let a = ap length entries ∙ length-append b.entries (added ∷ []) in
          let e = ap length appends.entries ∙ length-append old.entries (added ∷ []) in
          let n = ap (λ (x : Base). x.before) appends.base in
          let l = shown.long in
          omega (arith, a, e, n, l));
      ends = (
        shown.ends.0,
        entries ∙ ap (λ (es : List Entry). es ++ added ∷ []) shown.ends.1 ∙ append_assoc shown.ends.0 old.entries (added ∷ [])
            ∙ ap (λ (es : List Entry). shown.ends.0 ++ es) (sym appends.entries),
      );
      begins = begins;
      fewer = fewer;
    }

  -- a part was handed out, or none was
  pub drained_shown : (r : Result (Part S) Refusal) (old new : Audited S) (b : Board) (parts : Part S → Type 0) (same : Type 0) → IsShown g old b
      → IfOk r (λ p. (new.base ≡ p.end) × ((new.entries ≡ []) × parts p))
      → IfOk r (λ p. p.end.before ≡ old.base.before + length old.entries) → new.state ≡ old.state → OnErr r (Stays g old new × same)
      → (HasCleanDisk (state g new.store) → HasCleanDisk (state g old.store)) → IsShown g new b
  drained_shown (Ok p) old new b parts same shown begun counts state stays clean = record {
    first = shown.first;
    legal = λ now. subst (λ (s : State). IsLegal b.base b.entries s) (sym state) (shown.legal (clean now));
    long =
        (let l = shown.long in
        let e = ap length begun.1.0 in
        let n = ap (λ (x : Base). x.before) begun.0 in
        omega (arith, l, e, n, counts));
    ends = (b.entries, sym (append-nil b.entries) ∙ ap (λ (es : List Entry). b.entries ++ es) (sym begun.1.0));
    begins = shown.begins;
    fewer = more_doubts old.store new.store b clean shown.fewer;
  }
  drained_shown (Err e) old new b parts same shown begun counts state stays clean = stays_shown old new b shown stays.0 clean
