-- What a call that only reads leaves unchanged, and what it passes to a sink.
use Rattle.std.proofs.Common.{◌≡◌, List, Result, Ok, Err, IsTrue, OnOk, refl, ◌∙◌, subst, inl, arith}
use Rattle.sqlite_value.specs.Order.{Row as SqlRow}
use Rattle.sqlite_trees.specs.declared.store.Store.{Ghosts}
use Rattle.sqlite.specs.Effect.{Database}
use Rattle.sqlite.specs.Held.{Held, state}
use Rattle.sqlite.specs.State.{State}
use Rattle.sqlite.proofs.StateLemmas.{survives_then}
use Rattle.escrow_cells.specs.Read.{Takes}
use Rattle.escrow_rows.specs.Answers.{OnlyReads}

-- nothing was read
pub only_reads_none : (s : State) → OnlyReads s s
only_reads_none s = record {
  same = λ usable. refl;
  usable = λ usable. usable;
  survives = record { clean = omega arith; shield = λ h. h; counts = omega arith; limit = refl; closes = λ clean still. inl still; crash = λ clean db h. inl h };
}

-- one read after another
pub only_reads_then : (a b c : State) → OnlyReads a b → OnlyReads b c → OnlyReads a c
only_reads_then a b c one two = record {
  same = λ usable. two.same usable ∙ one.same (two.usable usable);
  usable = λ usable. one.usable (two.usable usable);
  survives = survives_then a b c _ _ _ (λ clean db none. none) (λ clean db none. none) one.survives two.survives;
}

both_ok : {V E : Type 0} (P Q : Type 0) (r : Result V E) → OnOk r P → OnOk r Q → OnOk r (P × Q)
both_ok P Q (Ok v) p q = (p, q)
both_ok P Q (Err e) p q = tt

module _ {S : Type 0} (g : Ghosts S) (inside old new : Held S) (same_conn : inside ≡ old) where
  pub taken_of : {V E K : Type 0} (HasTaken : K → K → List SqlRow → Type 0) (Premise : Database → Type 0) (IsAnswer : Database → List SqlRow → Type 0) (fresh last : K) (r : Result V E)
      → OnOk r (IsTrue (state g new).is_open) → OnOk r (Premise (state g inside).now → Takes HasTaken (IsAnswer (state g inside).now) fresh last)
      → OnOk r (IsTrue (state g new).is_open × (Premise (state g old).now → Takes HasTaken (IsAnswer (state g old).now) fresh last))
  taken_of HasTaken Premise IsAnswer fresh last r opened taken =
      both_ok _ _ r opened (subst (λ (c : Held S). OnOk r (Premise (state g c).now → Takes HasTaken (IsAnswer (state g c).now) fresh last)) same_conn taken)
