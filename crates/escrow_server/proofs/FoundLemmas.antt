-- The states in which databases begin, by the contents of their stores.
use Rattle.std.proofs.Common.{◌≡◌, ◌≢◌, ◌⊎◌, ℕ, Bool, true, zero, suc, ◌+◌, List, [], ◌∷◌, ◌++◌, length, Some, arith, refl, sym, ap, ap₂, subst, ◌∙◌, inl, inr}
use Rattle.std.specs.Prelude.{Result, Ok, Err, IsTrue, OnOk, is_ok, is_err, if◌then◌else◌, false, slice_get, replicate}
use Rattle.std.proofs.lemmas.Bool.{true≢false}
use Rattle.sqlite.specs.Effect.{Database as Stored}
use Rattle.sqlite.specs.Held.{state}
use Rattle.sqlite_schema.specs.declared.schema.Index.{Index}
use Rattle.sqlite_schema.specs.declared.schema.Schema.{Schema}
use Rattle.sqlite_schema.specs.declared.schema.Table.{Table}
use Rattle.sqlite_schema.specs.declared.schema.View.{View}
use Rattle.sqlite_trees.specs.declared.store.Store.{Ghosts}
use Rattle.escrow_cells.specs.Store.{HasTables}
use Rattle.escrow_cells.specs.Tables.{no_schema}
use Rattle.sqlite.specs.State.{HasCleanDisk}
use Rattle.escrow_recover.specs.Holds.{Holds}
use Rattle.escrow_recover.specs.Migrated.{HoldsInFormat1}
use Rattle.escrow_core.specs.Database.{Database}
use Rattle.escrow_machine.specs.State.{State, empty}
use Rattle.escrow_server.specs.declared.fault.RunFault.{RunFault}
use Rattle.escrow_server.specs.Opened.{IsOpened}
use Rattle.escrow_serve.specs.Output.{HaveCleanDisks, states_of}
use Rattle.escrow_server.specs.Program.{empty_states, AreFound, IsFound, StartsAs}

-- a store held the same before it was opened, in the known format or in the previous one
pub held_either : (s : State) (old new : Stored) (migrated : Bool) → Holds s.catalog s.rows new → (migrated ≡ false → new ≡ old)
    → (IsTrue migrated → HoldsInFormat1 s.catalog s.rows old) → Holds s.catalog s.rows old ⊎ HoldsInFormat1 s.catalog s.rows old
held_either s old new false holds same before = inl (subst (Holds s.catalog s.rows) (same refl) holds)
held_either s old new true holds same before = inr (before refl)

-- a schema is empty or not
pub bare_or : (schema : Schema) → (schema ≡ no_schema) ⊎ (schema ≢ no_schema)
bare_or schema = by schema.tables schema.indexes schema.views refl refl refl
  where
    by : (tables : List Table) (indexes : List Index) (views : List View) → schema.tables ≡ tables → schema.indexes ≡ indexes → schema.views ≡ views
        → (schema ≡ no_schema) ⊎ (schema ≢ no_schema)
    by [] [] [] t i v =
        inl (ap (λ (ts : List Table). record schema { tables = ts }) t ∙ ap (λ (is : List Index). record { tables = []; indexes = is; views = schema.views }) i
        ∙ ap (λ (vs : List View). record { tables = []; indexes = []; views = vs }) v)
    by (x ∷ tables) indexes views t i v = inr (λ none. let e : [] ≡ x ∷ tables = sym (ap (λ (s : Schema). s.tables) none) ∙ t in cc)
    by [] (x ∷ indexes) views t i v = inr (λ none. let e : [] ≡ x ∷ indexes = sym (ap (λ (s : Schema). s.indexes) none) ∙ i in cc)
    by [] [] (x ∷ views) t i v = inr (λ none. let e : [] ≡ x ∷ views = sym (ap (λ (s : Schema). s.views) none) ∙ v in cc)

-- ONE MORE DATABASE

-- what a successful push makes
pub if_pushed : {A X Z : Type 0} (r : Result X Z) (new more old : A) → is_err r ≡ false → new ≡ (if is_ok r then more else old) → new ≡ more
if_pushed (Ok x) new more old ok e = e
if_pushed (Err z) new more old ok e = absurd (true≢false ok)

each_more : (P : ℕ → State → Type 0) (states : List State) (s : State) → ((place : ℕ) (t : State) → slice_get states place ≡ Some t → P place t) → P (length states) s
    → (place : ℕ) (t : State) → slice_get (states ++ s ∷ []) place ≡ Some t → P place t
each_more P [] s each here zero t found = let same : s ≡ t = cc in subst (P zero) same here
each_more P [] s each here (suc place) t found = absurd (cc)
each_more P (first ∷ states) s each here zero t found = each zero t found
each_more P (first ∷ states) s each here (suc place) t found = each_more (λ p. P (suc p)) states s (λ p u at. each (suc p) u at) here place t found

states_more : {S : Type 0} (databases : List (Database S)) (d : Database S) → states_of (databases ++ d ∷ []) ≡ states_of databases ++ d.state ∷ []
states_more [] d = refl
states_more (first ∷ databases) d = ap (λ (rest : List State). first.state ∷ rest) (states_more databases d)

clean_more : {S : Type 0} (g : Ghosts S) (databases : List (Database S)) (d : Database S) → HaveCleanDisks g (databases ++ d ∷ []) → HaveCleanDisks g databases × HasCleanDisk (state g d.store)
clean_more g [] d used = (tt, used.0)
clean_more g (first ∷ databases) d used = let rest = clean_more g databases d used.1 in ((used.0, rest.0), rest.1)

length_more : (states : List State) (s : State) → length (states ++ s ∷ []) ≡ length states + 1
length_more [] s = refl
length_more (first ∷ states) s = let rest = length_more states s in omega (arith, rest)

pub found_none : (may_hold : ℕ → Stored → Type 0) → AreFound may_hold 0 []
found_none may_hold = record { length_is = refl; each = λ place s found. absurd (cc) }

pub found_more : {S : Type 0} (g : Ghosts S) (may_hold : ℕ → Stored → Type 0) (count : ℕ) (databases : List (Database S)) (d : Database S)
    → (HaveCleanDisks g databases → AreFound may_hold count (states_of databases)) → (HasCleanDisk (state g d.store) → IsFound (may_hold count) d.state)
    → HaveCleanDisks g (databases ++ d ∷ []) → AreFound may_hold (count + 1) (states_of (databases ++ d ∷ []))
found_more g may_hold count databases d are is used =
    let parts = clean_more g databases d used in
    let found = are parts.0 in
    subst (AreFound may_hold (count + 1)) (sym (states_more databases d))
    (record {
      length_is = omega (arith, length_more (states_of databases) d.state, found.length_is);
      each = each_more (λ place. IsFound (may_hold place)) (states_of databases) d.state found.each
          (subst (λ (n : ℕ). IsFound (may_hold n) d.state) (sym found.length_is) (is parts.1));
    })

-- IN MEMORY

no_tables : (schema : Schema) → schema ≡ no_schema → HasTables schema → ⊥
no_tables schema none has = let e : no_schema ≡ schema = sym none in let tables = ap (λ (s : Schema). s.tables) (e ∙ has.is) in cc

no_store : (s : State) (db : Stored) → db.schema ≡ no_schema → Holds s.catalog s.rows db ⊎ HoldsInFormat1 s.catalog s.rows db → ⊥
no_store s db none (inl holds) = no_tables db.schema none holds.image.store.tables
no_store s db none (inr before) = no_tables db.schema none before.store.store.image.store.tables

begins_empty : (db : Stored) (s : State) → db.schema ≡ no_schema → StartsAs db s → s ≡ empty
begins_empty db s none (inl bare) = bare.1
begins_empty db s none (inr holds) = absurd (no_store s db none holds.0)

all_empty : (states : List State) → ((place : ℕ) (s : State) → slice_get states place ≡ Some s → s ≡ empty) → states ≡ replicate (length states) empty
all_empty [] each = refl
all_empty (s ∷ states) each =
    ap₂ (λ (first : State) (rest : List State). first ∷ rest) (each zero s refl) (all_empty states (λ place t found. each (suc place) t found))

-- stores without objects give databases without tables
pub found_empty : (count : ℕ) (states : List State) → AreFound (λ _ db. db.schema ≡ no_schema) count states → states ≡ empty_states count
found_empty count states found =
    all_empty states (λ place s at. let is = found.each place s at in begins_empty is.0 s is.1 is.2)
    ∙ ap (λ (n : ℕ). replicate n empty) found.length_is

-- they do so too if all of them were opened
pub opened_empty : {S : Type 0} (g : Ghosts S) (result : Result (Unit {0}) RunFault) (databases : List (Database S)) (count : ℕ)
    → (HaveCleanDisks g databases → OnOk result (AreFound (λ _ db. db.schema ≡ no_schema) count (states_of databases)))
    → (states : List State) → IsOpened g result databases states → states ≡ empty_states count
opened_empty g (Ok done) databases count found states is = is.2 ∙ found_empty count (states_of databases) (found is.1)
opened_empty g (Err fault) databases count found states is = absurd (true≢false (sym is.0))
