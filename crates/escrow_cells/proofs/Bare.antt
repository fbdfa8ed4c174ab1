-- A SELECT has no RETURNING under any schema, so a query of it writes nothing.
use Rattle.std.proofs.Common.{◌≡◌, ℕ, true, false, cond, List, None, Ok, Err, refl, subst}
use Rattle.sqlite_schema.specs.declared.schema.Schema.{Schema}
use Rattle.sqlite_schema.specs.declared.command.Command.{Command}
use Rattle.sqlite_syntax.specs.declared.statement.Parsed.{Parsed}
use Rattle.sqlite_resolve.specs.declared.compiled.Compiled.{Compiled}
use Rattle.sqlite_resolve.specs.declared.error.CompileError.{CompileError}
use Rattle.sqlite_resolve.specs.Compile.{compiled, planned, meaning, first, returning, with_command}
use Rattle.sqlite_resolve.specs.Lowering.{Checked, and_then}
use Rattle.sqlite.specs.Listing.{understood, reads_listing, if_select, is_select, listing_schema}
use Rattle.escrow_cells.specs.Query.{IsReading}

-- the grammar reads a statement without RETURNING
abbrev pub IsBareRead : Checked Parsed → Type 0
IsBareRead (Ok p) = (schema : Schema) (base : ℕ) → returning schema base p.statement ≡ Ok None
IsBareRead (Err e) = ⊥

abbrev HasNoReturning : Checked Compiled → Type 0
HasNoReturning (Ok c) = c.returning ≡ None
HasNoReturning (Err e) = Unit {0}

-- the last step of compiling
finished : (p : Parsed) (formats : List (List ℕ)) (k : Checked Command)
    → HasNoReturning (and_then (and_then (and_then k (λ c. Ok (c, None))) (λ found. Ok (formats, found))) (λ plan. Ok (with_command p plan)))
finished p formats (Ok k) = refl
finished p formats (Err e) = tt

planned_bare : (schema : Schema) (r : Checked Parsed) → IsBareRead r → HasNoReturning (and_then r (λ p. and_then (planned schema p) (λ plan. Ok (with_command p plan))))
unfolding planned meaning
planned_bare schema (Ok p) h = rw h (finished p _ _)
planned_bare schema (Err e) h = absurd h

compiled_bare : (schema : Schema) (text : List ℕ) → IsBareRead (first text) → HasNoReturning (compiled schema text)
unfolding compiled
compiled_bare schema text h = planned_bare schema (first text) h

if_select_bare : (r : Checked Compiled) → HasNoReturning r → HasNoReturning (if_select r)
if_select_bare (Ok c) h = elim (is_select c.command) as (λ b. HasNoReturning (cond b (Ok c) (if_select (Err CompileError.NoSuchTable)))) [ true ↦ h | false ↦ tt ]
if_select_bare (Err e) h = tt

understood_bare : (schema : Schema) (text : List ℕ) → IsBareRead (first text) → HasNoReturning (understood schema text)
unfolding understood
understood_bare schema text h =
    elim (reads_listing schema text) as (λ b. HasNoReturning (cond b (if_select (compiled listing_schema text)) (compiled schema text))) [
      | true ↦ if_select_bare _ (compiled_bare listing_schema text h)
      | false ↦ compiled_bare schema text h
    ]

pub is_reading : (text : List ℕ) → IsBareRead (first text) → IsReading text
is_reading text h schema c is = subst HasNoReturning is (understood_bare schema text h)
