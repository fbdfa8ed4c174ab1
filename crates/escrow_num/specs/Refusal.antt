-- Believed: each refusal's number, the refusal for each failure, and the first refusal of several.
use Rattle.std.specs.Prelude.{ℕ, Bool, if◌then◌else◌, Option, Some, None, List, [], ◌∷◌}
use Rattle.escrow_num.specs.Span.{first_of_two}
use Rattle.escrow_num.specs.declared.failure.Failure.{Failure}
use Rattle.escrow_num.specs.declared.failure.Failure.TheVariants as failure
use Rattle.escrow_num.specs.declared.refusal.Refusal.{Refusal}
use Rattle.escrow_num.specs.declared.refusal.Refusal.TheVariants as refusal

-- the number that each refusal is known by
abbrev pub number_of : Refusal → ℕ
number_of (refusal.Syntax column) = 11
number_of refusal.Line = 12
number_of refusal.TableExists = 20
number_of refusal.NoSuchTable = 21
number_of refusal.BadDefinition = 22
number_of refusal.BadValue = 23
number_of refusal.BadAssignment = 24
number_of refusal.NotTheKey = 25
number_of refusal.TransactionOpen = 26
number_of refusal.NoSuchConstraint = 27
number_of refusal.RowExists = 30
number_of refusal.NoSuchRow = 31
number_of refusal.RowReserved = 32
number_of refusal.TableReserved = 33
number_of refusal.TableFull = 34
number_of refusal.TooManyTables = 35
number_of (refusal.Check violation) = 41
number_of refusal.TooManyReservations = 42
number_of refusal.NoSuchSavepoint = 43
number_of refusal.TooManySavepoints = 44
number_of refusal.NoMoreIds = 45
number_of refusal.Memory = 51
number_of refusal.TranscriptFull = 52
number_of refusal.Store = 60
number_of refusal.ForeignStore = 61
number_of refusal.UnknownVersion = 62

-- if memory is refused, the answer is 51; for any other failure it is 60
abbrev pub refusal_for : Failure → Refusal
refusal_for failure.Memory = refusal.Memory
refusal_for failure.Store = refusal.Store

-- a refusal, if a test holds
abbrev pub refuse_if : Bool → Refusal → Option Refusal
refuse_if test refusal = if test then Some refusal else None

-- the first refusal in a list, if it has one
abbrev pub first_refusal : List (Option Refusal) → Option Refusal
first_refusal [] = None
first_refusal (refusal ∷ refusals) = first_of_two refusal (first_refusal refusals)
