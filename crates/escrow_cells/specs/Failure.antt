-- Believed: how an error of SQLite is reported.
use Rattle.sqlite.specs.declared.error.Error.{Error}
use Rattle.sqlite.specs.declared.error.Error.TheVariants.{SqliteFailure}
use Rattle.sqlite.specs.declared.error.ErrorCode.TheVariants.{OutOfMemory}
use Rattle.escrow_num.specs.declared.failure.Failure.{Failure}
use Rattle.escrow_num.specs.declared.failure.Failure.TheVariants.{Memory, Store}

-- refused memory is reported as that, and any other error as the store's refusal
abbrev pub failure_of : Error → Failure
failure_of (SqliteFailure OutOfMemory) = Memory
failure_of _ = Store
