-- Believed: an SQLite database without objects.
use Rattle.std.specs.Prelude.{[]}
use Rattle.sqlite_schema.specs.declared.schema.Schema.{Schema}

abbrev pub no_objects : Schema
no_objects = record { tables = []; indexes = []; views = [] }
