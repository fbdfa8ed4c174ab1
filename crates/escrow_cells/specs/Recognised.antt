-- Helps: what private contracts say of a schema. No contract of a public call uses it.
use Rattle.std.specs.Prelude.{◌≡◌, false, []}
use Rattle.sqlite_schema.specs.declared.schema.Table.{Table}

-- a table has no CHECK, no foreign key, no computed default and no AUTOINCREMENT
pub record IsUnruled (t : Table) : Type 0 where
  pub unchecked : t.checks ≡ []
  pub no_keys : t.references ≡ []
  pub uncomputed : t.computed ≡ []
  pub unstamped : t.stamps ≡ record { places = []; terms = []; formats = [] }
  pub uncounted : t.is_counted ≡ false
