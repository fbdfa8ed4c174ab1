-- Believed: the files of stores.
use Rattle.std.specs.Prelude.{ℕ, ◌+◌, ◌==◌, if◌then◌else◌, List, ◌++◌, codes, decimal}

-- the file of the database at a place: the path, or for each further database the path, a point and its number, from 2
-- on
abbrev pub file_of : List ℕ → ℕ → List ℕ
file_of path place = if place == 0 then path else path ++ codes "." ++ decimal (place + 1)
