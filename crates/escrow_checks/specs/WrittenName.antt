-- Believed: which names a statement can write.
use Rattle.std.specs.Prelude.{ℕ, Bool, ◌&&◌, nat_le, is_none, List, length}
use Rattle.escrow_num.specs.Name.{spells_name}
use Rattle.escrow_num.specs.declared.name.TheConstants.Name.{MAX_WRITTEN}
use Rattle.escrow_statement.specs.Word.{reserved}

-- a name that a statement can write is spelled as one, has at most 30 bytes and is no reserved word
unfoldable pub is_written_name : List ℕ → Bool
is_written_name name = spells_name name && nat_le (length name) MAX_WRITTEN && is_none (reserved name)
