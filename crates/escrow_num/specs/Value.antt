-- Believed: which values hold memory.
use Rattle.std.specs.Prelude.{Bool, true, false}
use Rattle.escrow_num.specs.declared.value.Value.{Value}
use Rattle.escrow_num.specs.declared.value.Value.TheVariants.{Number, Text}

-- whether a value holds memory, which a copy takes too: a text does
abbrev pub holds_memory : Value → Bool
holds_memory (Number amount) = false
holds_memory (Text text) = true
