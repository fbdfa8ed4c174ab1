use Rattle.std.proofs.Common.{◌≡◌, ◌<◌, ◌^◌, take}
use Rattle.sqlite_record.specs.Serial.{big_endian}
use Rattle.escrow_memory.proofs.narrow.unsigned.Given as goal

abbrev pub invariant-loop-byte : goal.invariant-loop-byte
invariant-loop-byte l = (l.bits ≡ big_endian (take l.byte-index l.bytes)) × (l.bits < 256 ^ l.byte-index)
