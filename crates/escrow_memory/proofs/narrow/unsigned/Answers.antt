use Rattle.std.proofs.Common.{◌^◌, ◌≤◌, arith, rules}
use Rattle.std.proofs.Math.Nat.{pow-le-pow_right}
use Rattle.escrow_memory.proofs.narrow.unsigned.Goals as goal

pub overflow_mul-bits : goal.overflow_mul-bits
overflow_mul-bits c =
    let cap : 256 ^ c.loop-byte.byte-index ≤ 256 ^ 7 = pow-le-pow_right (omega arith) (let h : c.loop-byte.byte-index ≤ 7 = omega arith in h) in search rules

pub overflow_add-bits : goal.overflow_add-bits
overflow_add-bits c =
    let cap : 256 ^ c.loop-byte.byte-index ≤ 256 ^ 7 = pow-le-pow_right (omega arith) (let h : c.loop-byte.byte-index ≤ 7 = omega arith in h) in search rules
