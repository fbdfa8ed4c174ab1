use Rattle.std.proofs.Common.{◌≡◌, ◌≤◌, ℕ, length, take, drop}
use Rattle.std.specs.Io.KnownBytes.{Appends}
use Rattle.escrow_script.proofs.written.send_whole.Given as goal

-- the bytes that remain, after those that are sent; nothing is read
abbrev pub invariant-loop-rest : goal.invariant-loop-rest
invariant-loop-rest g l = record {
  so_far : (len : ℕ) × (len ≤ length l.bytes) × (l.rest ≡ drop len l.bytes) × Appends (g.C.Client.sent l.fn.client) (g.C.Client.sent l.client) (take len l.bytes);
  unread : g.C.Client.remaining l.client ≡ g.C.Client.remaining l.fn.client;
  received : g.C.Client.received l.client ≡ g.C.Client.received l.fn.client;
}

abbrev pub decreases-loop-rest : goal.decreases-loop-rest
decreases-loop-rest g l = length l.rest
