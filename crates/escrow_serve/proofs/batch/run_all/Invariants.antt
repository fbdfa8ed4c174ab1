use Rattle.std.proofs.Common.{◌≡◌, vec_len}
use Rattle.escrow_serve.specs.Output.{HaveCleanDisks}
use Rattle.escrow_serve.proofs.RunLemmas.{RunUpTo}
use Rattle.escrow_serve.proofs.batch.run_all.Given as goal

-- the parts visited so far were run
abbrev pub invariant-loop-place : goal.invariant-loop-place
invariant-loop-place g l = record {
  up : RunUpTo g.S.Store l.fn.databases.items l.databases.items l.fn.parts.items l.parts.items l.place;
  clean : HaveCleanDisks g.S.Store l.databases.items → HaveCleanDisks g.S.Store l.fn.databases.items;
  len : vec_len l.databases ≡ vec_len l.fn.databases;
  parts : vec_len l.parts ≡ vec_len l.fn.parts;
}
