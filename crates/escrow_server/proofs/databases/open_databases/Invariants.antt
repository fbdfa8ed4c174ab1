use Rattle.std.proofs.Common.{◌≡◌, vec_len}
use Rattle.escrow_serve.specs.Output.{states_of, HaveCleanDisks}
use Rattle.escrow_server.specs.Program.{AreFound}
use Rattle.escrow_server.proofs.databases.open_databases.Given as goal

-- the databases opened so far, each as its store was found
abbrev pub invariant-loop-place : goal.invariant-loop-place
invariant-loop-place g l = record {
  len : vec_len l.databases ≡ l.place;
  found : HaveCleanDisks g.S.Store l.databases.items → AreFound (g.O.OpenStore.may_hold l.stores) l.place (states_of l.databases.items);
}
