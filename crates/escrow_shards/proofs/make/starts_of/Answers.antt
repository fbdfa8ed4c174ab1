use Rattle.std.proofs.Common.{refl, ap, map}
use Rattle.escrow_shards.specs.Opened.{database_at}
use Rattle.escrow_shards.proofs.Reading.{read_same, read_set, closed_at}
use Rattle.escrow_shards.proofs.UnderLocks.{so_far_more, bound_at}
use Rattle.escrow_shards.proofs.make.starts_of.Goals as goal

pub start_of-requires : goal.start_of-requires
start_of-requires g c =
    closed_at g.S.Store c.args.databases.now.items c.loop-i.databases.items c.loop-i.i c.index_mut.result.now c.loop-i.invariant.read c.requires
    (bound_at _ _ _ _ _ c.loop-i-test.true c.len-i-end.ensures c.loop-i.invariant.as_long c.loop-i.databases.ok.0) c.index_mut.ensures.value

pub returns-in_err-starts-clause-read : goal.returns-in_err-starts-clause-read
returns-in_err-starts-clause-read g c = read_same g.S.Store c.args.databases.now.items

pub loop-i-init : goal.loop-i-init
loop-i-init g c = record {
  read = read_same g.S.Store c.args.databases.now.items;
  so_far = ap (λ bs. map database_at bs) c.in_ok-starts.ensures.items;
  as_long = refl;
}

pub returns-in_err-start-clause-read : goal.returns-in_err-start-clause-read
returns-in_err-start-clause-read g c =
    read_set g.S.Store c.args.databases.now.items c.loop-i.databases.items c.loop-i.i c.index_mut.result.now c.start_of.new.database c.loop-i.invariant.read
    c.index_mut.ensures.value c.start_of.ensures.read

pub returns-in_err-push-clause-read : goal.returns-in_err-push-clause-read
returns-in_err-push-clause-read g c =
    read_set g.S.Store c.args.databases.now.items c.loop-i.databases.items c.loop-i.i c.index_mut.result.now c.start_of.new.database c.loop-i.invariant.read
    c.index_mut.ensures.value c.start_of.ensures.read

pub loop-i-preserved : goal.loop-i-preserved
loop-i-preserved g c = record {
  read =
      read_set g.S.Store c.args.databases.now.items c.loop-i.databases.items c.loop-i.i c.index_mut.result.now c.start_of.new.database c.loop-i.invariant.read
      c.index_mut.ensures.value c.start_of.ensures.read;
  so_far =
      so_far_more c.loop-i.starts.items c.push.new.self.items c.in_ok-start.start c.loop-i.databases.items c.loop-i.i c.start_of.new.database c.loop-i.invariant.so_far
      c.in_ok-push.ensures.items c.in_ok-start.ensures.start
      (bound_at _ _ _ _ _ c.loop-i-test.true c.len-i-end.ensures c.loop-i.invariant.as_long c.loop-i.databases.ok.0);
  as_long = c.loop-i.invariant.as_long;
}
