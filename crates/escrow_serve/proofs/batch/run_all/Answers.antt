use Rattle.std.proofs.Common.{◌<◌, arith, vec_len}
use Rattle.std.proofs.lemmas.Option.{slice_get_read}
use Rattle.sqlite.specs.Held.{state}
use Rattle.sqlite.specs.State.{HasCleanDisk}
use Rattle.escrow_serve.proofs.Elements.{all_after, all_before}
use Rattle.escrow_serve.proofs.RunLemmas.{run_all, run_more}
use Rattle.escrow_serve.proofs.batch.run_all.Goals as goal

pub loop-place-preserved : goal.loop-place-preserved
loop-place-preserved g c =
    let so_far = c.loop-place.invariant in
    let place = c.loop-place.place in
    let databases = c.loop-place.databases in
    let parts = c.loop-place.parts in
    let old = c.index_mut-in-loop-place.result.now in
    let part = c.index_mut.result.now in
    let below : place < vec_len databases = omega (arith, c.loop-place-test.true, c.len-place-end.ensures, c.requires, so_far.len) in
    let found = slice_get_read databases.items (vec_len databases) place old databases.ok.0 below c.index_mut-in-loop-place.ensures.value in
    let has = slice_get_read parts.items (vec_len parts) place part parts.ok.0 (omega (arith, c.loop-place-test.true, c.len-place-end.ensures, so_far.parts)) c.index_mut.ensures.value in
    record {
      up = run_more g.S.Store c.args.databases.now.items databases.items c.args.parts.now.items parts.items place old c.run.new.database part c.run.new.self found has c.run.ensures.ran so_far.up;
      clean = λ used.
          let after = all_after (λ d. HasCleanDisk (state g.S.Store d.store)) databases.items place c.run.new.database (omega (arith, below, databases.ok.0)) used in
          so_far.clean (all_before (λ d. HasCleanDisk (state g.S.Store d.store)) databases.items place old c.run.new.database found (c.run.ensures.clean after) used);
      len = so_far.len;
      parts = so_far.parts;
    }

pub returns-clause-ran : goal.returns-clause-ran
returns-clause-ran g c =
    run_all g.S.Store c.args.databases.now.items c.loop-place.databases.items c.args.parts.now.items c.loop-place.parts.items c.loop-place.place
    (omega (arith, c.loop-place-test.false, c.len-place-end.ensures, c.requires, c.args.databases.now.ok.0)) c.loop-place.invariant.up
