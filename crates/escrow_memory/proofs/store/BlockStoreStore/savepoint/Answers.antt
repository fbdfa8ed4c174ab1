use Rattle.std.proofs.Common.{◌≡◌, ◌∷◌, [], ◌++◌, map, unwrap_or, refl}
use Rattle.std.proofs.lemmas.List.{map-append}
use Rattle.escrow_memory.proofs.Views.{failed, same_snapshot}
use Rattle.escrow_memory.specs.Store.{current, snapshot_of, block_view}
use Rattle.escrow_memory.proofs.store.BlockStoreStore.savepoint.Goals as goal

pub returns-in_err-mark-clause-err : goal.returns-in_err-mark-clause-err
returns-in_err-mark-clause-err c = failed c.from_residual.result _ _ refl

pub returns-clause-ok : goal.returns-clause-ok
returns-clause-ok c _ =
    let s = c.args.self.now in
    let (trees, version) = c.in_ok-mark.ensures s.base in
    let seen : snapshot_of (unwrap_or c.in_ok-mark.mark s.base) ≡ snapshot_of (current s) = same_snapshot (unwrap_or c.in_ok-mark.mark s.base) (current s) trees version in
    let marks : map (λ mark. snapshot_of (unwrap_or mark s.base)) c.push.new.self.items ≡ (block_view s).marks ++ snapshot_of (current s) ∷ [] =
    rw (c.in_ok-push.ensures.items, map-append, seen) refl in
    record { sound = c.if-self.false; is = λ i. record (block_view s) { marks = marks i } }
