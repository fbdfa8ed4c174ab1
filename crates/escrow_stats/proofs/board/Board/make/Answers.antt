use Rattle.std.proofs.Common.{◌∷◌, [], ◌+◌, List, length, sym, ap, subst, ◌∙◌}
use Rattle.std.specs.Prelude.{All}
use Rattle.std.proofs.lemmas.List.{length-append}
use Rattle.std.proofs.lemmas.List.Elements.{All-push}
use Rattle.escrow_transcript.specs.declared.base.Base.{Base}
use Rattle.escrow_stats.specs.Watching.{Watcher, IsNewBoard, IsNewWatcher}
use Rattle.escrow_stats.proofs.board.Board.make.Goals as goal

pub loop-preserved : goal.loop-preserved
loop-preserved g c =
    let at = c.loop.invariant in
    let items = c.in-Ok.ensures.items in
    let new : IsNewWatcher c.args.base.now c.in_ok-watcher.watcher = subst (λ (b : Base). IsNewWatcher b c.in_ok-watcher.watcher) at.board.begins c.in_ok-watcher.ensures.watcher in
    record {
      board = subst (IsNewBoard c.args.base.now) (sym c.watcher.ensures.same) at.board;
      made = ap (λ (ws : List Watcher). length ws) items ∙ length-append c.loop.made.items (c.in_ok-watcher.watcher ∷ []) ∙ ap (λ n. n + 1) at.made;
      new = subst (All (IsNewWatcher c.args.base.now)) (sym items) (All-push (IsNewWatcher c.args.base.now) c.loop.made.items c.in_ok-watcher.watcher at.new new);
    }
