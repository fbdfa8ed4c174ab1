use Rattle.std.proofs.Common.{◌≡◌, ◌+◌, ◌∷◌, [], ◌++◌, take, ap, ◌∙◌, sym, arith}
use Rattle.std.proofs.lemmas.List.{take_more}
use Rattle.escrow_shards.specs.Opening.{Opening}
use Rattle.escrow_shards.proofs.Watching.{boards_more, is_new_board, watchers_more}
use Rattle.escrow_shards.proofs.make.boards_of.Goals as goal

pub loop-start-preserved : goal.loop-start-preserved
loop-start-preserved g c =
    let i = c.loop-start.start-index in
    let starts = c.args.starts.now in
    let start : Opening g.row.S.Denot = c.start-item.result in
    let more : take (i + 1) starts ≡ take i starts ++ start ∷ [] = take_more starts i start (let t = c.loop-start-test.true in let e = c.loop-start.auto.start-index-end in omega (arith, t, e)) ∙ ap (λ (o : Opening g.row.S.Denot). take i starts ++ o ∷ []) (sym c.start-item.is) in
    record {
      boards =
          boards_more (take i starts) (take (i + 1) starts) start c.loop-start.made.boards.items c.push.new.self.items c.in-Ok.board c.loop-start.invariant.boards c.in-Ok-push.ensures.items
          (is_new_board start c.base.result.now c.in-Ok.board c.base.ensures c.in-Ok.ensures.board) more;
      watchers =
          watchers_more c.args.watchers (take i starts) (take (i + 1) starts) start c.base.result.now c.loop-start.made.watchers.items c.in-Ok.new.items c.append.new.self.items
          c.loop-start.invariant.watchers c.in-Ok-append.ensures.items c.base.ensures c.in-Ok.ensures.watchers.0 c.in-Ok.ensures.watchers.1 more;
    }
