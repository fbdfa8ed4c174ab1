use Rattle.std.proofs.Common.{◌≡◌, sym, ap, ◌∙◌}
use Rattle.escrow_stats.specs.declared.shown.Post.{Post}
use Rattle.escrow_stats.specs.declared.tally.Tally.{Tally}
use Rattle.escrow_stats.proofs.Posting.{first_board, of_ok}
use Rattle.escrow_stats.proofs.Rule.{begins, last_post, names}
use Rattle.escrow_stats.proofs.board.Board.begin.Goals as goal

pub new-requires-2-clause-rule : goal.new-requires-2-clause-rule
new-requires-2-clause-rule g c =
    let first = c.first.ensures in
    begins g.S.Store c.args.base.now c.first.result
    (first.totals ∙ sym (ap (λ (p : Post). p.totals) first.post))
    (record {
      named = ap (λ (p : Post). p.base.value.value) first.post ∙ ap (λ b. b.value) c.of.ensures ∙ c.of-base.ensures;
      totals = ap (λ (p : Post). p.totals) first.post ∙ c.new.ensures;
      count = ap (λ (p : Post). p.count) first.post;
    })

pub publish_as-writer-requires : goal.publish_as-writer-requires
publish_as-writer-requires g c next is =
    let shown = c.in-Ok.writer.desk.shown.value in
    let same : (next.totals, next.post.value) ≡ (shown.totals, shown.post.value) = is ∙ ap (last_post (shown.totals, shown.post.value)) c.in-Ok.ensures.1 in
    names g.S.Store _ _ shown next (ap (λ (t : Tally × Post). t.0) same) (ap (λ (t : Tally × Post). t.1) same)

pub invariant_of-result : goal.invariant_of-result
invariant_of-result g c =
    let first = c.first.ensures in
    let made = c.in-Ok.ensures in
    let named = c.publish_as-writer.ensures in
    let ok = named.succeeds tt in
    let values = of_ok c.publish_as-writer.result.1 _ _ ok named.values in
    first_board c.of-base.result.value c.new-3.result c.first.result c.in-Ok.writer.desk.shown.value c.publish_as-writer.result.0.desk.shown.value _ _ _ _
    (ap (λ (p : Post). p.base.value.value) first.post ∙ ap (λ b. b.value) c.of.ensures)
    (ap (λ (p : Post). p.count) first.post)
    made.0 made.1 made.2 values.0 (of_ok c.publish_as-writer.result.1 _ _ ok named.rule) values.1 c.new-3.ensures
