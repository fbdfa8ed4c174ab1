use Rattle.std.proofs.Common.{◌≡◌, ◌<◌, false, All, length, map, drop, replicate, sym, subst, ap, ap₂, ◌∙◌}
use Rattle.std.proofs.lemmas.List.{take_at, length-map, length-replicate}
use Rattle.escrow_free.specs.Ranks.{marked_by, ranks_from, renamed}
use Rattle.escrow_free.proofs.Ranks.{long_marked, long_ranks}
use Rattle.escrow_free.proofs.marks.rank_outboxes.Goals as goal

pub rename-requires : goal.rename-requires
rename-requires c =
    let items = c.args.items.now.items in
    let ranks = ap length (c.as_slice-3.ensures.value ∙ c.in_ok-ranks.ensures ∙ ap (ranks_from 0) c.as_slice-2.ensures.value) in
    let marks = ap length (c.in_ok-marks.ensures ∙ ap (λ xs. marked_by xs (replicate c.args.outboxes false)) c.as_slice.ensures.value) in
    let long : c.args.outboxes ≡ length c.as_slice-3.result.now =
    sym (ranks ∙ long_ranks 0 c.in_ok-marks.marks.items ∙ marks ∙ long_marked items (replicate c.args.outboxes false) ∙ length-replicate c.args.outboxes false) in
    subst (λ n. All (λ x. x.0 < n) c.as_mut_slice.result.now) long (subst (λ xs. All (λ x. x.0 < c.args.outboxes) xs) (sym c.as_mut_slice.ensures.value) c.requires)

pub returns-clause-marks : goal.returns-clause-marks
returns-clause-marks c = c.in_ok-marks.ensures ∙ ap (λ xs. marked_by xs (replicate c.args.outboxes false)) c.as_slice.ensures.value

pub returns-clause-items : goal.returns-clause-items
returns-clause-items c =
    let items = c.args.items.now.items in
    let long : c.args.items.now.len ≡ length c.rename.new.items =
    c.args.items.now.ok.0 ∙ sym (ap length c.rename.ensures ∙ length-map c.as_mut_slice.result.now (renamed c.as_slice-3.result.now) ∙ ap length c.as_mut_slice.ensures.value) in
    let ranks = c.as_slice-3.ensures.value ∙ c.in_ok-ranks.ensures ∙ ap (ranks_from 0) c.as_slice-2.ensures.value in
    take_at c.rename.new.items (drop (length c.rename.new.items) items) c.args.items.now.len (sym long) ∙ c.rename.ensures ∙ ap₂ (λ rs xs. map (renamed rs) xs) ranks c.as_mut_slice.ensures.value
