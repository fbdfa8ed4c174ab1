use Rattle.std.proofs.Common.{◌≡◌, ◌<◌, false, All, length, map, replicate, sym, subst, ap, ap₂, ◌∙◌}
use Rattle.std.specs.List.{AllByRecursion}
use Rattle.escrow_shards.specs.Shared.{HasPass}
use Rattle.escrow_free.specs.Outboxes.{ArePassesServed, AreServed}
use Rattle.escrow_free.specs.Ranks.{marked_by, ranks_from, renamed, parted, rested, merged}
use Rattle.escrow_free.proofs.Ranks.{marks_over, parted_seats, renamed_within, all_served}
use Rattle.escrow_free.proofs.phase.serve_requests.Goals as goal

pub rank_outboxes-requires : goal.rank_outboxes-requires
rank_outboxes-requires g c = subst (λ n. All (λ x. x.0 < n) c.args.items.items) (sym (c.len.ensures ∙ c.args.outboxes.ok.0)) c.requires.places

pub serve_passes-requires-clause-seats : goal.serve_passes-requires-clause-seats
serve_passes-requires-clause-seats g c κs within =
    subst (AllByRecursion (HasPass c.args.shared.now)) (sym c.in_ok-passes.ensures.passes) (parted_seats c.args.shared.now c.as_slice.result.now c.args.outboxes.items c.requires.seats)

pub serve_passes-requires-clause-places : goal.serve_passes-requires-clause-places
serve_passes-requires-clause-places g c κs within =
    let outboxes = c.args.outboxes.items in
    let items = c.args.items.items in
    let are : c.in_ok-marks.marks.items ≡ marks_over outboxes items = c.in_ok-marks.ensures.marks ∙ ap (λ n. marked_by items (replicate n false)) (c.len.ensures ∙ c.args.outboxes.ok.0) in
    let named = c.in_ok-marks.ensures.items ∙ ap (λ m. map (renamed (ranks_from 0 m)) items) are in
    let passes = c.in_ok-passes.ensures.passes ∙ ap (λ m. parted m outboxes) (c.as_slice.ensures.value ∙ are) in
    subst (λ xs. All (λ x. x.0 < length c.in_ok-passes.passes.items) xs) (sym named)
    (subst (λ ps. All (λ x. x.0 < length ps) (map (renamed (ranks_from 0 (marks_over outboxes items))) items)) (sym passes) (renamed_within outboxes items c.requires.places))

pub returns : goal.returns
returns g c =
    let outboxes = c.args.outboxes.items in
    let items = c.args.items.items in
    let are : c.in_ok-marks.marks.items ≡ marks_over outboxes items = c.in_ok-marks.ensures.marks ∙ ap (λ n. marked_by items (replicate n false)) (c.len.ensures ∙ c.args.outboxes.ok.0) in
    let named = c.in_ok-marks.ensures.items ∙ ap (λ m. map (renamed (ranks_from 0 m)) items) are in
    let passes = c.in_ok-passes.ensures.passes ∙ ap (λ m. parted m outboxes) (c.as_slice.ensures.value ∙ are) in
    let idle : c.in_ok-passes.idle.items ≡ rested (marks_over outboxes items) outboxes = c.in_ok-passes.ensures.idle ∙ ap (λ m. rested m outboxes) (c.as_slice.ensures.value ∙ are) in
    let served = c.in_ok-served.served.items in
    let ended : c.in_ok-outboxes.outboxes.items ≡ merged (marks_over outboxes items) served (rested (marks_over outboxes items) outboxes) =
    c.in_ok-outboxes.ensures ∙ ap₂ (λ m i. merged m served i) (c.as_slice-2.ensures.value ∙ are) idle in
    let its : ArePassesServed (parted (marks_over outboxes items) outboxes) (map (renamed (ranks_from 0 (marks_over outboxes items))) items) served =
    subst (λ ps. ArePassesServed ps (map (renamed (ranks_from 0 (marks_over outboxes items))) items) served) passes (subst (λ xs. ArePassesServed c.in_ok-passes.passes.items xs served) named c.in_ok-served.ensures) in
    subst (AreServed outboxes items) (sym ended) (all_served outboxes items c.requires.places served its)
