use Rattle.std.proofs.Common.{◌≡◌, ◌∷◌, [], ◌<◌, true, false, length, get_or, refl, sym, ◌∙◌, arith}
use Rattle.std.specs.Vec.Iter.{into_iter_items}
use Rattle.std.proofs.lemmas.List.{nil_from_length}
use Rattle.escrow_free.specs.Ranks.{parted, rested}
use Rattle.escrow_free.proofs.Marking.{outbox_taken, outbox_left, any_default}
use Rattle.escrow_free.proofs.parting.part.Goals.{in-Some+then-mark+in_ok-push, in-Some+else-mark+in_ok-push-2, in_default}
use Rattle.escrow_free.proofs.parting.part.Goals as goal

pub loop-mark-preserved : goal.loop-mark-preserved
loop-mark-preserved c =
    let at = c.loop-mark in
    let marks = c.args.marks.now in
    let within : at.mark-index < length marks = omega arith in
    elim c.match-next.branch [
      | in-Some+then-mark+in_ok-push w ↦
          let is : true ≡ get_or marks at.mark-index true = sym w.if-mark.true ∙ any_default marks at.mark-index false true within in
          let steps : into_iter_items at.outboxes ≡ w.in-Some.outbox ∷ into_iter_items c.next.new.self = w.in-Some.ensures.cases.0 in
          record {
            passes =
                rw (w.passes-is, w.in_ok-push.ensures.items)
                (outbox_taken parted marks at.mark-index true (into_iter_items at.outboxes) (w.in-Some.outbox ∷ into_iter_items c.next.new.self) (into_iter_items c.next.new.self) at.passes.items _
                within is steps at.invariant.passes w.in-Some.outbox.pass refl);
            idle =
                rw w.idle-is
                (outbox_left rested marks at.mark-index true (into_iter_items at.outboxes) (w.in-Some.outbox ∷ into_iter_items c.next.new.self) (into_iter_items c.next.new.self) at.idle.items _
                within is steps at.invariant.idle refl);
          }
      | in-Some+else-mark+in_ok-push-2 w ↦
          let is : false ≡ get_or marks at.mark-index false = sym w.if-mark.false in
          let steps : into_iter_items at.outboxes ≡ w.in-Some.outbox ∷ into_iter_items c.next.new.self = w.in-Some.ensures.cases.0 in
          record {
            passes =
                rw w.passes-is
                (outbox_left parted marks at.mark-index false (into_iter_items at.outboxes) (w.in-Some.outbox ∷ into_iter_items c.next.new.self) (into_iter_items c.next.new.self) at.passes.items _
                within is steps at.invariant.passes refl);
            idle =
                rw (w.idle-is, w.in_ok-push-2.ensures.items)
                (outbox_taken rested marks at.mark-index false (into_iter_items at.outboxes) (w.in-Some.outbox ∷ into_iter_items c.next.new.self) (into_iter_items c.next.new.self) at.idle.items _
                within is steps at.invariant.idle w.in-Some.outbox refl);
          }
      | in_default w ↦
          let mark = get_or marks at.mark-index false in
          let is : mark ≡ get_or marks at.mark-index mark = any_default marks at.mark-index false mark within in
          let none : into_iter_items at.outboxes ≡ [] = nil_from_length (into_iter_items at.outboxes) (omega (arith, at.outboxes.rest.ok.0, w.in_default.ensures.cases.0)) in
          let left : into_iter_items c.next.new.self ≡ [] = sym w.in_default.ensures.items ∙ none in
          record {
            passes = rw (w.passes-is, left) (outbox_left parted marks at.mark-index mark (into_iter_items at.outboxes) [] [] at.passes.items _ within is none at.invariant.passes refl);
            idle = rw (w.idle-is, left) (outbox_left rested marks at.mark-index mark (into_iter_items at.outboxes) [] [] at.idle.items _ within is none at.invariant.idle refl);
          }
    ]
