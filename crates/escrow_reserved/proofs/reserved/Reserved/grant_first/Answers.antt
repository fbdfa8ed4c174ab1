use Rattle.std.specs.Prelude.{is_some}
use Rattle.std.proofs.Common.{sym, ap, ◌∙◌}
use Rattle.std.proofs.lemmas.Bool.{false≢true}
use Rattle.escrow_bounds.specs.Counts.{is_counting}
use Rattle.escrow_bounds.proofs.Counting.{counting_is}
use Rattle.escrow_bounds.proofs.LawLemmas.{reserve_counts}
use Rattle.escrow_reserved.proofs.Places.{on_err, refused_same}
use Rattle.escrow_reserved.proofs.reserved.Reserved.grant_first.Goals as goal

pub invariant_of-self-2 : goal.invariant_of-self-2
invariant_of-self-2 c =
    let new = rw (← c.self.view_is) at c.requires.new in
    record {
      counts = reserve_counts c.self.inside.bounds c.make.new.self c.args.row c.args.amounts.now c.args.checks.now c.self.inside.txns.reservations c.self.invariant.counts
          (λ there. absurd (false≢true (sym (ap (λ p. is_some p) new) ∙ there))) (λ _. c.in_ok-at.ensures.made) c.make.ensures.others;
      short = c.self.invariant.short;
    }

pub returns-in_err-hold-clause-same : goal.returns-in_err-hold-clause-same
returns-in_err-hold-clause-same c =
    let new = rw (← c.self.view_is) at c.requires.new in
    let reservations = c.self.inside.txns.reservations in
    let free = sym (counting_is c.self.inside.bounds reservations c.args.row c.self.invariant.counts) ∙ ap (λ p. is_counting p) new in
    rw (← c.self.view_is) (on_err _ c.from_residual-in_err-hold.result
    (refused_same reservations c.args.row c.self.inside.bounds c.make.new.self c.hold.new.self.places free new c.make.ensures.others c.in_err-hold.ensures.releases c.in_err-hold.ensures.others))
