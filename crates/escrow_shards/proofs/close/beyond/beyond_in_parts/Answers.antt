use Rattle.std.proofs.Common.{◌∙◌, sym}
use Rattle.escrow_shards.specs.Whole.{IsOfSessions}
use Rattle.escrow_shards.proofs.NoPass.{all_here, none_at}
use Rattle.escrow_shards.proofs.close.beyond.beyond_in_parts.Goals as goal

pub returns-in-Some-clause-some : goal.returns-in-Some-clause-some
returns-in-Some-clause-some g c =
    let said = rw c.entries.ensures at c.in-Some.ensures.some in
    let of = sym c.is_of.ensures ∙ c.if-not-is_of.false in (
      said.0,
      λ none.
          said.1 (none_at c.args.database c.args.parts.now c.loop-part.part-index c.in-Some.session c.part-item.result c.loop-part-test.true c.part-item.is of
          (c.loop-part.invariant.none c.in-Some.session) none).0,
    )

pub loop-part-preserved : goal.loop-part-preserved
loop-part-preserved g c =
    let d = c.args.database in
    let parts = c.args.parts.now in
    let i = c.loop-part.part-index in
    let p = c.part-item.result in
    let of = sym c.is_of.ensures ∙ c.if-not-is_of.false in
    record {
      all = all_here d parts (IsOfSessions c.args.sessions) i p c.loop-part-test.true c.part-item.is of (rw c.entries.ensures at c.in_default.ensures.none) c.loop-part.invariant.all;
      none = λ k none. (none_at d parts i k p c.loop-part-test.true c.part-item.is of (c.loop-part.invariant.none k) none).1;
    }
