use Rattle.std.proofs.Common.{length, inl}
use Rattle.std.specs.Prelude.{Option, Some, None, IfNone}
use Rattle.std.proofs.lemmas.Option.{IfSome_then}
use Rattle.escrow_shards.proofs.NoPass.{of_no_pass}
use Rattle.escrow_shards.proofs.Places.{all_among}
use Rattle.escrow_shards.proofs.Wholes.{whole_from}
use Rattle.escrow_shards.proofs.close.findings.cause_of.Goals as goal

pub lacks_receipts-requires : goal.lacks_receipts-requires
lacks_receipts-requires g c =
    all_among (length c.args.closed.now) c.args.sessions c.args.passes.now (c.are_all_passes.ensures.0 c.if-not-are_all_passes.false).none_else

-- a fact that holds if nothing is found
none_then : {X : Type 0} (r : Option X) {P Q : Type 0} → IfNone r P → (P → Q) → IfNone r Q
none_then None held f = f held
none_then (Some x) held f = tt

pub returns-clause-none : goal.returns-clause-none
returns-clause-none g c =
    none_then c.lacks_pass.result c.lacks_pass.ensures.none (λ asked. record {
      all_seats = c.are_all_passes.ensures.0 c.if-not-are_all_passes.false;
      each = λ d x found. whole_from g.S.Store d c.args.parts.now x (c.in_default.ensures.none d x found);
      receipts = c.in_default-lacks_receipts.ensures.none;
      asked = asked;
    })

pub returns-in-Some-lacks_receipts-clause-some : goal.returns-in-Some-lacks_receipts-clause-some
returns-in-Some-lacks_receipts-clause-some g c = (
  c.are_all_passes.ensures.0 c.if-not-are_all_passes.false,
  (
    (λ d x below found. (c.in_default.ensures.none d x found).whole),
    inl (rw (c.database.ensures, c.session.ensures.session) c.in-Some-lacks_receipts.ensures.some),
  ),
)

pub returns-clause-some : goal.returns-clause-some
returns-clause-some g c =
    IfSome_then c.lacks_pass.result c.lacks_pass.ensures.some (λ cause found.
    of_no_pass c.args.sessions c.args.passes.now c.args.parts.now c.args.closed.now cause (c.are_all_passes.ensures.0 c.if-not-are_all_passes.false)
    (λ d x below found. (c.in_default.ensures.none d x found).whole) c.in_default-lacks_receipts.ensures.none found)
