use Rattle.std.proofs.Common.{◌≡◌, [], ◌∷◌, ◌++◌, ap, subst}
use Rattle.std.specs.Prelude.{List}
use Rattle.escrow_shards.specs.declared.pass.Receipt.{Receipt}
use Rattle.escrow_shards.specs.Pass.{Pass}
use Rattle.escrow_shards.proofs.Kept.{kept_last}
use Rattle.escrow_shards.proofs.shared.Shared.call_gated.Goals as goal

pub returns-in-Ok-serve : goal.returns-in-Ok-serve
returns-in-Ok-serve g c =
    let inside = c.pass.inside in
    let served = c.in-Ok-serve.served in
    let last = kept_last served.number inside.receipts.items c.reserve.new.self.items c.push_reserved.new.self.items c.args.statement.now c.in-Ok.statement_kept served.reply served.kept
    c.push_reserved.ensures.items c.reserve.ensures.items c.in-Ok.ensures.same c.in-Ok-serve.ensures.kept in (
      c.in-Ok-serve.ensures.answers,
      (
        served.number,
        subst
            (λ (old : Pass).
            let new : Pass = record { database = inside.database; session = inside.session; receipts = c.push_reserved.new.self.items } in
            new ≡ record { database = old.database; session = old.session; receipts = old.receipts ++ (record { number = served.number; statement = c.args.statement.now; reply = served.reply }) ∷ [] })
            c.pass.view_is
            (ap (λ (l : List Receipt). let seat : Pass = record { database = inside.database; session = inside.session; receipts = l } in seat) last),
      ),
    )
