use Rattle.std.proofs.Common.{◌≡◌, length, map, refl, sym, ap, ◌∙◌, subst}
use Rattle.escrow_num.specs.declared.refusal.Refusal.TheVariants as refusal
use Rattle.escrow_shards.specs.declared.make.Unshared.TheVariants as unshared
use Rattle.escrow_shards.specs.Opened.{database_at, AreRead}
use Rattle.escrow_shards.specs.Shared.{Shared}
use Rattle.escrow_shards.proofs.NewPasses.{all_have_seats}
use Rattle.escrow_shards.proofs.UnderLocks.{as_many, few_of}
use Rattle.escrow_shards.proofs.shared.Shared+S.make.Goals as goal

pub returns-in-Ok-clause-opened : goal.returns-in-Ok-clause-opened
returns-in-Ok-clause-opened g c =
    subst (λ ds. AreRead g.S.Store c.args.databases.items ds) (sym c.in-Ok.ensures.starts ∙ ap (λ bs. map database_at bs) (sym c.into_shards-shards.ensures)) c.in-Ok.ensures.read

pub invariant_of-shared : goal.invariant_of-shared
invariant_of-shared g c =
    few_of _ _ _ _ _ _ c.into_shards-shards.result.ok.0
    (as_many c.into_shards-shards.result.items c.in-Ok.ready.starts.items c.prepare.new.databases.items c.into_shards-shards.ensures c.in-Ok.ensures.starts)
    c.prepare.new.databases.ok.0 c.in-Ok.ensures.len c.requires.databases.1

pub returns-in-Ok-clause-seats : goal.returns-in-Ok-clause-seats
returns-in-Ok-clause-seats g c =
    let sharing : Shared g.row.S.Denot = record { openings = c.into_shards-shards.result.items; sessions = c.args.sessions } in
    all_have_seats sharing (length c.args.databases.items) c.args.sessions c.in-Ok.ready.passes.items
    (as_many c.into_shards-shards.result.items c.in-Ok.ready.starts.items c.prepare.new.databases.items c.into_shards-shards.ensures c.in-Ok.ensures.starts
    ∙ sym c.prepare.new.databases.ok.0 ∙ c.prepare.ensures.len ∙ c.args.databases.ok.0)
    refl c.in-Ok.ensures.passes

pub returns-in-Err-clause-open : goal.returns-in-Err-clause-open
returns-in-Err-clause-open g c =
    (λ is. let same : c.in-Err.refusal ≡ refusal.TransactionOpen = cc in c.in-Err.ensures.open.0 same, λ opened. ap unshared.Refused (c.in-Err.ensures.open.1 opened))
