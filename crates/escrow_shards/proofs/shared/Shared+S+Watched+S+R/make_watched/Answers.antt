use Rattle.std.proofs.Common.{◌≡◌, length, refl, sym, subst, ap, ◌∙◌}
use Rattle.escrow_num.specs.declared.refusal.Refusal.TheVariants as refusal
use Rattle.escrow_shards.specs.declared.make.Unshared.TheVariants as unshared
use Rattle.escrow_shards.specs.Shared.{Shared}
use Rattle.escrow_shards.specs.Watchers.{AreNewWatchers}
use Rattle.escrow_shards.proofs.NewPasses.{all_have_seats}
use Rattle.escrow_shards.proofs.Reading.{read_same}
use Rattle.escrow_shards.proofs.UnderLocks.{as_many, few_of}
use Rattle.escrow_shards.proofs.Watching.{unwatched_is}
use Rattle.escrow_shards.proofs.shared.Shared+S+Watched+S+R.make_watched.Goals as goal

pub returns-then-watchers-gt-MAX_WATCHERS-clause-back : goal.returns-then-watchers-gt-MAX_WATCHERS-clause-back
returns-then-watchers-gt-MAX_WATCHERS-clause-back g c = read_same g.S.Store c.args.databases.items

pub returns-in-Err-clause-open : goal.returns-in-Err-clause-open
returns-in-Err-clause-open g c within =
    (λ is. let same : c.in-Err.refusal ≡ refusal.TransactionOpen = cc in c.in-Err.ensures.open.0 same, λ opened. ap unshared.Refused (c.in-Err.ensures.open.1 opened))

pub invariant_of-shared : goal.invariant_of-shared
invariant_of-shared g c =
    few_of _ _ _ _ _ _ c.into_watched-shards.result.ok.0
    (as_many c.into_watched-shards.result.items c.in-Ok.ready.starts.items c.prepare.new.databases.items c.into_watched-shards.ensures c.in-Ok.ensures.starts)
    c.prepare.new.databases.ok.0 c.in-Ok.ensures.len c.requires.databases.1

pub returns-in-Ok-boards_of-clause-seats : goal.returns-in-Ok-boards_of-clause-seats
returns-in-Ok-boards_of-clause-seats g c =
    let sharing : Shared g.row.S.Denot = record { openings = c.into_watched-shards.result.items; sessions = c.args.sessions } in
    all_have_seats sharing (length c.args.databases.items) c.args.sessions c.in-Ok.ready.passes.items
    (as_many c.into_watched-shards.result.items c.in-Ok.ready.starts.items c.prepare.new.databases.items c.into_watched-shards.ensures c.in-Ok.ensures.starts
    ∙ sym c.prepare.new.databases.ok.0 ∙ c.in-Ok.ensures.len ∙ c.args.databases.ok.0)
    refl c.in-Ok.ensures.passes

pub returns-in-Ok-boards_of-clause-watchers : goal.returns-in-Ok-boards_of-clause-watchers
returns-in-Ok-boards_of-clause-watchers g c =
    subst (λ os. AreNewWatchers c.args.watchers os c.in-Ok-boards_of.made.watchers.items)
    (c.as_slice.ensures.value ∙ sym c.into_watched-shards.ensures) c.in-Ok-boards_of.ensures.watchers

pub returns-in-Err-boards_of-clause-only : goal.returns-in-Err-boards_of-clause-only
returns-in-Err-boards_of-clause-only g c = unwatched_is c.in-Err-boards_of.cause c.in-Err-boards_of.ensures.only
