use Rattle.std.proofs.Common.{◌≡◌, ℕ, false, sym, ap, subst, inl, ◌∙◌}
use Rattle.escrow_history.specs.Calls.{IsFailed}
use Rattle.escrow_shards.specs.Opened.{any_open}
use Rattle.escrow_shards.specs.Pass.{new_passes}
use Rattle.escrow_shards.proofs.Reading.{failed_closed, of_err, read_same}
use Rattle.escrow_shards.proofs.UnderLocks.{room_exact}
use Rattle.escrow_shards.proofs.make.prepare.Goals as goal

pub returns-then-is_any_open-clause-read : goal.returns-then-is_any_open-clause-read
returns-then-is_any_open-clause-read g c = read_same g.S.Store c.args.databases.now.items

pub returns-in_default-clause-read : goal.returns-in_default-clause-read
returns-in_default-clause-read g c = read_same g.S.Store c.args.databases.now.items

pub returns-in_err-starts-clause-open : goal.returns-in_err-starts-clause-open
returns-in_err-starts-clause-open g c =
    let closed : any_open c.args.databases.now.items ≡ false = sym (c.is_any_open.ensures ∙ ap (λ ds. any_open ds) c.deref.ensures.value) ∙ c.if-is_any_open.false in
    let failed : IsFailed c.in_err-starts.field-0.0 = c.in_err-starts.ensures.only in
    of_err c.from_residual.result _ _ c.from_residual.ensures.1 (λ r is. failed_closed r (any_open c.args.databases.now.items) (subst IsFailed (sym is) failed) closed)

pub returns-clause-starts : goal.returns-clause-starts
returns-clause-starts g c = c.in_ok-starts.ensures.starts

pub returns-clause-passes : goal.returns-clause-passes
returns-clause-passes g c = c.in_ok-passes.ensures ∙ ap (λ (n : ℕ). new_passes n c.args.sessions) (c.len-count.ensures ∙ c.args.databases.now.ok.0)

pub returns-clause-room : goal.returns-clause-room
returns-clause-room g c = (c.in_ok-shards.ensures.items, room_exact _ _ _ _ c.starts_of.ensures.len c.len-count.ensures c.in_ok-shards.ensures.exact)

pub returns-clause-closed : goal.returns-clause-closed
returns-clause-closed g c = sym (c.is_any_open.ensures ∙ ap (λ ds. any_open ds) c.deref.ensures.value) ∙ c.if-is_any_open.false

pub returns-in_err-passes-clause-open : goal.returns-in_err-passes-clause-open
returns-in_err-passes-clause-open g c =
    let closed : any_open c.args.databases.now.items ≡ false = sym (c.is_any_open.ensures ∙ ap (λ ds. any_open ds) c.deref.ensures.value) ∙ c.if-is_any_open.false in
    of_err c.from_residual-in_err-passes.result _ _ c.from_residual-in_err-passes.ensures.1 (λ r is. failed_closed r (any_open c.args.databases.now.items) (inl is) closed)

pub returns-in_err-shards-clause-open : goal.returns-in_err-shards-clause-open
returns-in_err-shards-clause-open g c =
    let closed : any_open c.args.databases.now.items ≡ false = sym (c.is_any_open.ensures ∙ ap (λ ds. any_open ds) c.deref.ensures.value) ∙ c.if-is_any_open.false in
    of_err c.from_residual-in_err-shards.result _ _ c.from_residual-in_err-shards.ensures.1 (λ r is. failed_closed r (any_open c.args.databases.now.items) (inl is) closed)
