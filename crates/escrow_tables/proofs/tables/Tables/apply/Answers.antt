use Rattle.std.proofs.Common.{◌≡◌, Bool, true, false, ap, is_ok, refl, subst, sym}
use Rattle.std.proofs.lemmas.Bool.{false≢true}
use Rattle.std.proofs.lemmas.Result.{err_from_is_err_and}
use Rattle.sqlite.specs.Held.{Held, state}
use Rattle.escrow_schema.specs.Rows.{applied}
use Rattle.escrow_cells.specs.Calls.{Transacts}
use Rattle.escrow_rows.specs.Changes.{PutsAmounts}
use Rattle.escrow_rows.specs.View.{rows_in}
use Rattle.escrow_tables.specs.Calls.{Writes}
use Rattle.escrow_tables.specs.Inside.{Keeps, catalog_of, stored_of}
use Rattle.escrow_tables.proofs.Changed.{read}
use Rattle.escrow_tables.proofs.Committing.{commits, keeps_committed}
use Rattle.escrow_tables.proofs.Writing.{seen}
use Rattle.escrow_tables.proofs.tables.Tables.apply.Given as given
use Rattle.escrow_tables.proofs.tables.Tables.apply.Goals as goal
use Rattle.escrow_tables.proofs.tables.Tables.apply.Goals.{After-put_amounts}

-- the call writes, and the fields keep their contents
written : (g : given.Over) (c : After-put_amounts g) (is_done : Bool) (later : Held g.row.S.Denot) → is_ok c.put_amounts.result ≡ is_done
    → (is_done ≡ true → later ≡ c.put_amounts.new.self) → (is_done ≡ false → later ≡ c.self.inside.last.value)
    → Writes g.S.Store (seen g.S.Store c.self.inside.store c.self.inside.last.value c.self.inside.catalog) (seen g.S.Store c.put_amounts.new.self later c.self.inside.catalog) is_done
    (catalog_of c.self.inside.catalog) (applied (rows_in (stored_of c.self.inside.catalog) (state g.S.Store c.self.inside.last.value).now) (read c.args.reservations.now))
    × Keeps (state g.S.Store c.put_amounts.new.self) (state g.S.Store later) c.self.inside.catalog
written g c is_done later ok if_done if_not =
    let old = c.self.inside in
    let news = c.as_slice.result.now in
    let new = c.put_amounts.new.self in
    let made = rw (c.tables.ensures.value, ← c.as_slice.ensures.value) at c.in_ok-news.ensures in
    let given = rw (← c.self.view_is) at c.requires.given in
    let it = subst (λ b. Transacts (state g.S.Store old.store) (state g.S.Store new) b (PutsAmounts news)) ok c.put_amounts.ensures in (
      commits g.S.Store old.store new old.last.value later old.catalog (read c.args.reservations.now) news is_done c.self.invariant
          made.puts (λ clean. made.told _ (given clean)) it if_done if_not,
      keeps_committed g.S.Store old.store new old.last.value later old.catalog (read c.args.reservations.now) news is_done c.self.invariant
          made.puts (λ clean. made.told _ (given clean)) it if_done if_not,
    )

pub invariant_of-self : goal.invariant_of-self
invariant_of-self g c =
    (written g (goal.at.invariant_of-self g c).After-put_amounts false c.self.inside.last.value (ap is_ok c.in_err-put_amounts.was) (λ e. absurd (false≢true e)) (λ _. refl)).1

pub returns-in_err-put_amounts : goal.returns-in_err-put_amounts
returns-in_err-put_amounts g c =
    let failed = err_from_is_err_and c.from_residual-in_err-put_amounts.result c.from_residual-in_err-put_amounts.ensures.1 in
    rw (failed.1, ← c.self.view_is)
    ((written g (goal.at.returns-in_err-put_amounts g c).After-put_amounts false c.self.inside.last.value (ap is_ok c.in_err-put_amounts.was) (λ e. absurd (false≢true e)) (λ _. refl)).0)

pub invariant_of-self-2 : goal.invariant_of-self-2
invariant_of-self-2 g c =
    (written g (goal.at.invariant_of-self-2 g c).After-put_amounts true c.of.result.value (ap is_ok c.in_ok-put_amounts.was) (λ _. c.of.ensures) (λ e. absurd (false≢true (sym e)))).1

pub returns : goal.returns
returns g c =
    rw (← c.self.view_is) ((written g (goal.at.returns g c).After-put_amounts true c.of.result.value (ap is_ok c.in_ok-put_amounts.was) (λ _. c.of.ensures) (λ e. absurd (false≢true (sym e)))).0)
