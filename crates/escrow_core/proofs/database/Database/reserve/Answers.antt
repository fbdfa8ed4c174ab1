use Rattle.std.specs.Prelude.{◌≡◌, Option, Result, Ok, Err, IfSome, IsErrAnd, IsSome, is_some}
use Rattle.std.proofs.Common.{refl, sym, ap, subst, ◌∙◌}
use Rattle.sqlite.specs.Held.{state}
use Rattle.sqlite.specs.State.{HasCleanDisk}
use Rattle.escrow_num.specs.declared.refusal.Refusal.{Refusal}
use Rattle.escrow_num.specs.Session.{IsSession}
use Rattle.escrow_bounds.specs.Bounds.{place_at}
use Rattle.escrow_statement.specs.declared.statement.Statement.TheVariants as statement
use Rattle.escrow_machine.specs.declared.reply.Reply.{Reply}
use Rattle.escrow_machine.specs.declared.reply.Reply.TheVariants as reply
use Rattle.escrow_machine.specs.Asked.{row_name}
use Rattle.escrow_machine.specs.State.{State}
use Rattle.escrow_machine.specs.Step.{step}
use Rattle.escrow_core.specs.Inside.{database_of}
use Rattle.escrow_reserved.proofs.Places.{from_some, reserved_placed}
use Rattle.escrow_core.proofs.Serving.{left_by}
use Rattle.escrow_core.proofs.Updating.{IsPlanned, beside_granted, beside_refused, beside_tells, grant_keeps, short_plan}
use Rattle.escrow_core.proofs.database.Database.reserve.Given as given
use Rattle.escrow_core.proofs.database.Database.reserve.Goals as goal
use Rattle.escrow_core.proofs.database.Database.reserve.Goals.{After-grant}

-- the plan, for a row that has a place
planned : (g : given.Over) (c : After-grant g) → IsPlanned (database_of c.self.inside.tables c.self.inside.reserved.txns).state c.args.text.now (row_name c.args.text.now.table c.args.key) c.args.changes
planned g c = record {
  table = refl;
  plan = rw (← c.self.view_is) at c.requires.plan;
}

there : (g : given.Over) (c : After-grant g) → IsSome (place_at c.self.inside.reserved.places (row_name c.args.text.now.table c.args.key))
there g c =
    reserved_placed c.self.inside.reserved.txns.reservations c.self.inside.reserved.places (row_name c.args.text.now.table c.args.key) c.self.invariant.keeps.placed
    (sym c.find.ensures.found ∙ ap (λ (found : Option _). is_some found) c.in-Some.is)

pub grant-requires-clause-reserved : goal.grant-requires-clause-reserved
grant-requires-clause-reserved g c = sym c.find.ensures.found ∙ ap (λ (found : Option _). is_some found) c.in-Some.is

pub grant-requires-clause-placed : goal.grant-requires-clause-placed
grant-requires-clause-placed g c =
    reserved_placed c.self.inside.reserved.txns.reservations c.self.inside.reserved.places (row_name c.args.text.now.table c.args.key) c.self.invariant.keeps.placed
    (sym c.find.ensures.found ∙ ap (λ (found : Option _). is_some found) c.in-Some.is)

pub grant-requires-clause-short : goal.grant-requires-clause-short
grant-requires-clause-short g c =
    let s : State = (database_of c.self.inside.tables c.self.inside.reserved.txns).state in
    short_plan s c.args.text.now c.args.key c.args.changes c.self.invariant.keeps.kept.orderly (rw (← c.self.view_is) at c.requires.plan)

pub returns-in_err-id-clause-answers : goal.returns-in_err-id-clause-answers
returns-in_err-id-clause-answers g c =
    let d = database_of c.self.inside.tables c.self.inside.reserved.txns in
    let places = c.self.inside.reserved.places in
    let name = row_name c.args.text.now.table c.args.key in
    let at_grant = (goal.at.returns-in_err-id-clause-answers g c).After-grant in
    rw (← c.self.view_is, c.in_err-id.ensures.unchanged, left_by _ _ c.from_residual.ensures.1)
    (from_some (place_at places name) (there g at_grant) (λ place at.
    beside_refused g.S.Store c.args.session c.args.text.now name c.args.changes d places (planned g at_grant) c.self.invariant.keeps place at c.in_err-id.field-0.0 (c.in_err-id.ensures.only place at)))

pub invariant_of-self-2 : goal.invariant_of-self-2
invariant_of-self-2 g c = record {
  keeps = (let d = database_of c.self.inside.tables c.self.inside.reserved.txns in
      let places = c.self.inside.reserved.places in
      let name = row_name c.args.text.now.table c.args.key in
      let at_grant = (goal.at.invariant_of-self-2 g c).After-grant in
      let of_session : IsSession c.args.session = c.grant.ensures.within in
      rw c.in_ok-id.ensures.granted
      (from_some (place_at places name) (there g at_grant) (λ place at.
      grant_keeps g.S.Store c.args.session c.args.text.now name c.args.changes d places c.grant.new.self.places (planned g at_grant) c.self.invariant.keeps.kept of_session place at
      (λ other _. c.self.invariant.keeps.placed other) c.self.invariant.keeps.of_tables c.self.invariant.keeps.amounts (c.in_ok-id.ensures.free place at) c.in_ok-id.ensures.takes c.in_ok-id.ensures.others)));
  known = c.self.invariant.known;
  read = c.self.invariant.read;
}

pub returns-clause-answers : goal.returns-clause-answers
returns-clause-answers g c =
    let d = database_of c.self.inside.tables c.self.inside.reserved.txns in
    let places = c.self.inside.reserved.places in
    let name = row_name c.args.text.now.table c.args.key in
    let at_grant = (goal.at.returns-clause-answers g c).After-grant in
    rw (← c.self.view_is, c.in_ok-id.ensures.id, c.in_ok-id.ensures.granted)
    (from_some (place_at places name) (there g at_grant) (λ place at.
    beside_granted g.S.Store c.args.session c.args.text.now name c.args.changes d places (planned g at_grant) c.self.invariant.keeps place at (c.in_ok-id.ensures.free place at)))

-- if the machine refuses it, the grant is refused for that reason
tells : (g : given.Over) (c : After-grant g) → HasCleanDisk (state g.S.Store c.self.inside.tables.store) → (r : Refusal)
    → (step c.args.self.now.state c.args.session (statement.Update c.args.text.now)).0 ≡ reply.Refused r → c.grant.result ≡ Err r
tells g c clean r refused =
    let d = database_of c.self.inside.tables c.self.inside.reserved.txns in
    let places = c.self.inside.reserved.places in
    let name = row_name c.args.text.now.table c.args.key in
    let machine : (step d.state c.args.session (statement.Update c.args.text.now)).0 ≡ reply.Refused r = rw (← c.self.view_is) at refused in
    from_some (place_at places name) (there g c) (λ place at.
    subst (λ (o : Option Refusal). IfSome o (λ e. c.grant.result ≡ Err e))
    (beside_tells g.S.Store c.args.session c.args.text.now name c.args.changes d places (planned g c) c.self.invariant.keeps place at clean r machine)
    (c.grant.ensures.against place at))

error_is : (result : Result Reply Refusal) (q r : Refusal) → IsErrAnd result (λ e. e ≡ q) → q ≡ r → result ≡ Err r
error_is (Ok answer) q r is same = absurd is
error_is (Err e) q r is same = ap (λ x. Err x) (is ∙ same)

same_error : {A : Type 0} (result : Result A Refusal) (q r : Refusal) → result ≡ Err q → result ≡ Err r → q ≡ r
same_error (Ok x) q r one other = absurd (cc)
same_error (Err e) q r one other =
    let first : e ≡ q = cc in
    let second : e ≡ r = cc in
    sym first ∙ second

pub returns-in_err-id-clause-against : goal.returns-in_err-id-clause-against
returns-in_err-id-clause-against g c = λ beside clean r refused.
    let why = tells g (goal.at.returns-in_err-id-clause-against g c).After-grant clean r refused in
    error_is c.from_residual.result c.in_err-id.field-0.0 r c.from_residual.ensures.1 (same_error c.grant.result c.in_err-id.field-0.0 r c.in_err-id.was why)

pub returns-clause-against : goal.returns-clause-against
returns-clause-against g c = λ beside clean r refused.
    let why = tells g (goal.at.returns-clause-against g c).After-grant clean r refused in
    let granted = c.in_ok-id.was in
    absurd (cc)
