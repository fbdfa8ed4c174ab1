use Rattle.std.proofs.Common.{◌∷◌, ◌++◌, [], ℕ, refl, sym, ap, subst, ◌∙◌, inl, inr}
use Rattle.std.proofs.lemmas.List.{append-nil}
use Rattle.escrow_sql.specs.Parser.{Asks}
use Rattle.escrow_statement.specs.declared.statement.Request.TheVariants as request
use Rattle.escrow_free.specs.Outboxes.{outbox_of}
use Rattle.escrow_free.specs.declared.plan.Planned.TheVariants.{Asked, Refused, Totals}
use Rattle.escrow_free.proofs.plan.Plan.add_text.Goals as goal

pub returns-in_ok-push-in-Err : goal.returns-in_ok-push-in-Err
returns-in_ok-push-in-Err c = record {
  more_lines = Refused c.args.database c.args.session c.in-Err.fault ∷ [];
  more_items = [];
  plans = inr (inr (c.in-Err.fault, c.in-Err.ensures.fault, refl, refl));
  lines = c.in_ok-push-in-Err.ensures.items;
  items = sym (append-nil c.args.self.now.items.items);
}

pub returns-in_ok-push-in-Ok-Statistics : goal.returns-in_ok-push-in-Ok-Statistics
returns-in_ok-push-in-Ok-Statistics c = record {
  more_lines = Totals c.args.database c.args.session ∷ [];
  more_items = [];
  plans = inr (inl (subst (Asks c.args.text.now) c.in-Ok-Statistics.field-0-is c.in-Ok-Statistics.ensures.found, refl, refl));
  lines = c.in_ok-push-in-Ok-Statistics.ensures.items;
  items = sym (append-nil c.args.self.now.items.items);
}

pub returns-in_ok-push-in-Ok-Statement-2 : goal.returns-in_ok-push-in-Ok-Statement-2
returns-in_ok-push-in-Ok-Statement-2 c =
    let asked = c.in-Ok-Statement.statement in
    record {
      more_lines = Asked c.args.database c.args.session ∷ [];
      more_items = (outbox_of c.args.database c.args.session, request.Statement asked) ∷ [];
      plans = inl (asked, subst (Asks c.args.text.now) c.in-Ok-Statement.field-0-is c.in-Ok-Statement.ensures.found, refl, refl);
      lines = c.in_ok-push-in-Ok-Statement-2.ensures.items;
      items = c.in_ok-push-in-Ok-Statement.ensures.items ∙ ap (λ (k : ℕ). c.args.self.now.items.items ++ (k, request.Statement asked) ∷ []) c.outbox_of-place.ensures.place;
    }
