use Rattle.std.proofs.Common.{ℕ, List, [], refl, sym}
use Rattle.std.proofs.lemmas.List.{append-nil}
use Rattle.escrow_script.specs.Line.{nothing, join}
use Rattle.escrow_free.specs.Adding.{Adds}
use Rattle.escrow_free.specs.Planning.{PlansBytes}
use Rattle.escrow_free.specs.declared.plan.Plan.{Plan}
use Rattle.escrow_free.proofs.Planning.{named}
use Rattle.escrow_free.proofs.plan.Plan.add.Goals as goal

-- a line without a plan adds nothing
adds_none : (databases : ℕ) (bytes : List ℕ) (plan : Plan) → PlansBytes databases bytes [] [] → Adds databases bytes plan plan
adds_none databases bytes plan plans = record {
  more_lines = [];
  more_items = [];
  plans = plans;
  lines = sym (append-nil plan.lines.items);
  items = sym (append-nil plan.items.items);
}

pub returns-in-Nothing : goal.returns-in-Nothing
returns-in-Nothing c = adds_none _ _ c.args.self.now (nothing, c.in-Nothing.ensures, (refl, refl))

pub returns-in-Join : goal.returns-in-Join
returns-in-Join c = adds_none _ _ c.args.self.now (join, c.in-Join.ensures, (refl, refl))

pub add_text-requires-clause-shared : goal.add_text-requires-clause-shared
add_text-requires-clause-shared c = (named c.args.databases c.args.line.now c.in-Statement.database c.in-Statement.session c.in-Statement.text.now c.in-Statement.ensures).1.1
