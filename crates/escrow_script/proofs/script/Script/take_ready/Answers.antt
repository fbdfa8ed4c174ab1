use Rattle.std.proofs.Common.{◌≡◌, ℕ, List, [], Option, true, sym, ◌∙◌}
use Rattle.escrow_script.specs.Script.{left, has_line, TakesLine, Moves}
use Rattle.escrow_script.proofs.OutcomeLemmas.{at_ok}
use Rattle.escrow_script.proofs.ScriptLemmas.{turn_takes, continues_from_start, found_in_hand}
use Rattle.escrow_script.proofs.script.Script.take_ready.Goals as goal

pub returns-clause-taken : goal.returns-clause-taken
returns-clause-taken c =
    let old = c.args.self.now.unread in
    let new = c.take_front.new.self in
    at_ok (λ found. Moves found old new.unread c.clear.new.self.items new.line.items)
    (λ found. found ≡ true → (rem : Option (List ℕ)) → TakesLine true (left old rem) (left new.unread rem) new.line.items) c.take_front.result
    (λ found moved is_true rem. turn_takes found [] old new.unread c.clear.new.self.items new.line.items (left old rem) rem is_true moved c.clear.ensures.items (continues_from_start (left old rem)))
    c.take_front.ensures.moved

pub returns-clause-in_hand : goal.returns-clause-in_hand
returns-clause-in_hand c =
    let old = c.args.self.now in
    let new = c.take_front.new.self in
    at_ok (λ found. Moves found old.unread new.unread c.clear.new.self.items new.line.items) (λ found. found ≡ has_line old.reads_left old.unread) c.take_front.result
    (λ found moved. found_in_hand found old.reads_left old.unread new.unread c.clear.new.self.items new.line.items moved (sym c.has_line.ensures ∙ c.if-not-has_line.false))
    c.take_front.ensures.moved
