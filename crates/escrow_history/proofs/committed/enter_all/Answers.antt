use Rattle.std.proofs.Common.{◌≡◌, ℕ, ◌+◌, ◌++◌, List, [], inl, inr, length, sym, ap, subst, ◌∙◌, append-nil, vec_len}
use Rattle.std.specs.Prelude.{Result}
use Rattle.std.proofs.lemmas.List.{nil_from_length}
use Rattle.escrow_num.specs.declared.failure.Failure.{Failure}
use Rattle.escrow_machine.specs.declared.reply.Reply.{Reply}
use Rattle.escrow_history.specs.declared.committed.Committed.{Committed}
use Rattle.escrow_history.specs.Commits.{commits_of, NameTheirs}
use Rattle.escrow_history.specs.Entered.{AreEntered}
use Rattle.escrow_history.proofs.committed.enter_all.Goals as goal

-- no session is left at the end, and no reply
none_left : (c : goal.In-None) → (length c.loop-session.session-iterator.a.rest.now ≡ 0) × (length c.loop-session.session-iterator.b.rest.now ≡ 0)
none_left c =
    let each = c.loop-session.invariant.each in
    elim c.in-None.ensures.steps [ inl e ↦ (e.1.0, each ∙ e.1.0) | inr e ↦ (sym each ∙ e.1.0, e.1.0) ]

pub returns-clause-entered : goal.returns-clause-entered
returns-clause-entered c =
    let at = c.loop-session in
    let replies = at.session-iterator.b.rest.now in
    subst (AreEntered (c.args.before + vec_len c.args.entries.now) c.args.replies.now) (append-nil at.outcomes.items)
    (at.invariant.entered [] (subst (λ (rs : List Reply). AreEntered (c.args.before + vec_len at.entries) rs []) (sym (nil_from_length replies (none_left c).1)) tt))

pub returns-clause-named : goal.returns-clause-named
returns-clause-named c =
    let at = c.loop-session in
    let sessions = at.session-iterator.a.rest.now in
    subst (NameTheirs c.args.sessions.now) (append-nil at.outcomes.items)
    (at.invariant.named [] (subst (λ (ss : List ℕ). NameTheirs ss []) (sym (nil_from_length sessions (none_left c).0)) tt))

pub returns-clause-entries : goal.returns-clause-entries
returns-clause-entries c =
    let at = c.loop-session in
    let sessions = at.session-iterator.a.rest.now in
    sym (append-nil at.entries.items) ∙ ap (λ (ss : List ℕ). at.entries.items ++ commits_of ss []) (sym (nil_from_length sessions (none_left c).0))
    ∙ at.invariant.entries [] ∙ ap (λ (os : List (Result Committed Failure)). c.args.entries.now.items ++ commits_of c.args.sessions.now os) (append-nil at.outcomes.items)
