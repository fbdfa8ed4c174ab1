use Rattle.std.specs.Prelude.{Ok}
use Rattle.std.proofs.Common.{◌≡◌, ◌≤◌, ℕ, ◌+◌, ◌-◌, ◌^◌, Option, List, [], ◌∷◌, true, false, length, vec_len, arith, rules, subst, refl, sym, ◌∙◌}
use Rattle.std.proofs.lemmas.Bool.{false_from_ne_true, true≢false}
use Rattle.escrow_script.specs.declared.fault.ServeFault.TheVariants as fault
use Rattle.escrow_serve.specs.Output.{states_of}
use Rattle.escrow_script.proofs.ClientLemmas.{no_line}
use Rattle.escrow_script.specs.Script.{left, has_line, most_bytes, HasEnded, Spends}
use Rattle.escrow_serve.specs.Asked.{GivesLines}
use Rattle.escrow_serve.specs.Batch.{Gathers}
use Rattle.escrow_script.proofs.OutcomeLemmas.{at_fault}
use Rattle.escrow_script.proofs.TakenLemmas.{ended, read_without}
use Rattle.escrow_script.proofs.WrittenLemmas.{leaves_some, nothing_waits}
use Rattle.escrow_serve.proofs.AnsweredLemmas.{IsOwed, all_answered, owed_begun, owed_sent, owed_turn}
use Rattle.escrow_serve.proofs.ScriptRanLemmas.{Played, played_begun, played_turn, played_written, ran_to_end, ran_to_no_line, ran_to_write}
use Rattle.escrow_serve.proofs.ServeLemmas.{Stands, Stood, most_bytes_fit, stands_begun, stands_written, stopped_at_start, stopped_writing, finished, still_ended, turn_of, turn_served}
use Rattle.escrow_script.proofs.ScriptLemmas.{spends_more, spends_none}
use Rattle.escrow_serve.proofs.serve.serve_from.Given.{Over}
use Rattle.escrow_serve.proofs.serve.serve_from.Goals as goal
use Rattle.escrow_serve.proofs.serve.serve_from.Goals.{After-serve_in_hand}

-- what a turn serves stands with what was served before
served : (g : Over) (c : After-serve_in_hand g)
    → Stands c.args.sessions g.S.Store c.args.databases.now.items c.serve_in_hand.new.databases.items c.serve_in_hand.new.totals.items (g.C.Client.remaining c.args.client.now)
    (left c.serve_in_hand.new.script.unread (g.C.Client.remaining c.take_line.new.client)) (g.C.Client.sent c.args.client.now) (g.C.Client.sent c.take_line.new.client)
    c.serve_in_hand.new.replies.items (c.serve_in_hand.new.script.bytes_left + length c.serve_in_hand.new.script.unread)
served g c =
    let next = c.in_ok-take_line.ensures in
    let served = c.serve_in_hand.ensures in
    let out = served.served in
    let mid = c.loop-replies.databases.items in
    let new = c.serve_in_hand.new.databases.items in
    let taken = c.take_line.new.script in
    let script = c.serve_in_hand.new.script in
    let remaining = g.C.Client.remaining c.take_line.new.client in
    let turn = turn_of c.args.sessions g.S.Store c.in_ok-take_line.field-0 taken.line.items out.1 out.0 mid new c.loop-replies.totals.items c.serve_in_hand.new.totals.items
    (left c.loop-replies.script.unread (g.C.Client.remaining c.loop-replies.client)) (left taken.unread remaining) (left script.unread remaining)
    (c.loop-replies.script.bytes_left + length c.loop-replies.script.unread) (taken.bytes_left + length taken.unread) (script.bytes_left + length script.unread)
    c.if-branch.true served.short next.taken next.less (out.2 remaining) (omega (arith, out.3, served.bytes)) out.5 served.clean in
    turn_served c.args.sessions g.S.Store c.args.databases.now.items mid new c.loop-replies.totals.items c.serve_in_hand.new.totals.items (g.C.Client.remaining c.args.client.now)
    (left c.loop-replies.script.unread (g.C.Client.remaining c.loop-replies.client)) (left script.unread remaining)
    (g.C.Client.sent c.args.client.now) (g.C.Client.sent c.loop-replies.client) (g.C.Client.sent c.take_line.new.client)
    c.loop-replies.replies.items c.take_line.new.replies.items out.1 c.serve_in_hand.new.replies.items
    (c.loop-replies.script.bytes_left + length c.loop-replies.script.unread) (script.bytes_left + length script.unread)
    turn next.unwritten next.gathered out.4 c.loop-replies.invariant.stands

-- so does each database by itself
played : (g : Over) (c : After-serve_in_hand g)
    → Played c.args.sessions g.S.Store c.args.databases.now.items c.serve_in_hand.new.databases.items (g.C.Client.remaining c.args.client.now)
    (left c.serve_in_hand.new.script.unread (g.C.Client.remaining c.take_line.new.client)) (g.C.Client.sent c.args.client.now) (g.C.Client.sent c.take_line.new.client)
    c.serve_in_hand.new.replies.items
played g c =
    let next = c.in_ok-take_line.ensures in
    let served = c.serve_in_hand.ensures in
    let out = served.ran in
    let taken = c.take_line.new.script in
    let script = c.serve_in_hand.new.script in
    let remaining = g.C.Client.remaining c.take_line.new.client in
    let count : length c.serve_in_hand.new.databases.items ≡ length c.loop-replies.databases.items = omega (arith, served.len, c.serve_in_hand.new.databases.ok.0, c.loop-replies.databases.ok.0) in
    played_turn c.args.sessions g.S.Store c.in_ok-take_line.field-0 taken.line.items out.1 out.0 c.args.databases.now.items c.loop-replies.databases.items c.serve_in_hand.new.databases.items
    (g.C.Client.remaining c.args.client.now) (left c.loop-replies.script.unread (g.C.Client.remaining c.loop-replies.client)) (left taken.unread remaining) (left script.unread remaining)
    (g.C.Client.sent c.args.client.now) (g.C.Client.sent c.loop-replies.client) (g.C.Client.sent c.take_line.new.client)
    c.loop-replies.replies.items c.take_line.new.replies.items c.serve_in_hand.new.replies.items
    c.if-branch.true served.short next.taken (out.2 remaining) out.5 count next.unwritten next.gathered out.4 c.loop-replies.invariant.played

-- behind the script's end nothing is left after it
over : (g : Over) (c : After-serve_in_hand g) → c.serve_in_hand.new.script.has_ended ≡ true
    → HasEnded c.serve_in_hand.new.script.unread (g.C.Client.remaining c.take_line.new.client)
over g c =
    let served = c.serve_in_hand.ensures in
    still_ended c.take_line.new.script.has_ended c.serve_in_hand.new.script.has_ended c.take_line.new.script.unread c.serve_in_hand.new.script.unread (g.C.Client.remaining c.take_line.new.client)
    (length served.served.0) served.ended served.served.3 c.in_ok-take_line.ensures.ended

-- until the script ends, the client is owed what is gathered, and nothing else
owed : (g : Over) (c : After-serve_in_hand g) → c.serve_in_hand.new.script.has_ended ≡ false
    → IsOwed (vec_len c.args.databases.now) c.args.sessions (g.C.Client.received c.take_line.new.client) (g.C.Client.sent c.take_line.new.client)
    c.serve_in_hand.new.script.unread c.serve_in_hand.new.replies.items
owed g c going =
    let next = c.in_ok-take_line.ensures in
    let out = c.serve_in_hand.ensures.ran in
    let taken = c.take_line.new.script in
    let before = c.loop-replies in
    let still = sym c.serve_in_hand.ensures.ended ∙ going in
    let went_on = false_from_ne_true before.script.has_ended (λ over. true≢false (sym c.if-branch.true ∙ next.over over)) in
    let count : length before.databases.items ≡ vec_len c.args.databases.now = sym before.databases.ok.0 ∙ before.invariant.count in
    owed_turn (vec_len c.args.databases.now) c.args.sessions (g.C.Client.received before.client) (g.C.Client.received c.take_line.new.client)
    (g.C.Client.sent before.client) (g.C.Client.sent c.take_line.new.client) before.script.unread taken.unread c.serve_in_hand.new.script.unread taken.line.items out.0 out.5.0
    before.replies.items c.take_line.new.replies.items out.1 c.serve_in_hand.new.replies.items (next.received still) out.2
    (subst (λ (n : ℕ). GivesLines n c.args.sessions (taken.line.items ∷ out.0) out.5.0 out.1) count out.5.1) next.unwritten next.gathered out.4 (before.invariant.owed went_on)

-- its bytes are counted
spent : (g : Over) (c : After-serve_in_hand g)
    → Spends (g.C.Client.remaining c.args.client.now) (g.C.Client.remaining c.take_line.new.client) (most_bytes c.args.limit) c.serve_in_hand.new.script.bytes_left
spent g c =
    spends_more _ _ _ (most_bytes c.args.limit) c.loop-replies.script.bytes_left c.serve_in_hand.new.script.bytes_left c.loop-replies.invariant.spent
    (subst (λ (n : ℕ). Spends (g.C.Client.remaining c.loop-replies.client) (g.C.Client.remaining c.take_line.new.client) c.loop-replies.script.bytes_left n)
    (sym c.serve_in_hand.ensures.bytes) c.in_ok-take_line.ensures.spent)

pub returns-in_err-script-clause-fault : goal.returns-in_err-script-clause-fault
returns-in_err-script-clause-fault g c = λ used.
    at_fault c.from_residual.result fault.Memory _ c.from_residual.ensures.1
    (stopped_at_start c.args.sessions fault.Memory (states_of c.args.databases.now.items) (g.C.Client.remaining c.args.client.now) (g.C.Client.sent c.args.client.now) refl)

pub returns-in_err-totals-clause-fault : goal.returns-in_err-totals-clause-fault
returns-in_err-totals-clause-fault g c = λ used.
    at_fault c.from_residual-in_err-totals.result fault.Memory _ c.from_residual-in_err-totals.ensures.1
    (stopped_at_start c.args.sessions fault.Memory (states_of c.args.databases.now.items) (g.C.Client.remaining c.args.client.now) (g.C.Client.sent c.args.client.now) refl)

pub returns-in_err-batch-clause-fault : goal.returns-in_err-batch-clause-fault
returns-in_err-batch-clause-fault g c = λ used.
    at_fault c.from_residual-in_err-batch.result fault.Memory _ c.from_residual-in_err-batch.ensures.1
    (stopped_at_start c.args.sessions fault.Memory (states_of c.args.databases.now.items) (g.C.Client.remaining c.args.client.now) (g.C.Client.sent c.args.client.now) refl)

pub loop-replies-init : goal.loop-replies-init
loop-replies-init g c =
    let made = c.in_ok-script.ensures in
    let totals = c.in_ok-totals.totals in
    let count : c.len.result ≡ vec_len c.args.databases.now = search rules in
    let within : c.in_ok-script.script.bytes_left ≤ 2 ^ 64 - 1 = subst (λ (n : ℕ). n ≤ 2 ^ 64 - 1) (sym made.1) (most_bytes_fit c.args.limit) in
    let bytes = g.C.Client.remaining c.args.client.now in
    record {
      count = refl;
      each = omega (arith, count, c.in_ok-totals.ensures.len);
      empty = subst (λ (n : ℕ). Gathers c.args.sessions n c.in_ok-batch.batch.waiting.items c.in_ok-batch.batch.parts.items []) c.len-2.ensures (c.in_ok-batch.ensures c.args.sessions);
      stands = stands_begun c.args.sessions g.S.Store c.args.databases.now.items c.in_ok-totals.totals.items (g.C.Client.remaining c.args.client.now) (g.C.Client.sent c.args.client.now) c.in_ok-script.script.unread c.new-replies.result.items
          c.in_ok-script.script.bytes_left (omega (arith, count, totals.ok.0, c.in_ok-totals.ensures.len, c.args.databases.now.ok.0)) c.in_ok-totals.ensures.none made.0 c.new-replies.ensures.items within;
      played = played_begun c.args.sessions g.S.Store c.args.databases.now.items bytes (g.C.Client.sent c.args.client.now) c.in_ok-script.script.unread c.new-replies.result.items made.0 c.new-replies.ensures.items;
      waits = λ _. c.new-replies.ensures.items;
      owed = λ _. owed_begun (vec_len c.args.databases.now) c.args.sessions (g.C.Client.received c.args.client.now) (g.C.Client.sent c.args.client.now) c.in_ok-script.script.unread
          c.new-replies.result.items c.requires.fresh made.0 c.new-replies.ensures.items;
      ended = λ over. absurd (true≢false (sym over ∙ made.2));
      spent = subst (λ (n : ℕ). Spends bytes bytes (most_bytes c.args.limit) n) (sym made.1) (spends_none bytes (most_bytes c.args.limit));
    }

pub take_line-requires-clause-may : goal.take_line-requires-clause-may
take_line-requires-clause-may g c = λ going none client part same.
    let before = c.loop-replies in
    c.requires.waits client
    (all_answered (vec_len c.args.databases.now) c.args.sessions (g.C.Client.received before.client) (g.C.Client.received client) (g.C.Client.sent before.client) (g.C.Client.sent client)
    before.script.unread before.replies.items (before.invariant.waits (no_line before.script.reads_left before.script.unread none)) none part same (before.invariant.owed going))

pub returns-in_err-take_line-clause-fault : goal.returns-in_err-take_line-clause-fault
returns-in_err-take_line-clause-fault g c = λ used.
    let why = c.in_err-take_line.field-0.0 in
    let wrote = c.in_err-take_line.ensures.fault in
    at_fault c.from_residual-in_err-take_line.result why _ c.from_residual-in_err-take_line.ensures.1
    (stopped_writing c.args.sessions why (states_of c.args.databases.now.items) (states_of c.loop-replies.databases.items) c.loop-replies.totals.items (g.C.Client.remaining c.args.client.now) _
    (g.C.Client.sent c.args.client.now) (g.C.Client.sent c.loop-replies.client) (g.C.Client.sent c.take_line.new.client) c.loop-replies.replies.items wrote.0
    (c.loop-replies.script.bytes_left + length c.loop-replies.script.unread) wrote.2 (c.loop-replies.invariant.stands.stood used) wrote.1)

pub returns-in_err-write_gathered-clause-fault : goal.returns-in_err-write_gathered-clause-fault
returns-in_err-write_gathered-clause-fault g c = λ used.
    let why = c.in_err-write_gathered.field-0.0 in
    let wrote = c.in_err-write_gathered.ensures in
    let new = c.serve_in_hand.new.databases.items in
    let script = c.serve_in_hand.new.script in
    at_fault c.from_residual-in_err-write_gathered.result why _ c.from_residual-in_err-write_gathered.ensures.1
    (stopped_writing c.args.sessions why (states_of c.args.databases.now.items) (states_of new) c.serve_in_hand.new.totals.items (g.C.Client.remaining c.args.client.now) _
    (g.C.Client.sent c.args.client.now) (g.C.Client.sent c.take_line.new.client) (g.C.Client.sent c.write_gathered.new.client) c.serve_in_hand.new.replies.items wrote.err.0
    (script.bytes_left + length script.unread)
    (leaves_some why c.serve_in_hand.new.replies.items wrote.err.0 wrote.kind wrote.err.1) ((served g (goal.at.returns-in_err-write_gathered-clause-fault g c).After-serve_in_hand).stood used) wrote.err.2)

pub loop-replies-preserved-in-loop-replies : goal.loop-replies-preserved-in-loop-replies
loop-replies-preserved-in-loop-replies g c =
    let wrote = c.in_ok-write_gathered.ensures in
    let turn = c.serve_in_hand.ensures in
    let script = c.serve_in_hand.new.script in
    let at = (goal.at.loop-replies-preserved-in-loop-replies g c).After-serve_in_hand in
    let sent = g.C.Client.sent in
    let was = c.take_line.new.client in
    let now = c.write_gathered.new.client in
    let same = sym c.write_gathered.ensures.unread in
    let old = c.args.databases.now.items in
    let new = c.serve_in_hand.new.databases.items in
    let given = g.C.Client.remaining c.args.client.now in
    record {
      count = turn.len ∙ c.loop-replies.invariant.count;
      each = turn.each ∙ c.loop-replies.invariant.each ∙ sym turn.len;
      stands = subst (λ (rem : Option (List ℕ)). Stands c.args.sessions g.S.Store old new c.serve_in_hand.new.totals.items given (left script.unread rem) (sent c.args.client.now) (sent now)
          c.write_gathered.new.replies.items (script.bytes_left + length script.unread)) same
          (stands_written c.args.sessions g.S.Store old new c.serve_in_hand.new.totals.items given _ (sent c.args.client.now) (sent was) (sent now) c.serve_in_hand.new.replies.items
          c.write_gathered.new.replies.items (script.bytes_left + length script.unread) (served g at) wrote.ok wrote.none);
      played = subst (λ (rem : Option (List ℕ)). Played c.args.sessions g.S.Store old new given (left script.unread rem) (sent c.args.client.now) (sent now) c.write_gathered.new.replies.items) same
          (played_written c.args.sessions g.S.Store old new given _ (sent c.args.client.now) (sent was) (sent now) c.serve_in_hand.new.replies.items c.write_gathered.new.replies.items
          (played g at) wrote.ok wrote.none);
      waits = λ _. wrote.none;
      owed = λ going. owed_sent (vec_len c.args.databases.now) c.args.sessions (g.C.Client.received was) (g.C.Client.received now) (sent was) (sent now) script.unread
          c.serve_in_hand.new.replies.items c.write_gathered.new.replies.items c.write_gathered.ensures.received wrote.ok wrote.none (owed g at going);
      empty = turn.empty;
      ended = λ is_over. subst (λ (rem : Option (List ℕ)). HasEnded script.unread rem) same (over g at is_over);
      spent = subst (λ (rem : Option (List ℕ)). Spends given rem (most_bytes c.args.limit) script.bytes_left) same (spent g at);
    }

pub loop-replies-preserved : goal.loop-replies-preserved
loop-replies-preserved g c =
    let turn = c.serve_in_hand.ensures in
    let script = c.serve_in_hand.new.script in
    record {
      count = turn.len ∙ c.loop-replies.invariant.count;
      each = turn.each ∙ c.loop-replies.invariant.each ∙ sym turn.len;
      stands = served g (goal.at.loop-replies-preserved g c).After-serve_in_hand;
      played = played g (goal.at.loop-replies-preserved g c).After-serve_in_hand;
      waits = λ none. absurd (read_without c.has_line.result (has_line script.reads_left script.unread) c.has_line.ensures c.if-not-has_line.false none);
      owed = owed g (goal.at.loop-replies-preserved g c).After-serve_in_hand;
      empty = turn.empty;
      ended = over g (goal.at.loop-replies-preserved g c).After-serve_in_hand;
      spent = spent g (goal.at.loop-replies-preserved g c).After-serve_in_hand;
    }

pub returns-clause-output : goal.returns-clause-output
returns-clause-output g c = λ used.
    let next = c.in_ok-take_line.ensures in
    let spent = spends_more _ _ _ (most_bytes c.args.limit) c.loop-replies.script.bytes_left c.take_line.new.script.bytes_left c.loop-replies.invariant.spent next.spent in
    let none = nothing_waits c.in_ok-take_line.field-0 (has_line c.loop-replies.script.reads_left c.loop-replies.script.unread) c.loop-replies.replies.items c.if-branch.false next.in_hand c.loop-replies.invariant.waits in
    let stood = subst (λ (bytes : Option (List ℕ)). Stood c.args.sessions (states_of c.args.databases.now.items) (states_of c.loop-replies.databases.items) c.loop-replies.totals.items (g.C.Client.remaining c.args.client.now)
    (left c.loop-replies.script.unread (g.C.Client.remaining c.loop-replies.client)) (g.C.Client.sent c.args.client.now) bytes []
    (c.loop-replies.script.bytes_left + length c.loop-replies.script.unread)) (sym next.unwritten)
    (subst (λ (gathered : List ℕ). Stood c.args.sessions (states_of c.args.databases.now.items) (states_of c.loop-replies.databases.items) c.loop-replies.totals.items (g.C.Client.remaining c.args.client.now)
    (left c.loop-replies.script.unread (g.C.Client.remaining c.loop-replies.client)) (g.C.Client.sent c.args.client.now) (g.C.Client.sent c.loop-replies.client) gathered
    (c.loop-replies.script.bytes_left + length c.loop-replies.script.unread)) none (c.loop-replies.invariant.stands.stood used)) in
    let at_end = ended _ _ _ c.in_ok-take_line.field-0 c.loop-replies.script.unread c.take_line.new.script.line.items c.take_line.new.script.unread (most_bytes c.args.limit) c.loop-replies.script.bytes_left
    c.if-branch.false c.loop-replies.invariant.spent next.taken in
    finished c.args.sessions _ _ _ _ _ _ _ _ c.in_ok-take_line.field-0 c.take_line.new.script.line.items c.take_line.new.script.unread (most_bytes c.args.limit) c.take_line.new.script.bytes_left
    (c.loop-replies.script.bytes_left + length c.loop-replies.script.unread) c.if-branch.false next.taken stood spent at_end

pub returns-clause-end : goal.returns-clause-end
returns-clause-end g c =
    let next = c.in_ok-take_line.ensures in
    ended _ _ _ c.in_ok-take_line.field-0 c.loop-replies.script.unread c.take_line.new.script.line.items c.take_line.new.script.unread (most_bytes c.args.limit) c.loop-replies.script.bytes_left
    c.if-branch.false c.loop-replies.invariant.spent next.taken

pub returns-in_err-script-clause-ran : goal.returns-in_err-script-clause-ran
returns-in_err-script-clause-ran g c =
    ran_to_no_line c.args.sessions g.S.Store c.args.databases.now.items (g.C.Client.remaining c.args.client.now) (g.C.Client.sent c.args.client.now) c.from_residual.result fault.Memory c.from_residual.ensures.1 refl

pub returns-in_err-totals-clause-ran : goal.returns-in_err-totals-clause-ran
returns-in_err-totals-clause-ran g c =
    ran_to_no_line c.args.sessions g.S.Store c.args.databases.now.items (g.C.Client.remaining c.args.client.now) (g.C.Client.sent c.args.client.now) c.from_residual-in_err-totals.result fault.Memory c.from_residual-in_err-totals.ensures.1 refl

pub returns-in_err-batch-clause-ran : goal.returns-in_err-batch-clause-ran
returns-in_err-batch-clause-ran g c =
    ran_to_no_line c.args.sessions g.S.Store c.args.databases.now.items (g.C.Client.remaining c.args.client.now) (g.C.Client.sent c.args.client.now) c.from_residual-in_err-batch.result fault.Memory c.from_residual-in_err-batch.ensures.1 refl

pub returns-in_err-take_line-clause-ran : goal.returns-in_err-take_line-clause-ran
returns-in_err-take_line-clause-ran g c =
    let wrote = c.in_err-take_line.ensures.fault in
    ran_to_write c.args.sessions g.S.Store c.args.databases.now.items c.loop-replies.databases.items (g.C.Client.remaining c.args.client.now) _
    (g.C.Client.sent c.args.client.now) (g.C.Client.sent c.loop-replies.client) (g.C.Client.sent c.take_line.new.client) c.loop-replies.replies.items wrote.0
    c.from_residual-in_err-take_line.result c.in_err-take_line.field-0.0 c.from_residual-in_err-take_line.ensures.1 wrote.2 c.loop-replies.invariant.played wrote.1

pub returns-in_err-write_gathered-clause-ran : goal.returns-in_err-write_gathered-clause-ran
returns-in_err-write_gathered-clause-ran g c =
    let wrote = c.in_err-write_gathered.ensures in
    ran_to_write c.args.sessions g.S.Store c.args.databases.now.items c.serve_in_hand.new.databases.items (g.C.Client.remaining c.args.client.now) _
    (g.C.Client.sent c.args.client.now) (g.C.Client.sent c.take_line.new.client) (g.C.Client.sent c.write_gathered.new.client) c.serve_in_hand.new.replies.items wrote.err.0
    c.from_residual-in_err-write_gathered.result c.in_err-write_gathered.field-0.0 c.from_residual-in_err-write_gathered.ensures.1
    (leaves_some c.in_err-write_gathered.field-0.0 c.serve_in_hand.new.replies.items wrote.err.0 wrote.kind wrote.err.1) (played g (goal.at.returns-in_err-write_gathered-clause-ran g c).After-serve_in_hand) wrote.err.2

pub returns-clause-ran : goal.returns-clause-ran
returns-clause-ran g c =
    let next = c.in_ok-take_line.ensures in
    let none = nothing_waits c.in_ok-take_line.field-0 (has_line c.loop-replies.script.reads_left c.loop-replies.script.unread) c.loop-replies.replies.items c.if-branch.false next.in_hand c.loop-replies.invariant.waits in
    ran_to_end c.args.sessions g.S.Store c.args.databases.now.items c.loop-replies.databases.items (g.C.Client.remaining c.args.client.now)
    (left c.loop-replies.script.unread (g.C.Client.remaining c.loop-replies.client)) (left c.take_line.new.script.unread (g.C.Client.remaining c.take_line.new.client))
    (g.C.Client.sent c.args.client.now) (g.C.Client.sent c.loop-replies.client) (g.C.Client.sent c.take_line.new.client)
    c.in_ok-take_line.field-0 c.take_line.new.script.line.items c.loop-replies.replies.items (Ok tt) refl c.if-branch.false next.taken none next.unwritten c.loop-replies.invariant.played
