use Rattle.std.proofs.Common.{◌≡◌, ◌++◌, ℕ, length, arith, ap, not, sym, subst, ◌∙◌}
use Rattle.std.proofs.lemmas.Bool.{true≢false}
use Rattle.std.proofs.lemmas.List.{nil_from_length}
use Rattle.escrow_script.proofs.ClientLemmas.{hears_begun, hears_more, hears_no_feed, hears_line}
use Rattle.escrow_script.specs.Script.{Spends}
use Rattle.std.specs.Prelude.{vec_len}
use Rattle.escrow_script.proofs.ScriptLemmas.{in_hand_taken, turn_takes, turn_reads, turn_ends, some_by_test, none_by_test, none_in_hand, spends_more, spends_none, spends_read, takes_none}
use Rattle.escrow_script.proofs.script.Script.next_line.Goals as goal

pub returns-then-self-clause-taken : goal.returns-then-self-clause-taken
returns-then-self-clause-taken g c =
    takes_none c.args.self.now.line.items c.args.self.now.unread (g.C.Client.remaining c.args.client.now) (c.requires.ended c.if-self.true)

pub returns-then-self-clause-in_hand : goal.returns-then-self-clause-in_hand
returns-then-self-clause-in_hand g c = λ has.
    let over = c.requires.ended c.if-self.true in
    absurd (none_in_hand c.args.self.now.reads_left c.args.self.now.unread over.0 has)

pub returns-then-self-clause-spent : goal.returns-then-self-clause-spent
returns-then-self-clause-spent g c = spends_none (g.C.Client.remaining c.args.client.now) c.args.self.now.bytes_left

pub returns-then-branch-clause-taken : goal.returns-then-branch-clause-taken
returns-then-branch-clause-taken g c =
    let rem = g.C.Client.remaining in
    let turn = c.in_ok-take_front.ensures in
    let so_far = c.loop-self.invariant.so_far in
    turn_takes c.in_ok-take_front.field-0 so_far.0 c.loop-self.self.unread c.take_front.new.self.unread c.loop-self.self.line.items c.take_front.new.self.line.items
    _ (rem c.loop-self.client) c.if-branch.true turn.moved so_far.1 so_far.2

pub returns-then-branch-eq0-clause-taken : goal.returns-then-branch-eq0-clause-taken
returns-then-branch-eq0-clause-taken g c =
    let turn = c.in_ok-take_front.ensures in
    let read = c.in_ok-fill.ensures in
    let so_far = c.loop-self.invariant.so_far in
    let reads = turn_reads c.in_ok-take_front.field-0 so_far.0 c.loop-self.self.unread c.take_front.new.self.unread c.loop-self.self.line.items c.take_front.new.self.line.items c.fill.new.self.line.items
    c.fill.new.self.unread _ (g.C.Client.remaining c.loop-self.client) (g.C.Client.remaining c.fill.new.client) c.if-branch.false turn.moved so_far.1 so_far.2 (ap (λ v. v.items) read.line) read.read in
    turn_ends (not c.is_empty.result) (so_far.0 ++ c.loop-self.self.unread) c.fill.new.self.line.items c.fill.new.self.unread
    _ (g.C.Client.remaining c.fill.new.client) reads (omega arith) (read.end c.if-branch-eq0.true)
    (some_by_test c.is_empty.result (vec_len c.fill.new.self.line) (length c.fill.new.self.line.items) c.is_empty.ensures c.fill.new.self.line.ok.0)
    (none_by_test c.is_empty.result (vec_len c.fill.new.self.line) (length c.fill.new.self.line.items) c.is_empty.ensures c.fill.new.self.line.ok.0)

pub loop-self-preserved : goal.loop-self-preserved
loop-self-preserved g c =
    let turn = c.in_ok-take_front.ensures in
    let read = c.in_ok-fill.ensures in
    let so_far = c.loop-self.invariant.so_far in
    let reads = turn_reads c.in_ok-take_front.field-0 so_far.0 c.loop-self.self.unread c.take_front.new.self.unread c.loop-self.self.line.items c.take_front.new.self.line.items c.fill.new.self.line.items
    c.fill.new.self.unread _ (g.C.Client.remaining c.loop-self.client) (g.C.Client.remaining c.fill.new.client) c.if-branch.false turn.moved so_far.1 so_far.2 (ap (λ v. v.items) read.line) read.read in
    let same_len : vec_len c.fill.new.self.line ≡ vec_len c.take_front.new.self.line = cc in
    record {
      so_far = (so_far.0 ++ c.loop-self.self.unread, reads.is_line, reads.goes_on);
      spent =
          spends_more _ _ _ c.args.self.now.bytes_left c.loop-self.self.bytes_left c.fill.new.self.bytes_left c.loop-self.invariant.spent
          (spends_read _ _ c.fill.new.self.unread c.loop-self.self.bytes_left c.fill.new.self.bytes_left c.in_ok-fill.field-0 read.read read.count (read.bytes ∙ turn.bytes));
      heard =
          hears_more c.in_ok-take_front.field-0 _ _ _ c.args.self.now.unread c.loop-self.self.unread c.take_front.new.self.unread c.loop-self.self.line.items c.take_front.new.self.line.items c.fill.new.self.line.items
          c.fill.new.self.unread c.if-branch.false turn.moved (ap (λ v. v.items) read.line) read.received c.loop-self.invariant.heard;
      sent = c.fill.ensures.sent ∙ c.loop-self.invariant.sent;
      going = read.ended ∙ turn.ended ∙ c.loop-self.invariant.going;
      in_hand = λ has. absurd (in_hand_taken c.in_ok-take_front.field-0 c.loop-self.self.reads_left c.loop-self.self.unread _ _ _ c.if-branch.false turn.moved (c.loop-self.invariant.in_hand has));
      fewer = omega (arith, read.count, read.bytes, turn.bytes, turn.less, same_len);
    }

pub returns-then-branch-clause-spent : goal.returns-then-branch-clause-spent
returns-then-branch-clause-spent g c =
    subst (λ (n : ℕ). Spends (g.C.Client.remaining c.args.client.now) (g.C.Client.remaining c.loop-self.client) c.args.self.now.bytes_left n)
    (sym c.in_ok-take_front.ensures.bytes) c.loop-self.invariant.spent

pub returns-then-branch-eq0-clause-spent : goal.returns-then-branch-eq0-clause-spent
returns-then-branch-eq0-clause-spent g c =
    let turn = c.in_ok-take_front.ensures in
    let read = c.in_ok-fill.ensures in
    spends_more _ _ _ c.args.self.now.bytes_left c.loop-self.self.bytes_left c.fill.new.self.bytes_left c.loop-self.invariant.spent
    (spends_read _ _ c.fill.new.self.unread c.loop-self.self.bytes_left c.fill.new.self.bytes_left c.in_ok-fill.field-0 read.read read.count (read.bytes ∙ turn.bytes))

pub returns-then-branch-clause-ended : goal.returns-then-branch-clause-ended
returns-then-branch-clause-ended g c = λ over.
    absurd (true≢false (sym over ∙ (c.in_ok-take_front.ensures.ended ∙ c.loop-self.invariant.going)))

pub returns-then-branch-eq0-clause-ended : goal.returns-then-branch-eq0-clause-ended
returns-then-branch-eq0-clause-ended g c = λ _.
    let read = c.in_ok-fill.ensures in
    (nil_from_length c.fill.new.self.unread (omega (arith, read.count, c.if-branch-eq0.true)), read.end c.if-branch-eq0.true)

pub fill-requires-clause-may : goal.fill-requires-clause-may
fill-requires-clause-may g c =
    let heard = hears_no_feed c.in_ok-take_front.field-0 _ _ c.args.self.now.unread c.loop-self.self.unread c.take_front.new.self.unread c.loop-self.self.line.items c.take_front.new.self.line.items
    c.if-branch.false c.in_ok-take_front.ensures.moved c.loop-self.invariant.heard in
    c.requires.may c.if-self.false heard.0 c.loop-self.client heard.1 c.loop-self.invariant.sent

pub returns-then-branch-clause-received : goal.returns-then-branch-clause-received
returns-then-branch-clause-received g c = λ _.
    hears_line c.in_ok-take_front.field-0 _ _ c.args.self.now.unread c.loop-self.self.unread c.take_front.new.self.unread c.loop-self.self.line.items c.take_front.new.self.line.items
    c.if-branch.true c.in_ok-take_front.ensures.moved c.loop-self.invariant.heard
