use Rattle.std.proofs.Common.{◌≡◌, ◌++◌, [], ℕ, List, length, arith, refl, ap, subst, sym, ◌∙◌, append_assoc}
use Rattle.escrow_serve.specs.Batch.{Gathers}
use Rattle.escrow_serve.specs.Output.{states_of}
use Rattle.escrow_serve.specs.Ran.{LineRan}
use Rattle.escrow_serve.specs.Task.{IsTask}
use Rattle.escrow_serve.specs.Totals.{LineServed}
use Rattle.escrow_serve.proofs.GatherLemmas.{hand_and_one}
use Rattle.escrow_serve.proofs.LinesLemmas.{lines_more, lines_none}
use Rattle.escrow_serve.proofs.ScriptRanLemmas.{hand_ran, hand_ran_and_one, line_ran}
use Rattle.escrow_serve.proofs.serve.serve_in_hand.Goals as goal

pub serve-requires-clause-gathered : goal.serve-requires-clause-gathered
serve-requires-clause-gathered g c =
    let so_far = c.gather_lines-alone.ensures.gathered in
    let batch = c.gather_lines-alone.new.batch in
    (c.args.sessions, so_far.items, subst (λ (n : ℕ). Gathers c.args.sessions n batch.waiting.items batch.parts.items so_far.items) c.len.ensures so_far.gathers)

pub serve_task-requires-clause-asked : goal.serve_task-requires-clause-asked
serve_task-requires-clause-asked g c =
    let last = c.in-Some.ensures.gathered.is_last in
    (c.args.sessions, last.0, subst (λ (n : ℕ). IsTask c.args.sessions n last.0 c.in-Some.task) (c.len.ensures ∙ sym c.serve.ensures.len) last.2)

pub returns-in-Some-clause-empty : goal.returns-in-Some-clause-empty
returns-in-Some-clause-empty g c =
    let left = c.serve.new.self in
    subst (λ (n : ℕ). Gathers c.args.sessions n left.waiting.items left.parts.items []) (sym c.serve_task.ensures.len) (c.serve.ensures.empty c.args.sessions)

pub returns-in_default-clause-empty : goal.returns-in_default-clause-empty
returns-in_default-clause-empty g c = c.serve.ensures.empty c.args.sessions

pub returns-then-not-has_line-clause-served : goal.returns-then-not-has_line-clause-served
returns-then-not-has_line-clause-served g c =
    let one = c.serve_line.ensures.served in
    let before = states_of c.args.databases.now.items in
    let after = states_of c.serve_line.new.databases.items in
    let counted = c.serve_line.new.totals.items in
    let totals = c.args.totals.now.items in (
      [],
      one.0,
      λ rem. refl,
      omega arith,
      one.1,
      λ used. lines_more c.args.sessions before before after totals totals counted [] c.args.script.now.line.items [] one.0 (lines_none c.args.sessions before totals)
          (subst (λ (line : List ℕ). LineServed c.args.sessions before totals line one.0 after counted) c.line.ensures.value (one.2 used)),
    )

pub returns-in-Some-clause-served : goal.returns-in-Some-clause-served
returns-in-Some-clause-served g c =
    let so_far = c.in-Some.ensures.gathered in
    let batch = c.gather_lines-alone.new.batch in
    let gathers = subst (λ (n : ℕ). Gathers c.args.sessions n batch.waiting.items batch.parts.items so_far.items) c.len.ensures so_far.gathers in
    let first = c.serve.ensures.served in
    let one = c.serve_task.ensures.served in
    let count = c.len.ensures ∙ sym c.serve.ensures.len in (
      so_far.lines,
      first.0 ++ one.0,
      so_far.taken,
      so_far.fewer,
      one.1 ∙ ap (λ (l : List ℕ). l ++ one.0) (first.1 ∙ ap (λ (l : List ℕ). l ++ first.0) c.gather_lines-alone.ensures.same) ∙ append_assoc c.args.replies.now.items first.0 one.0,
      λ used. hand_and_one c.args.sessions c.len.result c.args.script.now.line.items c.args.script.now.unread c.gather_lines-alone.new.script.unread batch.waiting.items batch.parts.items c.in-Some.task
          (states_of c.args.databases.now.items) (states_of c.serve.new.databases.items) (states_of c.serve_task.new.databases.items) c.args.totals.now.items c.serve.new.totals.items c.serve_task.new.totals.items
          first.0 one.0 so_far (first.2 c.args.sessions so_far.items gathers (c.serve_task.ensures.clean used)) (λ bytes is. one.2 used c.args.sessions bytes (subst (λ (n : ℕ). IsTask c.args.sessions n bytes c.in-Some.task) count is)),
    )

pub returns-then-not-has_line-clause-ran : goal.returns-then-not-has_line-clause-ran
returns-then-not-has_line-clause-ran g c =
    let one = c.serve_line.ensures.ran in
    let before = c.args.databases.now.items in
    let after = c.serve_line.new.databases.items in (
      [],
      one.0,
      λ rem. refl,
      omega arith,
      one.1,
      line_ran g.S.Store c.args.sessions before after c.args.script.now.line.items one.0
          (subst (λ (line : List ℕ). LineRan g.S.Store c.args.sessions before line one.0 after) c.line.ensures.value one.2),
    )

pub returns-in-Some-clause-ran : goal.returns-in-Some-clause-ran
returns-in-Some-clause-ran g c =
    let so_far = c.in-Some.ensures.gathered in
    let batch = c.gather_lines-alone.new.batch in
    let gathers = subst (λ (n : ℕ). Gathers c.args.sessions n batch.waiting.items batch.parts.items so_far.items) c.len.ensures so_far.gathers in
    let first = c.serve.ensures.ran in
    let one = c.serve_task.ensures.ran in
    let count = c.len.ensures ∙ sym c.serve.ensures.len in
    let many : length c.serve.new.databases.items ≡ length c.args.databases.now.items = omega (arith, c.serve.ensures.len, c.serve.new.databases.ok.0, c.args.databases.now.ok.0) in (
      so_far.lines,
      first.0 ++ one.0,
      so_far.taken,
      so_far.fewer,
      one.1 ∙ ap (λ (l : List ℕ). l ++ one.0) (first.1 ∙ ap (λ (l : List ℕ). l ++ first.0) c.gather_lines-alone.ensures.same) ∙ append_assoc c.args.replies.now.items first.0 one.0,
      hand_ran_and_one g.S.Store c.args.sessions c.len.result c.args.script.now.line.items c.args.script.now.unread c.gather_lines-alone.new.script.unread batch.waiting.items batch.parts.items c.in-Some.task
          c.args.databases.now.items c.serve.new.databases.items c.serve_task.new.databases.items first.0 one.0 so_far many (first.2 c.args.sessions so_far.items gathers)
          (λ bytes is. one.2 c.args.sessions bytes (subst (λ (n : ℕ). IsTask c.args.sessions n bytes c.in-Some.task) count is)),
    )

pub returns-in_default-clause-ran : goal.returns-in_default-clause-ran
returns-in_default-clause-ran g c =
    let so_far = c.in_default.ensures.gathered in
    let batch = c.gather_lines-alone.new.batch in
    let gathers = subst (λ (n : ℕ). Gathers c.args.sessions n batch.waiting.items batch.parts.items so_far.items) c.len.ensures so_far.gathers in
    let all = c.serve.ensures.ran in (
      so_far.lines,
      all.0,
      so_far.taken,
      so_far.fewer,
      all.1 ∙ ap (λ (l : List ℕ). l ++ all.0) c.gather_lines-alone.ensures.same,
      hand_ran g.S.Store c.args.sessions c.len.result c.args.script.now.line.items c.args.script.now.unread c.gather_lines-alone.new.script.unread batch.waiting.items batch.parts.items
          c.args.databases.now.items c.serve.new.databases.items all.0 so_far (all.2 c.args.sessions so_far.items gathers),
    )
