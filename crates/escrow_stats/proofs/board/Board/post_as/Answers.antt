use Rattle.std.proofs.Common.{◌≡◌, ◌∷◌, ◌++◌, ◌+◌, [], Some, List, length, refl, sym, ap, ◌∙◌}
use Rattle.std.proofs.lemmas.List.{length-append}
use Rattle.left_right.specs.Sides.{view as seen}
use Rattle.escrow_transcript.specs.declared.entry.Entry.{Entry}
use Rattle.escrow_stats.specs.declared.known.Known.{Known}
use Rattle.escrow_stats.specs.Tally.{tally_of}
use Rattle.escrow_stats.specs.Watching.{Board, replies_of}
use Rattle.escrow_stats.specs.Prefixes.{IsPostOf, Writes}
use Rattle.escrow_stats.proofs.Posting.{may_show, tallied_more, waits}
use Rattle.escrow_stats.proofs.board.Board.post_as.Goals as goal

pub replace_with-requires : goal.replace_with-requires
replace_with-requires g c =
    let board = c.self.invariant in
    let base = c.self.inside.base.value in
    let shown = c.self.inside.writer.desk.shown.value in
    let named = shown.post.value.base.value.value in
    let known : Known = seen c.self.inside.writer.desk.place in
    let number = c.requires.number.0 ∙ ap (λ (b : Board). length b.entries + 1) (sym c.self.view_is) in
    let totals = tallied_more c.self.inside.totals c.with-totals.result known.entries c.args.entry.now c.args.entry.now.number number c.requires.number.1 board.tallied c.with-totals.ensures.tally in
    let posted : IsPostOf named (known.entries ++ g.N.Next.more ∷ []) (record { totals = c.with-totals.result; count = c.args.entry.now.number; base = c.of.result }) = record {
      named = ap (λ b. b.value) c.of.ensures ∙ sym board.writes.shows;
      totals = totals ∙ ap (λ (e : Entry). tally_of (replies_of (known.entries ++ e ∷ []))) c.requires.picked;
      count = number ∙ sym (length-append known.entries (g.N.Next.more ∷ []));
    } in
    let writes : Writes named shown known = record { named = board.writes.named ∙ ap Some (sym board.writes.shows); shows = refl; counted = board.writes.counted; begins = board.writes.begins } in
    rw c.append.ensures.desk (
      writes,
      (
        waits c.append.result _ _ _ named (known.entries ++ g.N.Next.more ∷ []) c.append.ensures.pending board.idle posted,
        may_show g.S.Store named base known c.args.self.now c.args.entry.now g.N.Next.more g.N.Next.doubts c.self.view_is board.writes.shows c.requires.picked c.requires.legal c.requires.always c.requires.more,
      ),
    )

pub invariant_of-self : goal.invariant_of-self
invariant_of-self g c =
    let board = c.self.invariant in
    let done = c.replace_with.ensures in
    let known : Known = seen c.self.inside.writer.desk.place in
    let number = c.requires.number.0 ∙ ap (λ (b : Board). length b.entries + 1) (sym c.self.view_is) in
    let totals = tallied_more c.self.inside.totals c.with-totals.result known.entries c.args.entry.now c.args.entry.now.number number c.requires.number.1 board.tallied c.with-totals.ensures.tally in
    let same : (seen c.append.new.self.desk.place).entries ++ g.N.Next.more ∷ [] ≡ known.entries ++ g.N.Next.more ∷ [] = rw c.append.ensures.desk refl in
    record {
      writes = record {
        named = done.0.named ∙ rw c.append.ensures.desk board.writes.named;
        shows = done.1.0 ∙ rw c.append.ensures.desk board.writes.shows;
        counted = done.0.count;
        begins = done.0.begins;
      };
      tallied = totals ∙ ap (λ (e : Entry). tally_of (replies_of (known.entries ++ e ∷ []))) c.requires.picked ∙ ap (λ (es : List Entry). tally_of (replies_of es)) (sym (done.0.entries ∙ same));
      idle = done.1.1;
    }
