use Rattle.std.proofs.Common.{List, Some, sym, ap, subst, ◌∙◌}
use Rattle.escrow_transcript.specs.declared.entry.Entry.{Entry}
use Rattle.escrow_transcript.specs.Image.{started}
use Rattle.escrow_transcript.proofs.Legals.{nothing_is_legal}
use Rattle.escrow_stats.specs.Tally.{tally_of}
use Rattle.escrow_stats.specs.Watching.{replies_of, IsLegalFrom}
use Rattle.escrow_stats.proofs.watcher.Watcher.new.Goals as goal

pub invariant_of-result : goal.invariant_of-result
invariant_of-result g c =
    let start = c.of.result.value.value in
    record {
      named = c.requires.named ∙ ap (λ b. Some b.value) (sym c.of.ensures);
      tallied = c.new.ensures ∙ ap (λ (es : List Entry). tally_of (replies_of es)) (sym c.requires.unread.0);
      legal = λ _. subst (IsLegalFrom start) (sym c.requires.unread.0) (started start.image, nothing_is_legal start);
      always = λ _. c.requires.unread.1;
    }
