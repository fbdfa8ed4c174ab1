use Rattle.std.proofs.Common.{◌≡◌, ℕ, ◌+◌, ◌++◌, ◌∷◌, [], List, length, drop, refl, sym, ap, subst, ◌∙◌, append_assoc, append-nil, arith}
use Rattle.std.proofs.lemmas.List.{drop_all, length-append, length_push}
use Rattle.escrow_transcript.specs.declared.base.Base.{Base}
use Rattle.escrow_transcript.specs.declared.entry.Entry.{Entry}
use Rattle.escrow_transcript.specs.Legal.{AreNumbered, IsLegal}
use Rattle.escrow_shards.proofs.Rest.{rest_at}
use Rattle.escrow_shards.proofs.Together.{legal_front}
use Rattle.escrow_shards.proofs.watched.show_all.Given.{Over}
use Rattle.escrow_shards.proofs.watched.show_all.Goals as goal
use Rattle.escrow_shards.proofs.watched.show_all.Goals.{After-entry-item}

pub loop-entry-init : goal.loop-entry-init
loop-entry-init g c = record {
  base = refl;
  entries = refl;
  numbered = c.requires.numbered;
  begins = c.requires.begins;
  fewer = c.requires.more;
}

-- the entry stands in front of those behind it
here : (g : Over) (c : After-entry-item g) → drop c.loop-entry.entry-index c.args.entries.now ≡ c.entry-item.result ∷ drop (c.loop-entry.entry-index + 1) c.args.entries.now
here g c = rest_at c.args.entries.now c.loop-entry.entry-index c.entry-item.result c.loop-entry-test.true c.entry-item.is

pub show-requires-clause-number : goal.show-requires-clause-number
show-requires-clause-number g c =
    let at = c.loop-entry in
    let entries = c.args.entries.now in
    let i = at.entry-index in
    let numbered = subst (AreNumbered (length at.board.entries)) (here g (goal.at.show-requires-clause-number g c).After-entry-item) at.invariant.numbered in
    let left = ap length (here g (goal.at.show-requires-clause-number g c).After-entry-item) in
    let all = sym (length-append at.board.entries (drop i entries)) ∙ ap length at.invariant.entries ∙ length-append c.args.board.now.entries entries in
    let few = c.requires.few in
    let number = numbered.0 in
    (number, omega (arith, number, left, all, few))

pub show-requires-clause-legal : goal.show-requires-clause-legal
show-requires-clause-legal g c =
    let at = c.loop-entry in
    let entries = c.args.entries.now in
    let all = c.args.board.now.entries ++ entries in
    λ clean.
    legal_front at.board.base at.board.entries (drop (at.entry-index + 1) entries) all c.entry-item.result c.args.audited.now.state
    (ap (λ (es : List Entry). at.board.entries ++ es) (sym (here g (goal.at.show-requires-clause-legal g c).After-entry-item)) ∙ at.invariant.entries)
    (subst (λ (b : Base). IsLegal b all c.args.audited.now.state) (sym at.invariant.base) (c.requires.legal clean))

pub loop-entry-preserved : goal.loop-entry-preserved
loop-entry-preserved g c =
    let at = c.loop-entry in
    let entries = c.args.entries.now in
    let i = at.entry-index in
    let e = c.entry-item.result in
    let numbered = subst (AreNumbered (length at.board.entries)) (here g (goal.at.loop-entry-preserved g c).After-entry-item) at.invariant.numbered in
    let shown = c.show.ensures in
    record {
      base = shown.base ∙ at.invariant.base;
      entries = ap (λ (es : List Entry). es ++ drop (i + 1) entries) shown.entries ∙ append_assoc at.board.entries (e ∷ []) (drop (i + 1) entries)
          ∙ ap (λ (es : List Entry). at.board.entries ++ es) (sym (here g (goal.at.loop-entry-preserved g c).After-entry-item)) ∙ at.invariant.entries;
      numbered = subst (λ (n : ℕ). AreNumbered n (drop (i + 1) entries)) (sym (ap length shown.entries ∙ length_push at.board.entries e)) numbered.1;
      begins = shown.shown;
      fewer = shown.doubts;
    }

pub returns-clause-entries : goal.returns-clause-entries
returns-clause-entries g c =
    let at = c.loop-entry in
    let entries = c.args.entries.now in
    let none = drop_all at.entry-index entries (omega (arith, c.loop-entry-test.false)) in
    sym (append-nil at.board.entries) ∙ ap (λ (es : List Entry). at.board.entries ++ es) (sym none) ∙ at.invariant.entries
