-- What a board posts.
use Rattle.std.proofs.Common.{◌≡◌, ℕ, ◌+◌, ◌-◌, ◌^◌, ◌<◌, ◌≤◌, List, [], ◌∷◌, ◌++◌, length, sym, ap, subst, ◌∙◌, inl, inr, arith}
use Rattle.std.specs.Prelude.{Result, Ok, Err, Some, IsOk, MatchResult}
use Rattle.std.proofs.lemmas.Bool.{false≢true}
use Rattle.std.proofs.lemmas.List.{length-map, map_push}
use Rattle.escrow_machine.specs.declared.reply.Reply.{Reply}
use Rattle.escrow_transcript.specs.declared.base.Base.{Base}
use Rattle.escrow_transcript.specs.declared.entry.Entry.{Entry}
use Rattle.escrow_transcript.specs.declared.transcript.TheConstants.Transcript.{MAX_NUMBER}
use Rattle.escrow_stats.specs.declared.shown.Post.{Post}
use Rattle.escrow_stats.specs.declared.shown.Shown.{Shown}
use Rattle.escrow_stats.specs.declared.tally.Tally.{Tally}
use Rattle.escrow_stats.specs.Tally.{tally_of}
use Rattle.sqlite_trees.specs.declared.store.Store.{Ghosts}
use Rattle.escrow_stats.specs.declared.known.Known.{Known}
use Rattle.escrow_stats.specs.Watching.{Board, IsAlwaysClean, IsPrefix, IsLegalFrom, replies_of}
use Rattle.escrow_stats.specs.Prefixes.{IsBoard, IsNamed, IsPosted, IsPostOf, MayShow, newcomer}
use Rattle.escrow_stats.proofs.Rule.{last_post, whole_front}

-- the totals with one more entry
pub tallied_more : (totals new : Tally) (all : List Entry) (e : Entry) (number : ℕ) → number ≡ length all + 1 → number ≤ MAX_NUMBER → totals ≡ tally_of (replies_of all)
    → ((replies : List Reply) → totals ≡ tally_of replies → length replies < 2 ^ 64 - 1 → new ≡ tally_of (replies ++ e.reply ∷ []))
    → new ≡ tally_of (replies_of (all ++ e ∷ []))
tallied_more totals new all e number is fits tallied with_one =
    let few : length (replies_of all) < 2 ^ 64 - 1 = let long = length-map all (λ (e : Entry). e.reply) in omega (arith, long, is, fits) in
    with_one (replies_of all) tallied few ∙ ap tally_of (sym (map_push (λ (e : Entry). e.reply) all e))

-- the posts that wait to be shown, whether there was room for one more or not
pub waits : {E : Type 0} (r : Result E Post) (old new : List Post) (p : Post) (start : Base) (all : List Entry)
    → MatchResult r (λ _. new ≡ old ++ p ∷ []) (λ x. (x ≡ p) × (new ≡ old)) → old ≡ [] → IsPostOf start all p → IsPosted start all new
waits (Ok done) old new p start all is idle posted = inr (p, (is ∙ ap (λ (ps : List Post). ps ++ p ∷ []) idle, posted))
waits (Err back) old new p start all is idle posted = inl (is.1 ∙ idle)

-- the board, from what its writing end knows
abbrev pub boarded : Base → Known → Board
boarded start v = record { base = start; entries = v.entries; shown = v.shown; doubts = v.doubts }

-- what its caller says about one more entry
pub may_show : {S : Type 0} (g : Ghosts S) (named start : Base) (v : Known) (old : Board) (e more : Entry) (doubts : ℕ) → boarded start v ≡ old → named ≡ start → e ≡ more
    → (doubts ≡ 0 → IsLegalFrom old.base (old.entries ++ e ∷ [])) → (IsAlwaysClean g → doubts ≡ 0) → old.doubts ≤ doubts → MayShow g named (v.entries ++ more ∷ []) doubts v
may_show g named start v old e more doubts is same picked legal always fewer = record {
  legal = λ none.
      subst (λ (b : Base). IsLegalFrom b (v.entries ++ more ∷ [])) (sym same)
      (subst (λ (x : Entry). IsLegalFrom start (v.entries ++ x ∷ [])) picked
      (subst (λ (b : Board). IsLegalFrom b.base (b.entries ++ e ∷ [])) (sym is) (legal none)));
  always = always;
  more = subst (λ (b : Board). b.doubts ≤ doubts) (sym is) fewer;
}

-- what a result says if it never fails
pub of_ok : {T E : Type 0} (r : Result T E) (P : Type 0) (Q : E → Type 0) → IsOk r → MatchResult r (λ _. P) Q → P
of_ok (Ok x) P Q ok said = said
of_ok (Err e) P Q ok said = absurd (false≢true ok)

-- a board that shows its first post
pub first_board : (start : Base) (totals : Tally) (first x y : Shown) (v w : Known) (pending later : List Post) → first.post.value.base.value.value ≡ start → first.post.value.count ≡ 0
    → x ≡ first → pending ≡ [] → v ≡ newcomer → (y.totals, y.post.value) ≡ last_post (x.totals, x.post.value) pending → IsNamed v x y w → later ≡ [] → totals ≡ tally_of []
    → IsBoard start totals y later w
first_board start totals first x y v w pending later names zero shown none new same named idle nothing =
    let post : y.post.value ≡ first.post.value =
    ap (λ (t : Tally × Post). t.1) (same ∙ ap (last_post (x.totals, x.post.value)) none) ∙ ap (λ (s : Shown). s.post.value) shown in
    let known : w ≡ record { base = Some y.post.value.base.value.value; shown = []; doubts = 0; entries = [] } =
    named ∙ ap (λ (k : Known). record { base = Some y.post.value.base.value.value; shown = k.shown; doubts = k.doubts; entries = k.entries }) new in
    record {
      writes = record {
        named = ap (λ (k : Known). k.base) known ∙ ap (λ (p : Post). Some p.base.value.value) post ∙ ap Some names;
        shows = ap (λ (p : Post). p.base.value.value) post ∙ names;
        counted = ap (λ (k : Known). length k.shown) known ∙ sym (ap (λ (p : Post). p.count) post ∙ zero);
        begins = subst (λ (k : Known). IsPrefix k.shown k.entries) (sym known) (whole_front []);
      };
      tallied = nothing ∙ ap (λ (k : Known). tally_of (replies_of k.entries)) (sym known);
      idle = idle;
    }
