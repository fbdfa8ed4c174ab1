-- Each step keeps the rule of a board.
use Rattle.std.proofs.Common.{◌≡◌, ◌≢◌, ◌∙◌, ◌+◌, ℕ, ◌≤◌, List, [], ◌∷◌, ◌++◌, length, Option, Some, set, refl, sym, ap, subst, inl, inr, ⊎_elim, append_assoc, le_refl, zero-le, arith}
use Rattle.std.specs.Prelude.{IfSome, fold}
use Rattle.std.proofs.lemmas.List.{append-nil, nil_from_length, length-append}
use mathlib.Core.Option.{some}
use lib.ListN.{get_elem?}
use Rattle.left_right.specs.Register.{Admits, TurnsAt, Forks, Merges}
use Rattle.atomic_table.proofs.Lists.{at_set, at_snoc}
use Rattle.sqlite_trees.specs.declared.store.Store.{Ghosts}
use Rattle.escrow_transcript.specs.declared.base.Base.{Base}
use Rattle.escrow_transcript.specs.declared.entry.Entry.{Entry}
use Rattle.escrow_transcript.proofs.Legals.{nothing_is_legal}
use Rattle.escrow_transcript.specs.Image.{started}
use Rattle.escrow_stats.specs.declared.known.Known.{Known}
use Rattle.escrow_stats.specs.declared.shown.Post.{Post}
use Rattle.escrow_stats.specs.declared.shown.Shown.{Shown}
use Rattle.escrow_stats.specs.declared.tally.Tally.{Tally}
use Rattle.escrow_stats.specs.Watching.{IsPrefix, IsLegalFrom}
use Rattle.escrow_stats.specs.Prefixes.{newcomer, IsPostOf, Holds, Keeps, IsNamed, IsPublished, IsRead, introduced, acquainted, Writes, IsPosted, MayShow}

-- PREFIXES

pub no_front : (entries : List Entry) → IsPrefix [] entries
no_front entries = (entries, refl)

pub whole_front : (entries : List Entry) → IsPrefix entries entries
whole_front entries = ([], sym (append-nil entries))

pub front_of_more : (front entries more : List Entry) → IsPrefix front entries → IsPrefix front (entries ++ more)
front_of_more front entries more (rest, is) = (rest ++ more, ap (λ (es : List Entry). es ++ more) is ∙ append_assoc front rest more)

-- a prefix as long as the whole list is the whole list
long_front : (front entries : List Entry) → IsPrefix front entries → length front ≡ length entries → front ≡ entries
long_front front entries (rest, is) long =
    let none : rest ≡ [] = nil_from_length rest (let n : length entries ≡ length front + length rest = ap length is ∙ length-append front rest in omega (arith, n, long)) in
    sym (append-nil front) ∙ ap (λ (es : List Entry). front ++ es) (sym none) ∙ sym is

-- if the base is known, it is this one
base_of : (o : Option Base) (b start : Base) → o ≡ Some b → IfSome o (λ (c : Base). c ≡ start) → b ≡ start
base_of o b start is named = let P : Option Base → Type 0 = λ (o : Option Base). IfSome o (λ (c : Base). c ≡ start) in subst P is named

-- NEW ENDS

-- what a new end knows is true
new_holds : (start : Base) (all : List Entry) (doubts : ℕ) → (all ≡ [] → doubts ≡ 0) → Holds start all doubts newcomer
new_holds start all doubts fresh = record {
  named = tt;
  seen = no_front all;
  fewer = zero-le;
  last = λ long. let none = fresh (nil_from_length all (sym long)) in omega (arith, none);
}

-- if one end learns something else that is true, each end still knows true facts
set_holds : (start : Base) (all : List Entry) (doubts : ℕ) (views : List Known) (seat : ℕ) (w : Known)
    → ((j : ℕ) (u : Known) → get_elem? views j ≡ some u → Holds start all doubts u) → Holds start all doubts w
    → (j : ℕ) (u : Known) → get_elem? (set views seat w) j ≡ some u → Holds start all doubts u
set_holds start all doubts views seat w each holds j u at =
    ⊎_elim (λ (t : (j ≡ seat) × (w ≡ u)). subst (Holds start all doubts) t.1 holds) (λ (t : (j ≢ seat) × (get_elem? views j ≡ some u)). each j u t.1) (at_set views seat j w u at)

-- the same with a new end
snoc_holds : (start : Base) (all : List Entry) (doubts : ℕ) (views : List Known) (w : Known)
    → ((j : ℕ) (u : Known) → get_elem? views j ≡ some u → Holds start all doubts u) → Holds start all doubts w
    → (j : ℕ) (u : Known) → get_elem? (views ++ w ∷ []) j ≡ some u → Holds start all doubts u
snoc_holds start all doubts views w each holds j u at = ⊎_elim (each j u) (λ (e : w ≡ u). subst (Holds start all doubts) e holds) (at_snoc views w u j at)

-- the post shown is the last one posted
abbrev pub last_post : Tally × Post → List Post → Tally × Post
last_post shown posts = fold (λ (_ : Tally × Post) (p : Post). (p.totals, p)) shown posts

module _ {S : Type 0} (g : Ghosts S) where
  -- the same is shown, and what the ends know is true
  with_views : (x y : Shown) (views others : List Known) (kept : Keeps g x views) → y.totals ≡ x.totals → y.post.value ≡ x.post.value
      → ((seat : ℕ) (v : Known) → get_elem? others seat ≡ some v → Holds kept.base kept.entries kept.doubts v) → Keeps g y others
  with_views x y views others kept totals post each = record {
    base = kept.base;
    entries = kept.entries;
    doubts = kept.doubts;
    same = totals ∙ kept.same ∙ ap (λ (p : Post). p.totals) (sym post);
    posted = subst (IsPostOf kept.base kept.entries) (sym post) kept.posted;
    legal = kept.legal;
    always = kept.always;
    fresh = kept.fresh;
    each = each;
  }

  pub admits : Admits (Keeps g) newcomer
  admits x views kept =
      with_views x x views (views ++ newcomer ∷ []) kept refl refl
      (snoc_holds kept.base kept.entries kept.doubts views newcomer kept.each (new_holds kept.base kept.entries kept.doubts kept.fresh))

  -- a board that shows nothing
  pub begins : (start : Base) (x : Shown) → x.totals ≡ x.post.value.totals → IsPostOf start [] x.post.value → Keeps g x (newcomer ∷ [])
  begins start x same posted = record {
    base = start;
    entries = [];
    doubts = 0;
    same = same;
    posted = posted;
    legal = λ _. (started start.image, nothing_is_legal start);
    always = λ _. refl;
    fresh = λ _. refl;
    each = snoc_holds start [] 0 [] newcomer (λ seat v at. absurd (cc)) (new_holds start [] 0 (λ _. refl));
  }

  -- STEPS OF ONE END

  -- the totals shown are read
  pub reads : (seat : ℕ) (v : Known) (x : Shown) → TurnsAt (Keeps g) seat v x x (IsRead g)
  reads seat v x views kept at =
      let known = kept.each seat v at in
      let w : Known = record { base = v.base; shown = kept.entries; doubts = kept.doubts; entries = v.entries } in
      let holds : Holds kept.base kept.entries kept.doubts w = record { named = known.named; seen = whole_front kept.entries; fewer = le_refl kept.doubts; last = λ _. le_refl kept.doubts } in (
        w,
        with_views x x views (set views seat w) kept refl refl (set_holds kept.base kept.entries kept.doubts views seat w kept.each holds),
        record {
          named = refl;
          totals = kept.same ∙ kept.posted.totals;
          legal = λ start is none. subst (λ (b : Base). IsLegalFrom b kept.entries) (sym (base_of v.base start kept.base is known.named)) (kept.legal none);
          always = kept.always;
          longer = known.seen;
          more = known.fewer;
        },
      )

  -- the same is shown, and the beginning of the history becomes known
  pub names : (seat : ℕ) (v : Known) (x y : Shown) → y.totals ≡ x.totals → y.post.value ≡ x.post.value → TurnsAt (Keeps g) seat v x y IsNamed
  names seat v x y totals post views kept at =
      let known = kept.each seat v at in
      let named : y.post.value.base.value.value ≡ kept.base = ap (λ (p : Post). p.base.value.value) post ∙ kept.posted.named in
      let w : Known = record { base = Some y.post.value.base.value.value; shown = v.shown; doubts = v.doubts; entries = v.entries } in
      let holds : Holds kept.base kept.entries kept.doubts w = record { named = named; seen = known.seen; fewer = known.fewer; last = known.last } in
      (w, with_views x y views (set views seat w) kept totals post (set_holds kept.base kept.entries kept.doubts views seat w kept.each holds), refl)

  -- PUBLISHING

  -- nothing else is shown
  same_shown : (seat : ℕ) (v : Known) (x y : Shown) (start : Base) (more : Entry) (next : ℕ) → Writes start x v → v.doubts ≤ next
      → y.totals ≡ x.totals → y.post.value ≡ x.post.value → TurnsAt (Keeps g) seat v x y (IsPublished more next)
  same_shown seat v x y start more next writes fewer totals post views kept at =
      let known = kept.each seat v at in
      let w : Known = record { base = v.base; shown = v.shown; doubts = v.doubts; entries = v.entries ++ more ∷ [] } in
      let holds : Holds kept.base kept.entries kept.doubts w = record { named = known.named; seen = known.seen; fewer = known.fewer; last = known.last } in (
        w,
        with_views x y views (set views seat w) kept totals post (set_holds kept.base kept.entries kept.doubts views seat w kept.each holds),
        record {
          named = refl;
          entries = refl;
          count = writes.counted ∙ ap (λ (p : Post). p.count) (sym post);
          begins = front_of_more v.shown v.entries (more ∷ []) writes.begins;
          fewer = fewer;
        },
      )

  -- what was true of a prefix is true of a longer list with no fewer doubts
  still_holds : (start : Base) (all rest : List Entry) (more : Entry) (doubts next : ℕ) (u : Known) → doubts ≤ next
      → Holds start all doubts u → Holds start ((all ++ rest) ++ more ∷ []) next u
  still_holds start all rest more doubts next u fewer known = record {
    named = known.named;
    seen = front_of_more u.shown (all ++ rest) (more ∷ []) (front_of_more u.shown all rest known.seen);
    fewer = (let a = known.fewer in omega (arith, a, fewer));
    last = λ long.
        let shorter : length all ≡ length u.shown + length known.seen.0 = ap length known.seen.1 ∙ length-append u.shown known.seen.0 in
        let longer : length ((all ++ rest) ++ more ∷ []) ≡ (length all + length rest) + 1 =
        length-append (all ++ rest) (more ∷ []) ∙ ap (λ (n : ℕ). n + 1) (length-append all rest) in
        absurd (omega (arith, long, shorter, longer));
  }

  -- the totals of all entries and one more are shown
  one_more : (seat : ℕ) (v : Known) (x y : Shown) (start : Base) (more : Entry) (next : ℕ) (p : Post) → Writes start x v
      → IsPostOf start (v.entries ++ more ∷ []) p → MayShow g start (v.entries ++ more ∷ []) next v → y.totals ≡ p.totals → y.post.value ≡ p
      → TurnsAt (Keeps g) seat v x y (IsPublished more next)
  one_more seat v x y start more next p writes posted may totals post views kept at =
      let known = kept.each seat v at in
      let whole : v.shown ≡ kept.entries = long_front v.shown kept.entries known.seen (writes.counted ∙ kept.posted.count) in
      let named : start ≡ kept.base = base_of v.base start kept.base writes.named known.named in
      let all : v.entries ≡ kept.entries ++ writes.begins.0 = writes.begins.1 ∙ ap (λ (es : List Entry). es ++ writes.begins.0) whole in
      let entries : List Entry = v.entries ++ more ∷ [] in
      let w : Known = record { base = v.base; shown = entries; doubts = next; entries = entries } in
      let fewer : kept.doubts ≤ next = (let a = known.last (ap length whole) in let b = may.more in omega (arith, a, b)) in
      let each : (j : ℕ) (u : Known) → get_elem? views j ≡ some u → Holds kept.base entries next u = λ j u there.
      subst (λ (es : List Entry). Holds kept.base (es ++ more ∷ []) next u) (sym all)
      (still_holds kept.base kept.entries writes.begins.0 more kept.doubts next u fewer (kept.each j u there)) in
      let holds : Holds kept.base entries next w = record { named = known.named; seen = whole_front entries; fewer = le_refl next; last = λ _. le_refl next } in
      let long : length entries ≡ length v.entries + 1 = length-append v.entries (more ∷ []) in (
        w,
        record {
          base = kept.base;
          entries = entries;
          doubts = next;
          same = totals ∙ ap (λ (p : Post). p.totals) (sym post);
          posted = subst (IsPostOf kept.base entries) (sym post) (subst (λ (b : Base). IsPostOf b entries p) named posted);
          legal = λ none. subst (λ (b : Base). IsLegalFrom b entries) named (may.legal none);
          always = may.always;
          fresh = λ none. let zero : length entries ≡ 0 = ap length none in absurd (omega (arith, long, zero));
          each = set_holds kept.base entries next views seat w each holds;
        },
        record { named = refl; entries = refl; count = sym (ap (λ (p : Post). p.count) post ∙ posted.count); begins = whole_front entries; fewer = le_refl next },
      )

  pub publishes : (seat : ℕ) (v : Known) (x y : Shown) (start : Base) (more : Entry) (next : ℕ) (pending : List Post) → Writes start x v
      → IsPosted start (v.entries ++ more ∷ []) pending → MayShow g start (v.entries ++ more ∷ []) next v
      → (y.totals, y.post.value) ≡ last_post (x.totals, x.post.value) pending → TurnsAt (Keeps g) seat v x y (IsPublished more next)
  publishes seat v x y start more next pending writes (inl none) may is =
      let same : (y.totals, y.post.value) ≡ (x.totals, x.post.value) = is ∙ ap (last_post (x.totals, x.post.value)) none in
      same_shown seat v x y start more next writes may.more (ap (λ (t : Tally × Post). t.0) same) (ap (λ (t : Tally × Post). t.1) same)
  publishes seat v x y start more next pending writes (inr (p, (one, posted))) may is =
      let same : (y.totals, y.post.value) ≡ (p.totals, p) = is ∙ ap (last_post (x.totals, x.post.value)) one in
      one_more seat v x y start more next p writes posted may (ap (λ (t : Tally × Post). t.0) same) (ap (λ (t : Tally × Post). t.1) same)

  -- A NEW END LEARNS WHERE THE HISTORY BEGINS

  pub forks : (seat : ℕ) (v : Known) → Forks (Keeps g) seat v v (introduced v)
  forks seat v x views kept at =
      let known = kept.each seat v at in
      let new = new_holds kept.base kept.entries kept.doubts kept.fresh in
      let told : Holds kept.base kept.entries kept.doubts (introduced v) = record { named = known.named; seen = new.seen; fewer = new.fewer; last = new.last } in
      with_views x x views (set views seat v ++ introduced v ∷ []) kept refl refl
      (snoc_holds kept.base kept.entries kept.doubts (set views seat v) (introduced v) (set_holds kept.base kept.entries kept.doubts views seat v kept.each known) told)

  pub merges : (seat : ℕ) (v : Known) (other : ℕ) (w : Known) → Merges (Keeps g) seat v other w (acquainted v w) newcomer
  merges seat v other w x views kept at apart there =
      let known = kept.each seat v at in
      let both = acquainted v w in
      let told : Holds kept.base kept.entries kept.doubts w =
      ⊎_elim (λ (t : (other ≡ seat) × (both ≡ w)). absurd (apart t.0)) (λ (t : (other ≢ seat) × (get_elem? views other ≡ some w)). kept.each other w t.1) (at_set views seat other both w there) in
      let holds : Holds kept.base kept.entries kept.doubts both = record { named = told.named; seen = known.seen; fewer = known.fewer; last = known.last } in
      with_views x x views (set (set views seat both) other newcomer) kept refl refl
      (set_holds kept.base kept.entries kept.doubts (set views seat both) other newcomer (set_holds kept.base kept.entries kept.doubts views seat both kept.each holds)
      (new_holds kept.base kept.entries kept.doubts kept.fresh))
