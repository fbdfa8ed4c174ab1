-- A line's turn: its session's outbox returns the next answer, and the line takes one entry or none.
use Rattle.std.proofs.Common.{◌≡◌, ◌≢◌, ◌⊎◌, ℕ, Bool, true, false, ◌&&◌, ◌<◌, ◌≤◌, eqb, if◌then◌else◌, Option, Some, None, List, [], ◌∷◌, ◌++◌, length, map, set, slice_get, refl, sym, ap, subst, ◌∙◌, inl, inr, arith}
use Rattle.std.proofs.lemmas.Bool.{eq-eqb, ne_eqb, cases_eq}
use Rattle.std.proofs.lemmas.List.{length-append, length-map, map-append}
use Rattle.escrow_num.specs.Session.{IsShared}
use Rattle.escrow_num.specs.declared.refusal.Refusal.TheVariants as refusal
use Rattle.escrow_statement.specs.declared.statement.Request.{Request}
use Rattle.escrow_statement.specs.declared.statement.Request.TheVariants as request
use Rattle.escrow_statement.specs.declared.statement.Statement.{Statement}
use Rattle.escrow_stats.specs.Tally.{tally_of}
use Rattle.escrow_stats.specs.declared.tally.Tally.{Tally}
use Rattle.escrow_shards.specs.declared.pass.Answer.TheVariants as answer
use Rattle.escrow_shards.specs.declared.pass.Receipt.{Receipt}
use Rattle.escrow_shards.specs.Pass.{Pass}
use Rattle.escrow_sessions.specs.Fed.{of}
use Rattle.escrow_sessions.specs.Serving.{IsGiven, Serves}
use Rattle.escrow_sessions.specs.declared.feed.Given.{Given}
use Rattle.escrow_sessions.specs.declared.feed.Given.TheVariants as given
use Rattle.escrow_script.specs.Line.{database_name}
use Rattle.escrow_free.specs.Outboxes.{outbox_of, answers_of, IsNext, IsCounted, seat_after, Fits, AreTotals}
use Rattle.escrow_free.specs.FreeOutput.{Taken, taken_by, replies_by, Does}
use Rattle.escrow_free.specs.Printing.{given_text, Matches, GoesOn, PrintsTo}
use Rattle.escrow_free.specs.declared.outbox.Outbox.{Outbox}
use Rattle.escrow_free.specs.declared.plan.Planned.{Planned}
use Rattle.escrow_free.specs.declared.plan.Planned.TheVariants as planned
use Rattle.escrow_sessions.proofs.Places.{set_cases}

-- WHAT A SESSION TOOK

-- what a line took from its session
abbrev one_taken : ℕ → ℕ → Receipt → Taken
one_taken place session r = record { place = place; session = session; receipt = r }

if_more : (b : Bool) (x r : Receipt) (xs ys : List Receipt) → ys ≡ xs ++ r ∷ [] → (if b then x ∷ ys else ys) ≡ (if b then x ∷ xs else xs) ++ r ∷ []
if_more true x r xs ys same = ap (λ (zs : List Receipt). x ∷ zs) same
if_more false x r xs ys same = same

if_same : (b : Bool) (x : Receipt) (xs ys : List Receipt) → ys ≡ xs → (if b then x ∷ ys else ys) ≡ (if b then x ∷ xs else xs)
if_same true x xs ys same = ap (λ (zs : List Receipt). x ∷ zs) same
if_same false x xs ys same = same

if_one : (b : Bool) (r : Receipt) → b ≡ true → (if b then r ∷ [] else []) ≡ r ∷ []
if_one b r e = rw e refl

if_none : (b : Bool) (r : Receipt) → b ≡ false → (if b then r ∷ [] else []) ≡ []
if_none b r e = rw e refl

both_true : (a b : Bool) → a ≡ true → b ≡ true → (a && b) ≡ true
both_true a b e f = rw (e, f) refl

first_false : (a b : Bool) → a ≡ false → (a && b) ≡ false
first_false a b e = rw e refl

second_false : (a b : Bool) → b ≡ false → (a && b) ≡ false
second_false true b e = e
second_false false b e = refl

taken_here : (place session : ℕ) (taken : List Taken) (r : Receipt) → taken_by place session (taken ++ one_taken place session r ∷ []) ≡ taken_by place session taken ++ r ∷ []
taken_here place session [] r = if_one (eqb place place && eqb session session) r (both_true (eqb place place) (eqb session session) (eq-eqb place place refl) (eq-eqb session session refl))
taken_here place session (t ∷ taken) r =
    if_more (eqb t.place place && eqb t.session session) t.receipt r (taken_by place session taken) (taken_by place session (taken ++ one_taken place session r ∷ [])) (taken_here place session taken r)

is_other : (p s place session : ℕ) → (p ≡ place → s ≡ session → ⊥) → (eqb place p && eqb session s) ≡ false
is_other p s place session apart = elim (cases_eq place p) [
  | inl same ↦ second_false (eqb place p) (eqb session s) (ne_eqb session s (λ e. apart (sym same) (sym e)))
  | inr other ↦ first_false (eqb place p) (eqb session s) (ne_eqb place p other)
]

taken_else : (p s place session : ℕ) (taken : List Taken) (r : Receipt) → (p ≡ place → s ≡ session → ⊥) → taken_by p s (taken ++ one_taken place session r ∷ []) ≡ taken_by p s taken
taken_else p s place session [] r apart = if_none (eqb place p && eqb session s) r (is_other p s place session apart)
taken_else p s place session (t ∷ taken) r apart =
    if_same (eqb t.place p && eqb t.session s) t.receipt (taken_by p s taken) (taken_by p s (taken ++ one_taken place session r ∷ [])) (taken_else p s place session taken r apart)

-- THE RECEIPTS OF A PASS ONLY GROW

given_grows : (r : Request) (g : Given) (old new : Pass) → IsGiven r g old new → length old.receipts ≤ length new.receipts
given_grows (request.Statement asked) (given.Reply (answer.Served r)) old new h =
    let one : Receipt = record { number = h.1.0; statement = asked; reply = r } in
    let same : length new.receipts ≡ length (old.receipts ++ one ∷ []) = ap (λ (s : Pass). length s.receipts) h.1.1 in
    omega (arith, same, length-append old.receipts (one ∷ []))
given_grows (request.Statement asked) (given.Reply (answer.Unserved cause)) old new h =
    let same : length new.receipts ≡ length old.receipts = ap (λ (s : Pass). length s.receipts) h.1 in omega (arith, same)
given_grows (request.Statement asked) (given.Totals totals) old new h = absurd h
given_grows request.Statistics (given.Reply a) old new h = absurd h
given_grows request.Statistics (given.Totals totals) old new h =
    let same : length new.receipts ≡ length old.receipts = ap (λ (s : Pass). length s.receipts) h.1 in omega (arith, same)

serving_grows : (seat : Pass) (rs : List Request) (gs : List Given) (pass : Pass) → Serves seat rs gs pass → length seat.receipts ≤ length pass.receipts
serving_grows seat rs [] pass same = let e : length pass.receipts ≡ length seat.receipts = ap (λ (s : Pass). length s.receipts) same in omega (arith, e)
serving_grows seat [] (g ∷ gs) pass none = absurd none
serving_grows seat (r ∷ rs) (g ∷ gs) pass h =
    let first = given_grows r g seat h.0 h.1.0 in let more = serving_grows h.0 rs gs pass h.1.1 in omega (arith, first, more)

-- ONE TURN

-- what a line does when its statement gets an answer, which gives a new pass and totals that count it
record Turned (place session : ℕ) (taken : List Taken) (asked : Statement) (out : List ℕ) (mid : Pass) (counted totals : Tally) : Type 0 where
  took : List Taken
  does : Does taken place session (request.Statement asked) out took
  here : seat_after place session took ≡ mid
  counts : counted ≡ tally_of (replies_by place session taken) → totals ≡ tally_of (replies_by place session took)
  others : (p s : ℕ) → (p ≡ place → s ≡ session → ⊥) → taken_by p s took ≡ taken_by p s taken

-- the replies taken so far, and one more
replies_more : (place session : ℕ) (taken : List Taken) (r : Receipt) → replies_by place session (taken ++ one_taken place session r ∷ []) ≡ replies_by place session taken ++ r.reply ∷ []
replies_more place session taken r =
    ap (map (λ (x : Receipt). x.reply)) (taken_here place session taken r) ∙ map-append (λ (x : Receipt). x.reply) (taken_by place session taken) (r ∷ [])

given_turns : (place session : ℕ) (taken : List Taken) (asked : Statement) (g : Given) (mid pass : Pass) (counted totals : Tally) → IsGiven (request.Statement asked) g (seat_after place session taken) mid
    → length mid.receipts ≤ length pass.receipts → IsCounted (Some g) pass counted totals
    → Turned place session taken asked (given_text (database_name place) session (Some g)) mid counted totals
given_turns place session taken asked (given.Reply (answer.Served r)) mid pass counted totals h most counts =
    let one : Receipt = record { number = h.1.0; statement = asked; reply = r } in
    let long : length mid.receipts ≡ length (taken_by place session taken ++ one ∷ []) = ap (λ (s : Pass). length s.receipts) h.1.1 in
    let few : length (replies_by place session taken) < length pass.receipts =
    omega (arith, long, most, length-append (taken_by place session taken) (one ∷ []), length-map (taken_by place session taken) (λ (x : Receipt). x.reply)) in
    record {
      took = taken ++ one_taken place session one ∷ [];
      does = inl (h.1.0, r, refl, refl);
      here = ap (λ (rs : List Receipt). record { database = place; session = session; receipts = rs }) (taken_here place session taken one) ∙ sym h.1.1;
      counts = λ so_far. counts (replies_by place session taken) few so_far ∙ ap tally_of (sym (replies_more place session taken one));
      others = λ p s apart. taken_else p s place session taken one apart;
    }
given_turns place session taken asked (given.Reply (answer.Unserved cause)) mid pass counted totals h most counts = record {
  took = taken;
  does = inr (cause, h.0, refl, refl);
  here = sym h.1;
  counts = λ so_far. counts ∙ so_far;
  others = λ p s apart. refl;
}
given_turns place session taken asked (given.Totals shown) mid pass counted totals h most counts = absurd h

-- the next answer of an outbox, in each case
record NextTurned (place session : ℕ) (taken : List Taken) (asked : Statement) (rs : List Request) (out : List ℕ) (news : List Given) (pass : Pass) (counted totals : Tally) : Type 0 where
  mid : Pass
  turned : Turned place session taken asked out mid counted totals
  serves : Serves mid rs news pass

next_turns : (place session : ℕ) (taken : List Taken) (asked : Statement) (rs : List Request) (next : Option Given) (olds news : List Given) (pass : Pass) (counted totals : Tally) → IsNext olds next news
    → IsCounted next pass counted totals → Serves (seat_after place session taken) (request.Statement asked ∷ rs) olds pass
    → NextTurned place session taken asked rs (given_text (database_name place) session next) news pass counted totals
next_turns place session taken asked rs (Some g) olds news pass counted totals is counts serves =
    let given = subst (λ (gs : List Given). Serves (seat_after place session taken) (request.Statement asked ∷ rs) gs pass) is serves in
    record {
      mid = given.0;
      turned = given_turns place session taken asked g given.0 pass counted totals given.1.0 (serving_grows given.0 rs news pass given.1.1) counts;
      serves = given.1.1;
    }
next_turns place session taken asked rs None olds news pass counted totals is counts serves = record {
  mid = seat_after place session taken;
  turned = record {
    took = taken;
    does = inr (refusal.Memory, inr (inl refl), refl, refl);
    here = refl;
    counts = λ so_far. counts ∙ so_far;
    others = λ p s apart. refl;
  };
  serves = subst (λ (gs : List Given). Serves (seat_after place session taken) rs gs pass) (sym is.1)
      (subst (λ (gs : List Given). Serves (seat_after place session taken) (request.Statement asked ∷ rs) gs pass) is.0 serves);
}

-- OUTBOXES

-- sessions with the same outbox are equal
one_outbox : (p s place session : ℕ) → IsShared s → IsShared session → outbox_of p s ≡ outbox_of place session → (p ≡ place) × (s ≡ session)
one_outbox p s place session is also same =
    let a = is.0 in let b = is.1 in let c = also.0 in let d = also.1 in (omega arith, omega arith)

of_first : (k : ℕ) (item : ℕ × Request) (items : List (ℕ × Request)) → item.0 ≡ k → of k (item ∷ items) ≡ item.1 ∷ of k items
of_first k item items e = rw (eq-eqb item.0 k e) refl

of_other : (k : ℕ) (item : ℕ × Request) (items : List (ℕ × Request)) → (item.0 ≡ k → ⊥) → of k (item ∷ items) ≡ of k items
of_other k item items apart = rw (ne_eqb item.0 k apart) refl

-- a line that requests something prints its session's next answer
module _ (place session : ℕ) (outboxes : List Outbox) (totals : List Tally) (old new : Outbox) (counted tally : Tally) (next : Option Given) (plan : List Planned) (is_session : IsShared session)
    (at : slice_get outboxes (outbox_of place session) ≡ Some old) (beside : slice_get totals (outbox_of place session) ≡ Some counted) (pass : new.pass ≡ old.pass)
    (nexts : IsNext (answers_of old) next (answers_of new)) (counts : IsCounted next old.pass counted tally) where
  fits_after : (item : ℕ × Request) (items : List (ℕ × Request)) (taken : List Taken) (asked : Statement) → item.0 ≡ outbox_of place session → Fits (item ∷ items) taken outboxes
      → (turn : NextTurned place session taken asked (of (outbox_of place session) items) (given_text (database_name place) session next) (answers_of new) old.pass counted tally)
      → Fits items turn.turned.took (set outboxes (outbox_of place session) new)
  fits_after item items taken asked named fits turn p s outbox is there = found (set_cases outboxes (outbox_of place session) (outbox_of p s) new outbox there) where
    found : ((outbox_of p s ≡ outbox_of place session) × (new ≡ outbox)) ⊎ ((outbox_of p s ≢ outbox_of place session) × (slice_get outboxes (outbox_of p s) ≡ Some outbox))
        → Serves (seat_after p s turn.turned.took) (of (outbox_of p s) items) (answers_of outbox) outbox.pass
    found (inl same) =
        let one = one_outbox p s place session is is_session same.0 in
        let here : Serves turn.mid (of (outbox_of place session) items) (answers_of new) new.pass =
        subst (λ (seat : Pass). Serves turn.mid (of (outbox_of place session) items) (answers_of new) seat) (sym pass) turn.serves in
        let mine : Serves (seat_after place session turn.turned.took) (of (outbox_of place session) items) (answers_of new) new.pass =
        subst (λ (seat : Pass). Serves seat (of (outbox_of place session) items) (answers_of new) new.pass) (sym turn.turned.here) here in
        let its : Serves (seat_after place session turn.turned.took) (of (outbox_of place session) items) (answers_of outbox) outbox.pass =
        subst (λ (d : Outbox). Serves (seat_after place session turn.turned.took) (of (outbox_of place session) items) (answers_of d) d.pass) same.1 mine in
        subst (λ (q : ℕ). Serves (seat_after q s turn.turned.took) (of (outbox_of q s) items) (answers_of outbox) outbox.pass) (sym one.0)
        (subst (λ (t : ℕ). Serves (seat_after place t turn.turned.took) (of (outbox_of place t) items) (answers_of outbox) outbox.pass) (sym one.1) its)
    found (inr other) =
        let apart = other.0 in
        let stays : taken_by p s turn.turned.took ≡ taken_by p s taken =
        turn.turned.others p s (λ same also. apart (ap (λ (q : ℕ). outbox_of q s) same ∙ ap (λ (t : ℕ). outbox_of place t) also)) in
        let before : Serves (seat_after p s taken) (of (outbox_of p s) items) (answers_of outbox) outbox.pass =
        subst (λ (rs : List Request). Serves (seat_after p s taken) rs (answers_of outbox) outbox.pass)
        (of_other (outbox_of p s) item items (λ e. apart (sym e ∙ named))) (fits p s outbox is other.1) in
        subst (λ (rs : List Receipt). Serves (record { database = p; session = s; receipts = rs }) (of (outbox_of p s) items) (answers_of outbox) outbox.pass) (sym stays) before

  totals_after : (taken : List Taken) (asked : Statement) (rs : List Request) → AreTotals taken totals
      → (turn : NextTurned place session taken asked rs (given_text (database_name place) session next) (answers_of new) old.pass counted tally)
      → AreTotals turn.turned.took (set totals (outbox_of place session) tally)
  totals_after taken asked rs are turn p s shown is there = found (set_cases totals (outbox_of place session) (outbox_of p s) tally shown there) where
    found : ((outbox_of p s ≡ outbox_of place session) × (tally ≡ shown)) ⊎ ((outbox_of p s ≢ outbox_of place session) × (slice_get totals (outbox_of p s) ≡ Some shown))
        → shown ≡ tally_of (replies_by p s turn.turned.took)
    found (inl same) =
        let one = one_outbox p s place session is is_session same.0 in
        let mine : shown ≡ tally_of (replies_by place session turn.turned.took) = sym same.1 ∙ turn.turned.counts (are place session counted is_session beside) in
        subst (λ (q : ℕ). shown ≡ tally_of (replies_by q s turn.turned.took)) (sym one.0)
        (subst (λ (t : ℕ). shown ≡ tally_of (replies_by place t turn.turned.took)) (sym one.1) mine)
    found (inr other) =
        let apart = other.0 in
        let stays : taken_by p s turn.turned.took ≡ taken_by p s taken =
        turn.turned.others p s (λ same also. apart (ap (λ (q : ℕ). outbox_of q s) same ∙ ap (λ (t : ℕ). outbox_of place t) also)) in
        are p s shown is other.1 ∙ ap (λ (rs : List Receipt). tally_of (map (λ (r : Receipt). r.reply) rs)) (sym stays)

  turns : (items : List (ℕ × Request)) (taken : List Taken) → Matches (planned.Asked place session ∷ plan) items → Fits items taken outboxes → AreTotals taken totals
      → GoesOn taken (planned.Asked place session ∷ plan) items (given_text (database_name place) session next) plan (set outboxes (outbox_of place session) new) (set totals (outbox_of place session) tally)
  turns [] taken m fits are = absurd m
  turns (item ∷ items) taken m fits are =
      let asked = m.1.0 in
      let serves : Serves (seat_after place session taken) (item.1 ∷ of (outbox_of place session) items) (answers_of old) old.pass =
      subst (λ (rs : List Request). Serves (seat_after place session taken) rs (answers_of old) old.pass) (of_first (outbox_of place session) item items m.0) (fits place session old is_session at) in
      let its : Serves (seat_after place session taken) (request.Statement asked ∷ of (outbox_of place session) items) (answers_of old) old.pass =
      subst (λ (r : Request). Serves (seat_after place session taken) (r ∷ of (outbox_of place session) items) (answers_of old) old.pass) m.1.1 serves in
      let turn = next_turns place session taken asked (of (outbox_of place session) items) next (answers_of old) (answers_of new) old.pass counted tally nexts counts its in
      let text = given_text (database_name place) session next in
      let does : Does taken place session item.1 text turn.turned.took = subst (λ (r : Request). Does taken place session r text turn.turned.took) (sym m.1.1) turn.turned.does in
      record {
        left = items;
        took = turn.turned.took;
        matches = m.2;
        fits = fits_after item items taken asked m.0 fits turn;
        counts = totals_after taken asked (of (outbox_of place session) items) are turn;
        prints = λ back end p. (text, back, turn.turned.took, does, p, refl);
      }

  pub asked_prints : PrintsTo (planned.Asked place session ∷ plan) outboxes totals (given_text (database_name place) session next) plan
      (set outboxes (outbox_of place session) new) (set totals (outbox_of place session) tally)
  asked_prints = turns
