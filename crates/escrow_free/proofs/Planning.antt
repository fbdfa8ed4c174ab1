-- What is planned for lines, and what the lines then do.
use Rattle.std.proofs.Common.{◌≡◌, ℕ, ◌*◌, ◌<◌, ◌≤◌, List, [], ◌∷◌, ◌++◌, refl, sym, ap, subst, ◌∙◌, append_assoc, inl, inr, arith}
use Rattle.std.specs.List.{AllByRecursion}
use Rattle.std.proofs.lemmas.List.{append-nil}
use Rattle.escrow_num.specs.Session.{IsShared}
use Rattle.escrow_num.specs.declared.session.TheConstants.Session.{MAX_SHARED}
use Rattle.escrow_statement.specs.declared.statement.Request.{Request}
use Rattle.escrow_statement.specs.declared.statement.Request.TheVariants as request
use Rattle.escrow_stats.specs.Tally.{tally_of}
use Rattle.escrow_stats.specs.Text.{rendered_totals}
use Rattle.escrow_script.specs.declared.limits.TheConstants.{MAX_DATABASES}
use Rattle.escrow_script.specs.Line.{Reading, nothing, join, restart, statement, no_line, database_name, Reads}
use Rattle.escrow_script.specs.Written.{no_line_text, fault_refusal}
use Rattle.escrow_free.specs.Outboxes.{outbox_of}
use Rattle.escrow_free.specs.FreeOutput.{Taken, refused, replies_by, DoesLine, DoLines}
use Rattle.escrow_free.specs.Planning.{PlansText, PlansReading, PlansBytes, Plans}
use Rattle.escrow_free.specs.Printing.{HasItsOutbox, Matches, Prints}
use Rattle.escrow_free.specs.declared.plan.Planned.{Planned}
use Rattle.escrow_free.specs.declared.plan.Planned.TheVariants as planned

-- what holds of two values holds of values equal to them
forward : {A B : Type 0} (P : A → B → Type 0) (a c : A) (b d : B) → a ≡ c → b ≡ d → P a b → P c d
forward P a c b d e f h = subst (λ x. P x d) e (subst (P a) f h)

backward : {A B : Type 0} (P : A → B → Type 0) (a c : A) (b d : B) → a ≡ c → b ≡ d → P c d → P a b
backward P a c b d e f h = forward P c a d b (sym e) (sym f) h

all_append : {A : Type 0} (P : A → Type 0) (xs ys : List A) → AllByRecursion P xs → AllByRecursion P ys → AllByRecursion P (xs ++ ys)
all_append P [] ys none more = more
all_append P (x ∷ xs) ys all more = (all.0, all_append P xs ys all.1 more)

-- one more line is planned
pub plans_one : (n : ℕ) (lines : List (List ℕ)) (plan p : List Planned) (items i : List (ℕ × Request)) (line : List ℕ) → Plans n lines plan items → PlansBytes n line p i
    → Plans n (lines ++ line ∷ []) (plan ++ p) (items ++ i)
plans_one n [] plan p items i line h step =
    (p, [], i, [], step, (refl, refl), ap (λ (x : List Planned). x ++ p) h.0 ∙ sym (append-nil p), ap (λ (x : List (ℕ × Request)). x ++ i) h.1 ∙ sym (append-nil i))
plans_one n (l ∷ lines) plan p items i line h step = (
  h.0,
  h.1 ++ p,
  h.2,
  h.3 ++ i,
  h.4,
  plans_one n lines h.1 p h.3 i line h.5 step,
  ap (λ (x : List Planned). x ++ p) h.6 ∙ append_assoc h.0 h.1 p,
  ap (λ (x : List (ℕ × Request)). x ++ i) h.7 ∙ append_assoc h.2 h.3 i,
)

-- EACH LINE THAT REQUESTS SOMETHING HAS ITS REQUEST

module _ (ps : List Planned) (is : List (ℕ × Request)) (m : Matches ps is) where
  abbrev Matched : List Planned → List (ℕ × Request) → Type 0
  Matched p i = Matches (p ++ ps) (i ++ is)

  text_matches : (place session : ℕ) (text : List ℕ) (p : List Planned) (i : List (ℕ × Request)) → PlansText place session text p i → Matches (p ++ ps) (i ++ is)
  text_matches place session text p i (inl asked) =
      backward (λ (x : List Planned) (y : List (ℕ × Request)). Matches (x ++ ps) (y ++ is)) p (planned.Asked place session ∷ []) i ((outbox_of place session, request.Statement asked.0) ∷ [])
      asked.2 asked.3 (refl, (asked.0, refl), m)
  text_matches place session text p i (inr (inl shown)) =
      backward (λ (x : List Planned) (y : List (ℕ × Request)). Matches (x ++ ps) (y ++ is)) p (planned.Totals place session ∷ []) i [] shown.1 shown.2 m
  text_matches place session text p i (inr (inr bad)) =
      backward (λ (x : List Planned) (y : List (ℕ × Request)). Matches (x ++ ps) (y ++ is)) p (planned.Refused place session bad.0 ∷ []) i [] bad.2 bad.3 m

  reading_matches : (reading : Reading) (p : List Planned) (i : List (ℕ × Request)) → PlansReading reading p i → Matches (p ++ ps) (i ++ is)
  reading_matches nothing p i h = backward (λ (x : List Planned) (y : List (ℕ × Request)). Matches (x ++ ps) (y ++ is)) p [] i [] h.0 h.1 m
  reading_matches join p i h = backward (λ (x : List Planned) (y : List (ℕ × Request)). Matches (x ++ ps) (y ++ is)) p [] i [] h.0 h.1 m
  reading_matches (restart place) p i h = backward (λ (x : List Planned) (y : List (ℕ × Request)). Matches (x ++ ps) (y ++ is)) p (planned.NoLine ∷ []) i [] h.0 h.1 m
  reading_matches (statement place session text) p i h = text_matches place session text p i h
  reading_matches no_line p i h = backward (λ (x : List Planned) (y : List (ℕ × Request)). Matches (x ++ ps) (y ++ is)) p (planned.NoLine ∷ []) i [] h.0 h.1 m

pub plans_match : (n : ℕ) (lines : List (List ℕ)) (plan : List Planned) (items : List (ℕ × Request)) → Plans n lines plan items → Matches plan items
plans_match n [] plan items h = backward Matches plan [] items [] h.0 h.1 refl
plans_match n (line ∷ lines) plan items h =
    backward Matches plan (h.0 ++ h.1) items (h.2 ++ h.3) h.6 h.7 (reading_matches h.1 h.3 (plans_match n lines h.1 h.3 h.5) h.4.0 h.0 h.2 h.4.2)

-- EACH REQUEST NAMES A OUTBOX

is_line : (place session : ℕ) (text : List ℕ) → statement place session text ≡ no_line → ⊥
is_line place session text e = cc

-- a statement names one of the databases and a session
pub named : (n : ℕ) (bytes : List ℕ) (place session : ℕ) (text : List ℕ) → Reads n MAX_SHARED bytes (statement place session text) → (place < n) × IsShared session
named n bytes place session text (inl good) = (good.1.within, (good.1.is_session.0, good.1.among))
named n bytes place session text (inr bad) = absurd (is_line place session text bad.1)

pub within_outboxes : (n place session : ℕ) → place < n → IsShared session → outbox_of place session < n * MAX_SHARED
within_outboxes n place session below is = let most = is.1 in let least = is.0 in omega arith

-- the requests of a line name existing outboxes
record NamesOutboxes (n : ℕ) (p : List Planned) (i : List (ℕ × Request)) : Type 0 where
  lines : AllByRecursion (HasItsOutbox (n * MAX_SHARED)) p
  items : AllByRecursion (λ x. x.0 < n * MAX_SHARED) i

no_outboxes : (n : ℕ) → NamesOutboxes n [] []
no_outboxes n = record { lines = tt; items = tt }

names_none : (n : ℕ) → NamesOutboxes n (planned.NoLine ∷ []) []
names_none n = record { lines = (tt, tt); items = tt }

text_outboxes : (n place session : ℕ) (text : List ℕ) (p : List Planned) (i : List (ℕ × Request)) → n ≤ MAX_DATABASES → place < n → IsShared session → PlansText place session text p i → NamesOutboxes n p i
text_outboxes n place session text p i few below is (inl asked) =
    let within = within_outboxes n place session below is in
    backward (NamesOutboxes n) p (planned.Asked place session ∷ []) i ((outbox_of place session, request.Statement asked.0) ∷ []) asked.2 asked.3
    (record { lines = ((omega (arith, few, below), is.1, within), tt); items = (within, tt) })
text_outboxes n place session text p i few below is (inr (inl shown)) =
    backward (NamesOutboxes n) p (planned.Totals place session ∷ []) i [] shown.1 shown.2 (record { lines = ((omega (arith, few, below), is.1, within_outboxes n place session below is), tt); items = tt })
text_outboxes n place session text p i few below is (inr (inr bad)) =
    backward (NamesOutboxes n) p (planned.Refused place session bad.0 ∷ []) i [] bad.2 bad.3 (record { lines = (omega (arith, few, below), tt); items = tt })

reading_outboxes : (n : ℕ) (bytes : List ℕ) (reading : Reading) (p : List Planned) (i : List (ℕ × Request)) → n ≤ MAX_DATABASES → Reads n MAX_SHARED bytes reading → PlansReading reading p i → NamesOutboxes n p i
reading_outboxes n bytes nothing p i few reads h = backward (NamesOutboxes n) p [] i [] h.0 h.1 (no_outboxes n)
reading_outboxes n bytes join p i few reads h = backward (NamesOutboxes n) p [] i [] h.0 h.1 (no_outboxes n)
reading_outboxes n bytes (restart place) p i few reads h = backward (NamesOutboxes n) p (planned.NoLine ∷ []) i [] h.0 h.1 (names_none n)
reading_outboxes n bytes (statement place session text) p i few reads h =
    let is = named n bytes place session text reads in
    text_outboxes n place session text p i few is.0 is.1 h
reading_outboxes n bytes no_line p i few reads h = backward (NamesOutboxes n) p (planned.NoLine ∷ []) i [] h.0 h.1 (names_none n)

plans_name : (n : ℕ) (lines : List (List ℕ)) (plan : List Planned) (items : List (ℕ × Request)) → n ≤ MAX_DATABASES → Plans n lines plan items → NamesOutboxes n plan items
plans_name n [] plan items few h = backward (NamesOutboxes n) plan [] items [] h.0 h.1 (no_outboxes n)
plans_name n (line ∷ lines) plan items few h =
    let first = reading_outboxes n line h.4.0 h.0 h.2 few h.4.1 h.4.2 in
    let rest = plans_name n lines h.1 h.3 few h.5 in
    backward (NamesOutboxes n) plan (h.0 ++ h.1) items (h.2 ++ h.3) h.6 h.7
    (record {
      lines = all_append (HasItsOutbox (n * MAX_SHARED)) h.0 h.1 first.lines rest.lines;
      items = all_append (λ (x : ℕ × Request). x.0 < n * MAX_SHARED) h.2 h.3 first.items rest.items;
    })

pub plan_outboxes : (n : ℕ) (lines : List (List ℕ)) (plan : List Planned) (items : List (ℕ × Request)) → n ≤ MAX_DATABASES → Plans n lines plan items → AllByRecursion (HasItsOutbox (n * MAX_SHARED)) plan
plan_outboxes n lines plan items few h = (plans_name n lines plan items few h).lines

pub item_outboxes : (n : ℕ) (lines : List (List ℕ)) (plan : List Planned) (items : List (ℕ × Request)) → n ≤ MAX_DATABASES → Plans n lines plan items → AllByRecursion (λ x. x.0 < n * MAX_SHARED) items
item_outboxes n lines plan items few h = (plans_name n lines plan items few h).items

-- WHAT LINES DO, given what is printed

-- the first line and the others
record Heads (taken end : List Taken) (out : List ℕ) (reading : Reading) (ps : List Planned) (is : List (ℕ × Request)) : Type 0 where
  first : List ℕ
  rest : List ℕ
  mid : List Taken
  does : DoesLine taken reading first mid
  prints : Prints mid ps is rest end
  parts : out ≡ first ++ rest

module _ (ps : List Planned) (is : List (ℕ × Request)) (taken end : List Taken) (out : List ℕ) where
  text_does : (place session : ℕ) (text : List ℕ) (p : List Planned) (i : List (ℕ × Request)) → PlansText place session text p i → Prints taken (p ++ ps) (i ++ is) out end
      → Heads taken end out (statement place session text) ps is
  text_does place session text p i (inl asked) h =
      let q = forward (λ (x : List Planned) (y : List (ℕ × Request)). Prints taken (x ++ ps) (y ++ is) out end) p (planned.Asked place session ∷ []) i ((outbox_of place session, request.Statement asked.0) ∷ [])
      asked.2 asked.3 h in
      record { first = q.0; rest = q.1; mid = q.2; does = inl (request.Statement asked.0, asked.1, q.3); prints = q.4; parts = q.5 }
  text_does place session text p i (inr (inl shown)) h =
      let q = forward (λ (x : List Planned) (y : List (ℕ × Request)). Prints taken (x ++ ps) (y ++ is) out end) p (planned.Totals place session ∷ []) i [] shown.1 shown.2 h in
      record {
        first = rendered_totals (database_name place) session (tally_of (replies_by place session taken));
        rest = q.0;
        mid = taken;
        does = inl (request.Statistics, shown.0, (refl, refl));
        prints = q.1;
        parts = q.2;
      }
  text_does place session text p i (inr (inr bad)) h =
      let q = forward (λ (x : List Planned) (y : List (ℕ × Request)). Prints taken (x ++ ps) (y ++ is) out end) p (planned.Refused place session bad.0 ∷ []) i [] bad.2 bad.3 h in
      record { first = refused place session (fault_refusal bad.0); rest = q.0; mid = taken; does = inr (bad.0, bad.1, refl, refl); prints = q.1; parts = q.2 }

  none_does : (p : List Planned) (i : List (ℕ × Request)) → (p ≡ []) → (i ≡ []) → Prints taken (p ++ ps) (i ++ is) out end → Prints taken ps is out end
  none_does p i e f h = forward (λ (x : List Planned) (y : List (ℕ × Request)). Prints taken (x ++ ps) (y ++ is) out end) p [] i [] e f h

  no_line_does : (p : List Planned) (i : List (ℕ × Request)) → (p ≡ planned.NoLine ∷ []) → (i ≡ []) → Prints taken (p ++ ps) (i ++ is) out end
      → (rest : List ℕ) × Prints taken ps is rest end × (out ≡ no_line_text ++ rest)
  no_line_does p i e f h = forward (λ (x : List Planned) (y : List (ℕ × Request)). Prints taken (x ++ ps) (y ++ is) out end) p (planned.NoLine ∷ []) i [] e f h

  reading_does : (reading : Reading) (p : List Planned) (i : List (ℕ × Request)) → PlansReading reading p i → Prints taken (p ++ ps) (i ++ is) out end → Heads taken end out reading ps is
  reading_does nothing p i h q = record { first = []; rest = out; mid = taken; does = (refl, refl); prints = none_does p i h.0 h.1 q; parts = refl }
  reading_does join p i h q = record { first = []; rest = out; mid = taken; does = (refl, refl); prints = none_does p i h.0 h.1 q; parts = refl }
  reading_does (restart place) p i h q =
      let r = no_line_does p i h.0 h.1 q in record { first = no_line_text; rest = r.0; mid = taken; does = (refl, refl); prints = r.1; parts = r.2 }
  reading_does (statement place session text) p i h q = text_does place session text p i h q
  reading_does no_line p i h q =
      let r = no_line_does p i h.0 h.1 q in record { first = no_line_text; rest = r.0; mid = taken; does = (refl, refl); prints = r.1; parts = r.2 }

pub lines_do : (n : ℕ) (lines : List (List ℕ)) (plan : List Planned) (items : List (ℕ × Request)) (taken end : List Taken) (out : List ℕ) → Plans n lines plan items
    → Prints taken plan items out end → DoLines n taken lines out end
lines_do n [] plan items taken end out h p = forward (λ (x : List Planned) (y : List (ℕ × Request)). Prints taken x y out end) plan [] items [] h.0 h.1 p
lines_do n (line ∷ lines) plan items taken end out h p =
    let q = forward (λ (x : List Planned) (y : List (ℕ × Request)). Prints taken x y out end) plan (h.0 ++ h.1) items (h.2 ++ h.3) h.6 h.7 p in
    let head = reading_does h.1 h.3 taken end out h.4.0 h.0 h.2 h.4.2 q in
    (head.first, head.rest, head.mid, (h.4.0, h.4.1, head.does), lines_do n lines h.1 h.3 head.mid end head.rest h.5 head.prints, head.parts)

-- some lines, followed by more
pub do_more : (n : ℕ) (lines more : List (List ℕ)) (taken mid end : List Taken) (out back : List ℕ) → DoLines n taken lines out mid → DoLines n mid more back end
    → DoLines n taken (lines ++ more) (out ++ back) end
do_more n [] more taken mid end out back h then =
    forward (λ (t : List Taken) (o : List ℕ). DoLines n t more o end) mid taken back (out ++ back) h.1 (sym (ap (λ (o : List ℕ). o ++ back) h.0)) then
do_more n (line ∷ lines) more taken mid end out back h then =
    (h.0, h.1 ++ back, h.2, h.3, do_more n lines more h.2 mid end h.1 back h.4 then, ap (λ (o : List ℕ). o ++ back) h.5 ∙ append_assoc h.0 h.1 back)
