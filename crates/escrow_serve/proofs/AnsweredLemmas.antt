-- What a client is owed while its lines are served.
use Rattle.std.proofs.Common.{◌≡◌, ◌==◌, ℕ, ◌+◌, Bool, true, false, List, [], ◌∷◌, ◌++◌, length, Option, Some, None, arith, refl, sym, ap, ap₂, subst, ◌∙◌, append_assoc, length-append, inl, inr}
use Rattle.std.specs.Prelude.{⊤}
use Rattle.std.specs.Io.KnownBytes.{Appends, append_known}
use Rattle.std.specs.List.{AllByRecursion}
use Rattle.std.proofs.lemmas.Bool.{eqb-true, eqb-false, ne_eqb}
use Rattle.std.proofs.lemmas.List.{append-nil, append_cancel_right}
use Rattle.escrow_script.specs.Client.{ReceivesLine, ReceivesPart}
use Rattle.escrow_script.specs.Line.{HasNoFeed, lines_of, onto_first}
use Rattle.escrow_script.specs.Script.{left}
use Rattle.escrow_script.proofs.ClientLemmas.{no_feed_more}
use Rattle.escrow_serve.specs.Answered.{AreComplete, IsAnswered, AllAnswered, IsFresh}
use Rattle.escrow_serve.specs.Asked.{Given, GivesLines}
use Rattle.escrow_serve.specs.Batch.{TakesLines}
use Rattle.escrow_serve.proofs.LineRanLemmas.{gives_then}
use Rattle.escrow_serve.proofs.LinesLemmas.{nexts_of, AreKept}
use Rattle.escrow_serve.proofs.ScriptRanLemmas.{gives_kept}

-- LINES AND THEIR LINE FEEDS

-- lines, each with its line feed
abbrev pub ended : List (List ℕ) → List ℕ
ended [] = []
ended (line ∷ lines) = line ++ 10 ∷ ended lines

ended_more : (lines more : List (List ℕ)) → ended (lines ++ more) ≡ ended lines ++ ended more
ended_more [] more = refl
ended_more (l ∷ lines) more = ap (λ (e : List ℕ). l ++ 10 ∷ e) (ended_more lines more) ∙ sym (append_assoc l (10 ∷ ended lines) (ended more))

-- no line has a line feed
abbrev pub AreLines : List (List ℕ) → Type 0
AreLines lines = AllByRecursion HasNoFeed lines

are_more : (lines more : List (List ℕ)) → AreLines lines → AreLines more → AreLines (lines ++ more)
are_more [] more are others = others
are_more (l ∷ lines) more are others = (are.0, are_more lines more are.1 others)

are_front : (lines more : List (List ℕ)) → AreLines (lines ++ more) → AreLines lines
are_front [] more are = tt
are_front (l ∷ lines) more are = (are.0, are_front lines more are.1)

ended_complete : (lines : List (List ℕ)) → AreComplete (ended lines)
ended_complete [] = inl refl
ended_complete (l ∷ lines) = elim (ended_complete lines) [
  | inl none ↦ inr (l, ap (λ (e : List ℕ). l ++ 10 ∷ e) none)
  | inr some ↦ inr (l ++ 10 ∷ some.0, ap (λ (e : List ℕ). l ++ 10 ∷ e) some.1 ∙ sym (append_assoc l (10 ∷ some.0) (10 ∷ [])))
]

-- the lines of such bytes are they
first_of : (line rest : List ℕ) → HasNoFeed line → lines_of (line ++ 10 ∷ rest) ≡ line ∷ lines_of rest
first_of [] rest none = refl
first_of (b ∷ line) rest none = rw (ne_eqb b 10 none.0) (ap (onto_first b) (first_of line rest none.1))

lines_ended : (lines : List (List ℕ)) → AreLines lines → lines_of (ended lines) ≡ lines
lines_ended [] are = refl
lines_ended (l ∷ lines) are = first_of l (ended lines) are.0 ∙ ap (λ (ls : List (List ℕ)). l ∷ ls) (lines_ended lines are.1)

-- the lines of any bytes have no line feed
onto_are : (b : ℕ) (lines : List (List ℕ)) → (b ≡ 10 → ⊥) → AreLines lines → AreLines (onto_first b lines)
onto_are b [] other are = ((other, tt), tt)
onto_are b (l ∷ lines) other are = ((other, are.0), are.1)

lines_are_step : (b : ℕ) (bytes : List ℕ) (t : Bool) → (b == 10) ≡ t → AreLines (lines_of bytes) → AreLines (lines_of (b ∷ bytes))
lines_are_step b bytes true e are = rw e (tt, are)
lines_are_step b bytes false e are = rw e (onto_are b (lines_of bytes) (eqb-false b 10 e) are)

lines_are : (bytes : List ℕ) → AreLines (lines_of bytes)
lines_are [] = tt
lines_are (b ∷ bytes) = lines_are_step b bytes (b == 10) refl (lines_are bytes)

-- bytes with a mark behind them, which is no line feed, are their lines
onto_marked : (b : ℕ) (bytes : List ℕ) (lines : List (List ℕ)) → ended lines ≡ bytes ++ 0 ∷ 10 ∷ [] → ended (onto_first b lines) ≡ b ∷ (bytes ++ 0 ∷ 10 ∷ [])
onto_marked b bytes [] e = absurd (omega (arith, ap length e, length-append bytes (0 ∷ 10 ∷ [])))
onto_marked b bytes (l ∷ lines) e = ap (λ (bs : List ℕ). b ∷ bs) e

marked_step : (b : ℕ) (bytes : List ℕ) (t : Bool) → (b == 10) ≡ t → ended (lines_of (bytes ++ 0 ∷ [])) ≡ bytes ++ 0 ∷ 10 ∷ []
    → ended (lines_of ((b ∷ bytes) ++ 0 ∷ [])) ≡ (b ∷ bytes) ++ 0 ∷ 10 ∷ []
marked_step b bytes true e more = rw e (ap (λ (bs : List ℕ). 10 ∷ bs) more ∙ ap (λ (c : ℕ). c ∷ (bytes ++ 0 ∷ 10 ∷ [])) (sym (eqb-true b 10 e)))
marked_step b bytes false e more = rw e (onto_marked b bytes (lines_of (bytes ++ 0 ∷ [])) more)

marked : (bytes : List ℕ) → ended (lines_of (bytes ++ 0 ∷ [])) ≡ bytes ++ 0 ∷ 10 ∷ []
marked [] = refl
marked (b ∷ bytes) = marked_step b bytes (b == 10) refl (marked bytes)

-- Lines in hand that were taken, of which at most a first part is kept: the bytes that were unread are they, each with
-- its line feed, and the rest.
record Taken (kept : List (List ℕ)) (unread rest : List ℕ) : Type 0 where
  lines : List (List ℕ)
  are_kept : AreKept lines kept
  are : AreLines lines
  whole : unread ≡ ended lines ++ rest

taken_of : (kept : List (List ℕ)) (unread rest : List ℕ) → ((rem : Option (List ℕ)) → TakesLines kept (left unread rem) (left rest rem)) → Taken kept unread rest
taken_of kept unread rest takes =
    let next = nexts_of (Some (unread ++ 0 ∷ [])) (Some (unread ++ 0 ∷ [])) (Some (rest ++ 0 ∷ [])) kept [] (takes (Some (0 ∷ []))) refl in
    let lines : lines_of (unread ++ 0 ∷ []) ≡ next.lines ++ lines_of (rest ++ 0 ∷ []) = next.rests in
    let bytes : unread ++ 0 ∷ 10 ∷ [] ≡ (ended next.lines ++ rest) ++ 0 ∷ 10 ∷ [] =
    sym (marked unread) ∙ ap ended lines ∙ ended_more next.lines (lines_of (rest ++ 0 ∷ [])) ∙ ap (λ (l : List ℕ). ended next.lines ++ l) (marked rest)
    ∙ sym (append_assoc (ended next.lines) rest (0 ∷ 10 ∷ [])) in
    record {
      lines = next.lines;
      are_kept = next.are_kept;
      are = are_front next.lines (lines_of (rest ++ 0 ∷ [])) (subst AreLines lines (lines_are (unread ++ 0 ∷ [])));
      whole = append_cancel_right unread (ended next.lines ++ rest) (0 ∷ 10 ∷ []) bytes;
    }

-- WHAT A CLIENT IS OWED

-- The bytes that came are lines that were served, and behind them what is unread. What was sent, and behind it what is
-- gathered, is what these lines write.
pub record Owes (databases sessions : ℕ) (received sent unread gathered : List ℕ) : Type 0 where
  pub served : List (List ℕ)
  pub are : AreLines served
  pub parts : received ≡ ended served ++ unread
  pub given : List Given
  pub replies : GivesLines databases sessions served given (sent ++ gathered)

-- that, of a client of which it is known what comes
abbrev pub IsOwed : ℕ → ℕ → Option (List ℕ) → Option (List ℕ) → List ℕ → List ℕ → Type 0
IsOwed databases sessions None sent unread gathered = ⊤
IsOwed databases sessions (Some received) None unread gathered = ⊥
IsOwed databases sessions (Some received) (Some sent) unread gathered = Owes databases sessions received sent unread gathered

no_value : (bytes : List ℕ) → None ≡ Some bytes → ⊥
no_value bytes e = cc

same_value : (xs ys : List ℕ) → Some xs ≡ Some ys → xs ≡ ys
same_value xs ys e = cc

-- nothing came yet
pub owed_begun : (databases sessions : ℕ) (received sent : Option (List ℕ)) (unread gathered : List ℕ) → IsFresh received sent → unread ≡ [] → gathered ≡ []
    → IsOwed databases sessions received sent unread gathered
owed_begun databases sessions None sent unread gathered fresh none_unread none_gathered = tt
owed_begun databases sessions (Some received) None unread gathered fresh none_unread none_gathered = no_value [] fresh.1
owed_begun databases sessions (Some received) (Some sent) unread gathered fresh none_unread none_gathered = record {
  served = [];
  are = tt;
  parts = fresh.0 ∙ sym none_unread;
  given = [];
  replies = (refl, ap₂ (λ (a b : List ℕ). a ++ b) (same_value sent [] fresh.1) none_gathered);
}

-- a line was taken, and those in hand behind it, and their replies were gathered
owes_more : (databases sessions : ℕ) (received bytes sent unread mid rest line kept : List ℕ) (more : List (List ℕ)) (given : List Given) (gathered first all : List ℕ)
    → HasNoFeed line → unread ++ bytes ≡ line ++ 10 ∷ mid → (lines : List (List ℕ)) → AreLines lines → mid ≡ ended lines ++ rest → AreKept (line ∷ lines) (kept ∷ more)
    → GivesLines databases sessions (kept ∷ more) given first → all ≡ gathered ++ first
    → Owes databases sessions received sent unread gathered → Owes databases sessions (received ++ bytes) sent rest all
owes_more databases sessions received bytes sent unread mid rest line kept more given gathered first all no_feed whole lines are in_hand are_kept gives is_all owes =
    let lines_now = owes.served ++ line ∷ lines in
    let behind : unread ++ bytes ≡ ended (line ∷ lines) ++ rest =
    whole ∙ ap (λ (l : List ℕ). line ++ 10 ∷ l) in_hand ∙ sym (append_assoc line (10 ∷ ended lines) rest) in
    record {
      served = lines_now;
      are = are_more owes.served (line ∷ lines) owes.are (no_feed, are);
      parts = ap (λ (l : List ℕ). l ++ bytes) owes.parts ∙ append_assoc (ended owes.served) unread bytes ∙ ap (λ (l : List ℕ). ended owes.served ++ l) behind
          ∙ sym (append_assoc (ended owes.served) (ended (line ∷ lines)) rest) ∙ ap (λ (l : List ℕ). l ++ rest) (sym (ended_more owes.served (line ∷ lines)));
      given = owes.given ++ given;
      replies = subst (λ (o : List ℕ). GivesLines databases sessions lines_now (owes.given ++ given) o) (append_assoc sent gathered first ∙ ap (λ (l : List ℕ). sent ++ l) (sym is_all))
          (gives_then databases sessions owes.served (line ∷ lines) owes.given given (sent ++ gathered) first owes.replies
          (gives_kept databases sessions (line ∷ lines) (kept ∷ more) given first are_kept gives));
    }

owed_more : (databases sessions : ℕ) (received sent : Option (List ℕ)) (bytes unread mid rest line kept : List ℕ) (more : List (List ℕ)) (given : List Given) (gathered first all : List ℕ)
    → HasNoFeed line → unread ++ bytes ≡ line ++ 10 ∷ mid → (lines : List (List ℕ)) → AreLines lines → mid ≡ ended lines ++ rest → AreKept (line ∷ lines) (kept ∷ more)
    → GivesLines databases sessions (kept ∷ more) given first → all ≡ gathered ++ first
    → IsOwed databases sessions received sent unread gathered → IsOwed databases sessions (append_known received bytes) sent rest all
owed_more databases sessions None sent bytes unread mid rest line kept more given gathered first all no_feed whole lines are in_hand are_kept gives is_all owed = tt
owed_more databases sessions (Some received) None bytes unread mid rest line kept more given gathered first all no_feed whole lines are in_hand are_kept gives is_all owed = owed
owed_more databases sessions (Some received) (Some sent) bytes unread mid rest line kept more given gathered first all no_feed whole lines are in_hand are_kept gives is_all owed =
    owes_more databases sessions received bytes sent unread mid rest line kept more given gathered first all no_feed whole lines are in_hand are_kept gives is_all owed

pub owed_turn : (databases sessions : ℕ) (old_received received old_sent sent : Option (List ℕ)) (unread mid rest kept : List ℕ) (more : List (List ℕ)) (given : List Given) (gathered held first all : List ℕ)
    → ReceivesLine old_received received unread mid kept → ((rem : Option (List ℕ)) → TakesLines more (left mid rem) (left rest rem))
    → GivesLines databases sessions (kept ∷ more) given first → sent ≡ old_sent → held ≡ gathered → all ≡ held ++ first
    → IsOwed databases sessions old_received old_sent unread gathered → IsOwed databases sessions received sent rest all
owed_turn databases sessions old_received received old_sent sent unread mid rest kept more given gathered held first all next takes gives is_sent is_held is_all owed =
    let taken = taken_of more mid rest takes in
    subst (λ (r : Option (List ℕ)). IsOwed databases sessions r sent rest all) (sym next.came)
    (subst (λ (s : Option (List ℕ)). IsOwed databases sessions (append_known old_received next.bytes) s rest all) (sym is_sent)
    (owed_more databases sessions old_received old_sent next.bytes unread mid rest next.line kept more given gathered first all next.no_feed next.whole taken.lines taken.are taken.whole
    (next.is_kept, taken.are_kept) gives (is_all ∙ ap (λ (l : List ℕ). l ++ first) is_held) owed))

-- what was gathered was sent
owed_then_sent : (databases sessions : ℕ) (received old_sent sent : Option (List ℕ)) (unread gathered left_over : List ℕ) → Appends old_sent sent gathered → left_over ≡ []
    → IsOwed databases sessions received old_sent unread gathered → IsOwed databases sessions received sent unread left_over
owed_then_sent databases sessions None old_sent sent unread gathered left_over wrote none owed = tt
owed_then_sent databases sessions (Some received) None sent unread gathered left_over wrote none owed = absurd owed
owed_then_sent databases sessions (Some received) (Some old_sent) None unread gathered left_over wrote none owed = wrote
owed_then_sent databases sessions (Some received) (Some old_sent) (Some sent) unread gathered left_over wrote none owed =
    let all : old_sent ++ gathered ≡ sent ++ left_over = sym wrote ∙ sym (append-nil sent) ∙ ap (λ (l : List ℕ). sent ++ l) (sym none) in
    record {
      served = owed.served;
      are = owed.are;
      parts = owed.parts;
      given = owed.given;
      replies = subst (λ (o : List ℕ). GivesLines databases sessions owed.served owed.given o) all owed.replies;
    }

pub owed_sent : (databases sessions : ℕ) (old_received received old_sent sent : Option (List ℕ)) (unread gathered left_over : List ℕ) → received ≡ old_received
    → Appends old_sent sent gathered → left_over ≡ [] → IsOwed databases sessions old_received old_sent unread gathered → IsOwed databases sessions received sent unread left_over
owed_sent databases sessions old_received received old_sent sent unread gathered left_over same wrote none owed =
    subst (λ (r : Option (List ℕ)). IsOwed databases sessions r sent unread left_over) (sym same)
    (owed_then_sent databases sessions old_received old_sent sent unread gathered left_over wrote none owed)

-- ALL IS ANSWERED

-- nothing is gathered, and of the next line no more than a part has come
answered : (databases sessions : ℕ) (received sent : Option (List ℕ)) (unread gathered part : List ℕ) → gathered ≡ [] → HasNoFeed unread → HasNoFeed part
    → IsOwed databases sessions received sent unread gathered → AllAnswered databases sessions (append_known received part) sent
answered databases sessions None sent unread gathered part none no_feed no_more owed = tt
answered databases sessions (Some received) None unread gathered part none no_feed no_more owed = tt
answered databases sessions (Some received) (Some sent) unread gathered part none no_feed no_more owed =
    let all : sent ++ gathered ≡ sent = ap (λ (l : List ℕ). sent ++ l) none ∙ append-nil sent in
    record {
      complete = ended owed.served;
      part = unread ++ part;
      parts = ap (λ (l : List ℕ). l ++ part) owed.parts ∙ append_assoc (ended owed.served) unread part;
      are_complete = ended_complete owed.served;
      no_feed = no_feed_more unread part no_feed no_more;
      given = owed.given;
      replies = subst (λ (ls : List (List ℕ)). GivesLines databases sessions ls owed.given sent) (sym (lines_ended owed.served owed.are))
          (subst (λ (o : List ℕ). GivesLines databases sessions owed.served owed.given o) all owed.replies);
    }

pub all_answered : (databases sessions : ℕ) (old_received received old_sent sent : Option (List ℕ)) (unread gathered : List ℕ) → gathered ≡ [] → HasNoFeed unread
    → ReceivesPart old_received received → sent ≡ old_sent → IsOwed databases sessions old_received old_sent unread gathered → AllAnswered databases sessions received sent
all_answered databases sessions old_received received old_sent sent unread gathered none no_feed part same owed =
    subst (λ (s : Option (List ℕ)). AllAnswered databases sessions received s) (sym same)
    (subst (λ (r : Option (List ℕ)). AllAnswered databases sessions r old_sent) (sym part.2)
    (answered databases sessions old_received old_sent unread gathered part.0 none no_feed part.1 owed))
