-- Requests and the answers to them, one after another.
use Rattle.std.proofs.Common.{◌≡◌, ◌+◌, List, [], ◌∷◌, ◌++◌, length, Option, Some, None, refl, sym, ap, ◌∙◌, length-append, arith}
use Rattle.std.specs.Iterator.{Yields, YieldsThen}
use Rattle.escrow_statement.specs.declared.statement.Request.{Request}
use Rattle.escrow_shards.specs.Pass.{Pass}
use Rattle.escrow_sessions.specs.Serving.{IsGiven, Serves}
use Rattle.escrow_sessions.specs.Work.{IsServedSoFar, IsServed}
use Rattle.escrow_sessions.specs.declared.feed.Done.{Done}
use Rattle.escrow_sessions.specs.declared.feed.Ended.TheVariants.{Stopped}
use Rattle.escrow_sessions.specs.declared.feed.Given.{Given}

module _ {Q A : Type 0} (gives : Q → Option A → Q → Type 0) where
  -- requests followed by more
  pub then_more : (xs ys : List A) (s t u : Q) → Yields gives s xs t → Yields gives t ys u → Yields gives s (xs ++ ys) u
  then_more [] ys s t u same more = rw same more
  then_more (x ∷ xs) ys s t u first more = (first.0, first.1, then_more xs ys first.0 t u first.2 more)

  -- requests followed by one more
  pub then_one : (xs : List A) (x : A) (s t u : Q) → Yields gives s xs t → gives t (Some x) u → Yields gives s (xs ++ x ∷ []) u
  then_one xs x s t u first one = then_more xs (x ∷ []) s t u first (u, one, refl)

-- one more answer to one more request
pub serves_one : (old : Pass) (rs : List Request) (gs : List Given) (now new : Pass) (r : Request) (g : Given) → Serves old rs gs now → length gs ≡ length rs → IsGiven r g now new
    → Serves old (rs ++ r ∷ []) (gs ++ g ∷ []) new
serves_one old [] [] now new r g same long given = (new, (rw (← same) given, refl))
serves_one old (q ∷ rs) [] now new r g same long given = absurd (omega (arith, long))
serves_one old [] (h ∷ gs) now new r g none long given = absurd none
serves_one old (q ∷ rs) (h ∷ gs) now new r g first long given =
    (first.0, (first.1.0, serves_one first.0 rs gs now new r g first.1.1 (omega (arith, long)) given))

-- the same answers, with more requests
pub serves_first : (old : Pass) (rs more : List Request) (gs : List Given) (new : Pass) → Serves old rs gs new → Serves old (rs ++ more) gs new
serves_first old rs more [] new same = same
serves_first old [] more (g ∷ gs) new none = absurd none
serves_first old (r ∷ rs) more (g ∷ gs) new first = (first.0, (first.1.0, serves_first first.0 rs more gs new first.1.1))

module _ {Q : Type 0} (gives : Q → Option Request → Q → Type 0) (seat : Pass) (old : Q) where
  -- one more request was given and answered
  pub so_far_one : (gs : List Given) (now new : Pass) (s u : Q) (r : Request) (g : Given) → IsServedSoFar gives seat old gs now s → gives s (Some r) u → IsGiven r g now new
      → IsServedSoFar gives seat old (gs ++ g ∷ []) new u
  so_far_one gs now new s u r g before one given = record {
    requests = before.requests ++ r ∷ [];
    given = then_one gives before.requests r old s u before.given one;
    serves = serves_one seat before.requests gs now new r g before.serves before.each given;
    each = length-append gs (g ∷ []) ∙ ap (λ n. n + 1) before.each ∙ sym (length-append before.requests (r ∷ []));
  }

  -- one more request was given; neither it nor any after it was answered
  pub stopped_at : (d : Done) (s t u : Q) (r : Request) (more : List Request) → IsServedSoFar gives seat old d.answers.items d.pass s → gives s (Some r) t → YieldsThen gives t more None u
      → d.ended ≡ Stopped → IsServed gives seat old d u
  stopped_at d s t u r more before one rest ended =
      let requests = before.requests ++ r ∷ more in record {
        requests = requests;
        drained = (rest.0, then_more gives before.requests (r ∷ more) old s rest.0 before.given (t, one, rest.1), rest.2);
        done = record {
          serves = serves_first seat before.requests (r ∷ more) d.answers.items d.pass before.serves;
          ended =
              rw ended
              (let long = length-append before.requests (r ∷ more) in let each = before.each in omega (arith, long, each));
        };
      }
