-- The totals of a history, session by session.
use Rattle.std.proofs.Common.{◌≡◌, ℕ, zero, suc, ◌+◌, ◌<◌, ◌≤◌, ◌==◌, ◌∙◌, Bool, true, false, cond, List, [], ◌∷◌, arith, inl, inr, refl, sym, ap, ap₂}
use Rattle.std.proofs.lemmas.Bool.{cases_eq, eq-eqb, ne_eqb}
use Rattle.escrow_transcript.specs.declared.entry.Entry.{Entry}
use Rattle.escrow_stats.specs.declared.tally.Tally.{Tally}
use Rattle.escrow_stats.specs.Laws.{SessionsAdd, of_session, totals_by}
use Rattle.escrow_stats.specs.Tally.{tally_of, sum_of}
use Rattle.escrow_stats.specs.Watching.{replies_of}
use Rattle.escrow_stats.proofs.TallyLemmas.{lists_add}

-- SUMS OF TALLIES

add_first : (x y z : ℕ) → (x + y) + z ≡ x + (y + z)
add_first x y z = omega arith

add_between : (x y z : ℕ) → y + (x + z) ≡ x + (y + z)
add_between x y z = omega arith

-- the order of three tallies doesn't matter
sum_first : (a b c : Tally) → sum_of (sum_of a b) c ≡ sum_of a (sum_of b c)
sum_first a b c = rw (
  add_first a.served b.served c.served,
  add_first a.granted b.granted c.granted,
  add_first a.broken b.broken c.broken,
  add_first a.refused b.refused c.refused,
  add_first a.commits b.commits c.commits,
  add_first a.rollbacks b.rollbacks c.rollbacks,
  add_first a.writes b.writes c.writes,
  add_first a.queries b.queries c.queries,
)

sum_between : (a b c : Tally) → sum_of b (sum_of a c) ≡ sum_of a (sum_of b c)
sum_between a b c = rw (
  add_between a.served b.served c.served,
  add_between a.granted b.granted c.granted,
  add_between a.broken b.broken c.broken,
  add_between a.refused b.refused c.refused,
  add_between a.commits b.commits c.commits,
  add_between a.rollbacks b.rollbacks c.rollbacks,
  add_between a.writes b.writes c.writes,
  add_between a.queries b.queries c.queries,
)

sum_zero : (n : ℕ) → tally_of [] ≡ totals_by n []
sum_zero zero = refl
sum_zero (suc n) = lists_add [] [] ∙ ap (λ (t : Tally). sum_of t (tally_of [])) (sum_zero n)

-- ONE MORE ENTRY

-- the totals of one reply
abbrev one : Entry → Tally
one e = tally_of (e.reply ∷ [])

kept_by : (session : ℕ) (e : Entry) (es : List Entry) (b : Bool) → (e.session == session) ≡ b → of_session session (e ∷ es) ≡ cond b (e ∷ of_session session es) (of_session session es)
kept_by session e es b is = ap (λ (test : Bool). cond test (e ∷ of_session session es) (of_session session es)) is

-- a session's own entry adds its reply
own_adds : (session : ℕ) (e : Entry) (es : List Entry) → e.session ≡ session
    → tally_of (replies_of (of_session session (e ∷ es))) ≡ sum_of (one e) (tally_of (replies_of (of_session session es)))
own_adds session e es is =
    ap (λ (kept : List Entry). tally_of (replies_of kept)) (kept_by session e es true (eq-eqb e.session session is))
    ∙ lists_add (e.reply ∷ []) (replies_of (of_session session es))

-- another's adds nothing
other_adds : (session : ℕ) (e : Entry) (es : List Entry) → ¬ (e.session ≡ session) → tally_of (replies_of (of_session session (e ∷ es))) ≡ tally_of (replies_of (of_session session es))
other_adds session e es differs = ap (λ (kept : List Entry). tally_of (replies_of kept)) (kept_by session e es false (ne_eqb e.session session differs))

-- an entry of a later session adds nothing to the first sessions
later_adds : (n : ℕ) (e : Entry) (es : List Entry) → n < e.session → totals_by n (e ∷ es) ≡ totals_by n es
later_adds zero e es later = refl
later_adds (suc n) e es later = ap₂ sum_of (later_adds n e es (omega (arith, later))) (other_adds (n + 1) e es (λ is. omega (arith, later, is)))

-- an entry of one of them adds its reply
more_adds : (n : ℕ) (e : Entry) (es : List Entry) → 1 ≤ e.session → e.session ≤ n → totals_by n (e ∷ es) ≡ sum_of (one e) (totals_by n es)
more_adds zero e es first last = absurd (omega (arith, first, last))
more_adds (suc n) e es first last = elim (cases_eq e.session (n + 1)) [
  | inl is ↦ (
      ap₂ sum_of (later_adds n e es (omega (arith, is))) (own_adds (n + 1) e es is)
      ∙ sum_between (one e) (totals_by n es) (tally_of (replies_of (of_session (n + 1) es)))
      )
  | inr differs ↦ (
      ap₂ sum_of (more_adds n e es first (let below : e.session ≤ n = omega (arith, last, differs) in below)) (other_adds (n + 1) e es differs)
      ∙ sum_first (one e) (totals_by n es) (tally_of (replies_of (of_session (n + 1) es)))
      )
]

pub sessions_add : SessionsAdd
sessions_add sessions [] each = sum_zero sessions
sessions_add sessions (e ∷ es) each =
    lists_add (e.reply ∷ []) (replies_of es)
    ∙ ap (sum_of (one e)) (sessions_add sessions es each.1)
    ∙ sym (more_adds sessions e es each.0.0 each.0.1)
