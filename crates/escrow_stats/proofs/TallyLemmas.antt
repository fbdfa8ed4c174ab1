-- The laws of tallies.
use Rattle.std.proofs.Common.{◌≡◌, ℕ, ◌+◌, ◌-◌, ◌^◌, ◌<◌, ◌≤◌, ◌∙◌, Bool, cond, List, [], ◌∷◌, ◌++◌, length, arith, refl, sym, ap, subst}
use Rattle.std.proofs.lemmas.List.Sums.{sum_by-append, count_by-le-length}
use Rattle.std.proofs.Math.Nat.{add-zero, zero-add, min-eq_left}
use Rattle.escrow_machine.specs.declared.reply.Reply.{Reply}
use Rattle.escrow_stats.specs.declared.kind.Kind.{Kind}
use Rattle.escrow_stats.specs.declared.kind.Kind.TheVariants as kind
use Rattle.escrow_stats.specs.declared.tally.Tally.{Tally}
use Rattle.escrow_stats.specs.Laws.{NothingIsZero, OneMoreIsWithOne, ListsAdd, PartsAreWithin}
use Rattle.escrow_stats.specs.Tally.{kind_of, count_of, tally_of, is_served, is_granted, is_broken, is_refused, is_commit, is_rollback, is_write, is_query, next_total, with_one, sum_of}

pub nothing_is_zero : NothingIsZero
unfolding tally_of
nothing_is_zero = refl

-- JOINED LISTS

-- two joined lists have as many passing replies as both together
count_joined : (test : Kind → Bool) (before after : List Reply) → count_of test (before ++ after) ≡ count_of test before + count_of test after
count_joined test before after = sum_by-append _ before after

pub lists_add : ListsAdd
unfolding tally_of
lists_add before after = rw (
  count_joined is_served before after,
  count_joined is_granted before after,
  count_joined is_broken before after,
  count_joined is_refused before after,
  count_joined is_commit before after,
  count_joined is_rollback before after,
  count_joined is_write before after,
  count_joined is_query before after,
)

-- the tally of one reply of a kind
abbrev one_of : Kind → Tally
one_of k = record {
  served = cond (is_served k) 1 0;
  granted = cond (is_granted k) 1 0;
  broken = cond (is_broken k) 1 0;
  refused = cond (is_refused k) 1 0;
  commits = cond (is_commit k) 1 0;
  rollbacks = cond (is_rollback k) 1 0;
  writes = cond (is_write k) 1 0;
  queries = cond (is_query k) 1 0;
}

one_is : (r : Reply) → tally_of (r ∷ []) ≡ one_of (kind_of r)
unfolding tally_of
one_is r = simp zero-add

-- PARTS ARE AT MOST THE WHOLE

-- the sum of all totals except served
abbrev parts : Tally → ℕ
parts t = t.granted + t.broken + t.refused + t.commits + t.rollbacks + t.writes + t.queries

-- a reply counts in at most one of them, and only if it is served
one_is_within : (k : Kind) → parts (one_of k) ≤ (one_of k).served
one_is_within kind.Unserved = omega arith
one_is_within kind.ServedAlone = omega arith
one_is_within kind.Granted = omega arith
one_is_within kind.Broken = omega arith
one_is_within kind.Refused = omega arith
one_is_within kind.Commit = omega arith
one_is_within kind.Rollback = omega arith
one_is_within kind.Write = omega arith
one_is_within kind.Query = omega arith

-- two tallies together keep this
sum_is_within : (a b : Tally) → parts a ≤ a.served → parts b ≤ b.served → parts (sum_of a b) ≤ (sum_of a b).served
sum_is_within a b a_within b_within = omega arith

others_are_within : (replies : List Reply) → parts (tally_of replies) ≤ (tally_of replies).served
others_are_within [] = rw nothing_is_zero (omega arith)
others_are_within (r ∷ rs) =
    let first : tally_of (r ∷ rs) ≡ sum_of (one_of (kind_of r)) (tally_of rs) =
    lists_add (r ∷ []) rs ∙ ap (λ (t : Tally). sum_of t (tally_of rs)) (one_is r) in
    subst (λ (t : Tally). parts t ≤ t.served) (sym first)
    (sum_is_within (one_of (kind_of r)) (tally_of rs) (one_is_within (kind_of r)) (others_are_within rs))

served_is_within : (replies : List Reply) → (tally_of replies).served ≤ length replies
unfolding tally_of
served_is_within replies = count_by-le-length (λ (r : Reply). is_served (kind_of r)) replies

pub parts_are_within : PartsAreWithin
parts_are_within = record { parts = others_are_within; served = served_is_within }

-- ONE MORE REPLY

-- no total is at its maximum
record HasRoom (t : Tally) : Type 0 where
  served : t.served < 2 ^ 64 - 1
  granted : t.granted < 2 ^ 64 - 1
  broken : t.broken < 2 ^ 64 - 1
  refused : t.refused < 2 ^ 64 - 1
  commits : t.commits < 2 ^ 64 - 1
  rollbacks : t.rollbacks < 2 ^ 64 - 1
  writes : t.writes < 2 ^ 64 - 1
  queries : t.queries < 2 ^ 64 - 1

few_have_room : (replies : List Reply) → length replies < 2 ^ 64 - 1 → HasRoom (tally_of replies)
few_have_room replies few =
    let others = others_are_within replies in
    let served = served_is_within replies in
    record {
      served = omega arith;
      granted = omega arith;
      broken = omega arith;
      refused = omega arith;
      commits = omega arith;
      rollbacks = omega arith;
      writes = omega arith;
      queries = omega arith;
    }

next_is : (n : ℕ) → n < 2 ^ 64 - 1 → next_total n ≡ n + 1
next_is n room = min-eq_left (omega arith)

-- adding a tally of one reply counts one more of its kind
sum_with_one : (t : Tally) (k : Kind) → HasRoom t → sum_of t (one_of k) ≡ with_one t k
sum_with_one t kind.Unserved room = simp add-zero
sum_with_one t kind.ServedAlone room = simp (add-zero, next_is t.served room.served)
sum_with_one t kind.Granted room = simp (add-zero, next_is t.served room.served, next_is t.granted room.granted)
sum_with_one t kind.Broken room = simp (add-zero, next_is t.served room.served, next_is t.broken room.broken)
sum_with_one t kind.Refused room = simp (add-zero, next_is t.served room.served, next_is t.refused room.refused)
sum_with_one t kind.Commit room = simp (add-zero, next_is t.served room.served, next_is t.commits room.commits)
sum_with_one t kind.Rollback room = simp (add-zero, next_is t.served room.served, next_is t.rollbacks room.rollbacks)
sum_with_one t kind.Write room = simp (add-zero, next_is t.served room.served, next_is t.writes room.writes)
sum_with_one t kind.Query room = simp (add-zero, next_is t.served room.served, next_is t.queries room.queries)

pub one_more_is_with_one : OneMoreIsWithOne
one_more_is_with_one replies r few =
    lists_add replies (r ∷ []) ∙ ap (sum_of (tally_of replies)) (one_is r)
    ∙ sum_with_one (tally_of replies) (kind_of r) (few_have_room replies few)

-- counting one more of a reply's kind gives the tally of the list with that reply
pub with_one_is : (t : Tally) (replies : List Reply) (r : Reply) → t ≡ tally_of replies → length replies < 2 ^ 64 - 1
    → with_one t (kind_of r) ≡ tally_of (replies ++ r ∷ [])
with_one_is t replies r is few = ap (λ (t : Tally). with_one t (kind_of r)) is ∙ sym (one_more_is_with_one replies r few)
