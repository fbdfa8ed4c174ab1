-- Each step at an end of a channel keeps its rule.
use Rattle.std.proofs.Common.{◌≡◌, ℕ, zero, suc, ◌≢◌, ◌⊎◌, List, [], ◌∷◌, ◌++◌, true, length, set, true≢false, refl, sym, ap, ◌∙◌, inl, inr, append_assoc, subst}
use mathlib.Core.Option.{some, some-injective, some-ne-none}
use lib.ListN.{get_elem?}
use Rattle.atomic_table.proofs.Lists.{at_set}
use Rattle.escrow_sessions.specs.Rule.{both_ends, no_end, sending, taking, together, with_sent, with_taken, Knows, Keeps}
use Rattle.escrow_sessions.specs.declared.rule.Item.{Item}
use Rattle.escrow_sessions.specs.declared.rule.Log.{Log}

-- an item of a list with one more is in the list, or is that one at its end
at_end : {A : Type 0} (l : List A) (a b : A) (j : ℕ) → get_elem? (l ++ a ∷ []) j ≡ some b → (get_elem? l j ≡ some b) ⊎ ((j ≡ length l) × (a ≡ b))
at_end [] a b zero e = inr (refl, some-injective a b e)
at_end [] a b (suc j) e = absurd (some-ne-none b (sym e))
at_end (x ∷ xs) a b zero e = inl e
at_end (x ∷ xs) a b (suc j) e = further (at_end xs a b j e) where
  further : (get_elem? xs j ≡ some b) ⊎ ((j ≡ length xs) × (a ≡ b)) → (get_elem? xs j ≡ some b) ⊎ ((suc j ≡ suc (length xs)) × (a ≡ b))
  further (inl h) = inl h
  further (inr h) = inr (ap suc h.0, h.1)

-- a view with neither end has nothing to know
knows_none : (feeder worker : ℕ) (sent taken : List Item) (pass : ℕ) → Knows feeder worker sent taken pass no_end
knows_none feeder worker sent taken pass = record { sends = λ h. absurd (true≢false (sym h)); takes = λ h. absurd (true≢false (sym h)) }

-- a new channel
pub keeps_new : Keeps [] (both_ends ∷ [])
keeps_new = record {
  feeder = 0;
  worker = 0;
  sent = [];
  taken = [];
  order = refl;
  each = first;
} where
  first : (pass : ℕ) (v : Log) → get_elem? (both_ends ∷ []) pass ≡ some v → Knows 0 0 [] [] pass v
  first zero v e = subst (Knows 0 0 [] [] 0) (some-injective both_ends v e) (record { sends = λ h. (refl, refl); takes = λ h. (refl, refl) })
  first (suc pass) v e = absurd (some-ne-none v (sym e))

module _ (items : List Item) (views : List Log) (pass : ℕ) (v : Log) (kept : Keeps items views) (here : get_elem? views pass ≡ some v) where
  mine : Knows kept.feeder kept.worker kept.sent kept.taken pass v
  mine = kept.each pass v here

  -- a message is sent
  pub keeps_sent : (x : Item) → v.sends ≡ true → Keeps (items ++ x ∷ []) (set views pass (with_sent v x))
  keeps_sent x sends = record {
    feeder = kept.feeder;
    worker = kept.worker;
    sent = kept.sent ++ x ∷ [];
    taken = kept.taken;
    order = ap (λ s. s ++ x ∷ []) kept.order ∙ append_assoc kept.taken items (x ∷ []);
    each = λ q u at. known q u (at_set views pass q (with_sent v x) u at);
  } where
    known : (q : ℕ) (u : Log) → ((q ≡ pass) × (with_sent v x ≡ u)) ⊎ ((q ≢ pass) × (get_elem? views q ≡ some u)) → Knows kept.feeder kept.worker (kept.sent ++ x ∷ []) kept.taken q u
    known q u (inl same) =
        subst (Knows kept.feeder kept.worker (kept.sent ++ x ∷ []) kept.taken q) same.1
        (record {
          sends = λ h. (same.0 ∙ (mine.sends h).0, ap (λ s. s ++ x ∷ []) (mine.sends h).1);
          takes = λ h. (same.0 ∙ (mine.takes h).0, (mine.takes h).1);
        })
    known q u (inr other) =
        let theirs = kept.each q u other.1 in
        record {
          sends = λ h. absurd (other.0 ((theirs.sends h).0 ∙ sym (mine.sends sends).0));
          takes = theirs.takes;
        }

  -- the two ends are separated
  pub keeps_apart : v.takes ≡ true → Keeps items (set views pass (sending v) ++ taking v ∷ [])
  keeps_apart takes = record {
    feeder = kept.feeder;
    worker = length (set views pass (sending v));
    sent = kept.sent;
    taken = kept.taken;
    order = kept.order;
    each = λ q u at. found q u (at_end (set views pass (sending v)) (taking v) u q at);
  } where
    worker : ℕ
    worker = length (set views pass (sending v))

    known : (q : ℕ) (u : Log) → ((q ≡ pass) × (sending v ≡ u)) ⊎ ((q ≢ pass) × (get_elem? views q ≡ some u)) → Knows kept.feeder worker kept.sent kept.taken q u
    known q u (inl same) =
        subst (Knows kept.feeder worker kept.sent kept.taken q) same.1
        (record {
          sends = λ h. (same.0 ∙ (mine.sends h).0, (mine.sends h).1);
          takes = λ h. absurd (true≢false (sym h));
        })
    known q u (inr other) =
        let theirs = kept.each q u other.1 in
        record {
          sends = theirs.sends;
          takes = λ h. absurd (other.0 ((theirs.takes h).0 ∙ sym (mine.takes takes).0));
        }

    found : (q : ℕ) (u : Log) → (get_elem? (set views pass (sending v)) q ≡ some u) ⊎ ((q ≡ worker) × (taking v ≡ u)) → Knows kept.feeder worker kept.sent kept.taken q u
    found q u (inl before) = known q u (at_set views pass q (sending v) u before)
    found q u (inr last) =
        subst (Knows kept.feeder worker kept.sent kept.taken q) last.1
        (record {
          sends = λ h. absurd (true≢false (sym h));
          takes = λ h. (last.0, (mine.takes h).1);
        })

  -- the two ends are joined
  pub keeps_together : (other : ℕ) (w : Log) → v.sends ≡ true → w.takes ≡ true → (other ≢ pass) → get_elem? (set views pass (together v w)) other ≡ some w
      → Keeps items (set (set views pass (together v w)) other no_end)
  keeps_together other w sends takes apart there = record {
    feeder = kept.feeder;
    worker = pass;
    sent = kept.sent;
    taken = kept.taken;
    order = kept.order;
    each = λ q u at. found q u (at_set (set views pass (together v w)) other q no_end u at);
  } where
    beside : ((other ≡ pass) × (together v w ≡ w)) ⊎ ((other ≢ pass) × (get_elem? views other ≡ some w)) → Knows kept.feeder kept.worker kept.sent kept.taken other w
    beside (inl same) = absurd (apart same.0)
    beside (inr else) = kept.each other w else.1

    theirs : Knows kept.feeder kept.worker kept.sent kept.taken other w
    theirs = beside (at_set views pass other (together v w) w there)

    known : (q : ℕ) (u : Log) → (q ≢ other) → ((q ≡ pass) × (together v w ≡ u)) ⊎ ((q ≢ pass) × (get_elem? views q ≡ some u)) → Knows kept.feeder pass kept.sent kept.taken q u
    known q u not_other (inl same) =
        subst (Knows kept.feeder pass kept.sent kept.taken q) same.1
        (record {
          sends = λ h. (same.0 ∙ (mine.sends h).0, (mine.sends h).1);
          takes = λ h. (same.0, (theirs.takes h).1);
        })
    known q u not_other (inr else) =
        let its = kept.each q u else.1 in
        record {
          sends = its.sends;
          takes = λ h. absurd (not_other ((its.takes h).0 ∙ sym (theirs.takes takes).0));
        }

    found : (q : ℕ) (u : Log) → ((q ≡ other) × (no_end ≡ u)) ⊎ ((q ≢ other) × (get_elem? (set views pass (together v w)) q ≡ some u)) → Knows kept.feeder pass kept.sent kept.taken q u
    found q u (inl same) = subst (Knows kept.feeder pass kept.sent kept.taken q) same.1 (knows_none kept.feeder pass kept.sent kept.taken q)
    found q u (inr else) = known q u else.0 (at_set views pass q (together v w) u else.1)

  -- what both ends know together
  pub keeps_whole : v.sends ≡ true → v.takes ≡ true → v.sent ≡ v.taken ++ items
  keeps_whole sends takes = (mine.sends sends).1 ∙ kept.order ∙ ap (λ t. t ++ items) (sym (mine.takes takes).1)

-- a message is taken
pub keeps_taken : (x : Item) (items : List Item) (views : List Log) (pass : ℕ) (v : Log) → Keeps (x ∷ items) views → get_elem? views pass ≡ some v → v.takes ≡ true
    → Keeps items (set views pass (with_taken v x))
keeps_taken x items views pass v kept here takes = record {
  feeder = kept.feeder;
  worker = kept.worker;
  sent = kept.sent;
  taken = kept.taken ++ x ∷ [];
  order = kept.order ∙ sym (append_assoc kept.taken (x ∷ []) items);
  each = λ q u at. known q u (at_set views pass q (with_taken v x) u at);
} where
  mine : Knows kept.feeder kept.worker kept.sent kept.taken pass v
  mine = kept.each pass v here

  known : (q : ℕ) (u : Log) → ((q ≡ pass) × (with_taken v x ≡ u)) ⊎ ((q ≢ pass) × (get_elem? views q ≡ some u)) → Knows kept.feeder kept.worker kept.sent (kept.taken ++ x ∷ []) q u
  known q u (inl same) =
      subst (Knows kept.feeder kept.worker kept.sent (kept.taken ++ x ∷ []) q) same.1
      (record {
        sends = λ h. (same.0 ∙ (mine.sends h).0, (mine.sends h).1);
        takes = λ h. (same.0 ∙ (mine.takes h).0, ap (λ t. t ++ x ∷ []) (mine.takes h).1);
      })
  known q u (inr other) =
      let theirs = kept.each q u other.1 in
      record {
        sends = theirs.sends;
        takes = λ h. absurd (other.0 ((theirs.takes h).0 ∙ sym (mine.takes takes).0));
      }
