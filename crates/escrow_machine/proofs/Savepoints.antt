-- Savepoints in their order: after one is inserted, and those up to a named one.
use Rattle.std.specs.Prelude.{◌≡◌, ◌⊎◌, ◌+◌, ◌<◌, ◌≤◌, ℕ, Bool, true, false, ◌==◌, ◌&&◌, not, nat_lt, nat_le, cond, List, [], ◌∷◌, filter, length, bytes_eq, IsTrue}
use Rattle.std.proofs.Common.{inl, inr, sym, ap, ◌∙◌, subst, refl, arith}
use Rattle.std.proofs.lemmas.Bool.{cond_both, cond-true, cond-false, and_from, and_cases, and_parts, or_left, or_right, or_cases, not_from_false, not-true, lt-ltb, ltb-true, ltb-false, le-leb, leb-true, eqb-true, eq-eqb, cases_lt}
use Rattle.escrow_num.specs.declared.reservation.Savepoint.{Savepoint}
use Rattle.escrow_num.specs.Ascending.{IsAscending}
use Rattle.escrow_num.proofs.Ascending.{ascending_filter}
use Rattle.escrow_num.proofs.Items.{Has, all_has, has_all, has_filter}
use Rattle.escrow_num.proofs.Put.{put, has_put, length_kept, length-filter_put}
use Rattle.escrow_journal.specs.declared.journal.TheConstants.Journal.{MAX_SAVEPOINTS}
use Rattle.escrow_journal.specs.Reservations.{own_savepoints, other_savepoints, savepoint_before}
use Rattle.escrow_journal.specs.Savepoints.{is_named, without_savepoint, put_savepoint, through}
use Rattle.escrow_machine.proofs.Filters.{filters_commute}
use Rattle.escrow_machine.proofs.Lengths.{length-filter_filter}

-- THE ORDER

-- a savepoint was made before another of the same session
pub record IsEarlier (a b : Savepoint) : Type 0 where
  pub session : a.session ≡ b.session
  pub made : a.id ≤ b.id
  pub named : bytes_eq a.name b.name ≡ false

-- the first of two savepoints in order has an earlier session, or was made earlier in the same session
pub before_parts : (a b : Savepoint) → IsTrue (savepoint_before a b) → (a.session < b.session) ⊎ IsEarlier a b
before_parts a b before =
    let made : Bool = (a.session == b.session) && nat_le a.id b.id in
    let other : Bool = not (bytes_eq a.name b.name) in
    elim (or_cases (nat_lt a.session b.session) (made && other) before) [
      | inl t ↦ inl (ltb-true a.session b.session t)
      | inr t ↦
          let parts = and_parts made other t in
          let both = and_parts (a.session == b.session) (nat_le a.id b.id) parts.0 in
          inr (record {
            session = eqb-true a.session b.session both.0;
            made = leb-true a.id b.id both.1;
            named = not-true (bytes_eq a.name b.name) parts.1;
          })
    ]

pub before_session : (a b : Savepoint) → a.session < b.session → IsTrue (savepoint_before a b)
before_session a b lower =
    or_left (nat_lt a.session b.session) ((a.session == b.session) && nat_le a.id b.id && not (bytes_eq a.name b.name)) (lt-ltb a.session b.session lower)

pub before_made : (a b : Savepoint) → IsEarlier a b → IsTrue (savepoint_before a b)
before_made a b e =
    let made : Bool = (a.session == b.session) && nat_le a.id b.id in
    let other : Bool = not (bytes_eq a.name b.name) in
    or_right (nat_lt a.session b.session) (made && other)
    (and_from made other
    (and_from (a.session == b.session) (nat_le a.id b.id) (eq-eqb a.session b.session e.session) (le-leb a.id b.id e.made))
    (not_from_false (bytes_eq a.name b.name) e.named))

-- sessions never fall along the order
pub sessions_rise : (a b : Savepoint) → IsTrue (savepoint_before a b) → a.session ≤ b.session
sessions_rise a b before = elim (before_parts a b before) [ inl lower ↦ omega arith | inr e ↦ let same : a.session ≡ b.session = e.session in omega arith ]

-- ONE MORE SAVEPOINT

-- a savepoint is inserted before the first one of a later session
abbrev pub session_before : Savepoint → Savepoint → Bool
session_before a b = nat_lt a.session b.session

pub put_is : (p : Savepoint) (savepoints : List Savepoint) → put_savepoint p savepoints ≡ put session_before p savepoints
put_is p [] = refl
put_is p (q ∷ rest) = ap (λ zs. cond (nat_lt p.session q.session) (p ∷ q ∷ rest) (q ∷ zs)) (put_is p rest)

-- the list then has that savepoint and the others
pub has_put_savepoint : (p : Savepoint) (savepoints : List Savepoint) (q : Savepoint) → Has (put_savepoint p savepoints) q → (p ≡ q) ⊎ Has savepoints q
has_put_savepoint p savepoints q h = has_put session_before p savepoints q (subst (λ zs. Has zs q) (put_is p savepoints) h)

-- it comes after those of its session; an order by sessions stays, if each of those is before it in that order
pub put_ascending : (before : Savepoint → Savepoint → Bool)
    → ((a b : Savepoint) → a.session < b.session → IsTrue (before a b)) → ((a b : Savepoint) → IsTrue (before a b) → a.session ≤ b.session)
    → (p : Savepoint) (savepoints : List Savepoint) → ((q : Savepoint) → Has savepoints q → q.session ≡ p.session → IsTrue (before q p))
    → IsAscending before savepoints → IsAscending before (put_savepoint p savepoints)
put_ascending before lower rise p [] last h = (tt, tt)
put_ascending before lower rise p (q ∷ rest) last h =
    let from : (q : Savepoint) → Savepoint → Type 0 = λ a b. IsTrue (before a b) in
    let front : nat_lt p.session q.session ≡ true → IsAscending before (p ∷ q ∷ rest) = λ t.
    let first : p.session < q.session = ltb-true p.session q.session t in
    let each : (r : Savepoint) → Has rest r → from p r = λ r k.
    let risen : q.session ≤ r.session = rise q r (all_has (from q) rest h.0 r k) in
    lower p r (omega arith) in
    ((lower p q first, has_all (from p) rest each), h) in
    let behind : nat_lt p.session q.session ≡ false → IsAscending before (q ∷ put_savepoint p rest) = λ f.
    let up_to : q.session ≤ p.session = ltb-false p.session q.session f in
    let first : from q p = elim (cases_lt q.session p.session) [
      | inl earlier ↦ lower q p earlier
      | inr le ↦ last q (inl refl) (omega arith)
    ] in
    let each : (r : Savepoint) → Has (put_savepoint p rest) r → from q r = λ r k.
    elim (has_put_savepoint p rest r k) [ inl e ↦ subst (from q) e first | inr l ↦ all_has (from q) rest h.0 r l ] in
    (has_all (from q) (put_savepoint p rest) each, put_ascending before lower rise p rest (λ r k. last r (inr k)) h.1) in
    cond_both (nat_lt p.session q.session) (p ∷ q ∷ rest) (q ∷ put_savepoint p rest) (IsAscending before) front behind

-- a session has one more savepoint, or as many as before
pub few_put : (p : Savepoint) (savepoints : List Savepoint) (session : ℕ) → length (own_savepoints session savepoints) ≤ MAX_SAVEPOINTS
    → length (own_savepoints p.session savepoints) < MAX_SAVEPOINTS → length (own_savepoints session (put_savepoint p savepoints)) ≤ MAX_SAVEPOINTS
few_put p savepoints session few room =
    let of_session : Savepoint → Bool = λ q. q.session == session in
    let parts : length (own_savepoints session (put_savepoint p savepoints)) ≡ length (own_savepoints session savepoints) + cond (p.session == session) 1 0 =
    ap (λ zs. length (filter of_session zs)) (put_is p savepoints) ∙ length-filter_put session_before of_session p savepoints in
    cond_both (p.session == session) 1 0
    (λ n. length (own_savepoints session (put_savepoint p savepoints)) ≡ length (own_savepoints session savepoints) + n → length (own_savepoints session (put_savepoint p savepoints)) ≤ MAX_SAVEPOINTS)
    (λ t e. let here : length (own_savepoints session savepoints) < MAX_SAVEPOINTS = subst (λ k. length (own_savepoints k savepoints) < MAX_SAVEPOINTS) (eqb-true p.session session t) room in omega arith)
    (λ f e. omega arith) parts

-- without the savepoint of a name, none of the session has that name
pub other_name : (session : ℕ) (name : List ℕ) (savepoints : List Savepoint) (q : Savepoint) → Has (without_savepoint session name savepoints) q
    → Has savepoints q × (q.session ≡ session → bytes_eq q.name name ≡ false)
other_name session name savepoints q h =
    let kept = has_filter (λ (p : Savepoint). not (is_named session name p)) savepoints q h in (
      kept.0,
      λ same. elim (and_cases (q.session == session) (bytes_eq q.name name) (not-true (is_named session name q) kept.1)) [
        | inl differs ↦ let is : (q.session == session) ≡ true = eq-eqb q.session session same in absurd (cc)
        | inr named ↦ named
      ],
    )

-- THE SAVEPOINTS UP TO A NAMED ONE

-- they are some of all savepoints
pub has_through : (session : ℕ) (name : List ℕ) (savepoints : List Savepoint) (q : Savepoint) → Has (through session name savepoints) q → Has savepoints q
has_through session name [] q h = h
has_through session name (p ∷ rest) q h =
    let named : Has (p ∷ other_savepoints session rest) q → Has (p ∷ rest) q =
    elim [ inl e ↦ inl e | inr k ↦ inr (has_filter (λ (r : Savepoint). not (r.session == session)) rest q k).0 ] in
    let other : Has (p ∷ through session name rest) q → Has (p ∷ rest) q =
    elim [ inl e ↦ inl e | inr k ↦ inr (has_through session name rest q k) ] in
    cond_both (is_named session name p) (p ∷ other_savepoints session rest) (p ∷ through session name rest) (λ zs. Has zs q → Has (p ∷ rest) q)
    (λ _. named) (λ _. other) h

-- they are in the same order
pub through_ascending : (before : Savepoint → Savepoint → Bool) (session : ℕ) (name : List ℕ) (savepoints : List Savepoint)
    → IsAscending before savepoints → IsAscending before (through session name savepoints)
through_ascending before session name [] h = tt
through_ascending before session name (p ∷ rest) h =
    let After : Savepoint → Type 0 = λ q. IsTrue (before p q) in
    let other : Savepoint → Bool = λ r. not (r.session == session) in
    let each : (q : Savepoint) → Has rest q → After q = all_has After rest h.0 in
    cond_both (is_named session name p) (p ∷ other_savepoints session rest) (p ∷ through session name rest) (IsAscending before)
    (λ _. (has_all After (other_savepoints session rest) (λ q k. each q (has_filter other rest q k).0), ascending_filter before other rest h.1))
    (λ _. (has_all After (through session name rest) (λ q k. each q (has_through session name rest q k)), through_ascending before session name rest h.1))

-- no more of them pass a test
pub length-filter_through : (kept : Savepoint → Bool) (session : ℕ) (name : List ℕ) (savepoints : List Savepoint)
    → length (filter kept (through session name savepoints)) ≤ length (filter kept savepoints)
length-filter_through kept session name [] = omega arith
length-filter_through kept session name (p ∷ rest) =
    let of_others = length-filter_filter kept (λ (r : Savepoint). not (r.session == session)) rest in
    let of_rest = length-filter_through kept session name rest in
    let whole = length_kept (kept p) p (filter kept rest) in
    let named = length_kept (kept p) p (filter kept (other_savepoints session rest)) in
    let before = length_kept (kept p) p (filter kept (through session name rest)) in
    cond_both (is_named session name p) (p ∷ other_savepoints session rest) (p ∷ through session name rest) (λ zs. length (filter kept zs) ≤ length (filter kept (p ∷ rest)))
    (λ _. omega arith) (λ _. omega arith)

-- BY SESSION

-- a savepoint's session is at most that of another
abbrev pub session_up_to : Savepoint → Savepoint → Bool
session_up_to a b = nat_le a.session b.session

-- savepoints in order are in order of session
pub by_session : (savepoints : List Savepoint) → IsAscending savepoint_before savepoints → IsAscending session_up_to savepoints
by_session [] h = tt
by_session (p ∷ rest) h = (
  has_all (λ q. IsTrue (session_up_to p q)) rest
      (λ q k. le-leb p.session q.session (sessions_rise p q (all_has (λ r. IsTrue (savepoint_before p r)) rest h.0 q k))),
  by_session rest h.1,
)

-- they stay in order of session when one is inserted
pub put_by_session : (p : Savepoint) (savepoints : List Savepoint) → IsAscending session_up_to savepoints → IsAscending session_up_to (put_savepoint p savepoints)
put_by_session p savepoints h =
    put_ascending session_up_to (λ a b lower. le-leb a.session b.session (omega arith)) (λ a b t. leb-true a.session b.session t) p savepoints
    (λ q _ same. le-leb q.session p.session (omega arith)) h

-- a savepoint is inserted before those of later sessions
put_first : (p : Savepoint) (savepoints : List Savepoint) → ((q : Savepoint) → Has savepoints q → p.session < q.session) → put_savepoint p savepoints ≡ p ∷ savepoints
put_first p [] later = refl
put_first p (q ∷ rest) later =
    cond-true (nat_lt p.session q.session) (p ∷ q ∷ rest) (q ∷ put_savepoint p rest) (lt-ltb p.session q.session (later q (inl refl)))

-- a savepoint is put after one whose session is no later
put_behind : (b : Bool) (p q : Savepoint) (left : List Savepoint) → nat_lt p.session q.session ≡ false
    → cond b (q ∷ put_savepoint p left) (put_savepoint p left) ≡ put_savepoint p (cond b (q ∷ left) left)
put_behind true p q left f = sym (cond-false (nat_lt p.session q.session) (p ∷ q ∷ left) (q ∷ put_savepoint p left) f)
put_behind false p q left f = refl

-- if a test keeps the new savepoint, filtering and putting it may be done in either order
pub put_kept : (keep : Savepoint → Bool) (p : Savepoint) (savepoints : List Savepoint) → keep p ≡ true → IsAscending session_up_to savepoints
    → filter keep (put_savepoint p savepoints) ≡ put_savepoint p (filter keep savepoints)
put_kept keep p [] kept h = cond-true (keep p) (p ∷ []) [] kept
put_kept keep p (q ∷ rest) kept h =
    let all : List Savepoint = q ∷ rest in
    cond_both (nat_lt p.session q.session) (p ∷ all) (q ∷ put_savepoint p rest) (λ zs. filter keep zs ≡ put_savepoint p (filter keep all))
    (λ t. cond-true (keep p) (p ∷ filter keep all) (filter keep all) kept ∙ sym (put_first p (filter keep all) (λ r k. later t r (has_filter keep all r k).0)))
    (λ f. ap (λ (zs : List Savepoint). cond (keep q) (q ∷ zs) zs) (put_kept keep p rest kept h.1) ∙ put_behind (keep q) p q (filter keep rest) f)
  where
    later : nat_lt p.session q.session ≡ true → (r : Savepoint) → Has (q ∷ rest) r → p.session < r.session
    later t r (inl e) = subst (λ (x : Savepoint). p.session < x.session) e (ltb-true p.session q.session t)
    later t r (inr k) =
        let first : p.session < q.session = ltb-true p.session q.session t in
        let risen : q.session ≤ r.session = leb-true q.session r.session (all_has (λ x. IsTrue (session_up_to q x)) rest h.0 r k) in
        omega arith

-- if a test keeps every savepoint of a name, filtering and going up to that name may be done in either order
pub through_kept : (keep : Savepoint → Bool) (session : ℕ) (name : List ℕ) (savepoints : List Savepoint) → ((p : Savepoint) → is_named session name p ≡ true → keep p ≡ true)
    → filter keep (through session name savepoints) ≡ through session name (filter keep savepoints)
through_kept keep session name [] kept = refl
through_kept keep session name (p ∷ rest) kept =
    let named : Bool = is_named session name p in
    let others : List Savepoint = other_savepoints session rest in
    let back : List Savepoint = through session name rest in
    let left : List Savepoint = filter keep rest in
    let later : filter keep back ≡ through session name left = through_kept keep session name rest kept in
    let stays : keep p ≡ true → filter keep (cond named (p ∷ others) (p ∷ back)) ≡ through session name (p ∷ left) = λ t.
    cond_both named (p ∷ others) (p ∷ back) (λ zs. filter keep zs ≡ through session name (p ∷ left))
    (λ here. cond-true (keep p) (p ∷ filter keep others) (filter keep others) t
    ∙ ap (λ (zs : List Savepoint). p ∷ zs) (filters_commute keep (λ (q : Savepoint). not (q.session == session)) rest)
    ∙ sym (cond-true named (p ∷ other_savepoints session left) (p ∷ through session name left) here))
    (λ away. cond-true (keep p) (p ∷ filter keep back) (filter keep back) t
    ∙ ap (λ (zs : List Savepoint). p ∷ zs) later
    ∙ sym (cond-false named (p ∷ other_savepoints session left) (p ∷ through session name left) away)) in
    let goes : keep p ≡ false → filter keep (cond named (p ∷ others) (p ∷ back)) ≡ through session name left = λ f.
    cond_both named (p ∷ others) (p ∷ back) (λ zs. filter keep zs ≡ through session name left)
    (λ here. let t : keep p ≡ true = kept p here in absurd (cc))
    (λ _. cond-false (keep p) (p ∷ filter keep back) (filter keep back) f ∙ later) in
    cond_both (keep p) (p ∷ left) left (λ zs. filter keep (cond named (p ∷ others) (p ∷ back)) ≡ through session name zs) stays goes
