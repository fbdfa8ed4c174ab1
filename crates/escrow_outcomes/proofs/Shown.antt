-- A restart that is done, and one that fails.
use Rattle.std.specs.Prelude.{◌≡◌, ◌≤◌, ◌+◌, ℕ, ◌==◌, List, [], ◌∷◌, ◌++◌, length, codes, decimal, slice_index_or}
use Rattle.std.specs.Fmt.{digits}
use Rattle.std.proofs.Common.{inl, inr, refl, sym, ap, ◌∙◌, arith, rules}
use Rattle.std.proofs.lemmas.Bool.{cond_both}
use Rattle.std.proofs.lemmas.List.{append-nil, length-append, nil_from_length}
use Rattle.std.proofs.lemmas.Str.{IsUtf8-from_ascii}
use Rattle.escrow_num.specs.declared.failure.Failure.{Failure}
use Rattle.escrow_num.specs.declared.failure.Failure.TheVariants as failure
use Rattle.escrow_num.specs.declared.refusal.Refusal.TheVariants as refusal
use Rattle.escrow_num.specs.Refusal.{refusal_for}
use Rattle.escrow_machine.specs.declared.reply.Reply.TheVariants as reply
use Rattle.escrow_machine.specs.State.{opened}
use Rattle.escrow_reply.specs.Text.{reply_text, prefix_of, database_prefix, rendered, rendered_whole}
use Rattle.escrow_script.specs.Line.{database_name, restart, Reads}
use Rattle.escrow_outcomes.specs.Failed.{IsFailedReply, ShowsFailure}
use Rattle.escrow_outcomes.specs.Laws.{RestartsShow}

-- LENGTHS

name_parts : (place : ℕ) → (rest : List ℕ) × (database_name place ≡ codes "bank" ++ rest)
name_parts place = cond_both (place == 0) (codes "bank") (codes "bank" ++ decimal (place + 1)) (λ name. (rest : List ℕ) × (name ≡ codes "bank" ++ rest))
    (λ _. ([], refl)) (λ _. (decimal (place + 1), refl))

abbrev store_text : List ℕ
store_text = reply_text (reply.Refused refusal.Store)

abbrev memory_text : List ℕ
memory_text = reply_text (reply.Refused refusal.Memory)

store_length : length store_text ≡ 12
unfolding digits
store_length = refl

memory_length : length memory_text ≡ 13
unfolding digits
memory_length = refl

abbrev restarted : List ℕ
restarted = rendered_whole (codes "bank") reply.Restarted

restarted_length : length restarted ≡ 19
restarted_length = refl

-- a prefix and a text on a line
line_length : (prefix text : List ℕ) → length ((prefix ++ text ++ 10 ∷ []) ++ []) ≡ length prefix + length text + 1
line_length prefix text =
    let whole : length ((prefix ++ text ++ 10 ∷ []) ++ []) ≡ length (prefix ++ text ++ 10 ∷ []) = ap (λ (xs : List ℕ). length xs) (append-nil (prefix ++ text ++ 10 ∷ [])) in
    let one : length (prefix ++ text ++ 10 ∷ []) ≡ length (prefix ++ text) + 1 = length-append (prefix ++ text) (10 ∷ []) in
    let two : length (prefix ++ text) ≡ length prefix + length text = length-append prefix text in
    omega arith

text_length : (f : Failure) → 12 ≤ length (reply_text (reply.Refused (refusal_for f)))
text_length failure.Memory = let long = memory_length in omega arith
text_length failure.Store = let long = store_length in omega arith

name_length : (place : ℕ) → 4 ≤ length (database_name place)
name_length place =
    let parts = name_parts place in
    let long : length (database_name place) ≡ length (codes "bank" ++ parts.0) = ap (λ (xs : List ℕ). length xs) parts.1 in
    let both : length (codes "bank" ++ parts.0) ≡ 4 + length parts.0 = length-append (codes "bank") parts.0 in
    omega arith

session_length : (place session : ℕ) (f : Failure) → 20 ≤ length (rendered (database_name place) session (reply.Refused (refusal_for f)))
session_length place session f =
    let prefix : length (prefix_of (database_name place) session) ≡ length (database_name place ++ codes "." ++ decimal session) + 2 =
    length-append (database_name place ++ codes "." ++ decimal session) (codes "> ") in
    let front : length (database_name place ++ codes "." ++ decimal session) ≡ length (database_name place ++ codes ".") + length (decimal session) =
    length-append (database_name place ++ codes ".") (decimal session) in
    let point : length (database_name place ++ codes ".") ≡ length (database_name place) + 1 = length-append (database_name place) (codes ".") in
    let name = name_length place in
    let text = text_length f in
    let line = line_length (prefix_of (database_name place) session) (reply_text (reply.Refused (refusal_for f))) in
    omega arith

whole_length : (place : ℕ) (f : Failure) → length (rendered_whole (database_name place) (reply.Refused (refusal_for f)))
    ≡ length (database_name place) + 2 + length (reply_text (reply.Refused (refusal_for f))) + 1
whole_length place f =
    let prefix : length (database_prefix (database_name place)) ≡ length (database_name place) + 2 = length-append (database_name place) (codes "> ") in
    let line = line_length (database_prefix (database_name place)) (reply_text (reply.Refused (refusal_for f))) in
    omega arith

-- NO FAILURE

-- the seventh byte differs
bytes_differ : (a b : ℕ) → a ≡ 79 → b ≡ 69 → a ≡ b → ⊥
bytes_differ a b one other same = omega arith

differ : restarted ≡ rendered_whole (codes "bank") (reply.Refused refusal.Store) → ⊥
differ same =
    bytes_differ (slice_index_or restarted 6 0) (slice_index_or (rendered_whole (codes "bank") (reply.Refused refusal.Store)) 6 0) refl refl
    (ap (λ (xs : List ℕ). slice_index_or xs 6 0) same)

-- a failed reply of 19 bytes is that of the store to a restart of the first database
not_store : (place : ℕ) (f : Failure) → restarted ≡ rendered_whole (database_name place) (reply.Refused (refusal_for f)) → ⊥
not_store place failure.Memory is =
    let long = whole_length place failure.Memory in
    let name = name_length place in
    let text : length memory_text ≡ 13 = memory_length in
    let same : length restarted ≡ length (rendered_whole (database_name place) (reply.Refused refusal.Memory)) = ap (λ (xs : List ℕ). length xs) is in
    let count : length restarted ≡ 19 = restarted_length in
    absurd (omega arith)
not_store place failure.Store is =
    let parts = name_parts place in
    let long = whole_length place failure.Store in
    let text : length store_text ≡ 12 = store_length in
    let same : length restarted ≡ length (rendered_whole (database_name place) (reply.Refused refusal.Store)) = ap (λ (xs : List ℕ). length xs) is in
    let count : length restarted ≡ 19 = restarted_length in
    let named : length (database_name place) ≡ length (codes "bank" ++ parts.0) = ap (λ (xs : List ℕ). length xs) parts.1 in
    let both : length (codes "bank" ++ parts.0) ≡ 4 + length parts.0 = length-append (codes "bank") parts.0 in
    let none : parts.0 ≡ [] = nil_from_length parts.0 (omega arith) in
    let name : database_name place ≡ codes "bank" = parts.1 ∙ ap (λ (xs : List ℕ). codes "bank" ++ xs) none in
    let at : restarted ≡ rendered_whole (codes "bank") (reply.Refused refusal.Store) = is ∙ ap (λ (xs : List ℕ). rendered_whole xs (reply.Refused refusal.Store)) name in
    differ at

only_part : (out front failed back : List ℕ) → out ≡ front ++ (failed ++ back) → length out ≡ 19 → 19 ≤ length failed → out ≡ failed
only_part out front failed back is count long =
    let whole : length out ≡ length (front ++ (failed ++ back)) = ap (λ (xs : List ℕ). length xs) is in
    let first : length (front ++ (failed ++ back)) ≡ length front + length (failed ++ back) = length-append front (failed ++ back) in
    let rest : length (failed ++ back) ≡ length failed + length back = length-append failed back in
    let no_front : front ≡ [] = nil_from_length front (omega arith) in
    let no_back : back ≡ [] = nil_from_length back (omega arith) in
    is ∙ ap (λ (xs : List ℕ). xs ++ (failed ++ back)) no_front ∙ ap (λ (xs : List ℕ). failed ++ xs) no_back ∙ append-nil failed

none_shown : ¬ (ShowsFailure restarted)
none_shown shows = at shows.is_failed
  where
    at : IsFailedReply shows.failed → ⊥
    at (place, f, inl whole) =
        let long = whole_length place f in
        let name = name_length place in
        let text = text_length f in
        let same : length shows.failed ≡ length (rendered_whole (database_name place) (reply.Refused (refusal_for f))) = ap (λ (xs : List ℕ). length xs) whole in
        let is : restarted ≡ shows.failed = only_part restarted shows.front shows.failed shows.back shows.is restarted_length (omega arith) in
        not_store place f (is ∙ whole)
    at (place, f, inr session) =
        let long = session_length place session.0 f in
        let same : length shows.failed ≡ length (rendered (database_name place) session.0 (reply.Refused (refusal_for f))) = ap (λ (xs : List ℕ). length xs) session.1 in
        let is : restarted ≡ shows.failed = only_part restarted shows.front shows.failed shows.back shows.is restarted_length (omega arith) in
        let equal : length restarted ≡ length shows.failed = ap (λ (xs : List ℕ). length xs) is in
        let count : length restarted ≡ 19 = restarted_length in
        absurd (omega arith)

-- BOTH

reads : Reads 1 1 (codes "@restart bank") (restart 0)
reads = inl (
  (omega arith, IsUtf8-from_ascii (codes "@restart bank") (search rules)),
  record {
    within = omega arith;
    front = 32 ∷ [];
    back = [];
    apart = omega arith;
    front_blank = search rules;
    back_blank = search rules;
    parts = refl;
  },
)

pub restarts_show : RestartsShow
restarts_show s = record {
  served = (
    _,
    (
      restarted,
      [],
      _,
      (restart 0, reads, (_, (reply.Restarted, opened s.catalog s.rows, inl (refl, refl), refl, refl), refl)),
      (refl, refl),
      sym (append-nil restarted),
    ),
    refl,
  );
  shows_none = none_shown;
  failed = (
    _,
    (
      rendered_whole (codes "bank") (reply.Refused refusal.Memory),
      [],
      _,
      (restart 0, reads, (_, (reply.Refused refusal.Memory, s, inr (inl refl, refl), refl, refl), refl)),
      (refl, refl),
      sym (append-nil (rendered_whole (codes "bank") (reply.Refused refusal.Memory))),
    ),
    refl,
  );
  shows = record {
    front = [];
    failed = rendered_whole (codes "bank") (reply.Refused refusal.Memory);
    back = [];
    lines = inl refl;
    is_failed = (0, failure.Memory, inl refl);
    is = sym (append-nil (rendered_whole (codes "bank") (reply.Refused refusal.Memory)));
  };
}
