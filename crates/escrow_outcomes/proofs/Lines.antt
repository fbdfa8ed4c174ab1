-- Whole lines, and outputs that show a failure.
use Rattle.std.specs.Prelude.{◌≡◌, ℕ, Option, Some, None, List, [], ◌∷◌, ◌++◌}
use Rattle.std.proofs.Common.{inl, inr, refl, sym, ap, subst, ◌∙◌, append_assoc}
use Rattle.std.proofs.lemmas.List.{append-nil}
use Rattle.escrow_num.specs.declared.failure.Failure.{Failure}
use Rattle.escrow_num.specs.declared.failure.Failure.TheVariants as failure
use Rattle.escrow_num.specs.declared.refusal.Refusal.TheVariants as refusal
use Rattle.escrow_num.specs.Refusal.{refusal_for}
use Rattle.escrow_machine.specs.declared.reply.Reply.{Reply}
use Rattle.escrow_machine.specs.declared.reply.Reply.TheVariants as reply
use Rattle.escrow_machine.specs.Reply.{failure_of}
use Rattle.escrow_reply.specs.Text.{with_prefix, rendered, rendered_whole}
use Rattle.escrow_script.specs.Line.{database_name}
use Rattle.escrow_outcomes.specs.Failed.{AreWholeLines, IsFailedReply, ShowsFailure}

-- WHOLE LINES

pub whole_append : (xs ys : List ℕ) → AreWholeLines xs → AreWholeLines ys → AreWholeLines (xs ++ ys)
whole_append xs ys first (inl none) = subst AreWholeLines (sym (ap (λ (zs : List ℕ). xs ++ zs) none ∙ append-nil xs)) first
whole_append xs ys first (inr some) = inr (xs ++ some.0, ap (λ (zs : List ℕ). xs ++ zs) some.1 ∙ sym (append_assoc xs some.0 (10 ∷ [])))

one_line : (prefix line : List ℕ) → AreWholeLines (prefix ++ line ++ 10 ∷ [])
one_line prefix line = inr (prefix ++ line, refl)

pub with_prefix_whole : (prefix : List ℕ) (lines : List (List ℕ)) → AreWholeLines (with_prefix prefix lines)
with_prefix_whole prefix [] = inl refl
with_prefix_whole prefix (line ∷ lines) =
    whole_append (prefix ++ line ++ 10 ∷ []) (with_prefix prefix lines) (one_line prefix line) (with_prefix_whole prefix lines)

-- FAILURES

-- a part of an output shows none if the whole shows none
pub shows_in_front : (xs ys : List ℕ) → ShowsFailure xs → ShowsFailure (xs ++ ys)
shows_in_front xs ys shows = record {
  front = shows.front;
  failed = shows.failed;
  back = shows.back ++ ys;
  lines = shows.lines;
  is_failed = shows.is_failed;
  is = ap (λ (zs : List ℕ). zs ++ ys) shows.is
      ∙ append_assoc shows.front (shows.failed ++ shows.back) ys
      ∙ ap (λ (zs : List ℕ). shows.front ++ zs) (append_assoc shows.failed shows.back ys);
}

pub shows_behind : (xs ys : List ℕ) → AreWholeLines xs → ShowsFailure ys → ShowsFailure (xs ++ ys)
shows_behind xs ys whole shows = record {
  front = xs ++ shows.front;
  failed = shows.failed;
  back = shows.back;
  lines = whole_append xs shows.front whole shows.lines;
  is_failed = shows.is_failed;
  is = ap (λ (zs : List ℕ). xs ++ zs) shows.is ∙ sym (append_assoc xs shows.front (shows.failed ++ shows.back));
}

shows_whole : (bytes : List ℕ) → IsFailedReply bytes → ShowsFailure bytes
shows_whole bytes is_failed = record { front = []; failed = bytes; back = []; lines = inl refl; is_failed = is_failed; is = sym (append-nil bytes) }

-- a reply that is a failure is the refusal for it
failure_is : (answer : Reply) (f : Failure) → failure_of answer ≡ Some f → answer ≡ reply.Refused (refusal_for f)
failure_is (reply.Refused refusal.Memory) f e = let same : failure.Memory ≡ f = cc in ap (λ (x : Failure). reply.Refused (refusal_for x)) same
failure_is (reply.Refused refusal.Store) f e = let same : failure.Store ≡ f = cc in ap (λ (x : Failure). reply.Refused (refusal_for x)) same
failure_is _ f e = absurd (cc)

none_at : (out : List ℕ) (answer : Reply) (o : Option Failure) → failure_of answer ≡ o → ((f : Failure) → answer ≡ reply.Refused (refusal_for f) → ShowsFailure out)
    → ¬ (ShowsFailure out) → failure_of answer ≡ None
none_at out answer None is shows none = is
none_at out answer (Some f) is shows none = absurd (none (shows f (failure_is answer f is)))

-- the reply to a statement that shows no failure is none
pub session_succeeds : (place session : ℕ) (answer : Reply) (out : List ℕ) → out ≡ rendered (database_name place) session answer → ¬ (ShowsFailure out) → failure_of answer ≡ None
session_succeeds place session answer out written none =
    none_at out answer (failure_of answer) refl
    (λ f is. shows_whole out (place, f, inr (session, written ∙ ap (λ (a : Reply). rendered (database_name place) session a) is))) none

-- nor is the reply to a restart
pub restart_succeeds : (place : ℕ) (answer : Reply) (out : List ℕ) → out ≡ rendered_whole (database_name place) answer → ¬ (ShowsFailure out) → failure_of answer ≡ None
restart_succeeds place answer out written none =
    none_at out answer (failure_of answer) refl
    (λ f is. shows_whole out (place, f, inl (written ∙ ap (λ (a : Reply). rendered_whole (database_name place) a) is))) none
