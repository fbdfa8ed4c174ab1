-- What a crash leaves within a plan of ends.
use Rattle.std.specs.Prelude.{◌≡◌, ℕ, ◌+◌, ◌<◌, IsTrue, List, length, take}
use Rattle.std.proofs.Common.{refl, sym, subst, get_or, ◌∙◌}
use Rattle.sqlite.specs.State.{State as Store, HasCleanDisk, Survives}
use Rattle.sqlite.proofs.StateLemmas.{survives_then}
use Rattle.escrow_num.specs.declared.session.End.{End}
use Rattle.escrow_machine.specs.Settle.{settled, after_end, after_ends}
use Rattle.escrow_machine.specs.State.{State}
use Rattle.escrow_machine.proofs.Settling.{ends_next, settled_is_the_run}
use Rattle.escrow_core.specs.Serves.{AreAfterEnds, AreHeldOf}
use Rattle.escrow_core.specs.Serving.{AreAfterEnd}
use Rattle.escrow_rows.specs.Answers.{IsUsable}
use Rattle.escrow_core.proofs.Serving.{still_clean}

-- after one more transaction ends, a crash leaves what it could leave before, or the state with one more entry
pub ends_survive : (a b c : Store) (plan : List (ℕ × End)) (i : ℕ) (entry : ℕ × End) (s mid : State) → i < length plan → entry ≡ get_or plan i entry
    → (HasCleanDisk b → mid ≡ after_ends s (take i plan)) → (IsUsable b → IsUsable a)
    → Survives a b (λ trees. IsTrue a.is_open × AreAfterEnds plan s trees)
    → Survives b c (λ trees. IsTrue b.is_open × AreAfterEnd mid entry.0 entry.1 trees)
    → Survives a c (λ trees. IsTrue a.is_open × AreAfterEnds plan s trees)
ends_survive a b c plan i entry s mid below is_entry before usable one two =
    survives_then a b c (λ trees. IsTrue a.is_open × AreAfterEnds plan s trees) (λ trees. IsTrue b.is_open × AreAfterEnd mid entry.0 entry.1 trees) (λ trees. IsTrue a.is_open × AreAfterEnds plan s trees)
    (λ clean trees h. h)
    (λ clean trees k.
    let mid_clean = still_clean b c _ two clean in
    let after : after_end mid entry.0 entry.1 ≡ settled (take (i + 1) plan) s =
    ends_next plan i entry s mid (after_end mid entry.0 entry.1) below is_entry (before mid_clean) refl ∙ sym (settled_is_the_run s (take (i + 1) plan)) in
    ((usable (mid_clean, k.0)).1, (i + 1, subst (λ (t : State). AreHeldOf t trees) after k.1)))
    one two
