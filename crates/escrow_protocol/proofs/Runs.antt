-- Runs in which a row breaks a check, each without one of the rules.
use Rattle.std.specs.Prelude.{◌≡◌, ℕ, ℤ, ◌==◌, Bool, true, false, cond, Option, Some, None, option_map, pos, codes, List, [], ◌∷◌, ◌++◌}
use Rattle.std.specs.List.{AllByRecursion}
use Rattle.std.proofs.Common.{inr, refl, sym, ap, subst, arith}
use Rattle.std.proofs.lemmas.Bool.{cond_both}
use Rattle.escrow_num.specs.Decimal.{units_at}
use Rattle.escrow_num.specs.Scale.{unit_at}
use Rattle.escrow_num.specs.declared.session.End.{End}
use Rattle.escrow_num.specs.declared.session.End.TheVariants as end
use Rattle.escrow_num.specs.declared.value.Value.TheVariants as value
use Rattle.escrow_checks.specs.WrittenName.{is_written_name}
use Rattle.escrow_checks.specs.Scales.{factor}
use Rattle.escrow_schema.specs.Rows.{MeetsChecks}
use Rattle.escrow_machine.specs.Transition.{transition_of}
use Rattle.escrow_protocol.specs.Protocol.{Transaction, idle, noting, written, running, holding, Protocol, installed, holds_lock, amounts_in, with_transaction}
use Rattle.escrow_protocol.specs.Step.{Event, grant, write, pass, mark, back, fail, commit, abort, hold, take, release, tell, drop, fold, insert, delete, take_over, serve, stale, crash, ending, May, after, IsRun}
use Rattle.escrow_protocol.specs.Wrong.{postgres_first, dropped_when_dead, answered_first, gone_back, epoch_tested, written_first, epoch_lost, fenced, folded_whole, kept_if_held, noted_once, held_again_first, IsWrongRun}
use Rattle.escrow_protocol.specs.Laws.{EachRuleIsNeeded, EachEventComes}
use Rattle.escrow_protocol.proofs.Example.{row_text, first_row, second_text, second_row, the_table, stocked, plus, reserved, five, minus_four, minus_five, minus_nine, one_is_session, two_is_session, three_is_session, stocked_valid, too_low, still_too_low}
use Rattle.escrow_protocol.proofs.Sound.{with_has}

infixr 5 ◌▸◌
-- the proof that an event may come, and that of the run after it
abbrev ◌▸◌ : {A B : Type 0} → A → B → A × B
◌▸◌ may run = (may, run)

abbrev start : ℤ → Protocol
start z = installed (stocked z).catalog (stocked z).rows

abbrev BreaksCheck : ℤ → Protocol → Type 0
BreaksCheck z s = ¬ (AllByRecursion (MeetsChecks (stocked z).catalog) s.now.rows × AllByRecursion (MeetsChecks (stocked z).catalog) (amounts_in s.now))

-- the transactions once the first owner serves
abbrev first : ℕ → ℕ → Transaction
first epoch session = cond (epoch == 1) idle idle

first_free : (epoch session : ℕ) → holds_lock (first epoch session) ≡ false
first_free epoch session = cond_both (epoch == 1) idle idle (λ x. holds_lock x ≡ false) (λ _. refl) (λ _. refl)

-- no transaction holds a lock if the only one doesn't
not_locked : (x : Transaction) → holds_lock x ≡ false → (epoch session : ℕ) → holds_lock (with_transaction 1 1 x first epoch session) ≡ false
not_locked x free = with_has (λ _ _ y. holds_lock y ≡ false) 1 1 x first free (λ e t _. first_free e t)

-- the only transaction is rolled back
rolled_back : (x : Transaction) → ending x ≡ Some end.Rollback → (b : Bool)
    → option_map (λ (entry : ℕ × End). entry.1) (cond b (Some (1, end.Rollback)) None) ≡ ending (cond b x idle)
rolled_back x is true = sym is
rolled_back x is false = refl

-- also after it has noted
rolled_back_twice : (b : Bool)
    → option_map (λ (entry : ℕ × End). entry.1) (cond b (Some (1, end.Rollback)) None) ≡ ending (cond b (running (reserved 1 1 minus_five ∷ [])) (cond b (written [] (reserved 1 1 minus_five)) (cond b (noting [] (reserved 1 1 minus_five)) idle)))
rolled_back_twice true = refl
rolled_back_twice false = refl

-- a hold holds no lock, and doesn't end
abbrev held : ℕ → ℕ → Transaction
held = with_transaction 1 1 (holding (reserved 1 1 minus_five ∷ [])) (with_transaction 1 1 (running (reserved 1 1 minus_five ∷ [])) (with_transaction 1 1 (written [] (reserved 1 1 minus_five)) (with_transaction 1 1 (noting [] (reserved 1 1 minus_five)) first)))

held_free : (epoch session : ℕ) → holds_lock (held epoch session) ≡ false
held_free =
    let P : ℕ → ℕ → Transaction → Type 0 = λ e t x. ¬ ((e ≡ 1) × (t ≡ 1)) → holds_lock x ≡ false in
    with_has (λ _ _ x. holds_lock x ≡ false) 1 1 (holding (reserved 1 1 minus_five ∷ [])) _ refl (λ e t other.
    with_has P 1 1 (running (reserved 1 1 minus_five ∷ [])) _ (λ not. absurd (not (refl, refl))) (λ e t _.
    with_has P 1 1 (written [] (reserved 1 1 minus_five)) _ (λ not. absurd (not (refl, refl))) (λ e t _.
    with_has P 1 1 (noting [] (reserved 1 1 minus_five)) first (λ _. refl) (λ x y _ _. first_free x y) e t) e t) e t other)

none_ends : (b : Bool)
    → None ≡ ending (cond b (holding (reserved 1 1 minus_five ∷ [])) (cond b (running (reserved 1 1 minus_five ∷ [])) (cond b (written [] (reserved 1 1 minus_five)) (cond b (noting [] (reserved 1 1 minus_five)) idle))))
none_ends true = refl
none_ends false = refl

-- a rise that is told before it commits allows a fall
abbrev early_steps : List (Option Event)
early_steps =
    Some (take_over 1) ∷ Some (serve []) ∷ Some (grant 1 (plus five) (reserved 1 1 five) []) ∷ Some (write 1 1 [] (reserved 1 1 five))
    ∷ Some (pass 1 1 [] (reserved 1 1 five)) ∷ None ∷ Some (grant 2 (plus minus_five) (reserved 2 2 minus_five) [])
    ∷ Some (write 1 2 [] (reserved 2 2 minus_five)) ∷ Some (pass 1 2 [] (reserved 2 2 minus_five))
    ∷ Some (commit 1 2 ((reserved 2 2 minus_five) ∷ [])) ∷ []

early_run : (s : Protocol) × IsWrongRun postgres_first (start minus_nine) early_steps s × BreaksCheck minus_nine s
unfolding transition_of is_written_name factor units_at unit_at
early_run =
    let run : IsWrongRun postgres_first (start minus_nine) early_steps _ =
    record { somebody = omega arith; new = λ e. absurd (omega (arith, e)); unused = λ session. refl }
    ▸ (omega arith, λ e. absurd (omega (arith, e)), λ epoch session. refl, λ session. refl)
    ▸ (record { somebody = omega arith; loaded = refl }, one_is_session, refl, refl, refl) ▸ refl ▸ (refl, refl, omega arith)
    ▸ (
      _,
      (1, ((reserved 1 1 five) ∷ []), record { somebody = omega arith; loaded = refl }, refl, refl),
      (record { somebody = omega arith; loaded = refl }, two_is_session, refl, refl, refl) ▸ refl ▸ (refl, refl, omega arith) ▸ refl ▸ refl,
    ) in
    (_, run, λ met. too_low met.1)

-- a fall that is dropped though it may commit is granted to another transaction too
abbrev dropped_steps : List (Option Event)
dropped_steps =
    Some (take_over 1) ∷ Some (serve []) ∷ Some (grant 1 (plus minus_five) (reserved 1 1 minus_five) [])
    ∷ Some (write 1 1 [] (reserved 1 1 minus_five)) ∷ Some (pass 1 1 [] (reserved 1 1 minus_five)) ∷ None
    ∷ Some (grant 2 (plus minus_five) (reserved 2 2 minus_five) []) ∷ Some (write 1 2 [] (reserved 2 2 minus_five))
    ∷ Some (pass 1 2 [] (reserved 2 2 minus_five)) ∷ Some (commit 1 2 ((reserved 2 2 minus_five) ∷ []))
    ∷ Some (commit 1 1 ((reserved 1 1 minus_five) ∷ [])) ∷ []

dropped_run : (s : Protocol) × IsWrongRun dropped_when_dead (start minus_four) dropped_steps s × BreaksCheck minus_four s
unfolding transition_of is_written_name factor units_at unit_at
dropped_run =
    let run : IsWrongRun dropped_when_dead (start minus_four) dropped_steps _ =
    record { somebody = omega arith; new = λ e. absurd (omega (arith, e)); unused = λ session. refl }
    ▸ (omega arith, λ e. absurd (omega (arith, e)), λ epoch session. refl, λ session. refl)
    ▸ (record { somebody = omega arith; loaded = refl }, one_is_session, refl, refl, refl) ▸ refl ▸ (refl, refl, omega arith)
    ▸ (
      _,
      (1, ((reserved 1 1 minus_five) ∷ []), record { somebody = omega arith; loaded = refl }, refl, refl),
      (record { somebody = omega arith; loaded = refl }, two_is_session, refl, refl, refl) ▸ refl ▸ (refl, refl, omega arith) ▸ refl ▸ refl ▸ refl,
    ) in
    (_, run, λ met. still_too_low met.1)

-- a fall commits whose note wasn't answered, and it counts as rolled back
abbrev unanswered_steps : List (Option Event)
unanswered_steps =
    Some (take_over 1) ∷ Some (serve []) ∷ Some (grant 1 (plus minus_five) (reserved 1 1 minus_five) [])
    ∷ Some (write 1 1 [] (reserved 1 1 minus_five)) ∷ None ∷ Some (drop 1) ∷ Some (grant 2 (plus minus_five) (reserved 2 2 minus_five) [])
    ∷ Some (write 1 2 [] (reserved 2 2 minus_five)) ∷ Some (pass 1 2 [] (reserved 2 2 minus_five))
    ∷ Some (commit 1 2 ((reserved 2 2 minus_five) ∷ [])) ∷ []

unanswered_run : (s : Protocol) × IsWrongRun answered_first (start minus_four) unanswered_steps s × BreaksCheck minus_four s
unfolding transition_of is_written_name factor units_at unit_at
unanswered_run =
    let run : IsWrongRun answered_first (start minus_four) unanswered_steps _ =
    record { somebody = omega arith; new = λ e. absurd (omega (arith, e)); unused = λ session. refl }
    ▸ (omega arith, λ e. absurd (omega (arith, e)), λ epoch session. refl, λ session. refl)
    ▸ (record { somebody = omega arith; loaded = refl }, one_is_session, refl, refl, refl) ▸ refl
    ▸ (
      _,
      (1, 1, [], (reserved 1 1 minus_five), refl, refl),
      (record { somebody = omega arith; loaded = refl }, refl) ▸ (record { somebody = omega arith; loaded = refl }, two_is_session, refl, refl, refl)
          ▸ refl ▸ (refl, refl, omega arith) ▸ refl ▸ refl,
    ) in
    (_, run, λ met. still_too_low met.1)

-- a rise that was taken back is told as committed, and allows a fall
abbrev unsure_steps : List (Option Event)
unsure_steps =
    Some (take_over 1) ∷ Some (serve []) ∷ Some (grant 1 (plus five) (reserved 1 1 five) []) ∷ Some (write 1 1 [] (reserved 1 1 five))
    ∷ Some (pass 1 1 [] (reserved 1 1 five)) ∷ Some (grant 1 (plus five) (reserved 2 1 five) ((reserved 1 1 five) ∷ []))
    ∷ Some (write 1 1 ((reserved 1 1 five) ∷ []) (reserved 2 1 five)) ∷ Some (pass 1 1 ((reserved 1 1 five) ∷ []) (reserved 2 1 five)) ∷ None
    ∷ Some (commit 1 1 ((reserved 1 1 five) ∷ [])) ∷ Some (tell 1 ((reserved 1 1 five) ∷ []))
    ∷ Some (grant 2 (plus minus_five) (reserved 3 2 minus_five) []) ∷ Some (write 1 2 [] (reserved 3 2 minus_five))
    ∷ Some (pass 1 2 [] (reserved 3 2 minus_five)) ∷ Some (commit 1 2 ((reserved 3 2 minus_five) ∷ []))
    ∷ Some (grant 3 (plus minus_five) (reserved 4 3 minus_five) []) ∷ Some (write 1 3 [] (reserved 4 3 minus_five))
    ∷ Some (pass 1 3 [] (reserved 4 3 minus_five)) ∷ Some (commit 1 3 ((reserved 4 3 minus_five) ∷ [])) ∷ []

unsure_run : (s : Protocol) × IsWrongRun gone_back (start minus_nine) unsure_steps s × BreaksCheck minus_nine s
unfolding transition_of is_written_name factor units_at unit_at
unsure_run =
    let run : IsWrongRun gone_back (start minus_nine) unsure_steps _ =
    record { somebody = omega arith; new = λ e. absurd (omega (arith, e)); unused = λ session. refl }
    ▸ (omega arith, λ e. absurd (omega (arith, e)), λ epoch session. refl, λ session. refl)
    ▸ (record { somebody = omega arith; loaded = refl }, one_is_session, refl, refl, refl) ▸ refl ▸ (refl, refl, omega arith)
    ▸ (record { somebody = omega arith; loaded = refl }, one_is_session, refl, refl, refl) ▸ refl ▸ (refl, refl, omega arith)
    ▸ (
      _,
      (1, ((reserved 1 1 five) ∷ []), ((reserved 2 1 five) ∷ []), refl, refl),
      refl ▸ (record { somebody = omega arith; loaded = refl }, refl)
          ▸ (record { somebody = omega arith; loaded = refl }, two_is_session, refl, refl, refl) ▸ refl ▸ (refl, refl, omega arith) ▸ refl
          ▸ (record { somebody = omega arith; loaded = refl }, three_is_session, refl, refl, refl) ▸ refl ▸ (refl, refl, omega arith) ▸ refl ▸ refl,
    ) in
    (_, run, λ met. too_low met.1)

-- a fall that an earlier owner granted passes under the next one
abbrev untested_steps : List (Option Event)
untested_steps =
    Some (take_over 1) ∷ Some (serve []) ∷ Some (grant 1 (plus minus_five) (reserved 1 1 minus_five) []) ∷ Some (take_over 2)
    ∷ Some (serve ((1, end.Rollback) ∷ [])) ∷ Some (write 1 1 [] (reserved 1 1 minus_five)) ∷ None
    ∷ Some (grant 1 (plus minus_five) (reserved 2 1 minus_five) []) ∷ Some (write 2 1 [] (reserved 2 1 minus_five))
    ∷ Some (pass 2 1 [] (reserved 2 1 minus_five)) ∷ Some (commit 2 1 ((reserved 2 1 minus_five) ∷ []))
    ∷ Some (commit 1 1 ((reserved 1 1 minus_five) ∷ [])) ∷ []

untested_run : (s : Protocol) × IsWrongRun epoch_tested (start minus_four) untested_steps s × BreaksCheck minus_four s
unfolding transition_of is_written_name factor units_at unit_at
untested_run =
    let run : IsWrongRun epoch_tested (start minus_four) untested_steps _ =
    record { somebody = omega arith; new = λ e. absurd (omega (arith, e)); unused = λ session. refl }
    ▸ (omega arith, λ e. absurd (omega (arith, e)), λ epoch session. refl, λ session. refl)
    ▸ (record { somebody = omega arith; loaded = refl }, one_is_session, refl, refl, refl)
    ▸ record { somebody = omega arith; new = λ e. absurd (omega (arith, e)); unused = λ session. refl }
    ▸ (omega arith, λ e. absurd (omega (arith, e)), not_locked (noting [] (reserved 1 1 minus_five)) refl, λ session. rolled_back (noting [] (reserved 1 1 minus_five)) refl (session == 1))
    ▸ refl ▸ (
      _,
      (1, 1, [], (reserved 1 1 minus_five), refl, refl),
      (record { somebody = omega arith; loaded = refl }, one_is_session, refl, refl, refl) ▸ refl ▸ (refl, refl, omega arith) ▸ refl ▸ refl ▸ refl,
    ) in
    (_, run, λ met. still_too_low met.1)

-- a fall is tested when an earlier owner grants it, and written under the next one
abbrev unwritten_steps : List (Option Event)
unwritten_steps =
    Some (take_over 1) ∷ Some (serve []) ∷ Some (grant 1 (plus minus_five) (reserved 1 1 minus_five) []) ∷ Some (take_over 2)
    ∷ Some (serve ((1, end.Rollback) ∷ [])) ∷ None ∷ Some (grant 1 (plus minus_five) (reserved 2 1 minus_five) [])
    ∷ Some (write 2 1 [] (reserved 2 1 minus_five)) ∷ Some (pass 2 1 [] (reserved 2 1 minus_five))
    ∷ Some (commit 2 1 ((reserved 2 1 minus_five) ∷ [])) ∷ Some (commit 1 1 ((reserved 1 1 minus_five) ∷ [])) ∷ []

unwritten_run : (s : Protocol) × IsWrongRun written_first (start minus_four) unwritten_steps s × BreaksCheck minus_four s
unfolding transition_of is_written_name factor units_at unit_at
unwritten_run =
    let run : IsWrongRun written_first (start minus_four) unwritten_steps _ =
    record { somebody = omega arith; new = λ e. absurd (omega (arith, e)); unused = λ session. refl }
    ▸ (omega arith, λ e. absurd (omega (arith, e)), λ epoch session. refl, λ session. refl)
    ▸ (record { somebody = omega arith; loaded = refl }, one_is_session, refl, refl, refl)
    ▸ record { somebody = omega arith; new = λ e. absurd (omega (arith, e)); unused = λ session. refl }
    ▸ (omega arith, λ e. absurd (omega (arith, e)), not_locked (noting [] (reserved 1 1 minus_five)) refl, λ session. rolled_back (noting [] (reserved 1 1 minus_five)) refl (session == 1))
    ▸ (
      _,
      (1, 1, [], (reserved 1 1 minus_five), refl, refl),
      (record { somebody = omega arith; loaded = refl }, one_is_session, refl, refl, refl) ▸ refl ▸ (refl, refl, omega arith) ▸ refl ▸ refl ▸ refl,
    ) in
    (_, run, λ met. still_too_low met.1)

-- a crash loses a rise, and a fall that was granted on it passes
abbrev kept_steps : List (Option Event)
kept_steps =
    Some (take_over 1) ∷ Some (serve []) ∷ Some (grant 1 (plus five) (reserved 1 1 five) []) ∷ Some (write 1 1 [] (reserved 1 1 five))
    ∷ Some (pass 1 1 [] (reserved 1 1 five)) ∷ Some (commit 1 1 ((reserved 1 1 five) ∷ [])) ∷ Some (tell 1 ((reserved 1 1 five) ∷ [])) ∷ None
    ∷ Some (grant 2 (plus minus_five) (reserved 2 2 minus_five) []) ∷ Some (write 1 2 [] (reserved 2 2 minus_five))
    ∷ Some (pass 1 2 [] (reserved 2 2 minus_five)) ∷ Some (commit 1 2 ((reserved 2 2 minus_five) ∷ [])) ∷ []

kept_run : (s : Protocol) × IsWrongRun epoch_lost (start minus_nine) kept_steps s × BreaksCheck minus_nine s
unfolding transition_of is_written_name factor units_at unit_at
kept_run =
    let run : IsWrongRun epoch_lost (start minus_nine) kept_steps _ =
    record { somebody = omega arith; new = λ e. absurd (omega (arith, e)); unused = λ session. refl }
    ▸ (omega arith, λ e. absurd (omega (arith, e)), λ epoch session. refl, λ session. refl)
    ▸ (record { somebody = omega arith; loaded = refl }, one_is_session, refl, refl, refl) ▸ refl ▸ (refl, refl, omega arith) ▸ refl
    ▸ (record { somebody = omega arith; loaded = refl }, refl) ▸ (
      _,
      (_ ∷ [], _, _, refl, refl),
      (record { somebody = omega arith; loaded = refl }, two_is_session, refl, refl, refl) ▸ refl ▸ (refl, refl, omega arith) ▸ refl ▸ refl,
    ) in
    (_, run, λ met. too_low met.1)

-- a fall commits behind the load of the next owner
abbrev unfenced_steps : List (Option Event)
unfenced_steps =
    Some (take_over 1) ∷ Some (serve []) ∷ Some (grant 1 (plus minus_five) (reserved 1 1 minus_five) [])
    ∷ Some (write 1 1 [] (reserved 1 1 minus_five)) ∷ Some (pass 1 1 [] (reserved 1 1 minus_five)) ∷ Some (take_over 2) ∷ None
    ∷ Some (grant 1 (plus minus_five) (reserved 2 1 minus_five) []) ∷ Some (write 2 1 [] (reserved 2 1 minus_five))
    ∷ Some (pass 2 1 [] (reserved 2 1 minus_five)) ∷ Some (commit 2 1 ((reserved 2 1 minus_five) ∷ []))
    ∷ Some (commit 1 1 ((reserved 1 1 minus_five) ∷ [])) ∷ []

unfenced_run : (s : Protocol) × IsWrongRun fenced (start minus_four) unfenced_steps s × BreaksCheck minus_four s
unfolding transition_of is_written_name factor units_at unit_at
unfenced_run =
    let run : IsWrongRun fenced (start minus_four) unfenced_steps _ =
    record { somebody = omega arith; new = λ e. absurd (omega (arith, e)); unused = λ session. refl }
    ▸ (omega arith, λ e. absurd (omega (arith, e)), λ epoch session. refl, λ session. refl)
    ▸ (record { somebody = omega arith; loaded = refl }, one_is_session, refl, refl, refl) ▸ refl ▸ (refl, refl, omega arith)
    ▸ record { somebody = omega arith; new = λ e. absurd (omega (arith, e)); unused = λ session. refl }
    ▸ (
      _,
      ((1, end.Rollback) ∷ [], omega arith, λ e. absurd (omega (arith, e)), λ session. rolled_back_twice (session == 1), refl),
      (record { somebody = omega arith; loaded = refl }, one_is_session, refl, refl, refl) ▸ refl ▸ (refl, refl, omega arith) ▸ refl ▸ refl ▸ refl,
    ) in
    (_, run, λ met. still_too_low met.1)

-- a fold takes a fall without the rise before it
abbrev part_steps : List (Option Event)
part_steps =
    Some (take_over 1) ∷ Some (serve []) ∷ Some (grant 1 (plus five) (reserved 1 1 five) []) ∷ Some (write 1 1 [] (reserved 1 1 five))
    ∷ Some (pass 1 1 [] (reserved 1 1 five)) ∷ Some (commit 1 1 ((reserved 1 1 five) ∷ [])) ∷ Some (tell 1 ((reserved 1 1 five) ∷ []))
    ∷ Some (grant 2 (plus minus_five) (reserved 2 2 minus_five) []) ∷ Some (write 1 2 [] (reserved 2 2 minus_five))
    ∷ Some (pass 1 2 [] (reserved 2 2 minus_five)) ∷ Some (commit 1 2 ((reserved 2 2 minus_five) ∷ [])) ∷ None ∷ []

part_run : (s : Protocol) × IsWrongRun folded_whole (start minus_nine) part_steps s × BreaksCheck minus_nine s
unfolding transition_of is_written_name factor units_at unit_at
part_run =
    let run : IsWrongRun folded_whole (start minus_nine) part_steps _ =
    record { somebody = omega arith; new = λ e. absurd (omega (arith, e)); unused = λ session. refl }
    ▸ (omega arith, λ e. absurd (omega (arith, e)), λ epoch session. refl, λ session. refl)
    ▸ (record { somebody = omega arith; loaded = refl }, one_is_session, refl, refl, refl) ▸ refl ▸ (refl, refl, omega arith) ▸ refl
    ▸ (record { somebody = omega arith; loaded = refl }, refl) ▸ (record { somebody = omega arith; loaded = refl }, two_is_session, refl, refl, refl)
    ▸ refl ▸ (refl, refl, omega arith) ▸ refl ▸ (
      _,
      (((reserved 1 1 five) ∷ []), (reserved 2 2 minus_five), [], refl, refl),
      refl,
    ) in
    (_, run, λ met. too_low met.0)

-- a row is deleted and inserted again with less, and the server goes on with the old one
abbrev replaced_steps : List (Option Event)
replaced_steps =
    Some (take_over 1) ∷ Some (serve []) ∷ None ∷ Some (insert (row_text minus_nine) (first_row minus_nine))
    ∷ Some (grant 1 (plus minus_five) (reserved 1 1 minus_five) []) ∷ Some (write 1 1 [] (reserved 1 1 minus_five))
    ∷ Some (pass 1 1 [] (reserved 1 1 minus_five)) ∷ Some (commit 1 1 ((reserved 1 1 minus_five) ∷ [])) ∷ []

replaced_run : (s : Protocol) × IsWrongRun kept_if_held (start minus_four) replaced_steps s × BreaksCheck minus_four s
unfolding transition_of is_written_name factor units_at unit_at
replaced_run =
    let run : IsWrongRun kept_if_held (start minus_four) replaced_steps _ =
    record { somebody = omega arith; new = λ e. absurd (omega (arith, e)); unused = λ session. refl }
    ▸ (omega arith, λ e. absurd (omega (arith, e)), λ epoch session. refl, λ session. refl)
    ▸ (
      _,
      (record { table = codes "T"; key = value.Number (pos 1) }, refl),
      record { table = the_table; named = refl; made = refl; room = omega arith; new = refl; meets = refl }
          ▸ (record { somebody = omega arith; loaded = refl }, one_is_session, refl, refl, refl) ▸ refl ▸ (refl, refl, omega arith) ▸ refl ▸ refl,
    ) in
    (_, run, λ met. still_too_low met.1)

-- a fall is noted twice
abbrev twice_steps : List (Option Event)
twice_steps =
    Some (take_over 1) ∷ Some (serve []) ∷ Some (grant 1 (plus minus_five) (reserved 1 1 minus_five) [])
    ∷ Some (write 1 1 [] (reserved 1 1 minus_five)) ∷ Some (pass 1 1 [] (reserved 1 1 minus_five)) ∷ None
    ∷ Some (commit 1 1 ((reserved 1 1 minus_five) ∷ (reserved 1 1 minus_five) ∷ [])) ∷ []

twice_run : (s : Protocol) × IsWrongRun noted_once (start minus_four) twice_steps s × BreaksCheck minus_four s
unfolding transition_of is_written_name factor units_at unit_at
twice_run =
    let run : IsWrongRun noted_once (start minus_four) twice_steps _ =
    record { somebody = omega arith; new = λ e. absurd (omega (arith, e)); unused = λ session. refl }
    ▸ (omega arith, λ e. absurd (omega (arith, e)), λ epoch session. refl, λ session. refl)
    ▸ (record { somebody = omega arith; loaded = refl }, one_is_session, refl, refl, refl) ▸ refl ▸ (refl, refl, omega arith)
    ▸ (
      _,
      (1, 1, [], (reserved 1 1 minus_five), refl, refl),
      refl ▸ refl,
    ) in
    (_, run, λ met. still_too_low met.1)

-- a fall that is held is granted by the next owner too
abbrev forgotten_steps : List (Option Event)
forgotten_steps =
    Some (take_over 1) ∷ Some (serve []) ∷ Some (grant 1 (plus minus_five) (reserved 1 1 minus_five) [])
    ∷ Some (write 1 1 [] (reserved 1 1 minus_five)) ∷ Some (pass 1 1 [] (reserved 1 1 minus_five)) ∷ Some (hold 1 1 ((reserved 1 1 minus_five) ∷ []))
    ∷ Some (take_over 2) ∷ None ∷ Some (grant 1 (plus minus_five) (reserved 1 1 minus_five) []) ∷ Some (write 2 1 [] (reserved 1 1 minus_five))
    ∷ Some (pass 2 1 [] (reserved 1 1 minus_five)) ∷ Some (commit 2 1 ((reserved 1 1 minus_five) ∷ []))
    ∷ Some (take 1 1 ((reserved 1 1 minus_five) ∷ [])) ∷ []

forgotten_run : (s : Protocol) × IsWrongRun held_again_first (start minus_four) forgotten_steps s × BreaksCheck minus_four s
unfolding transition_of is_written_name factor units_at unit_at
forgotten_run =
    let run : IsWrongRun held_again_first (start minus_four) forgotten_steps _ =
    record { somebody = omega arith; new = λ e. absurd (omega (arith, e)); unused = λ session. refl }
    ▸ (omega arith, λ e. absurd (omega (arith, e)), λ epoch session. refl, λ session. refl)
    ▸ (record { somebody = omega arith; loaded = refl }, one_is_session, refl, refl, refl) ▸ refl ▸ (refl, refl, omega arith) ▸ refl
    ▸ record { somebody = omega arith; new = λ e. absurd (omega (arith, e)); unused = λ session. refl }
    ▸ (
      _,
      ([], (omega arith, λ e. absurd (omega (arith, e)), held_free, λ session. none_ends (session == 1)), refl),
      (record { somebody = omega arith; loaded = refl }, one_is_session, refl, refl, refl) ▸ refl ▸ (refl, refl, omega arith) ▸ refl ▸ refl ▸ refl,
    ) in
    (_, run, λ met. still_too_low met.1)

pub each_rule_is_needed : EachRuleIsNeeded
each_rule_is_needed postgres_first = ((stocked minus_nine).catalog, (stocked minus_nine).rows, early_steps, early_run.0, stocked_valid minus_nine, early_run.1, early_run.2)
each_rule_is_needed dropped_when_dead = ((stocked minus_four).catalog, (stocked minus_four).rows, dropped_steps, dropped_run.0, stocked_valid minus_four, dropped_run.1, dropped_run.2)
each_rule_is_needed answered_first = ((stocked minus_four).catalog, (stocked minus_four).rows, unanswered_steps, unanswered_run.0, stocked_valid minus_four, unanswered_run.1, unanswered_run.2)
each_rule_is_needed gone_back = ((stocked minus_nine).catalog, (stocked minus_nine).rows, unsure_steps, unsure_run.0, stocked_valid minus_nine, unsure_run.1, unsure_run.2)
each_rule_is_needed epoch_tested = ((stocked minus_four).catalog, (stocked minus_four).rows, untested_steps, untested_run.0, stocked_valid minus_four, untested_run.1, untested_run.2)
each_rule_is_needed written_first = ((stocked minus_four).catalog, (stocked minus_four).rows, unwritten_steps, unwritten_run.0, stocked_valid minus_four, unwritten_run.1, unwritten_run.2)
each_rule_is_needed epoch_lost = ((stocked minus_nine).catalog, (stocked minus_nine).rows, kept_steps, kept_run.0, stocked_valid minus_nine, kept_run.1, kept_run.2)
each_rule_is_needed fenced = ((stocked minus_four).catalog, (stocked minus_four).rows, unfenced_steps, unfenced_run.0, stocked_valid minus_four, unfenced_run.1, unfenced_run.2)
each_rule_is_needed folded_whole = ((stocked minus_nine).catalog, (stocked minus_nine).rows, part_steps, part_run.0, stocked_valid minus_nine, part_run.1, part_run.2)
each_rule_is_needed kept_if_held = ((stocked minus_four).catalog, (stocked minus_four).rows, replaced_steps, replaced_run.0, stocked_valid minus_four, replaced_run.1, replaced_run.2)
each_rule_is_needed noted_once = ((stocked minus_four).catalog, (stocked minus_four).rows, twice_steps, twice_run.0, stocked_valid minus_four, twice_run.1, twice_run.2)
each_rule_is_needed held_again_first = ((stocked minus_four).catalog, (stocked minus_four).rows, forgotten_steps, forgotten_run.0, stocked_valid minus_four, forgotten_run.1, forgotten_run.2)

-- EACH EVENT

abbrev calm_events : List Event
calm_events =
    take_over 1 ∷ serve [] ∷ mark 1 (codes "A") ∷ grant 1 (plus five) (reserved 1 1 five) [] ∷ write 1 1 [] (reserved 1 1 five)
    ∷ pass 1 1 [] (reserved 1 1 five) ∷ mark 1 (codes "B") ∷ grant 1 (plus minus_five) (reserved 2 1 minus_five) ((reserved 1 1 five) ∷ [])
    ∷ write 1 1 ((reserved 1 1 five) ∷ []) (reserved 2 1 minus_five) ∷ pass 1 1 ((reserved 1 1 five) ∷ []) (reserved 2 1 minus_five)
    ∷ back 1 (codes "B") ((reserved 1 1 five) ∷ []) ((reserved 2 1 minus_five) ∷ [])
    ∷ grant 1 (plus minus_five) (reserved 3 1 minus_five) ((reserved 1 1 five) ∷ []) ∷ write 1 1 ((reserved 1 1 five) ∷ []) (reserved 3 1 minus_five)
    ∷ fail 1 (codes "B") ((reserved 1 1 five) ∷ []) (reserved 3 1 minus_five) ∷ commit 1 1 ((reserved 1 1 five) ∷ [])
    ∷ tell 1 ((reserved 1 1 five) ∷ []) ∷ fold (record { table = codes "T"; key = value.Number (pos 1) })
    ∷ grant 2 (plus minus_five) (reserved 4 2 minus_five) [] ∷ write 1 2 [] (reserved 4 2 minus_five) ∷ pass 1 2 [] (reserved 4 2 minus_five)
    ∷ hold 1 2 ((reserved 4 2 minus_five) ∷ []) ∷ take 1 2 ((reserved 4 2 minus_five) ∷ []) ∷ tell 2 ((reserved 4 2 minus_five) ∷ [])
    ∷ grant 3 (plus five) (reserved 5 3 five) [] ∷ write 1 3 [] (reserved 5 3 five) ∷ pass 1 3 [] (reserved 5 3 five)
    ∷ hold 1 3 ((reserved 5 3 five) ∷ []) ∷ release 1 3 ((reserved 5 3 five) ∷ []) ∷ drop 3 ∷ grant 1 (plus five) (reserved 6 1 five) []
    ∷ write 1 1 [] (reserved 6 1 five) ∷ pass 1 1 [] (reserved 6 1 five) ∷ abort 1 1 ∷ stale 5 1 (reserved 6 1 five) [] ∷ insert second_text second_row
    ∷ delete (record { table = codes "T"; key = value.Number (pos 2) }) ∷ []

calm_run : (s : Protocol) × IsRun (start minus_four) calm_events s
unfolding transition_of is_written_name factor units_at unit_at
calm_run =
    let run : IsRun (start minus_four) calm_events _ =
    record { somebody = omega arith; new = λ e. absurd (omega (arith, e)); unused = λ session. refl }
    ▸ (omega arith, λ e. absurd (omega (arith, e)), λ epoch session. refl, λ session. refl)
    ▸ (record { somebody = omega arith; loaded = refl }, one_is_session)
    ▸ (record { somebody = omega arith; loaded = refl }, one_is_session, refl, refl, refl) ▸ refl ▸ (refl, refl, omega arith)
    ▸ (record { somebody = omega arith; loaded = refl }, one_is_session)
    ▸ (record { somebody = omega arith; loaded = refl }, one_is_session, refl, refl, refl) ▸ refl ▸ (refl, refl, omega arith)
    ▸ (record { somebody = omega arith; loaded = refl }, one_is_session, refl, refl)
    ▸ (record { somebody = omega arith; loaded = refl }, one_is_session, refl, refl, refl) ▸ refl
    ▸ (record { somebody = omega arith; loaded = refl }, one_is_session, inr refl, refl) ▸ refl
    ▸ (record { somebody = omega arith; loaded = refl }, refl) ▸ tt
    ▸ (record { somebody = omega arith; loaded = refl }, two_is_session, refl, refl, refl) ▸ refl ▸ (refl, refl, omega arith) ▸ refl ▸ refl
    ▸ (record { somebody = omega arith; loaded = refl }, refl)
    ▸ (record { somebody = omega arith; loaded = refl }, three_is_session, refl, refl, refl) ▸ refl ▸ (refl, refl, omega arith) ▸ refl ▸ refl
    ▸ (record { somebody = omega arith; loaded = refl }, refl) ▸ (record { somebody = omega arith; loaded = refl }, one_is_session, refl, refl, refl)
    ▸ refl ▸ (refl, refl, omega arith) ▸ refl ▸ (λ e. absurd (omega (arith, e)), refl)
    ▸ record { table = the_table; named = refl; made = refl; room = omega arith; new = refl; meets = refl } ▸ (refl, refl ▸ tt) ▸ refl in
    (_, run)

-- and then PostgreSQL crashes, and loses nothing
abbrev last : Event
last = crash [] calm_run.0.now calm_run.0.before (λ _ _. false)

with_last : (s : Protocol) (events : List Event) (new : Protocol) (event : Event) → IsRun s events new → May new event → IsRun s (events ++ event ∷ []) (after new event)
with_last s [] new event run may = (subst (λ (t : Protocol). May t event) run may, ap (λ (t : Protocol). after t event) run)
with_last s (first ∷ events) new event run may = (run.0, with_last (after s first) events new event run.1 may)

pub each_event_comes : EachEventComes
each_event_comes = (
  (stocked minus_four).catalog,
  (stocked minus_four).rows,
  calm_events ++ last ∷ [],
  after calm_run.0 last,
  stocked_valid minus_four,
  with_last (start minus_four) calm_events calm_run.0 last calm_run.1 refl,
  refl ▸ refl ▸ refl ▸ refl ▸ refl ▸ refl ▸ refl ▸ refl ▸ refl ▸ refl ▸ refl ▸ refl ▸ refl ▸ refl ▸ refl ▸ refl ▸ refl ▸ refl ▸ refl ▸ refl ▸ tt,
)
