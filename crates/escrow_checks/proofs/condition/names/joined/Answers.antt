use Rattle.std.proofs.Common.{◌≡◌, ℕ, ◌+◌, ◌-◌, ◌<◌, List, ◌++◌, length, take, false, Option, Some, None, refl, ap, ◌∙◌, sym, subst, arith, length-append}
use Rattle.std.specs.Prelude.{if◌then◌else◌}
use borrow.Rule.Slice.PartMut.{put_mid}
use Rattle.std.proofs.Math.Seq.{take-append_seam}
use Rattle.std.proofs.lemmas.Slice.{take-put_mid}
use Rattle.escrow_num.specs.Name.{IsName}
use Rattle.escrow_num.specs.declared.name.TheConstants.Name.{MAX_WRITTEN}
use Rattle.escrow_checks.specs.WrittenName.{is_written_name}
use Rattle.escrow_checks.proofs.NameLemmas.{unwritten}
use Rattle.escrow_checks.proofs.condition.names.joined.Goals as goal
use Rattle.escrow_checks.proofs.condition.names.joined.Goals.{then-front-gt30-via-then-front-gt30, then-front-gt30-via-else-front-gt30+then-front-back}

pub returns-then-front-gt30 : goal.returns-then-front-gt30
returns-then-front-gt30 c =
    let name : List ℕ = c.args.front.now ++ c.args.back.now in
    let long : MAX_WRITTEN < length name = elim c.then-front-gt30.branch [
      | then-front-gt30-via-then-front-gt30 w ↦ omega (arith, length-append c.args.front.now c.args.back.now, w.if-front-gt30.true)
      | then-front-gt30-via-else-front-gt30+then-front-back w ↦ omega (arith, length-append c.args.front.now c.args.back.now, w.if-front-gt30.false, w.if-front-back.true)
    ] in
    rw (unwritten name (λ h. absurd (omega (arith, h.0)))) refl

-- after the two copies, the array begins with the two texts joined
both_copied : (front back zeros front' back' : List ℕ) (k : ℕ) → front' ≡ front → back' ≡ back
    → take (length front + length back) (put_mid (length front) k (front' ++ zeros) back') ≡ front ++ back
both_copied front back zeros front' back' k is is' =
    rw (is, is') (take-put_mid (length front) k (front ++ zeros) back (length front + length back) refl (omega (arith, length-append front zeros))
    ∙ ap (λ (text : List ℕ). text ++ back) (take-append_seam front zeros))

if_written : List ℕ → Option (List ℕ)
if_written name = if is_written_name name then Some name else None

if_unwritten : (name : List ℕ) → is_written_name name ≡ false → if_written name ≡ None
unfolding if_written
if_unwritten name e = rw e refl

pub returns-in_err-new : goal.returns-in_err-new
unfolding if_written
returns-in_err-new c =
    let name : List ℕ = c.args.front.now ++ c.args.back.now in
    let not : ¬ IsName name = λ is.
    c.in_err-new.ensures (subst (λ (text : List ℕ). IsName text) (sym (both_copied c.args.front.now c.args.back.now _ c.copy_from_slice.new.self c.copy_from_slice-2.new.self (length c.args.front.now + length c.args.back.now - length c.args.front.now) c.copy_from_slice.ensures.after c.copy_from_slice-2.ensures.after)) is)
    in
    c.from_residual.ensures ∙ sym (if_unwritten name (unwritten name (λ h. not h.1)))

pub returns : goal.returns
unfolding if_written
returns c =
    let text = both_copied c.args.front.now c.args.back.now _ c.copy_from_slice.new.self c.copy_from_slice-2.new.self (length c.args.front.now + length c.args.back.now - length c.args.front.now) c.copy_from_slice.ensures.after c.copy_from_slice-2.ensures.after in
    c.written.ensures ∙ ap if_written (c.in_ok-new.ensures.1 ∙ text)
