use Rattle.std.proofs.Common.{◌≡◌, ◌+◌, ◌++◌, length, arith, drop, subst, sym, ◌∙◌}
use Rattle.std.specs.Prelude.{option_to_list}
use Rattle.escrow_schema.specs.Definition.{key_names, keys_of}
use Rattle.escrow_schema.proofs.KeyLemmas.{first_key, more_keys, no_key, one_known}
use Rattle.escrow_schema.proofs.items.key_name.Goals as goal
use Rattle.escrow_schema.proofs.items.key_name.Goals.{then-keys-gt1-via-then-keys-gt1, then-keys-gt1-via-else-keys-gt1+then-is_some}

pub loop-item-preserved-then-keys-eq0 : goal.loop-item-preserved-then-keys-eq0
loop-item-preserved-then-keys-eq0 c =
    no_key c.args.items.now c.loop-item.item-index c.item-item.result (option_to_list c.loop-item.key) (omega arith) c.item-item.is
    (sym c.count_keys-keys.ensures ∙ c.if-keys-eq0.true) c.loop-item.invariant

pub returns-then-keys-gt1 : goal.returns-then-keys-gt1
returns-then-keys-gt1 c =
    more_keys c.args.items.now c.loop-item.item-index c.item-item.result (option_to_list c.loop-item.key) (omega arith) c.item-item.is
    (elim c.then-keys-gt1.branch [
      | then-keys-gt1-via-then-keys-gt1 w ↦ omega arith
      | then-keys-gt1-via-else-keys-gt1+then-is_some w ↦ (let one = one_known c.loop-item.key (sym w.is_some.ensures ∙ w.if-is_some.true) in omega arith)
    ])
    c.loop-item.invariant

pub loop-item-preserved : goal.loop-item-preserved
loop-item-preserved c =
    let one : length (keys_of c.item-item.result) ≡ 1 = omega arith in
    let none = sym c.is_some.ensures ∙ c.if-is_some.false in
    let whole = first_key c.args.items.now c.loop-item.item-index c.item-item.result c.loop-item.key (omega arith) c.item-item.is one none c.loop-item.invariant in
    subst (λ o. option_to_list o ++ key_names (drop (c.loop-item.item-index + 1) c.args.items.now) ≡ key_names c.args.items.now) (sym (c.name_of-key.ensures one)) whole
