use Rattle.std.specs.Prelude.{◌<◌}
use Rattle.std.proofs.Common.{sym, ◌∙◌, get_or}
use Rattle.std.proofs.lemmas.Bool.{ltb-true}
use Rattle.escrow_script.proofs.LineLemmas.{at_none, if_none, if_some, none_begins, none_read, read_among}
use Rattle.escrow_script.proofs.line.session_of.Goals as goal

pub returns-then-not-begins_above_zero-clause-none : goal.returns-then-not-begins_above_zero-clause-none
returns-then-not-begins_above_zero-clause-none c =
    none_begins c.args.sessions c.args.text.now c.begins_above_zero.result (rw c.as_bytes-digits.ensures.value at c.begins_above_zero.ensures) c.if-not-begins_above_zero.true

pub returns-in_err-number-clause-none : goal.returns-in_err-number-clause-none
returns-in_err-number-clause-none c =
    at_none _ c.from_residual.result c.from_residual.ensures (none_read c.args.sessions c.args.text.now (rw c.as_bytes-digits.ensures.value at c.in_err-number.ensures))

pub returns-clause-some : goal.returns-clause-some
returns-clause-some c =
    let begins = rw c.as_bytes-digits.ensures.value at c.begins_above_zero.ensures in
    let above : 48 < get_or c.args.text.now 0 0 = ltb-true 48 (get_or c.args.text.now 0 0) (sym begins ∙ c.if-not-begins_above_zero.false) in
    let read = rw c.as_bytes-digits.ensures.value at c.in_ok-number.ensures in
    if_some c.session_among.result _ _ (read_among c.args.sessions c.in_ok-number.number c.args.text.now c.session_among.result read.0 read.1 above c.session_among.ensures)

pub returns-clause-none : goal.returns-clause-none
returns-clause-none c =
    let begins = rw c.as_bytes-digits.ensures.value at c.begins_above_zero.ensures in
    let above : 48 < get_or c.args.text.now 0 0 = ltb-true 48 (get_or c.args.text.now 0 0) (sym begins ∙ c.if-not-begins_above_zero.false) in
    let read = rw c.as_bytes-digits.ensures.value at c.in_ok-number.ensures in
    if_none c.session_among.result _ _ (read_among c.args.sessions c.in_ok-number.number c.args.text.now c.session_among.result read.0 read.1 above c.session_among.ensures)
