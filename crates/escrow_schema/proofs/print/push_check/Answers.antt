use Rattle.std.proofs.Common.{◌++◌, codes, string_bytes}
use Rattle.escrow_schema.specs.Print.{check_words, condition_words}
use Rattle.escrow_schema.proofs.PrintLemmas.{added, four_texts}
use Rattle.escrow_schema.proofs.print.push_check.Goals as goal

pub returns : goal.returns
unfolding check_words
returns c =
    let check = c.args.check.now in
    let named = codes "CONSTRAINT " ++ check.name in
    let condition = condition_words c.args.names.now c.args.scales.now check in
    let old = string_bytes c.args.text.now in
    let last = string_bytes c.push_condition.new.text in
    added c.push-2.result (string_bytes c.push-2.new.text) last old (codes ")") (named ++ (codes " CHECK (" ++ (condition ++ codes ")"))) c.push-2.ensures
    (four_texts old named (codes " CHECK (") condition (codes ")") (string_bytes c.push_named.new.text) (string_bytes c.push.new.text) last
    c.in_ok-push_named.ensures c.in_ok-push.ensures c.in_ok-push_condition.ensures)
