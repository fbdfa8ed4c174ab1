use Rattle.std.proofs.Common.{◌≡◌, ◌++◌, ◌∙◌, ap, codes, map, string_bytes}
use Rattle.escrow_statement.specs.Joined.{joined}
use Rattle.escrow_schema.specs.Column.{names_of, reservables, scales_of}
use Rattle.escrow_schema.specs.Print.{check_words, columns_words, declared_checks, table_words}
use Rattle.escrow_schema.proofs.PrintLemmas.{added, four_texts}
use Rattle.escrow_schema.proofs.print.push_table.Goals as goal

pub returns : goal.returns
unfolding table_words
returns c =
    let table = c.args.table.now in
    let named = codes "CREATE TABLE " ++ table.name in
    let items = joined (columns_words table.columns 0 table.key ++ map (check_words (names_of (reservables table.columns)) (scales_of (reservables table.columns))) (declared_checks table)) in
    let old = string_bytes c.args.text.now in
    let last = string_bytes c.push_items.new.text in
    let names : c.as_slice-3.result.now ≡ names_of (reservables table.columns) =
    c.as_slice-3.ensures.value ∙ (c.in_ok-names.ensures ∙ ap (λ columns. names_of (reservables columns)) c.as_slice.ensures) in
    let scales : c.as_slice-4.result.now ≡ scales_of (reservables table.columns) =
    c.as_slice-4.ensures.value ∙ (c.in_ok-scales.ensures ∙ ap (λ columns. scales_of (reservables columns)) c.as_slice-2.ensures) in
    added c.push-2.result (string_bytes c.push-2.new.text) last old (codes ")") (named ++ (codes " (" ++ (items ++ codes ")"))) c.push-2.ensures
    (four_texts old named (codes " (") items (codes ")") (string_bytes c.push_named.new.text) (string_bytes c.push.new.text) last
    c.in_ok-push_named.ensures c.in_ok-push.ensures (rw (← names, ← scales) c.in_ok-push_items.ensures))
