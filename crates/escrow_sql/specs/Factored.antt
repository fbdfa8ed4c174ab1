-- Believed for one law alone (`FactoringKeepsSentences`): the grammar of requests with SHOW, which begins four of its
-- alternatives, moved before them.
use Rattle.std.specs.Prelude.{Some, None}
use Rattle.escrow_statement.specs.declared.statement.Request.{Request}
use Rattle.escrow_statement.specs.declared.statement.Request.TheVariants as requests
use Rattle.escrow_statement.specs.declared.statement.Statement.TheVariants as statements
use Rattle.escrow_sql.specs.declared.token.Symbol.TheVariants as symbols
use Rattle.escrow_statement.specs.declared.word.Word.TheVariants as words
use Rattle.escrow_sql.specs.Grammar.{Grammar}
use Rattle.escrow_sql.specs.Statement.{word, symbol, ◌then◌, before, ◌or◌, optional, meaning, name, row, table_statement, row_statement, ending}

-- SHOW ( TABLE name | JOURNAL [ name ] | BOUNDS row | STATISTICS )
unfoldable pub factored_show : Grammar Request
factored_show =
    word words.Show
    then (meaning requests.Statement (meaning statements.ShowTable (word words.Table then name))
    or meaning requests.Statement
    (meaning statements.ShowJournal (word words.Journal then optional None (meaning (λ n. Some n) name)))
    or meaning requests.Statement (meaning statements.ShowBounds (word words.Bounds then row))
    or meaning (λ k. requests.Statistics) (word words.Statistics))

unfoldable pub factored_body : Grammar Request
factored_body =
    meaning requests.Statement table_statement
    or meaning requests.Statement row_statement
    or meaning requests.Statement ending
    or factored_show

unfoldable pub factored_request : Grammar Request
factored_request = before factored_body (optional tt (symbol symbols.Semicolon))
