use Rattle.std.proofs.Common.{◌≡◌, ◌++◌, List, ℕ, IfOk, ap, ◌∙◌, append_assoc, string_bytes, codes}
use Rattle.std.proofs.lemmas.Result.{IfOk-weaker}
use Rattle.escrow_server.specs.Drawing.{line_text}
use Rattle.escrow_script.specs.Line.{database_name}
use Rattle.escrow_server.proofs.drawing.line.Goals as goal

pub returns : goal.returns
returns c =
    let name = c.database_name-name.result.now in
    let totals = string_bytes c.in_ok-totals.totals in
    let end = codes "\u{1b}[K\n" in
    let line = line_text c.args.place c.args.tally.now in
    let wrote : IfOk c.format.result (λ text. string_bytes text ≡ name ++ totals ++ end) = simp append_assoc c.format.ensures.ok in
    let both : name ++ totals ++ end ≡ line =
    ap (λ (n : List ℕ). n ++ totals ++ end) c.database_name-name.ensures ∙ ap (λ (t : List ℕ). database_name c.args.place ++ t ++ end) c.in_ok-totals.ensures in
    IfOk-weaker c.format.result _ (λ text. string_bytes text ≡ line) (λ text is. is ∙ both) wrote
